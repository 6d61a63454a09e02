-- The overlap of two reads that rise, from the one place where the second read's first number stands in the first: a law for each answer of the code.
use Rattle.std.proofs.Common.{ℕ, zero, suc, ◌+◌, ◌-◌, ◌≤◌, ◌<◌, min, ◌≡◌, refl, sym, ap, subst, subst₂, ◌∙◌, List, ◌++◌, Bool, true, false, cond, T, eqb, ◌⊎◌, inl, inr, length, get_or, drop, slice_range, arith, add-zero, eq-or-lt_of_le, length-append, length-drop, get_or-append-add}
use Rattle.std.proofs.Math.Decide.{dec_lt}
use Rattle.std.proofs.Math.ListN.{get_or-append}
use Rattle.std.proofs.Math.Seq.{drop-append_seam}
use Rattle.std.proofs.lemmas.List.{take_rest}
use Rattle.std.specs.List.{starts_with}
use Rattle.mathematics.specs.Lists.{begins}
use Rattle.mathematics.specs.Prepare.{overlap_up_to, overlap}
use Rattle.mathematics.proofs.Parts.{begins_append}
use Rattle.mathematics.proofs.Overlap.{overlap_meets}
use Rattle.reads.specs.ReadTable.{Climbs, ReadHolds, Place}
use Rattle.reads.proofs.TableLaws.{climbs_at, climbs_to, climbs_last, starts_begins, begins_else}

-- a number stands at one place of a list that climbs
one_place : (a : List ℕ) (v p k : ℕ) → Climbs a → Place a v p → k < length a → get_or a k 0 ≡ v → p ≡ k
one_place a v p k c g l e =
    elim (dec_lt p k) [
      | yes h ↦ absurd (omega (arith, g.at (omega arith), climbs_at a c p k h l))
      | no h ↦ elim (dec_lt k p) [ yes m ↦ absurd (omega (arith, g.before k m)) | no m ↦ omega arith ]
    ]

place_after : (a : List ℕ) (v p : ℕ) → Place a v p → 1 ≤ length a → get_or a 0 0 < v → 1 ≤ p
place_after a v zero g s h = absurd (omega (arith, g.at s))
place_after a v (suc p) g s h = omega arith

place_inside : (a : List ℕ) (v p : ℕ) → Place a v p → 1 ≤ length a → v ≤ get_or a (length a - 1) 0 → p < length a
place_inside a v p g s h =
    elim (dec_lt p (length a)) [ yes l ↦ l | no l ↦ absurd (omega (arith, g.before (length a - 1) (omega arith))) ]

pick_bound : (t : Bool) (k n : ℕ) → n ≤ k → cond t (suc k) n ≤ suc k
pick_bound true k n l = omega arith
pick_bound false k n l = omega arith

up_to_bound : (k : ℕ) (a b : List ℕ) → overlap_up_to k a b ≤ k
up_to_bound zero a b = omega arith
up_to_bound (suc k) a b = pick_bound (begins (drop (length a - suc k) a) b) k (overlap_up_to k a b) (up_to_bound k a b)

-- "a proper suffix", "a proper prefix"
overlap_proper : (a b : List ℕ) → overlap a b ≤ min (length a) (length b) - 1
unfolding overlap
overlap_proper a b = up_to_bound (min (length a) (length b) - 1) a b

-- what two reads that overlap have in common
record Common (a b : List ℕ) : Type 0 where
  from : ℕ
  first : get_or a from 0 ≡ get_or b 0 0
  last : get_or a (length a - 1) 0 ≡ get_or b (overlap a b - 1) 0
  size : from + overlap a b ≡ length a
  less : overlap a b < length b
  some : 1 ≤ from
  run : T (begins (drop from a) b)

common : (a b : List ℕ) → 1 ≤ overlap a b → Common a b
common a b l =
    let m = overlap_meets a b l in
    let la : length a ≡ length m.x + length m.o = ap length m.ends ∙ length-append m.x m.o in
    let lb : length b ≡ length m.o + length m.y = ap length m.begin ∙ length-append m.o m.y in
    let here : (k : ℕ) → k < length m.o → get_or a (length m.x + k) 0 ≡ get_or b k 0 =
    λ k h. ap (λ (q : List ℕ). get_or q (length m.x + k) 0) m.ends ∙ (get_or-append-add m.x m.o k 0 ∙ (sym (get_or-append m.o m.y 0 k h) ∙ ap (λ (q : List ℕ). get_or q k 0) (sym m.begin)))
    in
    let end : length m.x + (overlap a b - 1) ≡ length a - 1 = omega (arith, la, m.size) in
    record {
      from = length m.x;
      first = ap (λ (k : ℕ). get_or a k 0) (sym (add-zero (length m.x))) ∙ here 0 (omega (arith, m.size));
      last = ap (λ (k : ℕ). get_or a k 0) (sym end) ∙ here (overlap a b - 1) (omega (arith, m.size));
      size = omega (arith, la, m.size);
      less = omega (arith, overlap_proper a b);
      some = omega (arith, la, m.size, overlap_proper a b);
      run = subst₂ (λ (q r : List ℕ). T (begins (drop (length m.x) q) r)) (sym m.ends) (sym m.begin)
          (subst (λ (q : List ℕ). T (begins q (m.o ++ m.y))) (sym (drop-append_seam m.x m.o)) (begins_append m.o m.y));
    }

pick_some : (t : Bool) (k n : ℕ) → (1 ≤ n) ⊎ T t → 1 ≤ cond t (suc k) n
pick_some true k n h = omega arith
pick_some false k n (inl h) = h
pick_some false k n (inr h) = absurd h

-- an end of a that begins b shows that there is an overlap
up_to_some : (k n : ℕ) (a b : List ℕ) → 1 ≤ n → n ≤ k → T (begins (drop (length a - n) a) b) → 1 ≤ overlap_up_to k a b
up_to_some zero n a b l m t = absurd (omega arith)
up_to_some (suc k) n a b l m t =
    pick_some (begins (drop (length a - suc k) a) b) k (overlap_up_to k a b)
    (elim (eq-or-lt_of_le m) [ inl e ↦ inr (subst (λ (i : ℕ). T (begins (drop (length a - i) a) b)) e t) | inr h ↦ inl (up_to_some k n a b l (omega arith) t) ])

overlap_some : (a b : List ℕ) (p : ℕ) → 1 ≤ p → length a < length b + p → p < length a → T (begins (drop p a) b) → 1 ≤ overlap a b
unfolding overlap
overlap_some a b p s h q t =
    let back : p ≡ length a - (length a - p) = omega arith in
    up_to_some (min (length a) (length b) - 1) (length a - p) a b (omega arith) (omega arith)
    (subst (λ (i : ℕ). T (begins (drop i a) b)) back t)

none : (n : ℕ) → (1 ≤ n → ⊥) → 0 ≡ n
none zero f = refl
none (suc n) f = absurd (f (omega arith))

module _ (a b : List ℕ) (ca : Climbs a) (cb : Climbs b) (sa : 1 ≤ length a) (sb : 1 ≤ length b) where
  overlap_first : get_or b 0 0 ≤ get_or a 0 0 → 0 ≡ overlap a b
  overlap_first h =
      none (overlap a b)
      (λ l. let m = common a b l in omega (arith, m.first, climbs_at a ca 0 m.from m.some (omega (arith, m.size))))

  overlap_beyond : get_or a (length a - 1) 0 < get_or b 0 0 → 0 ≡ overlap a b
  overlap_beyond h =
      none (overlap a b)
      (λ l. let m = common a b l in omega (arith, m.first, climbs_last a ca m.from (omega (arith, m.size))))

  overlap_inside : get_or b (length b - 1) 0 ≤ get_or a (length a - 1) 0 → 0 ≡ overlap a b
  overlap_inside h =
      none (overlap a b)
      (λ l. let m = common a b l in omega (arith, m.last, climbs_at b cb (overlap a b - 1) (length b - 1) (omega (arith, m.less)) (omega arith)))

  -- an overlap longer than floor begins at the place below or before it
  overlap_under : (floor : ℕ) → floor < length a → get_or a (length a - 1 - floor) 0 < get_or b 0 0 → overlap a b ≤ floor
  overlap_under floor l h =
      elim (dec_lt floor (overlap a b)) [
        | yes k ↦
            let m = common a b (omega arith) in
            absurd (omega (arith, m.first, climbs_to a ca m.from (length a - 1 - floor) (omega (arith, m.size)) (omega arith)))
        | no k ↦ omega arith
      ]

  module _ (p : ℕ) (g : Place a (get_or b 0 0) p) where
    at_place : (m : Common a b) → 1 ≤ overlap a b → p ≡ m.from
    at_place m l = one_place a (get_or b 0 0) p m.from ca g (omega (arith, m.size)) m.first

    overlap_long : length b + p ≤ length a → 0 ≡ overlap a b
    overlap_long h =
        none (overlap a b)
        (λ l. let m = common a b l in omega (arith, at_place m l, m.size, m.less))

    overlap_none : begins (drop p a) b ≡ false → 0 ≡ overlap a b
    overlap_none e =
        none (overlap a b)
        (λ l. let m = common a b l in subst T e (subst (λ (k : ℕ). T (begins (drop k a) b)) (sym (at_place m l)) m.run))

    overlap_found : 1 ≤ p → length a < length b + p → p < length a → T (begins (drop p a) b) → length a - p ≡ overlap a b
    overlap_found s h q t =
        let l : 1 ≤ overlap a b = overlap_some a b p s h q t in
        let m = common a b l in
        omega (arith, at_place m l, m.size)

module _ (a b : List ℕ) (ga : ReadHolds a) (gb : ReadHolds b) where
  -- where the number that far from the end is below the second read's first, the overlap is no longer than floor
  pub meets_under : (floor : ℕ) → floor < length a → get_or a (length a - 1 - floor) 0 < get_or b 0 0 → overlap a b ≤ floor
  meets_under = overlap_under a b ga.climbs gb.climbs ga.some gb.some

  -- an overlap is no longer than the first read
  pub meets_short : (floor : ℕ) → length a ≤ floor → overlap a b ≤ floor
  meets_short floor l =
      elim (dec_lt floor (overlap a b)) [ yes k ↦ absurd (omega (arith, (common a b (omega arith)).size)) | no k ↦ omega arith ]

  -- no overlap: the second read begins at or below the first read's first number
  pub meets_first : get_or b 0 0 ≤ get_or a 0 0 → 0 ≡ overlap a b
  meets_first = overlap_first a b ga.climbs gb.climbs ga.some gb.some

  -- no overlap: the second read begins above the first read's last number
  pub meets_beyond : get_or a (length a - 1) 0 < get_or b 0 0 → 0 ≡ overlap a b
  meets_beyond = overlap_beyond a b ga.climbs gb.climbs ga.some gb.some

  -- no overlap: the second read does not reach beyond the first
  pub meets_inside : get_or b (length b - 1) 0 ≤ get_or a (length a - 1) 0 → 0 ≡ overlap a b
  meets_inside = overlap_inside a b ga.climbs gb.climbs ga.some gb.some

  module _ (p : ℕ) (g : Place a (get_or b 0 0) p) where
    end_length : length (slice_range a p (length a)) ≡ length a - p
    end_length = ap length (take_rest a p) ∙ length-drop p a

    end_begins : starts_with eqb b (slice_range a p (length a)) ≡ begins (drop p a) b
    end_begins = starts_begins b (slice_range a p (length a)) ∙ ap (λ (r : List ℕ). begins r b) (take_rest a p)

    -- no overlap: the second read would end inside the first
    pub meets_long : length b ≤ length (slice_range a p (length a)) → 0 ≡ overlap a b
    meets_long l = overlap_long a b ga.climbs gb.climbs ga.some gb.some p g (omega (arith, end_length, g.within, gb.some))

    -- no overlap: the second read's first number is not in the first read
    pub meets_else : get_or b 0 0 ≤ get_or a (length a - 1) 0 → (get_or (slice_range a p (length a)) 0 0 ≡ get_or b 0 0 → ⊥) → 0 ≡ overlap a b
    meets_else l n =
        overlap_none a b ga.climbs gb.climbs ga.some gb.some p g
        (begins_else (drop p a) b (omega (arith, length-drop p a, place_inside a (get_or b 0 0) p g ga.some l)) gb.some
        (λ e. n (ap (λ (r : List ℕ). get_or r 0 0) (take_rest a p) ∙ e)))

    -- no overlap: the second read does not begin with the end of the first
    pub meets_none : starts_with eqb b (slice_range a p (length a)) ≡ false → 0 ≡ overlap a b
    meets_none n = overlap_none a b ga.climbs gb.climbs ga.some gb.some p g (sym end_begins ∙ n)

    -- the overlap is what the first read has from that place on
    pub meets_found : get_or a 0 0 < get_or b 0 0 → get_or b 0 0 ≤ get_or a (length a - 1) 0 → length (slice_range a p (length a)) < length b →
        starts_with eqb b (slice_range a p (length a)) ≡ true → length (slice_range a p (length a)) ≡ overlap a b
    meets_found f l h t =
        end_length
        ∙ overlap_found a b ga.climbs gb.climbs ga.some gb.some p g
        (place_after a (get_or b 0 0) p g ga.some f)
        (omega (arith, end_length, g.within))
        (place_inside a (get_or b 0 0) p g ga.some l)
        (subst T (sym (sym end_begins ∙ t)) tt)
