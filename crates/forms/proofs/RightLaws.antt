-- What a fault of 0 says of a record, of a row of records and of a header: it is right.
use Prim.Native.Nat.{ℕ, zero, suc, ◌+◌, ◌-◌, ◌<◌, ◌≤◌}
use native.Mathlib.Omega.{arith}
use native.Mathlib.Decide.{dec_le}
use mathlib.Core.Path.{◌≡◌, refl, sym, ap, ap₂, subst, ◌∙◌}
use mathlib.Core.List.{List, [], ◌∷◌}
use mathlib.Core.Bool.{Bool, true, false, cond, ◌&&◌, ◌||◌}
use mathlib.Core.Logic.{◌⊎◌, inl, inr, ⊎_elim}
use lib.Dec.{T, ltb, eqb}
use borrow.Author.Tests.{ltb-true, ltb-false, eqb-true, eqb-false, not-false, eq-eqb, ne_eqb, lt-ltb}
use Rattle.mathematics.specs.Lists.{All}
use Rattle.forms.specs.declared.Verdict.{Verdict}
use Rattle.forms.specs.Layout.{version, max_vertices, max_arcs, max_reads, max_read_length}
use Rattle.forms.specs.GraphForm.{vertex_count, arc_count, read_count, arc_at, arc_tail, arc_head, read_length, read_vertices}
use Rattle.forms.specs.GraphFaults.{refusal, nothing_refused, header_verdict, first_fault, vertex_fault, follows, ascends, arc_fault, arcs_verdict, all_below, walks, read_fault}
use Rattle.forms.specs.GraphReads.{HeaderRight, VertexRight, ArcRight, Before, ReadRight, ArcsRight}
use Rattle.forms.proofs.LayoutLaws.{vertices_room, arcs_room, reads_room, read_length_room}

no_fault : (t : Bool) (k x : ℕ) → cond t (suc k) x ≡ 0 → (t ≡ false) × (x ≡ 0)
no_fault true k x e = absurd (omega arith)
no_fault false k x e = (refl, e)

no_refusal : (t : Bool) (k at : ℕ) (x : Verdict) → (cond t (refusal (suc k) at) x).number ≡ 0 → (t ≡ false) × (x.number ≡ 0)
no_refusal true k at x e = absurd (omega arith)
no_refusal false k at x e = (refl, e)

passes : (t : Bool) (k : ℕ) → cond t 0 (suc k) ≡ 0 → t ≡ true
passes true k e = refl
passes false k e = absurd (omega arith)

neither : (a b : Bool) → (a || b) ≡ false → (a ≡ false) × (b ≡ false)
neither true b e = absurd (subst T e tt)
neither false b e = (refl, e)

pub both : (a b : Bool) → (a && b) ≡ true → (a ≡ true) × (b ≡ true)
both true b e = (refl, e)
both false b e = absurd (subst T (sym e) tt)

not_none : (n : ℕ) → eqb n 0 ≡ false → 1 ≤ n
not_none n e = omega (arith, eqb-false n 0 e)

pub header_holds : (s : List ℕ) → (header_verdict s).number ≡ 0 → HeaderRight s
unfolding header_verdict
header_holds s e =
    let a = no_refusal _ 0 0 _ e in
    let b = no_refusal _ 1 _ _ a.1 in
    let c = no_refusal _ 2 _ _ b.1 in
    let d = no_refusal _ 2 _ _ c.1 in
    let f = no_refusal _ 2 _ _ d.1 in
    let g = no_refusal _ 3 _ _ f.1 in
    let long = neither _ _ a.0 in
    let known = neither _ _ b.0 in
    let some = neither _ _ c.0 in
    record {
      long = ltb-false _ _ long.0;
      counted = eqb-true _ _ (not-false _ long.1);
      known_version = (not_none (version s) known.0, ltb-false _ _ known.1);
      some_vertex = not_none (vertex_count s) some.0;
      few_vertices = ltb-false _ _ some.1;
      few_arcs = ltb-false _ _ d.0;
      few_reads = ltb-false _ _ f.0;
      low_opening = ltb-false _ _ g.0;
      vertices_room = omega (arith, ltb-false (max_vertices s) (vertex_count s) some.1, vertices_room s);
      arcs_room = omega (arith, ltb-false (max_arcs s) (arc_count s) d.0, arcs_room s);
      reads_room = omega (arith, ltb-false (max_reads s) (read_count s) f.0, reads_room s);
    }

pub vertex_holds : (s : List ℕ) (v : ℕ) → vertex_fault s v ≡ 0 → VertexRight s v
unfolding vertex_fault
vertex_holds s v e =
    let a = no_fault _ 4 _ e in
    let b = no_fault _ 3 _ a.1 in
    let c = neither _ _ b.0 in
    record { whole = ltb-false _ _ a.0; a_flag = ltb-false _ _ c.0; low_demand = ltb-false _ _ c.1 }

pub arc_holds : (s : List ℕ) (at : ℕ) → arc_fault s at ≡ 0 → ArcRight s at × (ascends s at ≡ true)
unfolding arc_fault
arc_holds s at e =
    let a = no_fault _ 4 _ e in
    let b = no_fault _ 3 _ a.1 in
    let c = neither _ _ b.0 in
    let d = both _ _ (passes _ 5 b.1) in
    let f = both _ _ d.1 in (
      record {
        whole = ltb-false _ _ a.0;
        low_cost = ltb-false _ _ c.0;
        low_demand = ltb-false _ _ c.1;
        rises = ltb-true _ _ d.0;
        inside = ltb-true _ _ f.0;
      },
      f.1,
    )

either : (a b : Bool) → (a || b) ≡ true → (a ≡ true) ⊎ (b ≡ true)
either true b e = inl refl
either false b e = inr e

follows_before : (s : List ℕ) (a b : ℕ) → follows s a b ≡ true → Before s a b
follows_before s a b e =
    ⊎_elim (λ h. inl (ltb-true _ _ h)) (λ h. let p = both (eqb (arc_tail s a) (arc_tail s b)) (ltb (arc_head s a) (arc_head s b)) h in inr (eqb-true _ _ p.0, ltb-true _ _ p.1)) (either _ _ e)

pub before_follows : (s : List ℕ) (a b : ℕ) → Before s a b → follows s a b ≡ true
before_follows s a b (inl h) = simp (lt-ltb (arc_tail s a) (arc_tail s b) h)
before_follows s a b (inr h) =
    ap (λ t. ltb (arc_tail s a) (arc_tail s b) || t) (ap₂ (λ x y. x && y) (eq-eqb _ _ h.0) (lt-ltb _ _ h.1)) ∙ or_true (ltb (arc_tail s a) (arc_tail s b))
  where
    or_true : (x : Bool) → (x || true) ≡ true
    or_true true = refl
    or_true false = refl

-- an arc that is not the first follows the one before it
pub next_follows : (s : List ℕ) (a : ℕ) → ascends s (arc_at s (suc a)) ≡ follows s (arc_at s a) (arc_at s (suc a))
next_follows s a =
    let before : arc_at s (suc a) - 10 ≡ arc_at s a = omega arith in
    let later : eqb (arc_at s (suc a)) (arc_at s 0) ≡ false = ne_eqb (arc_at s (suc a)) (arc_at s 0) (λ q. omega arith) in
    ap (λ b. b || follows s (arc_at s (suc a) - 10) (arc_at s (suc a))) later ∙ ap (λ k. follows s k (arc_at s (suc a))) before

pub below_all : (n : ℕ) (vs : List ℕ) → all_below n vs ≡ true → All (λ v. v < n) vs
below_all n [] e = tt
below_all n (v ∷ vs) e = let p = both (ltb v n) (all_below n vs) e in (ltb-true v n p.0, below_all n vs p.1)

pub all_below_lem : (n : ℕ) (vs : List ℕ) → All (λ v. v < n) vs → all_below n vs ≡ true
all_below_lem n [] h = refl
all_below_lem n (v ∷ vs) h = simp (lt-ltb v n h.0) (all_below_lem n vs h.1)

pub read_holds : (s : List ℕ) (at : ℕ) → read_fault s at ≡ 0 → ReadRight s at
unfolding read_fault walks
read_holds s at e =
    let a = no_fault _ 4 _ e in
    let b = no_fault _ 6 _ a.1 in
    let c = no_fault _ 4 _ b.1 in
    let d = neither _ _ b.0 in
    let f = both _ _ (passes _ 6 c.1) in
    record {
      begins = ltb-false _ _ a.0;
      not_short = ltb-false _ _ d.0;
      not_long = ltb-false _ _ d.1;
      room = omega (arith, ltb-false (max_read_length s) (read_length s at) d.1, read_length_room s);
      whole = ltb-false _ _ c.0;
      inside = below_all (vertex_count s) (read_vertices s at) f.0;
      arcs = subst T (sym f.1) tt;
    }

module _ (fault place : ℕ → ℕ) where
  first_right : (b : Bool) (i : ℕ) (rest : Verdict) → eqb (fault i) 0 ≡ b → (cond b rest (refusal (fault i) (place i))).number ≡ 0 → (fault i ≡ 0) × (rest.number ≡ 0)
  first_right true i rest t e = (eqb-true _ _ t, e)
  first_right false i rest t e = absurd (eqb-false _ _ t e)

  -- no refusal: each record is right
  pub each_right : (n i : ℕ) → (first_fault fault place n i).number ≡ 0 → (k : ℕ) → i ≤ k → k < i + n → fault k ≡ 0
  unfolding first_fault
  each_right zero i e k a b = absurd (omega arith)
  each_right (suc n) i e k a b =
      let h = first_right _ i (first_fault fault place n (suc i)) refl e in
      elim (dec_le (suc i) k) [
        | yes l ↦ each_right n (suc i) h.1 k l (omega arith)
        | no l ↦ let same : i ≡ k = omega arith in subst (λ j. fault j ≡ 0) same h.0
      ]

  -- each record is right: no refusal
  pub all_right : (n i : ℕ) → ((k : ℕ) → i ≤ k → k < i + n → fault k ≡ 0) → nothing_refused ≡ first_fault fault place n i
  unfolding first_fault
  all_right zero i right = refl
  all_right (suc n) i right =
      simp (eq-eqb (fault i) 0 (right i (omega arith) (omega arith))) (all_right n (suc i) (λ k a b. right k (omega arith) (omega arith)))

-- a right header and no refused arc: the arcs are right
pub arcs_hold : (s : List ℕ) → HeaderRight s → (arcs_verdict s).number ≡ 0 → ArcsRight s
arcs_hold s header e =
    record {
      header = header;
      each = λ a h. (arc_holds s (arc_at s a) (right a h)).0;
      ascending = λ a h. follows_before s _ _ (sym (next_follows s a) ∙ (arc_holds s (arc_at s (suc a)) (right (suc a) h)).1);
    }
  where
    right : (a : ℕ) → a < arc_count s → arc_fault s (arc_at s a) ≡ 0
    right a h = each_right (λ k. arc_fault s (arc_at s k)) (arc_at s) (arc_count s) 0 e a (omega arith) (omega arith)
