-- One join of document 01, "Replace both by the joined read", as lists: x ++ o and o ++ y are taken out and x ++ (o ++ y) is put in. Still no
-- read stands in another (L7), each old read stands in a new one, and joining ends with no overlap left.
use Prim.Native.Nat.{ℕ, zero, suc, ◌≤◌, ◌<◌, min, max}
use native.Mathlib.Omega.{arith}
use native.Mathlib.Decide.{dec_lt}
use mathlib.Core.Path.{◌≡◌, refl, sym, ap, subst, subst₃, ◌∙◌}
use mathlib.Core.List.{List, [], ◌∷◌, ◌++◌, append-nil, append_assoc}
use mathlib.Core.Bool.{Bool, true, false, cond}
use mathlib.Core.Logic.{inl, inr}
use lib.Dec.{T, eqb, eqb→eq, eqb_refl}
use lib.ListN.{length, get_or, set, drop}
use Rattle.mathematics.specs.Lists.{All, Pairwise}
use Rattle.mathematics.specs.Prepare.{Meeting, longest, without, join_at, join_while}
use Rattle.mathematics.proofs.Basics.{all_from, all_among}
use Rattle.mathematics.proofs.Parts.{Within, Held, within_self, within_trans, held_trans, Parts, parts}
use Rattle.mathematics.proofs.Overlap.{Clear, clear_swap, overlap_meets, drop_length, none_across_left}
use Rattle.mathematics.proofs.Taken.{Taken, here, there, taken_all, put_all, taken_length, taken_swap, taken_pairwise, put_pairwise}
use Rattle.mathematics.proofs.Longest.{AtMost, longest_most, Meets, longest_meets}

module _ {A : Type 0} where
  taken_without : (k : ℕ) (xs : List A) (d : A) → k < length xs → Taken (get_or xs k d) xs (without k xs)
  taken_without k [] d l = absurd (omega arith)
  taken_without zero (x ∷ xs) d l = here
  taken_without (suc k) (x ∷ xs) d l = there (taken_without k xs d (omega arith))

  taken_set : (k : ℕ) (xs : List A) (z : A) → k < length xs → Taken z (set xs k z) (without k xs)
  taken_set k [] z l = absurd (omega arith)
  taken_set zero (x ∷ xs) z l = here
  taken_set (suc k) (x ∷ xs) z l = there (taken_set k xs z (omega arith))

  without_set : (lo hi : ℕ) (xs : List A) (z : A) → lo < hi → without hi (set xs lo z) ≡ set (without hi xs) lo z
  without_set lo hi [] z l = refl
  without_set lo zero (x ∷ xs) z l = absurd (omega arith)
  without_set zero (suc hi) (x ∷ xs) z l = refl
  without_set (suc lo) (suc hi) (x ∷ xs) z l = ap {B = List A} (λ r. x ∷ r) (without_set lo hi xs z (omega arith))

  get_or_without : (lo hi : ℕ) (xs : List A) (d : A) → lo < hi → get_or (without hi xs) lo d ≡ get_or xs lo d
  get_or_without lo hi [] d l = refl
  get_or_without lo zero (x ∷ xs) d l = absurd (omega arith)
  get_or_without zero (suc hi) (x ∷ xs) d l = refl
  get_or_without (suc lo) (suc hi) (x ∷ xs) d l = get_or_without lo hi xs d (omega arith)

-- a and b are taken out of rs, and z is put in: rs'
pub record Replaced (a b z : List ℕ) (rs rs' : List (List ℕ)) : Type 0 where
  pub mid : List (List ℕ)
  pub others : List (List ℕ)
  pub first : Taken a rs mid
  pub second : Taken b mid others
  pub made : Taken z rs' others

replaced_swap : (a b z : List ℕ) (rs rs' : List (List ℕ)) → Replaced a b z rs rs' → Replaced b a z rs rs'
replaced_swap a b z rs rs' r =
    let (mid, f, s) = taken_swap r.first r.second in
    record { mid = mid; others = r.others; first = f; second = s; made = r.made }

replaced_at : (lo hi : ℕ) (rs : List (List ℕ)) (z : List ℕ) → lo < hi → hi < length rs →
    Replaced (get_or rs hi []) (get_or rs lo []) z rs (without hi (set rs lo z))
replaced_at lo hi rs z l h =
    let at-hi = taken_without hi rs [] h in
    let lo-below : lo < length (without hi rs) = omega (arith, taken_length at-hi) in
    record {
      mid = without hi rs;
      others = without lo (without hi rs);
      first = at-hi;
      second = rw (get_or_without lo hi rs [] l) at (taken_without lo (without hi rs) [] lo-below);
      made = rw (without_set lo hi rs z l) (taken_set lo (without hi rs) z lo-below);
    }

replaced_order : (i j lo hi : ℕ) (rs : List (List ℕ)) (z : List ℕ) → max i j ≡ hi → min i j ≡ lo →
    Replaced (get_or rs i []) (get_or rs j []) z rs (without hi (set rs lo z)) →
    Replaced (get_or rs i []) (get_or rs j []) z rs (without (max i j) (set rs (min i j) z))
replaced_order i j lo hi rs z e f r = rw (e, f) r

replaced_places : (i j : ℕ) (rs : List (List ℕ)) (z : List ℕ) → i < length rs → j < length rs → (i ≡ j → ⊥) →
    Replaced (get_or rs i []) (get_or rs j []) z rs (without (max i j) (set rs (min i j) z))
replaced_places i j rs z k l n =
    elim (dec_lt i j) [
      | yes h ↦ replaced_order i j i j rs z (omega arith) (omega arith)
          (replaced_swap (get_or rs j []) (get_or rs i []) z rs (without j (set rs i z)) (replaced_at i j rs z h l))
      | no h ↦ replaced_order i j j i rs z (omega arith) (omega arith) (replaced_at j i rs z (omega arith) k)
    ]

-- rs' is rs with two reads joined that overlap the most
pub record Join (rs rs' : List (List ℕ)) : Type 0 where
  pub x : List ℕ
  pub o : List ℕ
  pub y : List ℕ
  pub some_o : 1 ≤ length o
  pub most : Pairwise (AtMost (length o)) rs
  pub replaced : Replaced (x ++ o) (o ++ y) (x ++ (o ++ y)) rs rs'

joined_read : (a b x o y : List ℕ) (k : ℕ) → a ≡ x ++ o → b ≡ o ++ y → k ≡ length o → a ++ drop k b ≡ x ++ (o ++ y)
joined_read a b x o y k e f g = rw (e, f, g, drop_length) (append_assoc x o y)

join_at_lem : (m : Meeting) (rs : List (List ℕ)) → Meets rs m → 1 ≤ m.shared → Pairwise (AtMost m.shared) rs → Join rs (join_at m rs)
unfolding join_at
join_at_lem m rs h p most =
    let a : List ℕ = get_or rs m.i [] in
    let b : List ℕ = get_or rs m.j [] in
    let met = overlap_meets a b (omega (arith, h.size)) in
    let size : m.shared ≡ length met.o = h.size ∙ sym met.size in
    record {
      x = met.x;
      o = met.o;
      y = met.y;
      some_o = omega arith;
      most = subst (λ (n : ℕ). Pairwise (AtMost n) rs) size most;
      replaced = subst₃ (λ (a b z : List ℕ). Replaced a b z rs (join_at m rs)) met.ends met.begin
          (joined_read a b met.x met.o met.y m.shared met.ends met.begin size)
          (replaced_places m.i m.j rs (a ++ drop m.shared b) h.i_below h.j_below h.differ);
    }

-- where a pair overlaps, a turn joins two reads
pub join : (rs : List (List ℕ)) → ((longest rs).shared ≡ 0 → ⊥) → Join rs (join_at (longest rs) rs)
join rs n =
    elim (longest_meets rs) [
      | inl e ↦ absurd (n e)
      | inr h ↦ join_at_lem (longest rs) rs h (omega arith) (longest_most rs)
    ]

module _ (rs rs' : List (List ℕ)) (j : Join rs rs') where
  -- the two that were joined, and the others, in the old list and in the new one
  abbrev pub left : List ℕ
  left = j.x ++ j.o

  abbrev pub right : List ℕ
  right = j.o ++ j.y

  abbrev pub whole : List ℕ
  whole = j.x ++ (j.o ++ j.y)

  pub join_fewer : length rs ≡ suc (length rs')
  join_fewer =
      taken_length j.replaced.first ∙ ap suc (taken_length j.replaced.second ∙ sym (taken_length j.replaced.made))

  -- what holds of all and of the joined read holds of the new ones
  pub join_all : (P : List ℕ → Type 0) → (P left → P right → P whole) → All P rs → All P rs'
  join_all P f h =
      let (p, more) = taken_all P j.replaced.first h in
      let (q, others) = taken_all P j.replaced.second more in
      put_all P j.replaced.made (f p q) others

  -- what any two of the old ones have: the joined two, and both of them with each other one
  pub join_old : (R : List ℕ → List ℕ → Type 0) → ((a b : List ℕ) → R a b → R b a) → Pairwise R rs →
      R left right × All (R left) j.replaced.others × All (R right) j.replaced.others × Pairwise R j.replaced.others
  join_old R swap h =
      let (a, more) = taken_pairwise R swap j.replaced.first h in
      let (b, others) = taken_pairwise R swap j.replaced.second more in
      let (ab, c) = taken_all (R left) j.replaced.second a in
      (ab, c, b, others)

  whole_left : Within left whole
  whole_left = ([], j.y, sym (append_assoc j.x j.o j.y))

  whole_right : Within right whole
  whole_right = (j.x, [], ap (λ (q : List ℕ). j.x ++ q) (sym (append-nil right)))

  -- L7: a read that stands in neither of the two does not stand in the joined one, and the joined one does not stand in it
  whole_clear : (k : List ℕ) → Clear left k → Clear right k → AtMost (length j.o) left k → Clear whole k
  whole_clear k l r most = (λ w. l.0 (within_trans left whole k whole_left w), λ w. go (parts k j.x j.o j.y w.0 w.1 w.2))
    where
      go : Parts k j.x j.o j.y → ⊥
      go (inl w) = l.1 w
      go (inr (inl w)) = r.1 w
      go (inr (inr (before, after, u, w, e, f, g, p, q))) = none_across_left j.x j.o k [] u before after f p e l most.0

  -- after the join, too, no read stands in another
  pub join_clear : Pairwise Clear rs → Pairwise Clear rs'
  join_clear h =
      let (lr, ls, rs₁, others) = join_old Clear clear_swap h in
      let (lr', most, rm, om) = join_old (AtMost (length j.o)) (λ a b m. (m.1, m.0)) j.most in
      put_pairwise Clear clear_swap j.replaced.made
      (all_from (Clear whole) j.replaced.others (λ k m. whole_clear k
      (all_among (Clear left) j.replaced.others k ls m)
      (all_among (Clear right) j.replaced.others k rs₁ m)
      (all_among (AtMost (length j.o) left) j.replaced.others k most m)))
      others

  -- each old read stands in a new one
  pub join_held : All (Held rs') rs
  join_held =
      let new = taken_all (Held rs') j.replaced.made (all_from (Held rs') rs' (λ k m. (k, m, within_self k))) in
      put_all (Held rs') j.replaced.first (held_trans rs' left whole whole_left new.0)
      (put_all (Held rs') j.replaced.second (held_trans rs' right whole whole_right new.0) new.1)

pick_while : (Q : List (List ℕ) → Type 0) (t : Bool) (rs joined : List (List ℕ)) → (T t → Q rs) → ((T t → ⊥) → Q joined) → Q (cond t rs joined)
pick_while Q true rs joined h f = h tt
pick_while Q false rs joined h f = f (λ n. n)

none_longest : (rs : List (List ℕ)) → (T (eqb (longest rs).shared 0) → ⊥) → (longest rs).shared ≡ 0 → ⊥
none_longest rs n e = n (subst (λ (k : ℕ). T (eqb k 0)) (sym e) (eqb_refl 0))

-- what holds of the reads and stays with each join holds at the end
pub while_keeps : (Q : List (List ℕ) → Type 0) → ((rs rs' : List (List ℕ)) → Join rs rs' → Q rs → Q rs') → (turns : ℕ) (rs : List (List ℕ)) →
    Q rs → Q (join_while turns rs)
while_keeps Q step zero rs h = h
while_keeps Q step (suc turns) rs h =
    pick_while Q (eqb (longest rs).shared 0) rs (join_while turns (join_at (longest rs) rs))
    (λ t. h)
    (λ n. while_keeps Q step turns (join_at (longest rs) rs) (step rs (join_at (longest rs) rs) (join rs (none_longest rs n)) h))

-- "While": as many turns as there are reads leave no overlap
pub while_ends : (turns : ℕ) (rs : List (List ℕ)) → length rs ≤ turns → Pairwise (AtMost 0) (join_while turns rs)
while_ends zero [] l = tt
while_ends zero (r ∷ rs) l = absurd (omega arith)
while_ends (suc turns) rs l =
    pick_while (Pairwise (AtMost 0)) (eqb (longest rs).shared 0) rs (join_while turns (join_at (longest rs) rs))
    (λ t. subst (λ (n : ℕ). Pairwise (AtMost n) rs) (eqb→eq (longest rs).shared 0 t) (longest_most rs))
    (λ n. while_ends turns (join_at (longest rs) rs) (omega (arith, join_fewer rs (join_at (longest rs) rs) (join rs (none_longest rs n)))))
