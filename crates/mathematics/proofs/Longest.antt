-- What `longest` finds: no pair of reads overlaps by more, and where anything is shared it names two reads that overlap by so much.
use Prim.Native.Nat.{ℕ, zero, suc, ◌+◌, ◌≤◌, ◌<◌}
use native.Mathlib.Omega.{arith}
use native.Mathlib.Nat.{zero-add, add-zero, add-suc, suc-add}
use mathlib.Core.Path.{◌≡◌, refl, sym, ap, ap₂, subst, ◌∙◌}
use mathlib.Core.List.{List, [], ◌∷◌}
use mathlib.Core.Bool.{Bool, true, false, cond}
use mathlib.Core.Logic.{◌⊎◌, inl, inr}
use lib.Dec.{T, ltb, eqb, ltb→lt, nltb→le, not_T, eqb→eq, eqb_refl}
use lib.ListN.{length, get_or}
use Rattle.mathematics.specs.Lists.{All, Pairwise}
use Rattle.mathematics.specs.Prepare.{overlap, Meeting, longer, longest_with, longest_from, longest}

abbrev meeting : ℕ → List ℕ → ℕ → List ℕ → Meeting
meeting i a j b = record { shared = overlap a b; i = i; j = j }

-- the best so far, after the pair of places i and j was looked at
abbrev next : ℕ → List ℕ → ℕ → List ℕ → Meeting → Meeting
next i a j b best = cond (eqb i j) best (longer best (meeting i a j b))

pick_longer : (t : Bool) (p q : Meeting) → (T t → p.shared ≤ q.shared) → ((T t → ⊥) → q.shared ≤ p.shared) →
    (p.shared ≤ (cond t q p).shared) × (q.shared ≤ (cond t q p).shared)
pick_longer true p q f g = (f tt, omega arith)
pick_longer false p q f g = (omega arith, g (λ n. n))

longer_than : (p q : Meeting) → (p.shared ≤ (longer p q).shared) × (q.shared ≤ (longer p q).shared)
longer_than p q =
    pick_longer (ltb p.shared q.shared) p q
    (λ t. omega (arith, ltb→lt p.shared q.shared t))
    (λ n. nltb→le p.shared q.shared (not_T (ltb p.shared q.shared) n))

pick_next : (t : Bool) (k : ℕ) (p q : Meeting) → k ≤ p.shared → ((T t → ⊥) → k ≤ q.shared) → k ≤ (cond t p q).shared
pick_next true k p q f g = f
pick_next false k p q f g = g (λ n. n)

next_keeps : (i : ℕ) (a : List ℕ) (j : ℕ) (b : List ℕ) (best : Meeting) → best.shared ≤ (next i a j b best).shared
next_keeps i a j b best = pick_next (eqb i j) best.shared best (longer best (meeting i a j b)) (omega arith) (λ n. (longer_than best (meeting i a j b)).0)

pick_other : (t : Bool) (k : ℕ) (p q : Meeting) → (T t → ⊥) → k ≤ q.shared → k ≤ (cond t p q).shared
pick_other true k p q n h = absurd (n tt)
pick_other false k p q n h = h

next_counts : (i : ℕ) (a : List ℕ) (j : ℕ) (b : List ℕ) (best : Meeting) → (i ≡ j → ⊥) → overlap a b ≤ (next i a j b best).shared
next_counts i a j b best n =
    pick_other (eqb i j) (overlap a b) best (longer best (meeting i a j b)) (λ t. n (eqb→eq i j t)) (longer_than best (meeting i a j b)).1

with_keeps : (i : ℕ) (a : List ℕ) (j : ℕ) (bs : List (List ℕ)) (best : Meeting) → best.shared ≤ (longest_with i a j bs best).shared
with_keeps i a j [] best = omega arith
with_keeps i a j (b ∷ bs) best =
    omega (arith, next_keeps i a j b best, with_keeps i a (suc j) bs (next i a j b best))

with_bounds : (i : ℕ) (a : List ℕ) (j : ℕ) (bs : List (List ℕ)) (best : Meeting) (t : ℕ) → t < length bs → (i ≡ j + t → ⊥) →
    overlap a (get_or bs t []) ≤ (longest_with i a j bs best).shared
with_bounds i a j [] best t l n = absurd (omega arith)
with_bounds i a j (b ∷ bs) best zero l n =
    omega (arith, next_counts i a j b best (omega arith), with_keeps i a (suc j) bs (next i a j b best))
with_bounds i a j (b ∷ bs) best (suc t) l n = with_bounds i a (suc j) bs (next i a j b best) t (omega arith) (omega arith)

from_keeps : (i : ℕ) (rs more : List (List ℕ)) (best : Meeting) → best.shared ≤ (longest_from i rs more best).shared
from_keeps i rs [] best = omega arith
from_keeps i rs (a ∷ more) best =
    omega (arith, with_keeps i a 0 rs best, from_keeps (suc i) rs more (longest_with i a 0 rs best))

from_bounds : (i : ℕ) (rs more : List (List ℕ)) (best : Meeting) (s j : ℕ) → s < length more → j < length rs → (i + s ≡ j → ⊥) →
    overlap (get_or more s []) (get_or rs j []) ≤ (longest_from i rs more best).shared
from_bounds i rs [] best s j l k n = absurd (omega arith)
from_bounds i rs (a ∷ more) best zero j l k n =
    omega (arith, with_bounds i a 0 rs best j k (omega arith), from_keeps (suc i) rs more (longest_with i a 0 rs best))
from_bounds i rs (a ∷ more) best (suc s) j l k n =
    from_bounds (suc i) rs more (longest_with i a 0 rs best) s j (omega arith) k (omega arith)

-- no two reads overlap by more than the longest
longest_bounds : (rs : List (List ℕ)) (i j : ℕ) → i < length rs → j < length rs → (i ≡ j → ⊥) →
    overlap (get_or rs i []) (get_or rs j []) ≤ (longest rs).shared
unfolding longest
longest_bounds rs i j k l n = from_bounds 0 rs rs (record { shared = 0; i = 0; j = 0 }) i j k l (omega arith)

-- the overlaps of two reads, either way, are at most n
abbrev pub AtMost : ℕ → List ℕ → List ℕ → Type 0
AtMost n r s = (overlap r s ≤ n) × (overlap s r ≤ n)

all_places : (P : List ℕ → Type 0) (rs : List (List ℕ)) → ((j : ℕ) → j < length rs → P (get_or rs j [])) → All P rs
all_places P [] f = tt
all_places P (r ∷ rs) f = (f 0 (omega arith), all_places P rs (λ j l. f (suc j) (omega arith)))

pairwise_places : (R : List ℕ → List ℕ → Type 0) (rs : List (List ℕ)) → ((i j : ℕ) → i < j → j < length rs → R (get_or rs i []) (get_or rs j [])) →
    Pairwise R rs
pairwise_places R [] f = tt
pairwise_places R (r ∷ rs) f =
    (all_places (R r) rs (λ j l. f 0 (suc j) (omega arith) (omega arith)), pairwise_places R rs (λ i j k l. f (suc i) (suc j) (omega arith) (omega arith)))

pub longest_most : (rs : List (List ℕ)) → Pairwise (AtMost (longest rs).shared) rs
longest_most rs =
    pairwise_places (AtMost (longest rs).shared) rs
    (λ i j k l. (longest_bounds rs i j (omega arith) l (omega arith), longest_bounds rs j i l (omega arith) (omega arith)))

-- m names two reads of rs, and its length is their overlap
pub record Meets (rs : List (List ℕ)) (m : Meeting) : Type 0 where
  pub i_below : m.i < length rs
  pub j_below : m.j < length rs
  pub differ : m.i ≡ m.j → ⊥
  pub size : m.shared ≡ overlap (get_or rs m.i []) (get_or rs m.j [])

abbrev Good : List (List ℕ) → Meeting → Type 0
Good rs m = (m.shared ≡ 0) ⊎ Meets rs m

-- bs are the reads of rs from place j on
abbrev From : List (List ℕ) → ℕ → List (List ℕ) → Type 0
From rs j bs = ((t : ℕ) → t < length bs → get_or bs t [] ≡ get_or rs (j + t) []) × (j + length bs ≡ length rs)

from_head : (rs : List (List ℕ)) (j : ℕ) (b : List ℕ) (bs : List (List ℕ)) → From rs j (b ∷ bs) → b ≡ get_or rs j []
from_head rs j b bs f = f.0 0 (omega arith) ∙ ap (λ (k : ℕ). get_or rs k []) (add-zero j)

from_tail : (rs : List (List ℕ)) (j : ℕ) (b : List ℕ) (bs : List (List ℕ)) → From rs j (b ∷ bs) → From rs (suc j) bs
from_tail rs j b bs f = (λ t l. f.0 (suc t) (omega arith) ∙ ap (λ (k : ℕ). get_or rs k []) (add-suc j t ∙ sym (suc-add j t)), omega (arith, f.1))

pick_good : (t : Bool) (rs : List (List ℕ)) (p q : Meeting) → Good rs p → ((T t → ⊥) → Good rs q) → Good rs (cond t p q)
pick_good true rs p q f g = f
pick_good false rs p q f g = g (λ n. n)

next_good : (rs : List (List ℕ)) (i j : ℕ) (a b : List ℕ) (best : Meeting) → a ≡ get_or rs i [] → b ≡ get_or rs j [] → i < length rs → j < length rs →
    Good rs best → Good rs (next i a j b best)
next_good rs i j a b best ea eb li lj h =
    pick_good (eqb i j) rs best (longer best (meeting i a j b)) h
    (λ n. pick_good (ltb best.shared (overlap a b)) rs (meeting i a j b) best
    (inr (record { i_below = li; j_below = lj; differ = λ e. n (subst (λ (k : ℕ). T (eqb i k)) e (eqb_refl i)); size = ap₂ overlap ea eb }))
    (λ m. h))

with_good : (rs : List (List ℕ)) (i : ℕ) (a : List ℕ) (j : ℕ) (bs : List (List ℕ)) (best : Meeting) → a ≡ get_or rs i [] → i < length rs →
    From rs j bs → Good rs best → Good rs (longest_with i a j bs best)
with_good rs i a j [] best e l f h = h
with_good rs i a j (b ∷ bs) best e l f h =
    with_good rs i a (suc j) bs (next i a j b best) e l (from_tail rs j b bs f)
    (next_good rs i j a b best e (from_head rs j b bs f) l (omega (arith, f.1)) h)

from_good : (rs : List (List ℕ)) (i : ℕ) (more : List (List ℕ)) (best : Meeting) → From rs i more → From rs 0 rs → Good rs best →
    Good rs (longest_from i rs more best)
from_good rs i [] best f g h = h
from_good rs i (a ∷ more) best f g h =
    from_good rs (suc i) more (longest_with i a 0 rs best) (from_tail rs i a more f) g
    (with_good rs i a 0 rs best (from_head rs i a more f) (omega (arith, f.1)) g h)

pub longest_meets : (rs : List (List ℕ)) → ((longest rs).shared ≡ 0) ⊎ Meets rs (longest rs)
unfolding longest
longest_meets rs =
    let whole : From rs 0 rs = (λ t l. ap (λ (k : ℕ). get_or rs k []) (sym (zero-add t)), omega arith) in
    from_good rs 0 rs (record { shared = 0; i = 0; j = 0 }) whole whole (inl refl)
