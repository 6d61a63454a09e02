-- The "While" of joining, turn by turn: as many turns as there are reads are enough, one turn joins one pair, and the end is where no two reads overlap.
use Rattle.std.proofs.Common.{ℕ, zero, suc, ◌+◌, ◌≤◌, ◌≡◌, refl, sym, ap, ◌∙◌, List, [], ◌∷◌, Bool, cond, inl, inr, length, arith, add-one, eq-or-lt_of_le, eq-eqb, ne_eqb}
use Rattle.std.proofs.Math.Decide.{ℕ_discrete}
use Rattle.mathematics.specs.Prepare.{drop_parts, Meeting, longest, join_at, join_while, prepare}
use Rattle.mathematics.proofs.Dropped.{dropped_fewer}
use Rattle.mathematics.proofs.Joined.{join, join_fewer}
use Rattle.reads.specs.ReadTable.{rows_of, TableHolds, Leaves}
use Rattle.reads.proofs.TableRows.{table_length}

while_stop : (turns : ℕ) (rs : List (List ℕ)) → (longest rs).shared ≡ 0 → join_while turns rs ≡ rs
while_stop zero rs e = refl
while_stop (suc turns) rs e =
    ap (λ (b : Bool). cond b rs (join_while turns (join_at (longest rs) rs))) (eq-eqb (longest rs).shared 0 e)

while_turn : (turns : ℕ) (rs : List (List ℕ)) → ((longest rs).shared ≡ 0 → ⊥) → join_while (suc turns) rs ≡ join_while turns (join_at (longest rs) rs)
while_turn turns rs n =
    ap (λ (b : Bool). cond b rs (join_while turns (join_at (longest rs) rs))) (ne_eqb (longest rs).shared 0 n)

-- a single read overlaps with no other
longest_few : (rs : List (List ℕ)) → length rs ≤ 1 → (longest rs).shared ≡ 0
unfolding longest
longest_few [] l = refl
longest_few (a ∷ []) l = refl
longest_few (a ∷ b ∷ rs) l = absurd (omega arith)

-- "each turn leaves one read fewer, so as many turns as there are reads are enough"
while_more : (turns : ℕ) (rs : List (List ℕ)) → length rs ≤ turns → join_while (suc turns) rs ≡ join_while turns rs
while_more zero rs l = while_stop 1 rs (longest_few rs (omega arith))
while_more (suc turns) rs l =
    elim (ℕ_discrete (longest rs).shared 0) [
      | yes e ↦ while_stop (suc (suc turns)) rs e ∙ sym (while_stop (suc turns) rs e)
      | no n ↦
          while_turn (suc turns) rs n
          ∙ (while_more turns (join_at (longest rs) rs) (omega (arith, join_fewer rs (join_at (longest rs) rs) (join rs n))) ∙ sym (while_turn turns rs n))
    ]

while_enough : (turns k : ℕ) (rs : List (List ℕ)) → k ≤ turns → length rs ≤ k → join_while turns rs ≡ join_while k rs
while_enough zero k rs l m = let none : 0 ≡ k = omega arith in ap (λ (n : ℕ). join_while n rs) none
while_enough (suc turns) k rs l m =
    elim (eq-or-lt_of_le l) [
      | inl e ↦ ap (λ (n : ℕ). join_while n rs) (sym e)
      | inr h ↦ while_more turns rs (omega arith) ∙ while_enough turns k rs (omega arith) m
    ]

-- after dropping, what is left to do is the joining
pub prepare_start : (rs : List (List ℕ)) (rows : List (List ℕ)) (lens : List ℕ) (n : ℕ) → Leaves rows lens n (drop_parts [] rs) →
    prepare rs ≡ join_while n (rows_of rows lens n)
unfolding prepare
prepare_start rs rows lens n h =
    let size : length (drop_parts [] rs) ≡ n = ap length (sym h.reads) ∙ table_length rows lens n h.table in
    while_enough (length rs) n (drop_parts [] rs) (omega (arith, dropped_fewer [] rs)) (omega arith)
    ∙ ap (join_while n) (sym h.reads)

module _ (total : List (List ℕ)) (rows : List (List ℕ)) (lens : List ℕ) (n : ℕ) (t : TableHolds rows lens n) (e : total ≡ join_while n (rows_of rows lens n)) where
  -- a turn that joins leaves the rest of the turns
  pub prepare_turn : (m : Meeting) (rows' : List (List ℕ)) (lens' : List ℕ) (n' : ℕ) → m ≡ longest (rows_of rows lens n) → 1 ≤ m.shared →
      Leaves rows' lens' n' (join_at m (rows_of rows lens n)) → n' + 1 ≡ n → total ≡ join_while n' (rows_of rows' lens' n')
  prepare_turn m rows' lens' n' f d h s =
      e ∙ (ap (λ (k : ℕ). join_while k (rows_of rows lens n)) (sym s ∙ add-one n')
      ∙ (while_turn n' (rows_of rows lens n) (λ z. omega (arith, d, ap {B = ℕ} (λ (q : Meeting). q.shared) f))
      ∙ ap (join_while n') (ap (λ (q : Meeting). join_at q (rows_of rows lens n)) (sym f) ∙ sym h.reads)))

  -- no two reads overlap: the table holds the prepared reads
  pub prepare_stop : (m : Meeting) → m ≡ longest (rows_of rows lens n) → m.shared ≡ 0 → rows_of rows lens n ≡ total
  prepare_stop m f z = sym (e ∙ while_stop n (rows_of rows lens n) (ap {B = ℕ} (λ (q : Meeting). q.shared) (sym f) ∙ z))
