-- What the number of an arc says: `Some k` exactly where arc k goes from u to v, `None` exactly where no arc does.
use Prim.Native.Nat.{ℕ, zero, suc, ◌+◌, ◌<◌, ◌≤◌}
use native.Mathlib.Omega.{arith}
use native.Mathlib.Decide.{dec_le}
use mathlib.Core.Path.{◌≡◌, refl, sym, ap, subst, ◌∙◌}
use mathlib.Core.List.{List}
use mathlib.Core.Bool.{Bool, true, false, cond}
use mathlib.Core.Logic.{◌↔◌}
use lib.Dec.{eqb}
use lib.IntN.{ℤ}
use lib.ListN.{length}
use lib.Seq.{ext_get_or}
use borrow.Author.Tests.{eq-eqb, eqb-true}
use Rattle.std.specs.Prelude.{Option, Some, None}
use Rattle.mathematics.specs.Graph.{Arc, joins, has_arc}
use Rattle.forms.specs.Bytes.{tabulate}
use Rattle.forms.specs.Limits.{room_vertices}
use Rattle.forms.specs.GraphForm.{arc_count}
use Rattle.forms.specs.GraphOf.{arc_of, arcs_of}
use Rattle.forms.specs.GraphReads.{ArcsRight}
use Rattle.forms.specs.ArcTable.{number_from, arc_number, Goes, ArcTable}
use Rattle.forms.proofs.RightLaws.{both}
use Rattle.forms.proofs.ArcLaws.{tail_of, head_of, next, here}
use Rattle.forms.proofs.WalkLaws.{is_at, found_is}
use Rattle.forms.proofs.GraphFacts.{ends_differ}

is_missing : (f : Option ℕ) → is_at f ≡ false → f ≡ None
is_missing (Some k) e = absurd (clash e)
  where
    clash : true ≡ false → ⊥
    clash e = let z : ◌≡◌ {A = ℕ} 0 1 = cc in omega arith
is_missing None e = refl

-- no arc is found exactly where none goes from u to v
pub missing_iff_no_arc : (arcs : List (Arc ℤ)) (u v : ℕ) → (arc_number arcs u v ≡ None) ↔ (has_arc arcs u v ≡ false)
missing_iff_no_arc arcs u v =
    (λ e. sym (found_is arcs u v 0) ∙ ap is_at e, λ e. is_missing (arc_number arcs u v) (found_is arcs u v 0 ∙ e))

module _ (s : List ℕ) (u v : ℕ) where
  from_found : (n i k : ℕ) → number_from (tabulate (arc_of s) n i) u v i ≡ Some k → (k < i + n) × (tail_of s k ≡ u) × (head_of s k ≡ v)
  unfolding number_from
  from_found zero i k e = let z : ◌≡◌ {A = ℕ} 0 1 = cc in absurd (omega arith)
  from_found (suc n) i k e = by (joins (arc_of s i) u v) refl e (from_found n (suc i) k)
    where
      by : (b : Bool) → joins (arc_of s i) u v ≡ b → cond b (Some i) (number_from (tabulate (arc_of s) n (suc i)) u v (suc i)) ≡ Some k → (number_from (tabulate (arc_of s) n (suc i)) u v (suc i) ≡ Some k → (k < suc i + n) × (tail_of s k ≡ u) × (head_of s k ≡ v)) → (k < i + suc n) × (tail_of s k ≡ u) × (head_of s k ≡ v)
      by true t e more =
          let same : i ≡ k = cc in
          let ends = both (eqb (tail_of s i) u) (eqb (head_of s i) v) t in
          (omega arith, ap (tail_of s) (sym same) ∙ eqb-true _ _ ends.0, ap (head_of s) (sym same) ∙ eqb-true _ _ ends.1)
      by false t e more = let h = more e in (omega (arith, h.0), h.1, h.2)

  to_found : (n i k : ℕ) → i ≤ k → k < i + n → joins (arc_of s k) u v ≡ true → ((j : ℕ) → j < k → joins (arc_of s j) u v ≡ false) → number_from (tabulate (arc_of s) n i) u v i ≡ Some k
  to_found zero i k a b e others = absurd (omega arith)
  to_found (suc n) i k a b e others =
      elim (dec_le (suc i) k) [
        | yes l ↦ next s u v n i (others i l) ∙ to_found n (suc i) k l (omega arith) e others
        | no l ↦
            let same : i ≡ k = omega arith in
            here s u v n i (subst (λ j. joins (arc_of s j) u v ≡ true) (sym same) e) ∙ ap Some same
      ]

  -- the number that is found is the number of the arc from u to v
  pub found_iff_goes : ArcsRight s → (k : ℕ) → (arc_number (arcs_of s) u v ≡ Some k) ↔ Goes s u v k
  found_iff_goes right k = (
    λ e. let h = from_found (arc_count s) 0 k e in (omega (arith, h.0), h.1, h.2),
    λ g.
        to_found (arc_count s) 0 k (omega arith) (omega (arith, g.0)) (simp (eq-eqb _ _ g.1, eq-eqb _ _ g.2))
        (λ j l. other j l (joins (arc_of s j) u v) refl g),
  )
    where
      other : (j : ℕ) → j < k → (b : Bool) → joins (arc_of s j) u v ≡ b → Goes s u v k → b ≡ false
      other j l true t g =
          let ends = both (eqb (tail_of s j) u) (eqb (head_of s j) v) t in
          absurd (ends_differ s right j k l g.0 (eqb-true _ _ ends.0 ∙ sym g.1) (eqb-true _ _ ends.1 ∙ sym g.2))
      other j l false t g = refl

-- any two tables of first arcs of a form are equal: the promise of `first_arcs` determines its result
pub tables_agree : (s one other : List ℕ) → length one ≡ room_vertices + 1 → length other ≡ room_vertices + 1 → ArcTable s one → ArcTable s other → one ≡ other
tables_agree s one other m n a b =
    ext_get_or 0 one other (m ∙ sym n) (λ u h. a.at u (omega arith) ∙ sym (b.at u (omega arith)))
