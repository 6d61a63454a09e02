-- The arcs of a graph form by number: each is one of the graph's, and each of the graph's has a number.
use Prim.Native.Nat.{ℕ, zero, suc, ◌+◌, ◌<◌, ◌≤◌}
use native.Mathlib.Decide.{ℕ_discrete}
use native.Mathlib.Omega.{arith}
use mathlib.Core.Path.{◌≡◌, sym, ap, ◌∙◌}
use mathlib.Core.List.{List}
use mathlib.Core.Logic.{inl, inr}
use lib.Dec.{T}
use lib.IntN.{ℤ}
use Rattle.mathematics.specs.Graph.{Arc, has_arc}
use Rattle.mathematics.specs.Range.{OneOf}
use Rattle.mathematics.proofs.Reach.{arc_joins, joining_arc}
use Rattle.forms.specs.Bytes.{tabulate}
use Rattle.forms.specs.GraphForm.{arc_count}
use Rattle.forms.specs.GraphOf.{arc_of, graph_of}
use Rattle.forms.proofs.ArcLaws.{tail_of, head_of}

among_tabulate : {A : Type 0} (f : ℕ → A) (n first k : ℕ) → first ≤ k → k < first + n → OneOf (tabulate f n first) (f k)
among_tabulate f zero first k h l = absurd (omega arith)
among_tabulate f (suc n) first k h l =
    elim (ℕ_discrete k first) [ yes e ↦ inl (ap f e) | no ne ↦ inr (among_tabulate f n (suc first) k (omega arith) (omega arith)) ]

module _ (s : List ℕ) where
  pub arc_among : (a : ℕ) → a < arc_count s → OneOf (graph_of s).arcs (arc_of s a)
  unfolding graph_of
  arc_among a h = among_tabulate (arc_of s) (arc_count s) 0 a (omega arith) (omega arith)

  pub arc_there : (b : ℕ) → b < arc_count s → T (has_arc (graph_of s).arcs (tail_of s b) (head_of s b))
  arc_there b h = arc_joins (graph_of s).arcs (arc_of s b) (arc_among b h)

  numbered : (x : Arc ℤ) (k i : ℕ) → OneOf (tabulate (arc_of s) k i) x → (a : ℕ) × (a < i + k) × (x ≡ arc_of s a)
  numbered x zero i o = absurd o
  numbered x (suc k) i (inl e) = (i, omega arith, e)
  numbered x (suc k) i (inr o) = let (a, b, c) = numbered x k (suc i) o in (a, omega arith, c)

  pub arc_number_lem : (u v : ℕ) → T (has_arc (graph_of s).arcs u v) → (b : ℕ) × (b < arc_count s) × (tail_of s b ≡ u) × (head_of s b ≡ v)
  unfolding graph_of
  arc_number_lem u v t =
      let (x, o, tail, head) = joining_arc (graph_of s).arcs u v t in
      let (b, l, e) = numbered x (arc_count s) 0 o in
      (b, omega arith, ap (λ (y : Arc ℤ). y.tail) (sym e) ∙ tail, ap (λ (y : Arc ℤ). y.head) (sym e) ∙ head)
