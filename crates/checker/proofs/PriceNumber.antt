-- Where opening price and arc costs are plain numbers in range, so is the price of weighted paths: no more than the copies times the dearest copy.
use Rattle.std.proofs.Common.{ℕ, zero, suc, ◌+◌, ◌*◌, ◌≤◌, suc-mul, add-mul, mul-le-mul, le_refl, arith, refl, ap₂, List, [], ◌∷◌, Bool, true, false, cond, length, ℤ, pos, ◌+ℤ◌}
use Rattle.mathematics.specs.Price.{whole, times}
use Rattle.mathematics.specs.Lists.{All}
use Rattle.mathematics.specs.Graph.{Arc, Graph, joins}
use Rattle.forms.specs.GraphReads.{AtMost}
use Rattle.mathematics.specs.Cover.{Weighted, cost_of, arc_costs, copy_price, total_weight, price}

add_at_most : (j k : ℕ) (x y : ℤ) → AtMost j x → AtMost k y → AtMost (j + k) (x +ℤ y)
add_at_most j k x y h r = record { number = h.number + r.number; is = ap₂ ◌+ℤ◌ h.is r.is; low = omega (arith, h.low, r.low) }

-- a higher limit
raise : (j k : ℕ) (x : ℤ) → j ≤ k → AtMost j x → AtMost k x
raise j k x l h = record { number = h.number; is = h.is; low = omega (arith, h.low) }

nothing : (k : ℕ) → AtMost k (pos 0)
nothing k = record { number = 0; is = refl; low = omega arith }

times_at_most : (B k : ℕ) (x : ℤ) → AtMost B x → AtMost (k * B) (times whole k x)
times_at_most B zero x h = nothing (0 * B)
times_at_most B (suc k) x h =
    raise (B + k * B) (suc k * B) (times whole (suc k) x) (omega (arith, suc-mul k B))
    (add_at_most B (k * B) x (times whole k x) h (times_at_most B k x h))

cost_at_most : (C : ℕ) (arcs : List (Arc ℤ)) (u v : ℕ) → All (λ a. AtMost C a.cost) arcs → AtMost C (cost_of whole arcs u v)
cost_at_most C [] u v h = nothing C
cost_at_most C (a ∷ arcs) u v h = at (joins a u v) (cost_at_most C arcs u v h.1)
  where
    at : (b : Bool) → AtMost C (cost_of whole arcs u v) → AtMost C (cond b a.cost (cost_of whole arcs u v))
    at true r = h.0
    at false r = r

costs_at_most : (C : ℕ) (arcs : List (Arc ℤ)) (p : List ℕ) → All (λ a. AtMost C a.cost) arcs → AtMost (length p * C) (arc_costs whole arcs p)
costs_at_most C arcs [] h = nothing (0 * C)
costs_at_most C arcs (v ∷ []) h = nothing (1 * C)
costs_at_most C arcs (u ∷ v ∷ p) h =
    raise (C + length (v ∷ p) * C) (length (u ∷ v ∷ p) * C) (arc_costs whole arcs (u ∷ v ∷ p)) (omega (arith, suc-mul (length (v ∷ p)) C))
    (add_at_most C (length (v ∷ p) * C) (cost_of whole arcs u v) (arc_costs whole arcs (v ∷ p)) (cost_at_most C arcs u v h) (costs_at_most C arcs (v ∷ p) h))

module _ (G : Graph ℤ) (O C N : ℕ) (opens : AtMost O G.opening) (costs : All (λ a. AtMost C a.cost) G.arcs) where
  copy_at_most : (p : List ℕ) → length p ≤ N → AtMost (O + N * C) (copy_price whole G p)
  copy_at_most p l =
      let k : length p * C ≤ N * C = mul-le-mul l (le_refl C) in
      raise (O + length p * C) (O + N * C) (copy_price whole G p) (omega arith)
      (add_at_most O (length p * C) G.opening (arc_costs whole G.arcs p) opens (costs_at_most C G.arcs p costs))

  -- the price of weighted paths of at most N vertices is a number, of at most the number of copies times O + N * C
  pub price_at_most : (W : List Weighted) → All (λ w. length w.path ≤ N) W → AtMost (total_weight W * (O + N * C)) (price whole G W)
  price_at_most [] h = nothing (0 * (O + N * C))
  price_at_most (w ∷ W) h =
      let B = O + N * C in
      raise (w.weight * B + total_weight W * B) (total_weight (w ∷ W) * B) (price whole G (w ∷ W)) (omega (arith, add-mul w.weight (total_weight W) B))
      (add_at_most (w.weight * B) (total_weight W * B) (times whole w.weight (copy_price whole G w.path)) (price whole G W)
      (times_at_most B w.weight (copy_price whole G w.path) (copy_at_most w.path h.0)) (price_at_most W h.1))
