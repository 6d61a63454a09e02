-- What keeps an answer small: how many paths, how many copies, and how large a mark. Document 01, "Numbers allowed": "a lowest-price cover and
-- marks inside them always exist where a cover does". No limit of a form stands here; the forms' limits follow by numbers.
use Rattle.std.specs.Prelude.{ℕ, ◌+◌, ◌*◌, ◌≤◌, ◌<◌, ◌≡◌, List, [], ◌∷◌, map, Bool, cond, ◌⊎◌, length}
use Rattle.mathematics.specs.Price.{Prices, Le, sub}
use Rattle.mathematics.specs.Lists.{All}
use Rattle.mathematics.specs.Graph.{Vertex, Arc, Graph}
use Rattle.mathematics.specs.Cover.{Ask, one_if, asks, Weighted, total_weight, IsCover, price}
use Rattle.mathematics.specs.Bound.{Marks, SlacksHold, bound}

abbrev pub start_count : List Vertex → ℕ
start_count [] = 0
start_count (x ∷ xs) = one_if x.start + start_count xs

abbrev pub end_count : List Vertex → ℕ
end_count [] = 0
end_count (x ∷ xs) = one_if x.end + end_count xs

abbrev pub sum_of_demands : List Ask → ℕ
sum_of_demands [] = 0
sum_of_demands (a ∷ more) = a.demand + sum_of_demands more

-- vertices, arcs, starts, ends and reads: 464 = 64 + 256 + 64 + 64 + 16 at the limits of document 01
abbrev pub path_limit : {E : Type 0} → Graph E → ℕ
path_limit G =
    length G.vertices + length G.arcs + start_count G.vertices + end_count G.vertices + length G.reads

-- all demands and reads: at most 320,000,016 at the limits of document 01
abbrev pub weight_limit : {E : Type 0} → Graph E → ℕ
weight_limit G = sum_of_demands (asks G) + length G.reads

-- an arc cost that is added (up) or taken away
pub record Step (E : Type 0) : Type 0 where
  pub up : Bool
  pub cost : E

-- x is one of the list
abbrev pub OneOf : {A : Type 0} → List A → A → Type 0
OneOf [] x = ⊥
OneOf (y ∷ ys) x = (x ≡ y) ⊎ OneOf ys x

module _ (P : Prices) where
  abbrev pub climb : P.El → List (Step P.El) → P.El
  climb x [] = x
  climb x (s ∷ steps) = climb (cond s.up (P.add x s.cost) (sub P x s.cost)) steps

  -- x is the opening price or nothing, with at most k arc costs of the graph added or taken away
  pub record MarkWithin (G : Graph P.El) (k : ℕ) (x : P.El) : Type 0 where
    pub opened : Bool
    pub steps : List (Step P.El)
    pub few : length steps ≤ k
    pub of_arcs : All (λ s. OneOf (map (λ (a : Arc P.El). a.cost) G.arcs) s.cost) steps
    pub reaches : x ≡ climb (cond opened G.opening P.nil) steps

  -- opening price and arc costs are not below nothing
  pub record CostsHold (G : Graph P.El) : Type 0 where
    pub opening_holds : Le P P.nil G.opening
    pub costs_hold : All (λ a. Le P P.nil a.cost) G.arcs

  -- "a lowest-price cover and marks inside them": a cover, marks that show its price to be lowest, few paths, few copies, small marks
  pub record Best (G : Graph P.El) : Type 0 where
    pub cover : List Weighted
    pub marks : Marks P.El
    pub is_cover : IsCover G cover
    pub slacks_hold : SlacksHold P G marks
    pub price_is_bound : price P G cover ≡ bound P G marks
    pub few_paths : length cover ≤ path_limit G
    pub few_copies : total_weight cover ≤ weight_limit G
    pub marks_within : (v : ℕ) → v < length G.vertices →
        MarkWithin G (2 * length G.vertices) (marks.into v) × MarkWithin G (2 * length G.vertices) (marks.out v)
