-- The kinds of price. Document 01: "The price of one copy is the opening price plus the costs of its arcs"; document 02, #108: "Price, marks,
-- slacks and bound become pairs compared in that order". Everything else is stated over any `Prices`, so it holds for both kinds.
use Rattle.std.specs.Prelude.{ℕ, zero, suc, ◌≡◌, List, [], ◌∷◌, ◌⊎◌, Bool, true, false, cond, T, ℤ, pos, neg_ℤ, ◌+ℤ◌}
use Rattle.std.specs.Int.Signed.{lt_z, le_z}

-- What can be done with prices: there is a price of nothing, two prices add, a price has an opposite, and two prices compare.
pub record Prices : Type 1 where
  pub El : Type 0
  pub nil : El
  pub add : El → El → El
  pub neg : El → El
  pub leb : El → El → Bool

-- a ≤ b
abbrev pub Le : (P : Prices) → P.El → P.El → Type 0
Le P a b = T (P.leb a b)

-- a - b
abbrev pub sub : (P : Prices) → P.El → P.El → P.El
sub P a b = P.add a (P.neg b)

-- k times a: "weight times price", "rest times slack"
abbrev pub times : (P : Prices) → ℕ → P.El → P.El
times P zero a = P.nil
times P (suc k) a = P.add a (times P k a)

-- the sum of f over a list
abbrev pub sum_by : (P : Prices) {A : Type 0} → (A → P.El) → List A → P.El
sum_by P f [] = P.nil
sum_by P f (x ∷ xs) = P.add (f x) (sum_by P f xs)

-- The laws that the theorems use: a commutative group with a total order that sums respect.
pub record Ordered (P : Prices) : Type 0 where
  pub add_assoc : (a b c : P.El) → P.add (P.add a b) c ≡ P.add a (P.add b c)
  pub add_comm : (a b : P.El) → P.add a b ≡ P.add b a
  pub add_nil : (a : P.El) → P.add a P.nil ≡ a
  pub add_neg : (a : P.El) → P.add a (P.neg a) ≡ P.nil
  pub le_refl : (a : P.El) → Le P a a
  pub le_trans : (a b c : P.El) → Le P a b → Le P b c → Le P a c
  pub le_antisym : (a b : P.El) → Le P a b → Le P b a → a ≡ b
  pub le_total : (a b : P.El) → Le P a b ⊎ Le P b a
  pub le_add : (a b c : P.El) → Le P a b → Le P (P.add a c) (P.add b c)

-- Plain numbers, for graph versions 1 to 4.
abbrev pub whole : Prices
whole = record { El = ℤ; nil = pos 0; add = ◌+ℤ◌; neg = neg_ℤ; leb = le_z }

-- Pairs, compared by first part, then second, for graph version 5.
pub record Pair : Type 0 where
  pub first : ℤ
  pub second : ℤ

abbrev pub pair_leb : Pair → Pair → Bool
pair_leb a b = cond (lt_z a.first b.first) true (cond (lt_z b.first a.first) false (le_z a.second b.second))

abbrev pub pairs : Prices
pairs =
    record {
      El = Pair;
      nil = record { first = pos 0; second = pos 0 };
      add = λ a b. record { first = a.first +ℤ b.first; second = a.second +ℤ b.second };
      neg = λ a. record { first = neg_ℤ a.first; second = neg_ℤ a.second };
      leb = pair_leb;
    }
