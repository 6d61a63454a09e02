-- How long the lines of a listing are, by the digits of their numbers, and how long they are at the most.
use Prim.Native.Nat.{ℕ, ◌+◌, ◌*◌, ◌≤◌, ◌<◌}
use native.Mathlib.Omega.{arith}
use mathlib.Core.Path.{◌≡◌}
use mathlib.Core.List.{List, [], ◌∷◌}
use lib.ListN.{length, length-append}
use Rattle.mathematics.specs.Lists.{All}
use Rattle.text.specs.Text.{decimal}
use Rattle.text.proofs.Lengths.{decimal_few, decimal_below}
use Rattle.listing.specs.Lines.{cover_word, pair_line, vertex_texts, path_line, bound_line}
use Rattle.forms.specs.Limits.{room_vertices, room_paths}
use Rattle.listing.specs.Listing.{longest_line}

pub pair_line_length : (word : List ℕ) (a b : ℕ) → length (pair_line word a b) ≡ length word + length (decimal a) + length (decimal b) + 2
unfolding pair_line
pair_line_length word a b = simp length-append (omega arith)

pub path_line_length : (weight : ℕ) (vertices : List ℕ) → length (path_line weight vertices) ≡ length (decimal weight) + length (vertex_texts vertices) + 1
unfolding path_line
path_line_length weight vertices = simp length-append (omega arith)

pub bound_line_length : (bound : ℕ) → length (bound_line bound) ≡ length (decimal bound) + 7
unfolding bound_line
bound_line_length bound = simp length-append (omega arith)

pub pair_line_few : (word : List ℕ) (a b : ℕ) → length (pair_line word a b) ≤ length word + 42
pair_line_few word a b = omega (arith, pair_line_length word a b, decimal_few a, decimal_few b)

-- no more paths than a table holds
pub cover_line_few : (paths price : ℕ) → paths ≤ room_paths → length (pair_line cover_word paths price) ≤ 31
cover_line_few paths price h = omega (arith, pair_line_length cover_word paths price, decimal_below 3 paths (omega arith) (omega arith), decimal_few price)

pub bound_line_few : (bound : ℕ) → length (bound_line bound) ≤ 27
bound_line_few bound = omega (arith, bound_line_length bound, decimal_few bound)

-- vertices of a form that reads, a space before each
vertices_few : (vertices : List ℕ) → All (λ v. v < room_vertices) vertices → length (vertex_texts vertices) ≤ 3 * length vertices
vertices_few [] h = omega arith
vertices_few (v ∷ more) h =
    simp length-append (omega (arith, decimal_below 2 v (omega arith) (omega (arith, h.0)), vertices_few more h.1))

-- vertices of any number
pub vertices_some : (vertices : List ℕ) → length (vertex_texts vertices) ≤ 21 * length vertices
vertices_some [] = omega arith
vertices_some (v ∷ more) = simp length-append (omega (arith, decimal_few v, vertices_some more))

-- a weight of at most nine digits, no more vertices than a table holds
pub path_line_few : (weight : ℕ) (vertices : List ℕ) → weight < 1_000_000_000 → length vertices ≤ room_vertices → All (λ v. v < room_vertices) vertices →
    length (path_line weight vertices) ≤ longest_line
path_line_few weight vertices w l b =
    omega (arith, path_line_length weight vertices, decimal_below 9 weight (omega arith) (omega arith), vertices_few vertices b)
