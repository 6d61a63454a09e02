-- Document 01, "The two programs": the lines of a listing as bytes, each with one newline at its end.
use Rattle.std.specs.Prelude.{ℕ, List, [], ◌∷◌, ◌++◌}
use Rattle.text.specs.Text.{decimal, space, newline}

-- "cover "
abbrev pub cover_word : List ℕ
cover_word = 99 ∷ 111 ∷ 118 ∷ 101 ∷ 114 ∷ 32 ∷ []

-- "bound "
abbrev pub bound_word : List ℕ
bound_word = 98 ∷ 111 ∷ 117 ∷ 110 ∷ 100 ∷ 32 ∷ []

-- "refused "
abbrev pub refused_word : List ℕ
refused_word = 114 ∷ 101 ∷ 102 ∷ 117 ∷ 115 ∷ 101 ∷ 100 ∷ 32 ∷ []

-- a word and two numbers
unfoldable pub pair_line : List ℕ → ℕ → ℕ → List ℕ
pair_line word a b = word ++ (decimal a ++ (space ++ (decimal b ++ newline)))

-- "First line: number of paths, price."
abbrev pub cover_line : ℕ → ℕ → List ℕ
cover_line paths price = pair_line cover_word paths price

-- "A refusal prints one line, `refused`, number, place."
abbrev pub refused_line : ℕ → ℕ → List ℕ
refused_line number place = pair_line refused_word number place

-- the vertices of a path, a space before each
abbrev pub vertex_texts : List ℕ → List ℕ
vertex_texts [] = []
vertex_texts (v ∷ more) = space ++ (decimal v ++ vertex_texts more)

-- "Then per path its weight and vertices."
unfoldable pub path_line : ℕ → List ℕ → List ℕ
path_line weight vertices = decimal weight ++ (vertex_texts vertices ++ newline)

-- "Last line: the bound."
unfoldable pub bound_line : ℕ → List ℕ
bound_line bound = bound_word ++ (decimal bound ++ newline)
