-- Words on lists that the definitions use: all, none twice, each two, sums, a list of numbers that rises, that begins another, that stands in another.
use Rattle.std.specs.Prelude.{ℕ, ◌+◌, ◌<◌, List, [], ◌∷◌, Bool, true, false, ◌&&◌, ◌||◌, ◌≢◌, eqb}

-- P holds of each
abbrev pub All : {A : Type 0} → (A → Type 0) → List A → Type 0
All P [] = Unit {0}
All P (x ∷ xs) = P x × All P xs

-- no two are equal
abbrev pub Distinct : {A : Type 0} → List A → Type 0
Distinct [] = Unit {0}
Distinct (x ∷ xs) = All (λ y. x ≢ y) xs × Distinct xs

-- R holds between each and every later one
abbrev pub Pairwise : {A : Type 0} → (A → A → Type 0) → List A → Type 0
Pairwise R [] = Unit {0}
Pairwise R (x ∷ xs) = All (R x) xs × Pairwise R xs

-- the sum of f over a list
abbrev pub sum_over : {A : Type 0} → (A → ℕ) → List A → ℕ
sum_over f [] = 0
sum_over f (x ∷ xs) = f x + sum_over f xs

-- numbers that rise strictly, as they do along a path or a read
abbrev pub Rising : List ℕ → Type 0
Rising [] = Unit {0}
Rising (v ∷ p) = All (λ w. v < w) p × Rising p

-- the list p begins with r
abbrev pub begins : List ℕ → List ℕ → Bool
begins [] p = true
begins (x ∷ r) [] = false
begins (x ∷ r) (y ∷ p) = eqb x y && begins r p

-- p holds the numbers of r consecutively
abbrev pub holds : List ℕ → List ℕ → Bool
holds [] r = begins r []
holds (y ∷ p) r = begins r (y ∷ p) || holds p r

-- one of the lists ps holds r
abbrev pub some_holds : List (List ℕ) → List ℕ → Bool
some_holds [] r = false
some_holds (p ∷ ps) r = holds p r || some_holds ps r

-- the last of v and the numbers after it
abbrev pub last_of : ℕ → List ℕ → ℕ
last_of v [] = v
last_of v (w ∷ p) = last_of w p
