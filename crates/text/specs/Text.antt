-- Words and numbers as bytes, in ASCII, and what it is to store and to write them in lent bytes.
use Rattle.std.specs.Prelude.{ℕ, zero, suc, ◌+◌, ◌*◌, ◌-◌, ◌/◌, ◌%◌, ◌≤◌, ◌≡◌, List, [], ◌∷◌, ◌++◌, cond, ltb, length, drop}
use Rattle.std.proofs.lemmas.List.Edits.{sets}

-- the character of a digit
abbrev pub digit : ℕ → ℕ
digit d = 48 + d

-- the text of a number of at most so many digits, without leading zeros, in front of what follows
unfoldable pub digits_before : ℕ → ℕ → List ℕ → List ℕ
digits_before zero n after = after
digits_before (suc places) n after = cond (ltb n 10) (digit n ∷ after) (digits_before places (n / 10) (digit (n % 10) ∷ after))

-- the text of a number below 10^20, which each number of the machine is
unfoldable pub decimal : ℕ → List ℕ
decimal n = digits_before 20 n []

-- the number that digits in decimal notation stand for, behind digits that stand for n: what a text is held against
abbrev pub value_of : ℕ → List ℕ → ℕ
value_of n [] = n
value_of n (d ∷ more) = value_of (n * 10 + (d - 48)) more

abbrev pub space : List ℕ
space = 32 ∷ []

abbrev pub newline : List ℕ
newline = 10 ∷ []

-- a text has its place in a list of bytes from an index on
abbrev pub TextFits : List ℕ → ℕ → List ℕ → Type 0
TextFits out at text = at + length text ≤ length out

-- a call stored a text in a list of bytes from an index on, and returned the index behind it
pub record Puts (before : List ℕ) (at : ℕ) (text after : List ℕ) (next : ℕ) : Type 0 where
  pub bytes : after ≡ sets before at text
  pub ends : next ≡ at + length text

-- Document 01: "Each call that writes .. writes at the front of the lent output and keeps every byte behind it. It also returns how many bytes .. it wrote"
pub record Writes (before text after : List ℕ) (written : ℕ) : Type 0 where
  pub bytes : after ≡ text ++ drop written before
  pub counted : written ≡ length text
