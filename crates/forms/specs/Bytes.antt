-- Document 01, "The two forms": "All numbers big-endian". A byte string is the list of its bytes; past its end stands 0, which no definition relies on.
use Rattle.std.specs.Prelude.{ℕ, zero, suc, ◌+◌, ◌*◌, List, [], ◌∷◌, get_or, take, drop}

-- the byte at an offset
abbrev pub byte : List ℕ → ℕ → ℕ
byte s at = get_or s at 0

-- the number in 2 bytes, in 4 bytes, in 8 bytes at an offset
unfoldable pub be16 : List ℕ → ℕ → ℕ
be16 s at = byte s at * 256 + byte s (at + 1)

unfoldable pub be32 : List ℕ → ℕ → ℕ
be32 s at = ((byte s at * 256 + byte s (at + 1)) * 256 + byte s (at + 2)) * 256 + byte s (at + 3)

unfoldable pub be64 : List ℕ → ℕ → ℕ
be64 s at = be32 s at * 4294967296 + be32 s (at + 4)

-- the count bytes from an offset on
unfoldable pub part : List ℕ → ℕ → ℕ → List ℕ
part s at count = take count (drop at s)

-- f at first, first + 1, .., count of them
abbrev pub tabulate : {A : Type 0} → (ℕ → A) → ℕ → ℕ → List A
tabulate f zero first = []
tabulate f (suc count) first = f first ∷ tabulate f count (suc first)
