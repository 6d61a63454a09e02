-- Document 02, #110: the ranges. The code has them as constants of the coverage type; that each is the number here is proved. What a quotient
-- may be at most, 1,000,000, is the greatest demand that a graph form takes: `max_demand` of the forms.
use Rattle.std.specs.Prelude.{ℕ}

-- "the bases aligned, 0..4,294,967,295"
abbrev pub max_bases : ℕ
max_bases = 4_294_967_295

-- "its length, 1..1,000,000"
abbrev pub min_length : ℕ
min_length = 1

abbrev pub max_length : ℕ
max_length = 1_000_000

-- "the three lists not of one length in 1..256"
abbrev pub min_exons : ℕ
min_exons = 1

abbrev pub max_exons : ℕ
max_exons = 256
