-- Document 02, #110: the coverage of an exon. Floats stand here and nowhere else: the promise of the call speaks of whole numbers (`specs/Demands.antt`).
use Rattle.std.specs.Prelude.{◌≡◌, ℕ, ◌≤◌, pos}
use Rattle.std.specs.Float.{binary64}
use Rattle.std.specs.Float.Ieee.{of_int, div, to_unsigned}
use Rattle.coverage.specs.declared.Coverage.{Coverage}
use Rattle.coverage.specs.Limits.{max_bases, min_length, max_length}

-- "keep a record of the coverage as an f64, one division, beside both counts"
unfoldable pub coverage_of : ℕ → ℕ → Coverage
coverage_of bases length = record { depth = div binary64 (of_int binary64 (pos bases)) (of_int binary64 (pos length)); bases = bases; length = length }

-- "Its whole part": the coverage without its fraction
unfoldable pub whole_part : Coverage → ℕ
whole_part c = to_unsigned 64 c.depth

-- A record made of its own two counts, "the bases aligned, 0..4,294,967,295, and its length, 1..1,000,000": what the demand maker is passed.
pub record Recorded (c : Coverage) : Type 0 where
  pub made : c ≡ coverage_of c.bases c.length
  pub counted : c.bases ≤ max_bases
  pub some : min_length ≤ c.length
  pub few : c.length ≤ max_length
