-- Document 02, #110: the demands of exons from their base counts, and what is refused.
use Rattle.std.specs.Prelude.{◌≡◌, ℕ, ◌/◌, ◌<◌, ◌≤◌, Bool, cond, ◌&&◌, ◌||◌, List, [], ◌∷◌, length, ◌==◌, nat_le, nat_lt, slice_index, Result}
use Rattle.forms.specs.declared.Verdict.{Verdict}
use Rattle.forms.specs.declared.refusals.Refused.{Refused}
use Rattle.forms.specs.Limits.{max_demand}
use Rattle.forms.specs.GraphFaults.{refusal, first_fault}
use Rattle.forms.specs.Refusals.{verdict_of, value_of}
use Rattle.coverage.specs.Limits.{min_length, max_length, min_exons, max_exons}

-- "the three lists .. of one length in 1..256"
unfoldable pub one_length : ℕ → ℕ → ℕ → Bool
one_length bases lengths demands = lengths == bases && (demands == bases && (nat_le min_exons bases && nat_le bases max_exons))

-- "32 a length out of range, then 33 a quotient above 1,000,000"
unfoldable pub exon_fault : ℕ → ℕ → ℕ
exon_fault bases length = cond (nat_lt length min_length || nat_lt max_length length) 32 (cond (nat_lt max_demand (bases / length)) 33 0)

-- the same of the exon with a number
unfoldable pub fault_of : List ℕ → List ℕ → ℕ → ℕ
fault_of bases lengths exon = exon_fault (slice_index bases exon) (slice_index lengths exon)

-- "Refusals: 30, place 0, the three lists not of one length in 1..256; then exon by exon, its number the place": the first faulty exon decides
unfoldable pub counts_verdict : List ℕ → List ℕ → List ℕ → Verdict
counts_verdict bases lengths demands =
    cond (one_length (length bases) (length lengths) (length demands))
    (first_fault (fault_of bases lengths) (λ exon. exon) (length bases) 0) (refusal 30 0)

-- "Its whole part becomes the vertex demand": the whole-number quotient of each exon's two counts
unfoldable pub quotients : List ℕ → List ℕ → List ℕ
quotients [] lengths = []
quotients (b ∷ bases) [] = []
quotients (b ∷ bases) (l ∷ lengths) = b / l ∷ quotients bases lengths

-- "written to a lent list"; document 01: "On a refusal it changes no byte of any lent buffer."
unfoldable pub demands_written : List ℕ → List ℕ → List ℕ → List ℕ
demands_written bases lengths demands = cond ((counts_verdict bases lengths demands).number == 0) (quotients bases lengths) demands

-- document 01: "It also returns how many bytes (of a list, how many entries) it wrote to each output, 0 on a refusal."
unfoldable pub entries_written : List ℕ → List ℕ → List ℕ → ℕ
entries_written bases lengths demands = cond ((counts_verdict bases lengths demands).number == 0) (length bases) 0

-- What the call answers, in the numbers of document 01: number and place of what is refused, both 0 where nothing is, and how many demands it wrote.
pub record Filled : Type 0 where
  pub number : ℕ
  pub place : ℕ
  pub written : ℕ

abbrev pub filled_of : Result ℕ Refused → Filled
filled_of r = record { number = (verdict_of r).number; place = (verdict_of r).place; written = value_of r }

-- What the call promises of its answer, for a lent list that held `before` and now holds `after`.
pub record DemandsPromise (bases lengths before after : List ℕ) (r : Filled) : Type 0 where
  pub verdict : refusal r.number r.place ≡ counts_verdict bases lengths before
  pub entries : r.written ≡ entries_written bases lengths before
  pub demands : after ≡ demands_written bases lengths before

-- Every count is right: the lists are of one length in 1..256, each length is in 1..1,000,000, and no quotient is above 1,000,000.
pub record CountsRight (bases lengths demands : List ℕ) : Type 0 where
  pub same : length lengths ≡ length bases
  pub room : length demands ≡ length bases
  pub some : min_exons ≤ length bases
  pub few : length bases ≤ max_exons
  pub exon : (k : ℕ) → k < length bases → (min_length ≤ slice_index lengths k) × (slice_index lengths k ≤ max_length) × (slice_index bases k / slice_index lengths k ≤ max_demand)
