-- Document 02, #110: the record of a coverage is one division, and "this whole part equals the whole-number quotient of the two counts". Assumes nothing.
use Rattle.std.proofs.Common.{◌≡◌, ℕ, ◌/◌, ◌<◌, ◌≤◌, true, false, T, pos, sym, refl, ap, ◌∙◌, div-le_self, arith}
use lib.Ieee.{binary64, fin, round, lt, to_unsigned}
use Rattle.coverage.specs.declared.Coverage.{Coverage}
use Rattle.coverage.specs.Limits.{max_bases, min_length, max_length}
use Rattle.coverage.specs.Depth.{coverage_of, whole_part, Recorded}
use Rattle.coverage.proofs.Rounding.{From, quotient_rounded, rounded_from, cut_whole, above_minus_one, below_top}

-- "as an f64, one division": both counts are floats as they are, so the coverage is the fraction of the two, rounded once
pub rounded_once : (bases length : ℕ) → bases ≤ max_bases → min_length ≤ length → length ≤ max_length → (coverage_of bases length).depth ≡ round binary64 false bases length
unfolding coverage_of
rounded_once bases length few some short = quotient_rounded bases length (omega arith) (omega arith) (omega arith)

-- what the demand maker is passed lies from the whole-number quotient up to below the next whole number
pub depth_from : (c : Coverage) → Recorded c → From (c.bases / c.length) c.depth
depth_from c r =
    rw (ap (λ (k : Coverage). k.depth) r.made ∙ rounded_once c.bases c.length r.counted r.some r.few)
    (rounded_from c.bases c.length (omega arith) (omega arith) (omega arith))

module _ (c : Coverage) (r : Recorded c) where
  quotient_few : c.bases / c.length < 4294967296
  quotient_few = omega (arith, div-le_self c.bases c.length)

  pub depth_cut : to_unsigned 64 c.depth ≡ c.bases / c.length
  depth_cut = cut_whole (c.bases / c.length) c.depth (depth_from c r) quotient_few

  -- what the cut asks of a float
  pub depth_in_range : T (lt (fin true 1 (pos 0)) c.depth) × T (lt c.depth (fin false 1 (pos 64)))
  depth_in_range = (above_minus_one (c.bases / c.length) c.depth (depth_from c r), below_top (c.bases / c.length) c.depth (depth_from c r) quotient_few)

  -- a demand fits 32 bits, as the count of bases does
  pub demand_fits : (n : ℕ) → n ≡ to_unsigned 64 c.depth → n < 4294967296
  demand_fits n e = omega (arith, e, depth_cut, quotient_few)

-- a record just made of counts in range
pub recorded : (c : Coverage) (bases length : ℕ) → c ≡ coverage_of bases length → bases < 4294967296 → min_length ≤ length → length ≤ max_length → Recorded c
unfolding coverage_of
recorded c bases length e few some short =
    let b : c.bases ≡ bases = ap (λ (k : Coverage). k.bases) e in
    let l : c.length ≡ length = ap (λ (k : Coverage). k.length) e in
    record {
      made = e ∙ ap (λ (k : ℕ). coverage_of k length) (sym b) ∙ ap (λ (k : ℕ). coverage_of c.bases k) (sym l);
      counted = omega arith;
      some = omega arith;
      few = omega arith;
    }

-- "Show that this whole part equals the whole-number quotient of the two counts."
pub whole_part_is_quotient : (bases length : ℕ) → bases ≤ max_bases → min_length ≤ length → length ≤ max_length → whole_part (coverage_of bases length) ≡ bases / length
unfolding whole_part coverage_of
whole_part_is_quotient bases length few some short =
    depth_cut (coverage_of bases length) (recorded (coverage_of bases length) bases length refl (omega arith) some short)
