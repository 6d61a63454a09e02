-- Document 01: what the builder promises. Demand 2: the bytes written are an answer that the checker accepts. Its refusals 8 and 9 are defined with the forms.
use Rattle.std.specs.Prelude.{ℕ, Result, ◌≤◌, ◌≡◌, List, ◌≢◌, length, take, drop}
use Rattle.forms.specs.GraphFaults.{refusal, nothing_refused}
use Rattle.forms.specs.BuildFaults.{build_verdict}
use Rattle.forms.specs.declared.refusals.Refused.{Refused}
use Rattle.forms.specs.Refusals.{verdict_of, value_of}
use Rattle.checker.specs.Check.{check_verdict}

-- what a call to build answers, in numbers: the refusal's number and place (both 0 where nothing is refused), and how many bytes it wrote at the front of the output
pub record Built : Type 0 where
  pub number : ℕ
  pub place : ℕ
  pub written : ℕ

-- "Each answer holds number and place; both are 0 where nothing is refused", and the count is 0 on a refusal
abbrev pub built_of : Result ℕ Refused → Built
built_of r = record { number = (verdict_of r).number; place = (verdict_of r).place; written = value_of r }

-- The builder's promise for graph bytes s and an output that held `before` and now holds `after`.
pub record BuildPromise (s before after : List ℕ) (r : Built) : Type 0 where
  pub verdict : refusal r.number r.place ≡ build_verdict s (length before)
  -- "On a refusal it changes no byte of any lent buffer", and the count is 0
  pub refused : r.number ≢ 0 → (r.written ≡ 0) × (after ≡ before)
  -- the bytes written are an answer form that the checker accepts with that graph
  pub accepted : r.number ≡ 0 → check_verdict s (take r.written after) ≡ nothing_refused
  -- "writes at the front of the lent output and keeps every byte behind it"
  pub fits : r.written ≤ length before
  pub behind : drop r.written after ≡ drop r.written before
  pub same_length : length after ≡ length before
