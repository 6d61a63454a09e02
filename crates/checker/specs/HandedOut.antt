-- The hand-out: "it gives the vertex bytes of that path as a part of the answer, or an empty part where the checker would refuse or 23 holds. A sister
-- call gives the number and place."
use Rattle.std.specs.Prelude.{ℕ, ◌+◌, ◌≤◌, ◌<◌, ◌≡◌, List, [], length, get_or, Result, Ok, Err}
use Rattle.mathematics.specs.Price.{whole}
use Rattle.mathematics.specs.Cover.{Weighted, IsLowest}
use Rattle.forms.specs.AnswerForm.{cover_of}
use Rattle.forms.specs.Bytes.{part}
use Rattle.forms.specs.GraphFaults.{refusal}
use Rattle.forms.specs.GraphOf.{graph_of}
use Rattle.checker.specs.declared.check.PathPart.{PathPart}
use Rattle.checker.specs.Check.{hand_out_verdict, handed_out, handed_out_at}

-- what stands for a path whose number is not below the number of paths
abbrev pub no_path : Weighted
no_path = record { weight = 0; path = [] }

-- the part that is found; the empty part at the answer's front, where the checker would refuse or 23 holds
abbrev pub part_of : {E : Type 0} → Result PathPart E → PathPart
part_of (Ok part) = part
part_of (Err e) = record { offset = 0; length = 0 }

-- the part by numbers: what the sister call gives, where in the answer the part begins and how many bytes it has
pub record PartFound (s t : List ℕ) (k number place offset count : ℕ) : Type 0 where
  pub verdict : refusal number place ≡ hand_out_verdict s t k
  pub begins : offset ≡ handed_out_at s t k
  pub long : count ≡ length (handed_out s t k)

-- what is handed out is a part of these very answer bytes
pub record IsPart (s t : List ℕ) (k : ℕ) : Type 0 where
  pub within : handed_out_at s t k + length (handed_out s t k) ≤ length t
  pub is_part : handed_out s t k ≡ part t (handed_out_at s t k) (length (handed_out s t k))

-- where nothing is refused, it is path k of the answer, whose paths are a cover of lowest price
pub record HandsOut (s t : List ℕ) (k : ℕ) : Type 0 where
  pub lowest : IsLowest whole (graph_of s) (cover_of s t)
  pub is_one : k < length (cover_of s t)
  pub is_path_k : handed_out s t k ≡ (get_or (cover_of s t) k no_path).path
  pub in_answer : IsPart s t k
