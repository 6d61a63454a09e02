-- Each call's promise determines what it answers and what the lent output holds: any two results allowed are equal, but for the builder's choice.
-- "Each public call's promise determines number, place and all bytes lent to it, for each input, refused or not"
use Rattle.std.proofs.Common.{ℕ, ◌≡◌, List, sym, ap, ◌∙◌}
use Rattle.forms.specs.declared.Verdict.{Verdict}
use Rattle.forms.specs.GraphFaults.{refusal, graph_verdict}
use Rattle.checker.specs.Check.{check_verdict}
use Rattle.checker.specs.HandedOut.{PartFound}
use Rattle.checker.proofs.Determined.{part_determined}
use Rattle.builder.specs.Build.{Built, BuildPromise}
use Rattle.builder.specs.Results.{Alike}
use Rattle.builder.proofs.Determined.{built_twice}
use Rattle.calls.specs.declared.Refusal.{Refusal}
use Rattle.calls.specs.declared.HandedOutPart.{HandedOutPart}
use Rattle.calls.specs.declared.BuiltForm.{BuiltForm}

-- number and place are those of a verdict
told_determined : (v : Verdict) (r r' : Refusal) → refusal r.number r.place ≡ v → refusal r'.number r'.place ≡ v → r ≡ r'
told_determined v r r' e d = ap told (e ∙ sym d)
  where
    told : Verdict → Refusal
    told w = record { number = w.number; place = w.place }

pub read_graph_form_determined : (s : List ℕ) (r r' : Refusal) →
    refusal r.number r.place ≡ graph_verdict s → refusal r'.number r'.place ≡ graph_verdict s → r ≡ r'
read_graph_form_determined s = told_determined (graph_verdict s)

pub check_answer_form_determined : (s t : List ℕ) (r r' : Refusal) →
    refusal r.number r.place ≡ check_verdict s t → refusal r'.number r'.place ≡ check_verdict s t → r ≡ r'
check_answer_form_determined s t = told_determined (check_verdict s t)

pub hand_out_path_determined : (s t : List ℕ) (k : ℕ) (r r' : HandedOutPart) → PartFound s t k r.number r.place r.offset r.length →
    PartFound s t k r'.number r'.place r'.offset r'.length → r ≡ r'
hand_out_path_determined s t k r r' e d =
    let same = part_determined e d in
    λ i. record { number = (same.0 i).number; place = (same.0 i).place; offset = same.1 i; length = same.2 i }

-- what the builder answers by the call for C
abbrev pub built_of : BuiltForm → Built
built_of r = record { number = r.number; place = r.place; written = r.written }

pub build_answer_form_determined : (s before after after' : List ℕ) (r r' : BuiltForm) → BuildPromise s before after (built_of r) →
    BuildPromise s before after' (built_of r') → Alike s after after' (built_of r) (built_of r')
build_answer_form_determined s before after after' r r' = built_twice s before after after' (built_of r) (built_of r')
