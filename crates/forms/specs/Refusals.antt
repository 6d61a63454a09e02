-- "For an answer that is an enum, a definition gives this paper's number and values for each case of the enum. The promises use that definition."
use Rattle.std.specs.Prelude.{ℕ, Result, Ok, Err}
use Rattle.forms.specs.declared.Verdict.{Verdict}
use Rattle.forms.specs.declared.refusals.Fault.{Fault}
use Rattle.forms.specs.declared.refusals.Fault.TheVariants.{GraphLength, GraphVersion, GraphCount, GraphNumber, GraphEnd, Arc, Read, OnNoPath, OutputShort, AnswerLength, AnswerVersion, PathCount, Mark, AnswerEnd, Path, Weight, Order, Unmet, Price, Slack, Bound, NoSuchPath, ListingShort, ListLengths, ExonLength, ExonDemand}
use Rattle.forms.specs.declared.refusals.Refused.{Refused}
use Rattle.forms.specs.GraphFaults.{refusal, nothing_refused}

-- the number of each reason
abbrev pub number_of : Fault → ℕ
number_of GraphLength = 1
number_of GraphVersion = 2
number_of GraphCount = 3
number_of GraphNumber = 4
number_of GraphEnd = 5
number_of Arc = 6
number_of Read = 7
number_of OnNoPath = 8
number_of OutputShort = 9
number_of AnswerLength = 11
number_of AnswerVersion = 12
number_of PathCount = 13
number_of Mark = 14
number_of AnswerEnd = 15
number_of Path = 16
number_of Weight = 17
number_of Order = 18
number_of Unmet = 19
number_of Price = 20
number_of Slack = 21
number_of Bound = 22
number_of NoSuchPath = 23
number_of ListingShort = 29
number_of ListLengths = 30
number_of ExonLength = 32
number_of ExonDemand = 33

-- "Each answer holds number and place; both are 0 where nothing is refused": what a call that gives a value, or else a refusal, answers
abbrev pub verdict_of : {A : Type 0} → Result A Refused → Verdict
verdict_of (Ok a) = nothing_refused
verdict_of (Err e) = refusal (number_of e.fault) e.place

-- the number that it gives, such as that of the bytes written: "0 on a refusal"
abbrev pub value_of : {E : Type 0} → Result ℕ E → ℕ
value_of (Ok n) = n
value_of (Err e) = 0

-- the number of what is wrong with a record, 0 where nothing is
abbrev pub fault_of : {A : Type 0} → Result A Fault → ℕ
fault_of (Ok a) = 0
fault_of (Err f) = number_of f
