-- Document 01, numbers 8 and 9: what the builder answers for a graph form and an output lent to it. "Then the builder gives 8 before 9".
use Rattle.std.specs.Prelude.{ℕ, suc, ◌+◌, List, [], ◌∷◌, cond, ltb, eqb, length, ℤ}
use Rattle.mathematics.specs.Graph.{Graph}
use Rattle.mathematics.specs.Cover.{Ask, vert, asks}
use Rattle.mathematics.specs.Reach.{read_lies, ask_lies}
use Rattle.forms.specs.declared.Verdict.{Verdict}
use Rattle.forms.specs.Layout.{longest_answer}
use Rattle.forms.specs.GraphOf.{graph_of}
use Rattle.forms.specs.GraphFaults.{refusal, nothing_refused, graph_verdict}

-- 9: "builder: lent output shorter than 32,543 bytes"
abbrev pub room_asked : List ℕ → ℕ
room_asked s = longest_answer s

-- what stands for an item that is not there: it asks for nothing
abbrev pub no_ask : Ask
no_ask = record { item = vert 0; demand = 0 }

-- 8: "first item that asks for something (positive demand, or a read) and lies on no start-to-end path"
unfoldable pub asks_lie_verdict : Graph ℤ → ℕ → List Ask → Verdict → Verdict
asks_lie_verdict G k [] after = after
asks_lie_verdict G k (a ∷ more) after =
    let rest = asks_lie_verdict G (suc k) more after in
    cond (ask_lies G a) rest (refusal 8 k)

unfoldable pub reads_lie_verdict : Graph ℤ → ℕ → List (List ℕ) → Verdict → Verdict
reads_lie_verdict G k [] after = after
reads_lie_verdict G k (r ∷ more) after =
    let rest = reads_lie_verdict G (suc k) more after in
    cond (read_lies G r) rest (refusal 8 k)

-- what the builder answers for a graph form that reads and an output of `room` bytes: 8, then 9
unfoldable pub cover_verdict : List ℕ → ℕ → Verdict
cover_verdict s room =
    let G = graph_of s in
    asks_lie_verdict G 0 (asks G)
    (reads_lie_verdict G (length G.vertices + length G.arcs) G.reads
    (cond (ltb room (room_asked s)) (refusal 9 0) nothing_refused))

unfoldable pub build_verdict : List ℕ → ℕ → Verdict
build_verdict s room = cond (eqb (graph_verdict s).number 0) (cover_verdict s room) (graph_verdict s)
