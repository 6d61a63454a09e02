-- Document 01, "Numbers to hold against the definitions": the marked rows as one table, and what each of them claims. A row that names a price holds an answer
-- form, its paths and its price.
use Rattle.std.specs.Prelude.{ℕ, ◌≤◌, ◌≡◌, List, [], ◌∷◌, T, get_or, take, ℤ, pos}
use Rattle.mathematics.specs.Price.{whole}
use Rattle.mathematics.specs.Lists.{All}
use Rattle.mathematics.specs.Graph.{Graph}
use Rattle.mathematics.specs.Cover.{asks, Weighted, IsCover, IsLowest, price}
use Rattle.mathematics.specs.Exists.{ItemOnPath}
use Rattle.mathematics.specs.Reach.{ask_lies}
use Rattle.forms.specs.AnswerForm.{cover_of}
use Rattle.forms.specs.BuildFaults.{room_asked, no_ask, build_verdict}
use Rattle.forms.specs.GraphFaults.{refusal, nothing_refused, graph_verdict}
use Rattle.forms.specs.GraphOf.{graph_of}
use Rattle.checker.specs.Check.{check_verdict}

-- a row: graph bytes with, as the case may be, answer bytes, the paths and the price that they state; answer bytes and the refusal's number and place;
-- or the first item that asks for something and lies on no start-to-end path, which is the place of the builder's refusal 8
pub data Row : Type 0 where
  priced : List ℕ → List ℕ → List Weighted → ℕ → Row
  refused : List ℕ → List ℕ → ℕ → ℕ → Row
  shut : List ℕ → ℕ → Row

-- the item of that number asks for something and lies on no path, the items before it do not, and there is no cover
pub record ShutAt (G : Graph ℤ) (item : ℕ) : Type 0 where
  pub before_lie : All (λ a. T (ask_lies G a)) (take item (asks G))
  pub asks_something : 1 ≤ (get_or (asks G) item no_ask).demand
  pub on_no_path : ItemOnPath G (get_or (asks G) item no_ask).item → ⊥
  pub no_cover : (W : List Weighted) → IsCover G W → ⊥

-- what a row claims: the answer is accepted, gives these paths at this price, and no cover has a lower one; the refusal; that there is no cover,
-- and that the builder refuses with 8 even where the output has room
abbrev pub RowHolds : Row → Type 0
RowHolds (priced s t W p) =
    (check_verdict s t ≡ nothing_refused) × (cover_of s t ≡ W) × IsLowest whole (graph_of s) W × (price whole (graph_of s) W ≡ pos p)
RowHolds (refused s t number place) = check_verdict s t ≡ refusal number place
RowHolds (shut s item) = ((graph_verdict s).number ≡ 0) × ShutAt (graph_of s) item × (build_verdict s (room_asked s) ≡ refusal 8 item)

abbrev copies : ℕ → List ℕ → Weighted
copies w p = record { weight = w; path = p }

-- D: 4 vertices, demands 1, start 0, end 3; arcs 0-1 cost 2, 0-2 cost 3, 1-3 cost 4, 2-3 cost 5, demands 0; opening 10; no reads. The form has 73 bytes.
abbrev graph_D : List ℕ
graph_D = 0 ∷ 0 ∷ 0 ∷ 73 ∷ 1 ∷ 4 ∷ 0 ∷ 4 ∷ 0 ∷ 0 ∷ 0 ∷ 0 ∷ 10 ∷ 1 ∷ 0 ∷ 0 ∷ 0 ∷ 1 ∷ 0 ∷ 0 ∷ 0 ∷ 0 ∷ 1 ∷ 0 ∷ 0 ∷ 0 ∷ 0 ∷ 1 ∷ 2 ∷ 0 ∷ 0 ∷ 0 ∷ 1 ∷ 0 ∷ 1 ∷ 0 ∷ 0 ∷ 0 ∷ 2 ∷ 0 ∷ 0 ∷ 0 ∷ 0 ∷ 0 ∷ 2 ∷ 0 ∷ 0 ∷ 0 ∷ 3 ∷ 0 ∷ 0 ∷ 0 ∷ 0 ∷ 1 ∷ 3 ∷ 0 ∷ 0 ∷ 0 ∷ 4 ∷ 0 ∷ 0 ∷ 0 ∷ 0 ∷ 2 ∷ 3 ∷ 0 ∷ 0 ∷ 0 ∷ 5 ∷ 0 ∷ 0 ∷ 0 ∷ 0 ∷ []

-- D with read 0 1 3
abbrev graph_D_read : List ℕ
graph_D_read = 0 ∷ 0 ∷ 0 ∷ 77 ∷ 1 ∷ 4 ∷ 0 ∷ 4 ∷ 1 ∷ 0 ∷ 0 ∷ 0 ∷ 10 ∷ 1 ∷ 0 ∷ 0 ∷ 0 ∷ 1 ∷ 0 ∷ 0 ∷ 0 ∷ 0 ∷ 1 ∷ 0 ∷ 0 ∷ 0 ∷ 0 ∷ 1 ∷ 2 ∷ 0 ∷ 0 ∷ 0 ∷ 1 ∷ 0 ∷ 1 ∷ 0 ∷ 0 ∷ 0 ∷ 2 ∷ 0 ∷ 0 ∷ 0 ∷ 0 ∷ 0 ∷ 2 ∷ 0 ∷ 0 ∷ 0 ∷ 3 ∷ 0 ∷ 0 ∷ 0 ∷ 0 ∷ 1 ∷ 3 ∷ 0 ∷ 0 ∷ 0 ∷ 4 ∷ 0 ∷ 0 ∷ 0 ∷ 0 ∷ 2 ∷ 3 ∷ 0 ∷ 0 ∷ 0 ∷ 5 ∷ 0 ∷ 0 ∷ 0 ∷ 0 ∷ 3 ∷ 0 ∷ 1 ∷ 3 ∷ []

-- D with demand 3 on arc 0-1
abbrev graph_D_three : List ℕ
graph_D_three = 0 ∷ 0 ∷ 0 ∷ 73 ∷ 1 ∷ 4 ∷ 0 ∷ 4 ∷ 0 ∷ 0 ∷ 0 ∷ 0 ∷ 10 ∷ 1 ∷ 0 ∷ 0 ∷ 0 ∷ 1 ∷ 0 ∷ 0 ∷ 0 ∷ 0 ∷ 1 ∷ 0 ∷ 0 ∷ 0 ∷ 0 ∷ 1 ∷ 2 ∷ 0 ∷ 0 ∷ 0 ∷ 1 ∷ 0 ∷ 1 ∷ 0 ∷ 0 ∷ 0 ∷ 2 ∷ 0 ∷ 0 ∷ 0 ∷ 3 ∷ 0 ∷ 2 ∷ 0 ∷ 0 ∷ 0 ∷ 3 ∷ 0 ∷ 0 ∷ 0 ∷ 0 ∷ 1 ∷ 3 ∷ 0 ∷ 0 ∷ 0 ∷ 4 ∷ 0 ∷ 0 ∷ 0 ∷ 0 ∷ 2 ∷ 3 ∷ 0 ∷ 0 ∷ 0 ∷ 5 ∷ 0 ∷ 0 ∷ 0 ∷ 0 ∷ []

-- One vertex, flags 3, demand 1, opening 10
abbrev graph_one : List ℕ
graph_one = 0 ∷ 0 ∷ 0 ∷ 18 ∷ 1 ∷ 1 ∷ 0 ∷ 0 ∷ 0 ∷ 0 ∷ 0 ∷ 0 ∷ 10 ∷ 3 ∷ 0 ∷ 0 ∷ 0 ∷ 1 ∷ []

-- the same with demand 0
abbrev graph_none : List ℕ
graph_none = 0 ∷ 0 ∷ 0 ∷ 18 ∷ 1 ∷ 1 ∷ 0 ∷ 0 ∷ 0 ∷ 0 ∷ 0 ∷ 0 ∷ 10 ∷ 3 ∷ 0 ∷ 0 ∷ 0 ∷ 0 ∷ []

-- the same with flag 1, demand 1
abbrev graph_shut : List ℕ
graph_shut = 0 ∷ 0 ∷ 0 ∷ 18 ∷ 1 ∷ 1 ∷ 0 ∷ 0 ∷ 0 ∷ 0 ∷ 0 ∷ 0 ∷ 10 ∷ 1 ∷ 0 ∷ 0 ∷ 0 ∷ 1 ∷ []

-- L: starts 0 and 2, ends 3 and 4, arcs 0-1, 1-2, 2-3, 2-4 at cost 1, vertex demands 1, arc demands 0, opening 10, reads 0 1 2, 2 4 and 1 2 3
abbrev graph_L : List ℕ
graph_L = 0 ∷ 0 ∷ 0 ∷ 89 ∷ 1 ∷ 5 ∷ 0 ∷ 4 ∷ 3 ∷ 0 ∷ 0 ∷ 0 ∷ 10 ∷ 1 ∷ 0 ∷ 0 ∷ 0 ∷ 1 ∷ 0 ∷ 0 ∷ 0 ∷ 0 ∷ 1 ∷ 1 ∷ 0 ∷ 0 ∷ 0 ∷ 1 ∷ 2 ∷ 0 ∷ 0 ∷ 0 ∷ 1 ∷ 2 ∷ 0 ∷ 0 ∷ 0 ∷ 1 ∷ 0 ∷ 1 ∷ 0 ∷ 0 ∷ 0 ∷ 1 ∷ 0 ∷ 0 ∷ 0 ∷ 0 ∷ 1 ∷ 2 ∷ 0 ∷ 0 ∷ 0 ∷ 1 ∷ 0 ∷ 0 ∷ 0 ∷ 0 ∷ 2 ∷ 3 ∷ 0 ∷ 0 ∷ 0 ∷ 1 ∷ 0 ∷ 0 ∷ 0 ∷ 0 ∷ 2 ∷ 4 ∷ 0 ∷ 0 ∷ 0 ∷ 1 ∷ 0 ∷ 0 ∷ 0 ∷ 0 ∷ 3 ∷ 0 ∷ 1 ∷ 2 ∷ 2 ∷ 2 ∷ 4 ∷ 3 ∷ 1 ∷ 2 ∷ 3 ∷ []

-- X: starts 0 and 1, ends 3 and 4, arcs 0-2, 1-2, 2-3, 2-4 at cost 1, demands as in L, opening 10, reads 0 2 3 and 1 2 4
abbrev graph_X : List ℕ
graph_X = 0 ∷ 0 ∷ 0 ∷ 86 ∷ 1 ∷ 5 ∷ 0 ∷ 4 ∷ 2 ∷ 0 ∷ 0 ∷ 0 ∷ 10 ∷ 1 ∷ 0 ∷ 0 ∷ 0 ∷ 1 ∷ 1 ∷ 0 ∷ 0 ∷ 0 ∷ 1 ∷ 0 ∷ 0 ∷ 0 ∷ 0 ∷ 1 ∷ 2 ∷ 0 ∷ 0 ∷ 0 ∷ 1 ∷ 2 ∷ 0 ∷ 0 ∷ 0 ∷ 1 ∷ 0 ∷ 2 ∷ 0 ∷ 0 ∷ 0 ∷ 1 ∷ 0 ∷ 0 ∷ 0 ∷ 0 ∷ 1 ∷ 2 ∷ 0 ∷ 0 ∷ 0 ∷ 1 ∷ 0 ∷ 0 ∷ 0 ∷ 0 ∷ 2 ∷ 3 ∷ 0 ∷ 0 ∷ 0 ∷ 1 ∷ 0 ∷ 0 ∷ 0 ∷ 0 ∷ 2 ∷ 4 ∷ 0 ∷ 0 ∷ 0 ∷ 1 ∷ 0 ∷ 0 ∷ 0 ∷ 0 ∷ 3 ∷ 0 ∷ 2 ∷ 3 ∷ 3 ∷ 1 ∷ 2 ∷ 4 ∷ []

-- both paths of D at price 34, with marks 10/10, 12/-4, 13/-5, 0/0
abbrev answer_D : List ℕ
answer_D = 0 ∷ 0 ∷ 0 ∷ 63 ∷ 1 ∷ 0 ∷ 2 ∷ 0 ∷ 0 ∷ 0 ∷ 0 ∷ 0 ∷ 0 ∷ 0 ∷ 34 ∷ 0 ∷ 0 ∷ 0 ∷ 10 ∷ 0 ∷ 0 ∷ 0 ∷ 10 ∷ 0 ∷ 0 ∷ 0 ∷ 12 ∷ 255 ∷ 255 ∷ 255 ∷ 252 ∷ 0 ∷ 0 ∷ 0 ∷ 13 ∷ 255 ∷ 255 ∷ 255 ∷ 251 ∷ 0 ∷ 0 ∷ 0 ∷ 0 ∷ 0 ∷ 0 ∷ 0 ∷ 0 ∷ 0 ∷ 0 ∷ 0 ∷ 1 ∷ 3 ∷ 0 ∷ 1 ∷ 3 ∷ 0 ∷ 0 ∷ 0 ∷ 1 ∷ 3 ∷ 0 ∷ 2 ∷ 3 ∷ []

-- the marked rows
unfoldable pub rows : List Row
rows =
    priced graph_D answer_D (copies 1 (0 ∷ 1 ∷ 3 ∷ []) ∷ copies 1 (0 ∷ 2 ∷ 3 ∷ []) ∷ []) 34 ∷
    priced graph_D_read answer_D (copies 1 (0 ∷ 1 ∷ 3 ∷ []) ∷ copies 1 (0 ∷ 2 ∷ 3 ∷ []) ∷ []) 34 ∷
    priced graph_D_three (0 ∷ 0 ∷ 0 ∷ 63 ∷ 1 ∷ 0 ∷ 2 ∷ 0 ∷ 0 ∷ 0 ∷ 0 ∷ 0 ∷ 0 ∷ 0 ∷ 66 ∷ 0 ∷ 0 ∷ 0 ∷ 10 ∷ 0 ∷ 0 ∷ 0 ∷ 10 ∷ 255 ∷ 255 ∷ 255 ∷ 252 ∷ 255 ∷ 255 ∷ 255 ∷ 252 ∷ 0 ∷ 0 ∷ 0 ∷ 13 ∷ 255 ∷ 255 ∷ 255 ∷ 251 ∷ 0 ∷ 0 ∷ 0 ∷ 0 ∷ 0 ∷ 0 ∷ 0 ∷ 0 ∷ 0 ∷ 0 ∷ 0 ∷ 3 ∷ 3 ∷ 0 ∷ 1 ∷ 3 ∷ 0 ∷ 0 ∷ 0 ∷ 1 ∷ 3 ∷ 0 ∷ 2 ∷ 3 ∷ []) (copies 3 (0 ∷ 1 ∷ 3 ∷ []) ∷ copies 1 (0 ∷ 2 ∷ 3 ∷ []) ∷ []) 66 ∷
    priced graph_one (0 ∷ 0 ∷ 0 ∷ 29 ∷ 1 ∷ 0 ∷ 1 ∷ 0 ∷ 0 ∷ 0 ∷ 0 ∷ 0 ∷ 0 ∷ 0 ∷ 10 ∷ 0 ∷ 0 ∷ 0 ∷ 10 ∷ 0 ∷ 0 ∷ 0 ∷ 0 ∷ 0 ∷ 0 ∷ 0 ∷ 1 ∷ 1 ∷ 0 ∷ []) (copies 1 (0 ∷ []) ∷ []) 10 ∷
    priced graph_none (0 ∷ 0 ∷ 0 ∷ 23 ∷ 1 ∷ 0 ∷ 0 ∷ 0 ∷ 0 ∷ 0 ∷ 0 ∷ 0 ∷ 0 ∷ 0 ∷ 0 ∷ 0 ∷ 0 ∷ 0 ∷ 0 ∷ 0 ∷ 0 ∷ 0 ∷ 0 ∷ []) ([]) 0 ∷
    shut graph_shut 0 ∷
    priced graph_L (0 ∷ 0 ∷ 0 ∷ 71 ∷ 1 ∷ 0 ∷ 2 ∷ 0 ∷ 0 ∷ 0 ∷ 0 ∷ 0 ∷ 0 ∷ 0 ∷ 24 ∷ 0 ∷ 0 ∷ 0 ∷ 10 ∷ 0 ∷ 0 ∷ 0 ∷ 10 ∷ 0 ∷ 0 ∷ 0 ∷ 10 ∷ 0 ∷ 0 ∷ 0 ∷ 10 ∷ 0 ∷ 0 ∷ 0 ∷ 10 ∷ 0 ∷ 0 ∷ 0 ∷ 0 ∷ 0 ∷ 0 ∷ 0 ∷ 0 ∷ 0 ∷ 0 ∷ 0 ∷ 0 ∷ 0 ∷ 0 ∷ 0 ∷ 0 ∷ 0 ∷ 0 ∷ 0 ∷ 0 ∷ 0 ∷ 0 ∷ 0 ∷ 1 ∷ 4 ∷ 0 ∷ 1 ∷ 2 ∷ 3 ∷ 0 ∷ 0 ∷ 0 ∷ 1 ∷ 2 ∷ 2 ∷ 4 ∷ []) (copies 1 (0 ∷ 1 ∷ 2 ∷ 3 ∷ []) ∷ copies 1 (2 ∷ 4 ∷ []) ∷ []) 24 ∷
    priced graph_X (0 ∷ 0 ∷ 0 ∷ 71 ∷ 1 ∷ 0 ∷ 2 ∷ 0 ∷ 0 ∷ 0 ∷ 0 ∷ 0 ∷ 0 ∷ 0 ∷ 24 ∷ 0 ∷ 0 ∷ 0 ∷ 10 ∷ 0 ∷ 0 ∷ 0 ∷ 0 ∷ 0 ∷ 0 ∷ 0 ∷ 10 ∷ 0 ∷ 0 ∷ 0 ∷ 0 ∷ 0 ∷ 0 ∷ 0 ∷ 0 ∷ 0 ∷ 0 ∷ 0 ∷ 0 ∷ 0 ∷ 0 ∷ 0 ∷ 0 ∷ 0 ∷ 0 ∷ 0 ∷ 0 ∷ 0 ∷ 0 ∷ 0 ∷ 0 ∷ 0 ∷ 0 ∷ 0 ∷ 0 ∷ 0 ∷ 0 ∷ 0 ∷ 1 ∷ 3 ∷ 0 ∷ 2 ∷ 3 ∷ 0 ∷ 0 ∷ 0 ∷ 1 ∷ 3 ∷ 1 ∷ 2 ∷ 4 ∷ []) (copies 1 (0 ∷ 2 ∷ 3 ∷ []) ∷ copies 1 (1 ∷ 2 ∷ 4 ∷ []) ∷ []) 24 ∷
    refused graph_D (0 ∷ 0 ∷ 0 ∷ 63 ∷ 1 ∷ 0 ∷ 2 ∷ 0 ∷ 0 ∷ 0 ∷ 0 ∷ 0 ∷ 0 ∷ 0 ∷ 34 ∷ 0 ∷ 0 ∷ 0 ∷ 0 ∷ 0 ∷ 0 ∷ 0 ∷ 0 ∷ 0 ∷ 0 ∷ 0 ∷ 0 ∷ 0 ∷ 0 ∷ 0 ∷ 0 ∷ 0 ∷ 0 ∷ 0 ∷ 0 ∷ 0 ∷ 0 ∷ 0 ∷ 0 ∷ 0 ∷ 0 ∷ 0 ∷ 0 ∷ 0 ∷ 0 ∷ 0 ∷ 0 ∷ 0 ∷ 0 ∷ 0 ∷ 1 ∷ 3 ∷ 0 ∷ 1 ∷ 3 ∷ 0 ∷ 0 ∷ 0 ∷ 1 ∷ 3 ∷ 0 ∷ 2 ∷ 3 ∷ []) 22 0 ∷
    refused graph_D (0 ∷ 0 ∷ 0 ∷ 63 ∷ 1 ∷ 0 ∷ 2 ∷ 0 ∷ 0 ∷ 0 ∷ 0 ∷ 0 ∷ 0 ∷ 0 ∷ 34 ∷ 0 ∷ 0 ∷ 0 ∷ 11 ∷ 0 ∷ 0 ∷ 0 ∷ 10 ∷ 0 ∷ 0 ∷ 0 ∷ 12 ∷ 255 ∷ 255 ∷ 255 ∷ 252 ∷ 0 ∷ 0 ∷ 0 ∷ 13 ∷ 255 ∷ 255 ∷ 255 ∷ 251 ∷ 0 ∷ 0 ∷ 0 ∷ 0 ∷ 0 ∷ 0 ∷ 0 ∷ 0 ∷ 0 ∷ 0 ∷ 0 ∷ 1 ∷ 3 ∷ 0 ∷ 1 ∷ 3 ∷ 0 ∷ 0 ∷ 0 ∷ 1 ∷ 3 ∷ 0 ∷ 2 ∷ 3 ∷ []) 21 0 ∷
    refused graph_D (0 ∷ 0 ∷ 0 ∷ 63 ∷ 1 ∷ 0 ∷ 2 ∷ 0 ∷ 0 ∷ 0 ∷ 0 ∷ 0 ∷ 0 ∷ 0 ∷ 33 ∷ 0 ∷ 0 ∷ 0 ∷ 10 ∷ 0 ∷ 0 ∷ 0 ∷ 10 ∷ 0 ∷ 0 ∷ 0 ∷ 12 ∷ 255 ∷ 255 ∷ 255 ∷ 252 ∷ 0 ∷ 0 ∷ 0 ∷ 13 ∷ 255 ∷ 255 ∷ 255 ∷ 251 ∷ 0 ∷ 0 ∷ 0 ∷ 0 ∷ 0 ∷ 0 ∷ 0 ∷ 0 ∷ 0 ∷ 0 ∷ 0 ∷ 1 ∷ 3 ∷ 0 ∷ 1 ∷ 3 ∷ 0 ∷ 0 ∷ 0 ∷ 1 ∷ 3 ∷ 0 ∷ 2 ∷ 3 ∷ []) 20 0 ∷
    refused graph_D (0 ∷ 0 ∷ 0 ∷ 55 ∷ 1 ∷ 0 ∷ 1 ∷ 0 ∷ 0 ∷ 0 ∷ 0 ∷ 0 ∷ 0 ∷ 0 ∷ 16 ∷ 0 ∷ 0 ∷ 0 ∷ 10 ∷ 0 ∷ 0 ∷ 0 ∷ 10 ∷ 0 ∷ 0 ∷ 0 ∷ 12 ∷ 255 ∷ 255 ∷ 255 ∷ 252 ∷ 0 ∷ 0 ∷ 0 ∷ 13 ∷ 255 ∷ 255 ∷ 255 ∷ 251 ∷ 0 ∷ 0 ∷ 0 ∷ 0 ∷ 0 ∷ 0 ∷ 0 ∷ 0 ∷ 0 ∷ 0 ∷ 0 ∷ 1 ∷ 3 ∷ 0 ∷ 1 ∷ 3 ∷ []) 19 2 ∷
    []
