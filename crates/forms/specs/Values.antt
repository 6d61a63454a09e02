-- The values of the code's types: the empty ones that their constructors give, and those of a form.
use Rattle.std.specs.Prelude.{ℕ, ◌+◌, List, ◌≡◌, replicate}
use Rattle.forms.specs.declared.Header.{Header}
use Rattle.forms.specs.declared.Graph.{Graph}
use Rattle.forms.specs.declared.Answer.{Answer}
use Rattle.forms.specs.Limits.{room_vertices}
use Rattle.forms.specs.GraphForm.{vertex_count, arc_count, read_count, opening_price}
use Rattle.forms.specs.AnswerForm.{path_count, stated_price}
use Rattle.forms.specs.ArcTable.{ArcTable}

abbrev pub empty_header : Header
empty_header = record { vertices = 0; arcs = 0; reads = 0; opening = 0 }

-- no vertex, so no vertex has a first arc
abbrev pub empty_graph : Graph
empty_graph = record { header = empty_header; first = replicate (room_vertices + 1) 0 }

abbrev pub empty_answer : Answer
empty_answer = record { paths = 0; price = 0 }

-- the header of a graph form
abbrev pub header_of : List ℕ → Header
header_of s = record { vertices = vertex_count s; arcs = arc_count s; reads = read_count s; opening = opening_price s }

-- the graph form's header and its table of first arcs
pub record GraphIs (s : List ℕ) (g : Graph) : Type 0 where
  pub header : g.header ≡ header_of s
  pub first : ArcTable s g.first

-- the header of an answer form
abbrev pub answer_of : List ℕ → List ℕ → Answer
answer_of s t = record { paths = path_count t; price = stated_price s t }
