-- Document 01: "A vertex may carry a start flag, an end flag, both or neither." Which vertices of a form's graph are starts and ends, in one table: no code above
-- the forms reads a flag byte for it, so a version that gives starts and ends another way changes `vertex_of` and the filling of this table.
use Rattle.std.specs.Prelude.{ℕ, ◌≡◌, List, false, get_or}
use Rattle.mathematics.specs.Graph.{is_start, is_end}
use Rattle.forms.specs.declared.roles.Role.{Role}
use Rattle.forms.specs.GraphOf.{graph_of}

-- the role of a vertex that is neither, and what stands behind the last vertex
abbrev pub neither : Role
neither = record { start = false; end = false }

-- the role of vertex v in the graph of the form s
abbrev pub role_of : List ℕ → ℕ → Role
role_of s v = record { start = is_start (graph_of s) v; end = is_end (graph_of s) v }

-- the table has for each vertex its role, and for what is behind the last that it is neither
pub record Roles (s : List ℕ) (table : List Role) : Type 0 where
  pub each : (v : ℕ) → get_or table v neither ≡ role_of s v
