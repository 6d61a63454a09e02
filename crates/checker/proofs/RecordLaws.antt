-- Where the records of arcs stand is no matter of overflow.
use Rattle.std.proofs.Common.{ℕ, ◌+◌, ◌<◌, ◌≤◌, arith, refl, List}
use Rattle.forms.specs.GraphForm.{first_arc_at, arc_at, vertex_count}
use Rattle.forms.specs.Limits.{room_vertices, room_arcs}
use Rattle.forms.proofs.LayoutLaws.{vertex_range}

pub arc_place_lem : (s : List ℕ) (a : ℕ) → vertex_count s ≤ room_vertices → a ≤ room_arcs → arc_at s a + 2 < 18446744073709551616
arc_place_lem s a few h = omega (arith, vertex_range s (vertex_count s) (first_arc_at s) refl (omega arith))
