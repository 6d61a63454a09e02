-- `forms::roles::roles` fills the table: up to v each vertex has its role, and from there on each is neither.
use Rattle.forms.specs.Limits.{room_vertices}
use Rattle.forms.specs.Roles.{neither, role_of}
use Rattle.forms.proofs.Filling.{Filled}
use Rattle.forms.proofs.RoleLaws.{BlankFrom}
use Rattle.forms.proofs.roles.roles.Given as goal

abbrev pub invariant-loop-v : goal.invariant-loop-v
invariant-loop-v l = Filled room_vertices neither (role_of l.s) l.table l.v × BlankFrom l.table l.v
