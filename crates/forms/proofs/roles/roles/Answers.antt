-- `forms::roles::roles` fills the table: up to v each vertex has its role, and from there on each is neither.
use borrow.Author.Rules.{rules}
use Rattle.forms.proofs.Filling.{fill_none, fill_more}
use Rattle.forms.proofs.RoleLaws.{role_flagged, all_blank, less_blank, all_roles}
use Rattle.forms.proofs.roles.roles.Goals as goal

pub loop-v-init : goal.loop-v-init
loop-v-init c = (fill_none (search rules), all_blank)

pub vertex_flags-flag-requires : goal.vertex_flags-flag-requires
vertex_flags-flag-requires c = (c.requires.vertices c.loop-v.v (search rules)).whole

pub loop-v-preserved : goal.loop-v-preserved
loop-v-preserved c = let i = c.loop-v.invariant in (fill_more i.0 (search rules) (role_flagged _ _ (search rules) c.vertex_flags-flag.ensures.value), less_blank _ _ _ i.1)

pub returns : goal.returns
returns c = all_roles c.loop-v.invariant.0 c.loop-v.invariant.1 (search rules)
