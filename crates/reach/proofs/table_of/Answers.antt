-- `reach::table_of`: up to v the table holds what `says` says.
use Rattle.std.proofs.Common.{◌<◌, ◌≢◌, length, arith, rules, get_or-set_other, get_or-set_same, below_more}
use Rattle.reach.proofs.table_of.Goals as goal

pub loop-v-preserved : goal.loop-v-preserved
loop-v-preserved g c = (
  search rules,
  below_more _ _
      (λ k h. let ne : k ≢ c.loop-v.v = omega arith in rw get_or-set_other (c.loop-v.invariant.1 k h))
      (let lt : c.loop-v.v < length c.loop-v.table = omega arith in rw get_or-set_same (c.says.ensures)),
)
