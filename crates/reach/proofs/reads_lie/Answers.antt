-- `reach::reads_lie` meets its contract: the answer of all reads is that of those not yet passed.
use Rattle.std.proofs.Common.{rules, sym, ◌∙◌}
use Rattle.reach.proofs.ReachLawsLacking.{reads_begin, read_here, reads_turn, reads_stop, reads_end}
use Rattle.reach.proofs.reads_lie.Goals as goal

pub loop-k-init : goal.loop-k-init
loop-k-init c = reads_begin c.requires.1 c.read_count-count.ensures.value c.first_read_at-at.ensures

pub read_lies-requires : goal.read_lies-requires
read_lies-requires c = (c.requires.0, read_here c.requires.1 c.loop-k.invariant (search rules))

pub returns-then-not-read_lies : goal.returns-then-not-read_lies
returns-then-not-read_lies c = rw (c.new.ensures.0, c.new.ensures.1) (reads_stop c.requires.1 c.loop-k.invariant (search rules) (sym c.read_lies.ensures ∙ c.if-not-read_lies.true))

pub loop-k-preserved : goal.loop-k-preserved
loop-k-preserved c = reads_turn c.requires.1 c.loop-k.invariant (search rules) c.read_end-at.ensures (sym c.read_lies.ensures ∙ c.if-not-read_lies.false)

pub returns : goal.returns
returns c = reads_end c.requires.1 c.loop-k.invariant (search rules)
