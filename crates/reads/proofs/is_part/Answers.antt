-- `reads::is_part` meets its contract: a read that rises has one place for a part, where the part's first number stands.
use Rattle.std.proofs.Common.{◌∙◌, ne_eqb, rules}
use Rattle.reads.proofs.TableLaws.{part_short, part_last, part_run, part_inside, part_else}
use Rattle.reads.proofs.is_part.Goals as goal

pub returns-then-outer-inner : goal.returns-then-outer-inner
returns-then-outer-inner c = part_short _ _ c.requires.inner c.requires.outer (search rules)

pub returns-then-outer-inner-2 : goal.returns-then-outer-inner-2
returns-then-outer-inner-2 c = part_last _ _ c.requires.inner c.requires.outer (search rules)

pub bounds-outer-p : goal.bounds-outer-p
bounds-outer-p c = part_inside _ _ c.requires.inner c.requires.outer _ c.place-p.ensures c.if-outer-inner-2.false

pub returns-then-outer-p : goal.returns-then-outer-p
returns-then-outer-p c = c.starts_with.ensures.value ∙ part_run _ _ c.requires.inner c.requires.outer _ c.place-p.ensures

pub returns-else-outer-p : goal.returns-else-outer-p
returns-else-outer-p c =
    ne_eqb _ _ c.if-outer-p.false
    ∙ part_else _ _ c.requires.inner c.requires.outer _ c.place-p.ensures
    (part_inside _ _ c.requires.inner c.requires.outer _ c.place-p.ensures c.if-outer-inner-2.false) c.if-outer-p.false
