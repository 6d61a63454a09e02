use Rattle.std.proofs.Common.{arith, rules}
use Rattle.std.proofs.lemmas.Slice.{overwrites}
use Rattle.wiring.proofs.LayLawsLoad.{load_behind}
use Rattle.wiring.proofs.LayLaws.{counted}
use Rattle.wiring.proofs.load_ends.Goals as goal

pub returns : goal.returns
returns c =
    let p = c.requires in
    load_behind (counted p.reads.0 c.vertex_count-n.ensures.value c.arc_count-m.ensures.value) p.loads_laid p.reads.1 p.reads.2
    (search (rules, overwrites)) (omega arith) (search (rules, overwrites)) (omega arith)
