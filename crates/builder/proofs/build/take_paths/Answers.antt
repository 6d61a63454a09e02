-- `builder::build::take_paths` meets its contract: the loads go round, so paths can be taken off them.
use Rattle.std.proofs.Common.{arith}
use Rattle.builder.proofs.FinishLawsStages.{leaves_count, all_keys, peel_ready, opens_few}
use Rattle.builder.proofs.build.take_paths.Goals as goal

pub chain-requires : goal.chain-requires
chain-requires c =
    let p = c.requires.reads in let u = c.requires.in_use in
    all_keys _ p.0 p.1 _ _ _ u.0 u.1 (leaves_count _ _ _ _ p.2) _ _ _ p.3 p.2.table.counted

pub peel_all-requires : goal.peel_all-requires
peel_all-requires c =
    let p = c.requires.reads in let u = c.requires.in_use in let ec = leaves_count _ _ _ _ p.2 in
    record {
      ready = peel_ready _ p.0 p.1 _ _ _ u.0 u.1 ec _ _ _ p.3 c.vertex_count-n.ensures.value _ _ _ _ p.2 c.chain.ensures;
      goes = p.3.goes;
      carries = λ r h. omega (arith, p.3.reads r h);
      low = opens_few _ p.0 p.1 _ _ _ u.0 u.1 ec _ _ _ p.3;
    }
