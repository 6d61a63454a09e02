-- `builder::build::find_flow` meets its contract: all that has to move is carried, and added to the first loads.
use Rattle.std.proofs.Common.{rules}
use Rattle.builder.proofs.FinishLawsStages.{to_carry, few_edges, to_add, flow_done}
use Rattle.builder.proofs.build.find_flow.Goals as goal

pub carry_all-requires : goal.carry_all-requires
carry_all-requires c =
    let N = c.lay_network.ensures in
    let both = to_carry _ _ c.requires.layable.0 _ _ N.in_use.0 N.in_use.1 _ _ _ _ _ _ _ N.laid _ _ (search rules) c.requires.nothing_moved.0 c.requires.nothing_moved.1 in
    record {
      shape = both.0;
      waiting = both.1;
    }

pub add_loads-requires : goal.add_loads-requires
add_loads-requires c =
    let N = c.lay_network.ensures in
    record {
      few = few_edges _ _ c.requires.layable.0 _ _ N.in_use.0 N.in_use.1 _ _ _ _ _ _ _ N.laid;
      by_index = to_add _ _ c.requires.layable.0 _ _ N.in_use.0 N.in_use.1 _ _ _ _ _ _ _ N.laid _ _ c.carry_all.ensures.by_index;
    }

pub returns : goal.returns
returns c =
    let N = c.lay_network.ensures in
    record {
      flowed = flow_done _ _ c.requires.layable.0 _ _ N.in_use.0 N.in_use.1 _ _ _ _ _ _ _ N.laid _ _ c.carry_all.ensures.by_index _ _ c.add_loads.ensures;
      in_use = N.in_use;
    }
