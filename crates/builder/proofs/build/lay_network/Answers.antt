-- `builder::build::lay_network` meets its contract: edges, loads, live nodes and balance are laid one after another, each over what the others left.
use Rattle.std.proofs.Common.{rules}
use Rattle.builder.proofs.FinishLawsStages.{leaves_count, edges_none, loads_none, laid_summable, laid_balance, zeros}
use Rattle.network.proofs.NetworkLawsStand.{tally_none}
use Rattle.network.specs.Network.{most_nodes}
use Rattle.builder.proofs.build.lay_network.Goals as goal

pub lay_edges-requires : goal.lay_edges-requires
lay_edges-requires c =
    let Y = c.requires.layable.0 in
    record {
      reads = (Y.reads, c.requires.layable.1, Y.marked);
      leaves = c.requires.reads_ready.table;
      edges_laid = edges_none _ _ _ _ (search rules) (search rules) (search rules);
    }

pub lay_loads-requires : goal.lay_loads-requires
lay_loads-requires c =
    let R = c.requires.reads_ready in
    record {
      reads = (c.requires.layable.0.reads, leaves_count _ _ _ _ R.table, R.table.table.counted);
      vertices_counted = (R.vertices, R.arcs);
      loads_laid = loads_none _ _ (search rules);
    }

pub lay_balance-requires : goal.lay_balance-requires
lay_balance-requires c =
    let Y = c.requires.layable.0 in
    record {
      summable = laid_summable _ _ _ _ c.lay_edges.ensures.in_use.0 c.lay_edges.ensures.in_use.1 (leaves_count _ _ _ _ c.requires.reads_ready.table) Y.reads Y.coverable _ _ _ _ c.lay_edges.ensures.laid c.lay_loads.ensures;
      tallied = rw (c.requires.nothing_moves.0, c.requires.nothing_moves.1) (tally_none _ _ _ _ _ _ (search rules) (search rules) (λ u l. zeros most_nodes u) (λ u l. zeros most_nodes u));
    }

pub returns : goal.returns
returns c =
    record {
      laid = record {
        edges = c.lay_edges.ensures.laid;
        loads = c.lay_loads.ensures;
        nodes = c.lay_live.ensures;
        balance = laid_balance _ _ _ _ c.lay_edges.ensures.in_use.0 c.lay_edges.ensures.in_use.1 (leaves_count _ _ _ _ c.requires.reads_ready.table) _ _ _ _ _ c.lay_balance.ensures;
      };
      in_use = c.lay_edges.ensures.in_use;
    }
