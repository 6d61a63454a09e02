-- `builder::build::keep_useful` meets its contract: what the table says of each vertex is what the tables of reach say.
use Rattle.std.proofs.Common.{◌≡◌, rules, ◌∙◌, ap₂, ◌&&◌, false, get_or}
use Rattle.builder.proofs.build.keep_useful.Goals as goal

pub returns : goal.returns
returns c =
    record {
      long = search rules;
      says = λ v l.
          let h = c.table_of.ensures v (search rules) in
          let both : get_or c.table_of.result v false ≡ (get_or c.args.reach.now.reached v false && get_or c.args.reach.now.reaching v false) = search rules in
          both ∙ ap₂ (λ x y. x && y) (c.requires.starts.says v l) (c.requires.ends.says v l);
    }
