-- `Paths::find` meets its contract: what the comparison says of a row tells where the path stands or belongs.
use Rattle.std.proofs.Common.{nat_cmp, sym, ap, ◌∙◌, arith}
use Rattle.std.specs.Cmp.Lexicographic.{slice_cmp}
use Rattle.paths.proofs.PeelLawsTable.{less_before, equal_same, belongs_behind}
use Rattle.paths.proofs.collect.Paths.find.Goals as goal

pub returns-in-Equal : goal.returns-in-Equal
returns-in-Equal c = (omega arith, equal_same _ _ (sym c.in-Equal.is ∙ c.cmp.ensures) ∙ c.vertices.ensures)

pub returns-in-Greater : goal.returns-in-Greater
returns-in-Greater c =
    belongs_behind _ _ _ c.loop-i-test.true c.loop-i.invariant
    (sym c.in-Greater.is ∙ c.cmp.ensures ∙ ap (slice_cmp nat_cmp c.args.vertices.now) c.vertices.ensures)

pub loop-i-preserved : goal.loop-i-preserved
loop-i-preserved c =
    let less = less_before c.args.vertices.now c.vertices.result.now (sym c.in-Less.is ∙ c.cmp.ensures) in
    record {
      within = omega (arith, c.loop-i.invariant.within);
      after = λ h. rw c.vertices.ensures at less;
    }
