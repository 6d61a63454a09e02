-- `writing::put_paths` meets its contract: the record of one path stands behind those of the paths before it.
use Rattle.std.proofs.Common.{◌≡◌, ◌+◌, ◌≤◌, ◌<◌, sym, ap, ◌∙◌, subst, length, arith}
use Rattle.forms.specs.AnswerForm.{path_vertices_at}
use Rattle.forms.specs.Layout.{max_path_length}
use Rattle.forms.proofs.LayoutLaws.{paths_room}
use Rattle.checker.specs.Encode.{path_record}
use Rattle.reads.specs.ReadTable.{row_length}
use Rattle.paths.specs.declared.collect.Path.{Path}
use Rattle.paths.specs.Peel.{weighted_of}
use Rattle.writing.specs.Writing.{Placed}
use Rattle.writing.proofs.WritingLaws.{slice_long, row_of, ends_turn, paths_turn, all_put, record_room}
use Rattle.writing.proofs.put_paths.Goals as goal

pub as_slice-path-items-requires : goal.as_slice-path-items-requires
as_slice-path-items-requires c = omega (arith, c.requires.1.few, paths_room c.args.s.now)

pub put_path-end-requires-clause-room : goal.put_path-end-requires-clause-room
put_path-end-requires-clause-room c =
    let long = slice_long _ _ _ c.requires.1 c.as_slice-path-items.ensures in
    omega (arith, c.loop-path.invariant.0.most, record_room c.args.s.now c.loop-path.path-index c.args.paths.now.count (omega arith))

pub put_path-end-requires-clause-fits : goal.put_path-end-requires-clause-fits
put_path-end-requires-clause-fits c =
    let fit = c.requires.1 in
    let k = c.loop-path.path-index in
    let long = slice_long _ _ _ fit c.as_slice-path-items.ensures in
    let inside : k < c.args.paths.now.count = omega arith in
    let same = row_of _ _ k c.as_slice-path-items.ensures inside in
    subst (λ (p : Path). (p.size ≤ max_path_length c.args.s.now) × (p.weight < 4_294_967_296) × (length p.row ≡ row_length)) (sym same)
    (fit.short k inside, fit.light k inside, fit.wide k inside)

pub loop-path-preserved : goal.loop-path-preserved
loop-path-preserved c =
    let fit = c.requires.1 in
    let l = c.loop-path in
    let k = l.path-index in
    let put = c.put_path-end.ensures in
    let long = slice_long _ _ _ fit c.as_slice-path-items.ensures in
    let inside : k < c.args.paths.now.count = omega arith in
    let same = row_of _ _ k c.as_slice-path-items.ensures inside in (
      ends_turn _ _ k l.end _ (fit.wide k inside) (fit.short k inside) l.invariant.0
          (put.value ∙ ap (λ (p : Path). path_vertices_at c.args.s.now l.end + p.size) same),
      paths_turn _ _ _ _ _ k l.end l.invariant.0 l.invariant.1
          (subst (λ (p : Path). Placed l.out l.end (path_record c.args.s.now (weighted_of p)) c.put_path-end.new.out) same put.placed),
    )

pub returns : goal.returns
returns c =
    let l = c.loop-path in
    let long = slice_long _ _ _ c.requires.1 c.as_slice-path-items.ensures in
    let all = all_put c.args.s.now c.args.paths.now c.args.out.now l.out l.path-index l.end (omega arith) l.invariant.0 l.invariant.1 in
    record { placed = all.0; value = (all.1, all.2) }
