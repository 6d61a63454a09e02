-- `checker::check::hand_out` gives the part that `find_path` finds: in the answer's own memory, so many bytes behind its first.
use Rattle.std.proofs.Common.{refl, arith}
use Rattle.checker.proofs.HandedOut.{found_within, found_bytes, found_nothing}
use Rattle.checker.proofs.check.hand_out.Goals as goal

pub overflow_add-result : goal.overflow_add-result
overflow_add-result c = let f = c.in-Ok.ensures in omega (arith, found_within f)

pub slice_bounds-result-end : goal.slice_bounds-result-end
slice_bounds-result-end c = let f = c.in-Ok.ensures in omega (arith, found_within f)

pub returns-in-Ok : goal.returns-in-Ok
returns-in-Ok c =
    let f = c.in-Ok.ensures in
    record {
      bytes = found_bytes f;
      place = (refl, omega (arith, f.begins));
    }

pub returns-in-Err : goal.returns-in-Err
returns-in-Err c =
    let f = c.in-Err.ensures in
    record {
      bytes = found_nothing f refl _ (omega arith);
      place = (refl, omega (arith, f.begins));
    }
