-- A part of a byte string: by its first byte, empty, and its length.
use Prim.Native.Nat.{ℕ, ◌+◌, ◌≤◌}
use native.Mathlib.Omega.{arith}
use mathlib.Core.Path.{◌≡◌}
use mathlib.Core.List.{List}
use lib.ListN.{length, length-take, length-drop}
use Rattle.forms.specs.Bytes.{part}

pub part_length : (s : List ℕ) (a n : ℕ) → a + n ≤ length s → length (part s a n) ≡ n
unfolding part
part_length s a n h = simp (length-take, length-drop) (omega arith)
