-- The lines of the paths of an accepted answer: what the loops that store and that measure them keep from turn to turn. Both walk the path records of the
-- answer bytes that were checked.
use Prim.Native.Nat.{ℕ, ◌+◌, ◌-◌, ◌*◌, ◌≤◌, ◌<◌}
use native.Mathlib.Nat.{sub-zero}
use native.Mathlib.Numerals.{add-one}
use native.Mathlib.Omega.{arith}
use mathlib.Core.Path.{◌≡◌, sym, ap, ◌∙◌}
use mathlib.Core.List.{List, ◌++◌}
use lib.ListN.{length, take, drop, length-append, length-take}
use Rattle.forms.specs.AnswerForm.{path_count, first_path_at, path_header_length, path_length, path_vertices, path_end}
use Rattle.forms.specs.Bytes.{be32, part}
use Rattle.forms.specs.Limits.{room_vertices, room_paths}
use Rattle.checker.specs.Check.{check_verdict, path_at, handed_out}
use Rattle.text.specs.Text.{TextFits, Puts}
use Rattle.text.proofs.Storing.{Still, still_all, still_none}
use Rattle.listing.specs.Lines.{path_line}
use Rattle.forms.proofs.LayoutLaws.{path_length_limit, vertices_room}
use Rattle.listing.specs.Listing.{path_lines, longest_line}
use Rattle.listing.proofs.Accepted.{path_here, path_at_next, path_lines_next, all_lines_few}

-- k of the count paths are passed, and the record of path k begins at the offset `path`
pub record Passed (s t : List ℕ) (count path k : ℕ) : Type 0 where
  pub accepted : (check_verdict s t).number ≡ 0
  pub counted : count ≡ path_count t
  pub passed : k ≤ count
  pub placed : path ≡ path_at s t k (first_path_at s)

pub none_passed : {s t : List ℕ} {count path k : ℕ} → (check_verdict s t).number ≡ 0 → count ≡ path_count t → path ≡ first_path_at s → k ≡ 0 →
    Passed s t count path k
none_passed e c p z = rw z (record { accepted = e; counted = c; passed = omega arith; placed = p })

module _ {s t : List ℕ} {count path k : ℕ} (l : k < count) (h : Passed s t count path k) where
  here : k < path_count t
  here = omega (arith, h.counted)

  -- the record of path k lies within the answer
  pub path_inside : path_end s t path ≤ length t
  path_inside = rw h.placed (path_here s t k h.accepted here).right.within

  -- the bytes of its vertices are those that the checker hands out
  pub vertices_handed : {first behind : ℕ} → first ≡ path + path_header_length s → behind ≡ path_end s t path → take (behind - first) (drop first t) ≡ handed_out s t k
  unfolding part
  vertices_handed {first} {behind} f b =
      let long : behind - first ≡ path_length s t path = omega arith in
      rw (long, f) (ap (path_vertices s t) h.placed ∙ sym (path_here s t k h.accepted here).vertices)

  pub vertices_few : {first behind : ℕ} → first ≡ path + path_header_length s → behind ≡ path_end s t path → length (take (behind - first) (drop first t)) ≤ room_vertices
  vertices_few {first} {behind} f b =
      rw length-take (omega (arith, (path_here s t k h.accepted here).right.few_vertices, ap (path_length s t) h.placed, path_length_limit s, vertices_room s))

  -- its line is the next of those that are left
  pub lines_next : (weight : ℕ) (vertices : List ℕ) → weight ≡ be32 t path → vertices ≡ handed_out s t k →
      path_lines s t (path_count t - k) k ≡ path_line weight vertices ++ path_lines s t (path_count t - (k + 1)) (k + 1)
  lines_next weight vertices w v = rw (w, v, h.placed) (path_lines_next s t (path_count t) k here)

  pub one_passed : {behind : ℕ} → behind ≡ path_end s t path → Passed s t count behind (k + 1)
  one_passed e =
      record {
        accepted = h.accepted;
        counted = h.counted;
        passed = omega arith;
        placed = e ∙ (ap (path_end s t) h.placed ∙ sym (rw add-one (path_at_next s t k (first_path_at s))));
      }

-- Storing: the lines of the passed paths are stored, the others are still to be.
abbrev pub LinesLeft : (s t before : List ℕ) (start : ℕ) (out : List ℕ) (end k : ℕ) → Type 0
LinesLeft s t before start out end k = Still before start (path_lines s t (path_count t) 0) out end (path_lines s t (path_count t - k) k)

pub lines_start : (s t : List ℕ) {out : List ℕ} {at k : ℕ} → TextFits out at (path_lines s t (path_count t) 0) → k ≡ 0 → LinesLeft s t out at out at k
lines_start s t h z = rw (z, sub-zero) (still_all h)

pub line_next : {s t before : List ℕ} {start : ℕ} {out : List ℕ} {count path end k : ℕ} (l : k < count) (p : Passed s t count path k) (weight : ℕ) (vertices : List ℕ) →
    weight ≡ be32 t path → vertices ≡ handed_out s t k → LinesLeft s t before start out end k →
    Still before start (path_lines s t (path_count t) 0) out end (path_line weight vertices ++ path_lines s t (path_count t - (k + 1)) (k + 1))
line_next l p weight vertices w v h = rw (lines_next l p weight vertices w v) at h

pub lines_end : {s t before : List ℕ} {start : ℕ} {out : List ℕ} {count path end k : ℕ} → count ≤ k → Passed s t count path k → LinesLeft s t before start out end k →
    Puts before start (path_lines s t (path_count t) 0) out end
lines_end {s} {t} {k = k} l p h =
    let e : path_count t - k ≡ 0 = omega (arith, p.counted) in
    still_none (rw e at h)

-- Measuring: so many bytes are counted, and those of the lines left make up the whole.
abbrev pub BytesLeft : (s t : List ℕ) (bytes k : ℕ) → Type 0
BytesLeft s t bytes k = bytes + length (path_lines s t (path_count t - k) k) ≡ length (path_lines s t (path_count t) 0)

pub bytes_start : (s t : List ℕ) {bytes k : ℕ} → bytes ≡ 0 → k ≡ 0 → BytesLeft s t bytes k
bytes_start s t e z = rw (e, z, sub-zero) (omega arith)

pub bytes_next : {s t : List ℕ} {count path k : ℕ} (l : k < count) (p : Passed s t count path k) (bytes more weight : ℕ) (vertices : List ℕ) →
    weight ≡ be32 t path → vertices ≡ handed_out s t k → more ≡ length (path_line weight vertices) → BytesLeft s t bytes k → BytesLeft s t (bytes + more) (k + 1)
bytes_next {s} {t} {k = k} l p bytes more weight vertices w v m h =
    let next = ap length (lines_next l p weight vertices w v) in
    omega (arith, next, length-append (path_line weight vertices) (path_lines s t (path_count t - (k + 1)) (k + 1)))

-- no more bytes are counted than the lines can have
pub bytes_few : {s t : List ℕ} {count path k : ℕ} → Passed s t count path k → (bytes j : ℕ) → BytesLeft s t bytes j → bytes ≤ longest_line * room_paths
bytes_few {s} {t} p bytes j h = omega (arith, all_lines_few s t p.accepted)

pub bytes_end : {s t : List ℕ} {count path k : ℕ} → count ≤ k → Passed s t count path k → (bytes : ℕ) → BytesLeft s t bytes k →
    bytes ≡ length (path_lines s t (path_count t) 0)
bytes_end {s} {t} {k = k} l p bytes h =
    let e : path_count t - k ≡ 0 = omega (arith, p.counted) in
    omega (arith, h, ap (λ n. length (path_lines s t n k)) e)
