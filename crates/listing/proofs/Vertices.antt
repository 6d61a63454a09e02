-- The vertices of a path, one by one: what the loops that store and that measure their texts keep from turn to turn.
use Rattle.std.proofs.Common.{ℕ, ◌+◌, ◌≤◌, ◌<◌, ◌≡◌, refl, sym, List, ◌++◌, length, get_or, drop, sum_by, length-append, drop_of_length-le, drop-cons, add-one, arith}
use Rattle.std.proofs.lemmas.List.Recursion.{is_sum_by}
use Rattle.text.specs.Text.{Puts, decimal, space}
use Rattle.text.proofs.Storing.{Still, still_none}
use Rattle.listing.specs.Lines.{vertex_texts}

-- v is the next vertex
texts_next : (vertices : List ℕ) (i v : ℕ) → i < length vertices → v ≡ get_or vertices i 0 →
    vertex_texts (drop i vertices) ≡ space ++ (decimal v ++ vertex_texts (drop (i + 1) vertices))
texts_next vertices i v l e = rw (e, add-one i, drop-cons vertices i 0 l)

-- its text is to be stored next
pub vertex_next : {before : List ℕ} {start : ℕ} {text out : List ℕ} {at : ℕ} (vertices : List ℕ) (i v : ℕ) → i < length vertices → v ≡ get_or vertices i 0 →
    Still before start text out at (vertex_texts (drop i vertices)) →
    Still before start text out at (space ++ (decimal v ++ vertex_texts (drop (i + 1) vertices)))
vertex_next vertices i v l e h = rw (texts_next vertices i v l e) at h

pub vertices_end : {before : List ℕ} {start : ℕ} {text out : List ℕ} {at : ℕ} (vertices : List ℕ) (i : ℕ) → length vertices ≤ i →
    Still before start text out at (vertex_texts (drop i vertices)) → Puts before start text out at
vertices_end vertices i l h = still_none (rw (drop_of_length-le vertices l) at h)

-- a space and its digits for each
pub vertices_counted : (vertices : List ℕ) → sum_by (λ v. 1 + length (decimal v)) vertices ≡ length (vertex_texts vertices)
vertices_counted vertices =
    sym (is_sum_by (λ l. length (vertex_texts l)) (λ v. 1 + length (decimal v)) refl (λ v more. simp length-append (omega arith)) vertices)
