-- Which reads a path of an answer holds: laws for the loop that looks for a read along a path, and for the loop over the reads.
use Rattle.std.proofs.Common.{ℕ, zero, suc, ◌+◌, ◌-◌, ◌<◌, ◌≤◌, le_refl, zero-add, add-zero, arith, ◌≡◌, refl, sym, ap, ◌∙◌, List, [], ◌∷◌, Bool, false, ◌&&◌, ◌||◌, eqb, length, get_or, take, drop, set, length-set, length-drop, nat_eq, get_or-set_same, get_or-set_other, ne_eqb}
use Rattle.std.proofs.Math.Nat.{sub-zero}
use Rattle.std.proofs.Math.Decide.{dec_lt}
use Rattle.std.proofs.Math.Bool.{or-false}
use Rattle.std.specs.List.{starts_with}
use Rattle.mathematics.proofs.Basics.{at_all}
use Rattle.std.proofs.Math.Seq.{take-length}
use Rattle.mathematics.specs.Lists.{All, begins, holds}
use Rattle.mathematics.proofs.Parts.{Rising}
use Rattle.forms.specs.Bytes.{part}
use Rattle.forms.specs.GraphForm.{read_count, first_read_at, read_length, read_vertices_at, read_vertices, read_end}
use Rattle.forms.specs.GraphOf.{reads_from}
use Rattle.forms.specs.Limits.{room_reads}
use Rattle.forms.specs.GraphReads.{Reads, ReadRight, ReadsRight}
use Rattle.tally.specs.Tally.{read_of, ReadsMet}

-- a list whose numbers are all above v holds nothing that begins with v
holds_above : (v : ℕ) (r p : List ℕ) → All (λ (w : ℕ). v < w) p → holds p (v ∷ r) ≡ false
holds_above v r [] h = refl
holds_above v r (y ∷ p) h =
    let differs : eqb v y ≡ false = ne_eqb v y (λ e. omega (arith, h.0)) in
    rw (differs, holds_above v r p h.1)

-- the path rises, so it holds what begins with its vertex at place k there, or nowhere
holds_at : (p r : List ℕ) (k : ℕ) → Rising p → 0 < length r → k < length p → get_or p k 0 ≡ get_or r 0 0 → holds p r ≡ begins r (drop k p)
holds_at p [] k h some inside e = absurd (omega arith)
holds_at [] (x ∷ r) k h some inside e = absurd (omega arith)
holds_at (y ∷ p) (x ∷ r) zero h some inside e = rw (← e, holds_above y r p h.0) (or-false _)
holds_at (y ∷ p) (x ∷ r) (suc k) h some inside e =
    let below : y < get_or p k 0 = at_all (λ (w : ℕ). y < w) 0 p h.0 k (omega arith) in
    let differs : eqb x y ≡ false = ne_eqb x y (λ s. omega arith) in
    rw differs (holds_at p (x ∷ r) k h.1 some (omega arith) e)

-- it holds nothing whose first vertex is not on it
pub holds_nowhere : (p r : List ℕ) → 0 < length r → ((k : ℕ) → k < length p → get_or p k 0 ≡ get_or r 0 0 → ⊥) → holds p r ≡ false
holds_nowhere p [] some h = absurd (omega arith)
holds_nowhere [] (x ∷ r) some h = refl
holds_nowhere (y ∷ p) (x ∷ r) some h =
    let differs : eqb x y ≡ false = ne_eqb x y (λ s. h 0 (omega arith) (sym s)) in
    rw differs (holds_nowhere p (x ∷ r) some (λ k l. h (suc k) (omega arith)))

-- a slice's own word for a list that begins with another
begins_is : (r p : List ℕ) → starts_with nat_eq p r ≡ begins r p
begins_is [] p = refl
begins_is (x ∷ r) [] = refl
begins_is (x ∷ r) (y ∷ p) = ap (λ b. eqb x y && b) (begins_is r p)

-- so a slice that begins where the read's first vertex stands decides
pub held : (p r : List ℕ) (k : ℕ) (b : Bool) → Rising p → 0 < length r → (k < length p) × (get_or p k 0 ≡ get_or r 0 0) → b ≡ starts_with nat_eq (take (length p - k) (drop k p)) r → b ≡ holds p r
held p r k b h some at e = e ∙ (rw (← length-drop k p, take-length) (begins_is r (drop k p)) ∙ sym (holds_at p r k h some at.0 at.1))

-- the bytes of a slice
pub slice_part : (t : List ℕ) (b l : ℕ) → take (b + l - b) (drop b t) ≡ part t b l
unfolding part
slice_part t b l = let size : b + l - b ≡ l = omega arith in rw size

pub read_slice : (s : List ℕ) (at : ℕ) {from next : ℕ} → from ≡ read_vertices_at s at → next ≡ read_end s at → take (next - from) (drop from s) ≡ read_vertices s at
read_slice s at e q = rw (q, e) (slice_part s (read_vertices_at s at) (read_length s at))

-- The reads before r are marked, those from r on stand from at on and are as they were.
pub record ReadsLeft (s p : List ℕ) (before met : List Bool) (r at : ℕ) : Type 0 where
  pub within : (r ≤ read_count s) × (read_count s ≤ room_reads) × (length met ≡ room_reads)
  pub right : ReadsRight s (read_count s - r) at
  pub rest : (k : ℕ) → read_of s (r + k) ≡ get_or (reads_from s (read_count s - r) at) k []
  pub done : (k : ℕ) → k < r → get_or met k false ≡ (get_or before k false || holds p (read_of s k))
  pub kept : (k : ℕ) → r ≤ k → get_or met k false ≡ get_or before k false

pub reads_begin : (s p : List ℕ) (met : List Bool) (at : ℕ) → Reads s → length met ≡ room_reads → at ≡ first_read_at s → ReadsLeft s p met met 0 at
reads_begin s p met at h long e =
    record {
      within = omega (arith, h.arcs.header.reads_room);
      right = simp (sub-zero, e) h.reads;
      rest = λ k. simp (sub-zero, zero-add, e);
      done = λ k l. absurd (omega arith);
      kept = λ k l. refl;
    }

module _ {s p : List ℕ} {before met : List Bool} {r at : ℕ} (inv : ReadsLeft s p before met r at) where
  module _ (more : r < read_count s) where
    split : read_count s - r ≡ suc (read_count s - (r + 1))
    split = omega arith

    -- the next read's record is whole
    pub reads_next : ReadRight s at
    reads_next = (rw split at inv.right).0

    this_read : read_of s r ≡ read_vertices s at
    this_read = rw (add-zero, split) at (inv.rest 0)

    later_read : (k : ℕ) → read_of s (r + 1 + k) ≡ get_or (reads_from s (read_count s - (r + 1)) (read_end s at)) k []
    later_read k =
        let e : r + suc k ≡ r + 1 + k = omega arith in
        rw (e, split) at (inv.rest (suc k))

    module _ (m : Bool) {next : ℕ} (ends : next ≡ read_end s at) (e : m ≡ (get_or met r false || holds p (read_vertices s at))) where
      marked : (k : ℕ) → k < r + 1 → Dec (k < r) → get_or (set met r m) k false ≡ (get_or before k false || holds p (read_of s k))
      marked k l (yes h) = get_or-set_other met r k m false (omega arith) ∙ inv.done k h
      marked k l (no h) =
          let same : k ≡ r = omega arith in
          rw (same, get_or-set_same met r m false (omega arith), e, inv.kept r (le_refl r), this_read)

      pub reads_turn : ReadsLeft s p before (set met r m) (r + 1) next
      reads_turn =
          record {
            within = simp length-set (omega arith);
            right = rw ends (rw split at inv.right).1;
            rest = λ k. rw ends (later_read k);
            done = λ k l. marked k l (dec_lt k r);
            kept = λ k l. get_or-set_other met r k m false (omega arith) ∙ inv.kept k (omega arith);
          }

  pub reads_end : read_count s ≤ r → ReadsMet s p before met
  reads_end h = record { long = inv.within.2; met = λ k l. inv.done k (omega arith) }
