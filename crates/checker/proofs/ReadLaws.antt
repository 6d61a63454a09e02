-- The reads of a graph form: what is wrong with one, a law for each way through `read_fault`, and a walk over them, which ends with the bytes that remain.
use Rattle.std.proofs.Common.{ℕ, suc, ◌+◌, ◌-◌, ◌<◌, ◌≤◌, arith, ◌≡◌, sym, ◌∙◌, List, length, take, drop, lt-ltb, le-ltb, eq-eqb, ne_eqb}
use native.Mathlib.Nat.{sub-zero}
use Rattle.forms.specs.Bytes.{part}
use Rattle.forms.specs.GraphFaults.{read_fault, reads_verdict, refusal, nothing_refused}
use Rattle.forms.specs.GraphForm.{read_length, read_vertices_at, read_vertices, read_end}

-- the bytes between the places where the vertices of a read begin and end are those vertices
pub read_slice : (s : List ℕ) (at : ℕ) {a b : ℕ} → a ≡ read_vertices_at s at → b ≡ read_end s at → take (b - a) (drop a s) ≡ read_vertices s at
unfolding part
read_slice s at e f =
    let long : read_end s at - read_vertices_at s at ≡ read_length s at = omega arith in
    rw (e, f, long)

-- the answer of all reads is that of those not yet passed
module _ (s : List ℕ) (n from : ℕ) where
  one_right : (k at : ℕ) → read_fault s at ≡ 0 → reads_verdict s (suc k) at ≡ reads_verdict s k (read_end s at)
  unfolding reads_verdict
  one_right k at e = simp (eq-eqb _ _ e)

  one_wrong : (k at : ℕ) → (read_fault s at ≡ 0 → ⊥) → reads_verdict s (suc k) at ≡ refusal (read_fault s at) at
  unfolding reads_verdict
  one_wrong k at e = simp (ne_eqb _ _ e)

  pub reads_begin : reads_verdict s n from ≡ reads_verdict s (n - 0) from
  reads_begin = rw sub-zero

  module _ (k at : ℕ) (inv : reads_verdict s n from ≡ reads_verdict s (n - k) at) where
    module _ (h : k < n) {r : ℕ} (fault : r ≡ read_fault s at) where
      split : n - k ≡ suc (n - (k + 1))
      split = omega arith

      pub reads_turn : (next : ℕ) → r ≡ 0 → next ≡ read_end s at → reads_verdict s n from ≡ reads_verdict s (n - (k + 1)) next
      reads_turn next right e = inv ∙ rw (split, one_right (n - (k + 1)) at (sym fault ∙ right), e)

      pub reads_stop : (r ≡ 0 → ⊥) → refusal r at ≡ reads_verdict s n from
      reads_stop wrong = rw fault (sym (inv ∙ rw (split, one_wrong (n - (k + 1)) at (λ z. wrong (fault ∙ z)))))

    module _ (h : n ≤ k) where
      done : n - k ≡ 0
      done = omega arith

      pub reads_left : at < length s → refusal 5 at ≡ reads_verdict s n from
      unfolding reads_verdict
      reads_left l = sym (inv ∙ rw (done, lt-ltb at (length s) l))

      pub reads_end : length s ≤ at → nothing_refused ≡ reads_verdict s n from
      unfolding reads_verdict
      reads_end l = sym (inv ∙ rw (done, le-ltb at (length s) l))
