-- The hand-out: where nothing is refused, what is handed out is the path of that number in a lowest-price cover and a part of the answer; else it is empty.
-- "it gives the vertex bytes of that path as a part of the answer, or an empty part where the checker would refuse or 23 holds"
use Rattle.std.proofs.lemmas.List.{nil_from_length}
use Rattle.std.proofs.Common.{ℕ, zero, suc, ◌+◌, ◌-◌, ◌≤◌, ◌<◌, arith, ◌≡◌, refl, sym, ap, subst, ◌∙◌, List, [], Bool, true, false, cond, ltb, eqb, ltb→lt, length, get_or, take, drop, length-drop, length-take-le, eqb-true, eq-eqb, ne_eqb}
use Rattle.mathematics.specs.Cover.{Weighted}
use Rattle.forms.specs.AnswerForm.{path_count, first_path_at, path_vertices_at, path_weight, path_length, path_vertices, path_end, path_of, paths_from, cover_of}
use Rattle.forms.specs.Bytes.{part}
use Rattle.forms.specs.GraphFaults.{refusal, nothing_refused}
use Rattle.checker.specs.Check.{check_verdict, hand_out_verdict, path_at, handed_out, handed_out_at}
use Rattle.checker.specs.Accepted.{PathsRight}
use Rattle.checker.specs.HandedOut.{no_path, PartFound, IsPart, HandsOut}
use Rattle.checker.proofs.Accepted.{earlier_first, held, number_zero_accepted}
use Rattle.checker.proofs.Soundness.{accepted_is_lowest}

-- "23: path number asked for not below the number of paths", after 22
pub number_zero_handed_out : (s t : List ℕ) (k : ℕ) → (hand_out_verdict s t k).number ≡ 0 → ((check_verdict s t).number ≡ 0) × (k < path_count t)
unfolding hand_out_verdict
number_zero_handed_out s t k e =
    let h = earlier_first (check_verdict s t) (cond (ltb k (path_count t)) nothing_refused (refusal 23 0)) e in
    (h.0, ltb→lt _ _ (held (ltb k (path_count t)) 22 0 nothing_refused h.1).0)

module _ (s t : List ℕ) where
  pub paths_length : (count at : ℕ) → length (paths_from s t count at) ≡ count
  paths_length zero at = refl
  paths_length (suc count) at = ap suc (paths_length count (path_end s t at))

  -- the record of path k is where path_at says
  path_k : (count at k : ℕ) → k < count → get_or (paths_from s t count at) k no_path ≡ path_of s t (path_at s t k at)
  path_k zero at k h = absurd (omega arith)
  path_k (suc count) at zero h = refl
  path_k (suc count) at (suc k) h = path_k count (path_end s t at) k (omega arith)

  -- and it ends within the answer
  path_k_within : (count at k : ℕ) (before : List ℕ) (copies : ℕ) → PathsRight s t count at before copies → k < count → path_end s t (path_at s t k at) ≤ length t
  path_k_within zero at k before copies h l = absurd (omega arith)
  path_k_within (suc count) at zero before copies h l = h.0.within
  path_k_within (suc count) at (suc k) before copies h l =
      path_k_within count (path_end s t at) k (path_vertices s t at) (copies + path_weight t at) h.1 (omega arith)

-- for every input what is handed out is the part of the answer that begins at handed_out_at
pub handed_out_is_part : (s t : List ℕ) (k : ℕ) → IsPart s t k
unfolding handed_out handed_out_at part
handed_out_is_part s t k = by (eqb (hand_out_verdict s t k).number 0) refl
  where
    by : (b : Bool) → eqb (hand_out_verdict s t k).number 0 ≡ b → IsPart s t k
    by false p = record { within = simp p (omega arith); is_part = simp p }
    by true p =
        let h = number_zero_handed_out s t k (eqb-true _ _ p) in
        let at = path_at s t k (first_path_at s) in
        let inside : path_end s t at ≤ length t = path_k_within s t (path_count t) (first_path_at s) k [] 0 (number_zero_accepted s t h.0).paths h.1 in
        let long = length-take-le (path_length s t at) (drop (path_vertices_at s at) t) (simp length-drop (omega arith)) in
        record { within = simp (p, long) inside; is_part = simp (p, long) }

-- so the part that is found ends within the answer, and its bytes are those handed out
module _ {s t : List ℕ} {k number place offset count : ℕ} (f : PartFound s t k number place offset count) where
  pub found_within : offset + count ≤ length t
  found_within = omega (arith, f.begins, f.long, (handed_out_is_part s t k).within)

  pub found_bytes : take (offset + count - offset) (drop offset t) ≡ handed_out s t k
  unfolding part
  found_bytes =
      let long : offset + count - offset ≡ count = omega arith in
      rw (long, f.begins, f.long) (sym (handed_out_is_part s t k).is_part)

  -- and where no byte is found, any part that has none holds the bytes handed out, wherever it begins
  pub found_nothing : count ≡ 0 → (l : List ℕ) → length l ≡ 0 → l ≡ handed_out s t k
  found_nothing none l e = nil_from_length l e ∙ sym (nil_from_length (handed_out s t k) (sym f.long ∙ none))

-- the vertex bytes of path k of the answer, whose paths are a lowest-price cover of the graph, as a part of the answer
pub handed_out_is_path_k : (s t : List ℕ) (k : ℕ) → (hand_out_verdict s t k).number ≡ 0 → HandsOut s t k
unfolding handed_out cover_of
handed_out_is_path_k s t k e =
    let h = number_zero_handed_out s t k e in
    let at = path_at s t k (first_path_at s) in
    let vertices : handed_out s t k ≡ path_vertices s t at = simp (eq-eqb _ _ e) in
    record {
      lowest = (accepted_is_lowest s t h.0).0;
      is_one = subst (λ n. k < n) (sym (paths_length s t (path_count t) (first_path_at s))) h.1;
      is_path_k = vertices ∙ sym (ap (λ (w : Weighted). w.path) (path_k s t (path_count t) (first_path_at s) k h.1));
      in_answer = handed_out_is_part s t k;
    }

-- an empty part, at the answer's front, where the checker would refuse or 23 holds
pub handed_out_empty : (s t : List ℕ) (k : ℕ) → ((hand_out_verdict s t k).number ≡ 0 → ⊥) → (handed_out s t k ≡ []) × (handed_out_at s t k ≡ 0)
unfolding handed_out handed_out_at
handed_out_empty s t k n = (simp (ne_eqb _ _ n), simp (ne_eqb _ _ n))
