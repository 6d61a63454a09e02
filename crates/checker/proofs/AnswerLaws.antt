-- What reading an answer form gives: a law for each way through the functions that test its header, marks and paths.
use Rattle.std.proofs.Common.{ℕ, zero, suc, ◌+◌, ◌-◌, ◌*◌, ◌<◌, ◌≤◌, arith, ◌≡◌, refl, sym, ap, ◌∙◌, List, Bool, true, false, cond, not, ◌||◌, ltb, eqb, length, eq-eqb, ne_eqb}
use native.Mathlib.Nat.{sub-zero}
use Rattle.std.specs.Prelude.{Some}
use Rattle.std.specs.Cmp.Lexicographic.{slice_partial_cmp}
use Rattle.std.specs.Ordering.{nat_cmp, is_le, is_some_and}
use Rattle.std.proofs.lemmas.Bool.Decides.{nat_tests}
use Rattle.std.proofs.lemmas.Cmp.{same_from_slice_cmp_tested}
use Rattle.forms.specs.declared.Verdict.{Verdict}
use Rattle.forms.specs.AnswerFaults.{answer_header_verdict, mark_fault, marks_verdict, list_before, path_fault, paths_verdict}
use Rattle.forms.specs.AnswerForm.{answer_length_word, answer_version_at, answer_version, path_count_at, path_count, price_at, mark_part_length, in_mark_at, mark_parts, first_path_at, path_weight, path_vertices, path_end}
use Rattle.forms.specs.GraphFaults.{refusal, nothing_refused, or_else, then}
use Rattle.forms.specs.Layout.{max_paths, answer_version_of}
use Rattle.forms.proofs.LayoutLaws.{price_inside, header_inside, mark_first, marks_end}

-- an answer that has the marks has the number of paths
pub count_stands : (s : List ℕ) (size : ℕ) → first_path_at s ≤ size → price_at ≤ size
count_stands s size h = omega (arith, price_inside s size (header_inside s size h))

marks_split : (t : List ℕ) (n at : ℕ) → 0 < n → marks_verdict t n at nothing_refused ≡ or_else (mark_fault t at) at (marks_verdict t (n - 1) (at + mark_part_length) nothing_refused)
unfolding marks_verdict
marks_split t zero at h = absurd (omega arith)
marks_split t (suc n) at h =
    let same : suc n - 1 ≡ n = omega arith in
    rw same

-- of the numbers that make the marks those from number i on, the first of them at an offset, are left, and they decide
pub record MarksLeft (s t : List ℕ) (i at : ℕ) : Type 0 where
  pub place : at + mark_part_length * (mark_parts s - i) ≡ first_path_at s
  pub decide : marks_verdict t (mark_parts s) (in_mark_at s 0) nothing_refused ≡ marks_verdict t (mark_parts s - i) at nothing_refused

pub marks_begin : (s t : List ℕ) {at : ℕ} → at ≡ in_mark_at s 0 → MarksLeft s t 0 at
marks_begin s t e = record { place = omega (arith, mark_first s, marks_end s); decide = simp (e, sub-zero) }

-- a mark in range, a mark out of range, none left
module _ {s t : List ℕ} {i at : ℕ} (inv : MarksLeft s t i at) where
  module _ (some : i < mark_parts s) where
    split : marks_verdict t (mark_parts s - i) at nothing_refused ≡ or_else (mark_fault t at) at (marks_verdict t (mark_parts s - (i + 1)) (at + mark_part_length) nothing_refused)
    split =
        let less : mark_parts s - i - 1 ≡ mark_parts s - (i + 1) = omega arith in
        rw (← less) (marks_split t (mark_parts s - i) at (omega arith))

    pub marks_turn : mark_fault t at ≡ 0 → MarksLeft s t (i + 1) (at + mark_part_length)
    marks_turn e = record { place = omega (arith, inv.place); decide = inv.decide ∙ split ∙ simp (eq-eqb _ _ e) }

    pub marks_stop : (fault : ℕ) → fault ≡ mark_fault t at → (fault ≡ 0 → ⊥) → refusal fault at ≡ marks_verdict t (mark_parts s) (in_mark_at s 0) nothing_refused
    marks_stop fault e wrong = rw e (sym (inv.decide ∙ split ∙ simp (ne_eqb (mark_fault t at) 0 (λ z. wrong (e ∙ z)))))

  pub marks_over : mark_parts s ≤ i → nothing_refused ≡ marks_verdict t (mark_parts s) (in_mark_at s 0) nothing_refused
  unfolding marks_verdict
  marks_over h =
      let none : mark_parts s - i ≡ 0 = omega arith in
      sym (inv.decide ∙ rw none)

-- the order of slices is the order of lists: a path is not after the path before it exactly where the slices say so
pub not_after : (p before : List ℕ) (r : Bool) → r ≡ is_some_and is_le (slice_partial_cmp (λ x y. Some (nat_cmp x y)) p before) → r ≡ not (list_before before p)
not_after = same_from_slice_cmp_tested nat_cmp is_le (λ p q. not (list_before q p)) refl (λ _ _. refl) (λ _ _. refl) (λ x y p q o e. grind (arith, nat_tests))

-- A stage's verdict with what comes after it is the verdict of the stage alone, and then what comes after: so the stages compose.
or_else_then : (fault at : ℕ) (x after : Verdict) → or_else fault at (then x after) ≡ then (or_else fault at x) after
unfolding then
or_else_then fault at x after = go (eqb fault 0) refl
  where
    go : (b : Bool) → eqb fault 0 ≡ b → or_else fault at (then x after) ≡ then (or_else fault at x) after
    go true e = rw e
    go false e = rw (e, e)

pub header_then : (s t : List ℕ) (after : Verdict) → answer_header_verdict s t after ≡ then (answer_header_verdict s t nothing_refused) after
unfolding answer_header_verdict then
header_then s t after =
    go (ltb (length t) (first_path_at s) || not (eqb (answer_length_word t) (length t))) (not (eqb (answer_version t) (answer_version_of s)))
    (ltb (max_paths s) (path_count t))
  where
    go : (b₁ b₂ b₃ : Bool) → cond b₁ (refusal 11 0) (cond b₂ (refusal 12 answer_version_at) (cond b₃ (refusal 13 path_count_at) after)) ≡ then (cond b₁ (refusal 11 0) (cond b₂ (refusal 12 answer_version_at) (cond b₃ (refusal 13 path_count_at) nothing_refused))) after
    go true b₂ b₃ = refl
    go false true b₃ = refl
    go false false true = refl
    go false false false = refl

pub marks_then : (t : List ℕ) (count at : ℕ) (after : Verdict) → marks_verdict t count at after ≡ then (marks_verdict t count at nothing_refused) after
unfolding marks_verdict then
marks_then t zero at after = refl
marks_then t (suc count) at after =
    ap (or_else (mark_fault t at) at) (marks_then t count (at + mark_part_length) after) ∙ or_else_then (mark_fault t at) at _ after

pub paths_then : (s t : List ℕ) (count at : ℕ) (before : List ℕ) (copies : ℕ) (after : Verdict) → paths_verdict s t count at before copies after ≡ then (paths_verdict s t count at before copies nothing_refused) after
unfolding paths_verdict then
paths_then s t zero at before copies after = go (ltb at (length t))
  where
    go : (b : Bool) → cond b (refusal 15 at) after ≡ then (cond b (refusal 15 at) nothing_refused) after
    go true = refl
    go false = refl
paths_then s t (suc count) at before copies after =
    ap (or_else (path_fault s t at before copies) at)
    (paths_then s t count (path_end s t at) (path_vertices s t at) (copies + path_weight t at) after)
    ∙ or_else_then (path_fault s t at before copies) at _ after
