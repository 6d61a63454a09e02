-- Numbers 19 and 21: a law for each way through the functions that test demands, reads and slacks.
use Rattle.std.proofs.Common.{ℕ, ◌+◌, ◌-◌, ◌<◌, ◌≤◌, arith, ◌≡◌, refl, sym, ap, ap₂, ◌∙◌, List, Bool, true, false, cond, ◌&&◌, leb, length, le-leb, ℤ, pos, ◌+ℤ◌}
use Rattle.std.proofs.lemmas.Bool.{lt-leb}
use Rattle.forms.specs.GraphReads.{Reads}
use Rattle.std.proofs.Math.IntN.{sub_ℕ}
use Rattle.std.specs.Int.Signed.{le_z}
use Rattle.mathematics.specs.Price.{whole, sub}
use Rattle.mathematics.specs.Bound.{start_slack, end_slack, vertex_slack, arc_slack}
use Rattle.forms.specs.Limits.{mark_limit}
use Rattle.forms.specs.GraphForm.{vertex_count, arc_count, opening_price, arc_at, arc_tail, arc_head, arc_cost}
use Rattle.mathematics.specs.Graph.{Vertex, is_start, is_end}
use Rattle.forms.specs.GraphOf.{graph_of, vertex_of, arc_of}
use Rattle.forms.specs.AnswerFaults.{mark_fault}
use Rattle.forms.specs.AnswerForm.{mark_part_length, signed32, in_mark_at, out_mark_at, answer_marks}
use Rattle.certify.specs.Certify.{vertex_slack_fault, arc_slack_fault, MarksStand}
use Rattle.forms.specs.declared.refusals.Fault.{Fault}
use Rattle.forms.specs.declared.refusals.Refused.{Refused}
use Rattle.forms.specs.GraphFaults.{refusal, first_fault}
use Rattle.forms.specs.Refusals.{number_of}
use Rattle.forms.proofs.GraphRange.{vertex_is}
use Rattle.forms.proofs.Scan.{scan_stops}
use Rattle.forms.proofs.ThenLaws.{number_positive}
use Rattle.forms.proofs.LayoutLaws.{parts_few, mark_before}
use Rattle.certify.proofs.CertifyLawsSlack.{held_difference, plain_less_held, held_sum_less_held, not_below}

-- The marks of a vertex stand within the answer, and are in range.
module _ {s t : List ℕ} {v : ℕ} (m : MarksStand s t) (h : v < vertex_count s) where
  pub in_mark_stands : (in_mark_at s v + mark_part_length ≤ length t) × (mark_fault t (in_mark_at s v) ≡ 0)
  in_mark_stands = (omega (arith, m.long, mark_before s v (vertex_count s) h, parts_few s), m.into v h)

  pub out_mark_stands : (out_mark_at s v + mark_part_length ≤ length t) × (mark_fault t (out_mark_at s v) ≡ 0)
  out_mark_stands = (omega (arith, m.long, mark_before s v (vertex_count s) h, parts_few s), m.out v h)

-- The slacks of a vertex whose marks are held with the limit added, i and o.
module _ (s t : List ℕ) (v i o : ℕ) (into : signed32 t (in_mark_at s v) ≡ sub_ℕ i mark_limit) (out : signed32 t (out_mark_at s v) ≡ sub_ℕ o mark_limit) where
  start_test : le_z (pos 0) (start_slack whole (graph_of s) (answer_marks s t) v) ≡ leb i (opening_price s + mark_limit)
  unfolding graph_of answer_marks
  start_test =
      ap (λ x. le_z (pos 0) (sub whole (pos (opening_price s)) x)) into ∙
      (ap (le_z (pos 0)) (plain_less_held (opening_price s) i mark_limit) ∙ not_below (opening_price s + mark_limit) i)

  end_test : le_z (pos 0) (end_slack whole (answer_marks s t) v) ≡ leb mark_limit o
  unfolding answer_marks
  end_test = ap (le_z (pos 0)) out ∙ not_below o mark_limit

  pub vertex_difference : vertex_slack whole (answer_marks s t) v ≡ sub_ℕ i o
  unfolding answer_marks
  vertex_difference = ap₂ (sub whole) into out ∙ held_difference i o mark_limit

  vertex_test : le_z (pos 0) (vertex_slack whole (answer_marks s t) v) ≡ leb o i
  vertex_test = ap (le_z (pos 0)) vertex_difference ∙ not_below i o

  pub vertex_crossed : i < o → 21 ≡ vertex_slack_fault s t v
  unfolding vertex_slack_fault
  vertex_crossed h = simp (start_test, end_test, vertex_test, lt-leb o i h) (none (cond (vertex_of s v).start (leb i (opening_price s + mark_limit)) true) (cond (vertex_of s v).end (leb mark_limit o) true))
    where
      none : (a b : Bool) → ◌≡◌ {A = ℕ} 21 (cond (a && (b && false)) 0 21)
      none true true = refl
      none true false = refl
      none false b = refl

  module _ (inside : v < vertex_count s) where
    start_is : is_start (graph_of s) v ≡ true → (vertex_of s v).start ≡ true
    start_is f = sym (ap (λ (x : Vertex). x.start) (vertex_is s v inside)) ∙ f

    end_is : is_end (graph_of s) v ≡ true → (vertex_of s v).end ≡ true
    end_is f = sym (ap (λ (x : Vertex). x.end) (vertex_is s v inside)) ∙ f

    pub start_crossed : is_start (graph_of s) v ≡ true → opening_price s + mark_limit < i → 21 ≡ vertex_slack_fault s t v
    unfolding vertex_slack_fault
    start_crossed f h = simp (start_is f, start_test, lt-leb i (opening_price s + mark_limit) h)

    pub end_crossed : is_end (graph_of s) v ≡ true → o < mark_limit → 21 ≡ vertex_slack_fault s t v
    unfolding vertex_slack_fault
    end_crossed f h = simp (end_is f, end_test, lt-leb mark_limit o h) (none (cond (vertex_of s v).start (le_z (pos 0) (start_slack whole (graph_of s) (answer_marks s t) v)) true))
      where
        none : (a : Bool) → ◌≡◌ {A = ℕ} 21 (cond (a && false) 0 21)
        none true = refl
        none false = refl

    -- a test that is made only where a role is given
    where_given : (given : Bool) (a b : ℕ) → (given ≡ true → a ≤ b) → cond given (leb a b) true ≡ true
    where_given true a b h = le-leb a b (h refl)
    where_given false a b h = refl

    pub vertex_held : o ≤ i → (is_start (graph_of s) v ≡ true → i ≤ opening_price s + mark_limit) → (is_end (graph_of s) v ≡ true → mark_limit ≤ o) → 0 ≡ vertex_slack_fault s t v
    unfolding vertex_slack_fault
    vertex_held h start end =
        let from : (vertex_of s v).start ≡ true → i ≤ opening_price s + mark_limit = λ f. start (ap (λ (x : Vertex). x.start) (vertex_is s v inside) ∙ f) in
        let to : (vertex_of s v).end ≡ true → mark_limit ≤ o = λ f. end (ap (λ (x : Vertex). x.end) (vertex_is s v inside) ∙ f) in
        simp (start_test, end_test, vertex_test, le-leb o i h, where_given (vertex_of s v).start i (opening_price s + mark_limit) from, where_given (vertex_of s v).end mark_limit o to)

-- What is read of the record of arc a: its ends and its cost.
pub record ArcRead (s : List ℕ) (a u v cost : ℕ) : Type 0 where
  pub tail : u ≡ arc_tail s (arc_at s a)
  pub head : v ≡ arc_head s (arc_at s a)
  pub costs : cost ≡ arc_cost s (arc_at s a)

pub arc_read : {s : List ℕ} {a u v cost : ℕ} → u ≡ arc_tail s (arc_at s a) → v ≡ arc_head s (arc_at s a) → cost ≡ arc_cost s (arc_at s a) → ArcRead s a u v cost
arc_read tail head costs = record { tail = tail; head = head; costs = costs }

pub tail_below : {s : List ℕ} {a u : ℕ} → Reads s → a < arc_count s → u ≡ arc_tail s (arc_at s a) → u < vertex_count s
tail_below {s} {a} r h tail = omega (arith, (r.arcs.each a h).rises, (r.arcs.each a h).inside)

pub head_below : {s : List ℕ} {a v : ℕ} → Reads s → a < arc_count s → v ≡ arc_head s (arc_at s a) → v < vertex_count s
head_below {s} {a} r h head = omega (arith, (r.arcs.each a h).inside)

-- The slack of an arc: o is its tail's out-mark and i its head's in-mark, with the limit added.
module _ (s t : List ℕ) (a u v cost i o : ℕ) (read : ArcRead s a u v cost) (into : signed32 t (in_mark_at s v) ≡ sub_ℕ i mark_limit) (out : signed32 t (out_mark_at s u) ≡ sub_ℕ o mark_limit) where
  pub arc_difference : arc_slack whole (answer_marks s t) (arc_of s a) ≡ sub_ℕ (cost + o) i
  unfolding answer_marks
  arc_difference =
      ap₃ (sym read.costs) (ap (λ x. signed32 t (out_mark_at s x)) (sym read.tail) ∙ out) (ap (λ x. signed32 t (in_mark_at s x)) (sym read.head) ∙ into)
      ∙ held_sum_less_held cost o i mark_limit
    where
      ap₃ : {c c' : ℕ} {x x' y y' : ℤ} → c ≡ c' → x ≡ x' → y ≡ y' → sub whole (pos c +ℤ x) y ≡ sub whole (pos c' +ℤ x') y'
      ap₃ p q r = λ j. sub whole (pos (p j) +ℤ q j) (r j)

  arc_test : le_z (pos 0) (arc_slack whole (answer_marks s t) (arc_of s a)) ≡ leb i (cost + o)
  arc_test = ap (le_z (pos 0)) arc_difference ∙ not_below (cost + o) i

  pub arc_crossed : cost + o < i → 21 ≡ arc_slack_fault s t a
  unfolding arc_slack_fault
  arc_crossed h = simp (arc_test, lt-leb i (cost + o) h)

  pub arc_held : i ≤ cost + o → 0 ≡ arc_slack_fault s t a
  unfolding arc_slack_fault
  arc_held h = simp (arc_test, le-leb i (cost + o) h)
