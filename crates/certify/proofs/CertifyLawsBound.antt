-- Number 22: the bound as one sum of numbers that are not below 0, where no slack is below 0.
use Rattle.std.proofs.Common.{ℕ, suc, ◌+◌, ◌-◌, ◌*◌, ◌<◌, ◌≤◌, zero-add, mul-le-mul, arith, add-one, ◌≡◌, refl, sym, ap, ap₂, ◌∙◌, List, ℤ, nat_abs}
use Rattle.std.proofs.Math.Nat.{sub-zero}
use Rattle.std.proofs.Math.Decide.{dec_le}
use Rattle.std.proofs.Math.IntN.{sub_ℕ}
use Rattle.mathematics.specs.Price.{whole}
use Rattle.mathematics.specs.Bound.{vertex_slack, arc_slack}
use Rattle.forms.specs.Limits.{mark_limit, max_demand, max_cost}
use Rattle.forms.specs.GraphForm.{vertex_demand, arc_at, arc_demand}
use Rattle.forms.specs.GraphOf.{arc_of}
use Rattle.forms.specs.AnswerForm.{signed32, in_mark_at, out_mark_at, answer_marks}
use Rattle.certify.specs.Certify.{vertex_slack_fault, arc_slack_fault, vertex_part, arc_part, Part, sum_from, Sum, most_slack, most_part}
use Rattle.certify.proofs.CertifyLaws.{ArcRead, vertex_difference, vertex_crossed, arc_difference, arc_crossed}
use Rattle.certify.proofs.CertifyLawsSlack.{low_difference}

-- a difference that is not below 0, as a number
number : (z : ℤ) (a b : ℕ) → z ≡ sub_ℕ a b → b ≤ a → nat_abs z ≡ a - b
number z a b e h = ap nat_abs (e ∙ low_difference a b h)

-- what a part comes to at most
pub small : (d slack : ℕ) → d ≤ max_demand → slack ≤ most_slack → d * slack ≤ most_part
small d slack h k = mul-le-mul h k

module _ (s t : List ℕ) (v i o : ℕ) (into : signed32 t (in_mark_at s v) ≡ sub_ℕ i mark_limit) (out : signed32 t (out_mark_at s v) ≡ sub_ℕ o mark_limit) (held : vertex_slack_fault s t v ≡ 0) where
  pub vertex_ordered : o ≤ i
  vertex_ordered = go (dec_le o i)
    where
      go : Dec (o ≤ i) → o ≤ i
      go (yes h) = h
      go (no h) = absurd (omega (arith, vertex_crossed s t v i o into out (omega arith), held))

  pub vertex_part_lem : (d reads : ℕ) → d ≡ vertex_demand s v - reads + reads → d ≤ max_demand → i ≤ 4000000000 → Part (vertex_part s t v reads) (d * (i - o))
  unfolding vertex_part
  vertex_part_lem d reads e low few =
      record {
        is = ap₂ ◌*◌ e (sym (number (vertex_slack whole (answer_marks s t) v) i o (vertex_difference s t v i o into out) vertex_ordered));
        low = small d (i - o) low (omega arith);
      }

module _ (s t : List ℕ) (a u v cost i o : ℕ) (read : ArcRead s a u v cost) (into : signed32 t (in_mark_at s v) ≡ sub_ℕ i mark_limit) (out : signed32 t (out_mark_at s u) ≡ sub_ℕ o mark_limit) (held : arc_slack_fault s t a ≡ 0) where
  pub arc_ordered : i ≤ cost + o
  arc_ordered = go (dec_le i (cost + o))
    where
      go : Dec (i ≤ cost + o) → i ≤ cost + o
      go (yes h) = h
      go (no h) = absurd (omega (arith, arc_crossed s t a u v cost i o read into out (omega arith), held))

  pub arc_part_lem : (d reads : ℕ) → d ≡ arc_demand s (arc_at s a) - reads + reads → d ≤ max_demand → cost ≤ max_cost → o ≤ 4000000000 → Part (arc_part s t a reads) (d * (cost + o - i))
  unfolding arc_part
  arc_part_lem d reads e low few marked =
      record {
        is = ap₂ ◌*◌ e (sym (number (arc_slack whole (answer_marks s t) (arc_of s a)) (cost + o) i (arc_difference s t a u v cost i o read into out) arc_ordered));
        low = small d (cost + o - i) low (omega arith);
      }

-- Of n parts those from number i on are left: with them the sum is that of all.
module _ (f : ℕ → ℕ) (n : ℕ) where
  pub record SumLeft (i sum : ℕ) : Type 0 where
    pub few : i ≤ n
    pub all : sum + sum_from f (n - i) i ≡ sum_from f n 0
    pub low : sum ≤ most_part * i

  pub sum_begin : SumLeft 0 0
  sum_begin = record { few = omega arith; all = rw sub-zero (zero-add (sum_from f n 0)); low = omega arith }

  next : (k i : ℕ) → sum_from f (suc k) i ≡ f i + sum_from f k (suc i)
  unfolding sum_from
  next k i = refl

  pub sum_turn : (i sum r : ℕ) → SumLeft i sum → i < n → Part (f i) r → SumLeft (i + 1) (sum + r)
  sum_turn i sum r l h p =
      let split : n - i ≡ suc (n - (i + 1)) = omega arith in
      let step : sum_from f (n - i) i ≡ f i + sum_from f (n - (i + 1)) (i + 1) = rw (split, next (n - (i + 1)) i, add-one) in
      record { few = omega arith; all = omega (arith, l.all, step, p.is); low = omega (arith, l.low, p.low) }

  over : (i : ℕ) → sum_from f 0 i ≡ 0
  unfolding sum_from
  over i = refl

  pub sum_end : (i sum most : ℕ) → SumLeft i sum → n ≤ i → n ≤ most → Sum (sum_from f n 0) most sum
  sum_end i sum most l h m =
      let none : n - i ≡ 0 = omega arith in
      let last : sum_from f (n - i) i ≡ 0 = rw none (over i) in
      record { is = omega (arith, l.all, last); low = omega (arith, l.low, l.few) }
