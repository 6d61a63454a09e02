-- One pass over the arcs finds what is reached: arcs are sorted by tail and rise, so a vertex is settled before the arcs that lead on from it come. Said
-- once for both passes: from the starts along the arcs, and from the ends back against them.
use Prim.Native.Nat.{ℕ, ◌+◌, ◌<◌, ◌≤◌}
use native.Mathlib.Decide.{ℕ_discrete, dec_lt}
use native.Mathlib.Omega.{arith}
use mathlib.Core.Path.{◌≡◌, refl, sym, ap, subst, ◌∙◌}
use mathlib.Core.List.{List, [], ◌∷◌}
use mathlib.Core.Bool.{Bool, true, false}
use mathlib.Core.Logic.{◌⊎◌, inl, inr, ⊎_elim}
use lib.Dec.{T}
use lib.ListN.{length, get_or, set, length-set}
use lib.Seq.{get_or-set_same, get_or-set_other}
use Rattle.mathematics.specs.Lists.{last_of}
use Rattle.mathematics.specs.Graph.{WellFormed, is_start, is_end, has_arc, linked}
use Rattle.mathematics.specs.Reach.{from_start, to_end}
use Rattle.mathematics.proofs.Basics.{is_true, is_false}
use Rattle.mathematics.proofs.Reach.{linked_first, linked_rest, start_from_start, end_to_end, from_start_path, from_start_arc, to_end_path, to_end_arc, to_end_iff, LeadsTo}
use Rattle.forms.specs.GraphForm.{vertex_count, arc_count}
use Rattle.forms.specs.GraphOf.{graph_of}
use Rattle.forms.specs.GraphReads.{Reads}
use Rattle.forms.proofs.GraphFacts.{graph_well_formed}
use Rattle.reach.specs.Reached.{Tells}
use Rattle.forms.specs.Limits.{room_vertices}
use Rattle.forms.proofs.ArcLaws.{tail_of, head_of}
use Rattle.forms.proofs.ArcNumbers.{arc_there, arc_number_lem}
use Rattle.reach.proofs.ReachLaws.{arc_inside, tails_rise}

same_test : (a b : Bool) → (T a → T b) → (T b → T a) → a ≡ b
same_test true b f g = sym (is_true b (f tt))
same_test false b f g = sym (is_false b g)

-- S are the seeds; F holds of a seed and is handed on by each of m arcs, from t to h, and by nothing else
pub record Spreads (n m : ℕ) (S F : ℕ → Bool) (t h : ℕ → ℕ) : Type 0 where
  pub seeds : (v : ℕ) → T (S v) → T (F v)
  pub along : (b : ℕ) → b < m → T (F (t b)) → T (F (h b))
  pub source : (v : ℕ) → T (F v) → T (S v) ⊎ ((b : ℕ) × (b < m) × (h b ≡ v) × T (F (t b)))
  pub inside : (b : ℕ) → b < m → (t b < n) × (h b < n)

-- The seeds are marked, and the heads of those arcs that are done; nothing is marked of which F does not hold.
pub record Passing (n m : ℕ) (S F : ℕ → Bool) (t h : ℕ → ℕ) (Done : ℕ → Type 0) (xs : List Bool) : Type 0 where
  pub long : length xs ≡ room_vertices
  pub sound : (v : ℕ) → v < n → T (get_or xs v false) → T (F v)
  pub seeded : (v : ℕ) → v < n → T (S v) → T (get_or xs v false)
  pub done : (b : ℕ) → b < m → Done b → T (F (t b)) → T (get_or xs (h b) false)

module _ {n m : ℕ} {S F : ℕ → Bool} {t h : ℕ → ℕ} (sp : Spreads n m S F t h) (few : n ≤ room_vertices) where
  -- a vertex is settled once the arcs to it are done
  settled : {Done : ℕ → Type 0} {xs : List Bool} → Passing n m S F t h Done xs → (v : ℕ) → v < n →
      ((b : ℕ) → b < m → h b ≡ v → Done b) → get_or xs v false ≡ F v
  settled {Done} {xs} p v below all = same_test (get_or xs v false) (F v) (p.sound v below) found
    where
      found : T (F v) → T (get_or xs v false)
      found f =
          ⊎_elim (λ s. p.seeded v below s)
          (λ r. subst (λ x. T (get_or xs x false)) r.2 (p.done r.0 r.1 (all r.0 r.1 r.2) r.3)) (sp.source v f)

  -- an arc whose tail is not marked is done
  pass_over : {Done More : ℕ → Type 0} {xs : List Bool} → Passing n m S F t h Done xs → (a : ℕ) → a < m →
      ((b : ℕ) → b < m → h b ≡ t a → Done b) → ((b : ℕ) → b < m → More b → Done b ⊎ (b ≡ a)) →
      get_or xs (t a) false ≡ false → Passing n m S F t h More xs
  pass_over {xs = xs} p a low all more off =
      record {
        long = p.long;
        sound = p.sound;
        seeded = p.seeded;
        done =
            λ b l mo f.
            ⊎_elim (λ d. p.done b l d f)
            (λ e.
            absurd
            (subst T (sym (settled p (t a) (sp.inside a low).0 all) ∙ off) (subst (λ x. T (F (t x))) e f)))
            (more b l mo);
      }

  -- an arc whose tail is marked is done once its head is
  pass_on : {Done More : ℕ → Type 0} {xs : List Bool} → Passing n m S F t h Done xs → (a : ℕ) → a < m →
      ((b : ℕ) → b < m → More b → Done b ⊎ (b ≡ a)) → get_or xs (t a) false ≡ true → Passing n m S F t h More (set xs (h a) true)
  pass_on {More = More} {xs = xs} p a low more on = marked
    where
      room : h a < length xs
      room = omega (arith, sp.inside a low, p.long)

      head_is : T (F (h a))
      head_is = sp.along a low (p.sound (t a) (sp.inside a low).0 (subst T (sym on) tt))

      at_head : T (get_or (set xs (h a) true) (h a) false)
      at_head = subst T (sym (get_or-set_same xs (h a) true false room)) tt

      still : (v : ℕ) → T (get_or xs v false) → T (get_or (set xs (h a) true) v false)
      still v k =
          elim (ℕ_discrete v (h a)) [
            | yes e ↦ subst (λ x. T (get_or (set xs (h a) true) x false)) (sym e) at_head
            | no ne ↦ subst T (sym (get_or-set_other xs (h a) v true false ne)) k
          ]

      marked : Passing n m S F t h More (set xs (h a) true)
      marked =
          record {
            long = simp length-set p.long;
            sound =
                λ v l k.
                elim (ℕ_discrete v (h a)) [
                  | yes e ↦ subst (λ x. T (F x)) (sym e) head_is
                  | no ne ↦ p.sound v l (subst T (get_or-set_other xs (h a) v true false ne) k)
                ];
            seeded = λ v l k. still v (p.seeded v l k);
            done =
                λ b l mo f.
                ⊎_elim (λ d. still (h b) (p.done b l d f))
                (λ e. subst (λ x. T (get_or (set xs (h a) true) (h x) false)) (sym e) at_head) (more b l mo);
          }

-- ---- the two passes of a form that reads

one_more : (a b : ℕ) → b < a + 1 → (b < a) ⊎ (b ≡ a)
one_more a b h = elim (ℕ_discrete b a) [ yes e ↦ inr e | no ne ↦ inl (omega arith) ]

one_less : (a b : ℕ) → a ≤ b → (a + 1 ≤ b) ⊎ (b ≡ a)
one_less a b h = elim (ℕ_discrete b a) [ yes e ↦ inr e | no ne ↦ inl (omega arith) ]

-- the arcs below a are done: the pass from the starts
abbrev pub Ahead : List ℕ → ℕ → List Bool → Type 0
Ahead s a xs = Passing (vertex_count s) (arc_count s) (is_start (graph_of s)) (from_start (graph_of s)) (tail_of s) (head_of s) (λ b. b < a) xs

-- the arcs from a on are done: the pass from the ends
abbrev pub Back : List ℕ → ℕ → List Bool → Type 0
Back s a xs = Passing (vertex_count s) (arc_count s) (is_end (graph_of s)) (to_end (graph_of s)) (head_of s) (tail_of s) (λ b. a ≤ b) xs

module _ (s : List ℕ) (r : Reads s) where
  wf : WellFormed (graph_of s)
  wf = graph_well_formed s r

  -- what is reached from a start is a start, or the head of an arc whose tail is reached
  last_step : (u : ℕ) (p : List ℕ) → T (from_start (graph_of s) u) → T (linked (graph_of s).arcs (u ∷ p)) →
      (last_of u p ≡ u) ⊎ ((w : ℕ) × T (has_arc (graph_of s).arcs w (last_of u p)) × T (from_start (graph_of s) w))
  last_step u [] f l = inl refl
  last_step u (w ∷ p) f l =
      let first = linked_first (graph_of s).arcs u w p l in
      ⊎_elim (λ e. inr (u, subst (λ x. T (has_arc (graph_of s).arcs u x)) (sym e) first, f)) (λ x. inr x)
      (last_step w p (from_start_arc (graph_of s) wf u w first f) (linked_rest (graph_of s).arcs u w p l))

  from_source : (v : ℕ) → T (from_start (graph_of s) v) →
      T (is_start (graph_of s) v) ⊎ ((b : ℕ) × (b < arc_count s) × (head_of s b ≡ v) × T (from_start (graph_of s) (tail_of s b)))
  from_source v f = by (from_start_path (graph_of s) v f)
    where
      step : (w : ℕ) → T (has_arc (graph_of s).arcs w v) → T (from_start (graph_of s) w) →
          (b : ℕ) × (b < arc_count s) × (head_of s b ≡ v) × T (from_start (graph_of s) (tail_of s b))
      step w t g = let x = arc_number_lem s w v t in (x.0, x.1, x.3, subst (λ y. T (from_start (graph_of s) y)) (sym x.2) g)

      by : LeadsTo (graph_of s) v → T (is_start (graph_of s) v) ⊎ ((b : ℕ) × (b < arc_count s) × (head_of s b ≡ v) × T (from_start (graph_of s) (tail_of s b)))
      by (u, p, st, l, e) =
          ⊎_elim (λ same. inl (subst (λ x. T (is_start (graph_of s) x)) (sym same ∙ e) st))
          (λ x. inr (step x.0 (subst (λ y. T (has_arc (graph_of s).arcs x.0 y)) e x.1) x.2))
          (last_step u p (start_from_start (graph_of s) u st) l)

  pub spreads_from : Spreads (vertex_count s) (arc_count s) (is_start (graph_of s)) (from_start (graph_of s)) (tail_of s) (head_of s)
  spreads_from =
      record {
        seeds = start_from_start (graph_of s);
        along = λ b l f. from_start_arc (graph_of s) wf (tail_of s b) (head_of s b) (arc_there s b l) f;
        source = from_source;
        inside = λ b l. let x = arc_inside s r.arcs b l in (omega (arith, x.0, x.1), x.1);
      }

  to_source : (v : ℕ) → T (to_end (graph_of s) v) →
      T (is_end (graph_of s) v) ⊎ ((b : ℕ) × (b < arc_count s) × (tail_of s b ≡ v) × T (to_end (graph_of s) (head_of s b)))
  to_source v f = by (to_end_path (graph_of s) v f).0 (to_end_path (graph_of s) v f).1 (to_end_path (graph_of s) v f).2
    where
      by : (q : List ℕ) → T (linked (graph_of s).arcs (v ∷ q)) → T (is_end (graph_of s) (last_of v q)) →
          T (is_end (graph_of s) v) ⊎ ((b : ℕ) × (b < arc_count s) × (tail_of s b ≡ v) × T (to_end (graph_of s) (head_of s b)))
      by [] l e = inl e
      by (w ∷ q) l e =
          let x = arc_number_lem s v w (linked_first (graph_of s).arcs v w q l) in
          inr (x.0, x.1, x.2, subst (λ y. T (to_end (graph_of s) y)) (sym x.3) ((to_end_iff (graph_of s) wf w).1 (q, linked_rest (graph_of s).arcs v w q l, e)))

  pub spreads_to : Spreads (vertex_count s) (arc_count s) (is_end (graph_of s)) (to_end (graph_of s)) (head_of s) (tail_of s)
  spreads_to =
      record {
        seeds = end_to_end (graph_of s);
        along = λ b l f. to_end_arc (graph_of s) wf (tail_of s b) (head_of s b) (arc_there s b l) f;
        source = to_source;
        inside = λ b l. let x = arc_inside s r.arcs b l in (x.1, omega (arith, x.0, x.1));
      }

  few : vertex_count s ≤ room_vertices
  few = r.arcs.header.vertices_room

  pub ahead_begins : {xs : List Bool} → Tells s (is_start (graph_of s)) xs → Ahead s 0 xs
  ahead_begins h =
      record {
        long = h.long;
        sound = λ v l k. start_from_start (graph_of s) v (subst T (h.says v l) k);
        seeded = λ v l k. subst T (sym (h.says v l)) k;
        done = λ b l d f. absurd (omega arith);
      }

  ahead_of : (a : ℕ) → a < arc_count s → (b : ℕ) → b < arc_count s → head_of s b ≡ tail_of s a → b < a
  ahead_of a la b lb e =
      elim (dec_lt b a) [ yes l ↦ l | no l ↦ absurd (omega (arith, tails_rise s r.arcs a b (omega arith) lb, arc_inside s r.arcs b lb)) ]

  pub ahead_over : (a t : ℕ) {xs : List Bool} → Ahead s a xs → a < arc_count s → t ≡ tail_of s a → get_or xs t false ≡ false → Ahead s (a + 1) xs
  ahead_over a t {xs} p low e off =
      pass_over spreads_from few p a low (ahead_of a low)
      (λ b l m. one_more a b m) (ap (λ v. get_or xs v false) (sym e) ∙ off)

  pub ahead_on : (a t : ℕ) {h : ℕ} {xs : List Bool} → Ahead s a xs → a < arc_count s → t ≡ tail_of s a → get_or xs t false ≡ true → h ≡ head_of s a →
      Ahead s (a + 1) (set xs h true)
  ahead_on a t {h} {xs} p low e on eh =
      subst (λ k. Ahead s (a + 1) (set xs k true)) (sym eh)
      (pass_on spreads_from few p a low (λ b l m. one_more a b m)
      (ap (λ v. get_or xs v false) (sym e) ∙ on))

  pub ahead_ends : {a : ℕ} {xs : List Bool} → Ahead s a xs → arc_count s ≤ a → Tells s (from_start (graph_of s)) xs
  ahead_ends p all =
      record { long = p.long; says = λ v l. settled spreads_from few p v l (λ b lb e. omega arith) }

  pub back_begins : {xs : List Bool} {k : ℕ} → Tells s (is_end (graph_of s)) xs → arc_count s ≤ k → Back s k xs
  back_begins h all =
      record {
        long = h.long;
        sound = λ v l k. end_to_end (graph_of s) v (subst T (h.says v l) k);
        seeded = λ v l k. subst T (sym (h.says v l)) k;
        done = λ b l d f. absurd (omega arith);
      }

  behind : (a : ℕ) → a < arc_count s → (b : ℕ) → b < arc_count s → tail_of s b ≡ head_of s a → a + 1 ≤ b
  behind a la b lb e =
      elim (dec_lt b (a + 1)) [ yes l ↦ absurd (omega (arith, tails_rise s r.arcs b a (omega arith) la, arc_inside s r.arcs a la)) | no l ↦ omega arith ]

  pub back_over : (a h : ℕ) {k : ℕ} {xs : List Bool} → Back s k xs → k ≡ a + 1 → a < arc_count s → h ≡ head_of s a → get_or xs h false ≡ false →
      Back s a xs
  back_over a h {xs = xs} p next low e off =
      pass_over spreads_to few (subst (λ x. Back s x xs) next p) a low (behind a low)
      (λ b l m. one_less a b m) (ap (λ v. get_or xs v false) (sym e) ∙ off)

  pub back_on : (a h : ℕ) {t k : ℕ} {xs : List Bool} → Back s k xs → k ≡ a + 1 → a < arc_count s → h ≡ head_of s a → get_or xs h false ≡ true →
      t ≡ tail_of s a → Back s a (set xs t true)
  back_on a h {t} {xs = xs} p next low e on et =
      subst (λ x. Back s a (set xs x true)) (sym et)
      (pass_on spreads_to few (subst (λ x. Back s x xs) next p) a low
      (λ b l m. one_less a b m) (ap (λ v. get_or xs v false) (sym e) ∙ on))

  pub back_ends : {a : ℕ} {xs : List Bool} → Back s a xs → a ≡ 0 → Tells s (to_end (graph_of s)) xs
  back_ends p none = record { long = p.long; says = λ v l. settled spreads_to few p v l (λ b lb e. omega arith) }
