-- Refusal 8: the builder gives it exactly where no cover exists, and its place is the first item that asks for something and lies on no path.
use Prim.Native.Nat.{ℕ, zero, suc, ◌+◌, ◌-◌, ◌≤◌, ◌<◌}
use native.Mathlib.Nat.{le_refl}
use native.Mathlib.Omega.{arith}
use mathlib.Core.Path.{◌≡◌, refl, sym, ap, subst, ◌∙◌}
use mathlib.Core.List.{List, [], ◌∷◌, map}
use mathlib.Core.Bool.{Bool, true, false, cond}
use mathlib.Core.Logic.{◌⊎◌, inl, inr, ⊎_elim, ◌↔◌}
use borrow.Author.Tests.{le-ltb}
use lib.Dec.{T, ltb}
use lib.IntN.{ℤ}
use lib.ListN.{length, get_or, length-append, length-map}
use Rattle.mathematics.specs.Graph.{Graph, WellFormed, linked}
use Rattle.mathematics.specs.Cover.{Ask, vertex_asks, arc_ask, asks, Weighted, IsCover}
use Rattle.mathematics.specs.Exists.{ItemOnPath, ReadOnPath, Coverable}
use Rattle.mathematics.specs.Reach.{every, item_list, ask_lies, read_lies, coverable_test}
use Rattle.mathematics.proofs.Basics.{and_l, and_r, and_in, at_all}
use Rattle.mathematics.proofs.Existence.{cover_exists, cover_shows_coverable, coverable_decided, asks_linked, ask_lies_lem, read_lies_lem}
use Rattle.forms.specs.declared.Verdict.{Verdict}
use Rattle.forms.specs.GraphOf.{graph_of}
use Rattle.forms.specs.GraphFaults.{refusal, nothing_refused, then}
use Rattle.forms.specs.BuildFaults.{room_asked, no_ask, asks_lie_verdict, reads_lie_verdict, cover_verdict}
use Rattle.reach.specs.Reached.{lie_verdict}
use Rattle.builder.specs.Lacking.{Lies, FirstLacking}
use Rattle.network.proofs.NetworkLaws.{below_or_not}
use Rattle.reach.proofs.ReachLawsLacking.{vertex_asks_count}

every_at : {A : Type 0} (f : A → Bool) (xs : List A) (d : A) (p : ℕ) → T (every f xs) → p < length xs → T (f (get_or xs p d))
every_at f [] d p h b = absurd (omega arith)
every_at f (x ∷ xs) d zero h b = and_l (f x) (every f xs) h
every_at f (x ∷ xs) d (suc p) h b = every_at f xs d p (and_r (f x) (every f xs) h) (omega arith)

-- the first of the list of which f does not hold stands at p
record FirstNot {A : Type 0} (f : A → Bool) (d : A) (xs : List A) (p : ℕ) : Type 0 where
  below : p < length xs
  fails : T (f (get_or xs p d)) → ⊥
  before : (q : ℕ) → q < p → T (f (get_or xs q d))

-- f holds of each, and what comes after is given; or 8 with the place of the first of which it does not, counted from k
Outcome : {A : Type 0} → (A → Bool) → A → List A → ℕ → Verdict → Verdict → Type 0
Outcome f d xs k after given = (T (every f xs) × (given ≡ after)) ⊎ ((p : ℕ) × FirstNot f d xs p × (given ≡ refusal 8 (k + p)))

module _ {A : Type 0} (f : A → Bool) (d x : A) (xs : List A) (k : ℕ) (after rest : Verdict) where
  next_before : (p : ℕ) → T (f x) → FirstNot f d xs p → (q : ℕ) → q < suc p → T (f (get_or (x ∷ xs) q d))
  next_before p t n zero l = t
  next_before p t n (suc q) l = n.before q (omega arith)

  outcome_next : Outcome f d xs (suc k) after rest → Outcome f d (x ∷ xs) k after (cond (f x) rest (refusal 8 k))
  unfolding Outcome
  outcome_next o = by (f x) refl o
    where
      later : (b : Bool) → f x ≡ b → T b → Outcome f d xs (suc k) after rest → Outcome f d (x ∷ xs) k after rest
      later b e t (inl h) = inl (and_in (f x) (every f xs) (subst T (sym e) t) h.0, h.1)
      later b e t (inr (p, n, g)) =
          inr (
            suc p,
            record { below = omega (arith, n.below); fails = n.fails; before = next_before p (subst T (sym e) t) n },
            g ∙ ap (refusal 8) (omega arith),
          )

      by : (b : Bool) → f x ≡ b → Outcome f d xs (suc k) after rest → Outcome f d (x ∷ xs) k after (cond b rest (refusal 8 k))
      by true e o = later true e tt o
      by false e o =
          inr (0, record { below = omega arith; fails = λ t. subst T e t; before = λ q l. absurd (omega arith) }, ap (refusal 8) (omega arith))

asks_outcome : (G : Graph ℤ) (k : ℕ) (xs : List Ask) (after : Verdict) → Outcome (ask_lies G) no_ask xs k after (asks_lie_verdict G k xs after)
unfolding asks_lie_verdict Outcome
asks_outcome G k [] after = inl (tt, refl)
asks_outcome G k (x ∷ xs) after = outcome_next (ask_lies G) no_ask x xs k after _ (asks_outcome G (suc k) xs after)

reads_outcome : (G : Graph ℤ) (k : ℕ) (rs : List (List ℕ)) (after : Verdict) → Outcome (read_lies G) [] rs k after (reads_lie_verdict G k rs after)
unfolding reads_lie_verdict Outcome
reads_outcome G k [] after = inl (tt, refl)
reads_outcome G k (r ∷ rs) after = outcome_next (read_lies G) [] r rs k after _ (reads_outcome G (suc k) rs after)

module _ (s : List ℕ) (wf : WellFormed (graph_of s)) (room : ℕ) where
  abbrev G : Graph ℤ
  G = graph_of s

  asks_count : length (asks G) ≡ length G.vertices + length G.arcs
  asks_count =
      length-append (vertex_asks 0 G.vertices) (map arc_ask G.arcs) ∙
      subst (λ k. k + length (map arc_ask G.arcs) ≡ length G.vertices + length G.arcs) (sym (vertex_asks_count 0 G.vertices))
      (ap (λ k. length G.vertices + k) (length-map G.arcs arc_ask))

  item_iff : (q : ℕ) → q < length (asks G) →
      T (ask_lies G (get_or (asks G) q no_ask)) ↔ (1 ≤ (get_or (asks G) q no_ask).demand → ItemOnPath G (get_or (asks G) q no_ask).item)
  item_iff q l =
      ask_lies_lem G wf (get_or (asks G) q no_ask) (at_all (λ a. T (linked G.arcs (item_list a.item))) no_ask (asks G) (asks_linked G) q l)

  read_iff : (j : ℕ) → j < length G.reads → T (read_lies G (get_or G.reads j [])) ↔ ReadOnPath G (get_or G.reads j [])
  read_iff j l =
      let h = at_all (λ r. (2 ≤ length r) × T (linked G.arcs r)) [] G.reads wf.reads_linked j l in
      read_lies_lem G wf (get_or G.reads j []) (omega (arith, h.0)) h.1

  -- an item that lies, where all tests before it hold
  lies_item : (q : ℕ) → q < length (asks G) → T (ask_lies G (get_or (asks G) q no_ask)) → Lies G q
  lies_item q l t = record { item = λ b one. (item_iff q l).0 t one; read = λ j e b. absurd (omega arith) }

  lies_read : (j : ℕ) → j < length G.reads → T (read_lies G (get_or G.reads j [])) → Lies G (length (asks G) + j)
  lies_read j l t =
      record {
        item = λ b. absurd (omega arith);
        read =
            λ i e b.
            let same : j ≡ i = omega arith in
            subst (λ k. ReadOnPath G (get_or G.reads k [])) same ((read_iff j l).0 t);
      }

  item_first : (p : ℕ) → FirstNot (ask_lies G) no_ask (asks G) p → FirstLacking G p
  item_first p n =
      record {
        inside = omega (arith, n.below);
        lacks = λ h. n.fails ((item_iff p n.below).1 (h.item n.below));
        before = λ q l. lies_item q (omega (arith, n.below)) (n.before q l);
      }

  read_first : (p : ℕ) → T (every (ask_lies G) (asks G)) → FirstNot (read_lies G) [] G.reads p → FirstLacking G (length (asks G) + p)
  read_first p all n =
      record {
        inside = omega (arith, n.below);
        lacks = λ h. n.fails ((read_iff p n.below).1 (h.read p refl n.below));
        before =
            λ q l.
            ⊎_elim (λ b. lies_item q b (every_at (ask_lies G) (asks G) no_ask q all b))
            (λ b.
            let split : length (asks G) + (q - length (asks G)) ≡ q = omega arith in
            subst (Lies G) split
            (lies_read (q - length (asks G)) (omega (arith, n.below)) (n.before (q - length (asks G)) (omega arith))))
            (below_or_not q (length (asks G)));
      }

  -- what the verdict is: all lie, and only the room is looked at; or 8 with the first item that lacks
  Answered : Verdict → Type 0
  Answered given =
      (T (coverable_test G) × (given ≡ cond (ltb room (room_asked s)) (refusal 9 0) nothing_refused)) ⊎ ((p : ℕ) × FirstLacking G p × (given ≡ refusal 8 p))

  answered : Answered (cover_verdict s room)
  unfolding cover_verdict Answered Outcome coverable_test
  answered = by (asks_outcome G 0 (asks G) _) (reads_outcome G (length G.vertices + length G.arcs) G.reads _)
    where
      after : Verdict
      after = cond (ltb room (room_asked s)) (refusal 9 0) nothing_refused

      by : Outcome (ask_lies G) no_ask (asks G) 0 (reads_lie_verdict G (length G.vertices + length G.arcs) G.reads after) (cover_verdict s room) →
          Outcome (read_lies G) [] G.reads (length G.vertices + length G.arcs) after
          (reads_lie_verdict G (length G.vertices + length G.arcs) G.reads after) → Answered (cover_verdict s room)
      by (inr (p, n, e)) r = inr (p, item_first p n, e ∙ ap (refusal 8) (omega arith))
      by (inl (a, e)) (inr (p, n, g)) = inr (length (asks G) + p, read_first p a n, e ∙ g ∙ ap (refusal 8) (omega (arith, asks_count)))
      by (inl (a, e)) (inl (b, g)) = inl (and_in (every (ask_lies G) (asks G)) (every (read_lies G) G.reads) a b, e ∙ g)

  not_eight : (b : Bool) → (cond b (refusal 9 0) nothing_refused).number ≡ 8 → ⊥
  not_eight true e = absurd (omega arith)
  not_eight false e = absurd (omega arith)

  coverable_lies : Coverable G → (p : ℕ) → Lies G p
  coverable_lies c p =
      record {
        item = λ l. at_all (λ a. 1 ≤ a.demand → ItemOnPath G a.item) no_ask (asks G) c.items_lie p l;
        read = λ j e l. at_all (ReadOnPath G) [] G.reads c.reads_lie j l;
      }

  -- Document 01, number 8, "Given exactly when": no cover exists. "A cover exists exactly when each vertex and arc of positive demand, and each read, lies on some path".
  pub eight_iff_no_cover : ((cover_verdict s room).number ≡ 8) ↔ ((W : List Weighted) → IsCover (graph_of s) W → ⊥)
  unfolding Answered
  eight_iff_no_cover = (refuses answered, gives answered)
    where
      refuses : Answered (cover_verdict s room) → (cover_verdict s room).number ≡ 8 → (W : List Weighted) → IsCover G W → ⊥
      refuses (inl (t, e)) eight W c = not_eight (ltb room (room_asked s)) (sym (ap (λ (v : Verdict). v.number) e) ∙ eight)
      refuses (inr (p, n, e)) eight W c = n.lacks (coverable_lies (cover_shows_coverable G W c) p)

      gives : Answered (cover_verdict s room) → ((W : List Weighted) → IsCover G W → ⊥) → (cover_verdict s room).number ≡ 8
      gives (inl (t, e)) none = let w = cover_exists G ((coverable_decided G wf).0 t) in absurd (none w.0 w.1)
      gives (inr (p, n, e)) none = ap (λ (v : Verdict). v.number) e

  -- Document 01, number 8, its place: "first item that asks for something (positive demand, or a read) and lies on no start-to-end path".
  pub eight_at_first_lacking : (cover_verdict s room).number ≡ 8 → FirstLacking (graph_of s) (cover_verdict s room).place
  unfolding Answered
  eight_at_first_lacking = by answered
    where
      by : Answered (cover_verdict s room) → (cover_verdict s room).number ≡ 8 → FirstLacking G (cover_verdict s room).place
      by (inl (t, e)) eight = absurd (not_eight (ltb room (room_asked s)) (sym (ap (λ (v : Verdict). v.number) e) ∙ eight))
      by (inr (p, n, e)) eight = subst (FirstLacking G) (sym (ap (λ (v : Verdict). v.place) e)) n

  -- Where a cover exists only the room is looked at: 9, or nothing is refused.
  pub coverable_asks_room : Coverable (graph_of s) → cover_verdict s room ≡ cond (ltb room (room_asked s)) (refusal 9 0) nothing_refused
  unfolding Answered
  coverable_asks_room = by answered
    where
      by : Answered (cover_verdict s room) → Coverable G → cover_verdict s room ≡ cond (ltb room (room_asked s)) (refusal 9 0) nothing_refused
      by (inl (t, e)) c = e
      by (inr (p, n, e)) c = absurd (n.lacks (coverable_lies c p))

  -- So the number is 0, 8 or 9, and the place is 0 where nothing is refused.
  pub cover_number : (cover_verdict s room).number ≤ 9
  unfolding Answered
  cover_number = by answered
    where
      low : (b : Bool) → (cond b (refusal 9 0) nothing_refused).number ≤ 9
      low true = omega arith
      low false = omega arith

      by : Answered (cover_verdict s room) → (cover_verdict s room).number ≤ 9
      by (inl (t, e)) = subst (λ (v : Verdict). v.number ≤ 9) (sym e) (low (ltb room (room_asked s)))
      by (inr (p, n, e)) = omega (arith, ap (λ (v : Verdict). v.number) e)

  pub cover_place_zero : (cover_verdict s room).number ≡ 0 → (cover_verdict s room).place ≡ 0
  unfolding Answered
  cover_place_zero = by answered
    where
      none : (b : Bool) → (cond b (refusal 9 0) nothing_refused).place ≡ 0
      none true = refl
      none false = refl

      by : Answered (cover_verdict s room) → (cover_verdict s room).number ≡ 0 → (cover_verdict s room).place ≡ 0
      by (inl (t, e)) z = subst (λ (v : Verdict). v.place ≡ 0) (sym e) (none (ltb room (room_asked s)))
      by (inr (p, n, e)) z = absurd (omega (arith, ap (λ (v : Verdict). v.number) e))

-- ---- what `first_lacking` gives, and what the builder makes of it

asks_stop : (G : Graph ℤ) (k : ℕ) (xs : List Ask) (found after : Verdict) →
    asks_lie_verdict G k xs (then found after) ≡ then (asks_lie_verdict G k xs found) after
unfolding asks_lie_verdict then
asks_stop G k [] found after = refl
asks_stop G k (x ∷ xs) found after = by (ask_lies G x) (asks_stop G (suc k) xs found after)
  where
    by : (b : Bool) → asks_lie_verdict G (suc k) xs (then found after) ≡ then (asks_lie_verdict G (suc k) xs found) after →
        cond b (asks_lie_verdict G (suc k) xs (then found after)) (refusal 8 k) ≡ then (cond b (asks_lie_verdict G (suc k) xs found) (refusal 8 k)) after
    by true ih = ih
    by false ih = refl

reads_stop : (G : Graph ℤ) (k : ℕ) (rs : List (List ℕ)) (after : Verdict) →
    reads_lie_verdict G k rs after ≡ then (reads_lie_verdict G k rs nothing_refused) after
unfolding reads_lie_verdict then
reads_stop G k [] after = refl
reads_stop G k (r ∷ rs) after = by (read_lies G r) (reads_stop G (suc k) rs after)
  where
    by : (b : Bool) → reads_lie_verdict G (suc k) rs after ≡ then (reads_lie_verdict G (suc k) rs nothing_refused) after →
        cond b (reads_lie_verdict G (suc k) rs after) (refusal 8 k) ≡ then (cond b (reads_lie_verdict G (suc k) rs nothing_refused) (refusal 8 k)) after
    by true ih = ih
    by false ih = refl

-- "Then the builder gives 8 before 9": what is found of the items decides, and only then the room.
pub lacking_then_room : (s : List ℕ) (room : ℕ) →
    cover_verdict s room ≡ then (lie_verdict (graph_of s) nothing_refused) (cond (ltb room (room_asked s)) (refusal 9 0) nothing_refused)
unfolding cover_verdict lie_verdict
lacking_then_room s room =
    let G = graph_of s in
    ap (asks_lie_verdict G 0 (asks G)) (reads_stop G (length G.vertices + length G.arcs) G.reads _) ∙ asks_stop G 0 (asks G) _ _

-- with the room that is asked for, what is found of the items is all
room_enough : (s : List ℕ) → cover_verdict s (room_asked s) ≡ lie_verdict (graph_of s) nothing_refused
unfolding cover_verdict lie_verdict
room_enough s =
    let G = graph_of s in
    ap (λ b. asks_lie_verdict G 0 (asks G) (reads_lie_verdict G (length G.vertices + length G.arcs) G.reads (cond b (refusal 9 0) nothing_refused)))
    (le-ltb (room_asked s) (room_asked s) (le_refl (room_asked s)))

-- `first_lacking` refuses nothing exactly where a cover exists.
pub none_lacking_iff_coverable : (s : List ℕ) → WellFormed (graph_of s) → ((lie_verdict (graph_of s) nothing_refused).number ≡ 0) ↔ Coverable (graph_of s)
unfolding Answered
none_lacking_iff_coverable s wf = (λ none. found (answered s wf (room_asked s)) (same ∙ none), λ c. sym same ∙ given c)
  where
    same : (cover_verdict s (room_asked s)).number ≡ (lie_verdict (graph_of s) nothing_refused).number
    same = ap (λ (v : Verdict). v.number) (room_enough s)

    given : Coverable (graph_of s) → (cover_verdict s (room_asked s)).number ≡ 0
    given c =
        ap (λ (v : Verdict). v.number)
        (coverable_asks_room s wf (room_asked s) c ∙ ap (λ b. cond b (refusal 9 0) nothing_refused) (le-ltb (room_asked s) (room_asked s) (le_refl (room_asked s))))

    found : Answered s wf (room_asked s) (cover_verdict s (room_asked s)) → (cover_verdict s (room_asked s)).number ≡ 0 → Coverable (graph_of s)
    found (inl (t, e)) none = (coverable_decided (graph_of s) wf).0 t
    found (inr (p, n, e)) none = absurd (omega (arith, sym (ap (λ (v : Verdict). v.number) e) ∙ none))
