-- From what the flow leaves to what a build ends with: marks and loads are settled, the full loads go round, and they open no more copies than there was to move.
use Prim.Native.Nat.{ℕ, ◌+◌, ◌*◌, ◌-◌, ◌≤◌, ◌<◌}
use native.Mathlib.Omega.{arith}
use mathlib.Core.Path.{◌≡◌, refl, sym, ap, subst, subst₂, ◌∙◌}
use mathlib.Core.List.{List}
use mathlib.Core.Bool.{Bool, true, false, cond}
use mathlib.Core.Logic.{◌⊎◌, inl, inr, ◌≢◌}
use borrow.Author.Tests.{eq-eqb, ne_eqb}
use lib.Dec.{T, eqb}
use lib.ListN.{length}
use Rattle.mathematics.specs.Reach.{useful}
use Rattle.mathematics.proofs.Basics.{is_true, is_false, test}
use Rattle.mathematics.proofs.Links.{in_node, out_node, link_from, link_to}
use Rattle.forms.specs.GraphForm.{vertex_count, arc_count}
use Rattle.forms.specs.GraphOf.{graph_of}
use Rattle.forms.specs.GraphReads.{Reads}
use Rattle.network.specs.Network.{nth, live_at, sum_to, share, leaving, entering, base, span, Carried, most_moved, highest}
use Rattle.paths.specs.Slots.{prepared_of, plain_slots, all_slots, opening_slot, reading_slot, link_at, in_use, edge_from, edge_to, edge_cost, first_load, live_node, copies_of}
use Rattle.wiring.specs.Lay.{EdgesLaid, LoadsLaid, LiveLaid}
use Rattle.paths.specs.Peel.{GoesRound}
use Rattle.builder.specs.Finish.{Settled, Added, Flowed}
use Rattle.forms.specs.Limits.{max_demand}
use Rattle.network.proofs.NetworkLaws.{same_or_not, below_or_not, sum_same, share_same}
use Rattle.wiring.proofs.LayLawsLoad.{live_in, live_out}
use Rattle.paths.proofs.SlotKinds
use Rattle.wiring.proofs.SlotLaws

-- ---- an edge and its link

module _ (s : List ℕ) (e : ℕ) where
  used_from : T (in_use s (link_at s e)) → edge_from s e ≡ link_from (link_at s e)
  unfolding edge_from
  used_from u = rw (is_true (in_use s (link_at s e)) u)

  used_to : T (in_use s (link_at s e)) → edge_to s e ≡ link_to 0 (link_at s e)
  unfolding edge_to
  used_to u = rw (is_true (in_use s (link_at s e)) u)

  -- an edge that is no loop stands for a link in use
  no_loop_used : edge_from s e ≢ edge_to s e → T (in_use s (link_at s e))
  unfolding edge_from edge_to
  no_loop_used d = pick (test (in_use s (link_at s e)))
    where
      pick : T (in_use s (link_at s e)) ⊎ (T (in_use s (link_at s e)) → ⊥) → T (in_use s (link_at s e))
      pick (inl u) = u
      pick (inr n) = absurd (d (rw (is_false (in_use s (link_at s e)) n)))

-- ---- shares

share_sum : (u v a b : ℕ) → share u v (a + b) ≡ share u v a + share u v b
share_sum u v a b = both (eqb u v)
  where
    both : (t : Bool) → cond t (a + b) 0 ≡ cond t a 0 + cond t b 0
    both true = refl
    both false = refl

-- loads of which each is a sum
sum_shares : (n u : ℕ) (key a b f : ℕ → ℕ) → ((e : ℕ) → e < n → f e ≡ a e + b e) →
    sum_to n (λ e. share u (key e) (f e)) ≡ sum_to n (λ e. share u (key e) (a e)) + sum_to n (λ e. share u (key e) (b e))
sum_shares n u key a b f h =
    sum_same n (λ e. share u (key e) (f e)) (λ e. share u (key e) (a e) + share u (key e) (b e))
    (λ e l. ap (share u (key e)) (h e l) ∙ share_sum u (key e) (a e) (b e)) ∙
    SlotLaws.sum_add n (λ e. share u (key e) (a e)) (λ e. share u (key e) (b e))

module _ (plain more : ℕ) (from to load first added full : List ℕ) (A : Added plain from to load first added full) where
  -- what the flow carries on loops
  loop : ℕ → ℕ
  loop e = cond (eqb (nth from e) (nth to e)) (nth load e) 0

  load_parts : (e : ℕ) → e < plain → nth load e ≡ nth added e + loop e
  unfolding loop
  load_parts e h = both (eqb (nth from e) (nth to e)) (A.added_is e h)
    where
      both : (t : Bool) → nth added e ≡ cond t 0 (nth load e) → nth load e ≡ nth added e + cond t (nth load e) 0
      both true q = omega arith
      both false q = omega arith

  -- a loop leaves and enters the same node
  loops_same : (u : ℕ) → sum_to plain (λ e. share u (nth from e) (loop e)) ≡ sum_to plain (λ e. share u (nth to e) (loop e))
  unfolding loop
  loops_same u = sum_same plain _ _ (λ e l. each e (same_or_not (nth from e) (nth to e)))
    where
      nothing : (v : ℕ) → share u v 0 ≡ 0
      nothing v = let h = share_sum u v 0 0 in omega arith

      each : (e : ℕ) → (nth from e ≡ nth to e) ⊎ (nth from e ≢ nth to e) → share u (nth from e) (cond (eqb (nth from e) (nth to e)) (nth load e) 0) ≡ share u (nth to e) (cond (eqb (nth from e) (nth to e)) (nth load e) 0)
      each e (inl q) = ap (λ v. share u v (cond (eqb (nth from e) (nth to e)) (nth load e) 0)) q
      each e (inr d) =
          ap (λ t. share u (nth from e) (cond t (nth load e) 0)) (ne_eqb (nth from e) (nth to e) d) ∙
          (nothing (nth from e) ∙ (sym (nothing (nth to e)) ∙ sym (ap (λ t. share u (nth to e) (cond t (nth load e) 0)) (ne_eqb (nth from e) (nth to e) d))))

  -- the full loads at a node, by either end
  full_share : (u : ℕ) (key : List ℕ) →
      sum_to (plain + more) (λ e. share u (nth key e) (nth full e)) ≡
      sum_to (plain + more) (λ e. share u (nth key e) (nth first e)) + sum_to plain (λ e. share u (nth key e) (nth added e))
  full_share u key =
      omega (
        arith,
        SlotLaws.sum_split plain more (λ e. share u (nth key e) (nth full e)),
        SlotLaws.sum_split plain more (λ e. share u (nth key e) (nth first e)),
        sum_shares plain u (nth key) (nth first) (nth added) (nth full) A.full_is,
        sum_same more (λ k. share u (nth key (plain + k)) (nth full (plain + k))) (λ k. share u (nth key (plain + k)) (nth first (plain + k)))
            (λ k l. ap (share u (nth key (plain + k))) (A.kept (plain + k) (omega arith))),
      )

  -- what is balanced with the flow's loads beside the first ones goes round with the full ones
  pub goes_round : (u : ℕ) → leaving from load plain u + leaving from first (plain + more) u ≡ entering to load plain u + entering to first (plain + more) u →
      leaving from full (plain + more) u ≡ entering to full (plain + more) u
  unfolding leaving entering
  goes_round u balance =
      omega (
        arith,
        full_share u from,
        full_share u to,
        sum_shares plain u (nth from) (nth added) loop (nth load) load_parts,
        sum_shares plain u (nth to) (nth added) loop (nth load) load_parts,
        loops_same u,
      )

-- ---- what the flow leaves

module _ (s : List ℕ) (right : Reads s) (from to cost first load mark added full : List ℕ) (live : List Bool) (moved : ℕ) (E : EdgesLaid s (all_slots s) from to cost)
    (F : LoadsLaid s (all_slots s) first) (first_used : (e : ℕ) → e < all_slots s → 1 ≤ first_load s e → T (in_use s (link_at s e)))
    (first_low : (e : ℕ) → e < all_slots s → first_load s e ≤ max_demand) (K : LiveLaid s (2 * vertex_count s + 1) live)
    (C : Carried (2 * vertex_count s + 1) (plain_slots s) live from to cost load mark (λ u. entering to first (all_slots s) u) (λ u. leaving from first (all_slots s) u) moved)
    (few : moved ≤ most_moved) (A : Added (plain_slots s) from to load first added full) where
  plain_below : (e : ℕ) → e < plain_slots s → e < all_slots s
  plain_below e h = omega arith

  from_is : (e : ℕ) → e < plain_slots s → nth from e ≡ edge_from s e
  from_is e h = E.from_is e (plain_below e h)

  to_is : (e : ℕ) → e < plain_slots s → nth to e ≡ edge_to s e
  to_is e h = E.to_is e (plain_below e h)

  -- what is added lies on edges that are no loops, and is what the flow carries
  added_there : (e : ℕ) → e < plain_slots s → 1 ≤ nth added e → (nth from e ≢ nth to e) × (nth added e ≡ nth load e)
  added_there e h k = pick (same_or_not (nth from e) (nth to e))
    where
      pick : (nth from e ≡ nth to e) ⊎ (nth from e ≢ nth to e) → (nth from e ≢ nth to e) × (nth added e ≡ nth load e)
      pick (inl q) = absurd (omega (arith, A.added_is e h ∙ ap (λ t. cond t 0 (nth load e)) (eq-eqb (nth from e) (nth to e) q)))
      pick (inr d) = (d, A.added_is e h ∙ ap (λ t. cond t 0 (nth load e)) (ne_eqb (nth from e) (nth to e) d))

  added_used : (e : ℕ) → e < plain_slots s → 1 ≤ nth added e → T (in_use s (link_at s e))
  added_used e h k = no_loop_used s e (λ q. (added_there e h k).0 (from_is e h ∙ (q ∙ sym (to_is e h))))

  -- the ends of an edge in use are those of its link
  ends_used : (e : ℕ) → e < plain_slots s → T (in_use s (link_at s e)) → (nth from e ≡ link_from (link_at s e)) × (nth to e ≡ link_to 0 (link_at s e))
  ends_used e h u = (from_is e h ∙ used_from s e u, to_is e h ∙ used_to s e u)

  near : (u : ℕ) → u < 2 * vertex_count s + 1 → live_node s u ≡ true → (nth mark u ≤ highest) × (base ≤ nth mark u + span)
  near u h l =
      let t : T (live_at live u) = subst T (sym (K.is u h ∙ l)) tt in
      (C.marks_near.not_above u h t, C.marks_near.not_below u h t)

  settled : Settled s mark added full
  settled =
      record {
        at_root = C.marks_near.at_root;
        in_near = λ v u. near (in_node v) (let b = below v u in omega arith) (live_in s v ∙ is_true _ u);
        out_near = λ v u. near (out_node v) (let b = below v u in omega arith) (live_out s v ∙ is_true _ u);
        slacks = λ e h u.
            let q = ends_used e h u in
            subst₂ (λ x y. nth mark y ≤ edge_cost s e + nth mark x) q.0 q.1
            (subst (λ k. nth mark (nth to e) ≤ k + nth mark (nth from e)) (E.cost_is e (plain_below e h)) (C.slacks_hold e h));
        added_in_use = added_used;
        tight = λ e h k.
            let q = ends_used e h (added_used e h k) in
            let l : 1 ≤ nth load e = omega (arith, (added_there e h k).1) in
            subst₂ (λ x y. nth mark y ≡ edge_cost s e + nth mark x) q.0 q.1
            (subst (λ k. nth mark (nth to e) ≡ k + nth mark (nth from e)) (E.cost_is e (plain_below e h)) (C.loads_tight e h l));
        plain = λ e h. A.full_is e h ∙ ap (λ k. k + nth added e) (F.is e (plain_below e h));
        reads = λ r h.
            A.kept (reading_slot s r) (omega arith) ∙
            (F.is (reading_slot s r) (omega arith) ∙ SlotLaws.first_reading s r);
      }
    where
      below : (v : ℕ) → T (useful (graph_of s) v) → v < vertex_count s
      below v u = SlotLaws.useful_below s right v u

  goes : GoesRound s (2 * vertex_count s + 1) from to full
  goes =
      record {
        from_right = E.from_is;
        to_right = E.to_is;
        links_in_use = λ e h k. used e h k (below_or_not e (plain_slots s));
        balance = λ u h. goes_round (plain_slots s) (length (prepared_of s)) from to load first added full A u (C.balance u h);
      }
    where
      used : (e : ℕ) → e < all_slots s → 1 ≤ nth full e → (e < plain_slots s) ⊎ (plain_slots s ≤ e) → T (in_use s (link_at s e))
      used e h k (inl l) = pick (below_or_not 0 (nth added e))
        where
          pick : (0 < nth added e) ⊎ (nth added e ≤ 0) → T (in_use s (link_at s e))
          pick (inl a) = added_used e l a
          pick (inr z) = first_used e h (omega (arith, A.full_is e l, F.is e h))
      used e h k (inr g) = first_used e h (omega (arith, A.kept e g, F.is e h))

  -- what is added to an opening leaves the root
  opening_sends : (k : ℕ) → k < vertex_count s →
      nth full (vertex_count s + arc_count s + k) ≤ share 0 (nth from (vertex_count s + arc_count s + k)) (nth load (vertex_count s + arc_count s + k))
  opening_sends k h = pick (below_or_not 0 (nth added e))
    where
      e : ℕ
      e = vertex_count s + arc_count s + k

      eb : e < plain_slots s
      eb = omega arith

      none_first : nth full e ≡ nth added e
      none_first = omega (arith, A.full_is e eb, F.is e (plain_below e eb), SlotLaws.first_end s e (omega arith) eb)

      at_root : 1 ≤ nth added e → nth from e ≡ 0
      at_root l =
          let v : ℕ = vertex_count s - (k + 1) in
          let q : e ≡ opening_slot s v = omega arith in
          (ends_used e eb (added_used e eb l)).0 ∙ ap link_from (ap (link_at s) q ∙ SlotKinds.at_opening s v (omega arith))

      pick : (0 < nth added e) ⊎ (nth added e ≤ 0) → nth full e ≤ share 0 (nth from e) (nth load e)
      pick (inl l) = omega (arith, none_first, (added_there e eb l).1, share_same 0 (nth from e) (nth load e) (sym (at_root l)))
      pick (inr z) = omega (arith, none_first)

  copies_few : copies_of s full ≤ most_moved
  unfolding leaving
  copies_few =
      let n : ℕ = vertex_count s in
      let m : ℕ = arc_count s in
      let f : ℕ → ℕ = λ e. share 0 (nth from e) (nth load e) in
      let p : plain_slots s ≡ n + m + n + n = omega arith in
      omega (
        arith,
        SlotLaws.sum_most n (λ k. nth full (n + m + k)) (λ k. f (n + m + k)) opening_sends,
        SlotLaws.sum_split (n + m) n f,
        SlotLaws.sum_split (n + m + n) n f,
        ap (λ k. sum_to k f) p,
        C.root_sends,
      )

  pub flowed : Flowed s from to mark full
  flowed =
      record {
        added = added;
        settled = settled;
        loaded = record { goes = goes; reads = settled.reads; few = copies_few; low = λ e h. low e h (below_or_not 0 (nth added e)); long = A.long };
      }
    where
      low : (e : ℕ) → e < plain_slots s → (0 < nth added e) ⊎ (nth added e ≤ 0) → nth full e ≤ most_moved + max_demand
      low e h (inl l) = omega (arith, A.full_is e h, F.is e (plain_below e h), first_low e (plain_below e h), (added_there e h l).1, C.few e h)
      low e h (inr z) = omega (arith, A.full_is e h, F.is e (plain_below e h), first_low e (plain_below e h))
