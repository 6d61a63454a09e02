-- Laws of taking loads off a bare network, over plain lists: looking for a loaded edge, walking from the root back to it, and what the loads are worth
-- after a walk is taken off.
use Rattle.std.proofs.Common.{ℕ, suc, ◌+◌, ◌*◌, ◌-◌, ◌≤◌, ◌<◌, min, arith, mul-add, add-mul, mul-zero, mul-one, add-one, ◌≡◌, refl, sym, ap, subst, ◌∙◌, List, [], ◌∷◌, ◌++◌, ◌⊎◌, inl, inr, ⊎_elim, ◌≢◌, length, set, take, drop, length-set, get_or-set_same, get_or-set_other, take-suc, take-suc-set}
use Rattle.std.proofs.Math.Seq.{split_at, append_snoc}
use Rattle.mathematics.specs.Lists.{All}
use Rattle.mathematics.specs.Range.{OneOf}
use Rattle.mathematics.proofs.Basics.{all_append, all_weaken, all_right, among_left, among_right}
use Rattle.mathematics.proofs.Loads.{sum_over, sum_over_append}
use Rattle.network.specs.Network.{nth, sum_to, share, leaving, entering, Chained, most_nodes, most_edges}
use Rattle.std.specs.Prelude.{Option, None, Some, IsSome}
use Rattle.paths.specs.Peel.{worth_to, Circles, plus_one, NextLoaded, Looking, Onward, Winds, Walked, TakenOff}
use Rattle.network.proofs.NetworkLaws.{same_or_not, below_or_not, sum_change, sum_none, sum_term, share_same, share_other}

module _ (N E : ℕ) (from head next load : List ℕ) (u : ℕ) (chained : Chained N E from head next) where
  pub look_first : u < N → Looking E from load u (nth head u)
  look_first b =
      record {
        below = chained.head_below u b;
        key = chained.head_key u b;
        passed = λ e h k l. absurd (omega (arith, chained.head_all u b e h k));
      }

  pub look_on : (h : ℕ) → Looking E from load u h → 1 ≤ h → nth load (h - 1) ≤ 0 → Looking E from load u (nth next (h - 1))
  look_on h L p z =
      record {
        below = omega (arith, chained.next_below (h - 1) (omega (arith, L.below)), L.below);
        key = λ g q. chained.next_key (h - 1) (omega (arith, L.below)) g q ∙ own;
        passed = λ e b k l. ⊎_elim (earlier e b k l) (λ n. later e b k n (same_or_not e (h - 1))) (below_or_not e (h - 1));
      }
    where
      own : nth from (h - 1) ≡ u
      own = L.key (h - 1) (omega arith)

      earlier : (e : ℕ) → e < E → nth from e ≡ u → nth next (h - 1) ≤ e → e < h - 1 → nth load e ≡ 0
      earlier e b k l n = absurd (omega (arith, chained.next_all (h - 1) (omega (arith, L.below)) e n (k ∙ sym own)))

      later : (e : ℕ) → e < E → nth from e ≡ u → h - 1 ≤ e → (e ≡ h - 1) ⊎ (e ≢ h - 1) → nth load e ≡ 0
      later e b k n (inl q) = ap (nth load) q ∙ omega arith
      later e b k n (inr q) = L.passed e b k (omega arith)

  pub look_found : (h : ℕ) → Looking E from load u h → 1 ≤ h → 1 ≤ nth load (h - 1) → NextLoaded E from load u (h - 1 + 1)
  look_found h L p l =
      record {
        none = λ z. absurd (omega arith);
        some = λ e q. let i : h - 1 ≡ e = omega arith in
            (omega (arith, L.below), L.key e (omega arith), subst (λ (k : ℕ). 1 ≤ nth load k) i l);
      }

  pub look_none : (h : ℕ) → Looking E from load u h → h ≤ 0 → NextLoaded E from load u 0
  look_none h L z =
      record { none = λ q e b k. L.passed e b k (omega arith); some = λ e q. absurd (omega arith) }

-- a search that has come to h goes on there
pub onward_at : (N E : ℕ) (from load places : List ℕ) → Onward N E from load places → (u h : ℕ) → u < length places → Looking E from load u h →
    Onward N E from load (set places u h)
onward_at N E from load places on u h l L v b = ⊎_elim here (λ n. subst (Looking E from load v) (sym (get_or-set_other places u v h 0 n)) (on v b)) (same_or_not v u)
  where
    here : v ≡ u → Looking E from load v (nth (set places u h) v)
    here q = subst (λ (w : ℕ). Looking E from load w (nth (set places u h) w)) (sym q) (subst (Looking E from load u) (sym (get_or-set_same places u h 0 l)) L)

-- a sum of which one part is k less
sum_one_less : (E : ℕ) (f g : ℕ → ℕ) (e k : ℕ) → e < E → f e ≡ g e + k → ((j : ℕ) → j ≢ e → f j ≡ g j) → sum_to E f ≡ sum_to E g + k
sum_one_less E f g e k b p q = omega (arith, sum_change E e f g b q, p)

pub share_here : (u k : ℕ) → share u u k ≡ k
share_here u k = share_same u u k refl

-- the loads on the edges whose key is u: nothing where none of them is loaded, and no less than one of them
pub shares_nothing : (E : ℕ) (key load : List ℕ) (u : ℕ) → ((e : ℕ) → e < E → nth key e ≡ u → nth load e ≡ 0) →
    sum_to E (λ e. share u (nth key e) (nth load e)) ≡ 0
shares_nothing E key load u h = sum_none E _ (λ e b. go e b (same_or_not u (nth key e)))
  where
    go : (e : ℕ) → e < E → (u ≡ nth key e) ⊎ (u ≢ nth key e) → share u (nth key e) (nth load e) ≡ 0
    go e b (inl q) = rw (← q, share_here) (h e b (sym q))
    go e b (inr n) = share_other u (nth key e) (nth load e) n

pub shares_part : (E : ℕ) (key load : List ℕ) (u e : ℕ) → e < E → nth key e ≡ u → nth load e ≤ sum_to E (λ e. share u (nth key e) (nth load e))
shares_part E key load u e b k =
    subst (λ (n : ℕ). n ≤ sum_to E (λ e. share u (nth key e) (nth load e))) (ap (λ (v : ℕ). share u v (nth load e)) k ∙ share_here u (nth load e))
    (sum_term E e (λ e. share u (nth key e) (nth load e)) b)

-- 1 at the edge e, and else nothing
abbrev pub only : ℕ → ℕ → ℕ
only e j = share e j 1

worth_only : (E : ℕ) (load : List ℕ) (e : ℕ) → e < E → worth_to E load (only e) ≡ nth load e
worth_only E load e b =
    sum_one_less E (λ j. nth load j * only e j) (λ j. 0) e (nth load e) b (rw (share_here, mul-one) (omega arith))
    (λ j n. rw (share_other e j 1 (λ q. n (sym q)), mul-zero) refl) ∙
    omega (arith, sum_none E (λ j. 0) (λ j h. refl))

worth_less : (E : ℕ) (load : List ℕ) (e a : ℕ) (g : ℕ → ℕ) → e < E → e < length load → a ≤ nth load e →
    worth_to E load g ≡ worth_to E (set load e (nth load e - a)) g + a * g e
worth_less E load e a g b l h =
    sum_one_less E (λ j. nth load j * g j) (λ j. nth (set load e (nth load e - a)) j * g j) e (a * g e) b
    (rw (get_or-set_same load e (nth load e - a) 0 l, ← add-mul) (ap (λ (n : ℕ). n * g e) (omega arith)))
    (λ j n. rw (get_or-set_other load e j (nth load e - a) 0 n) refl)

pub taken_none : (E : ℕ) (load : List ℕ) (a : ℕ) → length load ≡ most_edges → TakenOff E load [] a load
taken_none E load a l = record { long = l; worths = λ g. rw mul-zero (omega arith) }

taken_more : (E : ℕ) (load ws : List ℕ) (a : ℕ) (now : List ℕ) (e : ℕ) → TakenOff E load ws a now → E ≤ most_edges → e < E → a ≤ nth now e →
    TakenOff E load (ws ++ (e ∷ [])) a (set now e (nth now e - a))
taken_more E load ws a now e t small b h =
    record {
      long = length-set now e (nth now e - a) ∙ t.long;
      worths = λ g.
          rw (sum_over_append g ws (e ∷ []), mul-add)
          (omega (arith, t.worths g, worth_less E now e a g b (omega (arith, t.long)) h, ap (λ (n : ℕ). a * n) (plain (g e))));
    }
  where
    plain : (n : ℕ) → n + 0 ≡ n
    plain n = omega arith

-- what an edge has lost
pub taken_at : (E : ℕ) (load ws : List ℕ) (a : ℕ) (now : List ℕ) → TakenOff E load ws a now → (e : ℕ) → e < E →
    nth load e ≡ nth now e + a * sum_over (only e) ws
taken_at E load ws a now t e b = omega (arith, t.worths (only e), worth_only E load e b, worth_only E now e b)

-- where a way is taken off, loads fall alone: each search goes on where it ended
pub onward_taken : (N E : ℕ) (from load ws : List ℕ) (a : ℕ) (now places : List ℕ) → TakenOff E load ws a now → Onward N E from load places →
    Onward N E from now places
onward_taken N E from load ws a now places t on u b =
    let L = on u b in
    record { below = L.below; key = L.key; passed = λ e l k h. omega (arith, L.passed e l k h, taken_at E load ws a now t e l) }

no_tail : (ds : List ℕ) (e : ℕ) (es : List ℕ) → ds ++ (e ∷ es) ≡ [] → ⊥
no_tail [] e es q = let n : ◌≡◌ {A = ℕ} 0 1 = cc in omega arith
no_tail (d ∷ ds) e es q = let n : ◌≡◌ {A = ℕ} 0 1 = cc in omega arith

module _ (from to : List ℕ) where
  winds_low : (u : ℕ) (ds : List ℕ) (e : ℕ) (es : List ℕ) → Winds from to u (ds ++ (e ∷ es)) → u ≤ nth from e
  winds_low u [] e es (p, w) = omega arith
  winds_low u (d ∷ ds) e es (p, inl (z, q)) = absurd (no_tail ds e es q)
  winds_low u (d ∷ ds) e es (p, inr (r, w)) = omega (arith, winds_low (nth to d) ds e es w)

  -- no edge stands twice on a way
  winds_once : (u : ℕ) (ds : List ℕ) (e : ℕ) (es : List ℕ) → Winds from to u (ds ++ (e ∷ es)) → sum_over (only e) ds ≡ 0
  winds_once u [] e es w = refl
  winds_once u (d ∷ ds) e es (p, inl (z, q)) = absurd (no_tail ds e es q)
  winds_once u (d ∷ ds) e es (p, inr (r, w)) =
      let low = winds_low (nth to d) ds e es w in
      omega (arith, winds_once (nth to d) ds e es w, share_other e d 1 (λ q. let s = ap (nth from) q in omega arith))

-- the edge at a place of a walk
module _ (E : ℕ) (from to load ws : List ℕ) (amount k : ℕ) (w : Walked E from to load ws amount) (inside : k < length ws) where
  parted : ws ≡ take k ws ++ (nth ws k ∷ drop (suc k) ws)
  parted = split_at ws k 0 inside

  pub walk_carries : (nth ws k < E) × (amount ≤ nth load (nth ws k))
  walk_carries = (all_right _ (take k ws) _ (subst (All (λ e. (e < E) × (amount ≤ nth load e))) parted w.carries)).0

  -- an edge of the walk that is not reached yet still has its load
  pub walk_fits : (now : List ℕ) → TakenOff E load (take k ws) amount now → amount ≤ nth now (nth ws k)
  walk_fits now t =
      let z = winds_once from to 0 (take k ws) (nth ws k) _ (subst (Winds from to 0) parted w.winds) in
      omega (arith, walk_carries, taken_at E load (take k ws) amount now t (nth ws k) walk_carries.0, ap (λ (n : ℕ). amount * n) z ∙ mul-zero amount)

  pub walk_turn : (now : List ℕ) → E ≤ most_edges → TakenOff E load (take k ws) amount now →
      TakenOff E load (take (k + 1) ws) amount (set now (nth ws k) (nth now (nth ws k) - amount))
  walk_turn now small t =
      subst (λ (ds : List ℕ). TakenOff E load ds amount (set now (nth ws k) (nth now (nth ws k) - amount)))
      (sym (take-suc ws k 0 inside) ∙ ap (λ (n : ℕ). take n ws) (sym (add-one k)))
      (taken_more E load (take k ws) amount now (nth ws k) t small walk_carries.0 (walk_fits now t))

-- a walk under way: along the edges ws, len of them, it has come to the node u, which is the root where the walk is at its end
pub record Going (N E : ℕ) (from to load ws : List ℕ) (len amount u : ℕ) : Type 0 where
  pub node : u < N
  pub low : len ≤ N
  pub lower : 1 ≤ u → len ≤ u
  pub come : 1 ≤ u → (es : List ℕ) → Winds from to u es → Winds from to 0 (ws ++ es)
  pub home : u ≡ 0 → Winds from to 0 ws
  pub entered : 1 ≤ u → (e : ℕ) × (e < E) × (nth to e ≡ u) × (1 ≤ nth load e)
  pub carries : All (λ e. (e < E) × (amount ≤ nth load e)) ws
  pub some : 1 ≤ amount
  pub empties : (e : ℕ) × OneOf ws e × (nth load e ≡ amount)

module _ (N E : ℕ) (from to load : List ℕ) (C : Circles N E from to load) where
  -- what comes into a node goes out
  pub way_on : (u e : ℕ) (r : Option ℕ) → u < N → e < E → nth to e ≡ u → 1 ≤ nth load e → NextLoaded E from load u (plus_one r) → IsSome r
  unfolding leaving entering
  way_on u e None b h t l n =
      absurd (omega (arith, C.balance u b, shares_nothing E from load u (n.none refl), shares_part E to load u e h t))
  way_on u e (Some r) b h t l n = refl

  going_first : (e : ℕ) → NextLoaded E from load 0 (e + 1) → Going N E from to load (e ∷ []) 1 (nth load e) (nth to e)
  going_first e n =
      let (b, f, l) = n.some e refl in
      record {
        node = C.to_node e b l;
        low = omega (arith, C.from_node e b l);
        lower = λ p. p;
        come = λ p es w. (f, inr (p, w));
        home = λ z. (f, inl (z, refl));
        entered = λ p. (e, b, refl, l);
        carries = ((b, omega arith), tt);
        some = l;
        empties = (e, inl refl, refl);
      }

  going_more : (ws : List ℕ) (len amount u e less : ℕ) → Going N E from to load ws len amount u → 1 ≤ u → NextLoaded E from load u (e + 1) →
      less ≡ min amount (nth load e) → Going N E from to load (ws ++ (e ∷ [])) (len + 1) less (nth to e)
  going_more ws len amount u e less G p n x =
      let (b, f, l) = n.some e refl in
      let o = below_or_not amount (nth load e) in
      record {
        node = C.to_node e b l;
        low = omega (arith, G.lower p, G.node);
        lower = λ q. ⊎_elim (λ h. absurd (omega arith)) (λ h. omega (arith, G.lower p)) (C.rises e b l);
        come = λ q es w. subst (Winds from to 0) (sym (append_snoc ws e es))
            (G.come p (e ∷ es) (f, inr (⊎_elim (λ h. absurd (omega arith)) (λ h. omega arith) (C.rises e b l), w)));
        home = λ z. G.come p (e ∷ []) (f, inl (z, refl));
        entered = λ q. (e, b, refl, l);
        carries = all_append _ ws (e ∷ []) (all_weaken _ _ ws (λ j h. (h.0, omega arith)) G.carries) ((b, omega arith), tt);
        some = omega (arith, G.some);
        empties = ⊎_elim
            (λ q. let (j, m, k) = G.empties in (j, among_left j ws (e ∷ []) m, omega arith))
            (λ q. (e, among_right e ws (e ∷ []) (inl refl), omega arith)) o;
      }

  pub going_start : (way : List ℕ) (e : ℕ) → length way ≡ most_nodes → NextLoaded E from load 0 (e + 1) →
      Going N E from to load (take 1 (set way 0 e)) 1 (nth load e) (nth to e)
  going_start way e long n =
      subst (λ (ws : List ℕ). Going N E from to load ws 1 (nth load e) (nth to e)) (sym (take-suc-set way 0 e (omega arith))) (going_first e n)

  pub going_turn : (way : List ℕ) (len amount u e less : ℕ) → length way ≡ most_nodes → len < most_nodes → Going N E from to load (take len way) len amount u → 1 ≤ u →
      NextLoaded E from load u (e + 1) → less ≡ min amount (nth load e) →
      Going N E from to load (take (len + 1) (set way len e)) (len + 1) less (nth to e)
  going_turn way len amount u e less long room G p n x =
      subst (λ (ws : List ℕ). Going N E from to load ws (len + 1) less (nth to e))
      (sym (take-suc-set way len e (omega arith)) ∙ ap (λ (k : ℕ). take k (set way len e)) (sym (add-one len)))
      (going_more (take len way) len amount u e less G p n x)

  pub going_home : (ws : List ℕ) (len amount u : ℕ) → Going N E from to load ws len amount u → u ≤ 0 → Walked E from to load ws amount
  going_home ws len amount u G z =
      record { winds = G.home (omega arith); carries = G.carries; some = G.some; empties = G.empties }
