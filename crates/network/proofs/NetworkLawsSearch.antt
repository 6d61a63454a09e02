-- Laws of the search over plain lists: the scan for the nearest node, a distance taken, an edge passed, a node settled, and what is found.
use Rattle.std.proofs.Common.{ℕ, ◌+◌, ◌*◌, ◌-◌, ◌≤◌, ◌<◌, arith, ◌≡◌, refl, sym, ap, subst, ◌∙◌, List, ◌⊎◌, inl, inr, ⊎_elim, ◌≢◌, set, length-set, get_or-set_same, get_or-set_other}
use Rattle.network.specs.Network.{nth, Chained, Lanes, Growing, Lowered, nearer, kept, Hop, forward, back, far, widest, farthest}
use Rattle.network.proofs.NetworkLaws.{same_or_not, below_or_not, nth_set}

-- ---- the scan for the nearest node, after v nodes
pub record Scanned (N v : ℕ) (dist rank : List ℕ) (best least : ℕ) : Type 0 where
  pub node : best ≤ N
  pub none_yet : best ≡ N → least ≡ far
  pub open_still : best < N → N ≤ nth rank best
  pub reached : best < N → least < far
  pub its : best < N → nth dist best ≡ least
  pub all : (w : ℕ) → w < v → N ≤ nth rank w → nth dist w < far → least ≤ nth dist w

-- ---- a distance taken, an edge passed
module _ (N E : ℕ) (from to cost load mark : List ℕ) (source u h k count : ℕ) (dist via rank : List ℕ) where
  -- the edges of u are looked at down to h' and k' now
  renew : (h' k' : ℕ) → Growing N E from to cost load mark source u h k count dist via rank →
      ((e : ℕ) → e < E → nth rank (nth from e) < N → (nth from e ≡ u → h' ≤ e) →
      nth dist (nth to e) + nth mark (nth to e) ≤ nth dist (nth from e) + (nth cost e + nth mark (nth from e))) →
      ((e : ℕ) → e < E → 1 ≤ nth load e → nth rank (nth to e) < N → (nth to e ≡ u → k' ≤ e) → nth dist (nth from e) ≤ nth dist (nth to e)) →
      Growing N E from to cost load mark source u h' k' count dist via rank
  renew h' k' G out ins = record {
    dist_long = G.dist_long;
    via_long = G.via_long;
    rank_long = G.rank_long;
    source_node = G.source_node;
    node = G.node;
    from_here = G.from_here;
    source_settled = G.source_settled;
    here_settled = G.here_settled;
    relaxed = out;
    relaxed_back = ins;
    latest = G.latest;
    beyond = G.beyond;
    ranks = G.ranks;
    rank_most = G.rank_most;
    tally = G.tally;
    near = G.near;
    here_near = G.here_near;
    hops = G.hops;
  }

module _ (N E : ℕ) (from to cost load mark : List ℕ) (source u h k count : ℕ) (dist via rank : List ℕ)
    (L : Lanes N E from to cost mark) (G : Growing N E from to cost load mark source u h k count dist via rank) where
  module _ (v d p : ℕ) (vn : v < N) (low : nth dist u ≤ d) (less : d < nth dist v) where
    not_settled : N ≤ nth rank v
    not_settled = ⊎_elim (λ l. absurd (omega (arith, G.latest v vn l))) (λ o. o) (below_or_not (nth rank v) N)

    on_dist : (w : ℕ) → ((w ≡ v) × (nth (set dist v d) w ≡ d)) ⊎ ((w ≢ v) × (nth (set dist v d) w ≡ nth dist w))
    on_dist w = nth_set dist v d w (let a = L.few_nodes in omega (arith, G.dist_long))

    -- a settled node's distance is kept
    settled_kept : (w : ℕ) → nth rank w < N → nth (set dist v d) w ≡ nth dist w
    settled_kept w l = ⊎_elim (λ s. absurd (omega (arith, not_settled, ap (nth rank) s.0))) (λ o. o.1) (on_dist w)

    pub here_kept : nth (set dist v d) u ≡ nth dist u
    here_kept = settled_kept u G.here_settled

    -- no distance grows
    not_more : (w : ℕ) → nth (set dist v d) w ≤ nth dist w
    not_more w = ⊎_elim (λ s. omega (arith, ap (nth dist) s.0)) (λ o. omega arith) (on_dist w)

    other_hop : (w : ℕ) → w < N → w ≢ v → Hop E from to cost load mark dist via rank w → Hop E from to cost load mark (set dist v d) (set via v p) rank w
    other_hop w wn ne (forward e l q t r s) =
        let m = G.rank_most w wn in
        let a = settled_kept (nth from e) (omega arith) in
        let b = get_or-set_other dist v w d 0 ne in
        forward e l (get_or-set_other via v w p 0 ne ∙ q) t r (omega arith)
    other_hop w wn ne (back e l q t r o s) =
        let m = G.rank_most w wn in
        let a = settled_kept (nth to e) (omega arith) in
        let b = get_or-set_other dist v w d 0 ne in
        back e l (get_or-set_other via v w p 0 ne ∙ q) t r o (omega arith)

    -- a nearer way to v is taken
    pub improve : d ≤ count * widest → Hop E from to cost load mark (set dist v d) (set via v p) rank v →
        Growing N E from to cost load mark source u h k count (set dist v d) (set via v p) rank
    improve w hop = record {
      dist_long = length-set dist v d ∙ G.dist_long;
      via_long = length-set via v p ∙ G.via_long;
      rank_long = G.rank_long;
      source_node = G.source_node;
      node = G.node;
      from_here = settled_kept source G.source_settled ∙ G.from_here;
      source_settled = G.source_settled;
      here_settled = G.here_settled;
      relaxed = λ e l r t. omega (arith, G.relaxed e l r t, not_more (nth to e), settled_kept (nth from e) r);
      relaxed_back = λ e l o r t. omega (arith, G.relaxed_back e l o r t, not_more (nth from e), settled_kept (nth to e) r);
      latest = λ x xn r. omega (arith, G.latest x xn r, settled_kept x r, here_kept);
      beyond = λ x xn r. ⊎_elim
          (λ s. omega (arith, here_kept))
          (λ o. omega (arith, here_kept, G.beyond x xn r))
          (on_dist x);
      ranks = G.ranks;
      rank_most = G.rank_most;
      tally = G.tally;
      near = λ x xn f. ⊎_elim (λ s. omega arith) (λ o. omega (arith, G.near x xn (omega arith))) (on_dist x);
      here_near = omega (arith, G.here_near, here_kept);
      hops = λ x xn f. ⊎_elim
          (λ s. inr (subst (Hop E from to cost load mark (set dist v d) (set via v p) rank) (sym s.0) hop))
          (λ o. ⊎_elim inl (λ y. inr (other_hop x xn o.0 y)) (G.hops x xn (omega arith)))
          (on_dist x);
    }

  -- edge f, the next that leaves u, is passed: the chain goes on at g
  pub out_passed : (f g : ℕ) → h ≡ f + 1 → ((e : ℕ) → e < f → nth from e ≡ u → e < g) →
      nth dist (nth to f) + nth mark (nth to f) ≤ nth dist (nth from f) + (nth cost f + nth mark (nth from f)) →
      Growing N E from to cost load mark source u g k count dist via rank
  out_passed f g hf rest tight =
      renew N E from to cost load mark source u h k count dist via rank g k G
      (λ e l r t. ⊎_elim
      (λ s. subst (λ x. nth dist (nth to x) + nth mark (nth to x) ≤ nth dist (nth from x) + (nth cost x + nth mark (nth from x))) (sym s) tight)
      (λ o. G.relaxed e l r (λ q. ⊎_elim (λ b. let a = rest e b q in let c = t q in absurd (omega arith)) (λ b. omega arith) (below_or_not e f)))
      (same_or_not e f))
      G.relaxed_back

  -- edge f, the next that enters u, is passed
  pub back_passed : (f g : ℕ) → k ≡ f + 1 → ((e : ℕ) → e < f → nth to e ≡ u → e < g) → (1 ≤ nth load f → nth dist (nth from f) ≤ nth dist (nth to f)) →
      Growing N E from to cost load mark source u h g count dist via rank
  back_passed f g kf rest flat =
      renew N E from to cost load mark source u h k count dist via rank h g G
      G.relaxed
      (λ e l o r t. ⊎_elim
      (λ s. subst (λ x. 1 ≤ nth load x → nth dist (nth from x) ≤ nth dist (nth to x)) (sym s) flat o)
      (λ n. G.relaxed_back e l o r (λ q. ⊎_elim (λ b. let a = rest e b q in let c = t q in absurd (omega arith)) (λ b. omega arith) (below_or_not e f)))
      (same_or_not e f))

-- ---- one turn along a chain
module _ (N E : ℕ) (from to cost load mark : List ℕ) (source u count f g d : ℕ) (dist via rank dist' via' : List ℕ) (L : Lanes N E from to cost mark) (fl : f < E) where
  abbrev OutState : ℕ → List ℕ → List ℕ → Type 0
  OutState h x y = Growing N E from to cost load mark source u h E count x y rank × (nth x u ≡ nth dist u)

  -- edge f leaves u: its end is reached at d or nearer
  pub out_turn : Growing N E from to cost load mark source u (f + 1) E count dist via rank → nth from f ≡ u → ((e : ℕ) → e < f → nth from e ≡ u → e < g) →
      d ≡ nth dist u + (nth cost f + nth mark u - nth mark (nth to f)) → Lowered dist via (nth to f) d (2 * f) dist' via' → OutState g dist' via'
  out_turn G fu rest de (nearer less ed ev) =
      let vn = L.to_node f fl in
      let m = ap (nth mark) fu in
      let slack = L.least f fl in
      let wide = L.most f fl in
      let low : nth dist u ≤ d = omega arith in
      let most : d ≤ count * widest = let a = G.here_near in omega arith in
      let open-node = not_settled N E from to cost load mark source u (f + 1) E count dist via rank L G (nth to f) d (2 * f) vn low less in
      let Kept-here = here_kept N E from to cost load mark source u (f + 1) E count dist via rank L G (nth to f) d (2 * f) vn low less in
      let now-there = get_or-set_same dist (nth to f) d 0 (let a = L.few_nodes in omega (arith, G.dist_long)) in
      let now-via = get_or-set_same via (nth to f) (2 * f) 0 (let a = L.few_nodes in omega (arith, G.via_long)) in
      let from_here = ap (nth (set dist (nth to f) d)) fu in
      let hop : Hop E from to cost load mark (set dist (nth to f) d) (set via (nth to f) (2 * f)) rank (nth to f) =
      forward f fl now-via refl (omega (arith, ap (nth rank) fu, G.here_settled)) (omega arith) in
      let G' = improve N E from to cost load mark source u (f + 1) E count dist via rank L G (nth to f) d (2 * f) vn low less most hop in
      rw (ed, ev) (out_passed N E from to cost load mark source u (f + 1) E count _ _ rank L G' f g refl rest (omega arith), Kept-here)
  out_turn G fu rest de (kept less ed ev) =
      let m = ap (nth mark) fu in
      let slack = L.least f fl in
      let from_here = ap (nth dist) fu in
      rw (ed, ev) (out_passed N E from to cost load mark source u (f + 1) E count dist via rank L G f g refl rest (omega arith), refl)

  abbrev BackState : ℕ → List ℕ → List ℕ → Type 0
  BackState k x y = Growing N E from to cost load mark source u 0 k count x y rank × (nth x u ≡ nth dist u)

  -- edge f enters u and has a load: taken back, it reaches its other end at no cost
  pub back_turn : Growing N E from to cost load mark source u 0 (f + 1) count dist via rank → nth to f ≡ u → ((e : ℕ) → e < f → nth to e ≡ u → e < g) →
      1 ≤ nth load f → d ≡ nth dist u → Lowered dist via (nth from f) d (2 * f + 1) dist' via' → BackState g dist' via'
  back_turn G tu rest loaded de (nearer less ed ev) =
      let vn = L.from_node f fl in
      let low : nth dist u ≤ d = omega arith in
      let most : d ≤ count * widest = let a = G.here_near in omega arith in
      let open-node = not_settled N E from to cost load mark source u 0 (f + 1) count dist via rank L G (nth from f) d (2 * f + 1) vn low less in
      let Kept-here = here_kept N E from to cost load mark source u 0 (f + 1) count dist via rank L G (nth from f) d (2 * f + 1) vn low less in
      let now-there = get_or-set_same dist (nth from f) d 0 (let a = L.few_nodes in omega (arith, G.dist_long)) in
      let now-via = get_or-set_same via (nth from f) (2 * f + 1) 0 (let a = L.few_nodes in omega (arith, G.via_long)) in
      let to_here = ap (nth (set dist (nth from f) d)) tu in
      let hop : Hop E from to cost load mark (set dist (nth from f) d) (set via (nth from f) (2 * f + 1)) rank (nth from f) =
      back f fl now-via refl (omega (arith, ap (nth rank) tu, G.here_settled)) loaded (omega arith) in
      let G' = improve N E from to cost load mark source u 0 (f + 1) count dist via rank L G (nth from f) d (2 * f + 1) vn low less most hop in
      rw (ed, ev) (back_passed N E from to cost load mark source u 0 (f + 1) count _ _ rank L G' f g refl rest (λ _. omega arith), Kept-here)
  back_turn G tu rest loaded de (kept less ed ev) =
      let to_here = ap (nth dist) tu in
      rw (ed, ev) (back_passed N E from to cost load mark source u 0 (f + 1) count dist via rank L G f g refl rest (λ _. omega arith), refl)

  -- edge f enters u and has no load
  pub back_unloaded : Growing N E from to cost load mark source u 0 (f + 1) count dist via rank → ((e : ℕ) → e < f → nth to e ≡ u → e < g) → nth load f < 1 →
      Growing N E from to cost load mark source u 0 g count dist via rank
  back_unloaded G rest none = back_passed N E from to cost load mark source u 0 (f + 1) count dist via rank L G f g refl rest (λ o. absurd (omega arith))

-- ---- how far the node at hand can be
module _ (N E : ℕ) (from to cost load mark : List ℕ) (source u h k count here : ℕ) (dist via rank : List ℕ) (L : Lanes N E from to cost mark)
    (G : Growing N E from to cost load mark source u h k count dist via rank) where
  -- no more are settled than there are
  count_most : count ≤ N
  count_most = omega (arith, G.tally)

  pub here_far : nth dist u ≤ farthest
  here_far = omega (arith, G.here_near, count_most, L.few_nodes)

-- ---- the walk along the chain of u: what holds where h is the next edge's number plus 1
module _ (N E : ℕ) (from to cost load mark : List ℕ) (source u count here : ℕ) (rank : List ℕ) where
  abbrev pub OutWalk : ℕ → List ℕ → List ℕ → Type 0
  OutWalk h dist via =
      (h ≤ E) × ((f : ℕ) → h ≡ f + 1 → nth from f ≡ u) × (nth dist u ≡ here) × Growing N E from to cost load mark source u h E count dist via rank

  module _ (head next dist via : List ℕ) (L : Lanes N E from to cost mark) where
    pub out_again : Chained N E from head next → (h : ℕ) → OutWalk h dist via → 0 < h → (dist' via' : List ℕ) →
        Lowered dist via (nth to (h - 1)) (here + (nth cost (h - 1) + nth mark u - nth mark (nth to (h - 1)))) (2 * (h - 1)) dist' via' →
        OutWalk (nth next (h - 1)) dist' via'
    out_again C h w pos dist' via' low =
        let l : h - 1 < E = let a = w.0 in omega arith in
        let s : h ≡ h - 1 + 1 = omega arith in
        let key = w.1 (h - 1) s in
        let G = subst (λ x. Growing N E from to cost load mark source u x E count dist via rank) s w.3 in
        let t = out_turn N E from to cost load mark source u count (h - 1) (nth next (h - 1)) _ dist via rank dist' via' L l G key
        (λ e b q. C.next_all (h - 1) l e b (q ∙ sym key)) (let a = w.2 in omega arith) low in (
          let a = C.next_below (h - 1) l in omega arith,
          λ g q. C.next_key (h - 1) l g q ∙ key,
          t.1 ∙ w.2,
          t.0,
        )

  abbrev pub BackWalk : ℕ → List ℕ → List ℕ → Type 0
  BackWalk k dist via =
      (k ≤ E) × ((f : ℕ) → k ≡ f + 1 → nth to f ≡ u) × (nth dist u ≡ here) × Growing N E from to cost load mark source u 0 k count dist via rank

  module _ (head next dist via : List ℕ) (L : Lanes N E from to cost mark) where
    module _ (C : Chained N E to head next) (k : ℕ) (w : BackWalk k dist via) (pos : 0 < k) where
      edge : k - 1 < E
      edge = let a = w.0 in omega arith

      is_next : k ≡ k - 1 + 1
      is_next = omega arith

      stands : Growing N E from to cost load mark source u 0 (k - 1 + 1) count dist via rank
      stands = subst (λ x. Growing N E from to cost load mark source u 0 x count dist via rank) is_next w.3

      fewer : nth next (k - 1) ≤ E
      fewer = let a = C.next_below (k - 1) edge in let b = edge in omega arith

      rest : (e : ℕ) → e < k - 1 → nth to e ≡ u → e < nth next (k - 1)
      rest e b q = C.next_all (k - 1) edge e b (q ∙ sym (w.1 (k - 1) is_next))

      pub back_again : 0 < nth load (k - 1) → (dist' via' x y : List ℕ) → Lowered dist via (nth from (k - 1)) here (2 * (k - 1) + 1) dist' via' →
          x ≡ dist' → y ≡ via' → BackWalk (nth next (k - 1)) x y
      back_again loaded dist' via' x y low ex ey =
          let t = back_turn N E from to cost load mark source u count (k - 1) (nth next (k - 1)) here dist via rank dist' via' L edge stands
          (w.1 (k - 1) is_next) rest loaded (sym w.2) low in
          rw (ex, ey) (fewer, λ g q. C.next_key (k - 1) edge g q ∙ w.1 (k - 1) is_next, t.1 ∙ w.2, t.0)

      pub back_skipped : nth load (k - 1) ≤ 0 → (x y : List ℕ) → x ≡ dist → y ≡ via → BackWalk (nth next (k - 1)) x y
      back_skipped none x y ex ey =
          rw (ex, ey) (
            fewer,
            λ g q. C.next_key (k - 1) edge g q ∙ w.1 (k - 1) is_next,
            w.2,
            back_unloaded N E from to cost load mark source u count (k - 1) (nth next (k - 1)) 0 dist via rank dist via L edge stands rest (omega arith),
          )
