-- Laws of the search as a whole: how it begins, that a node with a deficit is always reached, the next node settled, and what is found.
use Rattle.std.proofs.Common.{ℕ, ◌+◌, ◌≤◌, ◌<◌, arith, ◌≡◌, sym, ap, ◌∙◌, List, ◌⊎◌, inl, inr, ⊎_elim, ◌≢◌, set, length-set, get_or-set_same, get_or-set_other}
use Rattle.network.specs.Network.{nth, sum_to, share, Lanes, Growing, Nearest, Seeking, Fresh, Hop, forward, back, TargetFound, Way, stop, step, far, most_nodes, farthest}
use Rattle.network.proofs.NetworkLaws.{same_or_not, below_or_not, nth_set, sum_change, sum_ones, sum_term, share_same, share_other}
use Rattle.network.proofs.NetworkLawsSearch.{here_far}

-- ---- the source is settled first
module _ (N E : ℕ) (from to cost load mark deficit : List ℕ) (source : ℕ) (dist via rank : List ℕ)
    (S : Seeking N E from to cost mark deficit source) (F : Fresh N dist via rank) where
  room : source < most_nodes
  room = let a = S.lanes.few_nodes in let b = S.source_node in omega arith

  start_dist : (v : ℕ) → ((v ≡ source) × (nth (set dist source 0) v ≡ 0)) ⊎ ((v ≢ source) × (nth (set dist source 0) v ≡ nth dist v))
  start_dist v = nth_set dist source 0 v (let a = F.dist_long in let b = room in omega arith)

  start_rank : (v : ℕ) → ((v ≡ source) × (nth (set rank source 0) v ≡ 0)) ⊎ ((v ≢ source) × (nth (set rank source 0) v ≡ nth rank v))
  start_rank v = nth_set rank source 0 v (let a = F.rank_long in let b = room in omega arith)

  only_source : (v : ℕ) → v < N → nth (set rank source 0) v < N → v ≡ source
  only_source v vn l = ⊎_elim (λ s. s.0) (λ o. absurd (let a = F.unsettled v vn in let b = o.1 in omega arith)) (start_rank v)

  reached_source : (v : ℕ) → v < N → nth (set dist source 0) v < far → v ≡ source
  reached_source v vn l = ⊎_elim (λ s. s.0) (λ o. absurd (let a = F.nowhere v vn in let b = o.1 in omega arith)) (start_dist v)

  source_dist : nth (set dist source 0) source ≡ 0
  source_dist = get_or-set_same dist source 0 0 (let a = F.dist_long in let b = room in omega arith)

  source_rank : nth (set rank source 0) source ≡ 0
  source_rank = get_or-set_same rank source 0 0 (let a = F.rank_long in let b = room in omega arith)

  one_settled : 1 + sum_to N (λ v. share N (nth (set rank source 0) v) 1) ≡ N
  one_settled =
      let sn = S.source_node in
      let all = sum_ones N (λ v. share N (nth rank v) 1) (λ v vn. share_same N (nth rank v) 1 (sym (F.unsettled v vn))) in
      let now = share_other N (nth (set rank source 0) source) 1 (λ q. let a = source_rank in omega arith) in
      let was = share_same N (nth rank source) 1 (sym (F.unsettled source sn)) in
      let swap = sum_change N source (λ v. share N (nth (set rank source 0) v) 1) (λ v. share N (nth rank v) 1) sn
      (λ v ne. ap (λ x. share N x 1) (get_or-set_other rank source v 0 0 ne)) in
      omega (arith, all, now, was, swap)

  pub begun : Growing N E from to cost load mark source source E E 1 (set dist source 0) via (set rank source 0)
  begun =
      let sn = S.source_node in
      let sd = source_dist in
      let sr = source_rank in
      record {
        dist_long = length-set dist source 0 ∙ F.dist_long;
        via_long = F.via_long;
        rank_long = length-set rank source 0 ∙ F.rank_long;
        source_node = sn;
        node = sn;
        from_here = sd;
        source_settled = omega arith;
        here_settled = omega arith;
        relaxed = λ e l r t. absurd (let a = t (only_source (nth from e) (S.lanes.from_node e l) r) in omega arith);
        relaxed_back = λ e l o r t. absurd (let a = t (only_source (nth to e) (S.lanes.to_node e l) r) in omega arith);
        latest = λ v vn l. omega (arith, ap (nth (set dist source 0)) (only_source v vn l));
        beyond = λ v vn l. omega arith;
        ranks = λ v vn l. omega (arith, ap (nth (set rank source 0)) (only_source v vn l));
        rank_most = λ v vn. ⊎_elim (λ s. omega arith) (λ o. omega (arith, F.unsettled v vn)) (start_rank v);
        tally = one_settled;
        near = λ v vn l. omega (arith, ap (nth (set dist source 0)) (reached_source v vn l));
        here_near = omega arith;
        hops = λ v vn l. inl (reached_source v vn l);
      }

-- ---- a deficit is always reached: what is reached is closed under edges, and the ways lead from the source by the root to the goal
pub way_closed : {E : ℕ} {from to cost : List ℕ} {u w c : ℕ} (P : ℕ → Type 0) → ((e : ℕ) → e < E → P (nth from e) → P (nth to e)) →
    Way E from to cost u w c → P u → P w
way_closed P next stop p = p
way_closed P next (step e l w) p = way_closed P next w (next e l p)

module _ (N E : ℕ) (from to cost load mark deficit : List ℕ) (source u count : ℕ) (dist via rank : List ℕ)
    (S : Seeking N E from to cost mark deficit source) where
  abbrev Settled : ℕ → Type 0
  Settled v = (v < N) × (nth rank v < N)

  pub reached : (r : ℕ) → Growing N E from to cost load mark source u 0 0 count dist via rank →
      ((v : ℕ) → v < N → nth rank v < N → nth deficit v ≡ 0) → Nearest N dist rank r → r < N
  reached r G done R = ⊎_elim (λ l. l) (λ o. absurd (none o)) (below_or_not r N)
    where
      closed : N ≤ r → (e : ℕ) → e < E → Settled (nth from e) → Settled (nth to e)
      closed o e l p =
          let tn = S.lanes.to_node e l in
          let near = here_far N E from to cost load mark source u 0 0 count 0 dist via rank S.lanes G in
          let lat = G.latest (nth from e) p.0 p.1 in
          let rel = G.relaxed e l p.1 (λ _. omega arith) in
          let small = S.lanes.small e l in
          (tn, ⊎_elim (λ b. b) (λ b. absurd (let a = R.least (nth to e) tn b (omega arith) in omega arith)) (below_or_not (nth rank (nth to e)) N))

      none : N ≤ r → ⊥
      none o =
          let a : Settled 0 = way_closed Settled (closed o) S.to_root.1 (G.source_node, G.source_settled) in
          let b : Settled S.goal = way_closed Settled (closed o) S.from_root.1 a in
          let d = done S.goal b.0 b.1 in
          let w = S.goal_wants in
          omega arith

-- ---- the nearest node is settled next
module _ (N E : ℕ) (from to cost load mark : List ℕ) (source u count : ℕ) (dist via rank : List ℕ) (L : Lanes N E from to cost mark)
    (G : Growing N E from to cost load mark source u 0 0 count dist via rank) (r : ℕ) (R : Nearest N dist rank r) (rn : r < N) where
  on_rank : (v : ℕ) → ((v ≡ r) × (nth (set rank r count) v ≡ count)) ⊎ ((v ≢ r) × (nth (set rank r count) v ≡ nth rank v))
  on_rank v = nth_set rank r count v (let a = L.few_nodes in let b = G.rank_long in omega arith)

  rank_here : nth (set rank r count) r ≡ count
  rank_here = get_or-set_same rank r count 0 (let a = L.few_nodes in let b = G.rank_long in omega arith)

  was_open : nth rank r ≡ N
  was_open = let a = R.open_still rn in let b = G.rank_most r rn in omega arith

  -- not all are settled
  pub more_open : count < N
  more_open =
      let a = sum_term N r (λ v. share N (nth rank v) 1) rn in
      let b = share_same N (nth rank r) 1 (sym was_open) in
      omega (arith, G.tally)

  one_more : count + 1 + sum_to N (λ v. share N (nth (set rank r count) v) 1) ≡ N
  one_more =
      let m = more_open in
      let now = share_other N (nth (set rank r count) r) 1 (λ q. let a = rank_here in omega arith) in
      let was = share_same N (nth rank r) 1 (sym was_open) in
      let swap = sum_change N r (λ v. share N (nth (set rank r count) v) 1) (λ v. share N (nth rank v) 1) rn
      (λ v ne. ap (λ x. share N x 1) (get_or-set_other rank r v count 0 ne)) in
      omega (arith, G.tally)

  -- a node settled before keeps its rank
  rank_kept : (v : ℕ) → nth rank v < N → nth (set rank r count) v ≡ nth rank v
  rank_kept v l = ⊎_elim (λ s. absurd (let a = ap (nth rank) s.0 in let b = was_open in omega arith)) (λ o. o.1) (on_rank v)

  -- what is settled now, other than r, was so before
  before : (v : ℕ) → v ≢ r → nth (set rank r count) v < N → nth rank v < N
  before v ne l = let a = get_or-set_other rank r v count 0 ne in omega arith

  -- a rank below a node's old rank is below its new one
  still_before : (v w : ℕ) → v < N → w < N → nth rank w < nth rank v → nth (set rank r count) w < nth (set rank r count) v
  still_before v w vn wn l =
      let m = G.rank_most v vn in
      let k = rank_kept w (omega arith) in
      ⊎_elim (λ s. let a = G.ranks w wn (omega arith) in omega arith) (λ o. omega arith) (on_rank v)

  hop_kept : (v : ℕ) → v < N → Hop E from to cost load mark dist via rank v → Hop E from to cost load mark dist via (set rank r count) v
  hop_kept v vn (forward e l q t p s) = forward e l q t (still_before v (nth from e) vn (L.from_node e l) p) s
  hop_kept v vn (back e l q t p o s) = back e l q t (still_before v (nth to e) vn (L.to_node e l) p) o s

  not_nearer : (v : ℕ) → v < N → N ≤ nth rank v → nth dist r ≤ nth dist v
  not_nearer v vn o = ⊎_elim (λ l. (R.least v vn o l).1) (λ f. let a = R.reached rn in omega arith) (below_or_not (nth dist v) far)

  pub settled : Growing N E from to cost load mark source r E E (count + 1) dist via (set rank r count)
  settled =
      let m = more_open in
      record {
        dist_long = G.dist_long;
        via_long = G.via_long;
        rank_long = length-set rank r count ∙ G.rank_long;
        source_node = G.source_node;
        node = rn;
        from_here = G.from_here;
        source_settled = let a = rank_kept source G.source_settled in let b = G.source_settled in omega arith;
        here_settled = let a = rank_here in omega arith;
        relaxed = λ e l p t. G.relaxed e l (before (nth from e) (λ q. let a = t q in omega arith) p) (λ _. omega arith);
        relaxed_back = λ e l o p t. G.relaxed_back e l o (before (nth to e) (λ q. let a = t q in omega arith) p) (λ _. omega arith);
        latest = λ v vn l. ⊎_elim
            (λ s. let a = ap (nth dist) s in omega arith)
            (λ ne. let a = G.latest v vn (before v ne l) in let b = G.beyond r rn (R.open_still rn) in omega arith)
            (same_or_not v r);
        beyond = λ v vn l. ⊎_elim (λ s. absurd (let a = s.1 in omega arith)) (λ o. let a = o.1 in not_nearer v vn (omega arith)) (on_rank v);
        ranks = λ v vn l. ⊎_elim (λ s. let a = s.1 in omega arith) (λ o. let a = G.ranks v vn (before v o.0 l) in let b = o.1 in omega arith) (on_rank v);
        rank_most = λ v vn. ⊎_elim (λ s. let a = s.1 in omega arith) (λ o. let a = G.rank_most v vn in let b = o.1 in omega arith) (on_rank v);
        tally = one_more;
        near = λ v vn l. let a = G.near v vn l in omega arith;
        here_near = let a = G.near r rn (R.reached rn) in omega arith;
        hops = λ v vn l. ⊎_elim inl (λ h. inr (hop_kept v vn h)) (G.hops v vn l);
      }

-- ---- what is found
module _ (N E : ℕ) (from to cost load mark deficit : List ℕ) (source u h k count : ℕ) (dist via rank : List ℕ)
    (S : Seeking N E from to cost mark deficit source) (G : Growing N E from to cost load mark source u h k count dist via rank) where
  near_here : nth dist u ≤ farthest
  near_here = here_far N E from to cost load mark source u h k count 0 dist via rank S.lanes G

  pub found : 1 ≤ nth deficit u → TargetFound N E from to cost load mark deficit source u dist via rank
  found w = record {
    target_node = G.node;
    wants = w;
    not_source = λ q. let a = S.source_none in let b = ap (nth deficit) q in omega arith;
    from_here = G.from_here;
    not_far = near_here;
    relaxed = λ e l. ⊎_elim
        (λ s. inr (let a = ap (nth dist) s in omega arith))
        (λ ne. ⊎_elim (λ p. inl (G.relaxed e l p (λ q. absurd (ne q)))) (λ p. inr (G.beyond (nth from e) (S.lanes.from_node e l) p)) (below_or_not (nth rank (nth from e)) N))
        (same_or_not (nth from e) u);
    relaxed_back = λ e l o. ⊎_elim
        (λ s. inr (let a = ap (nth dist) s in omega arith))
        (λ ne. ⊎_elim (λ p. inl (G.relaxed_back e l o p (λ q. absurd (ne q)))) (λ p. inr (G.beyond (nth to e) (S.lanes.to_node e l) p)) (below_or_not (nth rank (nth to e)) N))
        (same_or_not (nth to e) u);
    target_settled = G.here_settled;
    settled_near = λ v vn l. G.latest v vn l;
    hops = λ v vn l. G.hops v vn (let a = G.latest v vn l in let b = near_here in omega arith);
  }

-- ---- the loop of the search: of the settled nodes only the last may have a deficit
module _ (N E : ℕ) (from to cost load mark deficit : List ℕ) (source : ℕ) where
  abbrev pub SearchWalk : ℕ → ℕ → List ℕ → List ℕ → List ℕ → Type 0
  SearchWalk u count dist via rank =
      Growing N E from to cost load mark source u E E count dist via rank
      × ((v : ℕ) → v < N → nth rank v < N → (v ≡ u) ⊎ (nth deficit v ≡ 0))

  module _ (S : Seeking N E from to cost mark deficit source) where
    pub search_first : (dist via rank : List ℕ) → Fresh N dist via rank → SearchWalk source 1 (set dist source 0) via (set rank source 0)
    search_first dist via rank F = (
      begun N E from to cost load mark deficit source dist via rank S F,
      λ v vn l. inl (only_source N E from to cost load mark deficit source dist via rank S F v vn l),
    )

    module _ (u count : ℕ) (dist via rank dist' via' : List ℕ) (r : ℕ) (w : SearchWalk u count dist via rank) (none : nth deficit u ≡ 0)
        (G : Growing N E from to cost load mark source u 0 0 count dist' via' rank) (R : Nearest N dist' rank r) where
      done : (v : ℕ) → v < N → nth rank v < N → nth deficit v ≡ 0
      done v vn l = ⊎_elim (λ s. ap (nth deficit) s ∙ none) (λ o. o) (w.1 v vn l)

      pub search_node : r < N
      search_node = reached N E from to cost load mark deficit source u count dist' via' rank S r G done R

      pub search_room : count < N
      search_room = more_open N E from to cost load mark source u count dist' via' rank S.lanes G r R search_node

      pub search_again : SearchWalk r (count + 1) dist' via' (set rank r count)
      search_again = (
        settled N E from to cost load mark source u count dist' via' rank S.lanes G r R search_node,
        λ v vn l. ⊎_elim
            inl
            (λ ne. inr (done v vn (before N E from to cost load mark source u count dist' via' rank S.lanes G r R search_node v ne l)))
            (same_or_not v r),
      )
