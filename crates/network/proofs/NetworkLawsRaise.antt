-- Laws of raising the marks: a turn of the loop, and that the raised marks keep every slack, keep loads tight, stay near and make the hops tight.
use Rattle.std.proofs.Common.{ℕ, ◌+◌, ◌≤◌, ◌<◌, min, arith, ◌≡◌, ap, List, Bool, inl, inr, ⊎_elim, T, length}
use Rattle.network.specs.Network.{nth, live_at, base, Shape, SlacksHold, LoadsTight, MarksNear, Hop, forward, back, TargetFound, Way, stop, step, span, Raisable, Raised, Rung, ahead, behind, Laid, most_nodes}

-- ---- the loop: the first i nodes are raised
pub record Raising (N i : ℕ) (live : List Bool) (dist : List ℕ) (most : ℕ) (old mark : List ℕ) : Type 0 where
  pub long : length mark ≡ most_nodes
  pub raised : (u : ℕ) → u < i → T (live_at live u) → nth mark u + min (nth dist 0) most ≡ nth old u + min (nth dist u) most
  pub as_before : (u : ℕ) → i ≤ u → nth mark u ≡ nth old u

-- ---- a value that grows by no more than the cost along each edge grows by no more than the cost along a way
pub way_most : {E : ℕ} {from to cost : List ℕ} {u w c : ℕ} (f : ℕ → ℕ) → ((e : ℕ) → e < E → f (nth to e) ≤ nth cost e + f (nth from e)) →
    Way E from to cost u w c → f w ≤ f u + c
way_most f less stop = omega arith
way_most f less (step e l w) = let a = less e l in let b = way_most f less w in omega arith

-- where slacks hold, a mark is as near to the root's as a way is cheap
pub slacks_near : (N E : ℕ) (live : List Bool) (from to cost : List ℕ) → Shape N E live from to cost → (mark : List ℕ) → SlacksHold E from to cost mark →
    nth mark 0 ≡ base → MarksNear N live mark
slacks_near N E live from to cost P mark S r = record {
  at_root = r;
  not_above = λ u un t. let w = P.from_root u un t in let a = way_most (λ v. nth mark v) S w.2 in let b = w.1 in omega arith;
  not_below = λ u un t. let w = P.to_root u un t in let a = way_most (λ v. nth mark v) S w.2 in let b = w.1 in omega arith;
}

module _ (N E : ℕ) (live : List Bool) (from to cost load mark deficit : List ℕ) (source target : ℕ) (dist via rank : List ℕ)
    (P : Shape N E live from to cost) (S : SlacksHold E from to cost mark) (L : LoadsTight E from to cost mark load) (M : MarksNear N live mark)
    (F : TargetFound N E from to cost load mark deficit source target dist via rank) where
  -- a mark raised, before what the root is raised by is taken off
  lifted : ℕ → ℕ
  lifted u = nth mark u + min (nth dist u) (nth dist target)

  lifted_slack : (e : ℕ) → e < E → lifted (nth to e) ≤ nth cost e + lifted (nth from e)
  unfolding lifted
  lifted_slack e l = let s = S e l in ⊎_elim (λ a. omega arith) (λ b. omega arith) (F.relaxed e l)

  lifted_tight : (e : ℕ) → e < E → 1 ≤ nth load e → lifted (nth to e) ≡ nth cost e + lifted (nth from e)
  unfolding lifted
  lifted_tight e l o =
      let s = L e l o in
      let a : min (nth dist (nth to e)) (nth dist target) ≤ min (nth dist (nth from e)) (nth dist target) =
      ⊎_elim (λ a. omega arith) (λ b. omega arith) (F.relaxed e l) in
      let b : min (nth dist (nth from e)) (nth dist target) ≤ min (nth dist (nth to e)) (nth dist target) =
      ⊎_elim (λ a. omega arith) (λ b. omega arith) (F.relaxed_back e l o) in
      omega arith

  to_root_lifted : (u : ℕ) → u < N → T (live_at live u) → lifted 0 ≤ lifted u + span
  to_root_lifted u un t = let w = P.to_root u un t in let a = way_most lifted lifted_slack w.2 in let b = w.1 in omega arith

  pub raisable : length mark ≡ most_nodes → Raisable N live dist (nth dist target) mark
  unfolding lifted
  raisable long = record {
    few_nodes = P.few_nodes;
    long = long;
    not_far = F.not_far;
    small = λ u un t. let a = M.not_above u un t in omega arith;
    room = λ u un t. let a = to_root_lifted u un t in let b = M.at_root in omega arith;
  }

  module _ (mark' : List ℕ) (R : Raised N live dist (nth dist target) mark mark') where
    pub raised_slacks : SlacksHold E from to cost mark'
    unfolding lifted
    raised_slacks e l =
        let a = lifted_slack e l in
        let f = P.from_live e l in
        let t = P.to_live e l in
        let x = R.raised (nth from e) f.0 f.1 in
        let y = R.raised (nth to e) t.0 t.1 in
        omega arith

    pub raised_loads : LoadsTight E from to cost mark' load
    unfolding lifted
    raised_loads e l o =
        let a = lifted_tight e l o in
        let f = P.from_live e l in
        let t = P.to_live e l in
        let x = R.raised (nth from e) f.0 f.1 in
        let y = R.raised (nth to e) t.0 t.1 in
        omega arith

    pub raised_near : MarksNear N live mark'
    raised_near =
        slacks_near N E live from to cost P mark' raised_slacks
        (let r = M.at_root in let a = R.raised 0 P.some_node P.root_live in omega arith)

    rung : (v : ℕ) → nth rank v < N → v < N → Hop E from to cost load mark dist via rank v → Rung E from to cost load mark' via rank v
    unfolding lifted
    rung v settled vn (forward e l q t r s) =
        let f = P.from_live e l in
        let g = P.to_live e l in
        let x = R.raised (nth from e) f.0 f.1 in
        let y = R.raised (nth to e) g.0 g.1 in
        let near = F.settled_near v vn settled in
        let near' = F.settled_near (nth from e) f.0 (omega arith) in
        let a = ap (nth mark') t in
        let b = ap (nth mark) t in
        let d = ap (nth dist) t in
        ahead e q (record { edge = l; to_here = t; lower = r; tight = omega arith })
    rung v settled vn (back e l q t r o s) = behind e q (record { edge = l; from_here = t; lower = r; loaded = o })

    pub laid : Laid N E from to cost load mark' via rank source target
    laid = record {
      few_nodes = P.few_nodes;
      few_edges = P.few_edges;
      from_node = λ e l. (P.from_live e l).0;
      to_node = λ e l. (P.to_live e l).0;
      target_node = F.target_node;
      target_settled = F.target_settled;
      rungs = λ v vn l. ⊎_elim inl (λ h. inr (rung v l vn h)) (F.hops v vn l);
    }
