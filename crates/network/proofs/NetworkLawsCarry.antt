-- Laws of carrying: what a round asks and what it changes, rounds after one another, and what is left when all surplus is gone.
use Rattle.std.proofs.Common.{ℕ, ◌+◌, ◌-◌, ◌≤◌, ◌<◌, min, arith, ◌≡◌, refl, ap, ◌∙◌, List, Bool, ⊎_elim, set, length-set, replicate, get_or-set_other}
use Rattle.std.proofs.lemmas.List.{length-replicate, get_or-replicate}
use Rattle.network.specs.Network.{nth, sum_to, share, leaving, entering, Shape, LoadsTight, Lanes, Seeking, Fresh, TargetFound, Raised, Raisable, Laid, Bottleneck, Pushing, Carrying, Carries, OthersKept, Waiting, Carried, far, most_nodes}
use Rattle.network.proofs.NetworkLaws.{nth_set, sum_change, sum_none, sum_term, sum_some, share_same, share_other, share_most}
use Rattle.network.proofs.NetworkLawsRaise.{raised_slacks, raised_near, raised_loads, raisable, laid}
use Rattle.network.proofs.NetworkLawsPush.{push_first}

-- arrays as they are made before a search
pub fresh : (N : ℕ) → N ≤ most_nodes → Fresh N (replicate most_nodes far) (replicate most_nodes 0) (replicate most_nodes N)
fresh N few = record {
  dist_long = length-replicate {A = ℕ} most_nodes far;
  via_long = length-replicate {A = ℕ} most_nodes 0;
  rank_long = length-replicate {A = ℕ} most_nodes N;
  nowhere = λ v l. get_or-replicate {A = ℕ} most_nodes v far 0 (omega arith);
  unsettled = λ v l. get_or-replicate {A = ℕ} most_nodes v N 0 (omega arith);
}

module _ (N E : ℕ) (live : List Bool) (from to cost load mark surplus deficit : List ℕ) (P : Shape N E live from to cost)
    (C : Carrying N E live from to cost load mark surplus deficit) where
  lanes : Lanes N E from to cost mark
  lanes = record {
    few_nodes = P.few_nodes;
    few_edges = P.few_edges;
    from_node = λ e l. (P.from_live e l).0;
    to_node = λ e l. (P.to_live e l).0;
    least = C.slacks;
    most = λ e l.
        let f = P.from_live e l in
        let t = P.to_live e l in
        let a = C.near.not_above (nth from e) f.0 f.1 in
        let b = C.near.not_below (nth to e) t.0 t.1 in
        let c = P.cheap e l in
        omega arith;
    small = λ e l. let f = P.from_live e l in let a = C.near.not_above (nth from e) f.0 f.1 in let c = P.cheap e l in omega arith;
  }

  module _ (source : ℕ) (sn : source < N) (more : 1 ≤ nth surplus source) where
    -- there is a deficit somewhere
    wanting : (t : ℕ) × (t < N) × (1 ≤ nth deficit t)
    wanting = sum_some N (λ u. nth deficit u) (let a = sum_term N source (λ u. nth surplus u) sn in let b = C.same_sum in omega arith)

    pub seeking : Seeking N E from to cost mark deficit source
    seeking =
        let w = wanting in
        let a = P.to_root source sn (C.surplus_live source sn more) in
        let b = P.from_root w.0 w.1 (C.deficit_live w.0 w.1 w.2) in
        record {
          lanes = lanes;
          source_node = sn;
          source_none = C.apart source sn more;
          goal = w.0;
          goal_wants = w.2;
          to_root = (a.0, a.2);
          from_root = (b.0, b.2);
        }

    module _ (target : ℕ) (dist via rank : List ℕ) (F : TargetFound N E from to cost load mark deficit source target dist via rank) where
      pub round_raises : Raisable N live dist (nth dist target) mark
      round_raises = raisable N E live from to cost load mark deficit source target dist via rank P C.slacks C.tight C.near F C.mark_long

      module _ (mark' : List ℕ) (R : Raised N live dist (nth dist target) mark mark') where
        pub round_laid : Laid N E from to cost load mark' via rank source target
        round_laid = laid N E live from to cost load mark deficit source target dist via rank P C.slacks C.tight C.near F mark' R

        module _ (limit k : ℕ) (el : limit ≡ min (nth surplus source) (nth deficit target)) where
          pub limit_some : 1 ≤ limit
          limit_some = let a = F.wants in omega arith

          module _ (Q : Bottleneck E from to cost load mark' via rank source target limit k) where
            pub round_less : (k ≤ nth surplus source) × (k ≤ nth deficit target) × (1 ≤ k)
            round_less = let a = Q.within in (omega arith, omega arith, Q.some)

            tight' : LoadsTight E from to cost mark' load
            tight' = raised_loads N E live from to cost load mark deficit source target dist via rank P C.slacks C.tight C.near F mark' R

            pub round_pushes : Pushing N E from to cost mark' via rank source target k load target load
            round_pushes =
                push_first N E from to cost mark' via rank source target k load F.target_node C.load_long Q.trail tight'
                (λ e l. let a = C.few e l in let b = sum_term N source (λ u. nth surplus u) sn in let c = round_less.0 in omega arith)

            module _ (load' : List ℕ) (U : Pushing N E from to cost mark' via rank source target k load source load') where
              taken : (u : ℕ) → nth (set surplus source (nth surplus source - k)) u + share u source k ≡ nth surplus u
              taken u =
                  let f = round_less.0 in
                  ⊎_elim
                  (λ s. let a = s.1 in let b = share_same u source k s.0 in let c = ap (nth surplus) s.0 in omega arith)
                  (λ o. let a = o.1 in let b = share_other u source k o.0 in omega arith)
                  (nth_set surplus source (nth surplus source - k) u (let a = P.few_nodes in let b = C.surplus_long in omega arith))

              filled : (u : ℕ) → nth (set deficit target (nth deficit target - k)) u + share u target k ≡ nth deficit u
              filled u =
                  let f = round_less.1 in
                  ⊎_elim
                  (λ s. let a = s.1 in let b = share_same u target k s.0 in let c = ap (nth deficit) s.0 in omega arith)
                  (λ o. let a = o.1 in let b = share_other u target k o.0 in omega arith)
                  (nth_set deficit target (nth deficit target - k) u (let a = P.few_nodes in let b = C.deficit_long in let c = F.target_node in omega arith))

              less_surplus : sum_to N (λ u. nth (set surplus source (nth surplus source - k)) u) + k ≡ sum_to N (λ u. nth surplus u)
              less_surplus =
                  let a = sum_change N source (λ u. nth (set surplus source (nth surplus source - k)) u) (λ u. nth surplus u) sn
                  (λ v ne. get_or-set_other surplus source v (nth surplus source - k) 0 ne) in
                  let b = taken source in
                  let c = share_same source source k refl in
                  omega arith

              less_deficit : sum_to N (λ u. nth (set deficit target (nth deficit target - k)) u) + k ≡ sum_to N (λ u. nth deficit u)
              less_deficit =
                  let a = sum_change N target (λ u. nth (set deficit target (nth deficit target - k)) u) (λ u. nth deficit u) F.target_node
                  (λ v ne. get_or-set_other deficit target v (nth deficit target - k) 0 ne) in
                  let b = filled target in
                  let c = share_same target target k refl in
                  omega arith

              pub round_state : Carrying N E live from to cost load' mark' (set surplus source (nth surplus source - k)) (set deficit target (nth deficit target - k))
              round_state = record {
                load_long = U.long;
                mark_long = R.long;
                surplus_long = length-set surplus source (nth surplus source - k) ∙ C.surplus_long;
                deficit_long = length-set deficit target (nth deficit target - k) ∙ C.deficit_long;
                slacks = raised_slacks N E live from to cost load mark deficit source target dist via rank P C.slacks C.tight C.near F mark' R;
                tight = U.tight;
                near = raised_near N E live from to cost load mark deficit source target dist via rank P C.slacks C.tight C.near F mark' R;
                apart = λ u un l. let a = taken u in let b = filled u in let c = C.apart u un (omega arith) in omega arith;
                surplus_live = λ u un l. let a = taken u in C.surplus_live u un (omega arith);
                deficit_live = λ u un l. let a = filled u in C.deficit_live u un (omega arith);
                same_sum = let a = less_surplus in let b = less_deficit in let c = C.same_sum in omega arith;
                few = λ e l. let a = C.few e l in let b = U.most e l in let c = less_surplus in omega arith;
                few_left = let a = C.few_left in let c = less_surplus in omega arith;
              }

              pub round_step : Carries N E from to load surplus deficit load' (set surplus source (nth surplus source - k)) (set deficit target (nth deficit target - k))
              round_step = record {
                balance = λ u un. let a = U.moved u in let b = taken u in let c = filled u in omega arith;
                root = let a = U.root_once in let b = less_surplus in omega arith;
              }

              pub round_others : OthersKept source surplus (set surplus source (nth surplus source - k))
              round_others = record { kept = λ u ne. get_or-set_other surplus source u (nth surplus source - k) 0 ne }

              pub round_falls : nth (set surplus source (nth surplus source - k)) source < nth surplus source
              round_falls = let a = taken source in let b = share_same source source k refl in let c = round_less.2 in omega arith

-- ---- rounds after one another
-- the surplus of the first i nodes is gone
pub record Gone (i : ℕ) (s : List ℕ) : Type 0 where
  pub gone : (u : ℕ) → u < i → nth s u ≡ 0

-- ---- before the first round, and after the last
module _ (N E : ℕ) (live : List Bool) (from to cost load mark surplus deficit : List ℕ) (P : Shape N E live from to cost)
    (W : Waiting N E live load mark surplus deficit) where
  nothing_leaves : (u : ℕ) → leaving from load E u ≡ 0
  unfolding leaving
  nothing_leaves u = sum_none E (λ e. share u (nth from e) (nth load e)) (λ e l. let a = W.no_load e l in let b = share_most u (nth from e) (nth load e) in omega arith)

  nothing_enters : (u : ℕ) → entering to load E u ≡ 0
  unfolding entering
  nothing_enters u = sum_none E (λ e. share u (nth to e) (nth load e)) (λ e l. let a = W.no_load e l in let b = share_most u (nth to e) (nth load e) in omega arith)

  module _ (load' mark' surplus' deficit' : List ℕ) (C : Carrying N E live from to cost load' mark' surplus' deficit')
      (S : Carries N E from to load surplus deficit load' surplus' deficit') (i : ℕ) (G : Gone i surplus') (all : N ≤ i) where
    gone : (u : ℕ) → u < N → nth surplus' u ≡ 0
    gone u l = G.gone u (omega arith)

    no_surplus : sum_to N (λ u. nth surplus' u) ≡ 0
    no_surplus = sum_none N (λ u. nth surplus' u) gone

    pub all_carried : (given wanted : ℕ → ℕ) → ((u : ℕ) → u < N → nth surplus u + wanted u ≡ nth deficit u + given u) →
        Carried N E live from to cost load' mark' given wanted (sum_to N (λ u. nth surplus u))
    all_carried given wanted even = record {
      slacks_hold = C.slacks;
      loads_tight = C.tight;
      marks_near = C.near;
      balance = λ u un.
          let a = S.balance u un in
          let b = nothing_leaves u in
          let c = nothing_enters u in
          let d = gone u un in
          let e = even u un in
          let f = sum_term N u (λ v. nth deficit' v) un in
          let g = C.same_sum in
          let h = no_surplus in
          omega arith;
      root_sends = let a = S.root in let b = nothing_leaves 0 in let c = no_surplus in omega arith;
      few = λ e l. let a = C.few e l in omega arith;
    }
