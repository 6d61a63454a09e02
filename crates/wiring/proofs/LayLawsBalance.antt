-- Laws of the surpluses and deficits: what they come to in all.
use Rattle.std.proofs.Common.{ℕ, zero, suc, ◌+◌, ◌≤◌, ◌<◌, ◌≡◌, refl, ap₂, ◌∙◌, List, ⊎_elim, arith}
use Rattle.network.specs.Network.{nth, sum_to, share, leaving, entering, Summable, Tallied}
use Rattle.wiring.specs.Lay.{Netted, Balanced}
use Rattle.network.proofs.NetworkLaws.{sum_same, sum_none, share_same, share_other}
use Rattle.wiring.proofs.SlotLaws.{sum_single, sum_add, sum_most}

pub balanced : {N E : ℕ} {from to load into out surplus deficit : List ℕ} → Netted N into out surplus deficit → Tallied N E from to load into out →
    Balanced N E from to load surplus deficit
balanced n t =
    record {
      surplus_long = n.surplus_long;
      deficit_long = n.deficit_long;
      balance = λ u h. omega (arith, n.balance u h, t.entered u h, t.left u h);
      apart = n.apart;
    }

-- ---- sums over all nodes

-- each load is counted once, at its edge's end
pub sum_ends : (N E : ℕ) (key load : List ℕ) → ((e : ℕ) → e < E → nth key e < N) →
    sum_to N (λ u. sum_to E (λ e. share u (nth key e) (nth load e))) ≡ sum_to E (nth load)
sum_ends N zero key load h = sum_none N (λ u. 0) (λ v l. refl)
sum_ends N (suc E) key load h =
    sum_add N (λ u. sum_to E (λ e. share u (nth key e) (nth load e))) (λ u. share u (nth key E) (nth load E)) ∙
    ap₂ (λ (a b : ℕ). a + b) (sum_ends N E key load (λ e l. h e (omega arith)))
    (sum_single N (nth key E) (λ u. share u (nth key E) (nth load E)) (h E (omega arith)) (λ v l ne. share_other v (nth key E) (nth load E) ne) ∙
    share_same (nth key E) (nth key E) (nth load E) refl)

module _ {N E : ℕ} {from to load surplus deficit : List ℕ} (S : Summable N E from to load) (B : Balanced N E from to load surplus deficit) where
  -- as much surplus as deficit,
  pub balance_same : sum_to N (λ u. nth surplus u) ≡ sum_to N (λ u. nth deficit u)
  unfolding leaving entering
  balance_same =
      omega (
        arith,
        sum_same N (λ u. nth surplus u + leaving from load E u) (λ u. nth deficit u + entering to load E u) B.balance,
        sum_add N (λ u. nth surplus u) (leaving from load E),
        sum_add N (λ u. nth deficit u) (entering to load E),
        sum_ends N E from load S.ends.from_node,
        sum_ends N E to load S.ends.to_node,
      )

  -- and no more than there is on all edges
  pub balance_low : sum_to N (λ u. nth surplus u) ≤ sum_to E (nth load)
  unfolding entering
  balance_low = omega (arith, sum_most N (λ u. nth surplus u) (entering to load E) each, sum_ends N E to load S.ends.to_node)
    where
      each : (u : ℕ) → u < N → nth surplus u ≤ entering to load E u
      each u h = ⊎_elim (λ z. omega arith) (λ z. omega (arith, B.balance u h)) (B.apart u h)
