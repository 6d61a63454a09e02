-- Laws of the test of a guess: a turn of each loop, the sums at the nodes, that what stands the test carries everything, and what a guess that does not is
-- set back to.
use Rattle.std.proofs.Common.{ℕ, ◌+◌, ◌*◌, ◌≤◌, ◌<◌, arith, ◌≡◌, sym, ap, ◌∙◌, List, Bool, true, false, ⊎_elim, length, set, length-set, replicate}
use Rattle.std.proofs.lemmas.List.{length-replicate, get_or-replicate}
use Rattle.network.specs.Network.{nth, sum_to, share, leaving, entering, base, most_nodes, most_edges, most_moved, Shape, Waiting, Carried, Ends, EdgeStands, EdgesStand, Summable, Tallied, Comparable, Even, Movable, LoadsStand, Stands, Emptied, Levelled}
use Rattle.network.proofs.NetworkLaws.{nth_set, sum_more, sum_part, sum_low, sum_term, share_same, share_other, share_most}
use Rattle.network.proofs.NetworkLawsRaise.{slacks_near}

-- what follows from a test that said no
pub never : {A : Type 0} → false ≡ true → A
never q = absurd (let z : ◌≡◌ {A = ℕ} 0 1 = cc in omega arith)

-- ---- the edges

pub edge_tight : {cost back ahead load : ℕ} → ahead ≡ cost + back → load ≤ most_moved → EdgeStands cost back ahead load
edge_tight e l = record { slack = omega arith; tight = λ o. e; few = l }

pub edges_none : (from to cost load mark : List ℕ) → EdgesStand 0 from to cost load mark
edges_none from to cost load mark = record { each = λ e l. absurd (omega arith) }

-- ---- sums

-- the first u and one more fit
pub total_fits : (u N : ℕ) (f : ℕ → ℕ) → u < N → sum_to N f ≤ most_moved → sum_to u f + f u ≤ most_moved
total_fits u N f l few = omega (arith, sum_more u f, sum_part (u + 1) N f (omega arith))

-- one end: `key` is `from` or `to`, and xs holds what is summed so far
added : (N e : ℕ) (key load xs : List ℕ) → length xs ≡ most_nodes → N ≤ most_nodes → nth key e < N →
    ((u : ℕ) → u < N → nth xs u ≡ sum_to e (λ d. share u (nth key d) (nth load d))) →
    (u : ℕ) → u < N → nth (set xs (nth key e) (nth xs (nth key e) + nth load e)) u ≡ sum_to (e + 1) (λ d. share u (nth key d) (nth load d))
added N e key load xs long few node each u h =
    ⊎_elim
    (λ w. w.1 ∙ ap (λ k. nth xs k + nth load e) (sym w.0) ∙ omega (arith, each u h, sum_more e f, share_same u (nth key e) (nth load e) w.0))
    (λ w. w.1 ∙ omega (arith, each u h, sum_more e f, share_other u (nth key e) (nth load e) w.0))
    (nth_set xs (nth key e) (nth xs (nth key e) + nth load e) u (omega arith))
  where
    f : ℕ → ℕ
    f d = share u (nth key d) (nth load d)

sum_fits : (N E e : ℕ) (key load xs : List ℕ) → ((d : ℕ) → d < E → nth load d ≤ most_moved) → e ≤ E →
    ((u : ℕ) → u < N → nth xs u ≡ sum_to e (λ d. share u (nth key d) (nth load d))) → (u : ℕ) → u < N → nth xs u ≤ e * most_moved
sum_fits N E e key load xs low l each u h =
    omega (arith, each u h, sum_low most_moved e (λ d. share u (nth key d) (nth load d)) (λ d b. omega (arith, share_most u (nth key d) (nth load d), low d (omega arith))))

pub tally_none : (N : ℕ) (from to load into out : List ℕ) → length into ≡ most_nodes → length out ≡ most_nodes → ((u : ℕ) → u < N → nth into u ≡ 0) →
    ((u : ℕ) → u < N → nth out u ≡ 0) → Tallied N 0 from to load into out
unfolding entering leaving
tally_none N from to load into out a b c d = record { into_long = a; out_long = b; entered = c; left = d }

pub tally_blank : (N : ℕ) (from to load : List ℕ) → N ≤ most_nodes → Tallied N 0 from to load (replicate most_nodes 0) (replicate most_nodes 0)
tally_blank N from to load few =
    tally_none N from to load (replicate most_nodes 0) (replicate most_nodes 0) (length-replicate {A = ℕ} most_nodes 0) (length-replicate {A = ℕ} most_nodes 0)
    (λ u l. get_or-replicate {A = ℕ} most_nodes u 0 0 (omega arith)) (λ u l. get_or-replicate {A = ℕ} most_nodes u 0 0 (omega arith))

module _ {N E : ℕ} {from to load : List ℕ} (S : Summable N E from to load) {e : ℕ} {into out : List ℕ} (t : Tallied N e from to load into out) (l : e < E) where
  pub tally_into_fits : nth into (nth to e) + nth load e ≤ most_edges * most_moved
  unfolding entering
  tally_into_fits =
      omega (arith, sum_fits N E e to load into S.low (omega arith) t.entered (nth to e) (S.ends.to_node e l), S.low e l, S.ends.few_edges)

  pub tally_out_fits : nth out (nth from e) + nth load e ≤ most_edges * most_moved
  unfolding leaving
  tally_out_fits =
      omega (arith, sum_fits N E e from load out S.low (omega arith) t.left (nth from e) (S.ends.from_node e l), S.low e l, S.ends.few_edges)

  pub tally_more : Tallied N (e + 1) from to load (set into (nth to e) (nth into (nth to e) + nth load e)) (set out (nth from e) (nth out (nth from e) + nth load e))
  unfolding entering leaving
  tally_more =
      record {
        into_long = simp length-set t.into_long;
        out_long = simp length-set t.out_long;
        entered = added N e to load into t.into_long S.ends.few_nodes (S.ends.to_node e l) t.entered;
        left = added N e from load out t.out_long S.ends.few_nodes (S.ends.from_node e l) t.left;
      }

-- ---- the nodes

pub comparable : {N E : ℕ} {from to load into out surplus deficit : List ℕ} → Summable N E from to load → Tallied N E from to load into out →
    Movable N surplus deficit → Comparable N into out surplus deficit
unfolding entering leaving
comparable {N = N} {E = E} {from = from} {to = to} {load = load} {into = into} {out = out} {surplus = surplus} {deficit = deficit} S t M =
    record {
      few_nodes = S.ends.few_nodes;
      in_fits =
          λ u l.
          omega (arith, sum_fits N E E to load into S.low (omega arith) t.entered u l, S.ends.few_edges, sum_term N u (λ v. nth surplus v) l, M.few);
      out_fits =
          λ u l.
          omega (arith, sum_fits N E E from load out S.low (omega arith) t.left u l, S.ends.few_edges, sum_term N u (λ v. nth deficit v) l, M.few_wanted);
    }

pub loads_stand : {N E : ℕ} {from to load into out surplus deficit : List ℕ} {all : ℕ} → 1 ≤ N → Tallied N E from to load into out →
    all ≡ sum_to N (λ u. nth surplus u) → nth out 0 ≤ all → Even N into out surplus deficit → LoadsStand N E from to load surplus deficit
loads_stand some t e l B =
    record {
      balance = λ u h. omega (arith, B.each u h, t.entered u h, t.left u h);
      root_sends = omega (arith, t.left 0 some);
    }

pub stands : {N E : ℕ} {from to cost load mark surplus deficit : List ℕ} → nth mark 0 ≡ base → EdgesStand E from to cost load mark →
    LoadsStand N E from to load surplus deficit → Stands N E from to cost load mark surplus deficit
stands r e l = record { edges = e; loads = l; root_mark = r }

-- the loads of edges that stand can be summed
pub summable : {N E : ℕ} {from to cost load mark : List ℕ} → Ends N E from to → EdgesStand E from to cost load mark → Summable N E from to load
summable n e = record { ends = n; low = λ d l. (e.each d l).few }

-- ---- where the network has its shape

module _ (N E : ℕ) (live : List Bool) (from to cost : List ℕ) (P : Shape N E live from to cost) where
  -- what stands the test carries everything
  pub stands_carried : (load mark surplus deficit : List ℕ) → Stands N E from to cost load mark surplus deficit → (given wanted : ℕ → ℕ) →
      ((u : ℕ) → u < N → nth surplus u + wanted u ≡ nth deficit u + given u) →
      Carried N E live from to cost load mark given wanted (sum_to N (λ u. nth surplus u))
  stands_carried load mark surplus deficit S given wanted even = record {
    slacks_hold = λ e l. (S.edges.each e l).slack;
    loads_tight = λ e l o. (S.edges.each e l).tight o;
    marks_near = slacks_near N E live from to cost P mark (λ e l. (S.edges.each e l).slack) S.root_mark;
    balance = λ u un. omega (arith, S.loads.balance u un, even u un);
    root_sends = S.loads.root_sends;
    few = λ e l. (S.edges.each e l).few;
  }

-- ---- set back

-- everything waits again
pub waiting_again : (N E : ℕ) (live : List Bool) (load mark load' mark' surplus deficit : List ℕ) → Waiting N E live load mark surplus deficit →
    Emptied E load' → Levelled N mark' → Waiting N E live load' mark' surplus deficit
waiting_again N E live load mark load' mark' surplus deficit W Z B = record {
  load_long = Z.long;
  mark_long = B.long;
  surplus_long = W.surplus_long;
  deficit_long = W.deficit_long;
  no_load = Z.nothing;
  at_base = λ u un t. B.at_base u un;
  apart = W.apart;
  dead_none = W.dead_none;
  same_sum = W.same_sum;
  few = W.few;
}
