-- A push of k units from the seed of a tree to one of its nodes, along the tree: forth along an edge its load grows by k, back along an edge it falls by k.
use Prim.Native.Nat.{ℕ, ◌+◌, ◌-◌, ◌≤◌, min}
use native.Mathlib.Omega.{arith}
use native.Mathlib.Nat.{le_refl}
use mathlib.Core.Path.{◌≡◌, refl, sym, ◌∙◌}
use mathlib.Core.List.{List, [], ◌∷◌}
use mathlib.Core.Bool.{Bool}
use mathlib.Core.Logic.{inl, inr}
use lib.Dec.{T, eqb, eqb→eq, eqb_refl}
use Rattle.mathematics.specs.Price.{Prices}
use Rattle.mathematics.specs.Lists.{All}
use Rattle.mathematics.specs.Range.{OneOf}
use Rattle.mathematics.proofs.Basics.{all_among, test}
use Rattle.mathematics.proofs.Network.{Load, Sound, slack, edges_of, leaving, entering, share, share_other, share_below, alter, alter_edges, alter_more, alter_less, alter_keeps, alter_all}
use Rattle.mathematics.proofs.Tree.{member, member_here, member_there, member_cases, Tree, seed, forth, back}

module _ (P : Prices) where
  -- both ends of the edge are in S
  abbrev Within : List ℕ → Load P.El → Type 0
  Within S x = T (member S x.edge.from) × T (member S x.edge.to)

  -- The loads after k units went from s to u within the nodes S. No node but those before u sends more than it did, and none sends more than k more:
  -- the way passes a node once.
  pub record Pushed (live : ℕ → Bool) (N : ℕ) (p : ℕ → P.El) (loads : List (Load P.El)) (s : ℕ) (S : List ℕ) (u k : ℕ) : Type 0 where
    pub after : List (Load P.El)
    pub same_edges : edges_of after ≡ edges_of loads
    pub sound : All (Sound P live N p) after
    pub moved : (v : ℕ) → leaving after v + entering loads v + share v u k ≡ entering after v + leaving loads v + share v s k
    pub at_most : (v : ℕ) → leaving after v ≤ leaving loads v + k
    quiet : (v : ℕ) → (T (member S v) → v ≡ u) → leaving after v ≤ leaving loads v
    beyond : (x : Load P.El) → (Within S x → ⊥) → OneOf loads x → OneOf after x

  -- how much of n can be pushed
  pub record Room (live : ℕ → Bool) (N : ℕ) (p : ℕ → P.El) (loads : List (Load P.El)) (s : ℕ) (S : List ℕ) (u n : ℕ) : Type 0 where
    pub room : ℕ
    pub some_room : 1 ≤ room
    pub room_below : room ≤ n
    pub push : (k : ℕ) → k ≤ room → Pushed live N p loads s S u k

  module _ (live : ℕ → Bool) (N : ℕ) (p : ℕ → P.El) (loads : List (Load P.El)) (s : ℕ) (S : List ℕ) where
    push_nowhere : All (Sound P live N p) loads → (k : ℕ) → Pushed live N p loads s S s k
    push_nowhere h k =
        record {
          after = loads;
          same_edges = refl;
          sound = h;
          moved = λ v. omega arith;
          at_most = λ v. omega arith;
          quiet = λ v q. le_refl (leaving loads v);
          beyond = λ x o m. m;
        }

    push_wider : (w u k : ℕ) → Pushed live N p loads s S u k → Pushed live N p loads s (w ∷ S) u k
    push_wider w u k r =
        record {
          after = r.after;
          same_edges = r.same_edges;
          sound = r.sound;
          moved = r.moved;
          at_most = r.at_most;
          quiet = λ v q. r.quiet v (λ m. q (member_there w S v m));
          beyond = λ x o m. r.beyond x (λ i. o (member_there w S x.edge.from i.0, member_there w S x.edge.to i.1)) m;
        }

    push_forth : (x : Load P.El) (k : ℕ) → Sound P live N p x → OneOf loads x → slack P p x.edge ≡ P.nil → T (member S x.edge.from) →
        (T (member S x.edge.to) → ⊥) →
        Pushed live N p loads s S x.edge.from k → Pushed live N p loads s (x.edge.to ∷ S) x.edge.to k
    push_forth x k ok m z i o r =
        record {
          after = alter r.after x here (x.amount + k);
          same_edges = alter_edges r.after x here (x.amount + k) ∙ r.same_edges;
          sound =
              alter_all (Sound P live N p) r.after x here (x.amount + k) r.sound
              (record { from_node = ok.from_node; to_node = ok.to_node; slack_holds = ok.slack_holds; tight = λ c. z });
          moved = λ v. omega (arith, r.moved v, sends v, receives v);
          at_most = at_most;
          quiet = λ v q.
              omega (
                arith,
                sends v,
                r.quiet v (λ j. absurd (o (rw (q (member_there t S v j)) at j))),
                share_other v f k (λ e. o (rw (q (member_there t S v (rw e i))) at (rw (sym e) at i))),
              );
          beyond = λ y out n. alter_keeps r.after x here (x.amount + k) y (λ e. out (rw e (member_there t S f i, member_here t S)))
              (r.beyond y (λ j. out (member_there t S y.edge.from j.0, member_there t S y.edge.to j.1)) n);
        }
      where
        f : ℕ
        f = x.edge.from

        t : ℕ
        t = x.edge.to

        here : OneOf r.after x
        here = r.beyond x (λ j. o j.1) m

        sends : (v : ℕ) → leaving (alter r.after x here (x.amount + k)) v ≡ leaving r.after v + share v f k
        sends v = alter_more (λ e. e.from) r.after x here k v

        receives : (v : ℕ) → entering (alter r.after x here (x.amount + k)) v ≡ entering r.after v + share v t k
        receives v = alter_more (λ e. e.to) r.after x here k v

        at_most : (v : ℕ) → leaving (alter r.after x here (x.amount + k)) v ≤ leaving loads v + k
        at_most v =
            elim (test (eqb v f)) [
              | inl e ↦ omega (arith, sends v, r.quiet v (λ j. eqb→eq v f e), share_below v f k)
              | inr d ↦ omega (arith, sends v, r.at_most v, share_other v f k (λ e. d (rw e (eqb_refl f))))
            ]

    push_back : (x : Load P.El) (j k : ℕ) → j + k ≡ x.amount → Sound P live N p x → OneOf loads x → slack P p x.edge ≡ P.nil → T (member S x.edge.to) →
        (T (member S x.edge.from) → ⊥) →
        Pushed live N p loads s S x.edge.to k → Pushed live N p loads s (x.edge.from ∷ S) x.edge.from k
    push_back x j k rest ok m z i o r =
        record {
          after = alter r.after x here j;
          same_edges = alter_edges r.after x here j ∙ r.same_edges;
          sound =
              alter_all (Sound P live N p) r.after x here j r.sound
              (record { from_node = ok.from_node; to_node = ok.to_node; slack_holds = ok.slack_holds; tight = λ c. z });
          moved = λ v. omega (arith, r.moved v, sends v, receives v);
          at_most = λ v. omega (arith, sends v, r.at_most v);
          quiet = λ v q. omega (arith, sends v, r.quiet v (λ n. absurd (o (rw (q (member_there f S v n)) at n))));
          beyond = λ y out n. alter_keeps r.after x here j y (λ e. out (rw e (member_here f S, member_there f S t i)))
              (r.beyond y (λ n. out (member_there f S y.edge.from n.0, member_there f S y.edge.to n.1)) n);
        }
      where
        f : ℕ
        f = x.edge.from

        t : ℕ
        t = x.edge.to

        here : OneOf r.after x
        here = r.beyond x (λ n. o n.0) m

        sends : (v : ℕ) → leaving (alter r.after x here j) v + share v f k ≡ leaving r.after v
        sends v = alter_less (λ e. e.from) r.after x here j k v rest

        receives : (v : ℕ) → entering (alter r.after x here j) v + share v t k ≡ entering r.after v
        receives v = alter_less (λ e. e.to) r.after x here j k v rest

  module _ (live : ℕ → Bool) (N : ℕ) (p : ℕ → P.El) (loads : List (Load P.El)) (s : ℕ) where
    room_wider : (S : List ℕ) (w u n : ℕ) → Room live N p loads s S u n → Room live N p loads s (w ∷ S) u n
    room_wider S w u n r =
        record { room = r.room; some_room = r.some_room; room_below = r.room_below; push = λ k h. push_wider live N p loads s S w u k (r.push k h) }

    room_seed : (n u : ℕ) → 1 ≤ n → All (Sound P live N p) loads → T (member (s ∷ []) u) → Room live N p loads s (s ∷ []) u n
    room_seed n u h ok i = elim (member_cases s [] u i) [
      | inl e ↦ rw e (record { room = n; some_room = h; room_below = le_refl n; push = λ k b. push_nowhere live N p loads s (s ∷ []) ok k })
      | inr f ↦ absurd f
    ]

    room_forth : (n : ℕ) (S : List ℕ) (x : Load P.El) → Sound P live N p x → OneOf loads x → slack P p x.edge ≡ P.nil → T (member S x.edge.from) →
        (T (member S x.edge.to) → ⊥) →
        Room live N p loads s S x.edge.from n → Room live N p loads s (x.edge.to ∷ S) x.edge.to n
    room_forth n S x ok m z i o r =
        record { room = r.room; some_room = r.some_room; room_below = r.room_below; push = λ k b. push_forth live N p loads s S x k ok m z i o (r.push k b) }

    room_back : (n : ℕ) (S : List ℕ) (x : Load P.El) → Sound P live N p x → OneOf loads x → slack P p x.edge ≡ P.nil → T (member S x.edge.to) →
        (T (member S x.edge.from) → ⊥) → 1 ≤ x.amount →
        Room live N p loads s S x.edge.to n → Room live N p loads s (x.edge.from ∷ S) x.edge.from n
    room_back n S x ok m z i o c r =
        record {
          room = min r.room x.amount;
          some_room = omega (arith, r.some_room);
          room_below = omega (arith, r.room_below);
          push = λ k b. push_back live N p loads s S x (x.amount - k) k (omega arith) ok m z i o (r.push k (omega arith));
        }

    -- the node that joined last, or one that was in the tree before
    room_either : (n : ℕ) (S : List ℕ) (v u : ℕ) → T (member (v ∷ S) u) → Room live N p loads s (v ∷ S) v n → (T (member S u) → Room live N p loads s S u n) →
        Room live N p loads s (v ∷ S) u n
    room_either n S v u j last before = elim (member_cases v S u j) [ inl e ↦ rw e last | inr f ↦ room_wider S v u n (before f) ]

    -- of n ≥ 1 units at least one can be pushed to each node of the tree
    pub room_to : (n : ℕ) → 1 ≤ n → All (Sound P live N p) loads → (S : List ℕ) → Tree P loads p s S → (u : ℕ) → T (member S u) → Room live N p loads s S u n
    room_to n h ok S seed u i = room_seed n u h ok i
    room_to n h ok S (forth {S = S₀} tree x m z i o) u j =
        room_either n S₀ x.edge.to u j (room_forth n S₀ x (all_among (Sound P live N p) loads x ok m) m z i o (room_to n h ok S₀ tree x.edge.from i)) (λ f. room_to n h ok S₀ tree u f)
    room_to n h ok S (back {S = S₀} tree x m z i o c) u j =
        room_either n S₀ x.edge.from u j (room_back n S₀ x (all_among (Sound P live N p) loads x ok m) m z i o c (room_to n h ok S₀ tree x.edge.to i)) (λ f. room_to n h ok S₀ tree u f)
