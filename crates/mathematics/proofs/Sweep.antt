-- A flow that balances at every node is a list of weighted walks: nodes are numbers, links rise, and the nodes between 0 and M are swept away one after
-- the other: what enters a node is paired with what leaves it, each pair one piece. A pairing has no more pieces than there were, so there are no more
-- walks than links; and a pairing keeps the worth of the flow, whatever the links are worth.
use Prim.Native.Nat.{ℕ, zero, suc, pred, ◌+◌, ◌*◌, ◌-◌, ◌≤◌, ◌<◌}
use mathlib.Core.Path.{◌≡◌, refl, sym, ap, subst, subst₂, ◌∙◌}
use mathlib.Core.List.{List, [], ◌∷◌, ◌++◌}
use mathlib.Core.Bool.{Bool}
use mathlib.Core.Logic.{◌⊎◌, inl, inr, ◌≢◌}
use native.Mathlib.Nat.{eq-zero-or-pos, mul-add, add-mul, add-zero, le_refl, le_trans, lt-suc_self}
use native.Mathlib.Omega.{arith}
use lib.Dec.{T, eqb, eqb→eq, eqb_refl, leb, leb→le, nleb→lt, ltb→lt, not_T}
use lib.ListN.{length, length-append}
use Rattle.mathematics.specs.Lists.{All, sum_over}
use Rattle.mathematics.specs.Cover.{one_if}
use Rattle.mathematics.proofs.Basics.{all_append, all_from, all_weaken, test, is_true, is_false}
use Rattle.mathematics.proofs.Loads.{unequal, Load, worth, one, none, passing, failing, sum_over_append, worth_append, worth_same, worth_none, worth_nothing, worth_empty, worth_parts, length_parts, all_passing, all_failing, relabel, worth_relabel, length_relabel, all_relabel, is_present, worth_present}

-- a walk from one node to another, along links
pub record Walk (L : Type 0) : Type 0 where
  pub from : ℕ
  pub to : ℕ
  pub links : List L

abbrev pub join : {L : Type 0} → Walk L → Walk L → Walk L
join a b = record { from = a.from; to = b.to; links = a.links ++ b.links }

-- a walk's worth, from that of links
abbrev pub along : {L : Type 0} → (L → ℕ) → Walk L → ℕ
along g w = sum_over g w.links

-- the walk begins, ends at x
abbrev pub leaves : {L : Type 0} → ℕ → Walk L → ℕ
leaves x w = one_if (eqb w.from x)

abbrev pub enters : {L : Type 0} → ℕ → Walk L → ℕ
enters x w = one_if (eqb w.to x)

-- Walks A paired with walks B of the same amount.
record Paired {L : Type 0} (A B : List (Load (Walk L))) : Type 1 where
  pieces : List (Load (Walk L))
  few : length pieces ≤ length A + length B
  made : (Q Q₁ Q₂ : Walk L → Type 0) → ((a b : Walk L) → Q₁ a → Q₂ b → Q (join a b)) → All (λ p. Q₁ p.what) A → All (λ p. Q₂ p.what) B →
      All (λ p. Q p.what) pieces
  worths : (g g₁ g₂ : Walk L → ℕ) → ((a b : Walk L) → g (join a b) ≡ g₁ a + g₂ b) → worth g pieces ≡ worth g₁ A + worth g₂ B

-- one of two numbers is the other and something
more_or_less : (m n : ℕ) → ((d : ℕ) × (n ≡ m + d)) ⊎ ((d : ℕ) × (m ≡ n + d))
more_or_less m n = go (test (leb m n))
  where
    go : T (leb m n) ⊎ (T (leb m n) → ⊥) → ((d : ℕ) × (n ≡ m + d)) ⊎ ((d : ℕ) × (m ≡ n + d))
    go (inl h) = inl (n - m, omega (arith, leb→le m n h))
    go (inr h) = inr (m - n, omega (arith, nleb→lt m n (not_T (leb m n) h)))

module _ {L : Type 0} where
  -- the first of A is used up by the first of B
  paired_left : (a b : Load (Walk L)) (A B : List (Load (Walk L))) (d : ℕ) → b.amount ≡ a.amount + d → Paired A (record { amount = d; what = b.what } ∷ B) →
      Paired (a ∷ A) (b ∷ B)
  paired_left a b A B d e h =
      record {
        pieces = record { amount = a.amount; what = join a.what b.what } ∷ h.pieces;
        few = omega (arith, h.few);
        made = λ Q Q₁ Q₂ j ha hb. (j a.what b.what ha.0 hb.0, h.made Q Q₁ Q₂ j ha.1 (hb.0, hb.1));
        worths = λ g g₁ g₂ j. rw (j a.what b.what) (sum (g₁ a.what) (g₂ b.what) _ _ _ (h.worths g g₁ g₂ j));
      }
    where
      sum : (x y r s t : ℕ) → r ≡ s + (d * y + t) → a.amount * (x + y) + r ≡ a.amount * x + s + (b.amount * y + t)
      sum x y r s t f = rw (e, f, mul-add, add-mul) (omega arith)

  -- the first of B is used up by the first of A
  paired_right : (a b : Load (Walk L)) (A B : List (Load (Walk L))) (d : ℕ) → a.amount ≡ b.amount + d → Paired (record { amount = d; what = a.what } ∷ A) B →
      Paired (a ∷ A) (b ∷ B)
  paired_right a b A B d e h =
      record {
        pieces = record { amount = b.amount; what = join a.what b.what } ∷ h.pieces;
        few = omega (arith, h.few);
        made = λ Q Q₁ Q₂ j ha hb. (j a.what b.what ha.0 hb.0, h.made Q Q₁ Q₂ j (ha.0, ha.1) hb.1);
        worths = λ g g₁ g₂ j. rw (j a.what b.what) (sum (g₁ a.what) (g₂ b.what) _ _ _ (h.worths g g₁ g₂ j));
      }
    where
      sum : (x y r s t : ℕ) → r ≡ d * x + s + t → b.amount * (x + y) + r ≡ a.amount * x + s + (b.amount * y + t)
      sum x y r s t f = rw (e, f, mul-add, add-mul) (omega arith)

  -- walks of the same amount can be paired
  pair_up : (fuel : ℕ) (A B : List (Load (Walk L))) → length A + length B ≤ fuel → worth one A ≡ worth one B → Paired A B
  pair_up fuel [] B f e = record { pieces = []; few = omega arith; made = λ Q Q₁ Q₂ j ha hb. tt; worths = λ g g₁ g₂ j. omega (arith, worth_empty g₂ B (sym e)) }
  pair_up fuel (a ∷ A) [] f e =
      record { pieces = []; few = omega arith; made = λ Q Q₁ Q₂ j ha hb. tt; worths = λ g g₁ g₂ j. omega (arith, worth_empty g₁ (a ∷ A) e) }
  pair_up zero (a ∷ A) (b ∷ B) f e = absurd (omega arith)
  pair_up (suc fuel) (a ∷ A) (b ∷ B) f e =
      elim (more_or_less a.amount b.amount) [
        | inl l ↦ paired_left a b A B l.0 l.1 (pair_up fuel A (record { amount = l.0; what = b.what } ∷ B) (omega arith) (omega (arith, l.1)))
        | inr r ↦ paired_right a b A B r.0 r.1 (pair_up fuel (record { amount = r.0; what = a.what } ∷ A) B (omega arith) (omega (arith, r.1)))
      ]

-- the walks that end at x, those of the others that begin at x, and the rest
module _ {L : Type 0} where
  abbrev ends_at : ℕ → Load (Walk L) → Bool
  ends_at x p = eqb p.what.to x

  abbrev begins_at : ℕ → Load (Walk L) → Bool
  begins_at x p = eqb p.what.from x

  abbrev entering : ℕ → List (Load (Walk L)) → List (Load (Walk L))
  entering x ps = passing (ends_at x) ps

  abbrev leaving : ℕ → List (Load (Walk L)) → List (Load (Walk L))
  leaving x ps = passing (begins_at x) (failing (ends_at x) ps)

  abbrev others : ℕ → List (Load (Walk L)) → List (Load (Walk L))
  others x ps = failing (begins_at x) (failing (ends_at x) ps)

  parts : (x : ℕ) (g : Walk L → ℕ) (ps : List (Load (Walk L))) → worth g ps ≡ worth g (entering x ps) + (worth g (leaving x ps) + worth g (others x ps))
  parts x g ps = worth_parts (ends_at x) g ps ∙ ap (λ (n : ℕ). worth g (entering x ps) + n) (worth_parts (begins_at x) g (failing (ends_at x) ps))

if_equal : {m n : ℕ} → m ≡ n → one_if (eqb m n) ≡ 1
if_equal {m} {n} e = ap one_if (is_true (eqb m n) (subst (λ (k : ℕ). T (eqb m k)) e (eqb_refl m)))

if_unequal : (m n : ℕ) → m ≢ n → one_if (eqb m n) ≡ 0
if_unequal m n h = ap one_if (is_false (eqb m n) (λ t. h (eqb→eq m n t)))

-- as much enters as leaves each node between 0 and M
abbrev pub Balanced : {L : Type 0} (start finish : L → ℕ) → ℕ → List (Load L) → Type 0
Balanced start finish M loads =
    (x : ℕ) → 0 < x → x < M → worth (λ l. one_if (eqb (finish l) x)) loads ≡ worth (λ l. one_if (eqb (start l) x)) loads

module _ {L : Type 0} (start finish : L → ℕ) (Good : L → Type 0) where
  -- the links lead from x to y
  abbrev pub Chain : ℕ → ℕ → List L → Type 0
  Chain x y [] = x ≡ y
  Chain x y (l ∷ ls) = (start l ≡ x) × Good l × Chain (finish l) y ls

  chain_append : (x y z : ℕ) (ks ls : List L) → Chain x y ks → Chain y z ls → Chain x z (ks ++ ls)
  chain_append x y z [] ls e h = subst (λ (n : ℕ). Chain n z ls) (sym e) h
  chain_append x y z (k ∷ ks) ls (e, g, h) h' = (e, g, chain_append (finish k) y z ks ls h h')

  -- The nodes from 1 to k are swept away: a walk begins at 0 or behind them and ends behind them.
  record Swept (M k : ℕ) (w : Walk L) : Type 0 where
    begins : (w.from ≡ 0) ⊎ (k < w.from)
    ends : k < w.to
    rises : w.from < w.to
    within : w.to ≤ M
    leads : Chain w.from w.to w.links

  record State (M k : ℕ) (ps : List (Load (Walk L))) : Type 0 where
    swept : All (λ p. Swept M k p.what) ps
    balanced : (x : ℕ) → k < x → x < M → worth (enters x) ps ≡ worth (leaves x) ps

  record Next (M k : ℕ) (ps : List (Load (Walk L))) : Type 0 where
    pieces : List (Load (Walk L))
    state : State M k pieces
    few : length pieces ≤ length ps
    same : (g : L → ℕ) → worth (along g) pieces ≡ worth (along g) ps

  abbrev Entering : ℕ → ℕ → Load (Walk L) → Type 0
  Entering M k p = Swept M k p.what × (p.what.from ≡ 0) × (p.what.to ≡ suc k)

  abbrev Passing : ℕ → ℕ → Load (Walk L) → Type 0
  Passing M k p = Swept M k p.what × (T (ends_at (suc k) p) → ⊥)

  abbrev Leaving : ℕ → ℕ → Load (Walk L) → Type 0
  Leaving M k p = Swept M k p.what × (p.what.from ≡ suc k)

  abbrev Other : ℕ → ℕ → Load (Walk L) → Type 0
  Other M k p = Swept M k p.what × (p.what.from ≢ suc k) × (p.what.to ≢ suc k)

  -- what enters the node y (k + 1) is paired with what leaves it
  module _ (M k : ℕ) (ps : List (Load (Walk L))) (before : State M k ps) (inside : suc k < M) where
    entering_are : All (Entering M k) (entering (suc k) ps)
    entering_are = all_weaken _ _ (entering (suc k) ps) one_of (all_passing (ends_at (suc k)) _ ps before.swept)
      where
        from_zero : (w : Walk L) → Swept M k w → w.to ≡ suc k → (w.from ≡ 0) ⊎ (k < w.from) → w.from ≡ 0
        from_zero w s e (inl z) = z
        from_zero w s e (inr l) = absurd (omega arith)

        one_of : (p : Load (Walk L)) → Swept M k p.what × T (ends_at (suc k) p) → Swept M k p.what × (p.what.from ≡ 0) × (p.what.to ≡ suc k)
        one_of p (s, t) =
            let e : p.what.to ≡ suc k = eqb→eq _ _ t in
            (s, from_zero p.what s e s.begins, e)

    not_entering : All (Passing M k) (failing (ends_at (suc k)) ps)
    not_entering = all_failing (ends_at (suc k)) _ ps before.swept

    leaving_are : All (Leaving M k) (leaving (suc k) ps)
    leaving_are =
        all_weaken (λ p. Passing M k p × T (begins_at (suc k) p)) (Leaving M k) (leaving (suc k) ps) (λ p h. (h.0.0, eqb→eq _ _ h.1))
        (all_passing (begins_at (suc k)) (Passing M k) (failing (ends_at (suc k)) ps) not_entering)

    others_are : All (Other M k) (others (suc k) ps)
    others_are =
        all_weaken (λ p. Passing M k p × (T (begins_at (suc k) p) → ⊥)) (Other M k) (others (suc k) ps)
        (λ p h. (h.0.0, unequal _ _ h.1, unequal _ _ h.0.1))
        (all_failing (begins_at (suc k)) (Passing M k) (failing (ends_at (suc k)) ps) not_entering)

    -- as much enters the node as leaves it
    as_much : worth one (entering (suc k) ps) ≡ worth one (leaving (suc k) ps)
    as_much =
        omega (
          arith,
          parts (suc k) (enters (suc k)) ps,
          parts (suc k) (leaves (suc k)) ps,
          before.balanced (suc k) (lt-suc_self k) inside,
          worth_same (Entering M k) (enters (suc k)) one (entering (suc k) ps) entering_are (λ p h. if_equal h.2),
          worth_nothing (Leaving M k) (enters (suc k)) (leaving (suc k) ps) leaving_are
              (λ p h. if_unequal p.what.to (suc k) (λ q. omega (arith, h.0.rises, h.1))),
          worth_nothing (Other M k) (enters (suc k)) (others (suc k) ps) others_are (λ p h. if_unequal p.what.to (suc k) h.2),
          worth_nothing (Entering M k) (leaves (suc k)) (entering (suc k) ps) entering_are
              (λ p h. if_unequal p.what.from (suc k) (λ q. omega (arith, h.1))),
          worth_same (Leaving M k) (leaves (suc k)) one (leaving (suc k) ps) leaving_are (λ p h. if_equal h.1),
          worth_nothing (Other M k) (leaves (suc k)) (others (suc k) ps) others_are (λ p h. if_unequal p.what.from (suc k) h.1),
        )

    paired : Paired (entering (suc k) ps) (leaving (suc k) ps)
    paired = pair_up (length (entering (suc k) ps) + length (leaving (suc k) ps)) _ _ (le_refl _) as_much

    still_balanced : (x : ℕ) → suc k < x → x < M →
        worth (enters x) (paired.pieces ++ others (suc k) ps) ≡ worth (leaves x) (paired.pieces ++ others (suc k) ps)
    still_balanced x l m =
        simp worth_append
        (omega (
          arith,
          parts (suc k) (enters x) ps,
          parts (suc k) (leaves x) ps,
          before.balanced x (omega arith) m,
          paired.worths (enters x) none (enters x) (λ a b. omega arith),
          paired.worths (leaves x) (leaves x) none (λ a b. omega arith),
          worth_none (entering (suc k) ps),
          worth_none (leaving (suc k) ps),
          worth_nothing (Entering M k) (enters x) (entering (suc k) ps) entering_are (λ p h. if_unequal p.what.to x (λ q. omega (arith, h.2))),
          worth_nothing (Leaving M k) (leaves x) (leaving (suc k) ps) leaving_are (λ p h. if_unequal p.what.from x (λ q. omega (arith, h.1))),
        ))

    -- one node less
    next : Next M (suc k) ps
    next =
        record {
          pieces = paired.pieces ++ others (suc k) ps;
          state =
              record {
                swept =
                    all_append (λ p. Swept M (suc k) p.what) paired.pieces (others (suc k) ps)
                    (paired.made (Swept M (suc k)) _ _ joined entering_are leaving_are)
                    (all_weaken (Other M k) (λ p. Swept M (suc k) p.what) (others (suc k) ps) kept others_are);
                balanced = still_balanced;
              };
          few =
              simp length-append (omega (arith, paired.few, length_parts (ends_at (suc k)) ps, length_parts (begins_at (suc k)) (failing (ends_at (suc k)) ps)));
          same = λ g. worth_append (along g) paired.pieces (others (suc k) ps) ∙ same_worth g;
        }
      where
        joined : (a b : Walk L) → Swept M k a × (a.from ≡ 0) × (a.to ≡ suc k) → Swept M k b × (b.from ≡ suc k) → Swept M (suc k) (join a b)
        joined a b (s, z, e) (s', e') =
            record {
              begins = inl z;
              ends = omega (arith, s'.rises);
              rises = omega (arith, s'.rises);
              within = s'.within;
              leads =
                  chain_append a.from a.to b.to a.links b.links s.leads
                  (subst (λ (n : ℕ). Chain n b.to b.links) (e' ∙ sym e) s'.leads);
            }

        later : (w : Walk L) → w.from ≢ suc k → (w.from ≡ 0) ⊎ (k < w.from) → (w.from ≡ 0) ⊎ (suc k < w.from)
        later w n (inl z) = inl z
        later w n (inr l) = inr (omega arith)

        kept : (p : Load (Walk L)) → Swept M k p.what × (p.what.from ≢ suc k) × (p.what.to ≢ suc k) → Swept M (suc k) p.what
        kept p (s, n, m) =
            record { begins = later p.what n s.begins; ends = omega (arith, s.ends); rises = s.rises; within = s.within; leads = s.leads }

        same_worth : (g : L → ℕ) → worth (along g) paired.pieces + worth (along g) (others (suc k) ps) ≡ worth (along g) ps
        same_worth g =
            omega (
              arith,
              parts (suc k) (along g) ps,
              paired.worths (along g) (along g) (along g) (λ a b. sum_over_append g a.links b.links),
            )

  -- all nodes between 0 and M
  sweep : (M left k : ℕ) (ps : List (Load (Walk L))) → State M k ps → suc (k + left) ≡ M → Next M (pred M) ps
  sweep M zero k ps s e = subst (λ (n : ℕ). Next M n ps) (omega arith) (record { pieces = ps; state = s; few = le_refl _; same = λ g. refl })
  sweep M (suc left) k ps s e =
      let first : Next M (suc k) ps = next M k ps s (omega arith) in
      let more : Next M (pred M) first.pieces = sweep M left (suc k) first.pieces first.state (omega arith) in
      record { pieces = more.pieces; state = more.state; few = le_trans more.few first.few; same = λ g. more.same g ∙ first.same g }

  -- A flow as a list of walks from 0 to M.
  pub record Split (M : ℕ) (loads : List (Load L)) : Type 0 where
    pub walks : List (Load (List L))
    pub amounts : All (λ w. 1 ≤ w.amount) walks
    pub lead : All (λ w. Chain 0 M w.what) walks
    pub few : length walks ≤ length loads
    pub same : (g : L → ℕ) → worth (sum_over g) walks ≡ worth g loads

  -- a link as a walk
  abbrev single : L → Walk L
  single l = record { from = start l; to = finish l; links = l ∷ [] }

  -- a link that rises to M at most
  abbrev pub Rising : ℕ → Load L → Type 0
  Rising M l = (start l.what < finish l.what) × (finish l.what ≤ M) × (1 ≤ l.amount → Good l.what)

  begun : (M : ℕ) (loads : List (Load L)) → All (λ l. Rising M l × T (is_present l)) loads → Balanced start finish M loads → State M 0 (relabel single loads)
  begun M loads sound balance =
      record {
        swept = all_relabel single (λ l. Rising M l × T (is_present l)) (λ p. Swept M 0 p.what) loads sound one_of;
        balanced = λ x l m. worth_relabel single (enters x) loads ∙ (balance x l m ∙ sym (worth_relabel single (leaves x) loads));
      }
    where
      one_of : (l : Load L) → Rising M l × T (is_present l) → Swept M 0 (single l.what)
      one_of l ((up, high, good), t) =
          record {
            begins = eq-zero-or-pos (start l.what);
            ends = omega arith;
            rises = up;
            within = high;
            leads = (refl, good (ltb→lt 0 l.amount t), refl);
          }

  ended : (M : ℕ) → 1 ≤ M → (p : Load (Walk L)) → Swept M (pred M) p.what × T (is_present p) → Chain 0 M p.what.links
  ended M pos p (s, t) = subst₂ (λ (x y : ℕ). Chain x y p.what.links) (from_zero s.begins) (omega (arith, s.ends, s.within)) s.leads
    where
      from_zero : (p.what.from ≡ 0) ⊎ (pred M < p.what.from) → p.what.from ≡ 0
      from_zero (inl z) = z
      from_zero (inr l) = absurd (omega (arith, s.rises, s.within))

  finished : (M : ℕ) → 1 ≤ M → (loads : List (Load L)) → Next M (pred M) (relabel single loads) → Split M loads
  finished M pos loads all =
      let left : List (Load (Walk L)) = passing is_present all.pieces in
      let known : All (λ p. Swept M (pred M) p.what × T (is_present p)) left =
      all_passing is_present (λ p. Swept M (pred M) p.what) all.pieces all.state.swept in
      record {
        walks = relabel (λ w. w.links) left;
        amounts = all_relabel _ (λ p. Swept M (pred M) p.what × T (is_present p)) (λ w. 1 ≤ w.amount) left known (λ p h. ltb→lt 0 p.amount h.1);
        lead = all_relabel _ (λ p. Swept M (pred M) p.what × T (is_present p)) (λ w. Chain 0 M w.what) left known (ended M pos);
        few = omega (arith, length_relabel (λ (w : Walk L). w.links) left, length_parts is_present all.pieces, all.few, length_relabel single loads);
        same = λ g.
            worth_relabel (λ w. w.links) (sum_over g) left ∙
            (worth_present (along g) all.pieces ∙
            (all.same g ∙
            (worth_relabel single (along g) loads ∙
            worth_same (λ l. Unit {0}) (λ l. g l + 0) g loads (all_from _ loads (λ x m. tt)) (λ l u. add-zero (g l.what)))));
      }

  -- Loads that balance at every node between 0 and M are the sum of no more walks from 0 to M than there are loads.
  pub split : (M : ℕ) → 1 ≤ M → (loads : List (Load L)) → All (Rising M) loads → Balanced start finish M loads → Split M loads
  split M pos loads sound balance =
      let some : List (Load L) = passing is_present loads in
      let state : State M 0 (relabel single some) =
      begun M some (all_passing is_present (Rising M) loads sound)
      (λ x l m. worth_present (λ k. one_if (eqb (finish k) x)) loads ∙ (balance x l m ∙ sym (worth_present (λ k. one_if (eqb (start k) x)) loads))) in
      let s : Split M some = finished M pos some (sweep M (pred M) 0 (relabel single some) state (omega arith)) in
      record {
        walks = s.walks;
        amounts = s.amounts;
        lead = s.lead;
        few = omega (arith, s.few, length_parts is_present loads);
        same = λ g. s.same g ∙ worth_present g loads;
      }
