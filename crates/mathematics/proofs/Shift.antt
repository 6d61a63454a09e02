-- Marks are raised by d outside a set S of nodes: what that does to slacks. Where d is at most the slack of every edge that leaves S, and no edge that
-- enters S carries anything, every load stays sound.
use Prim.Native.Nat.{ℕ, ◌≤◌}
use mathlib.Core.Path.{◌≡◌, sym, ap, ap₂, ◌∙◌}
use mathlib.Core.List.{List}
use mathlib.Core.Bool.{Bool, true, false, cond, not, ◌&&◌}
use lib.Dec.{T, leb, le→leb}
use Rattle.mathematics.specs.Price.{Prices, Ordered, Le, sub}
use Rattle.mathematics.proofs.Basics.{is_true, is_false}
use Rattle.mathematics.proofs.Algebra.{swap_middle, neg_add, nil_le_add, sub_holds, sub_of_eq}
use Rattle.mathematics.proofs.Network.{Edge, Load, Sound, slack}
use Rattle.mathematics.proofs.Tree.{member}

module _ (P : Prices) where
  -- p, raised by d outside S
  abbrev pub raise : (ℕ → P.El) → List ℕ → P.El → ℕ → P.El
  raise p S d u = cond (member S u) (p u) (P.add (p u) d)

  pub raise_inside : (p : ℕ → P.El) (S : List ℕ) (d : P.El) (u : ℕ) → T (member S u) → raise p S d u ≡ p u
  raise_inside p S d u m = ap (λ b. cond b (p u) (P.add (p u) d)) (is_true (member S u) m)

  abbrev pub leaves : List ℕ → Load P.El → Bool
  leaves S x = member S x.edge.from && not (member S x.edge.to)

  -- the edge enters S and carries something
  abbrev pub enters : List ℕ → Load P.El → Bool
  enters S x = not (member S x.edge.from) && (member S x.edge.to && leb 1 x.amount)

module _ (P : Prices) (L : Ordered P) where
  pub slack_both : (c a b d : P.El) → sub P (P.add c (P.add a d)) (P.add b d) ≡ sub P (P.add c a) b
  slack_both c a b d =
      ap₂ P.add (sym (L.add_assoc c a d)) (neg_add P L b d) ∙ swap_middle P L (P.add c a) d (P.neg b) (P.neg d) ∙
      ap (P.add (sub P (P.add c a) b)) (L.add_neg d) ∙ L.add_nil (sub P (P.add c a) b)

  slack_from : (c a b d : P.El) → sub P (P.add c (P.add a d)) b ≡ P.add (sub P (P.add c a) b) d
  slack_from c a b d = simp (L.add_assoc, L.add_comm)

  slack_to : (c a b d : P.El) → sub P (P.add c a) (P.add b d) ≡ sub P (sub P (P.add c a) b) d
  slack_to c a b d = ap (P.add (P.add c a)) (neg_add P L b d) ∙ sym (L.add_assoc (P.add c a) (P.neg b) (P.neg d))

  -- a slack not below nothing stays so when at most it is taken away; a slack of nothing stays
  abbrev Stands : P.El → ℕ → Type 0
  Stands z k = Le P P.nil z × (1 ≤ k → z ≡ P.nil)

  stands_less : (z d : P.El) (k : ℕ) → Stands z k → Le P P.nil d → Le P d z → Stands (sub P z d) k
  stands_less z d k h nd dz = (sub_holds P L d z dz, λ i. sub_of_eq P L d z (L.le_antisym d z dz (rw (h.1 i) nd)))

  raised_stands : (f t : Bool) (c a b d : P.El) (k : ℕ) → Stands (sub P (P.add c a) b) k → Le P P.nil d → (T (f && not t) → Le P d (sub P (P.add c a) b)) →
      (T (not f && (t && leb 1 k)) → ⊥) → Stands (sub P (P.add c (cond f a (P.add a d))) (cond t b (P.add b d))) k
  raised_stands true true c a b d k h nd out in₀ = h
  raised_stands true false c a b d k h nd out in₀ = rw (slack_to c a b d) (stands_less (sub P (P.add c a) b) d k h nd (out tt))
  raised_stands false true c a b d k h nd out in₀ =
      rw (slack_from c a b d) (nil_le_add P L (sub P (P.add c a) b) d h.0 nd, λ i. absurd (in₀ (le→leb 1 k i)))
  raised_stands false false c a b d k h nd out in₀ = rw (slack_both c a b d) h

  -- where p is raised by d outside S, a load stays sound
  pub raise_sound : (live : ℕ → Bool) (N : ℕ) (p : ℕ → P.El) (S : List ℕ) (d : P.El) (x : Load P.El) → Le P P.nil d → Sound P live N p x →
      (T (leaves P S x) → Le P d (slack P p x.edge)) → (T (enters P S x) → ⊥) → Sound P live N (raise P p S d) x
  raise_sound live N p S d x nd h out in₀ =
      let r = raised_stands (member S x.edge.from) (member S x.edge.to) x.edge.cost (p x.edge.from) (p x.edge.to) d x.amount (h.slack_holds, h.tight) nd out in₀ in
      record { from_node = h.from_node; to_node = h.to_node; slack_holds = r.0; tight = r.1 }

  -- all marks raised alike: a load stays sound
  pub raise_all_sound : (live : ℕ → Bool) (N : ℕ) (p : ℕ → P.El) (d : P.El) (x : Load P.El) → Sound P live N p x → Sound P live N (λ u. P.add (p u) d) x
  raise_all_sound live N p d x h =
      let e = slack_both x.edge.cost (p x.edge.from) (p x.edge.to) d in
      record { from_node = h.from_node; to_node = h.to_node; slack_holds = rw e h.slack_holds; tight = λ i. e ∙ h.tight i }

  -- an edge that leaves S has slack nil after a shift by its slack
  pub raise_tight : (p : ℕ → P.El) (S : List ℕ) (e : Edge P.El) → T (member S e.from) → (T (member S e.to) → ⊥) → slack P (raise P p S (slack P p e)) e ≡ P.nil
  raise_tight p S e i o =
      ap₂ (λ a b. sub P (P.add e.cost a) b) (raise_inside P p S (slack P p e) e.from i)
      (ap (λ b. cond b (p e.to) (P.add (p e.to) (slack P p e))) (is_false (member S e.to) o)) ∙
      slack_to e.cost (p e.from) (p e.to) (slack P p e) ∙ L.add_neg (slack P p e)
