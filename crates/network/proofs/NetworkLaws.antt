-- Laws of the working network over plain lists: what stands at a place after a store, sums after a store, and the chains of edges.
use Rattle.std.proofs.Common.{ℕ, zero, suc, ◌+◌, ◌*◌, ◌≤◌, ◌<◌, arith, add-one, suc-mul, add-le-add, ◌≡◌, refl, sym, ap, ap₂, ◌∙◌, List, ◌⊎◌, inl, inr, ⊎_elim, ◌≢◌, cond, eq-eqb, ne_eqb, length, set, get_or-set_same, get_or-set_other}
use native.Mathlib.Decide.{ℕ_discrete, dec_lt}
use Rattle.network.specs.Network.{nth, sum_to, share, Chained}

-- two numbers are the same, or they differ
pub same_or_not : (a b : ℕ) → (a ≡ b) ⊎ (a ≢ b)
same_or_not a b = go (ℕ_discrete a b)
  where
    go : Dec (a ≡ b) → (a ≡ b) ⊎ (a ≢ b)
    go (yes p) = inl p
    go (no n) = inr n

pub below_or_not : (a b : ℕ) → (a < b) ⊎ (b ≤ a)
below_or_not a b = go (dec_lt a b)
  where
    go : Dec (a < b) → (a < b) ⊎ (b ≤ a)
    go (yes p) = inl p
    go (no n) = inr (omega arith)

pub positive : (n : ℕ) → (n ≡ 0 → ⊥) → 1 ≤ n
positive n ne = ⊎_elim (λ l. omega arith) (λ g. g) (below_or_not n 1)

pub none_left : (n : ℕ) → n ≤ 0 → n ≡ 0
none_left n l = omega arith

-- what stands at j after a store at i
pub nth_set : (xs : List ℕ) (i a j : ℕ) → i < length xs → ((j ≡ i) × (nth (set xs i a) j ≡ a)) ⊎ ((j ≢ i) × (nth (set xs i a) j ≡ nth xs j))
nth_set xs i a j h = go (same_or_not j i)
  where
    go : (j ≡ i) ⊎ (j ≢ i) → ((j ≡ i) × (nth (set xs i a) j ≡ a)) ⊎ ((j ≢ i) × (nth (set xs i a) j ≡ nth xs j))
    go (inl e) = inl (e, ap (nth (set xs i a)) e ∙ get_or-set_same xs i a 0 h)
    go (inr n) = inr (n, get_or-set_other xs i j a 0 n)

-- ---- sums
pub sum_same : (n : ℕ) (f g : ℕ → ℕ) → ((v : ℕ) → v < n → f v ≡ g v) → sum_to n f ≡ sum_to n g
sum_same zero f g same = refl
sum_same (suc n) f g same = ap₂ (λ (a b : ℕ). a + b) (sum_same n f g (λ v l. same v (omega arith))) (same n (omega arith))

-- two sums that differ at r alone
pub sum_change : (n r : ℕ) (f g : ℕ → ℕ) → r < n → ((v : ℕ) → v ≢ r → f v ≡ g v) → sum_to n f + g r ≡ sum_to n g + f r
sum_change zero r f g l same = absurd (omega arith)
sum_change (suc n) r f g l same = go (same_or_not r n) (λ l. sum_change n r f g l same)
  where
    go : (r ≡ n) ⊎ (r ≢ n) → (r < n → sum_to n f + g r ≡ sum_to n g + f r) → sum_to n f + f n + g r ≡ sum_to n g + g n + f r
    go (inl e) more = omega (arith, sum_same n f g (λ v l. same v (λ q. omega arith)), ap f e, ap g e)
    go (inr ne) more = omega (arith, more (omega arith), same n (λ q. ne (sym q)))

pub sum_ones : (n : ℕ) (f : ℕ → ℕ) → ((v : ℕ) → v < n → f v ≡ 1) → sum_to n f ≡ n
sum_ones zero f one = refl
sum_ones (suc n) f one = omega (arith, sum_ones n f (λ v l. one v (omega arith)), one n (omega arith))

pub sum_none : (n : ℕ) (f : ℕ → ℕ) → ((v : ℕ) → v < n → f v ≡ 0) → sum_to n f ≡ 0
sum_none zero f none = refl
sum_none (suc n) f none = omega (arith, sum_none n f (λ v l. none v (omega arith)), none n (omega arith))

-- a term is not more than its sum
pub sum_term : (n r : ℕ) (f : ℕ → ℕ) → r < n → f r ≤ sum_to n f
sum_term zero r f l = absurd (omega arith)
sum_term (suc n) r f l = go (same_or_not r n) (λ l. sum_term n r f l)
  where
    go : (r ≡ n) ⊎ (r ≢ n) → (r < n → f r ≤ sum_to n f) → f r ≤ sum_to n f + f n
    go (inl e) more = omega (arith, ap f e)
    go (inr ne) more = omega (arith, more (omega arith))

pub sum_more : (k : ℕ) (f : ℕ → ℕ) → sum_to (k + 1) f ≡ sum_to k f + f k
sum_more k f = ap (λ j. sum_to j f) (add-one k)

-- the first terms are no more than all
pub sum_part : (k n : ℕ) (f : ℕ → ℕ) → k ≤ n → sum_to k f ≤ sum_to n f
sum_part k zero f l = let e : k ≡ 0 = omega arith in omega (arith, ap (λ j. sum_to j f) e)
sum_part k (suc n) f l = go (same_or_not k (suc n)) (λ l. sum_part k n f l)
  where
    go : (k ≡ suc n) ⊎ (k ≢ suc n) → (k ≤ n → sum_to k f ≤ sum_to n f) → sum_to k f ≤ sum_to n f + f n
    go (inl e) more = omega (arith, ap (λ j. sum_to j f) e)
    go (inr ne) more = omega (arith, more (omega arith))

-- of k terms that are no more than `most` each
pub sum_low : (most k : ℕ) (f : ℕ → ℕ) → ((v : ℕ) → v < k → f v ≤ most) → sum_to k f ≤ k * most
sum_low most zero f h = omega arith
sum_low most (suc k) f h = rw suc-mul (add-le-add (sum_low most k f (λ v l. h v (omega arith))) (h k (omega arith)))

-- a sum that is not 0 has a term that is not 0
pub sum_some : (n : ℕ) (f : ℕ → ℕ) → 1 ≤ sum_to n f → (v : ℕ) × (v < n) × (1 ≤ f v)
sum_some zero f l = absurd (omega arith)
sum_some (suc n) f l = go (below_or_not 0 (f n)) (λ l. sum_some n f l)
  where
    go : (0 < f n) ⊎ (f n ≤ 0) → (1 ≤ sum_to n f → (v : ℕ) × (v < n) × (1 ≤ f v)) → (v : ℕ) × (v < suc n) × (1 ≤ f v)
    go (inl p) more = (n, omega arith, p)
    go (inr z) more = let m = more (omega arith) in (m.0, omega arith, m.2)

pub share_same : (u v k : ℕ) → u ≡ v → share u v k ≡ k
share_same u v k e = ap (λ b. cond b k 0) (eq-eqb u v e)

pub share_other : (u v k : ℕ) → u ≢ v → share u v k ≡ 0
share_other u v k n = ap (λ b. cond b k 0) (ne_eqb u v n)

pub share_most : (u v k : ℕ) → share u v k ≤ k
share_most u v k = ⊎_elim (λ e. omega (arith, share_same u v k e)) (λ n. omega (arith, share_other u v k n)) (same_or_not u v)

-- ---- chains of edges
-- no edge is in a chain of no edges
pub chain_none : (N : ℕ) (key head next : List ℕ) → ((u : ℕ) → u < N → nth head u ≡ 0) → Chained N 0 key head next
chain_none N key head next z = record {
  head_below = λ u p. omega (arith, z u p);
  head_key = λ u p f e. absurd (omega (arith, z u p));
  head_all = λ u p e q. absurd (omega arith);
  next_below = λ f p. absurd (omega arith);
  next_key = λ f p. absurd (omega arith);
  next_all = λ f p. absurd (omega arith);
}

-- one edge more, put before the others of its node
module _ (N e : ℕ) (key head next : List ℕ) (C : Chained N e key head next) (node : nth key e < N) (hl : N ≤ length head) (nl : e < length next) where
  abbrev head' : List ℕ
  head' = set head (nth key e) (e + 1)

  abbrev next' : List ℕ
  next' = set next e (nth head (nth key e))

  on_head : (u : ℕ) → ((u ≡ nth key e) × (nth head' u ≡ e + 1)) ⊎ ((u ≢ nth key e) × (nth head' u ≡ nth head u))
  on_head u = nth_set head (nth key e) (e + 1) u (omega arith)

  on_next : (f : ℕ) → ((f ≡ e) × (nth next' f ≡ nth head (nth key e))) ⊎ ((f ≢ e) × (nth next' f ≡ nth next f))
  on_next f = nth_set next e (nth head (nth key e)) f nl

  head_below' : (u : ℕ) → u < N → nth head' u ≤ e + 1
  head_below' u p = ⊎_elim (λ s. omega arith) (λ o. omega (arith, C.head_below u p)) (on_head u)

  head_key' : (u : ℕ) → u < N → (f : ℕ) → nth head' u ≡ f + 1 → nth key f ≡ u
  head_key' u p f q =
      ⊎_elim (λ s. let fe : f ≡ e = omega arith in ap (nth key) fe ∙ sym s.0) (λ o. C.head_key u p f (sym o.1 ∙ q)) (on_head u)

  head_all' : (u : ℕ) → u < N → (d : ℕ) → d < e + 1 → nth key d ≡ u → d < nth head' u
  head_all' u p d l k = ⊎_elim
      (λ s. omega arith)
      (λ o. ⊎_elim (λ de. absurd (o.0 (sym k ∙ ap (nth key) de))) (λ ne. omega (arith, C.head_all u p d (omega arith) k)) (same_or_not d e))
      (on_head u)

  next_below' : (f : ℕ) → f < e + 1 → nth next' f ≤ f
  next_below' f p = ⊎_elim (λ s. omega (arith, C.head_below (nth key e) node)) (λ o. omega (arith, C.next_below f (omega arith))) (on_next f)

  next_key' : (f : ℕ) → f < e + 1 → (g : ℕ) → nth next' f ≡ g + 1 → nth key g ≡ nth key f
  next_key' f p g q = ⊎_elim
      (λ s. C.head_key (nth key e) node g (sym s.1 ∙ q) ∙ ap (nth key) (sym s.0))
      (λ o. C.next_key f (omega arith) g (sym o.1 ∙ q))
      (on_next f)

  next_all' : (f : ℕ) → f < e + 1 → (d : ℕ) → d < f → nth key d ≡ nth key f → d < nth next' f
  next_all' f p d l k = ⊎_elim
      (λ s. omega (arith, C.head_all (nth key e) node d (omega arith) (k ∙ ap (nth key) s.0)))
      (λ o. omega (arith, C.next_all f (omega arith) d l k))
      (on_next f)

  pub chain_more : Chained N (e + 1) key (set head (nth key e) (e + 1)) (set next e (nth head (nth key e)))
  chain_more = record {
    head_below = head_below';
    head_key = head_key';
    head_all = head_all';
    next_below = next_below';
    next_key = next_key';
    next_all = next_all';
  }
