-- Taking walks off until nothing is left: each walk keeps what Peeling says, and once the root sends nothing no edge carries anything, so the
-- collected paths carry all loads.
use Rattle.std.proofs.Common.{ℕ, zero, suc, ◌+◌, ◌*◌, ◌≤◌, ◌<◌, min, arith, add-mul, mul-one, mul-zero, zero-mul, mul-suc, add-one, ◌≡◌, refl, sym, ap, subst, ◌∙◌, List, [], ◌∷◌, ◌++◌, map, ◌⊎◌, inl, inr, ⊎_elim, T, length, get_or}
use Rattle.mathematics.specs.Lists.{All, holds, some_holds}
use Rattle.mathematics.specs.Cover.{Item, Weighted, through, total, total_weight, paths}
use Rattle.mathematics.specs.Range.{OneOf}
use Rattle.mathematics.proofs.Basics.{all_append, all_left, all_right, all_weaken, all_among, among_map, or_cases, or_l, or_r}
use Rattle.mathematics.proofs.Parts.{held_some}
use Rattle.mathematics.proofs.Loads.{sum_over}
use Rattle.mathematics.proofs.Links.{Link, passes, opens, path_of, reading_within, IsWhole}
use Rattle.forms.specs.Bytes.{tabulate}
use Rattle.forms.specs.GraphForm.{vertex_count}
use Rattle.forms.specs.GraphOf.{graph_of}
use Rattle.forms.specs.GraphReads.{Reads}
use Rattle.forms.specs.AnswerFaults.{list_before}
use Rattle.forms.proofs.GraphFacts.{length_tabulate, graph_well_formed}
use Rattle.network.specs.Network.{nth, sum_to, share, leaving, entering, most_edges, most_moved}
use Rattle.paths.specs.declared.collect.Paths.{Paths}
use Rattle.paths.specs.Slots.{prepared_of, all_slots, opening_slot, closing_slot, reading_slot, link_at}
use Rattle.paths.specs.Peel.{path_at, collected_at, collected, Ascend, PathTable, Inserted, fresh, added, GoesRound, worth_to, worth_of, Circles, Winds, Peeled, loaded_in, opens_at, PeeledOne, Peeling}
use Rattle.network.proofs.NetworkLaws.{same_or_not, below_or_not, sum_same, sum_none, sum_term, share_other}
use Rattle.paths.proofs.PeelLaws.{share_here, only, taken_at, shares_nothing, shares_part}
use Rattle.paths.proofs.SlotKinds.{at_reading}
use Rattle.paths.proofs.PeelLawsLinks.{circles, whole}

-- a weighted path more
total_append : (i : Item) (a b : List Weighted) → total i (a ++ b) ≡ total i a + total i b
total_append i [] b = omega arith
total_append i (x ∷ a) b = omega (arith, total_append i a b)

weight_append : (a b : List Weighted) → total_weight (a ++ b) ≡ total_weight a + total_weight b
weight_append [] b = omega arith
weight_append (x ∷ a) b = omega (arith, weight_append a b)

more_held : (a b : List Weighted) (w : Weighted) (r : List ℕ) → T (some_holds (paths (a ++ b)) r) → T (some_holds (paths (a ++ (w ∷ b))) r)
more_held [] b w r t = or_r (holds w.path r) _ t
more_held (x ∷ a) b w r t =
    ⊎_elim (λ h. or_l (holds x.path r) _ h) (λ h. or_r (holds x.path r) _ (more_held a b w r h)) (or_cases (holds x.path r) _ t)

same_held : (a b : List Weighted) (p r : List ℕ) (m n : ℕ) → T (some_holds (paths (a ++ (record { weight = m; path = p } ∷ b))) r) →
    T (some_holds (paths (a ++ (record { weight = n; path = p } ∷ b))) r)
same_held [] b p r m n t = t
same_held (x ∷ a) b p r m n t =
    ⊎_elim (λ h. or_l (holds x.path r) _ h) (λ h. or_r (holds x.path r) _ (same_held a b p r m n h)) (or_cases (holds x.path r) _ t)

path_among : (a b : List Weighted) (w : Weighted) → OneOf (paths (a ++ (w ∷ b))) w.path
path_among [] b w = inl refl
path_among (x ∷ a) b w = inr (path_among a b w)

module _ (w : Weighted) (W after : List Weighted) where
  inserted_total : (i : Item) → Inserted w W after → total i after ≡ total i W + w.weight * through i w.path
  inserted_total i (fresh a b p q) = rw (p, q, total_append i a b, total_append i a (w ∷ b)) (omega arith)
  inserted_total i (added a b n p q) = rw (
    p,
    q,
    total_append i a (record { weight = n; path = w.path } ∷ b),
    total_append i a (record { weight = n + w.weight; path = w.path } ∷ b),
  ) (omega (arith, add-mul n w.weight (through i w.path)))

  inserted_weight : Inserted w W after → total_weight after ≡ total_weight W + w.weight
  inserted_weight (fresh a b p q) = rw (p, q, weight_append a b, weight_append a (w ∷ b)) (omega arith)
  inserted_weight (added a b n p q) = rw (
    p,
    q,
    weight_append a (record { weight = n; path = w.path } ∷ b),
    weight_append a (record { weight = n + w.weight; path = w.path } ∷ b),
  ) (omega arith)

  inserted_all : (P : Weighted → Type 0) → Inserted w W after → P w →
      ((n : ℕ) → P (record { weight = n; path = w.path }) → P (record { weight = n + w.weight; path = w.path })) → All P W → All P after
  inserted_all P (fresh a b p q) h more k =
      rw q (let j = subst (All P) p k in all_append P a (w ∷ b) (all_left P a b j) (h, all_right P a b j))
  inserted_all P (added a b n p q) h more k =
      rw q
      (let j = subst (All P) p k in
      let c = all_right P a (record { weight = n; path = w.path } ∷ b) j in
      all_append P a _ (all_left P a _ j) (more n c.0, c.1))

  inserted_held : (r : List ℕ) → Inserted w W after → T (some_holds (paths W) r) → T (some_holds (paths after) r)
  inserted_held r (fresh a b p q) t = rw q (more_held a b w r (subst (λ (V' : List Weighted). T (some_holds (paths V') r)) p t))
  inserted_held r (added a b n p q) t =
      rw q (same_held a b w.path r n (n + w.weight) (subst (λ (V' : List Weighted). T (some_holds (paths V') r)) p t))

  inserted_among : Inserted w W after → OneOf (paths after) w.path
  inserted_among (fresh a b p q) = rw q (path_among a b w)
  inserted_among (added a b n p q) = rw q (path_among a b (record { weight = n + w.weight; path = w.path }))

-- loads on the edges of a node, as a worth
share_times : (u v k : ℕ) → share u v k ≡ k * share u v 1
share_times u v k =
    ⊎_elim
    (λ q. subst (λ (x : ℕ). share u x k ≡ k * share u x 1) q (share_here u k ∙ sym (ap (λ (m : ℕ). k * m) (share_here u 1) ∙ mul-one k)))
    (λ n. share_other u v k n ∙ sym (ap (λ (m : ℕ). k * m) (share_other u v 1 n) ∙ mul-zero k))
    (same_or_not u v)

shares_worth : (E : ℕ) (key load : List ℕ) (u : ℕ) → sum_to E (λ e. share u (nth key e) (nth load e)) ≡ worth_to E load (λ e. share u (nth key e) 1)
shares_worth E key load u = sum_same E _ _ (λ e b. share_times u (nth key e) (nth load e))

-- a walk from the root back to it enters each node as often as it leaves it
winds_balance : (from to : List ℕ) (x u : ℕ) (ws : List ℕ) → Winds from to u ws →
    sum_over (λ e. share x (nth from e) 1) ws + share x 0 1 ≡ sum_over (λ e. share x (nth to e) 1) ws + share x u 1
winds_balance from to x u [] w = absurd w
winds_balance from to x u (e ∷ es) (f, inl (z, q)) = rw (q, f, z) (omega arith)
winds_balance from to x u (e ∷ es) (f, inr (l, w)) = rw f (omega (arith, winds_balance from to x (nth to e) es w))

-- a sum that is nowhere more, and less at one place
sum_less : (E : ℕ) (f g : ℕ → ℕ) (e : ℕ) → e < E → f e < g e → ((j : ℕ) → j < E → f j ≤ g j) → sum_to E f < sum_to E g
sum_less zero f g e b l h = absurd (omega arith)
sum_less (suc E) f g e b l h =
    ⊎_elim
    (λ q. omega (arith, subst (λ (x : ℕ). f x < g x) q l, sum_most E f g (λ j c. h j (omega arith))))
    (λ n. omega (arith, sum_less E f g e (omega arith) l (λ j c. h j (omega arith)), h E (omega arith))) (same_or_not e E)
  where
    sum_most : (E : ℕ) (f g : ℕ → ℕ) → ((j : ℕ) → j < E → f j ≤ g j) → sum_to E f ≤ sum_to E g
    sum_most zero f g h = omega arith
    sum_most (suc E) f g h = omega (arith, sum_most E f g (λ j b. h j (omega arith)), h E (omega arith))

loaded_few : (E : ℕ) (load : List ℕ) → loaded_in E load ≤ E
loaded_few zero load = omega arith
loaded_few (suc E) load = omega (arith, loaded_few E load)

-- an edge is on the walk, or it is not
on_walk : (e : ℕ) (ws : List ℕ) → OneOf ws e ⊎ (sum_over (only e) ws ≡ 0)
on_walk e [] = inr refl
on_walk e (w ∷ ws) =
    ⊎_elim (λ q. inl (inl q))
    (λ n. ⊎_elim (λ m. inl (inr m)) (λ z. inr (omega (arith, z, share_other e w 1 n))) (on_walk e ws)) (same_or_not e w)

once_or_more : (e : ℕ) (ws : List ℕ) → OneOf ws e → 1 ≤ sum_over (only e) ws
once_or_more e [] m = absurd m
once_or_more e (w ∷ ws) (inl q) = omega (arith, subst (λ (x : ℕ). share e x 1 ≡ 1) q (share_here e 1))
once_or_more e (w ∷ ws) (inr m) = omega (arith, once_or_more e ws m)

pub sum_map : {A B : Type 0} (g : B → ℕ) (f : A → B) (xs : List A) → sum_over g (map f xs) ≡ sum_over (λ x. g (f x)) xs
sum_map g f [] = refl
sum_map g f (x ∷ xs) = omega (arith, sum_map g f xs)

-- a number times one or more is no less
times_more : (a n : ℕ) → 1 ≤ n → a ≤ a * n
times_more a zero h = absurd (omega arith)
times_more a (suc n) h = rw (mul-suc a n) (omega arith)

module _ (s : List ℕ) (reads : Reads s) (from to first load : List ℕ) (before : Paths) (peeling : Peeling s from to first load before)
    (after : List ℕ) (table : Paths) (one : PeeledOne s from to load after before table) where
  abbrev links : List Link
  links = map (link_at s) one.ws

  abbrev step : Weighted
  step = record { weight = one.amount; path = path_of links }

  lost : (e : ℕ) → e < all_slots s → nth load e ≡ nth after e + one.amount * sum_over (only e) one.ws
  lost = taken_at (all_slots s) load one.ws one.amount after one.taken

  is_whole : IsWhole (graph_of s) (λ v. 1 ≤ nth first (opening_slot s v)) (λ v. 1 ≤ nth first (closing_slot s v)) (graph_well_formed s reads).rises links
  is_whole =
      whole s reads from to load first peeling.goes peeling.below one.ws one.winds
      (all_weaken _ _ one.ws (λ e h. (h.0, omega (arith, one.some))) one.carries)

  -- a walk keeps the balance
  leaves_less : (key : List ℕ) (u : ℕ) →
      sum_to (all_slots s) (λ e. share u (nth key e) (nth load e)) ≡
      sum_to (all_slots s) (λ e. share u (nth key e) (nth after e)) + one.amount * sum_over (λ e. share u (nth key e) 1) one.ws
  leaves_less key u =
      omega (
        arith,
        shares_worth (all_slots s) key load u,
        shares_worth (all_slots s) key after u,
        one.taken.worths (λ e. share u (nth key e) 1),
      )

  still_balanced : (u : ℕ) → u < 2 * vertex_count s + 1 → leaving from after (all_slots s) u ≡ entering to after (all_slots s) u
  unfolding leaving entering
  still_balanced u b =
      let same : sum_over (λ e. share u (nth from e) 1) one.ws ≡ sum_over (λ e. share u (nth to e) 1) one.ws =
      omega (arith, winds_balance from to u 0 one.ws one.winds) in
      omega (arith, peeling.goes.balance u b, leaves_less from u, leaves_less to u, ap (λ (n : ℕ). one.amount * n) same)

  still_goes : GoesRound s (2 * vertex_count s + 1) from to after
  still_goes =
      record {
        from_right = peeling.goes.from_right;
        to_right = peeling.goes.to_right;
        links_in_use = λ e b l. peeling.goes.links_in_use e b (omega (arith, lost e b));
        balance = still_balanced;
      }

  -- the walk's worth is that of its path
  worth_less : (g : Link → ℕ) (n : ℕ) → sum_over g links ≡ n →
      worth_of s load (λ e. g (link_at s e)) ≡ worth_of s after (λ e. g (link_at s e)) + one.amount * n
  worth_less g n h =
      one.taken.worths (λ e. g (link_at s e)) ∙
      ap (λ (m : ℕ). worth_of s after (λ e. g (link_at s e)) + one.amount * m) (sym (sum_map g (link_at s) one.ws) ∙ h)

  copies_less : worth_of s load (opens_at s) ≡ worth_of s after (opens_at s) + one.amount
  copies_less = worth_less opens 1 is_whole.opened ∙ ap (λ (m : ℕ). worth_of s after (opens_at s) + m) (mul-one one.amount)

  -- one edge is emptied
  pub loaded_less : loaded_in (all_slots s) after < loaded_in (all_slots s) load
  loaded_less =
      let (e, m, q) = one.empties in
      let c = all_among _ one.ws e one.carries m in
      sum_less (all_slots s) (λ e. min 1 (nth after e)) (λ e. min 1 (nth load e)) e c.0
      (omega (arith, one.some, lost e c.0, times_more one.amount (sum_over (only e) one.ws) (once_or_more e one.ws m)))
      (λ j b. omega (arith, lost j b))

  -- a read is still to be placed, or some path holds it
  still_held : (k : ℕ) → k < length (prepared_of s) →
      (1 ≤ nth after (reading_slot s k)) ⊎ T (some_holds (paths (collected table)) (get_or (prepared_of s) k []))
  still_held k b = ⊎_elim loaded (λ t. inr (inserted_held step _ _ (get_or (prepared_of s) k []) one.kept.inserted t)) (peeling.held k b)
    where
      loaded : 1 ≤ nth load (reading_slot s k) →
          (1 ≤ nth after (reading_slot s k)) ⊎ T (some_holds (paths (collected table)) (get_or (prepared_of s) k []))
      loaded l =
          ⊎_elim
          (λ m. inr
          (held_some (paths (collected table)) (get_or (prepared_of s) k []) (path_of links) (inserted_among step _ _ one.kept.inserted)
          (reading_within (get_or (prepared_of s) k []) links
          (subst (OneOf links) (at_reading s k) (among_map (link_at s) (reading_slot s k) one.ws m)))))
          (λ z. inl (omega (arith, lost (reading_slot s k) (omega arith), ap (λ (n : ℕ). one.amount * n) z ∙ mul-zero one.amount)))
          (on_walk (reading_slot s k) one.ws)

  -- taking off one walk keeps what is known
  pub peel_step : Peeling s from to first after table
  peel_step =
      record {
        long = one.taken.long;
        goes = still_goes;
        below = λ e b. omega (arith, peeling.below e b, lost e b);
        are_paths = inserted_all step _ _ _ one.kept.inserted is_whole.is_a_path (λ n h. h) peeling.are_paths;
        weights = inserted_all step _ _ _ one.kept.inserted one.some (λ n h. omega arith) peeling.weights;
        at_ends = inserted_all step _ _ _ one.kept.inserted is_whole.at_ends (λ n h. h) peeling.at_ends;
        totals = λ i.
            omega (arith, inserted_total step _ _ i one.kept.inserted, peeling.totals i, worth_less (passes i) (through i (path_of links)) (is_whole.items i));
        copies = omega (arith, inserted_weight step _ _ one.kept.inserted, peeling.copies, copies_less);
        held = still_held;
        few = omega (arith, one.kept.few, peeling.few, loaded_less);
      }

-- Once the root sends nothing, no edge carries anything.
module _ (N E : ℕ) (from to load : List ℕ) (C : Circles N E from to load) (root : (e : ℕ) → e < E → nth from e ≡ 0 → nth load e ≡ 0) where
  none_into : (u : ℕ) → 1 ≤ u → ((e : ℕ) → e < E → nth from e < u → nth load e ≡ 0) → (j : ℕ) → j < E → nth to j ≡ u → nth load j ≡ 0
  none_into u p before j b t =
      ⊎_elim
      (λ l. ⊎_elim (λ h. absurd (omega arith)) (λ h. before j b (omega arith)) (C.rises j b l))
      (λ z. omega arith) (below_or_not 0 (nth load j))

  none_out_of : (u : ℕ) → u < N → ((e : ℕ) → e < E → nth from e < u → nth load e ≡ 0) → (e : ℕ) → e < E → nth from e ≡ u → nth load e ≡ 0
  unfolding leaving entering
  none_out_of zero n before e b f = root e b f
  none_out_of (suc u) n before e b f =
      omega (arith, C.balance (suc u) n, shares_part E from load (suc u) e b f, shares_nothing E to load (suc u) (none_into (suc u) (omega arith) before))

  none_below : (u : ℕ) → u ≤ N → (e : ℕ) → e < E → nth from e < u → nth load e ≡ 0
  none_below zero n e b l = absurd (omega arith)
  none_below (suc u) n e b l =
      ⊎_elim (none_below u (omega arith) e b)
      (λ h. none_out_of u n (none_below u (omega arith)) e b (omega arith)) (below_or_not (nth from e) u)

  none_left : (e : ℕ) → e < E → nth load e ≡ 0
  none_left e b = ⊎_elim (λ l. none_below N (omega arith) e b (C.from_node e b l)) (λ z. omega arith) (below_or_not 0 (nth load e))

  nothing_left : (g : ℕ → ℕ) → worth_to E load g ≡ 0
  nothing_left g = sum_none E _ (λ e b. ap (λ (n : ℕ). n * g e) (none_left e b) ∙ zero-mul (g e))

-- paths that ascend row by row
ascend_rows : (f : ℕ → Weighted) (n first : ℕ) → ((k : ℕ) → first ≤ k → k + 1 < first + n → T (list_before (f k).path (f (k + 1)).path)) → Ascend (tabulate f n first)
ascend_rows f zero first h = tt
ascend_rows f (suc zero) first h = tt
ascend_rows f (suc (suc n)) first h = (
  subst (λ (k : ℕ). T (list_before (f first).path (f k).path)) (add-one first) (h first (omega arith) (omega arith)),
  ascend_rows f (suc n) (suc first) (λ k a b. h k (omega arith) (omega arith)),
)

table_ascends : (table : Paths) → PathTable table → Ascend (collected table)
unfolding collected
table_ascends table t = ascend_rows (collected_at table) table.count 0 (λ k a b. t.ascends k (omega arith))

-- Once the root sends nothing, the collected paths carry all loads.
pub peel_end : (s : List ℕ) → Reads s → (from to first load : List ℕ) (table : Paths) → PathTable table → Peeling s from to first load table →
    ((e : ℕ) → e < all_slots s → nth from e ≡ 0 → nth load e ≡ 0) → Peeled s first (collected table)
unfolding collected
peel_end s reads from to first load table right p root =
    let c = circles s reads from to load p.goes in
    record {
      are_paths = p.are_paths;
      weights = p.weights;
      ascend = table_ascends table right;
      totals = λ i. omega (arith, p.totals i, nothing_left _ _ from to load c root (λ e. passes i (link_at s e)));
      copies = omega (arith, p.copies, nothing_left _ _ from to load c root (opens_at s));
      at_ends = p.at_ends;
      held = λ r b. ⊎_elim (λ l. absurd (omega (arith, none_left _ _ from to load c root (reading_slot s r) (omega arith)))) (λ t. t) (p.held r b);
      few = omega (arith, p.few, length_tabulate (collected_at table) table.count 0);
    }

none_collected : (table : Paths) → table.count ≡ 0 → collected table ≡ []
unfolding collected
none_collected table z = ap (λ (n : ℕ). tabulate (collected_at table) n 0) z

-- nothing is taken off yet
pub peel_start : (s : List ℕ) (from to load : List ℕ) (table : Paths) → table.count ≡ 0 → length load ≡ most_edges →
    GoesRound s (2 * vertex_count s + 1) from to load → ((r : ℕ) → r < length (prepared_of s) → 1 ≤ nth load (reading_slot s r)) →
    Peeling s from to load load table
peel_start s from to load table z l g h =
    let none = none_collected table z in
    record {
      long = l;
      goes = g;
      below = λ e b. omega arith;
      are_paths = rw none tt;
      weights = rw none tt;
      at_ends = rw none tt;
      totals = λ i. rw none (omega arith);
      copies = rw none (omega arith);
      held = λ r b. inl (h r b);
      few = omega (arith, loaded_few (all_slots s) load);
    }

-- one weight is no more than all
weight_part : (table : Paths) (n first k : ℕ) → first ≤ k → k < first + n → (path_at table k).weight ≤ total_weight (tabulate (collected_at table) n first)
weight_part table zero first k a b = absurd (omega arith)
weight_part table (suc n) first k a b =
    ⊎_elim (λ q. rw q (omega arith)) (λ m. omega (arith, weight_part table n (suc first) k (omega arith) (omega arith))) (same_or_not k first)

-- there is room for one path more, and for its weight
pub step_room : (s from to first load : List ℕ) (table : Paths) (e : ℕ) → all_slots s ≤ most_edges → worth_of s first (opens_at s) ≤ most_moved →
    Peeling s from to first load table → e < all_slots s → 1 ≤ nth load e →
    (table.count < most_edges) × ((k : ℕ) → k < table.count → (path_at table k).weight + worth_of s load (opens_at s) ≤ most_moved)
unfolding collected
step_room s from to first load table e small low p b l = (
  omega (arith, p.few, sum_term (all_slots s) e (λ j. min 1 (nth load j)) b),
  λ k h. omega (arith, p.copies, weight_part table table.count 0 k (omega arith) (omega arith)),
)

-- between two walks: what is taken off so far stands in the table
pub record Between (s : List ℕ) (from to first load : List ℕ) (paths' : Paths) : Type 0 where
  pub peeling : Peeling s from to first load paths'
  pub table : PathTable paths'

pub between_start : (s from to load : List ℕ) (paths' : Paths) → paths'.count ≡ 0 → length paths'.rows ≡ most_edges → length load ≡ most_edges →
    GoesRound s (2 * vertex_count s + 1) from to load → ((r : ℕ) → r < length (prepared_of s) → 1 ≤ nth load (reading_slot s r)) →
    Between s from to load load paths'
between_start s from to load paths' z tall l g h =
    record {
      peeling = peel_start s from to load paths' z l g h;
      table =
          record {
            counted = omega arith;
            tall = tall;
            wide = λ k b. absurd (omega arith);
            fit = λ k b. absurd (omega arith);
            ascends = λ k b. absurd (omega arith);
          };
    }
