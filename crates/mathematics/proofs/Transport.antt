-- Lowest-cost transport with marks in a network without capacities: all jobs are carried, every slack holds, every edge that carries something is tight.
-- One job at a time, as much as the tree's way leaves room for at each turn. Duality.antt reads covers off it.
use Prim.Native.Nat.{ℕ, zero, suc, ◌+◌, ◌-◌, ◌≤◌}
use native.Mathlib.Omega.{arith}
use native.Mathlib.Nat.{le_refl}
use mathlib.Core.Path.{◌≡◌, refl, ap, subst, ◌∙◌}
use mathlib.Core.List.{List, [], ◌∷◌}
use mathlib.Core.Bool.{Bool}
use Rattle.mathematics.specs.Price.{Prices, Ordered, Le}
use Rattle.mathematics.specs.Lists.{All}
use Rattle.mathematics.proofs.Basics.{all_weaken}
use Rattle.mathematics.proofs.Algebra.{sub_nil}
use Rattle.mathematics.proofs.Network.{Edge, Load, Job, IsNode, IsNetwork, Sound, edges_of, passing, leaving, entering, jobs_from, jobs_to, jobs_total, share, share_sum, share_nothing, Walk, stop, step, Way, WayWithin}
use Rattle.mathematics.proofs.Tree.{ways}
use Rattle.mathematics.proofs.Shift.{raise_all_sound}
use Rattle.mathematics.proofs.Grow.{Grown, grow}
use Rattle.mathematics.proofs.Push.{room_to}

module _ {E : Type 0} where
  walk_on : (edges : List (Edge E)) (u v w : ℕ) → Walk edges u v → Walk edges v w → Walk edges u w
  walk_on edges u v w stop b = b
  walk_on edges u v w (step e m a) b = step e m (walk_on edges e.to v w a b)

  -- from `before` to `after` k units went from s to t
  record Moves (before after : List (Load E)) (s t k : ℕ) : Type 0 where
    moved : (v : ℕ) → leaving after v + entering before v + share v t k ≡ entering after v + leaving before v + share v s k
    at_most : (v : ℕ) → leaving after v ≤ leaving before v + k

  moves_nothing : (loads : List (Load E)) (s t : ℕ) → Moves loads loads s t 0
  moves_nothing loads s t = record { moved = λ v. omega (arith, share_nothing v s, share_nothing v t); at_most = λ v. omega arith }

  moves_on : (a b c : List (Load E)) (s t j k n : ℕ) → j + k ≡ n → Moves a b s t j → Moves b c s t k → Moves a c s t n
  moves_on a b c s t j k n e f g =
      record {
        moved = λ v. omega (arith, f.moved v, g.moved v, share_sum v s j k, share_sum v t j k, ap (share v s) e, ap (share v t) e);
        at_most = λ v. omega (arith, f.at_most v, g.at_most v);
      }

  -- no edge carries anything
  abbrev unloaded : List (Edge E) → List (Load E)
  unloaded [] = []
  unloaded (e ∷ es) = record { edge = e; amount = 0 } ∷ unloaded es

  unloaded_edges : (es : List (Edge E)) → edges_of (unloaded es) ≡ es
  unloaded_edges [] = refl
  unloaded_edges (e ∷ es) = ap (λ more. e ∷ more) (unloaded_edges es)

  unloaded_passing : (side : Edge E → ℕ) (es : List (Edge E)) (u : ℕ) → passing side (unloaded es) u ≡ 0
  unloaded_passing side [] u = refl
  unloaded_passing side (e ∷ es) u = omega (arith, share_nothing u (side e), unloaded_passing side es u)

module _ (P : Prices) where
  -- sound loads on the edges, and their marks
  record Standing (live : ℕ → Bool) (N : ℕ) (edges : List (Edge P.El)) : Type 0 where
    loads : List (Load P.El)
    marks : ℕ → P.El
    same_edges : edges_of loads ≡ edges
    sound : All (Sound P live N marks) loads

  -- what follows on `before` when k units went from s to t
  record Carried (live : ℕ → Bool) (N : ℕ) (edges : List (Edge P.El)) (before : List (Load P.El)) (s t k : ℕ) : Type 0 where
    standing : Standing live N edges
    moves : Moves before standing.loads s t k

  -- the jobs are done
  record Served (live : ℕ → Bool) (N : ℕ) (edges : List (Edge P.El)) (jobs : List Job) : Type 0 where
    standing : Standing live N edges
    balance : (u : ℕ) → leaving standing.loads u + jobs_to jobs u ≡ entering standing.loads u + jobs_from jobs u
    at_most : (u : ℕ) → leaving standing.loads u ≤ jobs_total jobs

  -- what `transport` gives
  pub record Transport (live : ℕ → Bool) (N : ℕ) (edges : List (Edge P.El)) (jobs : List Job) : Type 0 where
    pub loads : List (Load P.El)
    pub marks : ℕ → P.El
    pub same_edges : edges_of loads ≡ edges
    pub sound : All (Sound P live N marks) loads
    pub balance : (u : ℕ) → leaving loads u + jobs_to jobs u ≡ entering loads u + jobs_from jobs u
    pub root_sends : leaving loads 0 ≤ jobs_total jobs
    pub root_mark : marks 0 ≡ P.nil
    pub ways_to : (u : ℕ) → IsNode live N u → WayWithin P edges marks N u

module _ (P : Prices) (L : Ordered P) (live : ℕ → Bool) (N : ℕ) where
  unloaded_sound : (edges : List (Edge P.El)) → All (λ e. IsNode live N e.from) edges → All (λ e. IsNode live N e.to) edges → All (λ e. Le P P.nil e.cost) edges →
      All (Sound P live N (λ u. P.nil)) (unloaded edges)
  unloaded_sound [] fs ts cs = tt
  unloaded_sound (e ∷ es) fs ts cs = (
    record {
      from_node = fs.0;
      to_node = ts.0;
      slack_holds = rw (sub_nil P L (P.add e.cost P.nil) ∙ L.add_nil e.cost) cs.0;
      tight = λ h. absurd (omega arith);
    },
    unloaded_sound es fs.1 ts.1 cs.1,
  )

  grown_ways : (edges : List (Edge P.El)) (loads : List (Load P.El)) (p : ℕ → P.El) → edges_of loads ≡ edges → (g : Grown P live N loads p 0) (u : ℕ) → IsNode live N u →
      WayWithin P edges g.marks N u
  grown_ways edges loads p e g u n =
      let w = ways P L loads g.marks g.nodes g.tree u (g.all_nodes u n.0 n.1) in
      (w.0, omega (arith, w.1, g.few), subst (λ es. Way P es g.marks u w.0) e w.2)

module _ (P : Prices) (L : Ordered P) (live : ℕ → Bool) (N : ℕ) (edges : List (Edge P.El)) (net : IsNetwork P live N edges) where
  walks_from : (loads : List (Load P.El)) → edges_of loads ≡ edges → (s : ℕ) → IsNode live N s → (w : ℕ) → IsNode live N w → Walk (edges_of loads) s w
  walks_from loads e s n w m = rw e (walk_on edges s 0 w (net.to_root s n) (net.from_root w m))

  start : Standing P live N edges
  start =
      record {
        loads = unloaded edges;
        marks = λ u. P.nil;
        same_edges = unloaded_edges edges;
        sound = unloaded_sound P L live N edges net.from_nodes net.to_nodes net.costs_hold;
      }

  -- one turn: some of the n units
  turn : (st : Standing P live N edges) (s t n : ℕ) → IsNode live N s → IsNode live N t → 1 ≤ n → (k : ℕ) × (1 ≤ k) × (k ≤ n) × Carried P live N edges st.loads s t k
  turn st s t n sn tn some =
      let g = grow P L live N st.loads st.marks s sn (walks_from st.loads st.same_edges s sn) st.sound in
      let r = room_to P live N g.marks st.loads s n some g.sound g.nodes g.tree t (g.all_nodes t tn.0 tn.1) in
      let d = r.push r.room (le_refl r.room) in (
        r.room,
        r.some_room,
        r.room_below,
        record {
          standing = record { loads = d.after; marks = g.marks; same_edges = d.same_edges ∙ st.same_edges; sound = d.sound };
          moves = record { moved = d.moved; at_most = d.at_most };
        },
      )

  carried_on : (st : Standing P live N edges) (s t n : ℕ) (x : (k : ℕ) × (1 ≤ k) × (k ≤ n) × Carried P live N edges st.loads s t k) →
      Carried P live N edges x.3.standing.loads s t (n - x.0) → Carried P live N edges st.loads s t n
  carried_on st s t n x c =
      record {
        standing = c.standing;
        moves = moves_on st.loads x.3.standing.loads c.standing.loads s t x.0 (n - x.0) n (omega (arith, x.2)) x.3.moves c.moves;
      }

  -- all n units: each turn carries one at least
  carry : (turns : ℕ) (st : Standing P live N edges) (s t n : ℕ) → n ≤ turns → IsNode live N s → IsNode live N t → Carried P live N edges st.loads s t n
  carry zero st s t zero h sn tn = record { standing = st; moves = moves_nothing st.loads s t }
  carry zero st s t (suc n) h sn tn = absurd (omega arith)
  carry (suc turns) st s t zero h sn tn = record { standing = st; moves = moves_nothing st.loads s t }
  carry (suc turns) st s t (suc n) h sn tn =
      let x = turn st s t (suc n) sn tn (omega arith) in
      carried_on st s t (suc n) x (carry turns x.3.standing s t (suc n - x.0) (omega (arith, x.1)) sn tn)

  serve_job : (j : Job) (jobs : List Job) → IsNode live N j.source → IsNode live N j.target → Served P live N edges jobs → Served P live N edges (j ∷ jobs)
  serve_job j jobs sn tn r =
      let c = carry j.amount r.standing j.source j.target j.amount (le_refl j.amount) sn tn in
      record {
        standing = c.standing;
        balance = λ u. omega (arith, r.balance u, c.moves.moved u);
        at_most = λ u. omega (arith, r.at_most u, c.moves.at_most u);
      }

  serve_none : Served P live N edges []
  unfolding start
  serve_none =
      record {
        standing = start;
        balance = λ u. omega (arith, unloaded_passing (λ (e : Edge P.El). e.from) edges u, unloaded_passing (λ (e : Edge P.El). e.to) edges u);
        at_most = λ u. omega (arith, unloaded_passing (λ (e : Edge P.El). e.from) edges u);
      }

  serve : (jobs : List Job) → All (λ j. IsNode live N j.source) jobs → All (λ j. IsNode live N j.target) jobs → Served P live N edges jobs
  serve [] ss ts = serve_none
  serve (j ∷ jobs) ss ts = serve_job j jobs ss.0 ts.0 (serve jobs ss.1 ts.1)

  -- All jobs can be carried with marks under which no slack is below nothing and every edge that carries something is tight; marks are signed sums
  -- of fewer than N edge costs along a tree from the root.
  pub transport : (jobs : List Job) → All (λ j. IsNode live N j.source) jobs → All (λ j. IsNode live N j.target) jobs → Transport P live N edges jobs
  transport jobs ss ts =
      let r = serve jobs ss ts in
      let loads = r.standing.loads in
      let p = r.standing.marks in
      let d = P.neg (p 0) in
      let h = all_weaken (Sound P live N p) (Sound P live N (λ u. P.add (p u) d)) loads (λ x k. raise_all_sound P L live N p d x k) r.standing.sound in
      let g = grow P L live N loads (λ u. P.add (p u) d) 0 net.root_node (walks_from loads r.standing.same_edges 0 net.root_node) h in
      record {
        loads = loads;
        marks = g.marks;
        same_edges = r.standing.same_edges;
        sound = g.sound;
        balance = r.balance;
        root_sends = r.at_most 0;
        root_mark = g.kept ∙ L.add_neg (p 0);
        ways_to = λ u n. grown_ways P L live N edges loads (λ u. P.add (p u) d) r.standing.same_edges g u n;
      }
