-- A network, as its arrays hold it: nodes 0..N-1, node 0 the root; edges 0..E-1, each with the node it comes from, the node
-- it goes to and a cost; on each edge a load; on each node a mark. `chain` and `carry_all` promise in these words; no promise of the
-- builder's call does.
use Rattle.std.specs.Prelude.{ℕ, zero, suc, ◌+◌, ◌*◌, ◌^◌, ◌≤◌, ◌<◌, min, ◌≡◌, List, Bool, false, cond, ◌⊎◌, ◌≢◌, T, eqb, length, get_or, set}
use Rattle.pivot.specs.Sizes as sizes

-- ---- sizes: `most..` is what is asked of a network and how long its arrays are; what follows from these is written so

-- nodes, and edges: as many as the guess takes
abbrev pub most_nodes : ℕ
most_nodes = sizes.most_nodes

abbrev pub most_edges : ℕ
most_edges = sizes.most_edges

-- what there is to move in all
abbrev pub most_moved : ℕ
most_moved = 320_000_016

-- what an edge costs
abbrev pub most_cost : ℕ
most_cost = 1_000_000_000

-- A way between the root and a live node has one edge of any cost, and besides it so many edges that cost no more than this.
abbrev pub most_steps : ℕ
most_steps = 63

abbrev pub step_cost : ℕ
step_cost = 1_000_000

-- so such a way costs no more than this
abbrev pub span : ℕ
span = most_cost + most_steps * step_cost

-- a mark is held with this added
abbrev pub base : ℕ
base = 2_000_000_000

-- no mark is higher: `MarksNear`
abbrev pub highest : ℕ
highest = base + span

-- no slack is more: an edge from the highest mark to the lowest
abbrev pub widest : ℕ
widest = most_cost + 2 * span

-- no node that is reached is further: a slack for each node
abbrev pub farthest : ℕ
farthest = most_nodes * widest

-- a node that is not reached yet has this distance: 2 to the power 60, which is more
abbrev pub far : ℕ
far = 1_152_921_504_606_846_976

-- ---- lists and sums

-- what stands at a place
abbrev pub nth : List ℕ → ℕ → ℕ
nth xs k = get_or xs k 0

abbrev pub live_at : List Bool → ℕ → Bool
live_at live u = get_or live u false

-- f 0 + .. + f (k - 1)
abbrev pub sum_to : ℕ → (ℕ → ℕ) → ℕ
sum_to zero f = 0
sum_to (suc k) f = sum_to k f + f k

-- k where u is v, and else nothing
abbrev pub share : ℕ → ℕ → ℕ → ℕ
share u v k = cond (eqb u v) k 0

-- the loads on the edges that leave u, that enter u
unfoldable pub leaving : List ℕ → List ℕ → ℕ → ℕ → ℕ
leaving from load E u = sum_to E (λ e. share u (nth from e) (nth load e))

unfoldable pub entering : List ℕ → List ℕ → ℕ → ℕ → ℕ
entering to load E u = sum_to E (λ e. share u (nth to e) (nth load e))

-- a way of edges from u to w whose costs total c
pub data Way (E : ℕ) (from to cost : List ℕ) : ℕ → ℕ → ℕ → Type 0 where
  stop : {u : ℕ} → Way E from to cost u u 0
  step : {w c : ℕ} (e : ℕ) → e < E → Way E from to cost (nth to e) w c → Way E from to cost (nth from e) w (nth cost e + c)

-- ---- what is asked, and what is left

-- The network's shape: ends are live nodes (an edge that is not in use stands as a loop of cost 0 at the root), costs are in range, and each live node is reached from the root and reaches it at no more than `span`.
pub record Shape (N E : ℕ) (live : List Bool) (from to cost : List ℕ) : Type 0 where
  pub few_nodes : N ≤ most_nodes
  pub few_edges : E ≤ most_edges
  pub root_live : T (live_at live 0)
  pub some_node : 1 ≤ N
  pub from_live : (e : ℕ) → e < E → (nth from e < N) × T (live_at live (nth from e))
  pub to_live : (e : ℕ) → e < E → (nth to e < N) × T (live_at live (nth to e))
  pub cheap : (e : ℕ) → e < E → nth cost e ≤ most_cost
  pub from_root : (u : ℕ) → u < N → T (live_at live u) → (c : ℕ) × (c ≤ span) × Way E from to cost 0 u c
  pub to_root : (u : ℕ) → u < N → T (live_at live u) → (c : ℕ) × (c ≤ span) × Way E from to cost u 0 c

-- The edges of each node as a chain, from the last edge down: `head` of node u and `next` of edge f give the number of the next edge plus 1, or 0 at
-- the end. `key` is `from` or `to`: the chain of u holds exactly the edges whose key is u.
pub record Chained (N E : ℕ) (key head next : List ℕ) : Type 0 where
  pub head_below : (u : ℕ) → u < N → nth head u ≤ E
  pub head_key : (u : ℕ) → u < N → (f : ℕ) → nth head u ≡ f + 1 → nth key f ≡ u
  pub head_all : (u : ℕ) → u < N → (e : ℕ) → e < E → nth key e ≡ u → e < nth head u
  pub next_below : (f : ℕ) → f < E → nth next f ≤ f
  pub next_key : (f : ℕ) → f < E → (g : ℕ) → nth next f ≡ g + 1 → nth key g ≡ nth key f
  pub next_all : (f : ℕ) → f < E → (e : ℕ) → e < f → nth key e ≡ nth key f → e < nth next f

-- what building a chain asks: the keys are nodes
pub record Keys (N E : ℕ) (key : List ℕ) : Type 0 where
  pub few_nodes : N ≤ most_nodes
  pub few_edges : E ≤ most_edges
  pub key_node : (e : ℕ) → e < E → nth key e < N

-- every slack is at least 0: cost plus the mark an edge comes from is not below the mark it goes to
abbrev pub SlacksHold : ℕ → List ℕ → List ℕ → List ℕ → List ℕ → Type 0
SlacksHold E from to cost mark = (e : ℕ) → e < E → nth mark (nth to e) ≤ nth cost e + nth mark (nth from e)

-- an edge that carries a load has slack 0
abbrev pub LoadsTight : ℕ → List ℕ → List ℕ → List ℕ → List ℕ → List ℕ → Type 0
LoadsTight E from to cost mark load =
    (e : ℕ) → e < E → 1 ≤ nth load e → nth mark (nth to e) ≡ nth cost e + nth mark (nth from e)

-- the root's mark is the base, and no live node's mark is further from it than `span`
pub record MarksNear (N : ℕ) (live : List Bool) (mark : List ℕ) : Type 0 where
  pub at_root : nth mark 0 ≡ base
  pub not_above : (u : ℕ) → u < N → T (live_at live u) → nth mark u ≤ highest
  pub not_below : (u : ℕ) → u < N → T (live_at live u) → base ≤ nth mark u + span

-- How the node v was reached from a node settled before it (`rank`): by edge e, taken forward (`via` is 2e) or taken back against its load (2e + 1).
pub data Hop (E : ℕ) (from to cost load mark dist via rank : List ℕ) (v : ℕ) : Type 0 where
  forward : (e : ℕ) → e < E → nth via v ≡ 2 * e → nth to e ≡ v → nth rank (nth from e) < nth rank v →
      nth dist v + nth mark v ≡ nth dist (nth from e) + (nth cost e + nth mark (nth from e)) → Hop E from to cost load mark dist via rank v
  back : (e : ℕ) → e < E → nth via v ≡ 2 * e + 1 → nth from e ≡ v → nth rank (nth to e) < nth rank v →
      1 ≤ nth load e → nth dist v ≡ nth dist (nth to e) → Hop E from to cost load mark dist via rank v

-- what a search asks of edges and marks: slacks are at least 0, and small
pub record Lanes (N E : ℕ) (from to cost mark : List ℕ) : Type 0 where
  pub few_nodes : N ≤ most_nodes
  pub few_edges : E ≤ most_edges
  pub from_node : (e : ℕ) → e < E → nth from e < N
  pub to_node : (e : ℕ) → e < E → nth to e < N
  pub least : SlacksHold E from to cost mark
  pub most : (e : ℕ) → e < E → nth cost e + nth mark (nth from e) ≤ nth mark (nth to e) + widest
  pub small : (e : ℕ) → e < E → nth cost e + nth mark (nth from e) ≤ most_cost + highest

-- A search under way. A node is settled where its rank is below N, and then its distance is final. u is the node settled last: the edges that leave
-- it are looked at down to number h, those that enter it down to number k, and all edges of the nodes settled before it are. Nothing that is settled
-- is further than u, and nothing else is nearer; every node that is reached has its hop from a settled one.
pub record Growing (N E : ℕ) (from to cost load mark : List ℕ) (source u h k count : ℕ) (dist via rank : List ℕ) : Type 0 where
  pub dist_long : length dist ≡ most_nodes
  pub via_long : length via ≡ most_nodes
  pub rank_long : length rank ≡ most_nodes
  pub source_node : source < N
  pub node : u < N
  pub from_here : nth dist source ≡ 0
  pub source_settled : nth rank source < N
  pub here_settled : nth rank u < N
  pub relaxed : (e : ℕ) → e < E → nth rank (nth from e) < N → (nth from e ≡ u → h ≤ e) →
      nth dist (nth to e) + nth mark (nth to e) ≤ nth dist (nth from e) + (nth cost e + nth mark (nth from e))
  pub relaxed_back : (e : ℕ) → e < E → 1 ≤ nth load e → nth rank (nth to e) < N → (nth to e ≡ u → k ≤ e) → nth dist (nth from e) ≤ nth dist (nth to e)
  pub latest : (v : ℕ) → v < N → nth rank v < N → nth dist v ≤ nth dist u
  pub beyond : (v : ℕ) → v < N → N ≤ nth rank v → nth dist u ≤ nth dist v
  pub ranks : (v : ℕ) → v < N → nth rank v < N → nth rank v < count
  pub rank_most : (v : ℕ) → v < N → nth rank v ≤ N
  -- so many are settled
  pub tally : count + sum_to N (λ v. share N (nth rank v) 1) ≡ N
  pub near : (v : ℕ) → v < N → nth dist v < far → nth dist v ≤ count * widest
  pub here_near : nth dist u + widest ≤ count * widest
  pub hops : (v : ℕ) → v < N → nth dist v < far → (v ≡ source) ⊎ Hop E from to cost load mark dist via rank v

-- the nearest of the nodes that are reached and not settled; N where there is none
pub record Nearest (N : ℕ) (dist rank : List ℕ) (r : ℕ) : Type 0 where
  pub node : r ≤ N
  pub open_still : r < N → N ≤ nth rank r
  pub reached : r < N → nth dist r < far
  pub least : (v : ℕ) → v < N → N ≤ nth rank v → nth dist v < far → (r < N) × (nth dist r ≤ nth dist v)

-- the distance d to v, reached as p says, is taken where it is less than what was known
pub data Lowered (dist via : List ℕ) (v d p : ℕ) (dist' via' : List ℕ) : Type 0 where
  nearer : d < nth dist v → dist' ≡ set dist v d → via' ≡ set via v p → Lowered dist via v d p dist' via'
  kept : nth dist v ≤ d → dist' ≡ dist → via' ≡ via → Lowered dist via v d p dist' via'

-- what a search asks of its source: somewhere behind the root there is a deficit
pub record Seeking (N E : ℕ) (from to cost mark deficit : List ℕ) (source : ℕ) : Type 0 where
  pub lanes : Lanes N E from to cost mark
  pub source_node : source < N
  pub source_none : nth deficit source ≡ 0
  pub goal : ℕ
  pub goal_wants : 1 ≤ nth deficit goal
  pub to_root : (c : ℕ) × Way E from to cost source 0 c
  pub from_root : (c : ℕ) × Way E from to cost 0 goal c

-- nothing is reached yet
pub record Fresh (N : ℕ) (dist via rank : List ℕ) : Type 0 where
  pub dist_long : length dist ≡ most_nodes
  pub via_long : length via ≡ most_nodes
  pub rank_long : length rank ≡ most_nodes
  pub nowhere : (v : ℕ) → v < N → nth dist v ≡ far
  pub unsettled : (v : ℕ) → v < N → nth rank v ≡ N

-- What a search from a source has found: a target with a deficit, and for each node a distance, along slacks forward and at no cost back along a
-- loaded edge. A node is settled where its rank is below N. Where no edge shortens a distance below the target's, raising each mark by the lesser of
-- its node's distance and the target's keeps every slack and makes the hops tight.
pub record TargetFound (N E : ℕ) (from to cost load mark deficit : List ℕ) (source target : ℕ) (dist via rank : List ℕ) : Type 0 where
  pub target_node : target < N
  pub wants : 1 ≤ nth deficit target
  pub not_source : target ≢ source
  pub from_here : nth dist source ≡ 0
  pub not_far : nth dist target ≤ farthest
  pub relaxed : (e : ℕ) → e < E →
      (nth dist (nth to e) + nth mark (nth to e) ≤ nth dist (nth from e) + (nth cost e + nth mark (nth from e))) ⊎ (nth dist target ≤ nth dist (nth from e))
  pub relaxed_back : (e : ℕ) → e < E → 1 ≤ nth load e →
      (nth dist (nth from e) ≤ nth dist (nth to e)) ⊎ (nth dist target ≤ nth dist (nth to e))
  pub target_settled : nth rank target < N
  pub settled_near : (v : ℕ) → v < N → nth rank v < N → nth dist v ≤ nth dist target
  pub hops : (v : ℕ) → v < N → nth rank v < N → (v ≡ source) ⊎ Hop E from to cost load mark dist via rank v

-- what raising the marks asks: each has room, and none falls below 0
pub record Raisable (N : ℕ) (live : List Bool) (dist : List ℕ) (most : ℕ) (mark : List ℕ) : Type 0 where
  pub few_nodes : N ≤ most_nodes
  pub long : length mark ≡ most_nodes
  pub not_far : most ≤ farthest
  pub small : (u : ℕ) → u < N → T (live_at live u) → nth mark u ≤ highest
  pub room : (u : ℕ) → u < N → T (live_at live u) → min (nth dist 0) most ≤ nth mark u + min (nth dist u) most

-- each live node's mark is raised by the lesser of its distance and `most`, less what the root is raised by
pub record Raised (N : ℕ) (live : List Bool) (dist : List ℕ) (most : ℕ) (mark mark' : List ℕ) : Type 0 where
  pub long : length mark' ≡ most_nodes
  pub raised : (u : ℕ) → u < N → T (live_at live u) → nth mark' u + min (nth dist 0) most ≡ nth mark u + min (nth dist u) most

-- v is reached by edge e, forward along slack 0, or against a load of k or more, from a node settled before it
pub record Ahead (E : ℕ) (from to cost mark rank : List ℕ) (v e : ℕ) : Type 0 where
  pub edge : e < E
  pub to_here : nth to e ≡ v
  pub lower : nth rank (nth from e) < nth rank v
  pub tight : nth mark v ≡ nth cost e + nth mark (nth from e)

pub record Behind (E : ℕ) (from to load rank : List ℕ) (k v e : ℕ) : Type 0 where
  pub edge : e < E
  pub from_here : nth from e ≡ v
  pub lower : nth rank (nth to e) < nth rank v
  pub loaded : k ≤ nth load e

-- one step from v towards the source
pub data Rung (E : ℕ) (from to cost load mark via rank : List ℕ) (v : ℕ) : Type 0 where
  ahead : (e : ℕ) → nth via v ≡ 2 * e → Ahead E from to cost mark rank v e → Rung E from to cost load mark via rank v
  behind : (e : ℕ) → nth via v ≡ 2 * e + 1 → Behind E from to load rank 1 v e → Rung E from to cost load mark via rank v

-- the steps from v to the source, each with room for k
pub data Trail (E : ℕ) (from to cost load mark via rank : List ℕ) (source k : ℕ) : ℕ → Type 0 where
  home : {v : ℕ} → v ≡ source → Trail E from to cost load mark via rank source k v
  along : {v : ℕ} (e : ℕ) → nth via v ≡ 2 * e → Ahead E from to cost mark rank v e → Trail E from to cost load mark via rank source k (nth from e) →
      Trail E from to cost load mark via rank source k v
  against : {v : ℕ} (e : ℕ) → nth via v ≡ 2 * e + 1 → Behind E from to load rank k v e → Trail E from to cost load mark via rank source k (nth to e) →
      Trail E from to cost load mark via rank source k v

-- every settled node has its step towards the source
pub record Laid (N E : ℕ) (from to cost load mark via rank : List ℕ) (source target : ℕ) : Type 0 where
  pub few_nodes : N ≤ most_nodes
  pub few_edges : E ≤ most_edges
  pub from_node : (e : ℕ) → e < E → nth from e < N
  pub to_node : (e : ℕ) → e < E → nth to e < N
  pub target_node : target < N
  pub target_settled : nth rank target < N
  pub rungs : (v : ℕ) → v < N → nth rank v < N → (v ≡ source) ⊎ Rung E from to cost load mark via rank v

-- how much can be moved from the source to the target
pub record Bottleneck (E : ℕ) (from to cost load mark via rank : List ℕ) (source target limit r : ℕ) : Type 0 where
  pub some : 1 ≤ r
  pub within : r ≤ limit
  pub trail : Trail E from to cost load mark via rank source r target

-- The amount k is being moved along the steps: it has come from v to the target, on loads that were `old`. Edges whose ends were both settled no later
-- than v are as they were; so each node is passed once, and the root sends k at the most.
pub record Pushing (N E : ℕ) (from to cost mark via rank : List ℕ) (source target k : ℕ) (old : List ℕ) (v : ℕ) (load : List ℕ) : Type 0 where
  pub long : length load ≡ most_edges
  pub node : v < N
  pub trail : Trail E from to cost old mark via rank source k v
  pub same : (e : ℕ) → e < E → nth rank (nth from e) ≤ nth rank v → nth rank (nth to e) ≤ nth rank v → nth load e ≡ nth old e
  pub small : (e : ℕ) → e < E → nth old e + k ≤ most_moved
  pub tight : LoadsTight E from to cost mark load
  pub most : (e : ℕ) → e < E → nth load e ≤ nth old e + k
  pub moved : (u : ℕ) →
      leaving from load E u + entering to old E u + share u target k ≡ entering to load E u + leaving from old E u + share u v k
  pub root_not_yet : nth rank 0 < nth rank v → leaving from load E 0 ≤ leaving from old E 0
  pub root_once : leaving from load E 0 ≤ leaving from old E 0 + k

-- The state between two rounds: slacks hold, loads are tight, marks are near; no node has both a surplus and a deficit, a node that is not live has
-- neither, and there is as much surplus as deficit.
pub record Carrying (N E : ℕ) (live : List Bool) (from to cost load mark surplus deficit : List ℕ) : Type 0 where
  pub load_long : length load ≡ most_edges
  pub mark_long : length mark ≡ most_nodes
  pub surplus_long : length surplus ≡ most_nodes
  pub deficit_long : length deficit ≡ most_nodes
  pub slacks : SlacksHold E from to cost mark
  pub tight : LoadsTight E from to cost mark load
  pub near : MarksNear N live mark
  pub apart : (u : ℕ) → u < N → 1 ≤ nth surplus u → nth deficit u ≡ 0
  pub surplus_live : (u : ℕ) → u < N → 1 ≤ nth surplus u → T (live_at live u)
  pub deficit_live : (u : ℕ) → u < N → 1 ≤ nth deficit u → T (live_at live u)
  pub same_sum : sum_to N (λ u. nth surplus u) ≡ sum_to N (λ u. nth deficit u)
  pub few : (e : ℕ) → e < E → nth load e + sum_to N (λ u. nth surplus u) ≤ most_moved
  pub few_left : sum_to N (λ u. nth surplus u) ≤ most_moved

-- What rounds change: each node's balance is kept, and the root sends no more than the surplus that is gone.
pub record Carries (N E : ℕ) (from to load surplus deficit load' surplus' deficit' : List ℕ) : Type 0 where
  pub balance : (u : ℕ) → u < N →
      leaving from load' E u + nth surplus' u + (entering to load E u + nth deficit u) ≡ entering to load' E u + nth deficit' u + (leaving from load E u + nth surplus u)
  pub root : leaving from load' E 0 + sum_to N (λ u. nth surplus' u) ≤ leaving from load E 0 + sum_to N (λ u. nth surplus u)

-- one source alone gives off surplus
pub record OthersKept (source : ℕ) (surplus surplus' : List ℕ) : Type 0 where
  pub kept : (u : ℕ) → u ≢ source → nth surplus' u ≡ nth surplus u

-- What carrying everything asks: no load yet, every live node's mark is the base, and the surpluses and deficits are apart, on live nodes, the same in all.
pub record Waiting (N E : ℕ) (live : List Bool) (load mark surplus deficit : List ℕ) : Type 0 where
  pub load_long : length load ≡ most_edges
  pub mark_long : length mark ≡ most_nodes
  pub surplus_long : length surplus ≡ most_nodes
  pub deficit_long : length deficit ≡ most_nodes
  pub no_load : (e : ℕ) → e < E → nth load e ≡ 0
  pub at_base : (u : ℕ) → u < N → T (live_at live u) → nth mark u ≡ base
  pub apart : (u : ℕ) → u < N → (nth surplus u ≡ 0) ⊎ (nth deficit u ≡ 0)
  pub dead_none : (u : ℕ) → u < N → (T (live_at live u) → ⊥) → (nth surplus u ≡ 0) × (nth deficit u ≡ 0)
  pub same_sum : sum_to N (λ u. nth surplus u) ≡ sum_to N (λ u. nth deficit u)
  pub few : sum_to N (λ u. nth surplus u) ≤ most_moved

-- What carrying everything leaves: slacks hold, loads are tight, marks are near, all surplus is moved, and the root sends no more than there was to move.
pub record Carried (N E : ℕ) (live : List Bool) (from to cost load mark : List ℕ) (given wanted : ℕ → ℕ) (moved : ℕ) : Type 0 where
  pub slacks_hold : SlacksHold E from to cost mark
  pub loads_tight : LoadsTight E from to cost mark load
  pub marks_near : MarksNear N live mark
  pub balance : (u : ℕ) → u < N → leaving from load E u + wanted u ≡ entering to load E u + given u
  pub root_sends : leaving from load E 0 ≤ moved
  pub few : (e : ℕ) → e < E → nth load e ≤ most_moved

-- ---- a guess, tested

-- edges between nodes
pub record Ends (N E : ℕ) (from to : List ℕ) : Type 0 where
  pub some_node : 1 ≤ N
  pub few_nodes : N ≤ most_nodes
  pub few_edges : E ≤ most_edges
  pub from_node : (e : ℕ) → e < E → nth from e < N
  pub to_node : (e : ℕ) → e < E → nth to e < N

-- an edge from a node with the mark `back` to one with the mark `ahead`: its slack is at least 0, and 0 under a load, and there is not too much on it
pub record EdgeStands (cost back ahead load : ℕ) : Type 0 where
  pub slack : ahead ≤ cost + back
  pub tight : 1 ≤ load → ahead ≡ cost + back
  pub few : load ≤ most_moved

-- each edge below k does so
pub record EdgesStand (k : ℕ) (from to cost load mark : List ℕ) : Type 0 where
  pub each : (e : ℕ) → e < k → EdgeStands (nth cost e) (nth mark (nth from e)) (nth mark (nth to e)) (nth load e)

-- what it takes to sum the loads at the nodes: ends are nodes, and loads are low
pub record Summable (N E : ℕ) (from to load : List ℕ) : Type 0 where
  pub ends : Ends N E from to
  pub low : (e : ℕ) → e < E → nth load e ≤ most_moved

-- `into` and `out` hold what enters and what leaves each node on the edges below e
pub record Tallied (N e : ℕ) (from to load into out : List ℕ) : Type 0 where
  pub into_long : length into ≡ most_nodes
  pub out_long : length out ≡ most_nodes
  pub entered : (u : ℕ) → u < N → nth into u ≡ entering to load e u
  pub left : (u : ℕ) → u < N → nth out u ≡ leaving from load e u

-- no sum of what leaves a node and its deficit, or of what enters it and its surplus, is too large to hold
pub record Comparable (N : ℕ) (into out surplus deficit : List ℕ) : Type 0 where
  pub few_nodes : N ≤ most_nodes
  pub in_fits : (u : ℕ) → u < N → nth into u + nth surplus u < 2 ^ 64
  pub out_fits : (u : ℕ) → u < N → nth out u + nth deficit u < 2 ^ 64

-- each node below k gives off its surplus and gets its deficit
pub record Even (k : ℕ) (into out surplus deficit : List ℕ) : Type 0 where
  pub each : (u : ℕ) → u < k → nth out u + nth deficit u ≡ nth into u + nth surplus u

-- what there is to move is not too much
pub record Movable (N : ℕ) (surplus deficit : List ℕ) : Type 0 where
  pub few_nodes : N ≤ most_nodes
  pub few : sum_to N (λ u. nth surplus u) ≤ most_moved
  pub few_wanted : sum_to N (λ u. nth deficit u) ≤ most_moved

-- the loads balance every node, and the root sends no more than there is to move
pub record LoadsStand (N E : ℕ) (from to load surplus deficit : List ℕ) : Type 0 where
  pub balance : (u : ℕ) → u < N → leaving from load E u + nth deficit u ≡ entering to load E u + nth surplus u
  pub root_sends : leaving from load E 0 ≤ sum_to N (λ u. nth surplus u)

-- Loads and marks that need no further search: what the test asks, from which all that `Carried` says follows where the network has its shape.
pub record Stands (N E : ℕ) (from to cost load mark surplus deficit : List ℕ) : Type 0 where
  pub edges : EdgesStand E from to cost load mark
  pub loads : LoadsStand N E from to load surplus deficit
  pub root_mark : nth mark 0 ≡ base

-- no load on the first E edges, and the first N marks at the base: what a guess that fails the test is set back to
pub record Emptied (E : ℕ) (load : List ℕ) : Type 0 where
  pub long : length load ≡ most_edges
  pub nothing : (e : ℕ) → e < E → nth load e ≡ 0

pub record Levelled (N : ℕ) (mark : List ℕ) : Type 0 where
  pub long : length mark ≡ most_nodes
  pub at_base : (u : ℕ) → u < N → nth mark u ≡ base
