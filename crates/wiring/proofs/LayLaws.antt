-- Laws of laying the edges of a graph form, one kind of edge after the other: what stands at each place, and that a store lays one edge more.
use Rattle.std.proofs.Common.{ℕ, ◌+◌, ◌*◌, ◌-◌, ◌≤◌, ◌<◌, ◌≡◌, refl, sym, ap, ap₂, subst, ◌∙◌, List, [], ◌∷◌, Bool, true, false, cond, ◌&&◌, ltb, Option, is_some, length, get_or, set, arith, lt-ltb, le-ltb}
use Rattle.std.specs.Bool.{then_some}
use Rattle.mathematics.specs.Lists.{last_of}
use Rattle.mathematics.specs.Graph.{is_start, is_end}
use Rattle.mathematics.specs.Reach.{useful}
use Rattle.mathematics.proofs.Links.{Link, opening, closing, inside, across, reading, link_from, link_to}
use Rattle.forms.specs.GraphForm.{vertex_count, arc_count, opening_price, arc_at, arc_tail, arc_head, arc_cost}
use Rattle.forms.specs.GraphOf.{graph_of}
use Rattle.forms.specs.GraphReads.{Reads}
use Rattle.reads.specs.ReadTable.{row_at, Leaves, row_length, table_rows}
use Rattle.reads.proofs.TableLaws.{row_get, last_get}
use Rattle.reads.proofs.TableRows.{table_get, table_row}
use Rattle.network.specs.Network.{nth, most_edges}
use Rattle.paths.specs.Slots.{prepared_of, plain_slots, across_slot, opening_slot, closing_slot, reading_slot, link_at, in_use, edge_from, edge_to, edge_cost}
use Rattle.reach.specs.Reached.{FormSizes, Tells}
use Rattle.wiring.specs.declared.Edge.{Edge}
use Rattle.wiring.specs.Lay.{edge_of, Stored, EdgesLaid}
use Rattle.forms.proofs.Filling.{Filled, fill_more}
use Rattle.paths.proofs.SlotKinds.{at_inside, at_across, at_opening, at_closing, at_reading}

-- the edge at place e is used or not, goes from a to b and costs k
pub record EdgeIs (s : List ℕ) (e : ℕ) (used : Bool) (a b k : ℕ) : Type 0 where
  pub from_is : cond used a 0 ≡ edge_from s e
  pub to_is : cond used b 0 ≡ edge_to s e
  pub cost_is : cond used k 0 ≡ edge_cost s e

-- what is stored where a test says whether the edge is used
module _ {e : ℕ} {x : Edge} {from to cost from' to' cost' : List ℕ} where
  stored_tested : (t : Bool) →
      Stored e (is_some (then_some t x)) (edge_of (then_some t x)).from (edge_of (then_some t x)).to (edge_of (then_some t x)).cost from to cost from' to' cost' →
      Stored e t x.from x.to x.cost from to cost from' to' cost'
  stored_tested true h = h
  stored_tested false h = record { from_is = h.from_is; to_is = h.to_is; cost_is = h.cost_is }

  pub stored_where : {used : Bool} {edge : Option Edge} → edge ≡ then_some used x →
      Stored e (is_some edge) (edge_of edge).from (edge_of edge).to (edge_of edge).cost from to cost from' to' cost' → Stored e used x.from x.to x.cost from to cost from' to' cost'
  stored_where {used} is st =
      stored_tested used (subst (λ (o : Option Edge). Stored e (is_some o) (edge_of o).from (edge_of o).to (edge_of o).cost from to cost from' to' cost') is st)

-- one store more
filled_set : (xs xs' : List ℕ) (e x : ℕ) (f : ℕ → ℕ) → xs' ≡ set xs e x → length xs ≡ most_edges → e < most_edges → x ≡ f e → ((k : ℕ) → k < e → nth xs k ≡ f k) →
    Filled most_edges 0 f xs' (e + 1)
filled_set xs xs' e x f is long room same each =
    subst (λ ys. Filled most_edges 0 f ys (e + 1)) (sym is) (fill_more {xs = xs} (record { long = long; each = each }) room same)

module _ {s : List ℕ} {e : ℕ} {used : Bool} {a b k : ℕ} {from to cost from' to' cost' : List ℕ} where
  lay_more : EdgesLaid s e from to cost → e < most_edges → Stored e used a b k from to cost from' to' cost' → EdgeIs s e used a b k →
      EdgesLaid s (e + 1) from' to' cost'
  lay_more laid room st is =
      let f = filled_set from from' e (cond used a 0) (edge_from s) st.from_is laid.from_long room is.from_is laid.from_is in
      let t = filled_set to to' e (cond used b 0) (edge_to s) st.to_is laid.to_long room is.to_is laid.to_is in
      let c = filled_set cost cost' e (cond used k 0) (edge_cost s) st.cost_is laid.cost_long room is.cost_is laid.cost_is in
      record {
        from_long = f.long;
        to_long = t.long;
        cost_long = c.long;
        from_is = f.each;
        to_is = t.each;
        cost_is = c.each;
      }

-- ---- what stands at each place

module _ (s : List ℕ) where
  from_link : (e : ℕ) (l : Link) → link_at s e ≡ l → cond (in_use s l) (link_from l) 0 ≡ edge_from s e
  unfolding edge_from
  from_link e l q = ap (λ (x : Link). cond (in_use s x) (link_from x) 0) (sym q)

  to_link : (e : ℕ) (l : Link) → link_at s e ≡ l → cond (in_use s l) (link_to 0 l) 0 ≡ edge_to s e
  unfolding edge_to
  to_link e l q = ap (λ (x : Link). cond (in_use s x) (link_to 0 x) 0) (sym q)

  -- what a link costs where it is in use
  abbrev pub listed : ℕ → ℕ
  listed e =
      cond (ltb e (vertex_count s)) 0
      (cond (ltb e (vertex_count s + arc_count s)) (arc_cost s (arc_at s (vertex_count s + arc_count s - (e + 1))))
      (cond (ltb e (2 * vertex_count s + arc_count s)) (opening_price s) 0))

  cost_link : (e : ℕ) (l : Link) (k : ℕ) → link_at s e ≡ l → k ≡ listed e → cond (in_use s l) k 0 ≡ edge_cost s e
  unfolding edge_cost
  cost_link e l k q p = ap₂ (λ (x : Link) (y : ℕ). cond (in_use s x) y 0) (sym q) p

  edge_is : (e : ℕ) (l : Link) (used : Bool) (k : ℕ) → link_at s e ≡ l → used ≡ in_use s l → k ≡ listed e → EdgeIs s e used (link_from l) (link_to 0 l) k
  edge_is e l used k q u p =
      record {
        from_is = ap (λ t. cond t (link_from l) 0) u ∙ from_link e l q;
        to_is = ap (λ t. cond t (link_to 0 l) 0) u ∙ to_link e l q;
        cost_is = ap (λ t. cond t k 0) u ∙ cost_link e l k q p;
      }

  pub inside_edge : (v : ℕ) → v < vertex_count s → (used : Bool) → used ≡ useful (graph_of s) v → EdgeIs s v used (2 * v + 1) (2 * v + 2) 0
  unfolding in_use
  inside_edge v h used u = edge_is v (inside v) used 0 (at_inside s v h) u (rw (lt-ltb v (vertex_count s) h))

  pub across_edge : (e a : ℕ) → e ≡ across_slot s a → a < arc_count s → (u v k : ℕ) (used : Bool) → u ≡ arc_tail s (arc_at s a) → v ≡ arc_head s (arc_at s a) →
      k ≡ arc_cost s (arc_at s a) → used ≡ useful (graph_of s) u && useful (graph_of s) v → EdgeIs s e used (2 * u + 2) (2 * v + 1) k
  unfolding in_use
  across_edge e a q h u v k used tail head cost is =
      edge_is e (across u v) used k (ap (link_at s) q ∙ at_across s a h ∙ ap₂ (λ x y. across x y) (sym tail) (sym head)) is (cost ∙ sym listed_is)
    where
      listed_is : listed e ≡ arc_cost s (arc_at s a)
      listed_is =
          let back : vertex_count s + arc_count s - (e + 1) ≡ a = omega arith in
          rw (le-ltb e (vertex_count s) (omega arith), lt-ltb e (vertex_count s + arc_count s) (omega arith), back)

  pub opening_edge : (e v : ℕ) → e ≡ opening_slot s v → v < vertex_count s → (k : ℕ) (used : Bool) → k ≡ opening_price s →
      used ≡ is_start (graph_of s) v && useful (graph_of s) v → EdgeIs s e used 0 (2 * v + 1) k
  unfolding in_use
  opening_edge e v q h k used cost is =
      edge_is e (opening v) used k (ap (link_at s) q ∙ at_opening s v h) is
      (rw (le-ltb e (vertex_count s) (omega arith), le-ltb e (vertex_count s + arc_count s) (omega arith), lt-ltb e (2 * vertex_count s + arc_count s) (omega arith)) cost)

  pub closing_edge : (e v : ℕ) → e ≡ closing_slot s v → v < vertex_count s → (used : Bool) → used ≡ is_end (graph_of s) v && useful (graph_of s) v →
      EdgeIs s e used (2 * v + 2) 0 0
  unfolding in_use
  closing_edge e v q h used is =
      edge_is e (closing v) used 0 (ap (link_at s) q ∙ at_closing s v h) is
      (rw (le-ltb e (vertex_count s) (omega arith), le-ltb e (vertex_count s + arc_count s) (omega arith), le-ltb e (2 * vertex_count s + arc_count s) (omega arith)))

  reading_edge : (e r : ℕ) → e ≡ reading_slot s r → (first last : ℕ) → first ≡ get_or (get_or (prepared_of s) r []) 0 0 → last ≡ last_of 0 (get_or (prepared_of s) r []) →
      EdgeIs s e true (2 * first + 1) (2 * last + 2) 0
  unfolding in_use
  reading_edge e r q first last f l =
      let is = edge_is e (reading (get_or (prepared_of s) r [])) true 0 (ap (link_at s) q ∙ at_reading s r) refl
      (rw (le-ltb e (vertex_count s) (omega arith), le-ltb e (vertex_count s + arc_count s) (omega arith), le-ltb e (2 * vertex_count s + arc_count s) (omega arith))) in
      record {
        from_is = ap (λ x. 2 * x + 1) f ∙ is.from_is;
        to_is = ap (λ x. 2 * x + 2) l ∙ is.to_is;
        cost_is = is.cost_is;
      }

-- ---- a turn of each loop

pub few_plain : {s : List ℕ} → Reads s → plain_slots s + table_rows ≤ most_edges
few_plain r = omega (arith, r.arcs.header.vertices_room, r.arcs.header.arcs_room)

pub edges_at : {s from to cost : List ℕ} {k j : ℕ} → EdgesLaid s k from to cost → k ≡ j → EdgesLaid s j from to cost
edges_at {s} {from} {to} {cost} l e = subst (λ i. EdgesLaid s i from to cost) e l

-- the header's numbers of vertices and arcs, and the bounds on them
pub counted : {s : List ℕ} {n m : ℕ} → Reads s → n ≡ vertex_count s → m ≡ arc_count s → FormSizes s n m
counted r n m = record { reads = r; vertices = n; arcs = m }

-- a row that holds a read holds a number
pub read_some : {rows : List (List ℕ)} {lens : List ℕ} {count i : ℕ} {rs : List (List ℕ)} → Leaves rows lens count rs → i < count →
    (1 ≤ get_or lens i 0) × (get_or lens i 0 ≤ row_length)
read_some {rows} {lens} {count} {i} l h = let row = table_row rows lens count l.table i h in omega (arith, row.long, row.read.some, row.fit)

module _ {s : List ℕ} {n m : ℕ} (c : FormSizes s n m) {e : ℕ} {from to cost from' to' cost' : List ℕ} (laid : EdgesLaid s e from to cost) where
  pub lay_vertex : {kept : List Bool} → Tells s (useful (graph_of s)) kept → e < n →
      Stored e (get_or kept e false) (2 * e + 1) (2 * e + 2) 0 from to cost from' to' cost' → EdgesLaid s (e + 1) from' to' cost'
  lay_vertex t l st =
      let h : e < vertex_count s = omega (arith, c.vertices) in
      lay_more laid (omega (arith, few_plain c.reads)) st (inside_edge s e h _ (t.says e h))

  module _ {kept : List Bool} (t : Tells s (useful (graph_of s)) kept) {used : Bool} where
    pub lay_arc : {u v k : ℕ} → n ≤ e → e < n + m → u ≡ arc_tail s (arc_at s (n + m - (e + 1))) →
        v ≡ arc_head s (arc_at s (n + m - (e + 1))) → k ≡ arc_cost s (arc_at s (n + m - (e + 1))) →
        used ≡ get_or kept u false && get_or kept v false →
        Stored e used (2 * u + 2) (2 * v + 1) k from to cost from' to' cost' → EdgesLaid s (e + 1) from' to' cost'
    lay_arc {u} {v} {k} low high tail head costs is st =
        let a : ℕ = n + m - (e + 1) in
        let h : a < arc_count s = omega (arith, c.arcs) in
        let x = c.reads.arcs.each a h in
        lay_more laid (omega (arith, few_plain c.reads, c.vertices, c.arcs)) st
        (across_edge s e a (omega (arith, c.vertices, c.arcs)) h u v k used tail head costs
        (is ∙ ap₂ (λ p q. p && q) (t.says u (omega (arith, tail, head, x.rises, x.inside))) (t.says v (omega (arith, head, x.inside)))))

    pub lay_opening : {v k : ℕ} {start : Bool} → v ≡ 2 * n + m - (e + 1) → n + m ≤ e → e < 2 * n + m → start ≡ is_start (graph_of s) v → k ≡ opening_price s →
        used ≡ start && get_or kept v false → Stored e used 0 (2 * v + 1) k from to cost from' to' cost' → EdgesLaid s (e + 1) from' to' cost'
    lay_opening {v} {k} q low high f costs is st =
        let h : v < vertex_count s = omega (arith, c.vertices) in
        lay_more laid (omega (arith, few_plain c.reads, c.vertices, c.arcs)) st
        (opening_edge s e v (omega (arith, c.vertices, c.arcs)) h k used costs (is ∙ ap₂ (λ p q. p && q) f (t.says v h)))

    pub lay_closing : {v : ℕ} {end : Bool} → e ≡ 2 * n + m + v → v < n → end ≡ is_end (graph_of s) v → used ≡ end && get_or kept v false →
        Stored e used (2 * v + 2) 0 0 from to cost from' to' cost' → EdgesLaid s (e + 1) from' to' cost'
    lay_closing {v} q low f is st =
        let h : v < vertex_count s = omega (arith, c.vertices) in
        lay_more laid (omega (arith, few_plain c.reads, c.vertices, c.arcs)) st
        (closing_edge s e v (omega (arith, c.vertices, c.arcs)) h used (is ∙ ap₂ (λ p q. p && q) f (t.says v h)))

  pub lay_read : {rows : List (List ℕ)} {lens : List ℕ} {count i : ℕ} → Leaves rows lens count (prepared_of s) → e ≡ 3 * n + m + i → i < count →
      {first last : ℕ} → first ≡ get_or (get_or rows i []) 0 0 → last ≡ get_or (get_or rows i []) (get_or lens i 0 - 1) 0 →
      Stored e true (2 * first + 1) (2 * last + 2) 0 from to cost from' to' cost' → EdgesLaid s (e + 1) from' to' cost'
  lay_read {rows} {lens} {count} {i} l q h {first} {last} f g st =
      let row = table_row rows lens count l.table i h in
      let is : get_or (prepared_of s) i [] ≡ row_at rows lens i = ap (λ (rs : List (List ℕ)). get_or rs i []) (sym l.reads) ∙ table_get rows lens count l.table i h in
      let some : 1 ≤ get_or lens i 0 = omega (arith, row.long, row.read.some) in
      lay_more laid (omega (arith, few_plain c.reads, l.table.counted, c.vertices, c.arcs)) st
      (reading_edge s e i (omega (arith, c.vertices, c.arcs)) first last (f ∙ sym (row_get rows lens i 0 some) ∙ ap (λ (x : List ℕ). get_or x 0 0) (sym is))
      (g ∙ sym (last_get rows lens i row) ∙ last_at (row_at rows lens i) row.read.some ∙ ap (last_of 0) (sym is)))
    where
      last_from : (x : ℕ) (xs : List ℕ) → get_or (x ∷ xs) (length xs) 0 ≡ last_of x xs
      last_from x [] = refl
      last_from x (y ∷ xs) = last_from y xs

      last_at : (xs : List ℕ) → 1 ≤ length xs → get_or xs (length xs - 1) 0 ≡ last_of 0 xs
      last_at [] b = absurd (omega arith)
      last_at (x ∷ xs) b = let e : length (x ∷ xs) - 1 ≡ length xs = omega arith in ap (λ k. get_or (x ∷ xs) k 0) e ∙ last_from x xs
