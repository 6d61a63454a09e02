-- Slacks and bound use the marks of the graph's vertices and no others: marks that agree there have the same slacks and the same bound.
use Rattle.std.proofs.Common.{ℕ, suc, ◌+◌, ◌≤◌, ◌<◌, arith, ◌≡◌, refl, ap, ap₂, subst, List, [], ◌∷◌, true, cond, ◌&&◌, T, length}
use Rattle.mathematics.specs.Price.{Prices, sub, times}
use Rattle.mathematics.specs.Lists.{All, last_of}
use Rattle.mathematics.specs.Graph.{Vertex, Arc, Graph, WellFormed, Rises, linked}
use Rattle.mathematics.specs.Cover.{vert, arc, arc_costs}
use Rattle.mathematics.specs.Prepare.{prepare}
use Rattle.mathematics.specs.Bound.{Marks, rest, arc_slack_holds, arc_slack, VertexSlacksHold, SlacksHold, vertex_terms, arc_terms, read_term, read_terms, bound}
use Rattle.mathematics.proofs.Prepared.{prepared_linked}
use Rattle.checker.proofs.Inside.{all_last, read_inside}

module _ (P : Prices) (G : Graph P.El) (g : WellFormed G) (m m' : Marks P.El)
    (agree : (v : ℕ) → v < length G.vertices → (m.into v ≡ m'.into v) × (m.out v ≡ m'.out v)) where
  vertices_agree : (k : ℕ) (xs : List Vertex) → k + length xs ≤ length G.vertices → VertexSlacksHold P G m k xs → VertexSlacksHold P G m' k xs
  vertices_agree k [] l h = tt
  vertices_agree k (x ∷ xs) l h =
      let e = agree k (omega arith) in (
        subst T
            (ap₂ (λ a b. cond x.start (P.leb P.nil (sub P G.opening a)) true && (cond x.end (P.leb P.nil b) true && P.leb P.nil (sub P a b))) e.0 e.1)
            h.0,
        vertices_agree (suc k) xs (omega arith) h.1,
      )

  arc_slack_agrees : (a : Arc P.El) → Rises (length G.vertices) a → arc_slack P m a ≡ arc_slack P m' a
  arc_slack_agrees a r =
      ap₂ (λ o i. sub P (P.add a.cost o) i)
      (agree a.tail (let u : a.tail < a.head = r.0 in let v : a.head < length G.vertices = r.1 in omega arith)).1 (agree a.head r.1).0

  arcs_agree : (arcs : List (Arc P.El)) → All (Rises (length G.vertices)) arcs → All (λ a. T (arc_slack_holds P m a)) arcs → All (λ a. T (arc_slack_holds P m' a)) arcs
  arcs_agree [] r h = tt
  arcs_agree (a ∷ arcs) r h = (subst (λ x. T (P.leb P.nil x)) (arc_slack_agrees a r.0) h.0, arcs_agree arcs r.1 h.1)

  -- no slack below 0 under the one, none under the other
  pub slacks_agree : SlacksHold P G m → SlacksHold P G m'
  slacks_agree h =
      record {
        vertices_hold = vertices_agree 0 G.vertices (omega arith) h.vertices_hold;
        arcs_hold = arcs_agree G.arcs g.rises h.arcs_hold;
      }

  vertex_terms_agree : (rs : List (List ℕ)) (k : ℕ) (xs : List Vertex) → k + length xs ≤ length G.vertices → vertex_terms P rs m k xs ≡ vertex_terms P rs m' k xs
  vertex_terms_agree rs k [] l = refl
  vertex_terms_agree rs k (x ∷ xs) l =
      let e = agree k (omega arith) in
      ap₂ P.add (ap₂ (λ a b. times P (rest rs (vert k) x.demand) (sub P a b)) e.0 e.1) (vertex_terms_agree rs (suc k) xs (omega arith))

  arc_terms_agree : (rs : List (List ℕ)) (arcs : List (Arc P.El)) → All (Rises (length G.vertices)) arcs → arc_terms P rs m arcs ≡ arc_terms P rs m' arcs
  arc_terms_agree rs [] r = refl
  arc_terms_agree rs (a ∷ arcs) r =
      ap₂ P.add (ap (times P (rest rs (arc a.tail a.head) a.demand)) (arc_slack_agrees a r.0)) (arc_terms_agree rs arcs r.1)

  read_term_agrees : (r : List ℕ) → All (λ w. w < length G.vertices) r → read_term P G m r ≡ read_term P G m' r
  read_term_agrees [] h = refl
  read_term_agrees (v ∷ r) h =
      ap₂ (λ i o. sub P (P.add (arc_costs P G.arcs (v ∷ r)) i) o) (agree v h.0).0
      (agree (last_of v r) (all_last (λ w. w < length G.vertices) v r h)).1

  read_terms_agree : (rs : List (List ℕ)) → All (λ r. (2 ≤ length r) × T (linked G.arcs r)) rs → read_terms P G m rs ≡ read_terms P G m' rs
  read_terms_agree [] h = refl
  read_terms_agree (r ∷ rs) h = ap₂ P.add (read_term_agrees r (read_inside G g r h.0.0 h.0.1)) (read_terms_agree rs h.1)

  -- the same bound
  pub bound_agrees : bound P G m ≡ bound P G m'
  unfolding bound
  bound_agrees =
      let rs = prepare G.reads in
      ap₂ P.add (vertex_terms_agree rs 0 G.vertices (omega arith))
      (ap₂ P.add (arc_terms_agree rs G.arcs g.rises) (read_terms_agree rs (prepared_linked G g)))
