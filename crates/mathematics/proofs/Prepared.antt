-- Document 01, "Preparing the reads": what remains are independent, linked reads, no more than there were, and covers of the one and of the other
-- reads come from one another (the published Lemma 15.2).
use Prim.Native.Nat.{ℕ, ◌≤◌}
use native.Mathlib.Omega.{arith}
use mathlib.Core.Path.{◌≡◌, refl, ◌∙◌}
use mathlib.Core.List.{List, [], ◌∷◌, ◌++◌, append_assoc}
use lib.Dec.{T}
use lib.ListN.{length, get_or, length-append, get_or-append}
use Rattle.mathematics.specs.Lists.{All, last_of, Pairwise}
use Rattle.mathematics.specs.Range.{OneOf}
use Rattle.mathematics.specs.Graph.{Arc, Graph, WellFormed, linked, with_reads}
use Rattle.mathematics.specs.Cover.{Item, Weighted, IsCover, total, total_weight, paths}
use Rattle.mathematics.specs.Prepare.{drop_parts, prepare, Apart, Independent}
use Rattle.mathematics.proofs.Basics.{all_from, all_among, all_weaken}
use Rattle.mathematics.proofs.Reach.{last_append}
use Rattle.mathematics.proofs.WithReads.{Met, cover_with_reads}
use Rattle.mathematics.proofs.Parts.{Held, holds_within, some_held, held_some, held_trans}
use Rattle.mathematics.proofs.Overlap.{Clear}
use Rattle.mathematics.proofs.Taken.{pairwise_both}
use Rattle.mathematics.proofs.Dropped.{dropped_all, dropped_fewer, dropped_held, dropped_clear}
use Rattle.mathematics.proofs.Longest.{AtMost}
use Rattle.mathematics.proofs.Joined.{Join, join_fewer, join_all, join_clear, join_held, while_keeps, while_ends}
use Rattle.mathematics.proofs.Linked.{linked_to, linked_join}
use Rattle.mathematics.proofs.Exchange.{CoverLike, join_cover}

-- what holds after dropping and stays with each join holds of the prepared reads
prepared_keeps : (Q : List (List ℕ) → Type 0) → ((rs rs' : List (List ℕ)) → Join rs rs' → Q rs → Q rs') → (rs : List (List ℕ)) →
    Q (drop_parts [] rs) → Q (prepare rs)
unfolding prepare
prepared_keeps Q step rs h = while_keeps Q step (length rs) (drop_parts [] rs) h

apart : (r s : List ℕ) → Clear r s → AtMost 0 r s → Apart r s
apart r s clear most = (λ t. clear.0 (holds_within s r t), omega (arith, most.0))

-- No prepared read is a consecutive part of another, and no pair overlaps: the "while" has ended.
pub prepared_independent : (rs : List (List ℕ)) → Independent (prepare rs)
unfolding prepare
prepared_independent rs =
    pairwise_both Clear (AtMost 0) (λ r s. Apart r s × Apart s r) (prepare rs)
    (λ r s clear most. (apart r s clear most, apart s r (clear.1, clear.0) (most.1, most.0)))
    (prepared_keeps (Pairwise Clear) join_clear rs (dropped_clear rs))
    (while_ends (length rs) (drop_parts [] rs) (dropped_fewer [] rs))

-- There are no more prepared reads than reads.
pub prepared_fewer : (rs : List (List ℕ)) → length (prepare rs) ≤ length rs
prepared_fewer rs =
    prepared_keeps (λ rs'. length rs' ≤ length rs) (λ old new j h. omega (arith, join_fewer old new j)) rs (dropped_fewer [] rs)

-- a read of the graph: two vertices or more, each consecutive pair an arc
abbrev LinkedRead : {E : Type 0} → List (Arc E) → List ℕ → Type 0
LinkedRead arcs r = (2 ≤ length r) × T (linked arcs r)

linked_whole : {E : Type 0} (arcs : List (Arc E)) (x o y : List ℕ) → 1 ≤ length o → T (linked arcs (x ++ o)) → T (linked arcs (o ++ y)) →
    T (linked arcs (x ++ (o ++ y)))
linked_whole arcs x [] y p h k = absurd (omega arith)
linked_whole arcs x (v ∷ o) y p h k = linked_join arcs x v (o ++ y) (linked_to arcs x v o h) k

linked_read_whole : {E : Type 0} (arcs : List (Arc E)) (x o y : List ℕ) → 1 ≤ length o → LinkedRead arcs (x ++ o) → LinkedRead arcs (o ++ y) →
    LinkedRead arcs (x ++ (o ++ y))
linked_read_whole arcs x o y p h k =
    (omega (arith, h.0, length-append x o, length-append o y, length-append x (o ++ y)), linked_whole arcs x o y p h.1 k.1)

-- A prepared read is two vertices or more, each consecutive pair an arc.
pub prepared_linked : {E : Type 0} (G : Graph E) → WellFormed G → All (λ r. (2 ≤ length r) × T (linked G.arcs r)) (prepare G.reads)
prepared_linked G wf =
    prepared_keeps (All (LinkedRead G.arcs))
    (λ rs rs' j. join_all rs rs' j (LinkedRead G.arcs) (linked_read_whole G.arcs j.x j.o j.y j.some_o))
    G.reads (dropped_all (LinkedRead G.arcs) [] G.reads wf.reads_linked)

-- r begins as some read of rs begins and ends as some read of rs ends
abbrev pub EndsAs : List (List ℕ) → List ℕ → Type 0
EndsAs rs r =
    ((a : List ℕ) × OneOf rs a × (get_or r 0 0 ≡ get_or a 0 0)) × ((b : List ℕ) × OneOf rs b × (last_of 0 r ≡ last_of 0 b))

last_some : (u v : ℕ) (r : List ℕ) → 1 ≤ length r → last_of u r ≡ last_of v r
last_some u v [] p = absurd (omega arith)
last_some u v (w ∷ r) p = refl

whole_first : (x o y : List ℕ) → 1 ≤ length o → get_or (x ++ (o ++ y)) 0 0 ≡ get_or (x ++ o) 0 0
whole_first x o y p =
    rw (← (append_assoc x o y)) (get_or-append (x ++ o) y 0 0 (omega (arith, length-append x o)))

whole_last : (x o y : List ℕ) → 1 ≤ length o → last_of 0 (x ++ (o ++ y)) ≡ last_of 0 (o ++ y)
whole_last x o y p = last_append 0 x (o ++ y) ∙ last_some (last_of 0 x) 0 (o ++ y) (omega (arith, length-append o y))

-- A prepared read begins with the first vertex of some read and ends with the last vertex of some read.
pub prepared_ends : (rs : List (List ℕ)) → All (EndsAs rs) (prepare rs)
prepared_ends rs =
    prepared_keeps (All (EndsAs rs))
    (λ old new j. join_all old new j (EndsAs rs) (λ l r.
    ((l.0.0, l.0.1, whole_first j.x j.o j.y j.some_o ∙ l.0.2), (r.1.0, r.1.1, whole_last j.x j.o j.y j.some_o ∙ r.1.2))))
    rs (dropped_all (EndsAs rs) [] rs (all_from (EndsAs rs) rs (λ r m. ((r, m, refl), (r, m, refl)))))

held_by_held : (ps rs : List (List ℕ)) (r : List ℕ) → All (Held ps) rs → Held rs r → Held ps r
held_by_held ps rs r h (s, m, w) = held_trans ps r s w (all_among (Held ps) rs s h m)

-- each read stands in a prepared one
prepared_held : (rs : List (List ℕ)) → All (Held (prepare rs)) rs
prepared_held rs =
    prepared_keeps (λ rs'. All (Held rs') rs)
    (λ old new j. all_weaken (Held old) (Held new) rs (λ r. held_by_held new old r (join_held old new j)))
    rs (dropped_held rs)

module _ {E : Type 0} (G : Graph E) where
  -- A cover of the prepared reads is a cover of the reads.
  pub prepared_cover_is_cover : (W : List Weighted) → IsCover (with_reads G (prepare G.reads)) W → IsCover G W
  prepared_cover_is_cover W c =
      let rs = prepare G.reads in
      let held = all_weaken (Met W) (Held (paths W)) rs (λ r. some_held (paths W) r) c.reads_met in
      cover_with_reads G rs G.reads W c
      (all_weaken (Held rs) (Met W) G.reads
      (λ r h. let k = held_by_held (paths W) rs r held h in held_some (paths W) r k.0 k.1 k.2)
      (prepared_held G.reads))

  -- A cover of the reads gives one of the prepared reads with the same totals, and so the same price.
  pub cover_can_hold_prepared : WellFormed G → (W : List Weighted) → IsCover G W →
      (U : List Weighted) × IsCover (with_reads G (prepare G.reads)) U × ((i : Item) → total i U ≡ total i W) × (total_weight U ≡ total_weight W)
  cover_can_hold_prepared wf W c =
      (prepared_keeps (λ rs. Pairwise Clear rs × CoverLike (with_reads G rs) W) step G.reads (
        dropped_clear G.reads,
        (W, cover_with_reads G G.reads (drop_parts [] G.reads) W c (dropped_all (Met W) [] G.reads c.reads_met), λ i. refl, refl),
      )).1
    where
      step : (rs rs' : List (List ℕ)) → Join rs rs' → Pairwise Clear rs × CoverLike (with_reads G rs) W →
          Pairwise Clear rs' × CoverLike (with_reads G rs') W
      step rs rs' j (clear, (U, cover, totals, weighs)) =
          let (U', cover', totals', weighs') = join_cover G rs rs' j U cover wf clear in
          (join_clear rs rs' j clear, (U', cover', λ i. totals' i ∙ totals i, weighs' ∙ weighs))
