-- #112: parts of safe stretches are safe, a stretch is maximal exactly when none that is one vertex longer is safe, and the sizes along the rows of one cover
-- tell all the maximal ones; listed in order, there is one such list.
use Prim.Native.Nat.{ℕ, zero, suc, ◌+◌, ◌-◌, ◌≤◌, ◌<◌}
use native.Mathlib.Omega.{arith}
use mathlib.Core.Path.{◌≡◌, refl, sym, ap, ap₂, subst, ◌∙◌}
use mathlib.Core.List.{List, [], ◌∷◌, ◌++◌, append-nil, append_assoc, tail-eq_of_cons-eq}
use mathlib.Core.Logic.{◌⊎◌, inl, inr, ◌↔◌, ◌≢◌}
use lib.Dec.{T, eqb, eqb→eq, leb, leb→le, le→leb, ltb, ltb→lt, lt→ltb, nltb→le, not_T}
use lib.ListN.{length, get_or, take, drop, length-append, length-drop, take-append-drop}
use lib.Seq.{length-take-le, take_at, drop_at, take-take, drop-cons}
use Rattle.mathematics.specs.Lists.{Pairwise, sum_over, holds, some_holds}
use Rattle.mathematics.specs.Graph.{Arc, Graph, has_arc, linked, is_path}
use Rattle.mathematics.specs.Range.{OneOf}
use Rattle.mathematics.specs.Safe.{PathCover, Safe, SafeStretch, MaximalSafe}
use Rattle.mathematics.specs.Stretches.{part, row_of, StandsAt, SizeIs, SizesRight, Kept}
use Rattle.mathematics.proofs.Basics.{and_in, all_among, test}
use Rattle.mathematics.proofs.Loads.{unequal}
use Rattle.mathematics.proofs.Merge.{same_path, same_path_equal, same_path_self}
use Rattle.mathematics.proofs.Parts.{Within, holds_within, within_holds, within_self, within_trans, some_held, held_some}
use Rattle.mathematics.proofs.Reach.{linked_first, linked_rest, path_linked}

-- ---- parts of lists

snoc_split : {A : Type 0} (x : A) (xs : List A) → (ys : List A) × (y : A) × (x ∷ xs ≡ ys ++ (y ∷ []))
snoc_split x [] = ([], x, refl)
snoc_split {A} x (w ∷ xs) = let (ys, y, e) = snoc_split w xs in (x ∷ ys, y, ap {B = List A} (λ l. x ∷ l) e)

module _ {E : Type 0} (arcs : List (Arc E)) where
  linked_tail : (a p : List ℕ) → T (linked arcs (a ++ p)) → T (linked arcs p)
  linked_tail [] p h = h
  linked_tail (x ∷ []) [] h = tt
  linked_tail (x ∷ []) (v ∷ p) h = linked_rest arcs x v p h
  linked_tail (x ∷ w ∷ a) p h = linked_tail (w ∷ a) p (linked_rest arcs x w (a ++ p) h)

  linked_front : (p b : List ℕ) → T (linked arcs (p ++ b)) → T (linked arcs p)
  linked_front [] b h = tt
  linked_front (v ∷ []) b h = tt
  linked_front (u ∷ v ∷ p) b h =
      and_in (has_arc arcs u v) (linked arcs (v ∷ p)) (linked_first arcs u v (p ++ b) h) (linked_front (v ∷ p) b (linked_rest arcs u v (p ++ b) h))

  linked_within : (p q : List ℕ) → Within p q → T (linked arcs q) → T (linked arcs p)
  linked_within p q (a, b, e) h = linked_front p b (linked_tail a (p ++ b) (subst (λ (l : List ℕ). T (linked arcs l)) e h))

part_within : (row : List ℕ) (i m : ℕ) → Within (part row i m) row
part_within row i m =
    (take i row, drop m (drop i row), sym (ap (λ (l : List ℕ). take i row ++ l) (take-append-drop m (drop i row)) ∙ take-append-drop i row))

part_length : (row : List ℕ) (i m : ℕ) → i + m ≤ length row → length (part row i m) ≡ m
part_length row i m l = length-take-le m (drop i row) (omega (arith, length-drop i row))

part_shorter : (row : List ℕ) (i m n : ℕ) → m ≤ n → Within (part row i m) (part row i n)
part_shorter row i m n l =
    ([], drop m (part row i n), sym (ap (λ (t : List ℕ). t ++ drop m (part row i n)) (sym (take-take m n (drop i row) l)) ∙ take-append-drop m (part row i n)))

part_before : (row : List ℕ) (i m : ℕ) → i < length row → part row i (suc m) ≡ get_or row i 0 ∷ part row (suc i) m
part_before row i m l = ap (take (suc m)) (drop-cons row i 0 l)

-- ---- where a list stands in the rows

row_among : (C : List (List ℕ)) (r : ℕ) → r < length C → OneOf C (row_of C r)
row_among [] r l = absurd (omega arith)
row_among (q ∷ C) zero l = inl refl
row_among (q ∷ C) (suc r) l = inr (row_among C r (omega arith))

among_row : (C : List (List ℕ)) (q : List ℕ) → OneOf C q → (r : ℕ) × (r < length C) × (q ≡ row_of C r)
among_row [] q m = absurd m
among_row (x ∷ C) q (inl e) = (0, omega arith, e)
among_row (x ∷ C) q (inr m) = let (r, l, e) = among_row C q m in (suc r, omega arith, e)

held_stands : (C : List (List ℕ)) (p : List ℕ) → T (some_holds C p) → (r : ℕ) × (i : ℕ) × StandsAt C p r i
held_stands C p h =
    let (q, m, (a, b, e)) = some_held C p h in
    let (r, l, d) = among_row C q m in
    let at : row_of C r ≡ a ++ (p ++ b) = sym d ∙ e in (
      r,
      length a,
      record {
        row_there = l;
        fits = omega (arith, ap length at, length-append a (p ++ b), length-append p b);
        is_part =
            ap (λ (t : List ℕ). part t (length a) (length p)) at ∙
            (ap (take (length p)) (drop_at a (p ++ b) (length a) refl) ∙ take_at p b (length p) refl);
      },
    )

stands_within : (C : List (List ℕ)) (p : List ℕ) (r i : ℕ) → StandsAt C p r i → Within p (row_of C r)
stands_within C p r i s = subst (λ (t : List ℕ). Within t (row_of C r)) s.is_part (part_within (row_of C r) i (length p))

row_short : (C : List (List ℕ)) (r : ℕ) → r < length C → length (row_of C r) ≤ sum_over length C
row_short [] r l = absurd (omega arith)
row_short (q ∷ C) zero l = omega arith
row_short (q ∷ C) (suc r) l = let h = row_short C r (omega arith) in omega arith

-- whether it stands there
stands? : (C : List (List ℕ)) (p : List ℕ) (r i : ℕ) → StandsAt C p r i ⊎ (StandsAt C p r i → ⊥)
stands? C p r i =
    go (test (ltb r (length C))) (test (leb (i + length p) (length (row_of C r)))) (test (same_path (part (row_of C r) i (length p)) p))
  where
    go : T (ltb r (length C)) ⊎ (T (ltb r (length C)) → ⊥) →
        T (leb (i + length p) (length (row_of C r))) ⊎ (T (leb (i + length p) (length (row_of C r))) → ⊥) →
        T (same_path (part (row_of C r) i (length p)) p) ⊎ (T (same_path (part (row_of C r) i (length p)) p) → ⊥) →
        StandsAt C p r i ⊎ (StandsAt C p r i → ⊥)
    go (inr f) k e = inr (λ at. f (lt→ltb r (length C) at.row_there))
    go (inl t) (inr f) e = inr (λ at. f (le→leb (i + length p) (length (row_of C r)) at.fits))
    go (inl t) (inl k) (inr f) =
        inr (λ at. f (subst (λ (q : List ℕ). T (same_path q p)) (sym at.is_part) (same_path_self p)))
    go (inl t) (inl k) (inl e) =
        inl
        (record {
          row_there = ltb→lt r (length C) t;
          fits = leb→le (i + length p) (length (row_of C r)) k;
          is_part = same_path_equal (part (row_of C r) i (length p)) p e;
        })

-- P of each number below n, or X of one of them
each_below : {X : Type 0} (P : ℕ → Type 0) → ((i : ℕ) → P i ⊎ X) → (n : ℕ) → ((i : ℕ) → i < n → P i) ⊎ X
each_below P f zero = inl (λ i l. absurd (omega arith))
each_below {X} P f (suc n) = go (f n) (each_below P f n)
  where
    last : P n → ((i : ℕ) → i < n → P i) → (i : ℕ) → i < suc n → P i
    last a h i l =
        elim (test (eqb i n)) [
          | inl t ↦ subst P (sym (eqb→eq i n t)) a
          | inr t ↦
              let apart : i ≢ n = unequal i n t in
              h i (omega arith)
        ]

    go : P n ⊎ X → ((i : ℕ) → i < n → P i) ⊎ X → ((i : ℕ) → i < suc n → P i) ⊎ X
    go (inr x) h = inr x
    go (inl a) (inr x) = inr x
    go (inl a) (inl h) = inl (last a h)

-- ---- parts of safe stretches

module _ {E : Type 0} (G : Graph E) (most : ℕ) where
  -- whoever holds the whole holds the part
  pub safe_part : (p q : List ℕ) → Within p q → Safe G most q → Safe G most p
  safe_part p q w s Q c =
      let (r, m, x) = some_held Q q (s Q c) in
      held_some Q p r m (within_trans p q r w x)

  -- a vertex is safe
  pub vertex_safe : (v : ℕ) → v < length G.vertices → Safe G most (v ∷ [])
  vertex_safe v l Q c = c.touched v l

  -- with fewer paths allowed, what was safe stays safe
  pub fewer_allowed_more_safe : (fewer : ℕ) → fewer ≤ most → (p : List ℕ) → Safe G most p → Safe G fewer p
  fewer_allowed_more_safe fewer l p s Q c =
      s Q (record { are_paths = c.are_paths; few = let f = c.few in omega arith; touched = c.touched })

  pub stretch_part : (p q : List ℕ) → 1 ≤ length p → Within p q → SafeStretch G most q → SafeStretch G most p
  stretch_part p q l w s = record { some = l; stretch = linked_within G.arcs p q w s.stretch; safe = safe_part p q w s.safe }

  -- A safe stretch is maximal exactly when neither a vertex in front of it nor one behind it leaves it safe: so candidates may grow by one vertex at a time.
  pub maximal_by_one : (p : List ℕ) → SafeStretch G most p →
      MaximalSafe G most p ↔ (((v : ℕ) → SafeStretch G most (v ∷ p) → ⊥) × ((v : ℕ) → SafeStretch G most (p ++ (v ∷ [])) → ⊥))
  maximal_by_one p s = (
    λ m. (
      λ v t. let l = m.longest (v ∷ p) t (within_holds (v ∷ p) p (v ∷ [], [], ap (λ (q : List ℕ). v ∷ q) (sym (append-nil p)))) in omega arith,
      λ v t.
          let l = m.longest (p ++ (v ∷ [])) t (within_holds (p ++ (v ∷ [])) p ([], v ∷ [], refl)) in
          omega (arith, length-append p (v ∷ [])),
    ),
    λ n. record {
      safe_stretch = s;
      longest = λ q t h. let (a, b, e) = holds_within q p h in not_longer n q t a b e;
    },
  )
    where
      not_longer : ((v : ℕ) → SafeStretch G most (v ∷ p) → ⊥) × ((v : ℕ) → SafeStretch G most (p ++ (v ∷ [])) → ⊥) →
          (q : List ℕ) → SafeStretch G most q → (a b : List ℕ) → q ≡ a ++ (p ++ b) → length q ≤ length p
      not_longer n q t [] [] e = omega (arith, ap length e, length-append p [])
      not_longer n q t [] (v ∷ b) e =
          absurd
          (n.1 v
          (stretch_part (p ++ (v ∷ [])) q (omega (arith, length-append p (v ∷ []))) ([], b, e ∙ sym (append_assoc p (v ∷ []) b)) t))
      not_longer n q t (x ∷ a) b e =
          let (c, v, d) = snoc_split x a in
          absurd
          (n.0 v
          (stretch_part (v ∷ p) q (omega arith) (c, b, e ∙ (ap (λ (l : List ℕ). l ++ (p ++ b)) d ∙ append_assoc c (v ∷ []) (p ++ b))) t))

  -- ---- the sizes along the rows of a cover

  -- a safe stretch that begins at a place and runs along the row has no more vertices than the size there
  size_most : (row : List ℕ) (i m n : ℕ) → SizeIs G most row i m → i + n ≤ length row → Safe G most (part row i n) → n ≤ m
  size_most row i m n s l h = go (test (ltb m n))
    where
      go : T (ltb m n) ⊎ (T (ltb m n) → ⊥) → n ≤ m
      go (inl t) =
          let more = ltb→lt m n t in
          absurd (s.no_more (omega arith) (safe_part (part row i (suc m)) (part row i n) (part_shorter row i (suc m) n (omega arith)) h))
      go (inr f) = nltb→le m n (not_T (ltb m n) f)

  module _ (C : List (List ℕ)) (c : PathCover G most C) (size : ℕ → ℕ → ℕ) (right : SizesRight G most C size) where
    -- every safe stretch stands in a row
    pub safe_stands : (p : List ℕ) → Safe G most p → (r : ℕ) × (i : ℕ) × StandsAt C p r i
    safe_stands p s = held_stands C p (s C c)

    row_linked : (r : ℕ) → r < length C → T (linked G.arcs (row_of C r))
    row_linked r l = links (row_of C r) (all_among (λ p. T (is_path G p)) C (row_of C r) c.are_paths (row_among C r l))
      where
        links : (q : List ℕ) → T (is_path G q) → T (linked G.arcs q)
        links [] h = tt
        links (v ∷ q) h = path_linked G v q h

    -- what the size at a place names is a safe stretch
    size_safe : (r i : ℕ) → r < length C → i < length (row_of C r) → SafeStretch G most (part (row_of C r) i (size r i))
    size_safe r i l k =
        let s = right r i l k in
        record {
          some = let m = s.some in omega (arith, part_length (row_of C r) i (size r i) s.fits);
          stretch = linked_within G.arcs (part (row_of C r) i (size r i)) (row_of C r) (part_within (row_of C r) i (size r i)) (row_linked r l);
          safe = s.safe;
        }

    -- the size at a place where p stands, p safe, is no less than p's length
    stands_size : (p : List ℕ) (r i : ℕ) → SafeStretch G most p → StandsAt C p r i → length p ≤ size r i
    stands_size p r i s at =
        let some = s.some in
        let fits = at.fits in
        size_most (row_of C r) i (size r i) (length p) (right r i at.row_there (omega arith)) fits (subst (Safe G most) (sym at.is_part) s.safe)

    pub kept_is_maximal : (p : List ℕ) → SafeStretch G most p → Kept C size p → MaximalSafe G most p
    kept_is_maximal p s kept = (maximal_by_one p s).1 (front, behind)
      where
        front : (v : ℕ) → SafeStretch G most (v ∷ p) → ⊥
        front v t =
            let (r, j, at) = safe_stands (v ∷ p) t.safe in
            let fits = at.fits in
            let tail : part (row_of C r) (suc j) (length p) ≡ p =
            tail-eq_of_cons-eq (sym (part_before (row_of C r) j (length p) (omega arith)) ∙ at.is_part) in
            let k = (kept r (suc j) (record { row_there = at.row_there; fits = omega arith; is_part = tail })).1 (omega arith) in
            let same : suc j - 1 ≡ j = omega arith in
            let small = subst (λ (i : ℕ). size r i ≤ length p) same k in
            omega (arith, stands_size (v ∷ p) r j t at)

        behind : (v : ℕ) → SafeStretch G most (p ++ (v ∷ [])) → ⊥
        behind v t =
            let (r, j, at) = safe_stands (p ++ (v ∷ [])) t.safe in
            let fits = at.fits in
            let longer = length-append p (v ∷ []) in
            let here : part (row_of C r) j (length p) ≡ p =
            sym (take-take (length p) (length (p ++ (v ∷ []))) (drop j (row_of C r)) (omega arith)) ∙
            (ap (take (length p)) at.is_part ∙ take_at p (v ∷ []) (length p) refl) in
            let k = (kept r j (record { row_there = at.row_there; fits = omega arith; is_part = here })).0 in
            omega (arith, stands_size (p ++ (v ∷ [])) r j t at)

    -- a longer safe stretch that holds p
    abbrev Longer : List ℕ → Type 0
    Longer p = (q : List ℕ) × SafeStretch G most q × Within p q × (length p < length q)

    longer_here : (p : List ℕ) (r i : ℕ) → 1 ≤ length p → StandsAt C p r i → length p < size r i → Longer p
    longer_here p r i some at l =
        let fits = at.fits in
        let s = right r i at.row_there (omega arith) in (
          part (row_of C r) i (size r i),
          size_safe r i at.row_there (omega arith),
          subst (λ (t : List ℕ). Within t (part (row_of C r) i (size r i))) at.is_part (part_shorter (row_of C r) i (length p) (size r i) (omega arith)),
          omega (arith, part_length (row_of C r) i (size r i) s.fits),
        )

    longer_before : (p : List ℕ) (r i : ℕ) → 1 ≤ length p → StandsAt C p r (suc i) → length p < size r i → Longer p
    longer_before p r i some at l =
        let fits = at.fits in
        let s = right r i at.row_there (omega arith) in
        let whole : part (row_of C r) i (suc (length p)) ≡ get_or (row_of C r) i 0 ∷ p =
        part_before (row_of C r) i (length p) (omega arith) ∙ ap (λ (q : List ℕ). get_or (row_of C r) i 0 ∷ q) at.is_part in
        let front : Within p (get_or (row_of C r) i 0 ∷ p) =
        (get_or (row_of C r) i 0 ∷ [], [], ap (λ (q : List ℕ). get_or (row_of C r) i 0 ∷ q) (sym (append-nil p))) in (
          part (row_of C r) i (size r i),
          size_safe r i at.row_there (omega arith),
          within_trans p (get_or (row_of C r) i 0 ∷ p) (part (row_of C r) i (size r i)) front
              (subst (λ (q : List ℕ). Within q (part (row_of C r) i (size r i))) whole
              (part_shorter (row_of C r) i (suc (length p)) (size r i) (omega arith))),
          omega (arith, part_length (row_of C r) i (size r i) s.fits),
        )

    -- p is kept as far as this place goes
    abbrev KeptAt : List ℕ → ℕ → ℕ → Type 0
    KeptAt p r i = StandsAt C p r i → (size r i ≤ length p) × (1 ≤ i → size r (i - 1) ≤ length p)

    -- and where it is not, a longer safe stretch is found there
    kept_at : (p : List ℕ) → 1 ≤ length p → (r i : ℕ) → KeptAt p r i ⊎ Longer p
    kept_at p some r i = go (stands? C p r i)
      where
        no_more : (m : ℕ) → (length p < m → Longer p) → (m ≤ length p) ⊎ Longer p
        no_more m longer =
            elim (test (ltb (length p) m)) [
              | inl t ↦ inr (longer (ltb→lt (length p) m t))
              | inr f ↦ inl (nltb→le (length p) m (not_T (ltb (length p) m) f))
            ]

        both : (i : ℕ) → StandsAt C p r i → size r i ≤ length p → KeptAt p r i ⊎ Longer p
        both zero at h = inl (λ k. (h, λ l. absurd (omega arith)))
        both (suc j) at h =
            let same : suc j - 1 ≡ j = omega arith in
            elim (no_more (size r j) (longer_before p r j some at)) [
              | inl k ↦ inl (λ e. (h, λ l. subst (λ (n : ℕ). size r n ≤ length p) (sym same) k))
              | inr q ↦ inr q
            ]

        go : StandsAt C p r i ⊎ (StandsAt C p r i → ⊥) → KeptAt p r i ⊎ Longer p
        go (inr none) = inl (λ at. absurd (none at))
        go (inl at) = elim (no_more (size r i) (longer_here p r i some at)) [ inl h ↦ both i at h | inr q ↦ inr q ]

    kept_or_longer : (p : List ℕ) → 1 ≤ length p → Kept C size p ⊎ Longer p
    kept_or_longer p some =
        elim (
        each_below (λ r. (i : ℕ) → i < suc (length (row_of C r)) → KeptAt p r i) (λ r. each_below (KeptAt p r) (kept_at p some r) (suc (length (row_of C r))))
        (length C)
        ) [
          | inl h ↦ inl (λ r i at. let fits = at.fits in h r at.row_there i (omega arith) at)
          | inr q ↦ inr q
        ]

    pub maximal_is_kept : (p : List ℕ) → MaximalSafe G most p → Kept C size p
    maximal_is_kept p m =
        elim (kept_or_longer p m.safe_stretch.some) [
          | inl kept ↦ kept
          | inr longer ↦
              let (q, s, w, l) = longer in
              let h = m.longest q s (within_holds q p w) in
              absurd (omega arith)
        ]

    -- The maximal safe stretches are what the sizes name and is kept.
    pub maximal_iff_kept : (p : List ℕ) →
        MaximalSafe G most p ↔
        ((r : ℕ) × (i : ℕ) × (r < length C) × (i < length (row_of C r)) × (p ≡ part (row_of C r) i (size r i)) × Kept C size p)
    maximal_iff_kept p = (there, λ h. back h.0 h.1 h.2 h.3 h.4 h.5)
      where
        there : MaximalSafe G most p →
            (r : ℕ) × (i : ℕ) × (r < length C) × (i < length (row_of C r)) × (p ≡ part (row_of C r) i (size r i)) × Kept C size p
        there m =
            let (r, i, at) = safe_stands p m.safe_stretch.safe in
            let kept = maximal_is_kept p m in
            let fits = at.fits in
            let some = m.safe_stretch.some in
            let same : length p ≡ size r i = omega (arith, (kept r i at).0, stands_size p r i m.safe_stretch at) in
            (r, i, at.row_there, omega arith, sym at.is_part ∙ ap (part (row_of C r) i) same, kept)

        back : (r i : ℕ) → r < length C → i < length (row_of C r) → p ≡ part (row_of C r) i (size r i) → Kept C size p → MaximalSafe G most p
        back r i l k e kept = kept_is_maximal p (subst (SafeStretch G most) (sym e) (size_safe r i l k)) kept

    -- ---- nothing is lost: every safe stretch lies in a maximal one

    safe_short : (p : List ℕ) → SafeStretch G most p → length p ≤ sum_over length C
    safe_short p s =
        let (r, i, at) = safe_stands p s.safe in
        let fits = at.fits in
        omega (arith, row_short C r at.row_there)

    grow : (fuel : ℕ) (p : List ℕ) → SafeStretch G most p → sum_over length C ≤ length p + fuel → (q : List ℕ) × MaximalSafe G most q × Within p q
    grow zero p s l =
        elim (kept_or_longer p s.some) [
          | inl kept ↦ (p, kept_is_maximal p s kept, within_self p)
          | inr longer ↦
              let (q, t, w, m) = longer in
              absurd (omega (arith, safe_short q t))
        ]
    grow (suc fuel) p s l =
        elim (kept_or_longer p s.some) [
          | inl kept ↦ (p, kept_is_maximal p s kept, within_self p)
          | inr longer ↦
              let (q, t, w, m) = longer in
              let (x, h, v) = grow fuel q t (omega arith) in
              (x, h, within_trans p q x w v)
        ]

    pub nothing_lost : (p : List ℕ) → SafeStretch G most p → (q : List ℕ) × MaximalSafe G most q × T (holds q p)
    nothing_lost p s = let (q, m, w) = grow (sum_over length C) p s (omega arith) in (q, m, within_holds q p w)

    -- so every vertex lies in a maximal safe stretch, and the list is not empty
    pub every_vertex_listed : (v : ℕ) → v < length G.vertices → (q : List ℕ) × MaximalSafe G most q × T (holds q (v ∷ []))
    every_vertex_listed v l = nothing_lost (v ∷ []) (record { some = omega arith; stretch = tt; safe = vertex_safe v l })

-- ---- one list

-- Two lists that rise strictly, in any order that goes on and puts nothing before itself, are equal where they have the same members.
pub listed_once : {A : Type 0} (R : A → A → Type 0) → ((x : A) → R x x → ⊥) → ((x y z : A) → R x y → R y z → R x z) → (xs ys : List A) → Pairwise R xs →
    Pairwise R ys → ((x : A) → OneOf xs x ↔ OneOf ys x) → xs ≡ ys
listed_once R never on [] [] h k same = refl
listed_once R never on [] (y ∷ ys) h k same = absurd ((same y).1 (inl refl))
listed_once R never on (x ∷ xs) [] h k same = absurd ((same x).0 (inl refl))
listed_once {A} R never on (x ∷ xs) (y ∷ ys) h k same = ap₂ {B = List A} ◌∷◌ first (listed_once R never on xs ys h.1 k.1 others)
  where
    first : x ≡ y
    first = go ((same x).0 (inl refl)) ((same y).1 (inl refl))
      where
        go : OneOf (y ∷ ys) x → OneOf (x ∷ xs) y → x ≡ y
        go (inl e) m = e
        go (inr n) (inl e) = sym e
        go (inr n) (inr m) = absurd (never x (on x y x (all_among (R x) xs y h.0 m) (all_among (R y) ys x k.0 n)))

    others : (w : A) → OneOf xs w ↔ OneOf ys w
    others w = (
      λ m. elim ((same w).0 (inr m)) [
        | inl e ↦ absurd (never x (subst (R x) (e ∙ sym first) (all_among (R x) xs w h.0 m)))
        | inr n ↦ n
      ],
      λ m. elim ((same w).1 (inr m)) [
        | inl e ↦ absurd (never y (subst (R y) (e ∙ first) (all_among (R y) ys w k.0 m)))
        | inr n ↦ n
      ],
    )
