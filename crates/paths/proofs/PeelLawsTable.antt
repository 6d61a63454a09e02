-- Laws of the table of collected paths: comparing two paths, finding a path's row, putting it there, and letting its weight grow.
use Rattle.std.proofs.Common.{◌≡◌, ℕ, zero, suc, ◌+◌, ◌-◌, ◌≤◌, ◌<◌, ◌≢◌, List, ◌∷◌, ◌++◌, T, Bool, true, length, set, Less, Equal, Greater, nat_cmp, is_eq, is_lt, is_gt, refl, sym, ap, ap₂, subst, subst₂, ◌∙◌, ◌⊎◌, inl, inr, ⊎_elim, arith, length-set, get_or-set_same, get_or-set_other}
use Rattle.std.specs.Cmp.Lexicographic.{slice_cmp}
use Rattle.std.specs.List.{CopiedTo, SameBelow}
use Rattle.std.proofs.lemmas.Bool.Decides.{nat_tests}
use Rattle.std.proofs.lemmas.Cmp.{same_from_slice_cmp}
use Rattle.std.proofs.lemmas.Map.Text.{is_eq-slice_cmp}
use Rattle.std.proofs.lemmas.Slice.Eq.{bytes_eq-Decides}
use Rattle.forms.specs.AnswerFaults.{list_before}
use Rattle.forms.specs.Bytes.{tabulate}
use Rattle.network.specs.Network.{most_edges}
use Rattle.network.proofs.NetworkLaws.{same_or_not, below_or_not}
use Rattle.paths.specs.declared.collect.Path.{Path}
use Rattle.paths.specs.declared.collect.Paths.{Paths}
use Rattle.paths.specs.Peel.{no_path, vertices_of, weighted_of, path_at, path_in_row, collected_at, collected, RowFits, PathTable, Belongs, Inserted, fresh, added, Collected}
use Rattle.reads.specs.ReadTable.{row_length}

-- what the comparison of two lists of vertices says of their order
true_so : (b : Bool) → true ≡ b → T b
true_so b e = subst T e tt

pub less_before : (p q : List ℕ) → Less ≡ slice_cmp nat_cmp p q → T (list_before p q)
less_before p q e =
    true_so (list_before p q)
    (same_from_slice_cmp nat_cmp is_lt list_before refl (λ _ _. refl) (λ _ _. refl) (λ x y xs ys o h. grind (arith, nat_tests)) p q Less e)

pub greater_after : (p q : List ℕ) → Greater ≡ slice_cmp nat_cmp p q → T (list_before q p)
greater_after p q e =
    true_so (list_before q p)
    (same_from_slice_cmp nat_cmp is_gt (λ xs ys. list_before ys xs) refl (λ _ _. refl) (λ _ _. refl) (λ x y xs ys o h. grind (arith, nat_tests)) p q Greater e)

pub equal_same : (p q : List ℕ) → Equal ≡ slice_cmp nat_cmp p q → p ≡ q
equal_same p q e = (bytes_eq-Decides p q).0 (sym (is_eq-slice_cmp p q) ∙ ap is_eq (sym e))

-- looking for the path p from the last row down: it belongs before row i
pub record Seeking (table : Paths) (p : List ℕ) (i : ℕ) : Type 0 where
  pub within : i ≤ table.count
  pub after : i < table.count → T (list_before p (path_in_row table i))

-- behind a path that stands before p, it belongs into the next row
pub belongs_behind : (table : Paths) (p : List ℕ) (i : ℕ) → 1 ≤ i → Seeking table p i → Greater ≡ slice_cmp nat_cmp p (path_in_row table (i - 1)) →
    Belongs table p (i - 1 + 1)
belongs_behind table p i b seeking e =
    let same : i ≡ i - 1 + 1 = omega arith in
    subst (Belongs table p) same (record { within = seeking.within; before = λ h. greater_after p _ e; after = seeking.after })

-- lists made from numbers: taken apart, and one made from what another is made from
module _ {A : Type 0} where
  tab_split : (f : ℕ → A) (a b n first mid : ℕ) → n ≡ a + b → mid ≡ first + a → tabulate f n first ≡ tabulate f a first ++ tabulate f b mid
  tab_split f zero b n first mid p q = let e : n ≡ b = omega arith in let d : first ≡ mid = omega arith in ap₂ (tabulate f) e d
  tab_split f (suc a) b zero first mid p q = absurd (omega arith)
  tab_split f (suc a) b (suc n) first mid p q =
      ap (λ (xs : List A). f first ∷ xs) (tab_split f a b n (suc first) mid (omega arith) (omega arith))

  tab_same : (f g : ℕ → A) (n first : ℕ) → ((k : ℕ) → first ≤ k → k < first + n → f k ≡ g k) → tabulate f n first ≡ tabulate g n first
  tab_same f g zero first h = refl
  tab_same f g (suc n) first h = ap₂ ◌∷◌ (h first (omega arith) (omega arith)) (tab_same f g n (suc first) (λ k a b. h k (omega arith) (omega arith)))

  tab_next : (f g : ℕ → A) (n first : ℕ) → ((k : ℕ) → first ≤ k → k < first + n → f (suc k) ≡ g k) → tabulate f n (suc first) ≡ tabulate g n first
  tab_next f g zero first h = refl
  tab_next f g (suc n) first h = ap₂ ◌∷◌ (h first (omega arith) (omega arith)) (tab_next f g n (suc first) (λ k a b. h k (omega arith) (omega arith)))

-- a path put into row i, from which on the rows have moved one place on
module _ (table : Paths) (right : PathTable table) (path : Path) (i : ℕ) (room : table.count < most_edges) (fits : RowFits path.row path.size)
    (belongs : Belongs table (vertices_of path) i) (mid : List Path) (long : length mid ≡ length table.rows)
    (moved : CopiedTo table.rows mid i (i + 1) (table.count - i)) (kept : SameBelow table.rows mid (i + 1)) where
  abbrev after : Paths
  after = record { rows = set mid i path; count = table.count + 1 }

  row_before : (k : ℕ) → k < i → path_at after k ≡ path_at table k
  row_before k h = get_or-set_other mid i k path no_path (λ q. omega arith) ∙ kept k no_path (omega arith)

  row_here : path_at after i ≡ path
  row_here = get_or-set_same mid i path no_path (omega (arith, right.tall, belongs.within))

  row_after : (k : ℕ) → i < k → k ≤ table.count → path_at after k ≡ path_at table (k - 1)
  row_after k h l =
      get_or-set_other mid i k path no_path (λ q. omega arith) ∙
      (moved k no_path (omega arith) (omega arith) ∙ ap (path_at table) (omega arith))

  -- of each row of the new table
  each : (P : Path → Type 0) → P path → ((k : ℕ) → k < table.count → P (path_at table k)) → (k : ℕ) → k < table.count + 1 → P (path_at after k)
  each P p h k l =
      ⊎_elim (λ q. subst P (sym (row_before k q)) (h k (omega (arith, belongs.within))))
      (λ q.
      ⊎_elim (λ e. subst (λ (j : ℕ). P (path_at after j)) (sym e) (subst P (sym row_here) p))
      (λ n. subst P (sym (row_after k (omega arith) (omega arith))) (h (k - 1) (omega arith))) (same_or_not k i)) (below_or_not k i)

  Before : ℕ → Type 0
  Before k = T (list_before (path_in_row after k) (path_in_row after (k + 1)))

  -- two rows of the new table ascend where the paths in them do
  joined : (k : ℕ) (p q : Path) → path_at after k ≡ p → path_at after (k + 1) ≡ q → T (list_before (vertices_of p) (vertices_of q)) → Before k
  unfolding Before
  joined k p q e d = subst₂ (λ x y. T (list_before x y)) (ap vertices_of (sym e)) (ap vertices_of (sym d))

  put_ascends : (k : ℕ) → k + 1 < table.count + 1 → Before k
  put_ascends k l = place (below_or_not (k + 1) i) (same_or_not (k + 1) i) (same_or_not k i)
    where
      place : (k + 1 < i) ⊎ (i ≤ k + 1) → (k + 1 ≡ i) ⊎ (k + 1 ≢ i) → (k ≡ i) ⊎ (k ≢ i) → Before k
      place (inl q) e n = joined k _ _ (row_before k (omega arith)) (row_before (k + 1) q) (right.ascends k (omega (arith, belongs.within)))
      place (inr q) (inl e) n =
          joined k _ _ (row_before k (omega arith) ∙ ap (path_at table) (omega arith)) (ap (path_at after) e ∙ row_here) (belongs.before (omega arith))
      place (inr q) (inr m) (inl e) =
          joined k _ _ (ap (path_at after) e ∙ row_here) (row_after (k + 1) (omega arith) (omega arith) ∙ ap (path_at table) (omega arith)) (belongs.after (omega arith))
      place (inr q) (inr m) (inr n) =
          joined k _ _ (row_after k (omega arith) (omega arith)) (row_after (k + 1) (omega arith) (omega arith) ∙ ap (path_at table) (omega arith))
          (right.ascends (k - 1) (omega arith))

  put_table : PathTable after
  unfolding Before
  put_table =
      record {
        counted = omega (arith, room);
        tall = length-set mid i path ∙ long ∙ right.tall;
        wide = each (λ p. length p.row ≡ row_length) fits.wide right.wide;
        fit = each (λ p. p.size ≤ row_length) fits.fit right.fit;
        ascends = put_ascends;
      }

  put_inserted : Inserted (weighted_of path) (collected table) (collected after)
  unfolding collected
  put_inserted =
      fresh (tabulate (collected_at table) i 0) (tabulate (collected_at table) (table.count - i) i)
      (tab_split (collected_at table) i (table.count - i) table.count 0 i (omega (arith, belongs.within)) (omega arith))
      (tab_split (collected_at after) i (suc (table.count - i)) (table.count + 1) 0 i (omega (arith, belongs.within)) (omega arith) ∙
      ap₂ ◌++◌ (tab_same (collected_at after) (collected_at table) i 0 (λ k x y. ap weighted_of (row_before k (omega arith))))
      (ap₂ ◌∷◌ (ap weighted_of row_here)
      (tab_next (collected_at after) (collected_at table) (table.count - i) i
      (λ k x y. ap weighted_of (row_after (suc k) (omega arith) (omega (arith, belongs.within)) ∙ ap (path_at table) (omega arith))))))

  pub put_collected : Collected (weighted_of path) table after
  put_collected = record { table = put_table; inserted = put_inserted; few = omega arith }

-- the weight of row i grows
module _ (table : Paths) (right : PathTable table) (p : List ℕ) (weight i : ℕ) (b : i < table.count) (e : p ≡ path_in_row table i) where
  abbrev grown : Path
  grown = record { weight = (path_at table i).weight + weight; size = (path_at table i).size; row = (path_at table i).row }

  abbrev more : Paths
  more = record { rows = set table.rows i grown; count = table.count }

  row_other : (k : ℕ) → k ≢ i → path_at more k ≡ path_at table k
  row_other k n = get_or-set_other table.rows i k grown no_path n

  row_grown : path_at more i ≡ grown
  row_grown = get_or-set_same table.rows i grown no_path (omega (arith, right.tall, right.counted))

  -- each row of the new table has the vertices of the old one
  vertices_kept : (P : ℕ → List ℕ → Type 0) → ((k : ℕ) → k < table.count → P (path_at table k).size (path_at table k).row) → (k : ℕ) → k < table.count →
      P (path_at more k).size (path_at more k).row
  vertices_kept P h k l =
      ⊎_elim
      (λ q. subst (λ (j : ℕ). P (path_at more j).size (path_at more j).row) (sym q)
      (subst (λ (r : Path). P r.size r.row) (sym row_grown) (h i b)))
      (λ n. subst (λ (r : Path). P r.size r.row) (sym (row_other k n)) (h k l)) (same_or_not k i)

  path_kept : (k : ℕ) → path_in_row more k ≡ path_in_row table k
  path_kept k =
      ⊎_elim (λ q. ap (path_in_row more) q ∙ (ap vertices_of row_grown ∙ ap (path_in_row table) (sym q))) (λ n. ap vertices_of (row_other k n))
      (same_or_not k i)

  same_collected : (k : ℕ) → k ≢ i → collected_at more k ≡ collected_at table k
  same_collected k n = ap weighted_of (row_other k n)

  grown_inserted : Inserted (record { weight = weight; path = p }) (collected table) (collected more)
  unfolding collected
  grown_inserted =
      added (tabulate (collected_at table) i 0) (tabulate (collected_at table) (table.count - suc i) (suc i)) (path_at table i).weight
      (tab_split (collected_at table) i (suc (table.count - suc i)) table.count 0 i (omega arith) (omega arith) ∙
      ap
      (λ (q : List ℕ).
      tabulate (collected_at table) i 0 ++
      (record { weight = (path_at table i).weight; path = q } ∷ tabulate (collected_at table) (table.count - suc i) (suc i)))
      (sym e))
      (tab_split (collected_at more) i (suc (table.count - suc i)) table.count 0 i (omega arith) (omega arith) ∙
      ap₂ ◌++◌ (tab_same (collected_at more) (collected_at table) i 0 (λ k x y. same_collected k (λ q. omega arith)))
      (ap₂ ◌∷◌
      (ap₂ (λ (x : ℕ) (q : List ℕ). record { weight = x; path = q }) (ap (λ (r : Path). r.weight) row_grown) (path_kept i ∙ sym e))
      (tab_same (collected_at more) (collected_at table) (table.count - suc i) (suc i) (λ k x y. same_collected k (λ q. omega arith)))))

  pub grown_collected : Collected (record { weight = weight; path = p }) table more
  grown_collected =
      record {
        table =
            record {
              counted = right.counted;
              tall = length-set table.rows i grown ∙ right.tall;
              wide = vertices_kept (λ n r. length r ≡ row_length) right.wide;
              fit = vertices_kept (λ n r. n ≤ row_length) right.fit;
              ascends = λ k l. subst₂ (λ x y. T (list_before x y)) (sym (path_kept k)) (sym (path_kept (k + 1))) (right.ascends k l);
            };
        inserted = grown_inserted;
        few = omega arith;
      }
