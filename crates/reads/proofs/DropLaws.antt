-- Moving the reads that are kept up to the front of the table, one row a turn: what holds between turns, and that at the end the dropped reads are gone.
use Rattle.std.proofs.Common.{ℕ, zero, suc, ◌+◌, ◌≤◌, ◌<◌, ◌≡◌, refl, sym, ap, subst, ◌∙◌, List, [], ◌∷◌, ◌++◌, append-nil, append_assoc, Bool, true, false, cond, ◌||◌, length, get_or, take, drop, set, arith, add-one, add-zero, length-set, drop_of_length-le, take-suc, drop-cons, take-take, take-suc-set, drop-set-lt, drop-drop, get_or-drop, get_or-set_same, get_or-set_other}
use Rattle.std.proofs.Math.Decide.{dec_lt}
use Rattle.mathematics.specs.Lists.{All, some_holds}
use Rattle.mathematics.specs.Prepare.{some_longer, drop_parts}
use Rattle.mathematics.proofs.Dropped.{dropped_all}
use Rattle.mathematics.proofs.Basics.{at_all}
use Rattle.reads.specs.ReadTable.{row_at, used, rows_of, ReadHolds, TableHolds, held_from, longer_from, gone, table_rows, row_length}
use Rattle.reads.proofs.TableRows.{used_set, used_rows, used_row, table_length, table_get}

-- what holds of all and of a new element holds after it is stored
pub all_set : {A : Type 0} (P : A → Type 0) (xs : List A) (i : ℕ) (x : A) → All P xs → P x → All P (set xs i x)
all_set P [] i x h p = tt
all_set P (y ∷ xs) zero x h p = (p, h.1)
all_set P (y ∷ xs) (suc i) x h p = (h.0, all_set P xs i x h.1 p)

-- what dropping leaves of the reads from the i-th on
abbrev Left : List (List ℕ) → ℕ → List (List ℕ)
Left rs i = drop_parts (take i rs) (drop i rs)

left_step : (rs : List (List ℕ)) (i : ℕ) → i < length rs →
    Left rs i ≡ cond (some_holds (take i rs) (get_or rs i []) || some_longer (drop (i + 1) rs) (get_or rs i [])) (Left rs (i + 1)) (get_or rs i [] ∷ Left rs (i + 1))
left_step rs i l = rw (add-one i, take-suc rs i [] l, drop-cons rs i [] l)

module _ (rows : List (List ℕ)) (lens : List ℕ) (count : ℕ) (t : TableHolds rows lens count) (i : ℕ) (l : i < count) where
  gone_test : gone rows lens count i ≡ some_holds (take i (rows_of rows lens count)) (get_or (rows_of rows lens count) i []) || some_longer (drop (i + 1) (rows_of rows lens count)) (get_or (rows_of rows lens count) i [])
  unfolding gone held_from longer_from rows_of
  gone_test =
      rw (table_get rows lens count t i l, take-take i count (used rows lens) (omega arith))

  left_gone : true ≡ gone rows lens count i → Left (rows_of rows lens count) i ≡ Left (rows_of rows lens count) (i + 1)
  left_gone e =
      left_step (rows_of rows lens count) i (omega (arith, table_length rows lens count t))
      ∙ ap (λ (b : Bool). cond b (Left (rows_of rows lens count) (i + 1)) (get_or (rows_of rows lens count) i [] ∷ Left (rows_of rows lens count) (i + 1))) (sym (e ∙ gone_test))

  left_kept : false ≡ gone rows lens count i →
      Left (rows_of rows lens count) i ≡ get_or (rows_of rows lens count) i [] ∷ Left (rows_of rows lens count) (i + 1)
  left_kept e =
      left_step (rows_of rows lens count) i (omega (arith, table_length rows lens count t))
      ∙ ap (λ (b : Bool). cond b (Left (rows_of rows lens count) (i + 1)) (get_or (rows_of rows lens count) i [] ∷ Left (rows_of rows lens count) (i + 1))) (sym (e ∙ gone_test))

-- i rows of the table were looked at, and w of them kept, in the first w rows
pub record Moved (rows₀ : List (List ℕ)) (lens₀ : List ℕ) (count : ℕ) (rows : List (List ℕ)) (lens : List ℕ) (i w : ℕ) : Type 0 where
  pub far : i ≤ count
  pub less : w ≤ i
  pub tall : length rows ≡ table_rows
  pub wide : All (λ r. length r ≡ row_length) rows
  pub sized : length lens ≡ table_rows
  pub fit : (k : ℕ) → k < w → get_or lens k 0 ≤ row_length
  pub same : (k : ℕ) → i ≤ k → get_or lens k 0 ≡ get_or lens₀ k 0
  pub rest : drop i (used rows lens) ≡ drop i (used rows₀ lens₀)
  pub kept : take w (used rows lens) ++ drop_parts (take i (rows_of rows₀ lens₀ count)) (drop i (rows_of rows₀ lens₀ count)) ≡ drop_parts [] (rows_of rows₀ lens₀ count)

-- nothing looked at, nothing kept
pub moved_start : (rows : List (List ℕ)) (lens : List ℕ) (count : ℕ) → TableHolds rows lens count → Moved rows lens count rows lens 0 0
moved_start rows lens count t =
    record {
      far = omega arith;
      less = omega arith;
      tall = t.tall;
      wide = t.wide;
      sized = t.sized;
      fit = λ k l. absurd (omega arith);
      same = λ k l. refl;
      rest = refl;
      kept = refl;
    }

-- two lists that agree from a place on agree from the next on, and at that place
pub later : {A : Type 0} (xs ys : List A) (i : ℕ) → drop i xs ≡ drop i ys → drop (i + 1) xs ≡ drop (i + 1) ys
later xs ys i e = sym (drop-drop 1 i xs) ∙ (ap (drop 1) e ∙ drop-drop 1 i ys)

-- two lists that agree from a place on agree at that place
pub there : {A : Type 0} (d : A) (xs ys : List A) (i : ℕ) → drop i xs ≡ drop i ys → get_or xs i d ≡ get_or ys i d
there d xs ys i e =
    ap (λ (k : ℕ). get_or xs k d) (sym (add-zero i))
    ∙ (sym (get_or-drop i xs 0 d) ∙ (ap (λ (l : List _). get_or l 0 d) e ∙ (get_or-drop i ys 0 d ∙ ap (λ (k : ℕ). get_or ys k d) (add-zero i))))

module _ (rows₀ : List (List ℕ)) (lens₀ : List ℕ) (count : ℕ) (rows : List (List ℕ)) (lens : List ℕ) (i w : ℕ) (t : TableHolds rows₀ lens₀ count) (m : Moved rows₀ lens₀ count rows lens i w) where
  -- a read that is dropped stays behind
  pub moved_skip : i < count → true ≡ gone rows₀ lens₀ count i → Moved rows₀ lens₀ count rows lens (i + 1) w
  moved_skip l e =
      record {
        far = omega arith;
        less = omega (arith, m.less);
        tall = m.tall;
        wide = m.wide;
        sized = m.sized;
        fit = m.fit;
        same = λ k h. m.same k (omega arith);
        rest = later (used rows lens) (used rows₀ lens₀) i m.rest;
        kept = ap (λ (q : List (List ℕ)). take w (used rows lens) ++ q) (sym (left_gone rows₀ lens₀ count t i l e)) ∙ m.kept;
      }

  keep_read : i < count → take (get_or lens i 0) (get_or rows i []) ≡ get_or (rows_of rows₀ lens₀ count) i []
  unfolding row_at
  keep_read l =
      sym (used_row rows lens m.tall m.sized i (omega (arith, t.counted)))
      ∙ (there [] (used rows lens) (used rows₀ lens₀) i m.rest
      ∙ (used_row rows₀ lens₀ t.tall t.sized i (omega (arith, t.counted)) ∙ sym (table_get rows₀ lens₀ count t i l)))

  keep_used : i < count →
      used (set rows w (get_or rows i [])) (set lens w (get_or lens i 0)) ≡ set (used rows lens) w (get_or (rows_of rows₀ lens₀ count) i [])
  keep_used l =
      used_set rows lens w (get_or rows i []) (get_or lens i 0) ∙ ap (set (used rows lens) w) (keep_read l)

  keep_front : i < count →
      take (w + 1) (used (set rows w (get_or rows i [])) (set lens w (get_or lens i 0))) ≡ take w (used rows lens) ++ (get_or (rows_of rows₀ lens₀ count) i [] ∷ [])
  keep_front l =
      ap (take (w + 1)) (keep_used l)
      ∙ rw (add-one w) (take-suc-set (used rows lens) w (get_or (rows_of rows₀ lens₀ count) i []) (omega (arith, used_rows rows lens m.tall m.sized, m.less, t.counted)))

  keep_fit : i < count → (k : ℕ) → k < w + 1 → get_or (set lens w (get_or lens i 0)) k 0 ≤ row_length
  keep_fit l k h =
      elim (dec_lt k w) [
        | yes b ↦ omega (arith, get_or-set_other lens w k (get_or lens i 0) 0 (omega arith), m.fit k b)
        | no b ↦
            let here : k ≡ w = omega arith in
            let put : get_or (set lens w (get_or lens i 0)) w 0 ≡ get_or lens i 0 = get_or-set_same lens w (get_or lens i 0) 0 (omega (arith, m.sized, m.less, t.counted)) in
            rw here (omega (arith, put, m.same i (omega arith), t.fit i l))
      ]

  -- a read that is kept goes to the next free row
  pub moved_keep : i < count → false ≡ gone rows₀ lens₀ count i →
      Moved rows₀ lens₀ count (set rows w (get_or rows i [])) (set lens w (get_or lens i 0)) (i + 1) (w + 1)
  moved_keep l e =
      record {
        far = omega arith;
        less = omega (arith, m.less);
        tall = length-set rows w (get_or rows i []) ∙ m.tall;
        wide = all_set (λ (r : List ℕ). length r ≡ row_length) rows w (get_or rows i []) m.wide (at_all (λ (r : List ℕ). length r ≡ row_length) [] rows m.wide i (omega (arith, m.tall, t.counted)));
        sized = length-set lens w (get_or lens i 0) ∙ m.sized;
        fit = keep_fit l;
        same = λ k h. get_or-set_other lens w k (get_or lens i 0) 0 (omega (arith, m.less)) ∙ m.same k (omega arith);
        rest = ap (drop (i + 1)) (keep_used l) ∙ (drop-set-lt (i + 1) (used rows lens) w (get_or (rows_of rows₀ lens₀ count) i []) (omega (arith, m.less)) ∙ later (used rows lens) (used rows₀ lens₀) i m.rest);
        kept =
            ap (λ (q : List (List ℕ)). q ++ Left (rows_of rows₀ lens₀ count) (i + 1)) (keep_front l)
            ∙ (append_assoc (take w (used rows lens)) (get_or (rows_of rows₀ lens₀ count) i [] ∷ []) (Left (rows_of rows₀ lens₀ count) (i + 1))
            ∙ (ap (λ (q : List (List ℕ)). take w (used rows lens) ++ q) (sym (left_kept rows₀ lens₀ count t i l e)) ∙ m.kept));
      }

  -- at the end the kept rows are what dropping leaves
  pub moved_end : count ≤ i → rows_of rows lens w ≡ drop_parts [] (rows_of rows₀ lens₀ count)
  unfolding rows_of
  moved_end l =
      sym (append-nil (take w (used rows lens)))
      ∙ (ap (λ (q : List (List ℕ)). take w (used rows lens) ++ drop_parts (take i (rows_of rows₀ lens₀ count)) q)
      (sym (drop_of_length-le (rows_of rows₀ lens₀ count) {i = i} (omega (arith, table_length rows₀ lens₀ count t))))
      ∙ m.kept)

  -- and they are a table of reads
  pub moved_table : count ≤ i → TableHolds rows lens w
  moved_table l =
      record {
        counted = omega (arith, m.far, m.less, t.counted);
        tall = m.tall;
        wide = m.wide;
        sized = m.sized;
        fit = m.fit;
        reads = subst (All ReadHolds) (sym (moved_end l)) (dropped_all ReadHolds [] (rows_of rows₀ lens₀ count) t.reads);
      }
