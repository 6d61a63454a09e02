-- Laws of writing a walk's path into a row, over plain lists.
use Rattle.std.proofs.Common.{ℕ, ◌+◌, ◌-◌, ◌≤◌, ◌<◌, arith, add-one, ◌≡◌, sym, ap, subst, ◌∙◌, List, [], ◌∷◌, ◌++◌, map, append_assoc, append-nil, length, get_or, set, take, drop, length-set, length-append, length-drop, take-append-drop, take-suc, take-suc-set, length-take-le}
use Rattle.std.proofs.Math.Seq.{take-append_seam}
use Rattle.mathematics.proofs.Links.{Link, reading, link_vertices, path_of}
use Rattle.reads.specs.ReadTable.{row_at, RowHolds, row_length}
use Rattle.reads.proofs.TableRows.{table_get, table_row}
use Rattle.network.specs.Network.{nth}
use Rattle.paths.specs.Slots.{prepared_of, all_slots, link_at, reading_slot}
use Rattle.paths.specs.Peel.{ReadsHeld, Written}
use Rattle.paths.proofs.SlotKinds.{SlotKind, is_inside, is_across, is_opening, is_closing, slot_kind, at_inside, at_reading}

-- as many vertices as there are places, written behind the first r numbers of a row
copied : (row vs : List ℕ) (r k : ℕ) → length row ≡ row_length → r + k ≤ row_length → length vs ≡ k →
    Written row r vs (take r row ++ (vs ++ drop k (drop r row))) (r + k)
copied row vs r k w b l =
    let first = length-take-le r row (omega arith) in
    let front : List ℕ = take r row ++ vs in
    let e : r + k ≡ length front = omega (arith, length-append (take r row) vs) in
    record {
      wide = simp (length-append, length-drop) (omega arith);
      end_right = omega arith;
      stand =
          ap (take (r + k)) (sym (append_assoc (take r row) vs (drop k (drop r row)))) ∙
          (ap (λ (n : ℕ). take n (front ++ drop k (drop r row))) e ∙ take-append_seam front (drop k (drop r row)));
    }

module _ (s : List ℕ) (vertices plain : ℕ) (rows : List (List ℕ)) (lens : List ℕ) (held : ReadsHeld s vertices plain rows lens) (e : ℕ) where
  vertex_link : e < vertices → link_vertices (link_at s e) ≡ e ∷ []
  vertex_link h = ap link_vertices (at_inside s e (omega (arith, held.vertices_right)))

  other_link : vertices ≤ e → e < plain → link_vertices (link_at s e) ≡ []
  other_link h l = kind (slot_kind s e (omega (arith, held.plain_right)))
    where
      kind : SlotKind s e → link_vertices (link_at s e) ≡ []
      kind (is_inside v b q i) = absurd (omega (arith, held.vertices_right))
      kind (is_across a b q i) = ap link_vertices i
      kind (is_opening v b q i) = ap link_vertices i
      kind (is_closing v b q i) = ap link_vertices i

  read_row : plain ≤ e → e < all_slots s → e - plain < length (prepared_of s)
  read_row h b = omega (arith, held.plain_right)

  pub read_holds : plain ≤ e → e < all_slots s → RowHolds rows lens (e - plain)
  read_holds h b = table_row rows lens (length (prepared_of s)) held.table.table (e - plain) (read_row h b)

  read_link : plain ≤ e → e < all_slots s → link_vertices (link_at s e) ≡ take (nth lens (e - plain)) (get_or rows (e - plain) [])
  unfolding row_at
  read_link h b = ap link_vertices there ∙ here
    where
      here : get_or (prepared_of s) (e - plain) [] ≡ take (nth lens (e - plain)) (get_or rows (e - plain) [])
      here =
          ap (λ (rs : List (List ℕ)). get_or rs (e - plain) []) (sym held.table.reads) ∙
          table_get rows lens (length (prepared_of s)) held.table.table (e - plain) (read_row h b)

      there : link_at s e ≡ reading (get_or (prepared_of s) (e - plain) [])
      there = let q : e ≡ reading_slot s (e - plain) = omega (arith, held.plain_right) in ap (link_at s) q ∙ at_reading s (e - plain)

  pub vertex_room : e < vertices → length (link_vertices (link_at s e)) ≡ 1
  vertex_room h = ap length (vertex_link h)

  -- the three ways through put_link
  pub put_vertex : (row : List ℕ) (r : ℕ) → length row ≡ row_length → r < row_length → e < vertices → Written row r (link_vertices (link_at s e)) (set row r e) (r + 1)
  put_vertex row r w b h =
      record {
        wide = length-set row r e ∙ w;
        end_right = omega (arith, ap length (vertex_link h));
        stand =
            ap (λ (n : ℕ). take n (set row r e)) (add-one r) ∙
            (take-suc-set row r e (omega arith) ∙ ap (λ (vs : List ℕ). take r row ++ vs) (sym (vertex_link h)));
      }

  pub put_none : (row : List ℕ) (r : ℕ) → length row ≡ row_length → vertices ≤ e → e < plain → Written row r (link_vertices (link_at s e)) row r
  put_none row r w h l =
      record {
        wide = w;
        end_right = omega (arith, ap length (other_link h l));
        stand = sym (append-nil (take r row)) ∙ ap (λ (vs : List ℕ). take r row ++ vs) (sym (other_link h l));
      }

  pub read_room : plain ≤ e → e < all_slots s → length (link_vertices (link_at s e)) ≡ nth lens (e - plain)
  read_room h b =
      ap length (read_link h b) ∙ length-take-le (nth lens (e - plain)) (get_or rows (e - plain) []) (omega (arith, (read_holds h b).fit, (read_holds h b).wide))

  -- the read's vertices, copied from its row
  pub put_read : (row new : List ℕ) (r k : ℕ) → length row ≡ row_length → plain ≤ e → e < all_slots s → r + nth lens (e - plain) ≤ row_length →
      k ≡ nth lens (e - plain) → new ≡ take (nth lens (e - plain)) (get_or rows (e - plain) []) →
      Written row r (link_vertices (link_at s e)) (take r row ++ (new ++ drop k (drop r row))) (r + nth lens (e - plain))
  put_read row new r k w h b room same q =
      let long : length new ≡ k = omega (arith, ap length (read_link h b), read_room h b, ap length q) in
      let d : k ≡ nth lens (e - plain) = same in
      subst (λ (n : ℕ). Written row r (link_vertices (link_at s e)) (take r row ++ (new ++ drop k (drop r row))) (r + n)) d
      (subst (λ (vs : List ℕ). Written row r vs (take r row ++ (new ++ drop k (drop r row))) (r + k)) (q ∙ sym (read_link h b))
      (copied row new r k w (omega arith) long))

-- the path of a walk, edge by edge
path_snoc : (f : ℕ → Link) (ws : List ℕ) (e : ℕ) → path_of (map f (ws ++ (e ∷ []))) ≡ path_of (map f ws) ++ link_vertices (f e)
path_snoc f [] e = append-nil (link_vertices (f e))
path_snoc f (w ∷ ws) e = ap (λ (p : List ℕ). link_vertices (f w) ++ p) (path_snoc f ws e) ∙ sym (append_assoc (link_vertices (f w)) (path_of (map f ws)) (link_vertices (f e)))

path_part : (f : ℕ → Link) (ds es : List ℕ) → length (path_of (map f ds)) ≤ length (path_of (map f (ds ++ es)))
path_part f [] es = omega arith
path_part f (d ∷ ds) es = omega (
  arith,
  length-append (link_vertices (f d)) (path_of (map f ds)),
  length-append (link_vertices (f d)) (path_of (map f (ds ++ es))),
  path_part f ds es,
)

-- the first k edges of the way are written
pub record Writing (f : ℕ → Link) (way row : List ℕ) (k r : ℕ) : Type 0 where
  pub wide : length row ≡ row_length
  pub long : r ≡ length (path_of (map f (take k way)))
  pub stand : take r row ≡ path_of (map f (take k way))

module _ (f : ℕ → Link) (way : List ℕ) (k : ℕ) (inside : k < length way) where
  next : path_of (map f (take (k + 1) way)) ≡ path_of (map f (take k way)) ++ link_vertices (f (nth way k))
  next =
      ap (λ (n : ℕ). path_of (map f (take n way))) (add-one k) ∙
      (ap (λ (ws : List ℕ). path_of (map f ws)) (take-suc way k 0 inside) ∙ path_snoc f (take k way) (nth way k))

  pub write_room : length (path_of (map f way)) ≤ row_length → (row : List ℕ) (r : ℕ) → Writing f way row k r → r + length (link_vertices (f (nth way k))) ≤ row_length
  write_room h row r w =
      omega (
        arith,
        w.long,
        ap length next,
        length-append (path_of (map f (take k way))) (link_vertices (f (nth way k))),
        path_part f (take (k + 1) way) (drop (k + 1) way),
        ap (λ (ws : List ℕ). length (path_of (map f ws))) (take-append-drop (k + 1) way),
      )

  pub write_turn : (before row : List ℕ) (r end : ℕ) → Writing f way before k r → Written before r (link_vertices (f (nth way k))) row end → Writing f way row (k + 1) end
  write_turn before row r end w v =
      record {
        wide = v.wide;
        long = omega (arith, v.end_right, w.long, ap length next, length-append (path_of (map f (take k way))) (link_vertices (f (nth way k))));
        stand = v.stand ∙ (ap (λ (p : List ℕ). p ++ link_vertices (f (nth way k))) w.stand ∙ sym next);
      }
