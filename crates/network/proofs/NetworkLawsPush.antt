-- Laws of moving an amount along the steps from the target back to the source: how much has room, and what one step changes.
use Rattle.std.proofs.Common.{ℕ, ◌+◌, ◌*◌, ◌-◌, ◌/◌, ◌%◌, ◌≤◌, ◌<◌, min, arith, ◌≡◌, refl, sym, ap, subst, ◌∙◌, List, ⊎_elim, ◌≢◌, length, set, length-set, get_or-set_same, get_or-set_other}
use Rattle.network.specs.Network.{nth, share, leaving, entering, LoadsTight, Ahead, Behind, Rung, ahead, behind, Trail, home, along, against, Laid, Bottleneck, Pushing, most_edges, most_moved}
use Rattle.network.proofs.NetworkLaws.{same_or_not, nth_set, sum_change, share_same, share_other}

-- ---- which way a step goes is told by the last bit of `via`
module _ (E : ℕ) (from to cost load mark via rank : List ℕ) (v : ℕ) where
  pub rung_even : Rung E from to cost load mark via rank v → nth via v % 2 ≡ 0 → Ahead E from to cost mark rank v (nth via v / 2)
  rung_even (ahead e q a) z = let h : e ≡ nth via v / 2 = omega arith in subst (Ahead E from to cost mark rank v) h a
  rung_even (behind e q b) z = absurd (omega arith)

  pub rung_odd : Rung E from to cost load mark via rank v → (nth via v % 2 ≡ 0 → ⊥) → Behind E from to load rank 1 v (nth via v / 2)
  rung_odd (ahead e q a) z = absurd (z (omega arith))
  rung_odd (behind e q b) z = let h : e ≡ nth via v / 2 = omega arith in subst (Behind E from to load rank 1 v) h b

  module _ (source k : ℕ) where
    pub trail_even : Trail E from to cost load mark via rank source k v → v ≢ source → nth via v % 2 ≡ 0 →
        Ahead E from to cost mark rank v (nth via v / 2) × Trail E from to cost load mark via rank source k (nth from (nth via v / 2))
    trail_even (home q) ne z = absurd (ne q)
    trail_even (along e q a t) ne z =
        let h : e ≡ nth via v / 2 = omega arith in
        (subst (Ahead E from to cost mark rank v) h a, subst (λ x. Trail E from to cost load mark via rank source k (nth from x)) h t)
    trail_even (against e q b t) ne z = absurd (omega arith)

    pub trail_odd : Trail E from to cost load mark via rank source k v → v ≢ source → (nth via v % 2 ≡ 0 → ⊥) →
        Behind E from to load rank k v (nth via v / 2) × Trail E from to cost load mark via rank source k (nth to (nth via v / 2))
    trail_odd (home q) ne z = absurd (ne q)
    trail_odd (along e q a t) ne z = absurd (z (omega arith))
    trail_odd (against e q b t) ne z =
        let h : e ≡ nth via v / 2 = omega arith in
        (subst (Behind E from to load rank k v) h b, subst (λ x. Trail E from to cost load mark via rank source k (nth to x)) h t)

-- ---- the walk that finds how much has room: what has room from v on has room from the target on
pub record Narrowed (N E : ℕ) (from to cost load mark via rank : List ℕ) (source target limit v r : ℕ) : Type 0 where
  pub node : v < N
  pub settled : nth rank v < N
  pub some : 1 ≤ r
  pub within : r ≤ limit
  pub back_to : (k : ℕ) → k ≤ r → Trail E from to cost load mark via rank source k v → Trail E from to cost load mark via rank source k target

module _ (N E : ℕ) (from to cost load mark via rank : List ℕ) (source target limit : ℕ) (A : Laid N E from to cost load mark via rank source target) where
  module _ (v r : ℕ) (W : Narrowed N E from to cost load mark via rank source target limit v r) where
    pub bottleneck_last : v ≡ source → Bottleneck E from to cost load mark via rank source target limit r
    bottleneck_last q = record { some = W.some; within = W.within; trail = W.back_to r (omega arith) (home q) }

    module _ (ne : v ≢ source) where
      the_rung : Rung E from to cost load mark via rank v
      the_rung = ⊎_elim (λ q. absurd (ne q)) (λ g. g) (A.rungs v W.node W.settled)

      module _ (z : nth via v % 2 ≡ 0) where
        bottleneck_ahead : Ahead E from to cost mark rank v (nth via v / 2)
        bottleneck_ahead = rung_even E from to cost load mark via rank v the_rung z

        pub bottleneck_along : Narrowed N E from to cost load mark via rank source target limit (nth from (nth via v / 2)) r
        bottleneck_along = record {
          node = A.from_node (nth via v / 2) bottleneck_ahead.edge;
          settled = let a = bottleneck_ahead.lower in let b = W.settled in omega arith;
          some = W.some;
          within = W.within;
          back_to = λ k p t. W.back_to k p (along (nth via v / 2) (omega arith) bottleneck_ahead t);
        }

      module _ (z : nth via v % 2 ≡ 0 → ⊥) where
        bottleneck_behind : Behind E from to load rank 1 v (nth via v / 2)
        bottleneck_behind = rung_odd E from to cost load mark via rank v the_rung z

        odd : nth via v ≡ 2 * (nth via v / 2) + 1
        odd = let a = z in ⊎_elim (λ q. absurd (z q)) (λ ne. omega arith) (same_or_not (nth via v % 2) 0)

        pub bottleneck_against : (x : ℕ) → x ≡ min r (nth load (nth via v / 2)) →
            Narrowed N E from to cost load mark via rank source target limit (nth to (nth via v / 2)) x
        bottleneck_against x xm =
            let b = bottleneck_behind in
            let l = b.loaded in
            let s = W.some in
            record {
              node = A.to_node (nth via v / 2) b.edge;
              settled = let a = b.lower in let c = W.settled in omega arith;
              some = omega arith;
              within = let c = W.within in omega arith;
              back_to = λ k p t. W.back_to k (omega arith) (against (nth via v / 2) odd
                  (record { edge = b.edge; from_here = b.from_here; lower = b.lower; loaded = omega arith }) t);
            }

-- ---- sums of loads after a store
share_add : (u v a b : ℕ) → share u v (a + b) ≡ share u v a + share u v b
share_add u v a b = ⊎_elim
    (λ e. let x = share_same u v (a + b) e in let y = share_same u v a e in let z = share_same u v b e in omega arith)
    (λ n. let x = share_other u v (a + b) n in let y = share_other u v a n in let z = share_other u v b n in omega arith)
    (same_or_not u v)

module _ (E : ℕ) (key load : List ℕ) (e : ℕ) (l : e < E) (room : e < length load) (u : ℕ) where
  stored : (y : ℕ) → leaving key (set load e y) E u + share u (nth key e) (nth load e) ≡ leaving key load E u + share u (nth key e) y
  unfolding leaving
  stored y =
      sum_change E e (λ d. share u (nth key d) (nth (set load e y) d)) (λ d. share u (nth key d) (nth load d)) l
      (λ d ne. ap (λ x. share u (nth key d) x) (get_or-set_other load e d y 0 ne))
      ∙ ap (λ x. leaving key load E u + share u (nth key e) x) (get_or-set_same load e y 0 room)

  leaving_more : (k : ℕ) → leaving key (set load e (nth load e + k)) E u ≡ leaving key load E u + share u (nth key e) k
  leaving_more k = let a = stored (nth load e + k) in let b = share_add u (nth key e) (nth load e) k in omega arith

  leaving_less : (k : ℕ) → k ≤ nth load e → leaving key (set load e (nth load e - k)) E u + share u (nth key e) k ≡ leaving key load E u
  leaving_less k p =
      let a = stored (nth load e - k) in
      let b = share_add u (nth key e) (nth load e - k) k in
      let c : nth load e - k + k ≡ nth load e = omega arith in
      let d = ap (share u (nth key e)) c in
      omega arith

  entering_more : (k : ℕ) → entering key (set load e (nth load e + k)) E u ≡ entering key load E u + share u (nth key e) k
  unfolding leaving entering
  entering_more k = leaving_more k

  entering_less : (k : ℕ) → k ≤ nth load e → entering key (set load e (nth load e - k)) E u + share u (nth key e) k ≡ entering key load E u
  unfolding leaving entering
  entering_less k p = leaving_less k p

-- ---- one step of the move
module _ (N E : ℕ) (from to cost mark via rank : List ℕ) (source target k : ℕ) (old : List ℕ) (v : ℕ) (load : List ℕ) (few : E ≤ most_edges)
    (from_node : (e : ℕ) → e < E → nth from e < N) (to_node : (e : ℕ) → e < E → nth to e < N)
    (P : Pushing N E from to cost mark via rank source target k old v load) (ne : v ≢ source) where
  module _ (z : nth via v % 2 ≡ 0) where
    step_along : Ahead E from to cost mark rank v (nth via v / 2) × Trail E from to cost old mark via rank source k (nth from (nth via v / 2))
    step_along = trail_even E from to cost old mark via rank v source k P.trail ne z

    there : nth load (nth via v / 2) ≡ nth old (nth via v / 2)
    there =
        let a = step_along.0 in
        P.same (nth via v / 2) a.edge (let b = a.lower in omega arith) (let b = ap (nth rank) a.to_here in omega arith)

    pub push_fits : nth load (nth via v / 2) + k ≤ most_moved
    push_fits = let a = there in let b = P.small (nth via v / 2) step_along.0.edge in omega arith

    pub push_falls : nth rank (nth from (nth via v / 2)) < nth rank v
    push_falls = step_along.0.lower

    pub push_along : Pushing N E from to cost mark via rank source target k old (nth from (nth via v / 2)) (set load (nth via v / 2) (nth load (nth via v / 2) + k))
    push_along =
        let a = step_along.0 in
        let low = a.lower in
        let room : nth via v / 2 < length load = let x = a.edge in let y = P.long in omega arith in
        let y = nth load (nth via v / 2) + k in
        let th = there in
        let head = ap (nth rank) a.to_here in
        record {
          long = length-set load (nth via v / 2) y ∙ P.long;
          node = from_node (nth via v / 2) a.edge;
          trail = step_along.1;
          same = λ d l p q. ⊎_elim
              (λ s. absurd (let x = ap (λ f. nth rank (nth to f)) s.0 in omega arith))
              (λ o. o.1 ∙ P.same d l (omega arith) (omega arith))
              (nth_set load (nth via v / 2) y d room);
          small = P.small;
          tight = λ d l p. ⊎_elim
              (λ s. subst (λ f. nth mark (nth to f) ≡ nth cost f + nth mark (nth from f)) (sym s.0) (ap (nth mark) a.to_here ∙ a.tight))
              (λ o. P.tight d l (let x = o.1 in omega arith))
              (nth_set load (nth via v / 2) y d room);
          most = λ d l. ⊎_elim
              (λ s. let x = ap (nth old) s.0 in let w = s.1 in omega arith)
              (λ o. let x = P.most d l in let w = o.1 in omega arith)
              (nth_set load (nth via v / 2) y d room);
          moved = λ u.
              let x = P.moved u in
              let b = leaving_more E from load (nth via v / 2) a.edge room u k in
              let c = entering_more E to load (nth via v / 2) a.edge room u k in
              let h = ap (λ f. share u f k) a.to_here in
              omega arith;
          root_not_yet = λ p.
              let b = leaving_more E from load (nth via v / 2) a.edge room 0 k in
              let n = share_other 0 (nth from (nth via v / 2)) k (λ q. let x = ap (nth rank) q in omega arith) in
              let r = P.root_not_yet (omega arith) in
              omega arith;
          root_once =
              let b = leaving_more E from load (nth via v / 2) a.edge room 0 k in
              ⊎_elim
              (λ s. let n = share_same 0 (nth from (nth via v / 2)) k s in let x = ap (nth rank) s in let r = P.root_not_yet (omega arith) in omega arith)
              (λ o. let n = share_other 0 (nth from (nth via v / 2)) k o in let r = P.root_once in omega arith)
              (same_or_not 0 (nth from (nth via v / 2)));
        }

  module _ (z : nth via v % 2 ≡ 0 → ⊥) where
    step_against : Behind E from to old rank k v (nth via v / 2) × Trail E from to cost old mark via rank source k (nth to (nth via v / 2))
    step_against = trail_odd E from to cost old mark via rank v source k P.trail ne z

    there_back : nth load (nth via v / 2) ≡ nth old (nth via v / 2)
    there_back =
        let a = step_against.0 in
        P.same (nth via v / 2) a.edge (let b = ap (nth rank) a.from_here in omega arith) (let b = a.lower in omega arith)

    pub push_fits_back : k ≤ nth load (nth via v / 2)
    push_fits_back = let a = there_back in let b = step_against.0.loaded in omega arith

    pub push_falls_back : nth rank (nth to (nth via v / 2)) < nth rank v
    push_falls_back = step_against.0.lower

    pub push_against : Pushing N E from to cost mark via rank source target k old (nth to (nth via v / 2)) (set load (nth via v / 2) (nth load (nth via v / 2) - k))
    push_against =
        let a = step_against.0 in
        let low = a.lower in
        let room : nth via v / 2 < length load = let x = a.edge in let y = P.long in omega arith in
        let y = nth load (nth via v / 2) - k in
        let th = there_back in
        let fit = push_fits_back in
        let tail = ap (nth rank) a.from_here in
        record {
          long = length-set load (nth via v / 2) y ∙ P.long;
          node = to_node (nth via v / 2) a.edge;
          trail = step_against.1;
          same = λ d l p q. ⊎_elim
              (λ s. absurd (let x = ap (λ f. nth rank (nth from f)) s.0 in omega arith))
              (λ o. o.1 ∙ P.same d l (omega arith) (omega arith))
              (nth_set load (nth via v / 2) y d room);
          small = P.small;
          tight = λ d l p. ⊎_elim
              (λ s. P.tight d l (let x = ap (nth load) s.0 in let w = s.1 in omega arith))
              (λ o. P.tight d l (let x = o.1 in omega arith))
              (nth_set load (nth via v / 2) y d room);
          most = λ d l. ⊎_elim
              (λ s. let x = ap (nth old) s.0 in let w = s.1 in omega arith)
              (λ o. let x = P.most d l in let w = o.1 in omega arith)
              (nth_set load (nth via v / 2) y d room);
          moved = λ u.
              let x = P.moved u in
              let b = leaving_less E from load (nth via v / 2) a.edge room u k fit in
              let c = entering_less E to load (nth via v / 2) a.edge room u k fit in
              let h = ap (λ f. share u f k) a.from_here in
              omega arith;
          root_not_yet = λ p.
              let b = leaving_less E from load (nth via v / 2) a.edge room 0 k fit in
              let r = P.root_not_yet (omega arith) in
              omega arith;
          root_once =
              let b = leaving_less E from load (nth via v / 2) a.edge room 0 k fit in
              let r = P.root_once in
              omega arith;
        }

-- nothing is moved yet
pub push_first : (N E : ℕ) (from to cost mark via rank : List ℕ) (source target k : ℕ) (load : List ℕ) → target < N → length load ≡ most_edges →
    Trail E from to cost load mark via rank source k target → LoadsTight E from to cost mark load → ((e : ℕ) → e < E → nth load e + k ≤ most_moved) →
    Pushing N E from to cost mark via rank source target k load target load
push_first N E from to cost mark via rank source target k load tn long trail tight small = record {
  long = long;
  node = tn;
  trail = trail;
  same = λ e l p q. refl;
  small = small;
  tight = tight;
  most = λ e l. omega arith;
  moved = λ u. omega arith;
  root_not_yet = λ p. omega arith;
  root_once = omega arith;
}
