-- Document 01: "Drop a read that is a consecutive part of another. Of equal reads keep the lowest numbered." Each read stands in one that is
-- kept, and no kept one stands in another.
use Prim.Native.Nat.{ℕ, suc, ◌≤◌, ◌<◌}
use native.Mathlib.Omega.{arith}
use mathlib.Core.Path.{◌≡◌, refl, sym, ap, subst, ◌∙◌}
use mathlib.Core.List.{List, [], ◌∷◌, ◌++◌, append-nil}
use mathlib.Core.Bool.{Bool, true, false, cond, ◌&&◌, ◌||◌}
use mathlib.Core.Logic.{◌⊎◌, inl, inr}
use lib.Dec.{T, ltb, lt→ltb, ltb→lt}
use lib.ListN.{length, length-append}
use Rattle.mathematics.specs.Lists.{All, holds, some_holds, Pairwise}
use Rattle.mathematics.specs.Range.{OneOf}
use Rattle.mathematics.specs.Prepare.{some_longer, drop_parts}
use Rattle.mathematics.proofs.Basics.{and_l, and_r, and_in, or_cases, or_l, or_r, all_among, all_weaken, among_left, among_right, among_cases}
use Rattle.mathematics.proofs.Parts.{Within, Held, within_holds, holds_within, some_held, held_some, held_trans, within_self}
use Rattle.mathematics.proofs.Overlap.{Clear}
use Rattle.mathematics.proofs.Taken.{all_both}

-- what the two tests of one read say: it goes, or it stays
abbrev goes : List (List ℕ) → List ℕ → List (List ℕ) → Bool
goes before r after = some_holds before r || some_longer after r

pick_all : (P : List ℕ → Type 0) (t : Bool) (r : List ℕ) (rest : List (List ℕ)) → ((T t → ⊥) → P r) → All P rest → All P (cond t rest (r ∷ rest))
pick_all P true r rest p h = h
pick_all P false r rest p h = (p (λ n. n), h)

-- what holds of all holds of those kept
pub dropped_all : (P : List ℕ → Type 0) (before after : List (List ℕ)) → All P after → All P (drop_parts before after)
dropped_all P before [] h = tt
dropped_all P before (r ∷ after) h =
    pick_all P (goes before r after) r (drop_parts (before ++ (r ∷ [])) after) (λ n. h.0) (dropped_all P (before ++ (r ∷ [])) after h.1)

pick_fewer : (t : Bool) (r : List ℕ) (rest : List (List ℕ)) (n : ℕ) → length rest ≤ n → length (cond t rest (r ∷ rest)) ≤ suc n
pick_fewer true r rest n h = omega arith
pick_fewer false r rest n h = omega arith

pub dropped_fewer : (before after : List (List ℕ)) → length (drop_parts before after) ≤ length after
dropped_fewer before [] = omega arith
dropped_fewer before (r ∷ after) =
    pick_fewer (goes before r after) r (drop_parts (before ++ (r ∷ [])) after) (length after) (dropped_fewer (before ++ (r ∷ [])) after)

longer_here : (r p : List ℕ) → T (ltb (length r) (length p) && holds p r) → Within r p × (length r < length p)
longer_here r p t =
    (holds_within p r (and_r (ltb (length r) (length p)) (holds p r) t), ltb→lt (length r) (length p) (and_l (ltb (length r) (length p)) (holds p r) t))

longer_one : (ps : List (List ℕ)) (r : List ℕ) → T (some_longer ps r) → (p : List ℕ) × OneOf ps p × Within r p × (length r < length p)
longer_one [] r h = absurd h
longer_one (p ∷ ps) r h =
    elim (or_cases (ltb (length r) (length p) && holds p r) (some_longer ps r) h) [
      | inl t ↦ let u = longer_here r p t in (p, inl refl, u.0, u.1)
      | inr t ↦ let u = longer_one ps r t in (u.0, inr u.1, u.2, u.3)
    ]

-- p is not longer than r, where it holds r
abbrev NotLonger : List ℕ → List ℕ → Type 0
NotLonger r p = Within r p → length r < length p → ⊥

not_longer : (r p : List ℕ) → (T (ltb (length r) (length p) && holds p r) → ⊥) → NotLonger r p
not_longer r p h w l = h (and_in (ltb (length r) (length p)) (holds p r) (lt→ltb (length r) (length p) l) (within_holds p r w))

none_longer : (ps : List (List ℕ)) (r : List ℕ) → (T (some_longer ps r) → ⊥) → All (NotLonger r) ps
none_longer [] r h = tt
none_longer (p ∷ ps) r h =
    let here = ltb (length r) (length p) && holds p r in
    (not_longer r p (λ t. h (or_l here (some_longer ps r) t)), none_longer ps r (λ t. h (or_r here (some_longer ps r) t)))

within_shorter : (r p : List ℕ) → Within r p → length r ≤ length p
within_shorter r p w = omega (arith, ap length w.2 ∙ length-append w.0 (r ++ w.1), length-append r w.1)

-- a list that is as long as the one it stands in is that one
within_same : (r p a b : List ℕ) → p ≡ a ++ (r ++ b) → length p ≤ length r → r ≡ p
within_same r p [] [] e l = sym (e ∙ append-nil r)
within_same r p [] (y ∷ b) e l = absurd (omega (arith, ap length e ∙ length-append r (y ∷ b)))
within_same r p (x ∷ a) b e l = absurd (omega (arith, ap length e ∙ ap suc (length-append a (r ++ b)), length-append r b))

-- r stands in one before or in one that is kept
abbrev Stays : List (List ℕ) → List (List ℕ) → List ℕ → Type 0
Stays before kept r = Held before r ⊎ Held kept r

stays_trans : (before kept : List (List ℕ)) (r s : List ℕ) → Within r s → Stays before kept s → Stays before kept r
stays_trans before kept r s w (inl h) = inl (held_trans before r s w h)
stays_trans before kept r s w (inr h) = inr (held_trans kept r s w h)

-- s stands in r, or r is not needed
past : (before kept : List (List ℕ)) (r s : List ℕ) → Stays (before ++ (r ∷ [])) kept s → Within s r ⊎ Stays before kept s
past before kept r s (inl (b, m, w)) =
    elim (among_cases b before (r ∷ []) m) [
      | inl n ↦ inr (inl (b, n, w))
      | inr n ↦ inl (subst (Within s) (all_among (λ (q : List ℕ). q ≡ r) (r ∷ []) b (refl, tt) n) w)
    ]
past before kept r s (inr h) = inr (inr h)

-- a read that goes stands in one before or in one that is kept of those behind it
gone_stays : (before after kept : List (List ℕ)) (r : List ℕ) → All (Stays (before ++ (r ∷ [])) kept) after → T (goes before r after) →
    Stays before kept r
gone_stays before after kept r ih t =
    elim (or_cases (some_holds before r) (some_longer after r) t) [
      | inl h ↦ inl (some_held before r h)
      | inr h ↦ by_longer (longer_one after r h)
    ]
  where
    by_longer : ((p : List ℕ) × OneOf after p × Within r p × (length r < length p)) → Stays before kept r
    by_longer (p, m, w, l) =
        elim (past before kept r p (all_among (Stays (before ++ (r ∷ [])) kept) after p ih m)) [
          | inl v ↦ absurd (omega (arith, within_shorter p r v))
          | inr h ↦ stays_trans before kept r p w h
        ]

pick_stays : (t : Bool) (before kept : List (List ℕ)) (r : List ℕ) → (T t → Stays before kept r) → Stays before (cond t kept (r ∷ kept)) r
pick_stays true before kept r f = f tt
pick_stays false before kept r f = inr (r, inl refl, within_self r)

pick_keeps : (t : Bool) (before kept : List (List ℕ)) (r s : List ℕ) → Stays before kept s → Stays before (cond t kept (r ∷ kept)) s
pick_keeps true before kept r s h = h
pick_keeps false before kept r s (inl h) = inl h
pick_keeps false before kept r s (inr (p, m, w)) = inr (p, inr m, w)

stays_here : (t : Bool) (before kept : List (List ℕ)) (r s : List ℕ) → Stays before (cond t kept (r ∷ kept)) r →
    Stays (before ++ (r ∷ [])) kept s → Stays before (cond t kept (r ∷ kept)) s
stays_here t before kept r s hr hs =
    elim (past before kept r s hs) [
      | inl w ↦ stays_trans before (cond t kept (r ∷ kept)) s r w hr
      | inr h ↦ pick_keeps t before kept r s h
    ]

dropped_stays : (before after : List (List ℕ)) → All (Stays before (drop_parts before after)) after
dropped_stays before [] = tt
dropped_stays before (r ∷ after) =
    let kept = drop_parts (before ++ (r ∷ [])) after in
    let t = goes before r after in
    let ih = dropped_stays (before ++ (r ∷ [])) after in
    let head = pick_stays t before kept r (gone_stays before after kept r ih) in
    (head, all_weaken (Stays (before ++ (r ∷ [])) kept) (Stays before (cond t kept (r ∷ kept))) after (λ s. stays_here t before kept r s head) ih)

-- each read stands in one that is kept
pub dropped_held : (rs : List (List ℕ)) → All (Held (drop_parts [] rs)) rs
dropped_held rs = all_weaken (Stays [] (drop_parts [] rs)) (Held (drop_parts [] rs)) rs (λ r h. elim h [ inl n ↦ absurd n.1 | inr k ↦ k ]) (dropped_stays [] rs)

-- none that is kept stands in one before
kept_apart : (before after : List (List ℕ)) → All (λ s. Held before s → ⊥) (drop_parts before after)
kept_apart before [] = tt
kept_apart before (r ∷ after) =
    let kept = drop_parts (before ++ (r ∷ [])) after in
    pick_all (λ s. Held before s → ⊥) (goes before r after) r kept
    (λ n h. n (or_l (some_holds before r) (some_longer after r) (held_some before r h.0 h.1 h.2)))
    (all_weaken (λ s. Held (before ++ (r ∷ [])) s → ⊥) (λ s. Held before s → ⊥) kept
    (λ s n h. n (h.0, among_left h.0 before (r ∷ []) h.1, h.2))
    (kept_apart (before ++ (r ∷ [])) after))

clear_kept : (before : List (List ℕ)) (r s : List ℕ) → (Held (before ++ (r ∷ [])) s → ⊥) → NotLonger r s → Clear r s
clear_kept before r s n l = (λ w. not_in (same w), not_in)
  where
    not_in : Within s r → ⊥
    not_in w = n (r, among_right r before (r ∷ []) (inl refl), w)

    same : Within r s → Within s r
    same w = subst (Within s) (sym (within_same r s w.0 w.1 w.2 (omega (arith, l w)))) (within_self s)

pick_clear : (t : Bool) (r : List ℕ) (rest : List (List ℕ)) → ((T t → ⊥) → All (Clear r) rest) → Pairwise Clear rest →
    Pairwise Clear (cond t rest (r ∷ rest))
pick_clear true r rest p h = h
pick_clear false r rest p h = (p (λ n. n), h)

dropped_clear_from : (before after : List (List ℕ)) → Pairwise Clear (drop_parts before after)
dropped_clear_from before [] = tt
dropped_clear_from before (r ∷ after) =
    let up_to : List (List ℕ) = before ++ (r ∷ []) in
    let kept : List (List ℕ) = drop_parts up_to after in
    pick_clear (goes before r after) r kept
    (λ n. all_both (λ s. Held up_to s → ⊥) (NotLonger r) (Clear r) kept (clear_kept before r) (kept_apart up_to after)
    (dropped_all (NotLonger r) up_to after (none_longer after r (λ t. n (or_r (some_holds before r) (some_longer after r) t)))))
    (dropped_clear_from up_to after)

-- no kept read stands in another
pub dropped_clear : (rs : List (List ℕ)) → Pairwise Clear (drop_parts [] rs)
dropped_clear rs = dropped_clear_from [] rs
