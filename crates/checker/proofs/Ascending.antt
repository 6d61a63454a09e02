-- "Paths strictly ascend as lists of numbers; a list comes before its own extensions": this order is strict, so paths that ascend from one to the next are distinct.
use Rattle.std.proofs.Common.{ℕ, ◌<◌, arith, ◌≡◌, sym, subst, List, [], ◌∷◌, ◌&&◌, ◌⊎◌, inl, inr, T, ltb, eqb, ltb→lt, lt→ltb, eqb→eq}
use lib.Dec.{eqb_refl}
use Rattle.mathematics.specs.Lists.{All, Distinct}
use Rattle.mathematics.proofs.Basics.{and_l, and_r, and_in, or_cases, or_l, or_r, all_weaken}
use Rattle.forms.specs.AnswerFaults.{list_before}
use Rattle.checker.specs.Acceptable.{Ascending}

-- the first numbers decide, or they are equal and the rest does
before_cases : (x y : ℕ) (p q : List ℕ) → T (list_before (x ∷ p) (y ∷ q)) → (x < y) ⊎ ((x ≡ y) × T (list_before p q))
before_cases x y p q t = at (or_cases (ltb x y) (eqb x y && list_before p q) t)
  where
    at : T (ltb x y) ⊎ T (eqb x y && list_before p q) → (x < y) ⊎ ((x ≡ y) × T (list_before p q))
    at (inl l) = inl (ltb→lt x y l)
    at (inr h) = inr (eqb→eq x y (and_l (eqb x y) (list_before p q) h), and_r (eqb x y) (list_before p q) h)

pub before_less : (x y : ℕ) (p q : List ℕ) → x < y → T (list_before (x ∷ p) (y ∷ q))
before_less x y p q l = or_l (ltb x y) (eqb x y && list_before p q) (lt→ltb x y l)

pub before_same : (x y : ℕ) (p q : List ℕ) → x ≡ y → T (list_before p q) → T (list_before (x ∷ p) (y ∷ q))
before_same x y p q e t =
    or_r (ltb x y) (eqb x y && list_before p q) (and_in (eqb x y) (list_before p q) (subst (λ z. T (eqb x z)) e (eqb_refl x)) t)

pub before_irrefl : (p : List ℕ) → T (list_before p p) → ⊥
before_irrefl [] t = t
before_irrefl (x ∷ p) t = at (before_cases x x p p t) (before_irrefl p)
  where
    at : (x < x) ⊎ ((x ≡ x) × T (list_before p p)) → (T (list_before p p) → ⊥) → ⊥
    at (inl l) f = omega arith
    at (inr h) f = f h.1

pub before_trans : (p q r : List ℕ) → T (list_before p q) → T (list_before q r) → T (list_before p r)
before_trans [] [] r t u = absurd t
before_trans [] (y ∷ q) [] t u = absurd u
before_trans [] (y ∷ q) (z ∷ r) t u = tt
before_trans (x ∷ p) [] r t u = absurd t
before_trans (x ∷ p) (y ∷ q) [] t u = absurd u
before_trans (x ∷ p) (y ∷ q) (z ∷ r) t u = at (before_cases x y p q t) (before_cases y z q r u) (before_trans p q r)
  where
    at : (x < y) ⊎ ((x ≡ y) × T (list_before p q)) → (y < z) ⊎ ((y ≡ z) × T (list_before q r)) →
        (T (list_before p q) → T (list_before q r) → T (list_before p r)) → T (list_before (x ∷ p) (z ∷ r))
    at (inl l) (inl k) f = before_less x z p r (omega arith)
    at (inl l) (inr k) f = before_less x z p r (let e : y ≡ z = k.0 in omega arith)
    at (inr l) (inl k) f = before_less x z p r (let e : x ≡ y = l.0 in omega arith)
    at (inr l) (inr k) f = before_same x z p r (let e : x ≡ y = l.0 in let d : y ≡ z = k.0 in omega arith) (f l.1 k.1)

-- what comes before the first comes before all
pub ascending_all : (before : List ℕ) (ps : List (List ℕ)) → Ascending before ps → All (λ p. T (list_before before p)) ps
ascending_all before [] h = tt
ascending_all before (p ∷ ps) h =
    (h.0, all_weaken (λ q. T (list_before p q)) (λ q. T (list_before before q)) ps (λ q t. before_trans before p q h.0 t) (ascending_all p ps h.1))

-- so no two are equal: "a set of distinct weighted paths"
pub ascending_distinct : (before : List ℕ) (ps : List (List ℕ)) → Ascending before ps → Distinct ps
ascending_distinct before [] h = tt
ascending_distinct before (p ∷ ps) h =
    (all_weaken (λ q. T (list_before p q)) _ ps (λ q t e. before_irrefl p (subst (λ z. T (list_before p z)) (sym e) t)) (ascending_all p ps h.1), ascending_distinct p ps h.1)
