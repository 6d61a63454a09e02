-- What the links carry in the end: what they must and what a transport adds. It balances at each side of each vertex, as a transport does at each node,
-- and what is added is worth something only where a link is tight.
use Prim.Native.Nat.{ℕ, ◌+◌, ◌*◌, ◌<◌}
use native.Mathlib.Omega.{arith}
use native.Mathlib.Nat.{add-mul, mul-one, mul-zero}
use mathlib.Core.Path.{◌≡◌, refl, sym, ap, ap₂, subst, fun_ext, ◌∙◌}
use mathlib.Core.List.{List, [], ◌∷◌, ◌++◌, map, nil≢cons, cons≢nil, head-eq_of_cons-eq, tail-eq_of_cons-eq}
use mathlib.Core.Logic.{inl, inr}
use lib.Dec.{T, eqb, eqb→eq, eqb_refl}
use lib.ListN.{length}
use Rattle.mathematics.specs.Price.{Prices}
use Rattle.mathematics.specs.Graph.{Graph}
use Rattle.mathematics.specs.Cover.{one_if}
use Rattle.mathematics.specs.Links.{Link, opening, closing, inside, across, reading, in_node, link_from, link_to, opens}
use Rattle.mathematics.proofs.Basics.{is_true, is_false, test}
use Rattle.mathematics.proofs.Network
use Rattle.mathematics.proofs.Network.{Edge, share, share_same, share_other, leaving, entering, edges_of, jobs_from, jobs_to, jobs_total}
use Rattle.mathematics.proofs.Loads.{Load, worth, one, worth_append}
use Rattle.mathematics.proofs.Decompose.{read_loads, AllBalanced}
use Rattle.mathematics.proofs.Wired.{edge_of, load_edge, job_of}

-- a link, what it must carry and what is added
pub record Filling : Type 0 where
  pub link : Link
  pub must : ℕ
  pub added : ℕ

abbrev pub as_must : Filling → Load Link
as_must f = record { amount = f.must; what = f.link }

abbrev pub as_added : Filling → Load Link
as_added f = record { amount = f.added; what = f.link }

abbrev pub as_full : Filling → Load Link
as_full f = record { amount = f.must + f.added; what = f.link }

pub full_worth : (g : Link → ℕ) (fs : List Filling) → worth g (map as_full fs) ≡ worth g (map as_must fs) + worth g (map as_added fs)
full_worth g [] = refl
full_worth g (f ∷ fs) = rw add-mul (omega (arith, full_worth g fs))

share_worth : (u v k : ℕ) → share u v k ≡ k * one_if (eqb v u)
share_worth u v k = elim (test (eqb v u)) [ inl t ↦ same t | inr t ↦ other t ]
  where
    same : T (eqb v u) → share u v k ≡ k * one_if (eqb v u)
    same t = share_same u v k (sym (eqb→eq v u t)) ∙ rw (is_true (eqb v u) t) (sym (mul-one k))

    other : (T (eqb v u) → ⊥) → share u v k ≡ k * one_if (eqb v u)
    other t =
        share_other u v k (λ e. t (subst (λ (w : ℕ). T (eqb v w)) (sym e) (eqb_refl v))) ∙ rw (is_false (eqb v u) t) (sym (mul-zero k))

-- what links from x, to x carry
abbrev pub out_of : ℕ → Link → ℕ
out_of x l = one_if (eqb (link_from l) x)

abbrev pub into_of : ℕ → ℕ → Link → ℕ
into_of z x l = one_if (eqb (link_to z l) x)

module _ (P : Prices) (G : Graph P.El) where
  -- an added amount as a load on the edge
  abbrev pub as_load : Filling → Network.Load P.El
  as_load f = record { edge = edge_of P G f.link; amount = f.added }

  -- links with what they must carry, beside loads on their edges
  pub fill : (bs : List (Load Link)) (xs : List (Network.Load P.El)) → edges_of xs ≡ map (load_edge P G) bs →
      (fs : List Filling) × (map as_must fs ≡ bs) × (map as_load fs ≡ xs)
  fill [] [] e = ([], refl, refl)
  fill [] (x ∷ xs) e = absurd (cons≢nil e)
  fill (b ∷ bs) [] e = absurd (nil≢cons e)
  fill (b ∷ bs) (x ∷ xs) e =
      let (fs, p, q) = fill bs xs (tail-eq_of_cons-eq e) in
      let h : x.edge ≡ edge_of P G b.what = head-eq_of_cons-eq e in (
        record { link = b.what; must = b.amount; added = x.amount } ∷ fs,
        ap (λ (more : List (Load Link)). b ∷ more) p,
        ap₂ (λ (d : Edge P.El) (more : List (Network.Load P.El)). record { edge = d; amount = x.amount } ∷ more) (sym h) q,
      )

  leaving_worth : (fs : List Filling) (x : ℕ) → leaving (map as_load fs) x ≡ worth (out_of x) (map as_added fs)
  leaving_worth [] x = refl
  leaving_worth (f ∷ fs) x = ap₂ (λ (m n : ℕ). m + n) (share_worth x (link_from f.link) f.added) (leaving_worth fs x)

  entering_worth : (fs : List Filling) (x : ℕ) → entering (map as_load fs) x ≡ worth (into_of 0 x) (map as_added fs)
  entering_worth [] x = refl
  entering_worth (f ∷ fs) x = ap₂ (λ (m n : ℕ). m + n) (share_worth x (link_to 0 f.link) f.added) (entering_worth fs x)

  jobs_to_worth : (bs : List (Load Link)) (x : ℕ) → jobs_to (map (job_of P G) bs) x ≡ worth (out_of x) bs
  jobs_to_worth [] x = refl
  jobs_to_worth (b ∷ bs) x = ap₂ (λ (m n : ℕ). m + n) (share_worth x (link_from b.what) b.amount) (jobs_to_worth bs x)

  jobs_from_worth : (bs : List (Load Link)) (x : ℕ) → jobs_from (map (job_of P G) bs) x ≡ worth (into_of 0 x) bs
  jobs_from_worth [] x = refl
  jobs_from_worth (b ∷ bs) x = ap₂ (λ (m n : ℕ). m + n) (share_worth x (link_to 0 b.what) b.amount) (jobs_from_worth bs x)

  pub jobs_total_worth : (bs : List (Load Link)) → jobs_total (map (job_of P G) bs) ≡ worth one bs
  jobs_total_worth [] = refl
  jobs_total_worth (b ∷ bs) = omega (arith, jobs_total_worth bs)

  -- between root and finish it is all one where closing links lead
  into_same : (M x : ℕ) → 0 < x → x < M → (l : Link) → into_of M x l ≡ into_of 0 x l
  into_same M x h k (opening v) = refl
  into_same M x h k (closing v) =
      ap one_if (is_false (eqb M x) (λ t. absurd (omega (arith, eqb→eq M x t)))) ∙
      sym (ap one_if (is_false (eqb 0 x) (λ t. absurd (omega (arith, eqb→eq 0 x t)))))
  into_same M x h k (inside v) = refl
  into_same M x h k (across u v) = refl
  into_same M x h k (reading r) = refl

  -- the full loads and the reads balance, as the transport does
  pub full_balanced : (fs : List Filling) (rs : List (List ℕ)) →
      ((x : ℕ) → leaving (map as_load fs) x + jobs_to (map (job_of P G) (map as_must fs ++ read_loads rs)) x ≡
      entering (map as_load fs) x + jobs_from (map (job_of P G) (map as_must fs ++ read_loads rs)) x) →
      AllBalanced G (map as_full fs ++ read_loads rs)
  full_balanced fs rs balance x h k =
      let M = in_node (length G.vertices) in
      ap (λ (g : Link → ℕ). worth g (map as_full fs ++ read_loads rs)) (fun_ext (into_same M x h k)) ∙
      (worth_append (into_of 0 x) (map as_full fs) (read_loads rs) ∙
      (omega (
        arith,
        balance x,
        full_worth (into_of 0 x) fs,
        full_worth (out_of x) fs,
        leaving_worth fs x,
        entering_worth fs x,
        jobs_to_worth (map as_must fs ++ read_loads rs) x,
        jobs_from_worth (map as_must fs ++ read_loads rs) x,
        worth_append (into_of 0 x) (map as_must fs) (read_loads rs),
        worth_append (out_of x) (map as_must fs) (read_loads rs),
      ) ∙
      sym (worth_append (out_of x) (map as_full fs) (read_loads rs))))

  -- what is added to opening links leaves the root
  pub opens_leaving : (fs : List Filling) → worth opens (map as_added fs) ≡ leaving (map as_load fs) 0
  opens_leaving fs = ap (λ (g : Link → ℕ). worth g (map as_added fs)) (fun_ext from_root) ∙ sym (leaving_worth fs 0)
    where
      from_root : (l : Link) → opens l ≡ out_of 0 l
      from_root (opening v) = refl
      from_root (closing v) = sym (ap one_if (is_false (eqb (link_from (closing v)) 0) (λ t. absurd (omega (arith, eqb→eq (link_from (closing v)) 0 t)))))
      from_root (inside v) = sym (ap one_if (is_false (eqb (link_from (inside v)) 0) (λ t. absurd (omega (arith, eqb→eq (link_from (inside v)) 0 t)))))
      from_root (across u v) = sym (ap one_if (is_false (eqb (link_from (across u v)) 0) (λ t. absurd (omega (arith, eqb→eq (link_from (across u v)) 0 t)))))
      from_root (reading r) = sym (ap one_if (is_false (eqb (link_from (reading r)) 0) (λ t. absurd (omega (arith, eqb→eq (link_from (reading r)) 0 t)))))
