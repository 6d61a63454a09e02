-- An array that is filled from the front: its first i places hold what f says.
use Prim.Native.Nat.{ℕ, ◌+◌, ◌<◌}
use native.Mathlib.Decide.{ℕ_discrete}
use native.Mathlib.Omega.{arith}
use mathlib.Core.Path.{◌≡◌, sym, subst, ◌∙◌}
use mathlib.Core.List.{List}
use lib.ListN.{length, get_or, set, length-set}
use lib.Seq.{get_or-set_same, get_or-set_other}

pub record Filled {A : Type 0} (size : ℕ) (d : A) (f : ℕ → A) (xs : List A) (i : ℕ) : Type 0 where
  pub long : length xs ≡ size
  pub each : (k : ℕ) → k < i → get_or xs k d ≡ f k

pub fill_none : {A : Type 0} {size : ℕ} {d : A} {f : ℕ → A} {xs : List A} → length xs ≡ size → Filled size d f xs 0
fill_none long = record { long = long; each = λ k h. absurd (omega arith) }

pub fill_more : {A : Type 0} {size : ℕ} {d : A} {f : ℕ → A} {xs : List A} {i : ℕ} {x : A} → Filled size d f xs i → i < size → x ≡ f i → Filled size d f (set xs i x) (i + 1)
fill_more {d = d} {f} {xs} {i} {x} h room e =
    record {
      long = simp length-set h.long;
      each =
          λ k b.
          elim (ℕ_discrete k i) [
            | yes same ↦ subst (λ j. get_or (set xs i x) j d ≡ f j) (sym same) (get_or-set_same xs i x d (omega (arith, h.long)) ∙ e)
            | no ne ↦ get_or-set_other xs i k x d ne ∙ h.each k (omega arith)
          ];
    }
