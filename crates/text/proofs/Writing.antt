-- What a call that writes has promised: the text at the front of the lent output, every byte behind it kept, and how many bytes were written.
use Prim.Native.Nat.{ℕ, ◌≤◌}
use native.Mathlib.Omega.{arith}
use mathlib.Core.Path.{◌≡◌, refl, sym, ap, ◌∙◌}
use mathlib.Core.List.{List, [], ◌++◌}
use lib.ListN.{length, take, drop, length-append}
use lib.Seq.{sets-eq, length-take-le, take-append_seam}
use Rattle.text.specs.Text.{TextFits, Puts, Writes}

-- a text stored from the front of the output on is written
pub written_whole : {out text after : List ℕ} {r : ℕ} → TextFits out 0 text → Puts out 0 text after r → Writes out text after r
written_whole {out} {text} {after} {r} h p =
    let e : r ≡ length text = omega (arith, p.ends) in
    record {
      bytes = p.bytes ∙ (sets-eq text out 0 h ∙ ap (λ k. text ++ drop k out) (sym p.ends));
      counted = e;
    }

-- no byte is changed where nothing is written
pub written_nothing : (out : List ℕ) → Writes out [] out 0
written_nothing out = record { bytes = refl; counted = refl }

-- the bytes written lie within the output, and they are the text
module _ {before text after : List ℕ} {r : ℕ} (w : Writes before text after r) where
  pub written_fits : r ≤ length after
  written_fits = omega (arith, ap length w.bytes, length-append text (drop r before), w.counted)

  pub written_long : r ≡ length (take r after)
  written_long = sym (length-take-le r after written_fits)

  pub written_is_text : take r after ≡ text
  written_is_text = rw (w.bytes, w.counted) (take-append_seam text (drop (length text) before))

-- any two results that the promise allows are equal
pub writes_once : {before text a b : List ℕ} {q r : ℕ} → Writes before text a q → Writes before text b r → (a ≡ b) × (q ≡ r)
writes_once {before} {text} {a} {b} {q} {r} x y =
    let e : q ≡ r = x.counted ∙ sym y.counted in
    (x.bytes ∙ (ap (λ k. text ++ drop k before) e ∙ sym y.bytes), e)
