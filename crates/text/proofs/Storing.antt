-- Texts stored one behind the other: what is still to store of a text, of which a front part is stored. The proofs of lines cite these laws.
use Rattle.std.proofs.Common.{ℕ, suc, ◌+◌, ◌-◌, ◌≤◌, ◌<◌, ◌≡◌, refl, sym, ap, ◌∙◌, List, [], ◌∷◌, ◌++◌, length, take, drop, set, length-append, length-set, append_assoc, drop-drop, add-suc, suc-add, add-zero, add-one, arith}
use Rattle.std.proofs.lemmas.List.Edits.{sets, sets-eq}
use Rattle.std.proofs.Math.Seq.{length-sets}
use borrow.Rule.Slice.PartMut.{put_mid}
use Rattle.text.specs.Text.{TextFits, Puts}

sets_append : (out : List ℕ) (at : ℕ) (a b : List ℕ) → sets (sets out at a) (at + length a) b ≡ sets out at (a ++ b)
sets_append out at [] b = rw add-zero
sets_append out at (x ∷ a) b = rw (add-suc, ← suc-add) (sets_append (set out at x) (suc at) a b)

-- from `at` on the rest is still to be stored in out; with it the whole text stands from `start` on in what was `before`
pub record Still (before : List ℕ) (start : ℕ) (text out : List ℕ) (at : ℕ) (rest : List ℕ) : Type 0 where
  pub bytes : sets out at rest ≡ sets before start text
  pub ends : at + length rest ≡ start + length text
  pub long : length out ≡ length before
  pub room : start + length text ≤ length before

pub still_all : {out : List ℕ} {at : ℕ} {text : List ℕ} → TextFits out at text → Still out at text out at text
still_all h = record { bytes = refl; ends = refl; long = refl; room = h }

module _ {before : List ℕ} {start : ℕ} {text out : List ℕ} {at : ℕ} where
  -- the front of the rest is stored by a call
  pub still_next : {a b after : List ℕ} {next : ℕ} → Puts out at a after next → Still before start text out at (a ++ b) →
      Still before start text after next b
  still_next {a} {b} {after} {next} p h =
      record {
        bytes = rw (p.bytes, p.ends) (sets_append out at a b ∙ h.bytes);
        ends = omega (arith, p.ends, length-append a b, h.ends);
        long = ap length p.bytes ∙ length-sets out at a ∙ h.long;
        room = h.room;
      }

  -- its first byte is stored
  pub still_byte : {x : ℕ} {b : List ℕ} → Still before start text out at (x ∷ b) → Still before start text (set out at x) (at + 1) b
  still_byte {x} {b} h =
      record {
        bytes = rw add-one h.bytes;
        ends = omega (arith, h.ends);
        long = length-set out at x ∙ h.long;
        room = h.room;
      }

  -- there is room for the front of the rest, and for its first byte
  pub still_room : (a b : List ℕ) → Still before start text out at (a ++ b) → TextFits out at a
  still_room a b h = omega (arith, length-append a b, h.ends, h.long, h.room)

  pub still_inside : {x : ℕ} {b : List ℕ} → Still before start text out at (x ∷ b) → at < length out
  still_inside {x} {b} h = omega (arith, h.ends, h.long, h.room)

  -- there is room for all of the rest
  pub still_fits : {rest : List ℕ} → Still before start text out at rest → TextFits out at rest
  still_fits h = omega (arith, h.ends, h.long, h.room)

  -- all of the rest is stored by a call
  pub still_last : {a after : List ℕ} {next : ℕ} → Puts out at a after next → Still before start text out at a → Puts before start text after next
  still_last p h = record { bytes = p.bytes ∙ h.bytes; ends = p.ends ∙ h.ends }

  -- nothing is left to store
  pub still_none : Still before start text out at [] → Puts before start text out at
  still_none h = record { bytes = h.bytes; ends = sym (add-zero at) ∙ h.ends }

-- what a list holds where a text is stored in it
pub set_whole : (out : List ℕ) (at : ℕ) (text : List ℕ) → TextFits out at text → sets out at text ≡ take at out ++ (text ++ drop (at + length text) out)
set_whole out at text h = sets-eq text out at h ∙ append_assoc (take at out) text (drop (at + length text) out)

-- a text is stored as a part of the output that a call fills
pub put_part : {out after : List ℕ} {at : ℕ} {text : List ℕ} → TextFits out at text → after ≡ text →
    Puts out at text (put_mid at (at + length text - at) out after) (at + length text)
put_part {out} {at = at} {text = text} h e =
    let same : at + (at + length text - at) ≡ at + length text = omega arith in
    record {
      bytes = rw (e, drop-drop, set_whole out at text h) (ap (λ k. take at out ++ (text ++ drop k out)) same);
      ends = refl;
    }
