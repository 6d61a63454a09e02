-- `forms::bytes::be64` gives the number of specs/Bytes.
use Rattle.std.proofs.Common.{◌≡◌, ℕ, ◌+◌, ◌*◌, [], ◌∷◌, refl, arith, w64, ◌∙◌}
use Rattle.std.specs.Int.{from_be_bytes}
use Rattle.forms.specs.Bytes.{be32, be64}
use Rattle.forms.proofs.bytes.be64.Goals as goal

eight : (a b c d e f g h : ℕ) → from_be_bytes w64 (a ∷ b ∷ c ∷ d ∷ e ∷ f ∷ g ∷ h ∷ [])
    ≡ a * 72057594037927936 + b * 281474976710656 + c * 1099511627776 + d * 4294967296 + e * 16777216 + f * 65536 + g * 256 + h
eight a b c d e f g h = refl

pub returns : goal.returns
unfolding be32 be64
returns c =
    let five : c.args.at + 4 + 1 ≡ c.args.at + 5 = omega arith in
    let six : c.args.at + 4 + 2 ≡ c.args.at + 6 = omega arith in
    let seven : c.args.at + 4 + 3 ≡ c.args.at + 7 = omega arith in
    rw (five, six, seven) (c.from_be_bytes.ensures ∙ eight _ _ _ _ _ _ _ _ ∙ omega arith)
