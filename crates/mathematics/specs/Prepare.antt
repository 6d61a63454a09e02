-- Document 01, "Preparing the reads": drop, then join the longest overlap while there is one.
use Rattle.std.specs.Prelude.{ℕ, zero, suc, ◌-◌, min, max, ◌≡◌, List, [], ◌∷◌, ◌++◌, Bool, false, cond, ◌&&◌, ◌||◌, T, ltb, eqb, length, get_or, drop, set}
use Rattle.mathematics.specs.Lists.{Pairwise, begins, holds, some_holds}

-- r lies in one of ps and is shorter than it
abbrev pub some_longer : List (List ℕ) → List ℕ → Bool
some_longer [] r = false
some_longer (p ∷ ps) r = (ltb (length r) (length p) && holds p r) || some_longer ps r

-- "Drop a read that is a consecutive part of another. Of equal reads keep the lowest numbered." `before` are the reads with lower numbers.
abbrev pub drop_parts : List (List ℕ) → List (List ℕ) → List (List ℕ)
drop_parts before [] = []
drop_parts before (r ∷ after) =
    let rest = drop_parts (before ++ (r ∷ [])) after in
    cond (some_holds before r || some_longer after r) rest (r ∷ rest)

-- the greatest number up to k of vertices that end a and begin b; 0 if there is none
abbrev pub overlap_up_to : ℕ → List ℕ → List ℕ → ℕ
overlap_up_to zero a b = 0
overlap_up_to (suc k) a b = cond (begins (drop (length a - suc k) a) b) (suc k) (overlap_up_to k a b)

-- "a proper suffix of read i equals a proper prefix of another read j, at least one vertex long": the length of the longest such, or 0
unfoldable pub overlap : List ℕ → List ℕ → ℕ
overlap a b = overlap_up_to (min (length a) (length b) - 1) a b

-- a pair of reads, by their places, and how many vertices they share: the length of their overlap
pub record Meeting : Type 0 where
  pub shared : ℕ
  pub i : ℕ
  pub j : ℕ

-- the longer of two; the first where they tie
abbrev pub longer : Meeting → Meeting → Meeting
longer a b = cond (ltb a.shared b.shared) b a

-- the longest with a as the read i, and as the read j those from place j on
abbrev pub longest_with : ℕ → List ℕ → ℕ → List (List ℕ) → Meeting → Meeting
longest_with i a j [] best = best
longest_with i a j (b ∷ bs) best =
    longest_with i a (suc j) bs
    (cond (eqb i j) best (longer best (record { shared = overlap a b; i = i; j = j })))

-- the longest with a read from place i on as the read i
abbrev pub longest_from : ℕ → List (List ℕ) → List (List ℕ) → Meeting → Meeting
longest_from i rs [] best = best
longest_from i rs (a ∷ more) best = longest_from (suc i) rs more (longest_with i a 0 rs best)

-- "take the pair with the longest such overlap (ties: lowest i, then lowest j)"; none is shared where no pair overlaps
unfoldable pub longest : List (List ℕ) → Meeting
longest rs = longest_from 0 rs rs (record { shared = 0; i = 0; j = 0 })

-- the list without what stands at place k
abbrev pub without : {A : Type 0} → ℕ → List A → List A
without k [] = []
without zero (x ∷ xs) = xs
without (suc k) (x ∷ xs) = x ∷ without k xs

-- "Replace both by the joined read, in the lower of the two places."
unfoldable pub join_at : Meeting → List (List ℕ) → List (List ℕ)
join_at m rs =
    without (max m.i m.j) (set rs (min m.i m.j) (get_or rs m.i [] ++ drop m.shared (get_or rs m.j [])))

-- "While": each turn leaves one read fewer, so as many turns as there are reads are enough.
abbrev pub join_while : ℕ → List (List ℕ) → List (List ℕ)
join_while zero rs = rs
join_while (suc turns) rs =
    let joined = join_while turns (join_at (longest rs) rs) in
    cond (eqb (longest rs).shared 0) rs joined

-- "What remains are the prepared reads."
unfoldable pub prepare : List (List ℕ) → List (List ℕ)
prepare rs = join_while (length rs) (drop_parts [] rs)

-- neither step has anything to do with r and s, in this order: r is no consecutive part of s, and no proper suffix of r is a proper prefix of s
abbrev pub Apart : List ℕ → List ℕ → Type 0
Apart r s = (T (holds s r) → ⊥) × (overlap r s ≡ 0)

-- any two reads, at different places, are apart both ways: what is to be shown of the prepared ones, that no read is left to drop or to join
abbrev pub Independent : List (List ℕ) → Type 0
Independent rs = Pairwise (λ r s. Apart r s × Apart s r) rs
