-- `reads::overlap` meets its contract: the second read's first number has one place in the first read, so there is one candidate.
use Rattle.std.proofs.Common.{◌∙◌, sym, rules}
use Rattle.reads.proofs.OverlapLaws.{meets_first, meets_beyond, meets_inside, meets_long, meets_else, meets_none, meets_found}
use Rattle.reads.proofs.overlap.Goals as goal
use Rattle.reads.proofs.overlap.Goals.{then-first-a-via-then-first-a, then-first-a-via-else-first-a+then-last-first, then-first-a-via-else-first-a+else-last-first+then-b-last, else-end-first-via-then-end-first+then-end-b+else-starts_with, else-end-first-via-then-end-first+else-end-b, else-end-first-via-else-end-first}

pub returns-then-first-a : goal.returns-then-first-a
returns-then-first-a c =
    elim c.then-first-a.branch [
      | then-first-a-via-then-first-a w ↦ meets_first _ _ c.requires.a c.requires.b (search rules)
      | then-first-a-via-else-first-a+then-last-first w ↦ meets_beyond _ _ c.requires.a c.requires.b (search rules)
      | then-first-a-via-else-first-a+else-last-first+then-b-last w ↦ meets_inside _ _ c.requires.a c.requires.b (search rules)
    ]

pub returns-then-starts_with : goal.returns-then-starts_with
returns-then-starts_with c =
    meets_found _ _ c.requires.a c.requires.b _ c.place-p.ensures
    (search rules) (search rules) (search rules) (sym c.starts_with.ensures.value ∙ c.if-starts_with.true)

pub returns-else-end-first : goal.returns-else-end-first
returns-else-end-first c =
    elim c.else-end-first.branch [
      | else-end-first-via-then-end-first+then-end-b+else-starts_with w ↦
          meets_none _ _ c.requires.a c.requires.b _ c.place-p.ensures (sym w.starts_with.ensures.value ∙ w.if-starts_with.false)
      | else-end-first-via-then-end-first+else-end-b w ↦ meets_long _ _ c.requires.a c.requires.b _ c.place-p.ensures (search rules)
      | else-end-first-via-else-end-first w ↦ meets_else _ _ c.requires.a c.requires.b _ c.place-p.ensures c.if-last-first.false w.if-end-first.false
    ]
