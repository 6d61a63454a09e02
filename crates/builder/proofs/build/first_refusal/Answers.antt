-- `builder::build::first_refusal` meets its contract: what is lacking comes first, then too little room, and else nothing is refused.
use Rattle.std.proofs.Common.{◌≡◌, ℕ, ◌<◌, ◌≤◌, cond, ltb, rules, sym, ap}
use Rattle.std.proofs.lemmas.Result.{err_from_is_err_and}
use borrow.Author.Tests.{lt-ltb, le-ltb}
use Rattle.forms.specs.declared.Verdict.{Verdict}
use Rattle.forms.specs.GraphFaults.{refusal, nothing_refused, then}
use Rattle.forms.proofs.ThenLaws.{then_err, then_ok}
use Rattle.builder.proofs.build.first_refusal.Goals as goal

-- too little room is told where nothing is lacking,
room_second : {w : Verdict} {room asked : ℕ} → nothing_refused ≡ w → room < asked → refusal 9 0 ≡ then w (cond (ltb room asked) (refusal 9 0) nothing_refused)
room_second {room = room} {asked} none little = then_ok none (sym (ap (λ b. cond b (refusal 9 0) nothing_refused) (lt-ltb room asked little)))

-- and else nothing is refused
else_nothing : {w : Verdict} {room asked : ℕ} → nothing_refused ≡ w → asked ≤ room → nothing_refused ≡ then w (cond (ltb room asked) (refusal 9 0) nothing_refused)
else_nothing {room = room} {asked} none enough = then_ok none (sym (ap (λ b. cond b (refusal 9 0) nothing_refused) (le-ltb room asked enough)))

pub returns-in_err-first_lacking : goal.returns-in_err-first_lacking
returns-in_err-first_lacking c =
    let p = err_from_is_err_and c.from_residual.result c.from_residual.ensures.1 in
    rw (p.1, p.2) (then_err _ _ c.in_err-first_lacking.ensures)

pub returns-then-room-asked : goal.returns-then-room-asked
returns-then-room-asked c = rw (c.new.ensures.0, c.new.ensures.1) (search (rules, room_second))

pub returns : goal.returns
returns c = search (rules, else_nothing)
