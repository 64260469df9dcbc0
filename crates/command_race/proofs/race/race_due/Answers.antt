use Rattle.std.proofs.Common.{◌∙◌, ap, false, sym, subst}
use Rattle.command_race.specs.Race.{IsRaceDue}
use Rattle.command_race.proofs.Due.{may_race, may_tell}
use Rattle.command_race.proofs.race.race_due.Goals as goal

pub returns-in-Some : goal.returns-in-Some
returns-in-Some g c =
    let script = c.in-Ok.script in
    let race = c.in-Some.ensures in
    let due = c.answer.ensures ∙ ap (λ x. record { text = x; is_fault = false }) race.2 in
    subst (IsRaceDue c.args.input.now) (sym due) (may_race c.args.input.now script race.0 c.in-Ok.ensures.ok race.1)

pub returns-in-Err : goal.returns-in-Err
returns-in-Err g c = may_tell c.args.input.now c.in-Err.fault c.fault_due.result c.fault_due.ensures.due c.fault_due.ensures.cause c.in-Err.ensures.fault
