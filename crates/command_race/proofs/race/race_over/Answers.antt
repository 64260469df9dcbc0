use Rattle.std.proofs.Common.{ap, ◌∙◌}
use Rattle.command_race.specs.Race.{race_text}
use Rattle.command_race.proofs.race.race_over.Goals as goal

pub returns-in-Ok : goal.returns-in-Ok
returns-in-Ok g c =
    let race = c.in_ok-desk.ensures in
    let h = c.in_ok-desk.desk.standing.history in (
      h,
      race.legal.1,
      race.asked,
      c.in-Ok.ensures ∙ ap (λ t. race_text t h) race.opening,
    )
