use Rattle.ownership_model.specs.State.{nothing_held}
use Rattle.ownership_model.specs.Step.{outcomes_from}
use Rattle.retention_report.proofs.RisingLemmas.{lives_rise, not_missing}
use Rattle.retention_report.proofs.lines.push_report_line.Goals as goal

pub life_of-requires : goal.life_of-requires
life_of-requires c = lives_rise (outcomes_from nothing_held c.args.ops.now) c.args.lives.now c.requires.lives

pub returns-in_default : goal.returns-in_default
returns-in_default c = absurd (not_missing (outcomes_from nothing_held c.args.ops.now) c.args.lives.now c.args.object c.requires.lives c.requires.made c.in_default.ensures)
