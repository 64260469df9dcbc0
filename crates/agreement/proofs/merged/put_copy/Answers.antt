use Rattle.std.proofs.Common.{◌∙◌, ap}
use Rattle.std.specs.Prelude.{Some}
use Rattle.agreement.proofs.GatheringLemmas.{on_ok}
use Rattle.agreement.proofs.MergedLemmas.{put_there, none_there}
use Rattle.agreement.proofs.merged.put_copy.Goals as goal

pub returns-in_ok-copy-in-Some : goal.returns-in_ok-copy-in-Some
returns-in_ok-copy-in-Some c =
    on_ok c.insert.result c.insert.ensures.ok (λ is.
    put_there c.args.all.now c.insert.new.self c.args.from.now c.args.object c.in_ok-copy-in-Some.copy (ap Some c.in_ok-copy-in-Some.ensures ∙ c.in-Some.ensures) is)

pub returns-in-None : goal.returns-in-None
returns-in-None c = none_there c.args.all.now c.args.from.now c.args.object c.in-None.ensures
