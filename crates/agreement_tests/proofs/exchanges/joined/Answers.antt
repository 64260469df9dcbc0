use Rattle.std.proofs.Common.{◌∙◌, sym}
use Rattle.ownership_model.specs.Patch.{patched}
use Rattle.ownership_model.proofs.LawsHold.{patches}
use Rattle.agreement_tests.proofs.exchanges.joined.Goals as goal

pub returns-in_ok-both-in-Some : goal.returns-in_ok-both-in-Some
returns-in_ok-both-in-Some c =
    sym (patches.both c.args.first.now c.args.exchange.now c.deref.result.now c.in_ok-both-in-Some.both c.in_ok-both-in-Some.ensures)
    ∙ (λ j. patched (c.requires j) (c.deref.ensures j)) ∙ (rw c.in-Some.is at c.in_ok-exchange_between.ensures)
