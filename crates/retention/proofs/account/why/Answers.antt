use Rattle.retention.proofs.account.why.Goals as goal

pub returns-then-is_some-clause-why : goal.returns-then-is_some-clause-why
returns-then-is_some-clause-why c = c.in_ok-why-2.ensures.why c.args.from_cycles.now.steps.items
