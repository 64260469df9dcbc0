use Rattle.retention.proofs.AccountsTold.{account_told}
use Rattle.retention.proofs.account.Accounts.tell.Goals as goal

pub returns-clause-account : goal.returns-clause-account
returns-clause-account c =
    λ ops losses of lost dated. account_told ops c.args.end.now of c.requires.ending losses lost c.args.self.now.since.items dated c.args.self.now.from_cycles c.requires.accounts.from_cycles
    c.args.index c.requires.there c.in_ok-account.account c.in_ok-account.ensures.account
