use Rattle.std.proofs.Common.{◌≡◌, ℕ, ◌<◌, length, subst, arith}
use Rattle.std.specs.Prelude.{Option, None}
use Rattle.std.proofs.lemmas.List.{get_or_read}
use Rattle.retention.specs.Dating.{date_at}
use Rattle.retention.specs.AccountsAt.{IsWhyAt}
use Rattle.retention.proofs.account.Accounts.tell_at.Goals as goal

pub index-since-requires : goal.index-since-requires
index-since-requires c = omega (arith, c.requires.there, c.requires.accounts.long)

pub returns-clause-account : goal.returns-clause-account
returns-clause-account c =
    let since = c.args.self.now.since.items in
    let within : c.args.index < length since = omega (arith, c.requires.there, c.requires.accounts.long) in
    let is : c.index-since.result.now ≡ date_at since c.args.index = get_or_read since c.args.index c.index-since.result.now within c.index-since.ensures None in
    record {
      held = c.in_ok-held.ensures;
      kept = c.in_ok-kept.ensures;
      why = subst (λ (d : Option ℕ). IsWhyAt c.args.end.now c.args.self.now.from_cycles.steps.items d c.args.index c.in_ok-why.why) is c.in_ok-why.ensures.why;
      retained = c.in_ok-retained.ensures.retained;
    }

pub returns-clause-accounts : goal.returns-clause-accounts
returns-clause-accounts c = record {
  from_cycles = c.requires.accounts.from_cycles;
  long = c.requires.accounts.long;
  own = c.in_ok-why.ensures.own;
  retained = c.in_ok-retained.ensures.ready;
}
