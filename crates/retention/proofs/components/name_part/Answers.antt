use Rattle.std.proofs.Common.{◌≡◌, ◌≤◌, sym, subst, true, false}
use Rattle.std.proofs.lemmas.List.{take_all}
use Rattle.ownership_model.specs.Reach.{has}
use Rattle.retention.proofs.PathLemmas.{has_at}
use Rattle.retention.proofs.JoinSteps.{all_has}
use Rattle.retention.proofs.components.name_part.Goals as goal

pub returns : goal.returns
returns c = record {
  long = c.loop-member.invariant.long;
  least = c.least_of-least.result;
  one = subst (λ x. has x c.args.members.now ≡ true) c.least_of-least.ensures.one.2 (has_at c.args.members.now c.least_of-least.ensures.one.0 c.least_of-least.ensures.one.1);
  lowest = λ z h. all_has (λ i. c.least_of-least.result ≤ i) c.args.members.now z c.least_of-least.ensures.lowest h;
  here = λ z h. c.loop-member.invariant.here z (subst (λ xs. has z xs ≡ true) (sym (take_all c.loop-member.member-index c.args.members.now c.loop-member-test.false)) h);
  others = λ z h. c.loop-member.invariant.others z (subst (λ xs. has z xs ≡ false) (sym (take_all c.loop-member.member-index c.args.members.now c.loop-member-test.false)) h);
}
