use Rattle.std.proofs.Common.{rules, ◌≡◌, map, refl}
use Rattle.std.specs.Map.Iter.{deref}
use Rattle.std.proofs.lemmas.Map.Iter.{iter_end}
use Rattle.agreement.specs.Gathering.{AgreeAt}
use Rattle.agreement.proofs.AgreeLemmas.{each_member}
use Rattle.agreement.proofs.agree.agree_on.Goals as goal

pub returns : goal.returns
returns c =
    let all : map deref c.loop-object.yielded ≡ c.args.objects.now.keys = search (rules, iter_end) in
    (λ t o h. each_member (λ q. AgreeAt c.args.new.now c.args.old.now q) deref c.loop-object.yielded c.loop-object.invariant o (rw all h), λ a. refl)
