use Rattle.std.specs.List.{AllByRecursion}
use Rattle.agreement.specs.Gathering.{AgreeAt}
use Rattle.agreement.proofs.agree.agree_on.Given as goal

abbrev pub invariant-loop-object : goal.invariant-loop-object
invariant-loop-object l = AllByRecursion (λ b. AgreeAt l.new l.old b.now) l.yielded
