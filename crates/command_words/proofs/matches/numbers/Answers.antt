use Rattle.std.proofs.Common.{ℕ, List, ◌+◌, take, arith, sym, subst}
use Rattle.std.specs.List.{AllZip}
use Rattle.command_words.specs.Named.{IsObject}
use Rattle.command_words.proofs.Objects.{read, one_more, one_wrong}
use Rattle.command_words.proofs.matches.numbers.Goals as goal

pub returns-in-None-clause-none : goal.returns-in-None-clause-none
returns-in-None-clause-none c = one_wrong _ _ _ (omega arith) c.in-None.ensures.none

pub loop-text-preserved : goal.loop-text-preserved
loop-text-preserved c =
    subst (λ (os : List ℕ). AllZip IsObject (read (take (c.loop-text.text-index + 1) c.args.texts.now)) os) (sym c.in_ok-push-in-Some.ensures.items)
    (one_more _ _ _ _ _ (omega arith) c.loop-text.invariant c.in-Some.ensures.some)
