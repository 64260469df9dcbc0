use Rattle.std.proofs.Common.{List, Option, ◌∙◌, subst}
use Rattle.std.specs.Prelude.{IfOk, IfSome, IfNone, ℕ}
use Rattle.clap.specs.Words.{Text, found_of}
use Rattle.clap.proofs.WalkLemmas.{raw_values-rows}
use Rattle.command_words.specs.Named.{AreObjects, objects_id}
use Rattle.command_words.proofs.matches.objects.Goals as goal

pub returns-in-Some-clause-some : goal.returns-in-Some-clause-some
returns-in-Some-clause-some c =
    subst (λ (o : Option (List Text)). IfOk c.numbers.result (λ found. IfSome found (AreObjects o)))
    (c.in-Some.ensures ∙ raw_values-rows (found_of c.args.matches.now) objects_id) c.numbers.ensures.some

pub returns-in-Some-clause-none : goal.returns-in-Some-clause-none
returns-in-Some-clause-none c =
    subst (λ (o : Option (List Text)). IfOk c.numbers.result (λ found. IfNone found ((objects : List ℕ) → AreObjects o objects → ⊥)))
    (c.in-Some.ensures ∙ raw_values-rows (found_of c.args.matches.now) objects_id) c.numbers.ensures.none

pub returns-in-None-clause-some : goal.returns-in-None-clause-some
returns-in-None-clause-some c =
    subst (λ (o : Option (List Text)). AreObjects o c.empty.result) (c.in-None.ensures ∙ raw_values-rows (found_of c.args.matches.now) objects_id) c.empty.ensures
