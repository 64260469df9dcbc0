use Rattle.std.proofs.Common.{ap, ◌∙◌, ◌≡◌, Some}
use Rattle.clap.specs.Words.{Rule, new_rule, rule_of}
use Rattle.clap.specs.declared.builder.action.ArgAction.TheVariants.{SetTrue}
use Rattle.command_words.specs.Named.{flag_rule}
use Rattle.command_words.proofs.app.flag.Goals as goal

pub returns-clause-rule : goal.returns-clause-rule
returns-clause-rule c =
    let name = c.args.name.now in
    let long : rule_of c.long.result ≡ record (new_rule name) { long = Some name } = ap rule_of c.long.ensures ∙ ap (λ (r : Rule). record r { long = Some name }) c.new.ensures.rule in
    let action : rule_of c.action.result ≡ flag_rule name = ap rule_of c.action.ensures ∙ ap (λ (r : Rule). record r { action = Some SetTrue }) long in
    ap rule_of c.help.ensures ∙ action
