use Rattle.std.proofs.Common.{ap, ◌∙◌, ◌≡◌, Some, rules}
use Rattle.clap.specs.Words.{Rule, new_rule, rule_of}
use Rattle.clap.specs.declared.builder.action.ArgAction.TheVariants.{Append}
use Rattle.clap.specs.declared.builder.value_parser.ValueParser.TheVariants.{Unsigned}
use Rattle.trace_types.specs.declared.limits.TheConstants.{MAX_ID}
use Rattle.command_words.specs.Named.{objects_id, objects_rule}
use Rattle.command_words.proofs.app.objects_argument.Goals as goal

pub returns-clause-rule : goal.returns-clause-rule
returns-clause-rule c =
    let name : rule_of c.value_name.result ≡ record (new_rule objects_id) { value_names = 1 } = ap rule_of c.value_name.ensures ∙ ap (λ (r : Rule). record r { value_names = 1 }) c.new.ensures.rule in
    let action : rule_of c.action.result ≡ record (new_rule objects_id) { value_names = 1; action = Some Append } = ap rule_of c.action.ensures ∙ ap (λ (r : Rule). record r { action = Some Append }) name in
    let parser : c.value_parser.result.value_parser ≡ Some (Unsigned 1 MAX_ID) = search rules in
    let parsed : rule_of c.value_parser.result ≡ objects_rule =
    ap rule_of c.value_parser.ensures.others ∙ (ap (λ (r : Rule). record r { parser = c.value_parser.result.value_parser }) action ∙ ap (λ v. record (new_rule objects_id) { value_names = 1; action = Some Append; parser = v }) parser) in
    ap rule_of c.help.ensures ∙ parsed
