use Rattle.std.proofs.Common.{ap, ◌∙◌, ◌≡◌, codes, Some, [], ◌∷◌, rules}
use Rattle.clap.specs.Words.{Rule, new_rule, rule_of}
use Rattle.clap.specs.declared.builder.value_parser.ValueParser.TheVariants.{Unsigned}
use Rattle.trace_types.specs.declared.limits.TheConstants.{MAX_WORKERS}
use Rattle.command_words.specs.Named.{workers_id, workers_rule}
use Rattle.command_words.proofs.app.workers_option.Goals as goal

pub returns-clause-rule : goal.returns-clause-rule
returns-clause-rule c =
    let long : rule_of c.long.result ≡ record (new_rule workers_id) { long = Some workers_id } = ap rule_of c.long.ensures ∙ ap (λ (r : Rule). record r { long = Some workers_id }) c.new.ensures.rule in
    let name : rule_of c.value_name.result ≡ record (new_rule workers_id) { long = Some workers_id; value_names = 1 } = ap rule_of c.value_name.ensures ∙ ap (λ (r : Rule). record r { value_names = 1 }) long in
    let parser : c.value_parser.result.value_parser ≡ Some (Unsigned 1 MAX_WORKERS) = search rules in
    let parsed : rule_of c.value_parser.result ≡ record (new_rule workers_id) { long = Some workers_id; value_names = 1; parser = Some (Unsigned 1 MAX_WORKERS) } =
    ap rule_of c.value_parser.ensures.others ∙ (ap (λ (r : Rule). record r { parser = c.value_parser.result.value_parser }) name ∙ ap (λ v. record (new_rule workers_id) { long = Some workers_id; value_names = 1; parser = v }) parser) in
    let default : rule_of c.default_value.result ≡ workers_rule = ap rule_of c.default_value.ensures ∙ ap (λ (r : Rule). record r { defaults = codes "1" ∷ [] }) parsed in
    ap rule_of c.help.ensures ∙ default
