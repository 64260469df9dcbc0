use Rattle.std.proofs.Common.{◌-◌, ◌<◌, ◌∙◌, Some, ap, sym, length, arith}
use Rattle.std.proofs.lemmas.Option.{slice_get-get_or}
use Rattle.std.specs.Prelude.{option_map}
use Rattle.trace_types.specs.Operation.{Operation}
use Rattle.run_engine.proofs.NameLemmas.{name_at-behind}
use Rattle.run_engine.proofs.replay.loading.name_before.Goals as goal

pub returns : goal.returns
returns c =
    let lt : c.args.at - 1 < length c.args.ops.now = omega (arith, c.requires.behind, c.requires.within) in
    name_at-behind c.args.ops.now c.args.at c.requires.behind
    ∙ ap (option_map (λ (op : Operation). op.id)) (slice_get-get_or c.args.ops.now (c.args.at - 1) c.index-ops-at.result lt)
    ∙ ap (λ (op : Operation). Some op.id) (sym c.index-ops-at.is)
    ∙ ap Some (sym c.id.ensures.value)
