use Rattle.std.proofs.Common.{rules, sym, ◌∙◌}
use Rattle.std.proofs.lemmas.List.Sorted.{answers_always}
use Rattle.trace_types.proofs.RisingLemmas.{searched, absent-above}
use Rattle.trace_types.proofs.places.place_by_halves.Goals as goal

pub returns : goal.returns
returns c =
    let by_key = c.binary_search_by_key.ensures.position (λ op. op.id) (answers_always _ _ _ (λ f a r g called. search rules)) in
    c.ok.ensures.value ∙ searched c.args.id c.args.ops.now _ c.requires c.binary_search_by_key.ensures.bound by_key

pub returns-then-are_below : goal.returns-then-are_below
returns-then-are_below c = sym (absent-above c.args.id c.args.ops.now (search rules))
