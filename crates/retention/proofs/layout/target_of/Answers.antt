use Rattle.std.proofs.Common.{length, refl, sym, ◌∙◌}
use Rattle.retention.proofs.LayoutLemmas.{target_found, target_none, search_found, search_none}
use Rattle.retention.proofs.layout.target_of.Goals as goal

pub returns-in-Ok : goal.returns-in-Ok
returns-in-Ok c =
    let found = search_found c.args.objects.now c.in-Some.object c.binary_search.result c.in-Ok.index c.requires c.binary_search.ensures.position c.in-Ok.is in
    target_found c.args.objects.now c.args.slot c.in-Some.object c.in-Ok.index c.requires (sym c.object.ensures ∙ c.in-Some.is) found.0 found.1

pub returns-in-Err : goal.returns-in-Err
returns-in-Err c =
    target_none c.args.objects.now c.args.slot c.in-Some.object (length c.args.objects.now) (sym c.object.ensures ∙ c.in-Some.is) refl
    (search_none c.args.objects.now c.in-Some.object c.binary_search.result c.in-Err.field-0 c.requires c.binary_search.ensures.position c.in-Err.is)
