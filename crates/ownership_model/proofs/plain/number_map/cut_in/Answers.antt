use Rattle.std.proofs.Common.{◌≡◌, sym, ◌∙◌, arith, Some, get_or}
use Rattle.std.proofs.lemmas.Bool.Decides.{nat_tests}
use Rattle.ownership_model.specs.Places.{place_from}
use Rattle.ownership_model.proofs.NumberMapLemmas.{cut_at}
use Rattle.ownership_model.proofs.plain.number_map.cut_in.Goals as goal

pub returns-then-index-key : goal.returns-then-index-key
returns-then-index-key g c =
    let entries = c.args.items.now.items in
    let place = c.in-Some.place in
    let here : place_from c.args.key 0 entries ≡ Some place = cc in
    let same : (get_or entries place c.index.result.now).0 ≡ c.args.key = grind (arith, nat_tests) in
    c.remove.ensures.items ∙ sym (cut_at c.args.key 0 place place entries c.index.result.now c.requires here (omega arith) same)
