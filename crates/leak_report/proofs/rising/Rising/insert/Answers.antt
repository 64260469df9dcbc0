use Rattle.std.proofs.Common.{refl, ◌∙◌, ◌++◌, ◌∷◌, [], ap, sym}
use Rattle.std.specs.Ordering.{nat_cmp}
use Rattle.std.specs.Option.{option_map_or}
use Rattle.std.specs.BTreeSet.{insert_key, keys}
use Rattle.leak_report.proofs.RisingLemmas.{insert_key-last}
use Rattle.leak_report.proofs.rising.Rising.insert.Goals as goal

pub returns-then-are_below : goal.returns-then-are_below
returns-then-are_below c =
    let last = insert_key-last c.deref.result.now c.args.number (c.if-are_below.ensures refl) in
    let list = c.deref.ensures.value in
    let none = c.in_default.is in
    ap (λ set. option_map_or keys set c.push.new.self.items) none
    ∙ c.in_ok-push.ensures.items
    ∙ ap (λ ks. ks ++ c.args.number ∷ []) (sym list)
    ∙ sym last
    ∙ ap (λ ks. insert_key nat_cmp ks c.args.number) (list ∙ sym (ap (λ set. option_map_or keys set c.self.inside.list.items) none) ∙ c.self.view_is)
