use Rattle.std.proofs.Common.{◌++◌, ◌∙◌, ap, sym, append-nil, append_assoc}
use Rattle.std.specs.Prelude.{Some, None}
use Rattle.std.proofs.lemmas.Result.{on_ok_weaker}
use Rattle.retention_model.specs.declared.place.Place.TheVariants.{Handle}
use Rattle.retention.specs.declared.dated.Owner.TheVariants as owner
use Rattle.retention.specs.Dates.{dated_in, field_place}
use Rattle.retention.specs.Lists.{held_dated, held_fields}
use Rattle.retention.proofs.FieldLemmas.{handle_told}
use Rattle.retention.proofs.dates.Dates.push_handle.Goals as goal

pub returns-in_ok-push_dated-in-Some : goal.returns-in_ok-push_dated-in-Some
returns-in_ok-push_dated-in-Some c =
    let h = c.args.handle in
    let x = c.in-Some.holding.now in
    let held = c.args.held.now.items in
    let own = held_dated (Handle h None) x.slot in
    let fields = held_fields (field_place (owner.Handle h)) 0 x.fields.slots.items in
    on_ok_weaker c.push_dated_fields.result
    (λ e m since tells. e ∙ ap (λ l. l ++ fields) c.in_ok-push_dated-in-Some.ensures ∙ append_assoc held own fields
    ∙ ap (λ l. held ++ l) (handle_told m since h (Some x) (λ i. ap (λ y. dated_in y i) c.in-Some.ensures.value ∙ tells (Handle h i))))
    c.push_dated_fields.ensures

pub returns-in-None : goal.returns-in-None
returns-in-None c = λ m since tells.
    let h = c.args.handle in
    sym (append-nil c.args.held.now.items)
    ∙ ap (λ l. c.args.held.now.items ++ l) (handle_told m since h None (λ i. ap (λ y. dated_in y i) c.in-None.ensures.value ∙ tells (Handle h i)))
