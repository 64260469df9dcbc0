use Rattle.std.proofs.Common.{◌++◌, ◌∙◌, ap, sym, append-nil}
use Rattle.std.specs.Prelude.{Some, None}
use Rattle.std.proofs.lemmas.Result.{on_ok_weaker}
use Rattle.retention_model.specs.declared.place.Place.TheVariants.{Field}
use Rattle.retention.specs.Dates.{dated_field}
use Rattle.retention.proofs.FieldLemmas.{object_told}
use Rattle.retention.proofs.dates.Dates.push_fields.Goals as goal

pub returns-in-Some : goal.returns-in-Some
returns-in-Some c =
    let o = c.args.object in
    let fields = c.in-Some.fields.now in
    on_ok_weaker c.push_dated_fields.result
    (λ e m since tells. e ∙ ap (λ l. c.args.held.now.items ++ l)
    (object_told m since o (Some fields) (λ i. ap (λ x. dated_field x i) c.in-Some.ensures.value ∙ tells (Field o i))))
    c.push_dated_fields.ensures

pub returns-in-None : goal.returns-in-None
returns-in-None c = λ m since tells.
    let o = c.args.object in
    sym (append-nil c.args.held.now.items)
    ∙ ap (λ l. c.args.held.now.items ++ l) (object_told m since o None (λ i. ap (λ x. dated_field x i) c.in-None.ensures.value ∙ tells (Field o i)))
