use Rattle.std.proofs.Common.{◌++◌, ◌∙◌, ap, sym, append-nil}
use Rattle.std.proofs.lemmas.Result.{on_ok_weaker}
use Rattle.std.specs.FinMap.{get}
use Rattle.retention_model.specs.declared.place.Place.TheVariants.{Cell}
use Rattle.retention.specs.HeldPlaces.{held_if}
use Rattle.retention.proofs.FieldLemmas.{one_held}
use Rattle.retention.proofs.dates.Dates.push_cell.Goals as goal

pub returns : goal.returns
returns c =
    let p = Cell c.args.cell in
    on_ok_weaker c.push_dated.result
    (λ e m since tells. e ∙ ap (λ l. c.args.held.now.items ++ l)
    (one_held m since p c.copied.result (c.copied.ensures ∙ c.get.ensures.value ∙ tells p) ∙ sym (append-nil (held_if p (get m.cells c.args.cell) (since p)))))
    c.push_dated.ensures
