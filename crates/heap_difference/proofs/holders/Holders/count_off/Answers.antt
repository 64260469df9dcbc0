use Rattle.std.proofs.Common.{◌∙◌, ap, sym, subst}
use Rattle.std.specs.Option.{option_copied}
use Rattle.std.specs.Prelude.{Some}
use Rattle.ownership_model.specs.declared.key.Key.{Key}
use Rattle.heap_difference.specs.Holders.{IsOneCounted}
use Rattle.heap_difference.proofs.HolderLemmas.{on_ok, slot_of_handle, bare_of_handle, slot_of_cell, slots_of_object, no_handle, no_cell, scope_key}
use Rattle.heap_difference.proofs.holders.Holders.count_off.Goals as goal

pub returns-in-Some-Slot : goal.returns-in-Some-Slot
returns-in-Some-Slot c =
    on_ok c.take_off.result
    (λ told. subst (λ (x : Key). IsOneCounted x c.args.from.now c.args.self.now c.take_off.new.self) (sym c.in-Handle.is)
    (told c.args.from.now (slot_of_handle c.in-Handle.handle c.args.from.now c.in-Some-Slot.slot (sym c.holding.ensures.value ∙ ap option_copied c.in-Some-Slot.is ∙ ap (λ f. Some f) c.in-Some-Slot.field-0-is))))
    c.take_off.ensures

pub returns-in-Some-Bare : goal.returns-in-Some-Bare
returns-in-Some-Bare c =
    on_ok c.take_off-in-Some-Bare.result
    (λ told. subst (λ (x : Key). IsOneCounted x c.args.from.now c.args.self.now c.take_off-in-Some-Bare.new.self) (sym c.in-Handle.is)
    (told c.args.from.now (rw c.as_slice.ensures (bare_of_handle c.in-Handle.handle c.args.from.now c.in-Some-Bare.fields (sym c.holding.ensures.value ∙ ap option_copied c.in-Some-Bare.is ∙ ap (λ f. Some f) c.in-Some-Bare.field-0-is)))))
    c.take_off-in-Some-Bare.ensures

pub returns-in-None : goal.returns-in-None
returns-in-None c =
    subst (λ (x : Key). IsOneCounted x c.args.from.now c.args.self.now c.args.self.now) (sym c.in-Handle.is)
    (no_handle c.in-Handle.handle c.args.from.now c.args.self.now (sym c.holding.ensures.value ∙ ap option_copied c.in-None.is))

pub returns-in-Some : goal.returns-in-Some
returns-in-Some c =
    on_ok c.take_off-in-Some.result
    (λ told. subst (λ (x : Key). IsOneCounted x c.args.from.now c.args.self.now c.take_off-in-Some.new.self) (sym c.in-Cell.is)
    (told c.args.from.now (slot_of_cell c.in-Cell.cell c.args.from.now c.in-Some.slot (sym c.cell.ensures ∙ c.in-Some.is))))
    c.take_off-in-Some.ensures

pub returns-in-None-cell : goal.returns-in-None-cell
returns-in-None-cell c =
    subst (λ (x : Key). IsOneCounted x c.args.from.now c.args.self.now c.args.self.now) (sym c.in-Cell.is)
    (no_cell c.in-Cell.cell c.args.from.now c.args.self.now (sym c.cell.ensures ∙ c.in-None-cell.is))

pub returns-in-Some-Alive : goal.returns-in-Some-Alive
returns-in-Some-Alive c =
    on_ok c.take_off-in-Some-Alive.result
    (λ told. subst (λ (x : Key). IsOneCounted x c.args.from.now c.args.self.now c.take_off-in-Some-Alive.new.self) (sym c.in-Object.is)
    (told c.args.from.now (rw c.as_slice-in-Some-Alive.ensures (slots_of_object c.in-Object.object c.args.from.now c.in-Some-Alive.fields (sym c.object.ensures ∙ ap option_copied c.in-Some-Alive.is ∙ ap (λ e. Some e) c.in-Some-Alive.field-0-is)))))
    c.take_off-in-Some-Alive.ensures

pub returns-in-Scope : goal.returns-in-Scope
returns-in-Scope c =
    subst (λ (x : Key). IsOneCounted x c.args.from.now c.args.self.now c.args.self.now) (sym c.in-Scope.is)
    (scope_key c.in-Scope.field-0 c.args.from.now c.args.self.now)
