use Rattle.std.proofs.Common.{◌≡◌, ◌∙◌, ap, sym, refl, length, map}
use Rattle.std.proofs.lemmas.List.{length-map}
use Rattle.std.specs.List.{list_any}
use Rattle.heap_difference.specs.Holders.{are_named_by, less_by}
use Rattle.heap_difference.proofs.HolderLemmas.{none_counted, counted_before, one_counted, written_back}
use Rattle.heap_difference.proofs.Tests.{clash}
use Rattle.heap_difference.proofs.holders.Holders.take_off.Goals.{then-not-are_named-via-then-not-are_named, then-not-are_named-via-else-not-are_named+then-has_counted}
use Rattle.heap_difference.proofs.holders.Holders.take_off.Goals as goal

pub returns-then-not-are_named : goal.returns-then-not-are_named
returns-then-not-are_named c = elim c.then-not-are_named.branch [
  | then-not-are_named-via-then-not-are_named w ↦
      none_counted c.args.key c.args.slots.now c.args.self.now (ap (list_any (are_named_by c.args.slots.now)) (sym c.deref.ensures.value) ∙ sym c.are_named.ensures ∙ w.if-not-are_named.true)
  | then-not-are_named-via-else-not-are_named+then-has_counted w ↦
      λ from there. counted_before c.args.key c.args.self.now (w.has_counted.ensures.0 w.if-has_counted.true) from
]

pub returns : goal.returns
returns c =
    let less : c.lessen.new.items ≡ map (less_by c.args.slots.now) c.args.self.now.items.items = c.lessen.ensures ∙ ap (map (less_by c.args.slots.now)) c.deref_mut.ensures.value in
    let long : c.args.self.now.items.len ≡ length c.lessen.new.items = c.args.self.now.items.ok.0 ∙ sym (ap length less ∙ length-map c.args.self.now.items.items (less_by c.args.slots.now)) in
    one_counted c.args.key c.args.slots.now c.args.self.now _ (λ there. clash c.has_counted.result (c.has_counted.ensures.1 there) c.if-has_counted.false) refl
    (written_back c.args.self.now.items.len c.lessen.new.items c.args.self.now.items.items long ∙ less)
    c.in_ok-push.ensures.items refl
