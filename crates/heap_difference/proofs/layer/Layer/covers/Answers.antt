use Rattle.std.proofs.Common.{◌∙◌, sym, subst}
use Rattle.heap_difference.specs.Alikes.{is_alike}
use Rattle.heap_difference.specs.Layers.{LayerView, Covers}
use Rattle.heap_difference.proofs.Tests.{clash}
use Rattle.heap_difference.proofs.AlikeLemmas.{each_loose}
use Rattle.heap_difference.proofs.LayerLemmas.{covers_is, firm_covered}
use Rattle.heap_difference.proofs.layer.Layer.covers.Goals.{then-has_all, else-has_all}
use Rattle.heap_difference.proofs.layer.Layer.covers.Goals as goal

pub returns-then-has_all-2 : goal.returns-then-has_all-2
returns-then-has_all-2 c =
    let own : LayerView = record { keys = c.self.inside.keys; firm = c.self.inside.firm.objects; from = c.self.inside.from; puts = c.self.inside.puts.items; shifts = c.self.inside.alikes.shifts.items; fields = c.self.inside.alikes.fields.items } in
    let theirs : LayerView = record { keys = c.other.inside.keys; firm = c.other.inside.firm.objects; from = c.other.inside.from; puts = c.other.inside.puts.items; shifts = c.other.inside.alikes.shifts.items; fields = c.other.inside.alikes.fields.items } in (
      λ all.
          elim c.if-has_all.branch [
            | then-has_all w ↦
                subst (λ (l : LayerView). Covers l c.args.other.now) c.self.view_is
                (subst (λ (l : LayerView). Covers own l) c.other.view_is
                (covers_is own theirs c.self.inside.firm c.other.inside.firm c.self.invariant.1 c.self.invariant.2 c.other.invariant.2
                (c.has_all.ensures.0 w.if-has_all.true) (w.has_all-then-has_all.ensures.0 (sym w.value-is ∙ c.if-has_all-2.true)) (c.cover.ensures.0 all)))
            | else-has_all w ↦ absurd (let f = w.value-is in let t = c.if-has_all-2.true in cc)
          ],
      λ covers.
          let inner : Covers own theirs = subst (λ (l : LayerView). Covers l theirs) (sym c.self.view_is) (subst (λ (l : LayerView). Covers c.args.self.now l) (sym c.other.view_is) covers) in
          c.cover.ensures.1 (each_loose (is_alike own.shifts) own.fields theirs.fields inner.fields),
    )

pub returns-else-has_all-2 : goal.returns-else-has_all-2
returns-else-has_all-2 c =
    let own : LayerView = record { keys = c.self.inside.keys; firm = c.self.inside.firm.objects; from = c.self.inside.from; puts = c.self.inside.puts.items; shifts = c.self.inside.alikes.shifts.items; fields = c.self.inside.alikes.fields.items } in
    let theirs : LayerView = record { keys = c.other.inside.keys; firm = c.other.inside.firm.objects; from = c.other.inside.from; puts = c.other.inside.puts.items; shifts = c.other.inside.alikes.shifts.items; fields = c.other.inside.alikes.fields.items } in (
      λ no. absurd cc,
      λ covers.
          let inner : Covers own theirs = subst (λ (l : LayerView). Covers l theirs) (sym c.self.view_is) (subst (λ (l : LayerView). Covers c.args.self.now l) (sym c.other.view_is) covers) in
          elim c.if-has_all.branch [
            | then-has_all w ↦ absurd (clash _ (w.has_all-then-has_all.ensures.1 (firm_covered own theirs c.self.inside.firm c.other.inside.firm c.self.invariant.2 c.other.invariant.2 inner)) (sym w.value-is ∙ c.if-has_all-2.false))
            | else-has_all w ↦ absurd (clash _ (c.has_all.ensures.1 inner.keys) w.if-has_all.false)
          ],
    )
