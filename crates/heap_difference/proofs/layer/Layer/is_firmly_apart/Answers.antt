use mathlib.Core.Logic.{inl, inr}
use Rattle.std.proofs.Common.{◌≡◌, ◌∙◌, refl, ap, sym, subst, false, List}
use Rattle.std.specs.Prelude.{IsTrue, not}
use Rattle.ownership_model.specs.declared.key.Key.{Key}
use Rattle.object_heap.specs.declared.put.Put.{Put}
use Rattle.heap_difference.specs.KeySets.{set_of, meet}
use Rattle.heap_difference.specs.Naming.{with_names}
use Rattle.heap_difference.specs.Endings.{may_end_any}
use Rattle.heap_difference.specs.Puts.{AreUndersApart, unders}
use Rattle.heap_difference.specs.Layers.{LayerView}
use Rattle.heap_difference.specs.Passing.{IsFirmlyApart}
use Rattle.heap_difference.proofs.Tests.{clash, is_false}
use Rattle.heap_difference.proofs.LayerLemmas.{apart_where, none_where}
use Rattle.heap_difference.proofs.PassingLemmas.{firmly_apart, none_firm}
use Rattle.heap_difference.proofs.layer.Layer.is_firmly_apart.Goals as goal

pub returns-then-not-touches_all : goal.returns-then-not-touches_all
returns-then-not-touches_all c =
    let ops = c.args.ops.now in
    let names : List Key = with_names c.args.told.now ops c.args.outcomes.now in
    let inside = c.self.inside in
    let apart = apart_where inside.avoided inside.firm inside.puts.items names c.self.invariant.4 (sym c.touches_all.ensures ∙ c.if-not-touches_all.true) in (
      λ told. subst (λ (l : LayerView). IsFirmlyApart l (set_of names) ops) c.self.view_is
          (record { firm = firmly_apart inside.keys inside.firm (set_of names) inside.alikes.shifts.items c.self.invariant.2 apart.0; unders = inl apart.1 }),
      λ is. refl,
    )

pub returns-then-not-touches_all-2 : goal.returns-then-not-touches_all-2
returns-then-not-touches_all-2 c =
    let ops = c.args.ops.now in
    let names : List Key = with_names c.args.told.now ops c.args.outcomes.now in
    let inside = c.self.inside in
    let none : meet inside.firm (set_of names) ≡ false = sym c.touches_all-2.ensures ∙ c.if-not-touches_all-2.true in
    let ends : c.may_end_under.result ≡ may_end_any ops (unders inside.puts.items) = c.may_end_under.ensures ∙ ap (λ (ps : List Put). may_end_any ops (unders ps)) c.deref.ensures.value in (
      λ told. subst (λ (l : LayerView). IsFirmlyApart l (set_of names) ops) c.self.view_is
          (record { firm = firmly_apart inside.keys inside.firm (set_of names) inside.alikes.shifts.items c.self.invariant.2 none; unders = inr (sym ends ∙ is_false c.may_end_under.result told) }),
      λ is. elim is.unders [
        | inl apart ↦
            let there : AreUndersApart (set_of names) inside.puts.items = subst (λ (l : LayerView). AreUndersApart (set_of names) l.puts) (sym c.self.view_is) apart in
            absurd (clash c.touches_all.result c.if-not-touches_all.false (c.touches_all.ensures ∙ none_where inside.avoided inside.firm inside.puts.items names c.self.invariant.4 none there))
        | inr stay ↦
            let stays : may_end_any ops (unders inside.puts.items) ≡ false = subst (λ (l : LayerView). may_end_any ops (unders l.puts) ≡ false) (sym c.self.view_is) stay in
            subst (λ b. IsTrue (not b)) (sym (ends ∙ stays)) refl
      ],
    )

pub returns-else-not-touches_all-2 : goal.returns-else-not-touches_all-2
returns-else-not-touches_all-2 c =
    let ops = c.args.ops.now in
    let names : List Key = with_names c.args.told.now ops c.args.outcomes.now in
    let inside = c.self.inside in (
      λ no. absurd (clash c.touches_all-2.result c.if-not-touches_all-2.false (is_false c.touches_all-2.result no)),
      λ is.
          let firm = (subst (λ (l : LayerView). IsFirmlyApart l (set_of names) ops) (sym c.self.view_is) is).firm in
          absurd (clash c.touches_all-2.result c.if-not-touches_all-2.false (c.touches_all-2.ensures ∙ none_firm inside.keys inside.firm names inside.alikes.shifts.items c.self.invariant.2 firm)),
    )

pub returns-then-is_firmly_apart_by : goal.returns-then-is_firmly_apart_by
returns-then-is_firmly_apart_by c = (λ told. c.is_firmly_apart_by.ensures c.if-is_firmly_apart_by.true (with_names c.args.told.now c.args.ops.now c.args.outcomes.now) c.args.ops.now c.requires, λ is. refl)
