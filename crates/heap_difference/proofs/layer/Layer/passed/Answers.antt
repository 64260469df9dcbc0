use mathlib.Core.Logic.{inl, inr}
use Rattle.std.proofs.Common.{◌≡◌, ◌∙◌, refl, ap, sym, subst, true, List, [], map, Bool}
use Rattle.ownership_model.specs.declared.key.Key.{Key}
use Rattle.heap_difference.specs.declared.shifts.Shift.{Shift}
use Rattle.heap_difference.specs.KeySets.{set_of}
use Rattle.heap_difference.specs.Alikes.{shifted_outcome}
use Rattle.heap_difference.specs.Blind.{are_blind}
use Rattle.heap_difference.specs.Holders.{IsCountedIn, WerePassed, MustPass}
use Rattle.heap_difference.specs.Recounted.{told_or}
use Rattle.heap_difference.specs.Naming.{with_names, with_sets}
use Rattle.heap_difference.specs.Layers.{LayerView}
use Rattle.heap_difference.proofs.Tests.{clash}
use Rattle.heap_difference.proofs.PassingLemmas.{sets_within, told_named, passed_apart, passed_blind, apart_keys, none_alike}
use Rattle.heap_difference.proofs.layer.Layer.passed.Goals as goal

pub returns-then-is_apart_by-clause-passed : goal.returns-then-is_apart_by-clause-passed
returns-then-is_apart_by-clause-passed c old new way touched is follow =
    let l : LayerView = c.args.self.now in
    let ops = c.args.ops.now in
    let names : List Key = with_names c.args.told.now ops c.args.outcomes.now in
    let apart = c.is_apart_by.ensures c.if-is_apart_by.true names c.requires in
    passed_apart l c.args.holders.now (set_of names) (set_of (with_sets c.args.told.now ops c.args.outcomes.now)) old new ops c.args.outcomes.now way touched (sets_within c.args.told.now ops c.args.outcomes.now old touched is) (apart_keys l.keys (set_of names) apart.0) (inl apart.1) is (told_named c.args.told.now ops c.args.outcomes.now) follow

pub returns-then-is_empty-clause-passed : goal.returns-then-is_empty-clause-passed
returns-then-is_empty-clause-passed c old new way touched is follow =
    let l : LayerView = c.args.self.now in
    let ops = c.args.ops.now in
    let names : List Key = with_names c.args.told.now ops c.args.outcomes.now in
    let apart = c.is_firmly_apart.ensures.0 c.if-not-is_firmly_apart.false in
    let empty : l.shifts ≡ [] = sym (ap (λ (v : LayerView). v.shifts) c.self.view_is) ∙ c.is_empty.ensures.0 c.if-is_empty.true in
    passed_apart l c.args.holders.now (set_of names) (set_of (with_sets c.args.told.now ops c.args.outcomes.now)) old new ops c.args.outcomes.now way touched (sets_within c.args.told.now ops c.args.outcomes.now old touched is) (none_alike l (set_of names) empty apart.firm) apart.unders is (told_named c.args.told.now ops c.args.outcomes.now) follow

pub returns-clause-passed : goal.returns-clause-passed
returns-clause-passed c old new way touched is follow =
    let l : LayerView = c.args.self.now in
    let ops = c.args.ops.now in
    let outcomes = c.args.outcomes.now in
    let names : List Key = with_names c.args.told.now ops outcomes in
    let sets : List Key = with_sets c.args.told.now ops outcomes in
    let apart = c.is_firmly_apart.ensures.0 c.if-not-is_firmly_apart.false in
    let blind : are_blind l.shifts l.fields ops outcomes ≡ true =
    sym (ap (λ (v : LayerView). are_blind v.shifts v.fields ops outcomes) c.self.view_is) ∙ sym c.are_blind.ensures ∙ c.if-not-are_blind.false in
    let told : told_or outcomes c.in_ok-recounted.field-0 ≡ map (shifted_outcome l.shifts) outcomes =
    c.in_ok-recounted.ensures.told ∙ ap (λ (ss : List Shift). map (shifted_outcome ss) outcomes) (c.deref.ensures.value ∙ ap (λ (v : LayerView). v.shifts) c.self.view_is) in
    let passed : (t : Key → Bool) → IsCountedIn t l.from c.args.holders.now → WerePassed t (set_of names) (set_of sets) l.from c.args.holders.now c.pass.new.self =
    subst (λ (v : LayerView). (t : Key → Bool) → IsCountedIn t v.from c.args.holders.now → WerePassed t (set_of names) (set_of sets) v.from c.args.holders.now c.pass.new.self) c.self.view_is
    (λ t counted. (rw c.in_ok-pass.was at (c.pass.ensures.passed t counted)) c.if-not-branch.false) in
    passed_blind l c.args.holders.now c.pass.new.self (set_of names) (set_of sets) old new ops outcomes (told_or outcomes c.in_ok-recounted.field-0) way touched (sets_within c.args.told.now ops outcomes old touched is) apart blind is (told_named c.args.told.now ops outcomes) passed told follow

pub returns-then-is_apart_by-clause-names : goal.returns-then-is_apart_by-clause-names
returns-then-is_apart_by-clause-names c = refl

pub returns-then-is_empty-clause-names : goal.returns-then-is_empty-clause-names
returns-then-is_empty-clause-names c = refl

pub returns-clause-names : goal.returns-clause-names
returns-clause-names c = c.in_ok-recounted.ensures.names

pub returns-then-not-is_firmly_apart-clause-must : goal.returns-then-not-is_firmly_apart-clause-must
returns-then-not-is_firmly_apart-clause-must c t counted must = absurd (clash c.is_firmly_apart.result (c.is_firmly_apart.ensures.1 must.apart) c.if-not-is_firmly_apart.true)

pub returns-then-not-are_blind-clause-must : goal.returns-then-not-are_blind-clause-must
returns-then-not-are_blind-clause-must c t counted must = elim must.same [
  | inl empty ↦ absurd (clash c.is_empty.result (c.is_empty.ensures.1 (ap (λ (v : LayerView). v.shifts) c.self.view_is ∙ empty)) c.if-is_empty.false)
  | inr both ↦ absurd (clash c.are_blind.result (c.are_blind.ensures ∙ ap (λ (v : LayerView). are_blind v.shifts v.fields c.args.ops.now c.args.outcomes.now) c.self.view_is ∙ both.0) c.if-not-are_blind.true)
]

pub returns-then-not-branch-clause-must : goal.returns-then-not-branch-clause-must
returns-then-not-branch-clause-must c t counted must = elim must.same [
  | inl empty ↦ absurd (clash c.is_empty.result (c.is_empty.ensures.1 (ap (λ (v : LayerView). v.shifts) c.self.view_is ∙ empty)) c.if-is_empty.false)
  | inr both ↦
      let ops = c.args.ops.now in
      let outcomes = c.args.outcomes.now in
      let names : List Key = with_names c.args.told.now ops outcomes in
      let sets : List Key = with_sets c.args.told.now ops outcomes in
      let here : IsCountedIn t c.self.inside.from c.args.holders.now = subst (λ (v : LayerView). IsCountedIn t v.from c.args.holders.now) (sym c.self.view_is) counted in
      let so : MustPass (set_of names) (set_of sets) c.self.inside.from c.args.holders.now = subst (λ (v : LayerView). MustPass (set_of names) (set_of sets) v.from c.args.holders.now) (sym c.self.view_is) both.1 in
      absurd (clash c.in_ok-pass.field-0 (rw c.in_ok-pass.was at (c.pass.ensures.must t here so)) c.if-not-branch.true)
]
