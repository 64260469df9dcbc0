-- What is told of an object by the numbers of a graph is what is to be told of it.
use Rattle.std.proofs.Common.{◌≡◌, ℕ, ◌+◌, ◌<◌, ◌≤◌, List, [], ◌∷◌, refl, sym, ap, ◌∙◌, subst, arith, Bool, true, false}
use Rattle.std.specs.Prelude.{Option, Some, None, ◌↔◌, ◌&&◌, not, nat_le, is_some, unwrap_or, slice_index, slice_index_or}
use Rattle.std.proofs.lemmas.Bool.Decides.{nat_tests}
use Rattle.std.specs.FinMap.{get, keys, contains_key-keys}
use Rattle.trace_types.specs.declared.slots.Slot.TheVariants.{Strong}
use Rattle.trace_types.specs.declared.slots.Entry.{Entry}
use Rattle.trace_types.specs.declared.slots.Entry.TheVariants.{Alive}
use Rattle.trace_types.specs.declared.slots.Entry.TheVariants as entry
use Rattle.trace_types.specs.Operation.{Operation}
use Rattle.ownership_model.specs.State.{nothing_held, is_alive, IsSound}
use Rattle.ownership_model.specs.Step.{end_from}
use Rattle.ownership_model.specs.Release.{is_husk}
use Rattle.ownership_model.specs.Leaks.{IsLeaked}
use Rattle.ownership_model.specs.declared.link.Link.TheVariants.{StrongOnly}
use Rattle.ownership_model.specs.Reach.{has, Reaches}
use Rattle.ownership_model.proofs.Searching.{has_as_any}
use Rattle.ownership_model.proofs.LawsHold as model
use Rattle.retention_model.specs.declared.place.Place.{Place}
use Rattle.retention_model.specs.declared.place.Place.TheVariants.{Handle, Cell, Field}
use Rattle.retention_model.specs.declared.account.Account.{Account}
use Rattle.retention_model.specs.declared.account.Why.{Why}
use Rattle.retention_model.specs.declared.account.Why.TheVariants.{Husk, Reached, InCycle, Under}
use Rattle.retention_model.specs.Places.{at, IsRoot, IsFieldOf}
use Rattle.retention_model.specs.Since.{since_from}
use Rattle.retention_model.specs.Cycles.{IsInCycle, IsFieldInCycle}
use Rattle.retention_model.specs.LeakedSince.{IsLeakedSince}
use Rattle.retention_model.proofs.WayLemmas.{root_reaches}
use Rattle.retention_model.proofs.LossLemmas.{sound_along, holder_leaked}
use Rattle.retention.specs.declared.ending.Ending.{Ending}
use Rattle.retention.specs.declared.graph.Graph.{Graph}
use Rattle.retention.specs.declared.moves.Loss.{Loss}
use Rattle.retention.specs.declared.walk.Walk.{Walk}
use Rattle.retention.specs.Graph.{size, places, object_at, alive_at, holds, start_at, IsFieldAt, is_field_at, is_field_of, is_root_at}
use Rattle.retention.specs.Walked.{Leads, Keeps, has_come, IsWalkFrom}
use Rattle.retention.specs.Components.{IsCyclic}
use Rattle.retention.specs.Paths.{Points, Path}
use Rattle.retention.specs.Losses.{AreLosses}
use Rattle.retention.specs.Dating.{is_marked, date_at, AreDated}
use Rattle.retention.specs.Retaining.{is_target}
use Rattle.retention.specs.Endings.{IsEnding, IsEndOf}
use Rattle.retention.specs.AccountsAt.{IsWhyAt, RetainsAt, IsAccountAt}
use Rattle.retention.specs.Told as told
use Rattle.retention.proofs.LayoutLemmas.{start_rises}
use Rattle.retention.proofs.GraphPaths.{true_field, path_keeps}
use Rattle.retention.proofs.GraphLaws.{place_at, strong_at, object_index, way_told, root_begins, field_begins, reached_told, keeps_told}
use Rattle.retention.proofs.CycleLaws.{cycle_told}
use Rattle.retention.proofs.UnderLemmas.{none_of}
use Rattle.retention.proofs.AccountLemmas.{index_has}
use Rattle.retention.proofs.SinceTold.{alive_key, since_told}
use Rattle.retention.proofs.HoldersTold.{holders_told}
use Rattle.retention.proofs.RetainedTold.{found, target_is, alive_arcs, retained_told}

and_both : (a b : Bool) → (a && b) ≡ true → (a ≡ true) × (b ≡ true)
and_both true b h = (refl, h)
and_both false b h = absurd cc

both_and : (a b : Bool) → a ≡ true → b ≡ true → (a && b) ≡ true
both_and true b p q = q
both_and false b p q = absurd cc

not_true : (b : Bool) → not b ≡ true → b ≡ false
not_true true h = absurd cc
not_true false h = refl

true_not : (b : Bool) → b ≡ false → not b ≡ true
true_not true h = absurd cc
true_not false h = refl

both_ways : (b : Bool) → b ≡ true → b ≡ false → ⊥
both_ways b p q = cc

dead_husk : (e : Option Entry) → is_some e ≡ true → is_alive e ≡ false → is_husk e ≡ true
dead_husk None there dead = absurd cc
dead_husk (Some (Alive fields)) there dead = absurd cc
dead_husk (Some entry.Husk) there dead = refl

-- one place more
extend : (g : Graph) (from : ℕ → Bool) (j i p : ℕ) (way : List ℕ) → Leads g from j way → IsFieldAt g j p → holds g p ≡ Some i → Leads g from i (p ∷ way)
extend g from j i p [] leads field held = absurd leads
extend g from j i p (q ∷ way) leads field held = (held, (j, field, leads))

-- from more places
from_more : (g : Graph) (from to : ℕ → Bool) → ((p : ℕ) → from p ≡ true → to p ≡ true) → (i : ℕ) (way : List ℕ) → Leads g from i way → Leads g to i way
from_more g from to more i [] leads = absurd leads
from_more g from to more i (p ∷ []) leads = (leads.0, more p leads.1)
from_more g from to more i (p ∷ q ∷ way) leads = (leads.0, (leads.1.0, leads.1.1, from_more g from to more leads.1.0 (q ∷ way) leads.1.2))

-- a field of a marked object
marked_field : (g : Graph) (marks : List Bool) (j p : ℕ) → j < size g → is_marked marks j ≡ true → IsFieldAt g j p → is_field_of g marks p ≡ true
marked_field g marks j p there marked field =
    let own : slice_index g.sources.items p ≡ j = g.laid.are_sources.same j p there field.0 field.1 in
    let whole : 0 + j ≡ j = omega arith in
    let first : start_at g 0 ≤ start_at g j = subst (λ k. start_at g 0 ≤ start_at g k) whole (start_rises g.starts.items (size g) g.laid.are_starts.rising 0 j (omega (arith, there))) in
    let behind : start_at g 0 ≤ p = omega (arith, first, field.0) in
    both_and (nat_le (start_at g 0) p) (slice_index_or marks (slice_index g.sources.items p) false) (grind (arith, nat_tests, behind)) (ap (λ k. slice_index_or marks k false) own ∙ marked)

field_marked : (g : Graph) (marks : List Bool) (p : ℕ) → p < places g → is_field_of g marks p ≡ true → (j : ℕ) × (j < size g) × (is_marked marks j ≡ true) × IsFieldAt g j p
field_marked g marks p within h =
    let each = and_both (nat_le (start_at g 0) p) (slice_index_or marks (slice_index g.sources.items p) false) h in
    let behind : start_at g 0 ≤ p = grind (arith, nat_tests, each.0) in
    let own = g.laid.are_sources.own p behind (omega (arith, within, g.held.ok.0)) in
    (slice_index g.sources.items p, own.0, each.1, own.1)

-- Of a whole trace, with the graph at its end.
module _ (ops : List Operation) (e : Ending) (of : IsEndOf ops e) (ending : IsEnding e) where
  abbrev since : Place → ℕ
  since p = since_from nothing_held ops p 0

  sound : IsSound (end_from nothing_held ops) []
  sound = sound_along ops nothing_held model.soundness.start of.0

  leaked_is : (i : ℕ) → i < size e.graph → is_marked e.leaked.items i ≡ true → (alive_at e.graph i ≡ true) × (has_come e.from_roots.steps.items i ≡ false)
  leaked_is i within marked =
      let each = and_both (alive_at e.graph i) (not (has_come e.from_roots.steps.items i)) (sym (ending.leaked i within) ∙ marked) in
      (each.0, not_true (has_come e.from_roots.steps.items i) each.1)

  reached_is : (i : ℕ) → i < size e.graph → (has_come e.from_roots.steps.items i ≡ true) ↔ Reaches StrongOnly (end_from nothing_held ops) (object_at e.graph i)
  reached_is i within = reached_told (end_from nothing_held ops) since e.graph of.1 e.from_roots ending.roots i within

  pub leaked_told : (i : ℕ) → i < size e.graph → (is_marked e.leaked.items i ≡ true) ↔ IsLeaked (end_from nothing_held ops) (object_at e.graph i)
  leaked_told i within = (
    λ marked.
        let each = leaked_is i within marked in
        record {
          alive = sym (of.1.alive i within) ∙ each.0;
          unreached = λ r. both_ways (has_come e.from_roots.steps.items i) ((reached_is i within).1 r) each.1;
        },
    λ it.
        ending.leaked i within
        ∙ both_and (alive_at e.graph i) (not (has_come e.from_roots.steps.items i)) (of.1.alive i within ∙ it.alive)
        (true_not (has_come e.from_roots.steps.items i) (not_come (has_come e.from_roots.steps.items i) refl it)),
  )
    where
      not_come : (b : Bool) → has_come e.from_roots.steps.items i ≡ b → IsLeaked (end_from nothing_held ops) (object_at e.graph i) → b ≡ false
      not_come true h it = absurd (it.unreached ((reached_is i within).0 h))
      not_come false h it = refl

  pub cyclic_told : (i : ℕ) → i < size e.graph → IsCyclic e.graph e.leaked.items i ↔ IsInCycle (end_from nothing_held ops) (object_at e.graph i)
  cyclic_told i within = (
    λ it. ((leaked_told i within).0 it.0, (keeps_told (end_from nothing_held ops) since e.graph of.1 i i within within).0 it.1),
    λ it. ((leaked_told i within).1 it.0, (keeps_told (end_from nothing_held ops) since e.graph of.1 i i within within).1 it.1),
  )

  cycle_begins : (p : ℕ) → p < places e.graph
      → (is_field_of e.graph e.cycles.marks.items p ≡ true → IsFieldInCycle (end_from nothing_held ops) (place_at e.graph p)) × (IsFieldInCycle (end_from nothing_held ops) (place_at e.graph p) → is_field_of e.graph e.cycles.marks.items p ≡ true)
  cycle_begins p within = (
    λ h.
        let j = field_marked e.graph e.cycles.marks.items p within h in
        (object_at e.graph j.0, (cyclic_told j.0 j.1).0 ((ending.cycles.marked j.0 j.1).0 j.2), (of.1.fields j.0 p j.1 within).0 j.3),
    λ it.
        let j = object_index (end_from nothing_held ops) since e.graph of.1 it.0 (alive_key (end_from nothing_held ops) it.0 it.1.0.alive) in
        let cyclic : IsCyclic e.graph e.leaked.items j.0 = (cyclic_told j.0 j.1).1 (subst (λ k. IsInCycle (end_from nothing_held ops) k) (sym j.2) it.1) in
        marked_field e.graph e.cycles.marks.items j.0 p j.1 ((ending.cycles.marked j.0 j.1).1 cyclic)
        ((of.1.fields j.0 p j.1 within).1 (subst (λ k. IsFieldOf k (place_at e.graph p)) (sym j.2) it.2)),
  )

  -- ---- what leaked is in a cycle or under one
  module _ (w : Walk) (walked : IsWalkFrom e.graph (is_field_of e.graph e.cycles.marks.items) w) where
    abbrev IsLeft : ℕ → Type 0
    IsLeft i = (i < size e.graph) × (is_marked e.leaked.items i ≡ true) × (has_come w.steps.items i ≡ false)

    holder_of : (i : ℕ) → IsLeft i → (j : ℕ) × IsLeft j × Points e.graph j i
    holder_of i left =
        let leaked : IsLeaked (end_from nothing_held ops) (object_at e.graph i) = (leaked_told i left.0).0 left.1 in
        let p = found (λ q. is_target (holds e.graph q) i) (places e.graph) (alive_arcs (end_from nothing_held ops) sound since e.graph of.1 i left.0 leaked.alive) in
        let held : holds e.graph p.0 ≡ Some i = target_is (holds e.graph p.0) i p.2 in
        by_place p.0 p.1 held leaked (place_at e.graph p.0) refl
      where
        not_come : (p j : ℕ) → holds e.graph p ≡ Some i → IsFieldAt e.graph j p → (b : Bool) → has_come w.steps.items j ≡ b → b ≡ false
        not_come p j held field true h = absurd (both_ways (has_come w.steps.items i) (walked.all i (p ∷ walked.way j) (extend e.graph (is_field_of e.graph e.cycles.marks.items) j i p (walked.way j) (walked.least j h).0 field held)) left.2)
        not_come p j held field false h = refl

        by_place : (p : ℕ) → p < places e.graph → holds e.graph p ≡ Some i → IsLeaked (end_from nothing_held ops) (object_at e.graph i) → (q : Place) → place_at e.graph p ≡ q → (j : ℕ) × IsLeft j × Points e.graph j i
        by_place p within held leaked (Handle h k) same =
            absurd (leaked.unreached (root_reaches (end_from nothing_held ops) (Handle h k) (object_at e.graph i) tt (subst (λ x. at (end_from nothing_held ops) x ≡ Some (Strong (object_at e.graph i))) same (strong_at (end_from nothing_held ops) since e.graph of.1 p i held))))
        by_place p within held leaked (Cell c) same =
            absurd (leaked.unreached (root_reaches (end_from nothing_held ops) (Cell c) (object_at e.graph i) tt (subst (λ x. at (end_from nothing_held ops) x ≡ Some (Strong (object_at e.graph i))) same (strong_at (end_from nothing_held ops) since e.graph of.1 p i held))))
        by_place p within held leaked (Field a k) same =
            let here : at (end_from nothing_held ops) (Field a k) ≡ Some (Strong (object_at e.graph i)) = subst (λ x. at (end_from nothing_held ops) x ≡ Some (Strong (object_at e.graph i))) same (strong_at (end_from nothing_held ops) since e.graph of.1 p i held) in
            let gone : IsLeaked (end_from nothing_held ops) a = holder_leaked (end_from nothing_held ops) (object_at e.graph i) a k leaked here in
            let j = object_index (end_from nothing_held ops) since e.graph of.1 a (alive_key (end_from nothing_held ops) a gone.alive) in
            let field : IsFieldAt e.graph j.0 p = (of.1.fields j.0 p j.1 within).1 (subst (λ x. IsFieldOf (object_at e.graph j.0) x) (sym same) (sym j.2)) in
            let marked : is_marked e.leaked.items j.0 ≡ true = (leaked_told j.0 j.1).1 (subst (λ x. IsLeaked (end_from nothing_held ops) x) (sym j.2) gone) in
            (j.0, (j.1, marked, not_come p j.0 held field (has_come w.steps.items j.0) refl), (p, field, held))

    never_cyclic : (i : ℕ) → IsLeft i → Path (Points e.graph) i i → ⊥
    never_cyclic i left path =
        let keeps : Keeps e.graph i i = path_keeps e.graph i i path in
        let mark : is_marked e.cycles.marks.items i ≡ true = (ending.cycles.marked i left.0).1 (left.1, keeps) in
        both_ways (has_come w.steps.items i)
        (walked.all i keeps.0 (from_more e.graph (is_field_at e.graph i) (is_field_of e.graph e.cycles.marks.items) (λ p field. marked_field e.graph e.cycles.marks.items i p left.0 mark (true_field e.graph i p field)) i keeps.0 keeps.1)) left.2

    pub comes_to : (i : ℕ) → i < size e.graph → is_marked e.leaked.items i ≡ true → has_come w.steps.items i ≡ true
    comes_to i within marked = by_test (has_come w.steps.items i) refl
      where
        by_test : (b : Bool) → has_come w.steps.items i ≡ b → b ≡ true
        by_test true h = refl
        by_test false h = absurd (none_of e.graph IsLeft (λ k left. left.0) holder_of never_cyclic i (within, marked, h))

  -- ---- why it is there
  module _ (losses : List Loss) (lost : AreLosses nothing_held ops losses) (dates : List (Option ℕ)) (dated : AreDated e.graph e.leaked.items losses dates)
      (w : Walk) (walked : IsWalkFrom e.graph (is_field_of e.graph e.cycles.marks.items) w) (i : ℕ) (within : i < size e.graph) where
    since_is : is_marked e.leaked.items i ≡ true → (n : ℕ) → n ≡ unwrap_or (date_at dates i) 0 → IsLeakedSince ops (object_at e.graph i) n
    since_is marked n same =
        subst (λ k. IsLeakedSince ops (object_at e.graph i) k) (sym same)
        (since_told ops of.0 since e.graph of.1 e.leaked.items leaked_told losses lost dates dated i within marked)

    there : is_some (get (end_from nothing_held ops).objects (object_at e.graph i)) ≡ true
    there =
        contains_key-keys (end_from nothing_held ops).objects (object_at e.graph i) ∙ has_as_any (object_at e.graph i) (keys (end_from nothing_held ops).objects)
        ∙ subst (λ ks. has (object_at e.graph i) ks ≡ true) of.1.objects (index_has e.graph.objects.items i within)

    why_told : (y : Why) → IsWhyAt e w.steps.items (date_at dates i) i y → told.IsWhy ops (end_from nothing_held ops) (object_at e.graph i) y
    why_told Husk it = dead_husk (get (end_from nothing_held ops).objects (object_at e.graph i)) there (sym (of.1.alive i within) ∙ it)
    why_told (Reached way) it = (
      sym (of.1.alive i within) ∙ it.0,
      (reached_is i within).0 it.1,
      way_told (end_from nothing_held ops) since e.graph of.1 (is_root_at e.graph) IsRoot (root_begins (end_from nothing_held ops) since e.graph of.1) i within way.items it.2,
    )
    why_told (InCycle n way count) it =
        let in_cycle : IsInCycle (end_from nothing_held ops) (object_at e.graph i) = (cyclic_told i within).0 it.0 in
        let cycle = cycle_told (end_from nothing_held ops) since e.graph of.1 e.cycles.parts.items ending.cycles.parts i within in_cycle.0 it.0.1 in (
          in_cycle,
          since_is it.0.0 n it.1,
          way_told (end_from nothing_held ops) since e.graph of.1 (is_field_at e.graph i) (IsFieldOf (object_at e.graph i)) (field_begins (end_from nothing_held ops) since e.graph of.1 i within) i within way.items it.2,
          (cycle.0, cycle.1, it.3 ∙ cycle.2),
        )
    why_told (Under n way) it = (
      (leaked_told i within).0 it.0,
      λ in_cycle. it.1 ((cyclic_told i within).1 in_cycle),
      since_is it.0 n it.2,
      way_told (end_from nothing_held ops) since e.graph of.1 (is_field_of e.graph e.cycles.marks.items) (IsFieldInCycle (end_from nothing_held ops)) cycle_begins i within way.items (it.3 (comes_to w walked i within it.0)),
    )

    retains_told : (n : Option ℕ) → RetainsAt e.graph i n → told.RetainsSo ops (end_from nothing_held ops) (object_at e.graph i) n
    retains_told None it = sym (of.1.alive i within) ∙ it
    retains_told (Some count) it =
        let kept = retained_told (end_from nothing_held ops) sound since e.graph of.1 i it.1.0 it.1.1 in
        (sym (of.1.alive i within) ∙ it.0, (kept.0, kept.1, it.1.2 ∙ kept.2))

    pub account_told : (a : Account) → IsAccountAt e w.steps.items (date_at dates i) i a → told.IsAccount ops (end_from nothing_held ops) (object_at e.graph i) a
    account_told a it = record {
      held = it.held ∙ holders_told (end_from nothing_held ops) since e.graph of.1 false i within;
      kept = it.kept ∙ holders_told (end_from nothing_held ops) since e.graph of.1 true i within;
      why = why_told a.why it.why;
      retained = retains_told a.retained it.retained;
    }
