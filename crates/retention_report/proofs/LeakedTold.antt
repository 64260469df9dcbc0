-- What an ending tells as leaked is what leaked.
use Rattle.std.proofs.Common.{◌≡◌, ℕ, ◌<◌, List, refl, sym, ◌∙◌, Bool, true, false}
use Rattle.std.specs.Prelude.{Option, Some, None, ◌↔◌, ◌&&◌, not, is_some, slice_index_or}
use Rattle.std.specs.FinMap.{get, keys, contains_key-keys}
use Rattle.trace_types.specs.declared.slots.Entry.{Entry}
use Rattle.trace_types.specs.Operation.{Operation}
use Rattle.ownership_model.specs.State.{State, nothing_held, is_alive}
use Rattle.ownership_model.specs.Step.{end_from}
use Rattle.ownership_model.specs.Leaks.{IsLeaked}
use Rattle.ownership_model.specs.declared.link.Link.TheVariants.{StrongOnly}
use Rattle.ownership_model.specs.Reach.{has, Reaches}
use Rattle.ownership_model.proofs.Searching.{has_as_any}
use Rattle.retention_model.specs.Since.{since_from}
use Rattle.retention.specs.declared.ending.Ending.{Ending}
use Rattle.retention.specs.Graph.{size, object_at, alive_at}
use Rattle.retention.specs.Walked.{has_come}
use Rattle.retention.specs.Endings.{IsEnding, IsEndOf}
use Rattle.retention.proofs.GraphLaws.{reached_told}

alive_there : (e : Option Entry) → is_alive e ≡ true → is_some e ≡ true
alive_there None h = absurd cc
alive_there (Some e) h = refl

pub alive_key : (m : State) (o : ℕ) → is_alive (get m.objects o) ≡ true → has o (keys m.objects) ≡ true
alive_key m o h = sym (has_as_any o (keys m.objects)) ∙ sym (contains_key-keys m.objects o) ∙ alive_there (get m.objects o) h

and_both : (a b : Bool) → (a && b) ≡ true → (a ≡ true) × (b ≡ true)
and_both true b h = (refl, h)
and_both false b h = absurd cc

both_and : (a b : Bool) → a ≡ true → b ≡ true → (a && b) ≡ true
both_and true b p q = q
both_and false b p q = absurd cc

not_true : (b : Bool) → not b ≡ true → b ≡ false
not_true true h = absurd cc
not_true false h = refl

true_not : (b : Bool) → b ≡ false → not b ≡ true
true_not true h = absurd cc
true_not false h = refl

both_ways : (b : Bool) → b ≡ true → b ≡ false → ⊥
both_ways b p q = cc

-- Of a whole trace, with the graph at its end.
module _ (ops : List Operation) (e : Ending) (of : IsEndOf ops e) (ending : IsEnding e) where
  leaked_is : (i : ℕ) → i < size e.graph → slice_index_or e.leaked.items i false ≡ true → (alive_at e.graph i ≡ true) × (has_come e.from_roots.steps.items i ≡ false)
  leaked_is i within marked =
      let each = and_both (alive_at e.graph i) (not (has_come e.from_roots.steps.items i)) (sym (ending.leaked i within) ∙ marked) in
      (each.0, not_true (has_come e.from_roots.steps.items i) each.1)

  reached_is : (i : ℕ) → i < size e.graph → (has_come e.from_roots.steps.items i ≡ true) ↔ Reaches StrongOnly (end_from nothing_held ops) (object_at e.graph i)
  reached_is i within = reached_told (end_from nothing_held ops) (λ p. since_from nothing_held ops p 0) e.graph of.1 e.from_roots ending.roots i within

  pub leaked_told : (i : ℕ) → i < size e.graph → (slice_index_or e.leaked.items i false ≡ true) ↔ IsLeaked (end_from nothing_held ops) (object_at e.graph i)
  leaked_told i within = (
    λ marked.
        let each = leaked_is i within marked in
        record {
          alive = sym (of.1.alive i within) ∙ each.0;
          unreached = λ r. both_ways (has_come e.from_roots.steps.items i) ((reached_is i within).1 r) each.1;
        },
    λ it.
        ending.leaked i within
        ∙ both_and (alive_at e.graph i) (not (has_come e.from_roots.steps.items i)) (of.1.alive i within ∙ it.alive)
        (true_not (has_come e.from_roots.steps.items i) (not_come (has_come e.from_roots.steps.items i) refl it)),
  )
    where
      not_come : (b : Bool) → has_come e.from_roots.steps.items i ≡ b → IsLeaked (end_from nothing_held ops) (object_at e.graph i) → b ≡ false
      not_come true h it = absurd (it.unreached ((reached_is i within).0 h))
      not_come false h it = refl
