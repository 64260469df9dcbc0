use Rattle.std.proofs.Common.{◌≡◌, ◌+◌, ◌++◌, ◌∷◌, [], List, ℕ, length, drop, ap, ◌∙◌, sym}
use Rattle.std.specs.Prelude.{Some, Option, map}
use Rattle.std.specs.FinMap.{get}
use Rattle.trace_types.specs.declared.slots.Holding.{Holding}
use Rattle.trace_types.specs.declared.slots.Item.{Item}
use Rattle.trace_types.specs.declared.slots.Change.{Change}
use Rattle.trace_types.specs.declared.slots.Change.TheVariants.{EndHandle}
use Rattle.trace_types.specs.declared.kinds.Field.TheVariants as field
use Rattle.ownership_model.specs.Scopes.{scope_of}
use Rattle.ownership_model.specs.View.{elements_of}
use Rattle.ownership_model.specs.Table.{ending, holding_drops, held_drops}
use Rattle.object_heap.specs.Links.{first_of}
use Rattle.op_step.proofs.ScopeLemmas.{left_from, next_handle, rest_behind, ended_next, dropped_next}
use Rattle.op_step.proofs.scope.scope_end.Goals as goal

pub loop-next-preserved : goal.loop-next-preserved
loop-next-preserved c =
    let m = c.args.heap.now in
    let h = c.in-Some.h in
    let before = c.loop-next.changes.items in
    let after = c.push.new.self.items in
    let hs = scope_of c.args.label m.scopes in
    let n = length before in
    let here : Some h ≡ first_of (drop n hs) = cc in
    let left : drop n hs ≡ h ∷ drop (n + 1) hs = left_from n h hs here in
    let added : after ≡ before ++ EndHandle h ∷ [] = c.in_ok-push.ensures.items in
    let rest : drop (length after) hs ≡ drop (n + 1) hs = rest_behind before after (EndHandle h) hs added in
    let held : c.push_held.new.pending.items ≡ c.loop-next.pending.items ++ holding_drops (get m.handles h) [] =
    c.in_ok-push_held.ensures ∙ ap (λ (x : Option Holding). c.loop-next.pending.items ++ holding_drops x []) c.holding.ensures.value in
    record {
      next = c.earlier-next.ensures ∙ next_handle m c.args.label h n c.holding.ensures.sound here ∙ ap first_of (sym rest);
      changes =
          ap (λ (xs : List ℕ). after ++ ending (elements_of m (map field.Held xs)) []) rest
          ∙ ap (λ (cs : List Change). cs ++ ending (elements_of m (map field.Held (drop (n + 1) hs))) []) added
          ∙ ended_next m before h (drop (n + 1) hs) (drop n hs) left
          ∙ c.loop-next.invariant.changes;
      pending =
          ap (λ (xs : List ℕ). c.push_held.new.pending.items ++ held_drops (elements_of m (map field.Held xs))) rest
          ∙ ap (λ (is : List Item). is ++ held_drops (elements_of m (map field.Held (drop (n + 1) hs)))) held
          ∙ dropped_next m c.loop-next.pending.items h (drop (n + 1) hs) (drop n hs) left
          ∙ c.loop-next.invariant.pending;
    }
