use Rattle.std.proofs.Common.{false, ◌≡◌, ◌∷◌, [], ◌++◌, ap, subst}
use Rattle.std.specs.List.{list_any}
use Rattle.std.specs.Ordering.{nat_cmp, is_eq}
use Rattle.std.specs.BTreeSet.{contains}
use Rattle.ownership_model.specs.Reach.{field_names, entry_names}
use Rattle.ownership_model.proofs.Searching.{visit_start, visit_new, takes_last, grows_behind, work_falls, was_new, Joins, joins_from_update}
use Rattle.object_heap.proofs.reach.reach.Goals as goal

pub loop-object-init : goal.loop-object-init
loop-object-init c =
    visit_start c.args.by c.args.heap.now (λ o. contains nat_cmp c.new-seen.result o) c.in_ok-todo.todo.items
    (λ o. ap (λ ks. list_any (λ x. is_eq (nat_cmp o x)) ks) c.new-seen.ensures.empty) c.in_ok-todo.ensures

-- the object is new
new_object : (c : goal.In_ok-push_entry) → contains nat_cmp c.loop-object.seen c.in-Some.object ≡ false
new_object c = was_new (contains nat_cmp c.loop-object.seen c.in-Some.object) _ c.if-branch.true c.in_ok-insert.ensures.added

joined : (c : goal.In_ok-push_entry) → Joins c.in-Some.object (λ o. contains nat_cmp c.loop-object.seen o) (λ o. contains nat_cmp c.insert.new.self o)
joined c = joins_from_update (λ o. contains nat_cmp c.loop-object.seen o) (λ o. contains nat_cmp c.insert.new.self o) c.in-Some.object (λ q. c.in_ok-insert.ensures.updates.0 q)

grown : (c : goal.In_ok-push_entry) → c.push_entry.new.names.items ≡ c.pop.new.self.items ++ field_names c.args.by c.args.heap.now c.in-Some.object
grown c = subst (λ e. c.push_entry.new.names.items ≡ c.pop.new.self.items ++ entry_names c.args.by e) c.object.ensures c.in_ok-push_entry.ensures

popped : (c : goal.In_ok-push_entry) → c.loop-object.todo.items ≡ c.pop.new.self.items ++ c.in-Some.object ∷ []
popped c = c.in-Some.ensures.items

pub loop-object-smaller-in-Continue-branch-3 : goal.loop-object-smaller-in-Continue-branch-3
loop-object-smaller-in-Continue-branch-3 c =
    work_falls c.args.by c.args.heap.now (λ o. contains nat_cmp c.loop-object.seen o) (λ o. contains nat_cmp c.insert.new.self o) c.in-Some.object
    c.loop-object.todo.items c.pop.new.self.items c.push_entry.new.names.items (popped c) (joined c) (new_object c) (grown c)

pub loop-object-preserved-in-Continue-branch-3 : goal.loop-object-preserved-in-Continue-branch-3
loop-object-preserved-in-Continue-branch-3 c =
    visit_new c.args.by c.args.heap.now (λ o. contains nat_cmp c.loop-object.seen o) (λ o. contains nat_cmp c.insert.new.self o) c.in-Some.object
    c.loop-object.todo.items c.pop.new.self.items c.push_entry.new.names.items c.loop-object.invariant (takes_last _ _ _ (popped c)) (joined c) (grows_behind _ _ _ (grown c))
