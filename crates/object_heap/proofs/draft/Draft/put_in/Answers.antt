use Rattle.std.proofs.Common.{◌≡◌, [], ◌∙◌, subst, sym, arith, rules}
use Rattle.std.specs.Ordering.{nat_cmp}
use Rattle.std.specs.FinMap.{FinMap, get}
use Rattle.trace_types.specs.declared.slots.Entry.{Entry}
use Rattle.ownership_model.specs.State.{entry_weight}
use Rattle.object_heap.specs.declared.draft.Draft.{Draft}
use Rattle.object_heap.specs.Counted.{drafted}
use Rattle.object_heap.specs.Exchange.{with_object}
use Rattle.object_heap.specs.Gains.{CountsMore, HasSlots}
use Rattle.object_heap.proofs.GainLemmas.{on_ok, put_entry, room}
use Rattle.object_heap.proofs.ExchangeLemmas.{object_weight, in_balance, still_in, counted_then, still_counted, put_in}
use Rattle.ownership_model.proofs.Counting.{weight_at}
use Rattle.object_heap.proofs.draft.Draft.put_in.Goals as goal

pub hold_entry-requires-clause-room : goal.hold_entry-requires-clause-room
hold_entry-requires-clause-room c =
    let old = c.args.self.now in
    room old.objects.counts (drafted old) [] c.requires.bounded c.requires.counted (omega arith)

pub let_go_object-requires : goal.let_go_object-requires
let_go_object-requires c =
    let old = c.args.self.now in
    let more = c.hold_entry.new.objects in
    subst (λ (es : FinMap nat_cmp Entry). HasSlots more.counts (λ w. weight_at (entry_weight w) (get es c.args.object))) (sym c.in_ok-hold_entry.ensures.entries)
    (still_in old.objects.counts more.counts (drafted old) (with_object (drafted old) c.args.object c.args.entry.now) (λ w. entry_weight w c.args.entry.now) (object_weight (drafted old) c.args.object)
    (in_balance (drafted old) c.args.object c.args.entry.now) c.requires.counted c.in_ok-hold_entry.ensures.counts)

pub returns : goal.returns
returns c =
    let old = c.args.self.now in
    let more = c.hold_entry.new.objects in
    let less = c.let_go_object.new.objects in
    let new : Draft = record { handles = old.handles; cells = old.cells; objects = c.insert.new.self } in
    let same : c.in_ok-copy.copy ≡ c.args.entry.now = search rules in
    let fewer : CountsMore less.counts more.counts (object_weight (drafted old) c.args.object) =
    subst (λ (es : FinMap nat_cmp Entry). CountsMore less.counts more.counts (λ w. weight_at (entry_weight w) (get es c.args.object))) c.in_ok-hold_entry.ensures.entries c.in_ok-let_go_object.ensures.counts in
    on_ok c.insert.result c.insert.ensures.ok (λ put.
    put_in old new c.args.object c.args.entry.now c.requires.bounded c.requires.within c.requires.few
    (put_entry old less c.insert.new.self c.args.object c.in_ok-copy.copy c.args.entry.now put (c.in_ok-let_go_object.ensures.entries ∙ c.in_ok-hold_entry.ensures.entries) same)
    (still_counted less c.insert.new.self _ (with_object (drafted old) c.args.object c.args.entry.now) put
    (counted_then old.objects.counts more.counts (drafted old) (with_object (drafted old) c.args.object c.args.entry.now) (λ w. entry_weight w c.args.entry.now) (object_weight (drafted old) c.args.object)
    (in_balance (drafted old) c.args.object c.args.entry.now) c.requires.counted c.in_ok-hold_entry.ensures.counts less.counts fewer)))
