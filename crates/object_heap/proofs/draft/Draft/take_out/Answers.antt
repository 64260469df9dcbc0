use Rattle.std.proofs.Common.{refl}
use Rattle.object_heap.specs.declared.draft.Draft.{Draft}
use Rattle.object_heap.specs.Counted.{drafted}
use Rattle.object_heap.specs.Exchange.{without_object}
use Rattle.object_heap.proofs.GainLemmas.{on_ok, no_more}
use Rattle.object_heap.proofs.ExchangeLemmas.{object_weight, out_balance, still_in, counted_then, cut_entry, still_counted, took_out}
use Rattle.object_heap.proofs.draft.Draft.take_out.Goals as goal

pub let_go_object-requires : goal.let_go_object-requires
let_go_object-requires c =
    let old = c.args.self.now in
    still_in old.objects.counts old.objects.counts (drafted old) (without_object (drafted old) c.args.object) (λ w. 0) (object_weight (drafted old) c.args.object)
    (out_balance (drafted old) c.args.object) c.requires.counted (no_more old.objects.counts (λ w. 0) (λ w. refl))

pub returns : goal.returns
returns c =
    let old = c.args.self.now in
    let less = c.let_go_object.new.objects in
    let new : Draft = record { handles = old.handles; cells = old.cells; objects = c.remove.new.self } in
    on_ok c.remove.result c.remove.ensures.ok (λ cut.
    took_out old new c.args.object c.requires.bounded (cut_entry old less c.remove.new.self c.args.object cut c.in_ok-let_go_object.ensures.entries)
    (still_counted less c.remove.new.self _ (without_object (drafted old) c.args.object) cut
    (counted_then old.objects.counts old.objects.counts (drafted old) (without_object (drafted old) c.args.object) (λ w. 0) (object_weight (drafted old) c.args.object)
    (out_balance (drafted old) c.args.object) c.requires.counted (no_more old.objects.counts (λ w. 0) (λ w. refl)) less.counts c.in_ok-let_go_object.ensures.counts)))
