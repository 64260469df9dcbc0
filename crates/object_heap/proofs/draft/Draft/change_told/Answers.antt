use Rattle.std.proofs.Common.{◌≡◌, ◌++◌, ◌∙◌, ap, sym, Some}
use Rattle.std.specs.Option.{option_copied}
use Rattle.std.specs.FinMap as map
use Rattle.ownership_model.specs.Footprint.{holding_keys, moved_by}
use Rattle.object_heap.specs.Counted.{drafted}
use Rattle.object_heap.proofs.CoverLemmas.{ok_as, ok_then}
use Rattle.object_heap.proofs.draft.Draft.change_told.Goals as goal

pub returns-in_ok-held-in-SetHandle-clause-told : goal.returns-in_ok-held-in-SetHandle-clause-told
returns-in_ok-held-in-SetHandle-clause-told c =
    let m = drafted c.args.self.now in
    let new = holding_keys (Some c.in-SetHandle.holding) in
    let was : holding_keys (map.get m.handles c.in-SetHandle.handle) ≡ holding_keys (option_copied c.as_ref.result) = ap holding_keys (sym (c.as_ref.ensures.value ∙ c.in_ok-held-in-SetHandle.ensures.was)) in
    ok_then c.tell_held.result c.args.keys.now.items c.tell_holding.new.keys.items c.tell_held.new.keys.items new (holding_keys (option_copied c.as_ref.result)) (moved_by m c.args.change.now)
    c.in_ok-tell_holding-in-SetHandle.ensures c.tell_held.ensures (ap (moved_by m) c.in-SetHandle.is ∙ ap (λ ks. new ++ ks) was)

pub returns-in_ok-held-in-EndHandle-clause-told : goal.returns-in_ok-held-in-EndHandle-clause-told
returns-in_ok-held-in-EndHandle-clause-told c =
    let m = drafted c.args.self.now in
    let was : holding_keys (map.get m.handles c.in-EndHandle.handle) ≡ holding_keys (option_copied c.as_ref-in-EndHandle.result) = ap holding_keys (sym (c.as_ref-in-EndHandle.ensures.value ∙ c.in_ok-held-in-EndHandle.ensures.was)) in
    ok_as c.tell_held-in-EndHandle.result c.args.keys.now.items c.tell_held-in-EndHandle.new.keys.items (holding_keys (option_copied c.as_ref-in-EndHandle.result)) (moved_by m c.args.change.now)
    c.tell_held-in-EndHandle.ensures (ap (moved_by m) c.in-EndHandle.is ∙ was)
