use Rattle.std.proofs.Common.{◌≡◌, ◌++◌}
use Rattle.ownership_model.specs.Release.{release, after, work}
use Rattle.std.specs.Prelude.{flat_map}
use Rattle.ownership_model.specs.Footprint.{item_keys, taken}
use Rattle.ownership_model.specs.State.{IsSound}
use Rattle.ownership_model.specs.Alike.{Covers}
use Rattle.object_heap.specs.Told.{event_keys}
use Rattle.object_heap.specs.Counted.{IsCounted, drafted}
use Rattle.object_heap.proofs.draft.Draft.release_told.Given as goal

-- what was told so far, by keys or events, and what the rest will tell have what the whole is to tell
abbrev pub invariant-loop-item : goal.invariant-loop-item
invariant-loop-item l = record {
  sound : IsSound (drafted l.self) l.pending.items;
  counted : IsCounted l.self.objects.counts (drafted l.self) l.pending.items;
  rest : after l.events.items (release (drafted l.self) l.pending.items) ≡ after l.fn.events.items (release (drafted l.fn.self) l.fn.pending.items);
  told : Covers (l.keys.items ++ (event_keys l.events.items ++ flat_map item_keys (taken (drafted l.self) l.pending.items))) (l.fn.keys.items ++ flat_map item_keys (taken (drafted l.fn.self) l.fn.pending.items));
}

abbrev pub decreases-loop-item : goal.decreases-loop-item
decreases-loop-item l = work (drafted l.self) l.pending.items
