use Rattle.std.proofs.Common.{◌≡◌, take, drop}
use Rattle.std.specs.Prelude.{◌==◌}
use Rattle.std.specs.List.{position_from}
use Rattle.trace_types.specs.Trace.{place_of}
use Rattle.run_engine.specs.inner.Spans.{laid, total}
use Rattle.run_engine.proofs.editing.listing.Listing.place.Given as goal

abbrev pub invariant-loop-span : goal.invariant-loop-span
invariant-loop-span l = record {
  at : l.at ≡ total (take l.span-index l.spans);
  place : place_of l.id l.self.ops ≡ position_from (λ op. op.id == l.id) l.at (laid l.self.base (drop l.span-index l.spans));
}
