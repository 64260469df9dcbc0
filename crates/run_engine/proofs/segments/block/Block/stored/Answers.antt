use Rattle.std.proofs.Common.{◌+◌, ◌∙◌, ap, map, refl}
use Rattle.std.specs.Prelude.{slice_range}
use Rattle.std.specs.Arc.{arc_value}
use Rattle.std.specs.Option.{option_map}
use Rattle.run_engine.specs.Segments.{ops_of}
use Rattle.run_engine.proofs.MeasureLemmas.{stored}
use Rattle.run_engine.proofs.segments.block.Block.stored.Goals as goal

pub returns : goal.returns
returns c =
    ap (λ ss. map ops_of (slice_range ss c.self.inside.from (c.self.inside.from + c.self.inside.len))) (c.deref-2.ensures.value ∙ ap (λ v. v.items) c.deref.ensures)
    ∙ stored (option_map arc_value c.self.inside.laid) c.self.inside.given_up c.self.inside.from c.self.inside.len (c.self.inside.from + c.self.inside.len) (arc_value c.self.inside.segments).items c.args.self.now c.self.view_is refl
