use Rattle.std.proofs.lemmas.Slice.Eq.{slice_eq-Decides}
use Rattle.trace_types.proofs.sequence.Sequence.same.Goals as goal

pub returns : goal.returns
returns g c = slice_eq-Decides c.requires.decides _ _ _ c.eq.ensures
