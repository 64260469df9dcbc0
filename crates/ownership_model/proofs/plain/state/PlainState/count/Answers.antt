use Rattle.std.proofs.Common.{arith}
use Rattle.ownership_model.specs.State.{names_alike}
use Rattle.ownership_model.specs.Plain.{state_of}
use Rattle.ownership_model.proofs.BoundLemmas.{weight-le, names_alike-le}
use Rattle.ownership_model.proofs.plain.state.PlainState.count.Goals as goal

-- within its limits a state has few slots, and a list of items is shorter than memory
pub total-requires : goal.total-requires
total-requires c = omega (arith, weight-le (names_alike c.args.counted) (names_alike-le c.args.counted) (state_of c.args.self.now) c.args.pending.now c.requires)
