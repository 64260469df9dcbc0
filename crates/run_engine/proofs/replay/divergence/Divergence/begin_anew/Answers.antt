use Rattle.std.proofs.Common.{ap}
use Rattle.std.specs.FinMap.{get}
use Rattle.ownership_model.specs.State.{State}
use Rattle.run_engine.proofs.replay.divergence.Divergence.begin_anew.Goals as goal

pub returns-clause-known : goal.returns-clause-known
returns-clause-known c r known fork = λ q none. ap (λ (m : State). get m.objects q) fork
