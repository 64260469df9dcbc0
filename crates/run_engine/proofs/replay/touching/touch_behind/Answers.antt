use Rattle.run_engine.proofs.OnwardLemmas.{AreAnswered-one}
use Rattle.run_engine.proofs.replay.touching.touch_behind.Goals as goal

pub returns-in_ok-add_name : goal.returns-in_ok-add_name
returns-in_ok-add_name c =
    record { answered = AreAnswered-one c.args.ops.now.ops c.args.shelf.now _ c.in-Some.name c.args.at _ c.name_behind.result _ _ c.touch.ensures c.in-Some.is c.name_behind.ensures c.in_ok-add_name.ensures.names c.in_ok-add_name.ensures.rise }
