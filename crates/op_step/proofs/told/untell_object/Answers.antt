use Rattle.std.proofs.Common.{◌++◌, map, sym, subst, ℕ}
use Rattle.std.specs.Prelude.{Option, option_to_list}
use Rattle.ownership_model.specs.declared.key.Key.TheVariants.{Object}
use Rattle.ownership_model.specs.Alike.{Covers}
use Rattle.op_step.proofs.told.untell_object.Goals as goal

pub returns-in-Some : goal.returns-in-Some
returns-in-Some c = subst (λ (o : Option ℕ). Covers (c.take_back.new.keys.items ++ map Object (option_to_list o)) c.args.keys.now.items) (sym c.in-Some.is) c.take_back.ensures
