use Rattle.std.proofs.Common.{refl}
use Rattle.serde_json.specs.Data.{string}
use Rattle.trace_types.specs.Names.{name_text}
use Rattle.trace_reader.proofs.Tables.{Tells-op}
use Rattle.trace_reader.proofs.member_slots.MemberSlots.keep_op_name.Goals as goal

pub returns : goal.returns
returns c ms tells = Tells-op (string (name_text c.args.name)) ms _ _ tells refl refl
