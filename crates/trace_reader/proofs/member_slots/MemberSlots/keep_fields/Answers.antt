use Rattle.std.proofs.Common.{refl}
use Rattle.trace_reader.proofs.Tables.{Tells-fields}
use Rattle.trace_reader.proofs.member_slots.MemberSlots.keep_fields.Goals as goal

pub returns : goal.returns
returns c ms d tells seen = Tells-fields d ms _ _ tells seen refl
