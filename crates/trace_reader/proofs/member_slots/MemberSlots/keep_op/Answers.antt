use Rattle.std.proofs.Common.{Some, refl, ap, ◌∙◌}
use Rattle.trace_reader.specs.Looks.{text_of}
use Rattle.trace_reader.proofs.Tables.{Tells-op}
use Rattle.trace_reader.proofs.member_slots.MemberSlots.keep_op.Goals as goal

pub returns : goal.returns
returns c ms d tells seen = Tells-op d ms _ _ tells (c.op_of-self.ensures ∙ ap (λ look. Some (text_of look)) seen) refl
