use Rattle.std.proofs.Common.{◌∙◌, sym}
use Rattle.trace_types.specs.declared.kinds.Field.TheVariants.{Held}
use Rattle.op_step.proofs.NameLemmas.{repeated_from-found, repeated_from-passed, repeated_from-other}
use Rattle.op_step.proofs.names.repeated_field.Goals as goal
use Rattle.op_step.proofs.names.repeated_field.Goals.{in-Held+else-is_named, in_default}

pub returns-then-is_named : goal.returns-then-is_named
returns-then-is_named c =
    sym (repeated_from-found c.args.to c.in-Held.h c.args.fields.now c.loop-place.place (Held 0) c.loop-place-test.true c.in-Held.is (sym c.is_named.ensures ∙ c.if-is_named.true))
    ∙ c.loop-place.invariant

pub loop-place-preserved : goal.loop-place-preserved
loop-place-preserved c =
    elim c.match-field.branch [
      | in-Held+else-is_named w ↦
          sym (repeated_from-passed c.args.to w.in-Held.h c.args.fields.now c.loop-place.place (Held 0) c.loop-place-test.true w.in-Held.is (sym w.is_named.ensures ∙ w.if-is_named.false))
          ∙ c.loop-place.invariant
      | in_default w ↦
          sym (repeated_from-other c.args.to c.args.fields.now c.loop-place.place (Held 0) c.loop-place-test.true w.in_default.not-Held)
          ∙ c.loop-place.invariant
    ]
