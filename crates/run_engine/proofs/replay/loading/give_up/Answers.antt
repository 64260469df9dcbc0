use Rattle.std.proofs.Common.{◌∙◌, ◌<◌, length, sym, arith}
use Rattle.run_engine.proofs.NumberLemmas.{place_within}
use Rattle.run_engine.proofs.GoneLemmas.{goes, stays}
use Rattle.run_engine.proofs.replay.loading.give_up.Goals as goal

pub overflow_add-at : goal.overflow_add-at
overflow_add-at c =
    let lt : c.in-Some.place < length c.args.trace.now = place_within c.args.name c.in-Some.place c.args.trace.now (sym c.in-Some.ensures) in
    omega (arith, c.len-len.ensures.is_trace.few)

pub returns-then-is_inner-clause-marks : goal.returns-then-is_inner-clause-marks
returns-then-is_inner-clause-marks c =
    goes c.args.trace.now c.args.flags.now.items c.args.name c.in-Some.place (sym c.in-Some.ensures) (rw c.len-len.ensures.value at (sym c.is_inner.ensures ∙ c.if-is_inner.true)) c.requires.room

pub returns-else-is_inner-clause-marks : goal.returns-else-is_inner-clause-marks
returns-else-is_inner-clause-marks c =
    stays c.args.trace.now c.args.flags.now.items c.args.name c.in-Some.place (sym c.in-Some.ensures) (rw c.len-len.ensures.value at (sym c.is_inner.ensures ∙ c.if-is_inner.false))
