use Rattle.std.proofs.Common.{◌+◌, ◌<◌, length, ap, sym, ◌∙◌, arith}
use Rattle.std.specs.Prelude.{fold, slice_range, slice_index_or}
use Rattle.run_engine.specs.inner.Shifts.{shifted}
use Rattle.run_engine.proofs.JobLemmas.{contains-at, stretch-inner}
use Rattle.run_engine.proofs.jobs.changed.place_of.Goals as goal

pub begin_by-at-requires-clause-within : goal.begin_by-at-requires-clause-within
begin_by-at-requires-clause-within c = c.requires.small _ (contains-at c.args.marks.now c.args.i c.requires.within)

pub begin_by-requires-clause-within : goal.begin_by-requires-clause-within
begin_by-requires-clause-within c =
    let lt : c.args.i + 1 < length c.args.marks.now = omega (arith, c.requires.within, c.if-i-marks.false) in
    c.requires.small _ (contains-at c.args.marks.now (c.args.i + 1) lt)

pub returns : goal.returns
returns c = λ mark rest there.
    let lt : c.args.i + 1 < length c.args.marks.now = omega (arith, c.requires.within, c.if-i-marks.false) in
    let base = c.between-base-2.ensures in
    let at = c.between-at-2.ensures in
    record {
      base_order = base.order;
      base_within = omega (arith, base.within, c.base_len-2.ensures);
      order = at.order;
      within = omega (arith, at.within, c.len-2.ensures);
      before = base.same c.args.ops.now.base (sym c.base_len-2.ensures) ∙ stretch-inner (λ p. p) c.args.ops.now.base c.args.marks.now c.args.i mark rest lt there;
      after = at.same c.args.ops.now.ops (sym c.len-2.ensures)
          ∙ ap (λ p. slice_range c.args.ops.now.ops p c.begin_by.result) c.begin_by-at.ensures
          ∙ ap (λ p. slice_range c.args.ops.now.ops (fold shifted (slice_index_or c.args.marks.now c.args.i 0) c.args.shifts.now) p) c.begin_by.ensures
          ∙ stretch-inner (λ begin. fold shifted begin c.args.shifts.now) c.args.ops.now.ops c.args.marks.now c.args.i mark rest lt there;
    }
