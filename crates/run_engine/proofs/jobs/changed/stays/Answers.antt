use Rattle.std.proofs.Common.{◌≡◌, ◌+◌, ◌-◌, ◌≤◌, T, leb→le, take, drop, ap, sym, subst, ◌∙◌, arith}
use Rattle.run_engine.proofs.JobLemmas.{alike-whole}
use Rattle.run_engine.proofs.jobs.changed.stays.Goals as goal

pub overflow_add-alike : goal.overflow_add-alike
overflow_add-alike c = omega (arith, c.in-Some.ensures.here, c.in-Some.ensures.before, c.in-Some.ensures.base_within, c.requires.few)

pub returns-then-alike-before : goal.returns-then-alike-before
returns-then-alike-before c = λ t.
    let few : c.args.place.end - c.args.place.at ≤ c.in-Some.alike.len - (c.args.place.at - c.in-Some.alike.at) = leb→le _ _ (subst T (sym t) tt) in
    let there : c.in-Some.alike.from + (c.args.place.at - c.in-Some.alike.at) ≡ c.args.place.base = omega (arith, c.if-alike-before.true) in
    let long : c.args.place.end - c.args.place.at ≡ c.args.place.base_end - c.args.place.base = omega (arith, c.if-place-len.false) in
    alike-whole c.args.ops.now.base c.args.ops.now.ops c.args.place.at c.in-Some.alike.from c.in-Some.alike.at c.in-Some.alike.len c.args.place.base (c.args.place.end - c.args.place.at) c.in-Some.ensures there few
    ∙ ap (λ n. take n (drop c.args.place.base c.args.ops.now.base)) long
