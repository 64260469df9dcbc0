use Rattle.std.proofs.Common.{◌≡◌, ◌∙◌, ap, sym, drop, Some}
use Rattle.heap_difference.specs.KeySets.{first_number, lesser_of}
use Rattle.heap_difference.proofs.MergeLemmas.{merge_step}
use Rattle.heap_difference.proofs.numbers.merged.Goals as goal

pub loop-number-preserved : goal.loop-number-preserved
loop-number-preserved c =
    let left = drop c.loop-number.i c.args.a.now in
    let right = drop c.loop-number.j c.args.b.now in
    let is : lesser_of (first_number left) (first_number right) ≡ Some c.in-Some.number = sym (c.lesser.ensures ∙ ap (λ o. lesser_of o c.number_at-in-loop-number.result) c.number_at.ensures ∙ ap (lesser_of (first_number left)) c.number_at-in-loop-number.ensures) ∙ c.in-Some.is in
    record {
      first_within = c.after-i.ensures.within;
      second_within = c.after-j.ensures.within;
      merging =
          rw (c.in_ok-push.ensures.items, c.after-i.ensures.rest, c.after-j.ensures.rest)
          (merge_step c.args.a.now c.args.b.now c.loop-number.all.items left right c.in-Some.number is c.loop-number.invariant.merging);
    }
