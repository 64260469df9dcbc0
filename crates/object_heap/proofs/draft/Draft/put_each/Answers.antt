use Rattle.std.proofs.Common.{ℕ, List, ◌+◌, drop, ap, ◌∙◌, sym, subst, arith}
use Rattle.ownership_model.specs.State.{State}
use Rattle.object_heap.specs.declared.put.Put.{Put}
use Rattle.object_heap.specs.Counted.{drafted}
use Rattle.object_heap.specs.Laid.{with_puts, CanPut}
use Rattle.object_heap.proofs.LayLemmas.{first_put, put_first, put_fits}
use Rattle.object_heap.proofs.draft.Draft.put_each.Goals as goal

pub put_one-requires-clause-free : goal.put_one-requires-clause-free
put_one-requires-clause-free c =
    (put_first (drafted c.loop-put.self) c.args.puts.now c.loop-put.put-index c.put-item.result (omega arith) c.put-item.is c.loop-put.invariant.can).0

pub put_one-requires-clause-stands : goal.put_one-requires-clause-stands
put_one-requires-clause-stands c =
    (put_first (drafted c.loop-put.self) c.args.puts.now c.loop-put.put-index c.put-item.result (omega arith) c.put-item.is c.loop-put.invariant.can).1

pub put_one-requires-clause-fits : goal.put_one-requires-clause-fits
put_one-requires-clause-fits c =
    (put_fits (drafted c.loop-put.self) c.args.puts.now c.loop-put.put-index c.put-item.result (omega arith) c.put-item.is c.loop-put.invariant.fits).0

pub loop-put-preserved : goal.loop-put-preserved
loop-put-preserved c =
    let old = drafted c.loop-put.self in
    let puts : List Put = c.args.puts.now in
    let i : ℕ = c.loop-put.put-index in
    let x : Put = c.put-item.result in
    let made = c.in_ok-put_one.ensures.state in
    let so_far = c.loop-put.invariant in
    record {
      counted = c.in_ok-put_one.ensures.counted;
      bounded = c.in_ok-put_one.ensures.bounded;
      can = subst (λ (k : State). CanPut k (drop (i + 1) puts)) (sym made) (put_first old puts i x (omega arith) c.put-item.is so_far.can).2;
      fits = (put_fits old puts i x (omega arith) c.put-item.is so_far.fits).1;
      rest =
          ap (λ (k : State). with_puts (drop (i + 1) puts) k) made
          ∙ sym (ap (λ (ps : List Put). with_puts ps old) (first_put old puts i x (omega arith) c.put-item.is)) ∙ so_far.rest;
    }
