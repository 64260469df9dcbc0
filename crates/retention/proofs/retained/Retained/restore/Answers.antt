use Rattle.std.proofs.Common.{◌≡◌, ◌+◌, ◌<◌, ◌∙◌, length, slice_index, arith}
use Rattle.std.proofs.lemmas.List.{length-set, get_or_read}
use Rattle.retention.specs.RetainingSteps.{times}
use Rattle.retention.proofs.RetainingLemmas.{restore_more, fewer_left, some_left}
use Rattle.retention.proofs.retained.Retained.restore.Goals as goal

pub index_mut-requires : goal.index_mut-requires
index_mut-requires c =
    let some : 0 < times c.in-Some.target c.loop-target.self.passed.items = some_left c.loop-target.self.passed.items c.pop.new.self.items c.in-Some.target c.in-Some.ensures.items in
    let first : 0 < times c.in-Some.target c.args.self.now.passed.items = omega (arith, some, c.loop-target.invariant.fewer c.in-Some.target) in
    omega (arith, c.requires.within c.in-Some.target first, c.loop-target.invariant.long, c.loop-target.self.missing.ok.0)

pub overflow_add-index_mut : goal.overflow_add-index_mut
overflow_add-index_mut c =
    let some : 0 < times c.in-Some.target c.loop-target.self.passed.items = some_left c.loop-target.self.passed.items c.pop.new.self.items c.in-Some.target c.in-Some.ensures.items in
    let first : 0 < times c.in-Some.target c.args.self.now.passed.items = omega (arith, some, c.loop-target.invariant.fewer c.in-Some.target) in
    let within : c.in-Some.target < length c.loop-target.self.missing.items = omega (arith, c.requires.within c.in-Some.target first, c.loop-target.invariant.long) in
    let value : c.index_mut.result.now ≡ slice_index c.loop-target.self.missing.items c.in-Some.target = get_or_read c.loop-target.self.missing.items c.in-Some.target c.index_mut.result.now within c.index_mut.ensures.value 0 in
    omega (arith, value, some, c.loop-target.invariant.each c.in-Some.target, c.requires.fits c.in-Some.target)

pub loop-target-preserved : goal.loop-target-preserved
loop-target-preserved c =
    let some : 0 < times c.in-Some.target c.loop-target.self.passed.items = some_left c.loop-target.self.passed.items c.pop.new.self.items c.in-Some.target c.in-Some.ensures.items in
    let first : 0 < times c.in-Some.target c.args.self.now.passed.items = omega (arith, some, c.loop-target.invariant.fewer c.in-Some.target) in
    let within : c.in-Some.target < length c.loop-target.self.missing.items = omega (arith, c.requires.within c.in-Some.target first, c.loop-target.invariant.long) in
    let value : c.index_mut.result.now ≡ slice_index c.loop-target.self.missing.items c.in-Some.target = get_or_read c.loop-target.self.missing.items c.in-Some.target c.index_mut.result.now within c.index_mut.ensures.value 0 in
    record {
      long = length-set c.loop-target.self.missing.items c.in-Some.target (c.index_mut.result.now + 1) ∙ c.loop-target.invariant.long;
      each = λ t. restore_more c.loop-target.self.missing.items c.loop-target.self.passed.items c.pop.new.self.items c.in-Some.target c.index_mut.result.now c.in-Some.ensures.items within value t ∙ c.loop-target.invariant.each t;
      fewer = λ t. omega (arith, fewer_left c.loop-target.self.passed.items c.pop.new.self.items c.in-Some.target c.in-Some.ensures.items t, c.loop-target.invariant.fewer t);
    }
