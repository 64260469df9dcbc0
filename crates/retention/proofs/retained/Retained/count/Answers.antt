use Rattle.std.proofs.Common.{◌≡◌, ◌∙◌, [], ◌∷◌, ◌++◌, length, ap, arith}
use Rattle.retention.proofs.RetainingLemmas.{start, whole, fits_back}
use Rattle.retention.proofs.retained.Retained.count.Goals as goal

pub loop-at-init : goal.loop-at-init
loop-at-init c =
    let only : c.push.new.self.items ≡ c.args.index ∷ [] = c.in_ok-push.ensures.items ∙ ap (λ xs. xs ++ c.args.index ∷ []) c.clear.ensures.items in
    record {
      front = start c.args.graph.now c.args.index c.args.self.now.missing.items c.push.new.self.items c.args.self.now.passed.items c.requires.ready c.requires.there only;
      within = omega (arith, ap length only);
    }

pub pass_fields-requires : goal.pass_fields-requires
pass_fields-requires c = record {
  front = c.loop-at.invariant.front;
  there = omega (arith, c.loop-at-test.true, c.len.ensures);
}

pub loop-at-preserved : goal.loop-at-preserved
loop-at-preserved c = record {
  front = c.in_ok-pass_fields.ensures.front;
  within = omega (arith, c.loop-at-test.true, c.len.ensures, c.in_ok-pass_fields.ensures.longer);
}

pub loop-at-smaller : goal.loop-at-smaller
loop-at-smaller c = omega (arith, c.loop-at-test.true, c.len.ensures, c.in_ok-pass_fields.ensures.work, c.in_ok-pass_fields.ensures.longer)

pub restore-requires : goal.restore-requires
restore-requires c = record {
  within = λ t more. omega (arith, c.loop-at.invariant.front.noted t more, c.loop-at.invariant.front.long);
  fits = fits_back c.args.graph.now c.args.index c.loop-at.at c.loop-at.self.missing.items c.loop-at.self.members.items c.loop-at.self.passed.items c.loop-at.invariant.front;
}

pub returns-clause-retained : goal.returns-clause-retained
returns-clause-retained c = (
  c.loop-at.self.members.items,
  whole c.args.graph.now c.args.index c.loop-at.at c.loop-at.self.missing.items c.loop-at.self.members.items c.loop-at.self.passed.items (omega (arith, c.loop-at-test.false, c.len.ensures)) c.loop-at.invariant.front,
  omega (arith, c.len-count.ensures),
)
