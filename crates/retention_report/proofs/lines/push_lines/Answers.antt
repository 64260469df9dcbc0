use Rattle.std.proofs.Common.{[], refl, sym, subst, arith, string_bytes}
use Rattle.std.proofs.lemmas.List.{append-nil, take_all}
use Rattle.retention_report.specs.Explained.{AreLines}
use Rattle.retention_report.proofs.LineLemmas.{lines_next, item_has}
use Rattle.retention_report.proofs.lines.push_lines.Goals as goal

pub loop-object-init : goal.loop-object-init
loop-object-init c = record { lines = ([], refl, sym (append-nil (string_bytes c.args.text.now))); told = c.requires.told }

pub push_object-requires : goal.push_object-requires
push_object-requires c = record {
  told = c.loop-object.invariant.told;
  lives = c.requires.lives;
  made = c.requires.made _ (item_has c.args.objects.now c.loop-object.object-index c.loop-object-test.true);
}

pub loop-object-preserved : goal.loop-object-preserved
loop-object-preserved c = record {
  lines = lines_next c.args.with_lives c.args.ops.now c.args.objects.now c.loop-object.object-index _ _ _ (string_bytes c.args.text.now) c.loop-object-test.true refl
      c.loop-object.invariant.lines c.in_ok-push_object.ensures.lines;
  told = c.in_ok-push_object.ensures.told;
}

pub returns-clause-lines : goal.returns-clause-lines
returns-clause-lines c =
    let it = c.loop-object.invariant.lines in
    (it.0, subst (λ os. AreLines c.args.with_lives c.args.ops.now os it.0) (take_all c.loop-object.object-index c.args.objects.now (omega (arith, c.loop-object-test.false))) it.1, it.2)
