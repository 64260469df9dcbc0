use Rattle.std.proofs.Common.{◌∙◌, sym, subst, refl, string_bytes}
use Rattle.ownership_model.specs.State.{State, nothing_held}
use Rattle.ownership_model.proofs.ReplayLemmas.{distinct_new}
use Rattle.retention_model.specs.Since.{since_from}
use Rattle.retention.specs.Named.{IsNamedOf}
use Rattle.retention_report.specs.Drawn.{IsDrawnText}
use Rattle.retention_report.proofs.PictureLaws.{pictured, missing}
use Rattle.retention_report.proofs.pictures.picture.Goals as goal

pub tell-requires : goal.tell-requires
tell-requires c = distinct_new c.args.ops.now c.requires.distinct

pub of-requires : goal.of-requires
of-requires c = (λ p. since_from nothing_held c.args.ops.now p 0, c.in_ok-story.ensures.dates)

pub returns-in-Some : goal.returns-in-Some
returns-in-Some c =
    missing c.args.ops.now c.in_ok-end.end
    (c.in_ok-end.ensures.of c.args.ops.now (record {
      new = distinct_new c.args.ops.now c.requires.distinct;
      named = subst (λ (m : State). IsNamedOf m (λ p. since_from nothing_held c.args.ops.now p 0) c.in_ok-named.named) c.in_ok-story.ensures.end (c.in_ok-named.ensures (λ p. since_from nothing_held c.args.ops.now p 0) c.in_ok-story.ensures.dates);
    }))
    c.in_ok-end.ensures.ending c.args.with_all c.args.objects.now _ c.in-Some.object _ (sym c.first_absent.ensures ∙ c.in-Some.is) c.in_ok-answer-in-Some.ensures.text c.in_ok-answer-in-Some.ensures.missing

pub returns : goal.returns
returns c =
    pictured c.args.ops.now c.in_ok-end.end
    (c.in_ok-end.ensures.of c.args.ops.now (record {
      new = distinct_new c.args.ops.now c.requires.distinct;
      named = subst (λ (m : State). IsNamedOf m (λ p. since_from nothing_held c.args.ops.now p 0) c.in_ok-named.named) c.in_ok-story.ensures.end (c.in_ok-named.ensures (λ p. since_from nothing_held c.args.ops.now p 0) c.in_ok-story.ensures.dates);
    }))
    c.in_ok-end.ensures.ending c.args.with_all c.args.objects.now _ _ (sym c.first_absent.ensures ∙ c.in-None.is) refl
    (subst (λ (m : State). IsDrawnText c.args.with_all m c.in_ok-end.end c.args.objects.now (string_bytes c.in_ok-text-in-None.text)) c.in_ok-story.ensures.end c.in_ok-text-in-None.ensures)
