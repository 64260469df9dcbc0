use Rattle.std.proofs.Common.{◌∙◌, ap, sym, refl}
use Rattle.ownership_model.specs.State.{nothing_held}
use Rattle.ownership_model.specs.Step.{outcomes_from}
use Rattle.ownership_model.proofs.ReplayLemmas.{distinct_new}
use Rattle.retention_report.specs.Explained.{first_unmade}
use Rattle.retention_report.proofs.RisingLemmas.{lives_rise, lives_objects}
use Rattle.retention_report.proofs.ToldLemmas.{all_made, explains_none, explains_some}
use Rattle.retention_report.proofs.explained.explain.Goals as goal

pub tell-requires : goal.tell-requires
tell-requires c = distinct_new c.args.ops.now c.requires.distinct

pub first_unmade-requires : goal.first_unmade-requires
first_unmade-requires c = lives_rise (outcomes_from nothing_held c.args.ops.now) _ (c.as_slice.ensures ∙ (c.in_ok-lives.ensures c.args.ops.now (record { made = c.in_ok-story.ensures.made; events = c.in_ok-story.ensures.events })))

pub returns-in_ok-answer-in-Some : goal.returns-in_ok-answer-in-Some
returns-in_ok-answer-in-Some c =
    explains_some c.args.with_lives c.args.ops.now c.args.objects.now _ _ c.in-Some.object
    (ap (λ made. first_unmade made c.args.objects.now) (sym (lives_objects (outcomes_from nothing_held c.args.ops.now) _ (c.as_slice.ensures ∙ (c.in_ok-lives.ensures c.args.ops.now (record { made = c.in_ok-story.ensures.made; events = c.in_ok-story.ensures.events }))))) ∙ sym c.first_unmade.ensures ∙ c.in-Some.is)
    c.in_ok-answer-in-Some.ensures.text c.in_ok-answer-in-Some.ensures.missing

pub of-requires : goal.of-requires
of-requires c = (
  c.args.ops.now,
  record {
    new = distinct_new c.args.ops.now c.requires.distinct;
    end = c.in_ok-story.ensures.end;
    dates = c.in_ok-story.ensures.dates;
    losses = c.in_ok-story.ensures.losses;
    marked = c.in_ok-story.ensures.marked;
  },
)

pub text_of-requires : goal.text_of-requires
text_of-requires c = record {
  told = c.in_ok-told-in-None.ensures c.args.ops.now (record {
    new = distinct_new c.args.ops.now c.requires.distinct;
    end = c.in_ok-story.ensures.end;
    dates = c.in_ok-story.ensures.dates;
    losses = c.in_ok-story.ensures.losses;
    marked = c.in_ok-story.ensures.marked;
  });
  lives = c.as_slice-in-None.ensures ∙ (c.in_ok-lives.ensures c.args.ops.now (record { made = c.in_ok-story.ensures.made; events = c.in_ok-story.ensures.events }));
  made = all_made _ c.args.objects.now
      (ap (λ made. first_unmade made c.args.objects.now) (sym (lives_objects (outcomes_from nothing_held c.args.ops.now) _ (c.as_slice.ensures ∙ (c.in_ok-lives.ensures c.args.ops.now (record { made = c.in_ok-story.ensures.made; events = c.in_ok-story.ensures.events }))))) ∙ sym c.first_unmade.ensures ∙ c.in-None.is);
}

pub returns-in_ok-text-in-None : goal.returns-in_ok-text-in-None
returns-in_ok-text-in-None c =
    explains_none c.args.with_lives c.args.ops.now c.args.objects.now _ _
    (ap (λ made. first_unmade made c.args.objects.now) (sym (lives_objects (outcomes_from nothing_held c.args.ops.now) _ (c.as_slice.ensures ∙ (c.in_ok-lives.ensures c.args.ops.now (record { made = c.in_ok-story.ensures.made; events = c.in_ok-story.ensures.events }))))) ∙ sym c.first_unmade.ensures ∙ c.in-None.is)
    c.in_ok-text-in-None.ensures refl
