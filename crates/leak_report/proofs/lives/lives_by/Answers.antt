use Rattle.std.proofs.Common.{◌∙◌, ap, map, sym, subst, length}
use Rattle.std.proofs.lemmas.List.{length-map}
use Rattle.leak_report.specs.Told.{HasRisingObjects, begins, told_by_all}
use Rattle.leak_report.proofs.ToldLemmas.{given_back, is_lived}
use Rattle.leak_report.proofs.lives.lives_by.Goals as goal

pub note_all-requires : goal.note_all-requires
note_all-requires c = subst HasRisingObjects (sym c.deref_mut.ensures.value) c.in_ok-lives.ensures.rising

pub returns : goal.returns
returns c =
    c.from_vec.ensures
    ∙ given_back c.note_all.new.lives _ _ (ap length c.note_all.ensures ∙ length-map c.deref_mut.result.now (told_by_all c.args.events.now) ∙ c.deref_mut.ensures.len)
    ∙ c.note_all.ensures
    ∙ ap (map (told_by_all c.args.events.now)) (c.deref_mut.ensures.value ∙ c.in_ok-lives.ensures.begun ∙ ap (map begins) (c.deref.ensures.value ∙ c.in_ok-made.ensures.value))
    ∙ is_lived c.args.events.now _
