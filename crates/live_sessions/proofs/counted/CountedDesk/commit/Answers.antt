use Rattle.std.proofs.Common.{◌≡◌, ◌+◌, ◌<◌, ◌∷◌, ◌++◌, [], ap, sym, ◌∙◌, subst, arith, length, List, set}
use Rattle.std.specs.Prelude.{slice_index}
use Rattle.edit_desk.specs.declared.entries.Entry.{Entry}
use Rattle.edit_desk.specs.Answers.{Standing}
use Rattle.edit_desk.specs.Versions.{IsDue}
use Rattle.live_sessions.specs.Desks.{CountedView, IsCounted}
use Rattle.live_sessions.specs.Fronts.{standing_of}
use Rattle.live_sessions.proofs.Counts.{count_of-le-length, counted-more}
use Rattle.live_sessions.proofs.Legal.{standing_seen}
use Rattle.live_sessions.specs.declared.limits.TheConstants.{PLACES}
use Rattle.live_sessions.proofs.counted.CountedDesk.commit.Goals as goal

pub commit-reply-requires-clause-due : goal.commit-reply-requires-clause-due
commit-reply-requires-clause-due c =
    let s = c.self.inside.desk.standing in
    let v = c.args.self.now in
    let p = c.args.prepared in
    let seen : s ≡ standing_of v.opening v.history = standing_seen s v c.self.inside.desk.room c.opening-opening.ensures.legal c.self.view_is in
    subst (λ (x : Standing). IsDue x p) (sym seen) c.requires.due

pub overflow_add-self : goal.overflow_add-self
overflow_add-self c =
    let h = c.self.inside.desk.standing.history in
    let s = c.entry.result.now.session in
    let small : s < PLACES = omega (arith, c.requires.session, ap (λ (e : Entry). e.session) c.entry.ensures) in
    omega (arith, count_of-le-length s h, c.self.invariant.numbers s small, c.requires.history, ap (λ (v : CountedView). length v.history) c.self.view_is)

pub invariant_of-self : goal.invariant_of-self
invariant_of-self c =
    let h = c.self.inside.desk.standing.history in
    let e = c.entry.result.now in
    let counts = c.self.inside.counts in
    let small : e.session < PLACES = omega (arith, c.requires.session, ap (λ (x : Entry). x.session) c.entry.ensures) in
    let is : h ++ e ∷ [] ≡ c.commit-reply.new.self.standing.history = ap (λ (x : Entry). h ++ x ∷ []) c.entry.ensures ∙ sym c.commit-reply.ensures.history in
    subst (λ (g : List Entry). IsCounted (set counts e.session (slice_index counts e.session + 1)) g) is (counted-more counts h e small c.self.invariant)

pub returns-clause-after : goal.returns-clause-after
returns-clause-after c =
    let p = c.args.prepared in (
      c.commit-reply.ensures.history ∙ ap (λ (w : CountedView). w.history ++ p.entry ∷ []) c.self.view_is,
      ap (λ (x : Standing). x.opening) c.commit-reply.ensures.after ∙ ap (λ (w : CountedView). w.opening) c.self.view_is,
    )
