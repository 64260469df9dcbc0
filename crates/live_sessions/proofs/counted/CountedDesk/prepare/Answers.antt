use Rattle.std.proofs.Common.{◌≡◌, ◌<◌, ◌∷◌, ◌++◌, [], subst, IfOk, ap, arith, length}
use Rattle.edit_desk.specs.Answers.{Standing, after, IsLegal}
use Rattle.edit_desk.specs.Versions.{PreparedView, IsDue}
use Rattle.live_sessions.specs.Desks.{CountedView}
use Rattle.live_sessions.specs.Fronts.{IsFront, standing_of}
use Rattle.live_sessions.proofs.Legal.{is_front, standing_seen, all_follow, all_stored}
use Rattle.trace_types.specs.declared.limits.TheConstants.{MAX_ENTRIES}
use Rattle.live_sessions.proofs.counted.CountedDesk.prepare.Goals as goal

pub returns-clause-due : goal.returns-clause-due
returns-clause-due c =
    let s = c.self.inside.desk.standing in
    let v = c.args.self.now in
    let seen : s ≡ standing_of v.opening v.history = standing_seen s v c.self.inside.desk.room c.opening-opening.ensures.legal c.self.view_is in
    subst (λ (x : Standing). IfOk c.prepare.result (λ (p : PreparedView). IsDue x p)) seen c.prepare.ensures.due

pub returns-clause-follows : goal.returns-clause-follows
returns-clause-follows c =
    let s = c.self.inside.desk.standing in
    let v = c.args.self.now in
    let seen : s ≡ standing_of v.opening v.history = standing_seen s v c.self.inside.desk.room c.opening-opening.ensures.legal c.self.view_is in
    let front : IsFront v.opening v.history = subst (λ (w : CountedView). IsFront w.opening w.history) c.self.view_is (is_front s c.opening-opening.ensures.legal) in
    all_follow v.opening v.history c.prepare.result front (returns-clause-due c)
    (subst (λ (x : Standing). IfOk c.prepare.result (λ (p : PreparedView). (after x p.entry.session p.entry.request).history ≡ x.history ++ p.entry ∷ [])) seen c.prepare.ensures.history)
    (subst (λ (x : Standing). IfOk c.prepare.result (λ (p : PreparedView). IsLegal (after x p.entry.session p.entry.request))) seen c.prepare.ensures.legal)

pub returns-clause-stored : goal.returns-clause-stored
returns-clause-stored c =
    let s = c.self.inside.desk.standing in
    let less : length s.history < MAX_ENTRIES = omega (arith, c.requires.room, ap (λ (w : CountedView). length w.history) c.self.view_is) in
    all_stored s c.prepare.result less c.prepare.ensures.due
