use Rattle.std.proofs.Common.{rules, ◌≡◌, ◌≤◌, List, length, sym, subst, refl, arith}
use mathlib.Core.List.{IsPrefix}
use Rattle.edit_desk.specs.declared.entries.Entry.{Entry}
use Rattle.live_sessions.specs.Fronts.{count_of, IsFront}
use Rattle.live_sessions.specs.Views.{HasMet}
use Rattle.live_sessions.proofs.Passes.{saw_full}
use Rattle.trace_types.specs.declared.limits.TheConstants.{MAX_ENTRIES}
use Rattle.live_sessions.proofs.locked.LockedDesk.show_all.Goals as goal

pub returns-clause-reply : goal.returns-clause-reply
returns-clause-reply g c =
    let h = c.self.inside.desk.history in
    let old = c.args.pass.now in
    let new = c.adopt.new.self in
    let met : HasMet old h = subst (HasMet old) (sym c.self.view_is) c.requires.met in
    let full : MAX_ENTRIES ≤ length h = subst (λ (x : List Entry). MAX_ENTRIES ≤ length x) (sym c.self.view_is) c.requires.full in
    let front : new.front ≡ h = search rules in
    let legal : IsFront g.J.Naming.opening h = search rules in
    let long : length h ≡ MAX_ENTRIES = omega (arith, c.len-len.ensures.most, full) in
    let stays : new.session ≡ old.session = search rules in
    let answered : new.answered ≡ count_of old.session h = search rules in
    (refl, saw_full g.J.Naming.opening old new h met.begins c.session-session.ensures.own met.own front legal long stays answered)
