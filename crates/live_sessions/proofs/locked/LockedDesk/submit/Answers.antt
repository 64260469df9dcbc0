use Rattle.std.proofs.Common.{List, sym, subst}
use Rattle.std.proofs.lemmas.Result.{IfOk-weaker}
use Rattle.edit_desk.specs.declared.entries.Entry.{Entry}
use Rattle.live_sessions.specs.Views.{Replied, Grown}
use Rattle.live_sessions.proofs.Legal.{replied_full}
use Rattle.live_sessions.proofs.locked.LockedDesk.submit.Goals as goal

pub returns-in-Ok-Full-clause-reply : goal.returns-in-Ok-Full-clause-reply
returns-in-Ok-Full-clause-reply g c =
    let t = g.J.Naming.opening in
    let old = c.args.pass.now in
    let new = c.show_all.new.pass in
    let h = c.args.self.now in
    let r = c.args.request in
    IfOk-weaker c.show_all.result _ _ (λ reply is. subst (λ (x : List Entry). Replied t old new r reply × Grown h x old.session r reply) (sym c.turn.ensures.same) (replied_full t old new h r reply is.0 is.1)) c.show_all.ensures.reply
