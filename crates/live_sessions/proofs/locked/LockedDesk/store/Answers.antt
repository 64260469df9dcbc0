use Rattle.std.proofs.Common.{rules, ◌≡◌, ◌+◌, ◌∷◌, ◌++◌, [], ap, sym, ◌∙◌, subst, length, false, arith, List}
use Rattle.edit_desk.specs.declared.entries.Entry.{Entry}
use Rattle.live_sessions.specs.Fronts.{is_full, count_of, IsFront}
use Rattle.live_sessions.proofs.Counts.{count_of-append, count_of-le-length, one_if_is}
use Rattle.live_sessions.proofs.Passes.{submitted}
use Rattle.live_sessions.proofs.Legal.{replied, grown}
use Rattle.live_sessions.specs.Views.{entry, HasMet, Replied, Grown}
use Rattle.edit_desk.specs.declared.replies.Reply.{Reply}
use Rattle.live_sessions.proofs.locked.LockedDesk.store.Goals as goal

pub overflow_add-count : goal.overflow_add-count
overflow_add-count g c = omega (arith, c.answered-count.ensures, c.requires.met.own, c.requires.room, count_of-le-length c.args.pass.now.session c.args.self.now)

pub adopt-requires-clause-own : goal.adopt-requires-clause-own
adopt-requires-clause-own g c =
    let h = c.self.inside.desk.history in
    let e = c.in_ok-prepared.prepared.entry in
    let s = c.args.pass.now.session in
    let met : HasMet c.args.pass.now h = subst (HasMet c.args.pass.now) (sym c.self.view_is) c.requires.met in
    let front : c.again.result ≡ h ++ e ∷ [] = search rules in
    let mine : e.session ≡ s = search rules in
    omega (arith, c.answered-count.ensures, met.own, count_of-append s h (e ∷ []), one_if_is e.session s mine, ap (count_of s) front)

pub returns-in-Ok-clause-reply : goal.returns-in-Ok-clause-reply
returns-in-Ok-clause-reply g c =
    let h = c.self.inside.desk.history in
    let e = c.in_ok-prepared.prepared.entry in
    let old = c.args.pass.now in
    let new = c.adopt.new.self in
    let is : h ≡ c.args.self.now = c.self.view_is in
    let met : HasMet old h = subst (HasMet old) (sym is) c.requires.met in
    let front : new.front ≡ h ++ e ∷ [] = search rules in
    let legal : IsFront g.J.Naming.opening (h ++ e ∷ []) = search rules in
    let stays : new.session ≡ old.session = search rules in
    let mine : e.session ≡ old.session = search rules in
    let asked : e.request ≡ c.args.request = search rules in
    let answered : new.answered ≡ count_of old.session h + 1 = omega (arith, c.adopt.ensures.2, c.answered-count.ensures, met.own) in
    let longer : c.commit-reply.new.self.history ≡ h ++ e ∷ [] = search rules in
    let nf : is_full e.reply ≡ false = search rules in
    let whole : c.commit-reply.new.self.history ≡ c.args.self.now ++ entry old.session c.args.request e.reply ∷ [] =
    longer ∙ (ap (λ (x : List Entry). x ++ e ∷ []) is ∙ ap (λ (x : Entry). c.args.self.now ++ x ∷ []) (λ i. entry (mine i) (asked i) e.reply)) in
    subst (λ (x : Reply). Replied g.J.Naming.opening old new c.args.request x × Grown c.args.self.now c.commit-reply.new.self.history old.session c.args.request x) (sym c.commit-reply.ensures.reply) (
      replied g.J.Naming.opening old new c.args.request e.reply nf (submitted g.J.Naming.opening old new h e c.args.request met.begins c.session-session.ensures.own met.own front legal stays answered mine asked),
      grown c.args.self.now c.commit-reply.new.self.history old.session c.args.request e.reply nf whole,
    )
