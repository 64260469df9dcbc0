use Rattle.std.proofs.Common.{rules, [], ap, sym, ◌∙◌, append-nil}
use mathlib.Core.List.{IsPrefix}
use Rattle.live_sessions.specs.Desks.{IsAfter}
use Rattle.live_sessions.specs.Fronts.{IsFront}
use Rattle.live_sessions.specs.Views.{PassView}
use Rattle.live_sessions.proofs.Passes.{stands_later}
use Rattle.live_sessions.proofs.pass.Pass.look.Goals as goal

pub invariant_of-self-2 : goal.invariant_of-self-2
invariant_of-self-2 g c =
    let p = c.self.inside in
    let h = c.again-front.result in
    let pre : IsPrefix p.front h = search rules in
    let legal : IsFront g.J.Naming.opening h = search rules in
    let run : IsAfter g.J.Naming.opening c.in-Ok.seen h = search rules in
    stands_later g.J.Naming.opening p.session p.answered p.front h p.last c.in-Ok.seen c.self.invariant pre legal run

pub returns-then-not-begins-clause-front : goal.returns-then-not-begins-clause-front
returns-then-not-begins-clause-front g c = ([], append-nil c.args.self.now.front ∙ ap (λ (v : PassView). v.front) (sym c.self.view_is))

pub returns-in_default-share-clause-front : goal.returns-in_default-share-clause-front
returns-in_default-share-clause-front g c = ([], append-nil c.args.self.now.front ∙ ap (λ (v : PassView). v.front) (sym c.self.view_is))
