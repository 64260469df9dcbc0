use Rattle.std.proofs.Common.{rules, ◌≡◌, sym, ◌∙◌}
use Rattle.live_sessions.specs.Fronts.{count_of}
use Rattle.live_sessions.specs.Views.{HasMet}
use Rattle.live_sessions.proofs.Passes.{exact}
use Rattle.live_sessions.proofs.locked.LockedDesk.receipt.Goals as goal

pub new-requires : goal.new-requires
new-requires g c =
    let h = c.args.self.now in
    let p = c.args.pass.now in
    let met : HasMet p h = search rules in
    let session : c.session.result ≡ p.session = search rules in
    let answered : c.answered.result ≡ p.answered = search rules in
    let front : c.again.result ≡ p.front = search rules in
    let is : p.answered ≡ count_of p.session p.front = exact p.session p.answered p.front h met.begins c.session.ensures.own met.own in
    answered ∙ (is ∙ (λ i. count_of (sym session i) (sym front i)))
