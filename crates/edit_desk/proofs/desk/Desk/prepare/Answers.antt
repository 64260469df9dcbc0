use Rattle.std.proofs.Common.{rules, ◌≡◌, ap, subst}
use Rattle.edit_desk.specs.Answers.{Standing, reply_to, IsLegal}
use Rattle.edit_desk.specs.Versions.{DeskView}
use Rattle.edit_desk.proofs.LegalLemmas.{legal_after}
use Rattle.edit_desk.proofs.desk.Desk.prepare.Goals as goal

pub returns-clause-legal : goal.returns-clause-legal
returns-clause-legal c =
    let s = c.args.self.now.standing in
    let e = c.in_ok-entry.entry.value in
    let legal : IsLegal s = subst IsLegal (ap (λ (d : DeskView). d.standing) c.self.view_is) c.self.invariant.2 in
    let reply : e.reply ≡ reply_to s e.request = search rules in
    legal_after s e legal c.requires reply
