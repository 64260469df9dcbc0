use Rattle.std.proofs.Common.{◌≡◌, ◌+◌, ◌<◌, ◌++◌, ◌∷◌, [], ap, sym, subst, arith, length, map, ◌∙◌, List}
use Rattle.std.specs.Arc.{arc_value}
use Rattle.std.proofs.lemmas.List.{map-append, length-map}
use Rattle.std.proofs.lemmas.List.{length_push}
use Rattle.trace_types.specs.declared.limits.TheConstants.{MAX_ENTRIES}
use Rattle.edit_desk.specs.Answers.{Standing, opened, after, LeadsTo}
use Rattle.edit_desk.specs.Versions.{DeskView, PreparedView, IsDue}
use Rattle.edit_desk.specs.declared.entries.Entry.{Entry}
use Rattle.edit_desk.proofs.LegalLemmas.{appended, stands_after, version_after}
use Rattle.edit_desk.proofs.desk.Desk.commit.Goals as goal

pub invariant_of-self : goal.invariant_of-self
invariant_of-self c =
    let s : Standing = record { opening = c.self.inside.opening; trace = c.self.inside.published.run.trace; version = c.self.inside.published.version; history = map arc_value c.self.inside.history.items } in
    let p : PreparedView = record { entry = arc_value c.prepared.inside.entry; next = c.prepared.inside.next } in
    let e : Entry = p.entry in
    let same : c.args.self.now.standing ≡ s = ap (λ (d : DeskView). d.standing) (sym c.self.view_is) in
    let room : length s.history < MAX_ENTRIES = subst (λ (x : Standing). length x.history < MAX_ENTRIES) same c.requires.history in
    let asked : IsDue s c.args.prepared = subst (λ (x : Standing). IsDue x c.args.prepared) same c.requires.due in
    let due : IsDue s p = subst (λ (x : PreparedView). IsDue s x) (sym c.prepared.view_is) asked in
    let now : Standing = record { opening = c.self.inside.opening; trace = c.prepared.inside.next.run.trace; version = c.prepared.inside.next.version; history = map arc_value c.push_reserved.new.self.items } in
    let pushed : now.history ≡ s.history ++ e ∷ [] = ap (map arc_value) c.push_reserved.ensures.items ∙ map-append arc_value c.self.inside.history.items (c.prepared.inside.entry ∷ []) in
    let is : now ≡ after s e.session e.request = stands_after s e now.trace now.version now.history room due.reply due.trace due.version pushed in
    let leads : LeadsTo (opened s.opening) now.history (after s e.session e.request) =
    subst (λ (h : List Entry). LeadsTo (opened s.opening) h (after s e.session e.request)) (sym pushed) (appended (opened s.opening) s.history s e c.self.invariant.2 due.reply) in
    let long : length now.history ≡ length c.push_reserved.new.self.items = length-map c.push_reserved.new.self.items arc_value in
    let was : length s.history ≡ length c.self.inside.history.items = length-map c.self.inside.history.items arc_value in
    let grown : length now.history ≡ length s.history + 1 = ap length pushed ∙ length_push s.history e in
    (omega (arith, long, grown, version_after s e.session e.request, due.version, was, c.self.invariant.0), omega (arith, long, grown, room), subst (λ (x : Standing). LeadsTo (opened s.opening) now.history x) (sym is) leads)
