use Rattle.std.proofs.Common.{rules, ◌≡◌, List, sym, subst}
use Rattle.std.specs.List.{All}
use mathlib.Core.List.{IsPrefix}
use Rattle.edit_desk.specs.declared.entries.Entry.{Entry}
use Rattle.live_sessions.specs.Views.{PassView}
use Rattle.live_sessions.proofs.live.Live.close.Goals as goal

pub returns-clause-begun : goal.returns-clause-begun
returns-clause-begun g c =
    let h = c.in_ok-close_counted.field-0.history in
    let same : c.as_slice.result.now ≡ c.args.receipts.items = search rules in
    let all : All (λ (r : PassView). IsPrefix r.front h) c.args.receipts.items = subst (All (λ (r : PassView). IsPrefix r.front h)) same c.in_ok-close_counted.ensures.begun in
    subst (λ (x : List Entry). All (λ (r : PassView). IsPrefix r.front x) c.args.receipts.items) (sym c.into_desk.ensures.value.0) all
