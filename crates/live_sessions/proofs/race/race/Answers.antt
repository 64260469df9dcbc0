use Rattle.std.proofs.Common.{rules, ◌≡◌, ◌<◌, ◌≤◌, List, [], length, map, Some, sym, subst}
use Rattle.std.specs.Prelude.{slice_index_or}
use Rattle.std.specs.List.{All}
use mathlib.Core.List.{IsPrefix}
use Rattle.edit_desk.specs.declared.entries.Entry.{Entry}
use Rattle.live_sessions.specs.Views.{PassView}
use Rattle.live_sessions.specs.Races.{AddUp, AllAsk, AreAsked, asked_by}
use Rattle.live_sessions.proofs.Raced.{raced}
use Rattle.live_sessions.specs.declared.limits.TheConstants.{PLACES}
use Rattle.trace_types.specs.declared.limits.TheConstants.{MAX_ENTRIES}
use Rattle.live_sessions.proofs.race.race.Goals as goal

pub returns-clause-asked : goal.returns-clause-asked
returns-clause-asked g c s =
    let requests = c.args.requests.items in
    let submitters = c.in_ok-submitters.submitters.items in
    let left = c.in-Ok.left.items in
    let receipts = c.in_ok-receipts.receipts.items in
    let h = c.in-Ok-close_counted.desk.history in
    let first : c.as_slice.result.now ≡ receipts = search rules in
    let second : c.as_slice-2.result.now ≡ receipts = search rules in
    let begun : All (λ (r : PassView). IsPrefix r.front h) receipts = subst (All (λ (r : PassView). IsPrefix r.front h)) first c.in-Ok-close_counted.ensures.begun in
    let holds : AddUp h c.as_slice-2.result.now = search rules in
    let sums : AddUp h receipts = subst (AddUp h) second holds in
    let sessions : All (λ (e : Entry). e.session < PLACES) h = c.len-len.ensures.sessions in
    let most : length h ≤ MAX_ENTRIES = c.len-len.ensures.most in
    let sixteen : length requests ≡ PLACES = search rules in
    let as_many : length left ≡ length submitters = search rules in
    let asks : AllAsk submitters left = c.in-Ok.ensures.each in
    let all_of : map Some receipts ≡ left = c.in_ok-receipts.ensures in
    subst (λ (x : List Entry). AreAsked (slice_index_or requests s []) (asked_by s x) (length x)) (sym c.into_desk.ensures.value.0)
    (raced requests submitters left receipts h sixteen c.in_ok-submitters.ensures.given c.in_ok-submitters.ensures.fresh asks as_many all_of begun sums sessions most s)
