use Rattle.std.proofs.Common.{rules, ◌≡◌, Bool, true, false, List}
use Rattle.std.specs.Bool.{OnTrue, MatchBool}
use mathlib.Core.List.{IsPrefix}
use Rattle.edit_desk.specs.declared.entries.Entry.{Entry}
use Rattle.live_sessions.specs.declared.shown.ShownView.{ShownView}
use Rattle.trace_types.specs.Operation.{Operation}
use Rattle.live_sessions.specs.Desks.{IsShown}
use Rattle.live_sessions.proofs.Prefixes.{shown_as}
use Rattle.live_sessions.proofs.locked.is_current.Goals as goal

by_case : (b : Bool) (t : List Operation) (f : ShownView) (g h : List Entry) (Q : Type 0) → MatchBool b (IsPrefix g h) Q → g ≡ f.entries → IsShown t f f.entries → IsPrefix h g → OnTrue b (IsShown t f h)
by_case true t f g h Q q is shown p = shown_as t f g h is shown p q
by_case false t f g h Q q is shown p = tt

pub returns : goal.returns
returns g c =
    let f = g.W.Publisher.shown c.args.writer.now in
    let shown : c.front-shown.result.now ≡ f.entries = search rules in
    let run : IsShown g.J.Naming.opening f f.entries = search rules in
    let pre : IsPrefix c.args.front.now c.front-shown.result.now = search rules in
    by_case c.begins-2.result g.J.Naming.opening f c.front-shown.result.now c.args.front.now _ c.begins-2.ensures shown run pre
