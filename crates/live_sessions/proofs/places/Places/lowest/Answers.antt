use Rattle.std.proofs.Common.{rules, ◌≡◌, ◌<◌, ◌≤◌, length, get_or, Option, None, subst}
use Rattle.std.proofs.lemmas.List.{take_all}
use Rattle.std.specs.List.{All}
use Rattle.live_sessions.specs.Views.{PassView}
use Rattle.live_sessions.proofs.Prefixes.{all_take_more}
use Rattle.live_sessions.proofs.places.Places.lowest.Goals as goal

pub loop-at-preserved : goal.loop-at-preserved
loop-at-preserved g c =
    let places = c.args.self.now in
    let within : c.loop-at.at < length places = search rules in
    let none : get_or places c.loop-at.at None ≡ None = search rules in
    all_take_more (λ (place : Option PassView). place ≡ None) places c.loop-at.at None within c.loop-at.invariant none

pub returns : goal.returns
returns g c =
    let places = c.args.self.now in
    let all : length places ≤ c.loop-at.at = search rules in
    subst (All (λ (place : Option PassView). place ≡ None)) (take_all c.loop-at.at places all) c.loop-at.invariant
