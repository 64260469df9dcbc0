use Rattle.std.proofs.Common.{rules, arith, ◌≡◌, ◌∷◌, ◌++◌, ◌∙◌, inl}
use Rattle.std.proofs.lemmas.Grind.{common_steps}
use Rattle.std.specs.Vec.Iter.{into_iter_items}
use Rattle.live_sessions.specs.declared.submitter.End.TheVariants.{Stored, Full}
use Rattle.live_sessions.specs.Races.{asked_by, Stepped}
use Rattle.live_sessions.proofs.Races.{asks_more, asks_full}
use Rattle.live_sessions.proofs.submitter.ask_all.Goals as goal

pub loop-request-preserved : goal.loop-request-preserved
loop-request-preserved g c =
    let old = c.args.pass in
    let mid = c.loop-request.pass in
    let new = c.ask.new.pass in
    let r = c.in-Some.request in
    let items : into_iter_items c.loop-request.request-iterator ≡ r ∷ into_iter_items c.next.new.self = search rules in
    let step : Stepped mid r new Stored = search rules in record {
      same = step.0 ∙ c.loop-request.invariant.same;
      asks = asks_more old.session mid new r (into_iter_items c.loop-request.request-iterator) (into_iter_items c.next.new.self) _ c.loop-request.invariant.same step items c.loop-request.invariant.asks;
    }

pub returns-in-Full : goal.returns-in-Full
returns-in-Full g c =
    let old = c.args.pass in
    let mid = c.loop-request.pass in
    let new = c.ask.new.pass in
    let r = c.in-Some.request in
    let step : Stepped mid r new Full = search rules in
    asks_full old mid new r (into_iter_items c.loop-request.request-iterator) c.args.requests.items c.loop-request.invariant.same step c.loop-request.invariant.asks

pub returns : goal.returns
returns g c =
    let old = c.args.pass in
    let new = c.loop-request.pass in
    let all : asked_by old.session new.front ≡ asked_by old.session old.front ++ c.args.requests.items = grind (arith, common_steps) in
    (c.loop-request.invariant.same, inl all)
