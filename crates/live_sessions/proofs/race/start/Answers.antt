use Rattle.std.proofs.Common.{rules, ◌≡◌, ◌∷◌, ◌++◌, [], length, map, ap, sym, ◌∙◌, subst, arith, length-append}
use Rattle.std.specs.Vec.Iter.{into_iter_items}
use Rattle.live_sessions.specs.Races.{AllFresh, given}
use Rattle.live_sessions.proofs.Raced.{fresh_more, handed_more}
use Rattle.live_sessions.proofs.race.start.Goals as goal

pub loop-own-preserved : goal.loop-own-preserved
loop-own-preserved g c =
    let submitters = c.loop-own.submitters.items in
    let r = c.new.result in
    let own = c.in-Some.own in
    let grown : c.push.new.self.items ≡ submitters ++ r ∷ [] = search rules in
    let items : into_iter_items c.loop-own.own-iterator ≡ own ∷ into_iter_items c.next.new.self = search rules in
    let session : r.pass.session ≡ length submitters = ap (λ p. p.session) c.new.ensures.0 ∙ (c.in_ok-pass.ensures.0 ∙ c.loop-own.invariant.number) in
    let front : r.pass.front ≡ [] = ap (λ p. p.front) c.new.ensures.0 ∙ c.in_ok-pass.ensures.1 in
    let requests : r.requests ≡ own = c.new.ensures.1 in record {
      number = omega (arith, c.loop-own.invariant.number, ap length grown, length-append submitters (r ∷ []));
      handed = subst (λ rs. map given rs ++ into_iter_items c.next.new.self ≡ c.args.requests.items) (sym grown)
          (handed_more submitters r own (into_iter_items c.loop-own.own-iterator) (into_iter_items c.next.new.self) c.args.requests.items requests items c.loop-own.invariant.handed);
      started = subst AllFresh (sym grown) (fresh_more submitters r c.loop-own.invariant.started (session, front));
    }
