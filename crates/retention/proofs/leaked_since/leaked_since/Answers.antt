use Rattle.std.proofs.Common.{◌≡◌, ◌+◌, ◌-◌, ◌<◌, List, ◌∷◌, length, drop, get_or, ap, ◌∙◌, sym, subst, arith}
use Rattle.std.proofs.lemmas.List.{drop_more}
use Rattle.retention.specs.declared.moves.Loss.{Loss}
use Rattle.retention.specs.Dating.{AreDated}
use Rattle.retention.proofs.leaked_since.leaked_since.Goals as goal

pub loop-at-preserved : goal.loop-at-preserved
loop-at-preserved c =
    let at = c.loop-at.at in
    let d : Loss = record { object = 0; id = 0 } in
    let less : at - 1 < length c.args.losses.now = omega (arith, c.loop-at-test.true, c.loop-at.invariant.within) in
    let one : (at - 1) + 1 ≡ at = omega (arith, c.loop-at-test.true) in
    let next : drop (at - 1) c.args.losses.now ≡ get_or c.args.losses.now (at - 1) d ∷ drop at c.args.losses.now =
    drop_more c.args.losses.now (at - 1) d less ∙ ap (λ n. get_or c.args.losses.now (at - 1) d ∷ drop n c.args.losses.now) one in
    record {
      within = omega (arith, c.loop-at.invariant.within);
      long = c.in_ok-date_lost.ensures.long;
      closed = c.in_ok-date_lost.ensures.closed;
      empty = c.in_ok-date_lost.ensures.empty;
      dated = subst (λ (ls : List Loss). AreDated c.args.graph.now c.args.leaked.now ls c.date_lost.new.since.items) (sym next) (c.in_ok-date_lost.ensures.dated (drop at c.args.losses.now) c.loop-at.invariant.dated);
    }
