use Rattle.std.proofs.Common.{◌≡◌, ◌<◌, ◌-◌, ◌+◌, length, get_or, set, sym, ap, ◌∙◌, subst, arith, true, false}
use Rattle.std.specs.Prelude.{Some}
use Rattle.std.proofs.lemmas.List.{get_or_read}
use Rattle.retention.specs.Graph.{size, holds, start_at}
use Rattle.retention.specs.Paths.{Points, marked}
use Rattle.retention.proofs.LeftSteps.{next_field, pass_left, from_last, last_seen, still_marked, now_entered, now_marked}
use Rattle.retention.proofs.search.Search.pass.Goals.{in-Some+then-not-index+in_ok-enter, in-Some+else-not-index, in_default}
use Rattle.retention.proofs.search.Search.pass.Goals as goal

pub enter-requires-clause-from : goal.enter-requires-clause-from
enter-requires-clause-from c =
    let count : c.args.self.now.path.len ≡ length c.args.self.now.path.items = omega (arith, c.args.self.now.path.ok.0) in
    let some : 0 < length c.args.self.now.path.items = omega (arith, c.requires.some, count) in
    let here : get_or c.args.self.now.path.items (length c.args.self.now.path.items - 1) 0 ≡ c.args.last = subst (λ n. get_or c.args.self.now.path.items (n - 1) 0 ≡ c.args.last) count c.requires.last in
    let inside : c.args.last < size c.args.graph.now =
    last_seen (Points c.args.graph.now) (size c.args.graph.now) c.args.self.now.seen.items c.args.self.now.path.items c.args.self.now.order.items c.requires.searching c.args.last some here in
    let left : length c.args.self.now.left.items ≡ size c.args.graph.now = c.requires.left.long in
    let read : c.index.result.now ≡ get_or c.args.self.now.left.items c.args.last 0 = get_or_read c.args.self.now.left.items c.args.last c.index.result.now (omega (arith, inside, left)) c.index.ensures 0 in
    let place : c.fields.result.end - c.index.result.now ≡ start_at c.args.graph.now (c.args.last + 1) - get_or c.args.self.now.left.items c.args.last 0 = cc (c.fields.ensures.end, read) in
    λ i h. from_last c.args.graph.now c.args.self.now.seen.items c.args.self.now.path.items c.args.self.now.order.items c.requires.searching c.args.last c.in-Some.target some here (
      start_at c.args.graph.now (c.args.last + 1) - get_or c.args.self.now.left.items c.args.last 0,
      next_field c.args.graph.now c.args.self.now.seen.items c.args.self.now.left.items c.requires.left c.args.last inside c.requires.more,
      subst (λ x. holds c.args.graph.now x ≡ Some c.in-Some.target) place (sym c.strong_target-target.ensures.value ∙ c.in-Some.is),
    ) i (omega (arith, h, count))

pub returns-clause-left : goal.returns-clause-left
returns-clause-left c =
    let count : c.args.self.now.path.len ≡ length c.args.self.now.path.items = omega (arith, c.args.self.now.path.ok.0) in
    let some : 0 < length c.args.self.now.path.items = omega (arith, c.requires.some, count) in
    let here : get_or c.args.self.now.path.items (length c.args.self.now.path.items - 1) 0 ≡ c.args.last = subst (λ n. get_or c.args.self.now.path.items (n - 1) 0 ≡ c.args.last) count c.requires.last in
    let inside : c.args.last < size c.args.graph.now =
    last_seen (Points c.args.graph.now) (size c.args.graph.now) c.args.self.now.seen.items c.args.self.now.path.items c.args.self.now.order.items c.requires.searching c.args.last some here in
    let left : length c.args.self.now.left.items ≡ size c.args.graph.now = c.requires.left.long in
    let seen : length c.args.self.now.seen.items ≡ size c.args.graph.now = c.requires.searching.long in
    let read : c.index.result.now ≡ get_or c.args.self.now.left.items c.args.last 0 = get_or_read c.args.self.now.left.items c.args.last c.index.result.now (omega (arith, inside, left)) c.index.ensures 0 in
    let place : c.fields.result.end - c.index.result.now ≡ start_at c.args.graph.now (c.args.last + 1) - get_or c.args.self.now.left.items c.args.last 0 = cc (c.fields.ensures.end, read) in
    let held : c.strong_target-target.result ≡ holds c.args.graph.now (start_at c.args.graph.now (c.args.last + 1) - get_or c.args.self.now.left.items c.args.last 0) = c.strong_target-target.ensures.value ∙ ap (holds c.args.graph.now) place in
    elim c.match-target.branch [
      | in-Some+then-not-index+in_ok-enter w ↦
          let ls : c.match-target.self.left.items ≡ c.args.self.now.left.items = cc (w.self-is, w.in_ok-enter.ensures.same) in
          let ss : c.match-target.self.seen.items ≡ set c.args.self.now.seen.items w.in-Some.target true = cc (w.self-is, w.in_ok-enter.ensures.seen) in
          let target : w.in-Some.target < length c.args.self.now.seen.items = omega (arith, seen, w.in-Some.ensures.within) in
          pass_left c.args.graph.now c.args.self.now.seen.items c.args.self.now.left.items c.requires.left c.args.last inside c.requires.more c.match-target.self.seen.items c.match-target.self.left.items c.index_mut.result.now ls
          (subst (λ xs. c.index_mut.result.now ≡ get_or xs c.args.last 0) ls (get_or_read c.match-target.self.left.items c.args.last c.index_mut.result.now (subst (λ xs. c.args.last < length xs) (sym ls) (omega (arith, inside, left))) c.index_mut.ensures.value 0))
          (λ x h. subst (λ bs. marked bs x ≡ true) (sym ss) (still_marked c.args.self.now.seen.items w.in-Some.target target x h))
          (λ y h. subst (λ bs. marked bs y ≡ true) (sym ss) (now_entered c.args.self.now.seen.items w.in-Some.target target y (sym w.in-Some.is ∙ held ∙ h)))
      | in-Some+else-not-index w ↦
          let ls : c.match-target.self.left.items ≡ c.args.self.now.left.items = cc (w.self-is) in
          let ss : c.match-target.self.seen.items ≡ c.args.self.now.seen.items = cc (w.self-is) in
          let target : w.in-Some.target < length c.args.self.now.seen.items = omega (arith, seen, w.in-Some.ensures.within) in
          let is : w.index-in-Some.result.now ≡ marked c.args.self.now.seen.items w.in-Some.target = get_or_read c.args.self.now.seen.items w.in-Some.target w.index-in-Some.result.now target w.index-in-Some.ensures false in
          pass_left c.args.graph.now c.args.self.now.seen.items c.args.self.now.left.items c.requires.left c.args.last inside c.requires.more c.match-target.self.seen.items c.match-target.self.left.items c.index_mut.result.now ls
          (subst (λ xs. c.index_mut.result.now ≡ get_or xs c.args.last 0) ls (get_or_read c.match-target.self.left.items c.args.last c.index_mut.result.now (subst (λ xs. c.args.last < length xs) (sym ls) (omega (arith, inside, left))) c.index_mut.ensures.value 0))
          (λ x h. subst (λ bs. marked bs x ≡ true) (sym ss) h)
          (λ y h. subst (λ bs. marked bs y ≡ true) (sym ss) (now_marked c.args.self.now.seen.items w.in-Some.target y (sym is ∙ w.if-not-index.false) (sym w.in-Some.is ∙ held ∙ h)))
      | in_default w ↦
          let ls : c.match-target.self.left.items ≡ c.args.self.now.left.items = cc (w.self-is) in
          let ss : c.match-target.self.seen.items ≡ c.args.self.now.seen.items = cc (w.self-is) in
          pass_left c.args.graph.now c.args.self.now.seen.items c.args.self.now.left.items c.requires.left c.args.last inside c.requires.more c.match-target.self.seen.items c.match-target.self.left.items c.index_mut.result.now ls
          (subst (λ xs. c.index_mut.result.now ≡ get_or xs c.args.last 0) ls (get_or_read c.match-target.self.left.items c.args.last c.index_mut.result.now (subst (λ xs. c.args.last < length xs) (sym ls) (omega (arith, inside, left))) c.index_mut.ensures.value 0))
          (λ x h. subst (λ bs. marked bs x ≡ true) (sym ss) h)
          (λ y h. absurd (w.in_default.not-Some y (held ∙ h)))
    ]
