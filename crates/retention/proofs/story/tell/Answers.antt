use Rattle.std.proofs.Common.{◌≡◌, ℕ, ◌+◌, ◌<◌, List, [], ◌∷◌, length, get_or, drop, arith, subst, ap, sym, ◌∙◌}
use Rattle.std.proofs.lemmas.List.{drop_more, drop_all}
use Rattle.trace_types.specs.Operation.{Operation}
use Rattle.ownership_model.specs.Step.{AreNew}
use Rattle.retention.specs.Stories.{IsUnderWay}
use Rattle.retention.proofs.StoryLemmas.{begun, went_on, all_made, all_events, all_dates, all_losses, all_marked}
use Rattle.retention.proofs.story.tell.Goals as goal

left : (ops : List Operation) (i : ℕ) (op : Operation) → i < length ops → op ≡ get_or ops i op → drop i ops ≡ op ∷ drop (i + 1) ops
left ops i op within is = drop_more ops i op within ∙ ap (λ x. x ∷ drop (i + 1) ops) (sym is)

pub loop-position-init : goal.loop-position-init
loop-position-init c =
    let b = c.begin-story.ensures in
    begun c.args.ops.now c.args.with_marks c.begin-story.result c.requires b.made b.events b.end b.dates b.losses b.marked

pub go_on-requires : goal.go_on-requires
go_on-requires c =
    let rest = left c.args.ops.now c.loop-position.position c.index-ops-position.result c.loop-position-test.true c.index-ops-position.is in
    (subst (λ (ops : List Operation). AreNew c.loop-position.story.end ops) rest c.loop-position.invariant.are_new).0

pub loop-position-preserved : goal.loop-position-preserved
loop-position-preserved c =
    let ops = c.args.ops.now in
    let i = c.loop-position.position in
    let op = c.index-ops-position.result in
    let rest = left ops i op c.loop-position-test.true c.index-ops-position.is in
    went_on ops op (drop (i + 1) ops) i c.args.with_marks c.loop-position.story c.go_on.new.self
    (subst (λ (left : List Operation). IsUnderWay ops left i c.args.with_marks c.loop-position.story) rest c.loop-position.invariant) c.in_ok-go_on.ensures

pub returns : goal.returns
returns c =
    let ops = c.args.ops.now in
    let i = c.loop-position.position in
    let marks = c.args.with_marks in
    let s = c.loop-position.story in
    let way : IsUnderWay ops [] i marks s =
    subst (λ (left : List Operation). IsUnderWay ops left i marks s) (drop_all i ops (omega (arith, c.loop-position-test.false))) c.loop-position.invariant in
    record {
      made = all_made ops i marks s way;
      events = all_events ops i marks s way;
      end = way.rest;
      dates = all_dates ops i marks s way;
      losses = all_losses ops i marks s way;
      marked = all_marked ops i marks s way;
    }
