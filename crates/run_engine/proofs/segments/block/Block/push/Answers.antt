use Rattle.std.proofs.Common.{◌≡◌, ◌+◌, ◌<◌, ◌++◌, ◌∷◌, [], List, false, ◌∙◌, ap, map, length, length-append, refl, arith, rules}
use Rattle.std.specs.Prelude.{vec_len, is_some}
use Rattle.std.specs.Arc.{arc_value}
use Rattle.std.specs.Option.{option_map}
use Rattle.run_engine.proofs.BlockLemmas.{pushed, sound-bare}
use Rattle.run_engine.proofs.MeasureLemmas.{measured-more}
use Rattle.run_engine.specs.SegmentView.{SegmentView}
use Rattle.run_engine.specs.Segments.{trace_of}
use Rattle.run_engine.specs.inner.Blocks.{laid_over, standing}
use Rattle.run_engine.proofs.segments.block.Block.push.Goals as goal

pub invariant_of-self-in-Some : goal.invariant_of-self-in-Some
invariant_of-self-in-Some c =
    let x = option_map arc_value c.self.inside.laid in
    let ss : List SegmentView = (arc_value c.self.inside.segments).items in
    let all : List SegmentView = map (laid_over x) (standing c.self.inside.given_up c.self.inside.from c.self.inside.len ss) in
    let long : c.len.result ≡ vec_len (arc_value c.self.inside.segments) = c.len.ensures ∙ ap vec_len c.deref.ensures in
    let bare : is_some x ≡ false = search rules in
    let items : c.push.new.self.items ≡ ss ++ c.args.segment ∷ [] = search rules in
    let size : length c.push.new.self.items ≡ length (arc_value c.self.inside.segments).items + 1 = ap length items ∙ length-append ss (c.args.segment ∷ []) in
    let end : c.self.inside.from + c.self.inside.len ≡ length (arc_value c.self.inside.segments).items = omega (arith, long, c.self.invariant.0, c.if-place-len.false, (arc_value c.self.inside.segments).ok.0) in
    let room : c.self.inside.from + c.self.inside.len < 64 = omega (arith, c.if-place-ge-MOST_SEGMENTS.false) in (
      omega (arith, end, size),
      omega (arith, end, size, room),
      sound-bare x (standing c.set.new.self c.self.inside.from (c.self.inside.len + 1) c.push.new.self.items) bare,
      measured-more all _ c.args.segment c.self.inside.ops _ c.self.inside.bounds.least c.self.inside.bounds.greatest _ _
          (pushed x c.self.inside.given_up c.set.new.self c.self.inside.from c.self.inside.len (c.self.inside.from + c.self.inside.len) ss c.push.new.self.items all c.args.segment refl bare items end c.set.ensures.set (omega (arith, c.set.ensures.long, room)) refl)
          (ap length c.ops-more.ensures) (omega (arith, c.if-more-self.false, c.self.invariant.3.few))
          (λ h. c.with-bounds.ensures (trace_of all) c.args.segment.ops h c.bounds.ensures) c.self.invariant.3,
    )

pub returns-in_ok-push-in-Some-clause-taken : goal.returns-in_ok-push-in-Some-clause-taken
returns-in_ok-push-in-Some-clause-taken c =
    let long : c.len.result ≡ vec_len (arc_value c.self.inside.segments) = c.len.ensures ∙ ap vec_len c.deref.ensures in
    pushed (option_map arc_value c.self.inside.laid) c.self.inside.given_up c.set.new.self c.self.inside.from c.self.inside.len (c.self.inside.from + c.self.inside.len) (arc_value c.self.inside.segments).items c.push.new.self.items c.args.self.now c.args.segment c.self.view_is (search rules) (search rules) (omega (arith, long, c.self.invariant.0, c.if-place-len.false, (arc_value c.self.inside.segments).ok.0)) c.set.ensures.set (omega (arith, c.set.ensures.long, c.if-place-ge-MOST_SEGMENTS.false)) refl
