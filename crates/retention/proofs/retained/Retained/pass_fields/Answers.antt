use Rattle.std.proofs.Common.{◌≡◌, ℕ, ◌+◌, ◌<◌, ◌≤◌, ◌≢◌, ◌∙◌, slice_index, ap, sym, subst, arith}
use Rattle.std.specs.Prelude.{Some}
use Rattle.std.proofs.lemmas.List.{get_or_read}
use Rattle.retention.specs.Graph.{size, places, start_at, holds, IsFieldAt}
use Rattle.retention.proofs.RetainingLemmas.{begins, through_place, still_missing, ends, place_work, place_member, index_in}
use Rattle.retention.proofs.AccountLemmas.{holds_within}
use Rattle.retention.proofs.retained.Retained.pass_fields.Goals as goal

pub fields-fields-requires : goal.fields-fields-requires
fields-fields-requires c =
    let members = c.args.self.now.members.items in
    let is : c.index-member.result.now ≡ slice_index members c.args.at = get_or_read members c.args.at c.index-member.result.now c.requires.there c.index-member.ensures 0 in
    subst (λ k. k < size c.args.graph.now) (sym is) (c.requires.front.within (slice_index members c.args.at) (index_in members c.args.at c.requires.there))

pub loop-place-init : goal.loop-place-init
loop-place-init c =
    let members = c.args.self.now.members.items in
    let is : c.index-member.result.now ≡ slice_index members c.args.at = get_or_read members c.args.at c.index-member.result.now c.requires.there c.index-member.ensures 0 in
    record {
      front = begins c.args.graph.now c.args.first c.args.at c.fields-fields.result.start c.args.self.now.missing.items members c.args.self.now.passed.items c.requires.there
          (c.fields-fields.ensures.start ∙ ap (start_at c.args.graph.now) is) c.requires.front;
      there = c.requires.there;
      same = sym is;
      work = omega arith;
      longer = omega arith;
    }

pub pass_place-requires-clause-missing : goal.pass_place-requires-clause-missing
pass_place-requires-clause-missing c =
    let g = c.args.graph.now in
    let i = c.loop-place.invariant in
    let first : start_at g c.index-member.result.now ≤ c.loop-place.place = omega (arith, c.loop-place.auto.place, c.fields-fields.ensures.start) in
    let last : c.loop-place.place < start_at g (c.index-member.result.now + 1) = omega (arith, c.loop-place-test.true, c.fields-fields.ensures.end) in
    let field : IsFieldAt g (slice_index c.loop-place.self.members.items c.args.at) c.loop-place.place = subst (λ k. IsFieldAt g k c.loop-place.place) (sym i.same) (first, last) in
    let within : c.loop-place.place < places g = omega (arith, c.loop-place-test.true, c.fields-fields.ensures.within) in
    λ t hold apart. still_missing g c.args.first c.args.at c.loop-place.place c.loop-place.self.missing.items c.loop-place.self.members.items c.loop-place.self.passed.items i.there i.front
    t field hold within (holds_within g c.loop-place.place t hold) apart

pub loop-place-preserved : goal.loop-place-preserved
loop-place-preserved c =
    let g = c.args.graph.now in
    let i = c.loop-place.invariant in
    let old = c.loop-place.self in
    let new = c.pass_place.new.self in
    let first : start_at g c.index-member.result.now ≤ c.loop-place.place = omega (arith, c.loop-place.auto.place, c.fields-fields.ensures.start) in
    let last : c.loop-place.place < start_at g (c.index-member.result.now + 1) = omega (arith, c.loop-place-test.true, c.fields-fields.ensures.end) in
    let field : IsFieldAt g (slice_index old.members.items c.args.at) c.loop-place.place = subst (λ k. IsFieldAt g k c.loop-place.place) (sym i.same) (first, last) in
    let within : c.loop-place.place < places g = omega (arith, c.loop-place-test.true, c.fields-fields.ensures.within) in
    let missing : (t : ℕ) → holds g c.loop-place.place ≡ Some t → t ≢ c.args.first → 0 < slice_index old.missing.items t =
    λ t hold apart. still_missing g c.args.first c.args.at c.loop-place.place old.missing.items old.members.items old.passed.items i.there i.front t field hold within (holds_within g c.loop-place.place t hold) apart in
    let work = place_work g c.args.first c.loop-place.place old.missing.items old.members.items old.passed.items new.missing.items new.members.items new.passed.items i.front.long missing c.in_ok-pass_place.ensures in
    record {
      front = through_place g c.args.first c.args.at c.loop-place.place old.missing.items old.members.items old.passed.items i.there i.front new.missing.items new.members.items new.passed.items field within c.in_ok-pass_place.ensures;
      there = omega (arith, i.there, work.1);
      same = place_member g c.args.first c.loop-place.place c.args.at old.missing.items old.members.items old.passed.items new.missing.items new.members.items new.passed.items i.there c.in_ok-pass_place.ensures ∙ i.same;
      work = omega (arith, i.work, work.0);
      longer = omega (arith, i.longer, work.1);
    }

pub returns-clause-front : goal.returns-clause-front
returns-clause-front c =
    let g = c.args.graph.now in
    let i = c.loop-place.invariant in
    ends g c.args.first c.args.at c.loop-place.place c.loop-place.self.missing.items c.loop-place.self.members.items c.loop-place.self.passed.items i.there i.front
    (omega (arith, c.loop-place-test.false, c.fields-fields.ensures.end, ap (λ k. start_at g (k + 1)) i.same))
