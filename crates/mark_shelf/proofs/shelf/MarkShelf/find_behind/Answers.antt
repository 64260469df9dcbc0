use Rattle.std.proofs.Common.{rules, inl, ◌≡◌, ◌∙◌, ap, sym, subst, ℕ, nat_eq, Some, List}
use Rattle.std.specs.Prelude.{Contains}
use Rattle.std.specs.Map.{lookup}
use Rattle.lru.specs.LruCache.{LruCache, promoted}
use Rattle.lru.proofs.CallerLemmas.{Contains-promoted}
use Rattle.ownership_model.specs.Step.{end_from}
use Rattle.op_step.specs.Chunk.{Chunk}
use Rattle.mark_shelf.specs.Joints.{AreJoints, joint_behind}
use Rattle.mark_shelf.specs.Shelf.{Shelf, name_of, name_eq}
use Rattle.mark_shelf.proofs.ChunkLemmas.{AreBelow, AreBelow-promoted, IfSome-named, sought-there}
use Rattle.mark_shelf.proofs.JointLemmas.{Contains-at, same-promoted, start-behind, AreJoints-promoted, AreJoints-joined, ends-fewer, below-at, noted-joint, Notes-as}
use Rattle.mark_shelf.proofs.shelf.MarkShelf.find_behind.Goals as goal

pub serving-answer-requires : goal.serving-answer-requires
serving-answer-requires c = λ known.
    start-behind c.self.inside.chunks.entries c.self.inside.next c.self.inside.joints.entries c.in_ok-number.field-0.now c.in-Some.chunk.now c.args.before c.args.heap.now c.self.invariant.3 (sym c.is_behind-is_known.ensures ∙ known) (rw (← c.self.view_is) at c.requires)
    (Contains-at c.in_ok-number.field-0.now c.self.inside.chunks.entries c.in-Some.chunk.now (sym c.in-Some.ensures))

pub invariant_of-self-in_err-served : goal.invariant_of-self-in_err-served
invariant_of-self-in_err-served c = (
  subst (λ (m : LruCache ℕ Chunk). AreBelow c.self.inside.next m.entries) (sym c.promote.ensures.entries)
      (AreBelow-promoted c.self.inside.next (nat_eq c.in_ok-number.field-0.now) c.self.inside.chunks.entries c.self.invariant.0),
  c.self.invariant.1,
  rw (c.promote.ensures.entries, c.promote-2.ensures.entries) c.self.invariant.2,
  rw (c.promote.ensures.entries, c.promote-2.ensures.entries) (AreJoints-promoted c.self.inside.chunks.entries c.self.inside.next c.self.inside.joints.entries c.in_ok-number.field-0.now c.self.invariant.3),
)

pub invariant_of-self-2 : goal.invariant_of-self-2
invariant_of-self-2 c =
    let k : ℕ = c.in_ok-number.field-0.now in
    let es : List (ℕ × Chunk) = c.self.inside.chunks.entries in
    let begins : c.args.heap.now ≡ c.in-Some.chunk.now.start = sym c.in_ok-served.ensures.start ∙ ap (λ (d : Chunk). d.start) c.in_ok-served.ensures.same in
    let stay : AreJoints (promoted (nat_eq k) es) c.self.inside.next c.promote-2.new.self.entries = rw c.promote-2.ensures.entries (AreJoints-promoted es c.self.inside.next c.self.inside.joints.entries k c.self.invariant.3) in (
      subst (λ (m : LruCache ℕ Chunk). AreBelow c.self.inside.next m.entries) (sym c.promote.ensures.entries)
          (AreBelow-promoted c.self.inside.next (nat_eq k) es c.self.invariant.0),
      c.self.invariant.1,
      rw (c.join.ensures.cap, c.promote.ensures.entries, c.promote-2.ensures.entries) c.self.invariant.2,
      rw c.promote.ensures.entries
          (AreJoints-joined (promoted (nat_eq k) es) c.self.inside.next c.promote-2.new.self.entries c.join.new.joints.entries k c.in-Some.chunk.now c.args.before stay
          (below-at c.self.inside.next es k c.in-Some.chunk.now c.self.invariant.0 (Contains-at k es c.in-Some.chunk.now (sym c.in-Some.ensures))) (λ d there. same-promoted k es c.in-Some.chunk.now d c.len-count.ensures.valid.0 (sym c.in-Some.ensures) there)
          (ends-fewer es (promoted (nat_eq k) es) c.args.before c.args.heap.now c.in-Some.chunk.now.start (Contains-promoted (nat_eq k) es) begins (rw (← c.self.view_is) at c.requires))
          (noted-joint c.promote-2.new.self.cap c.promote-2.new.self.entries c.join.new.joints.entries c.self.inside.next k c.args.before _ c.join.ensures.noted)),
    )

pub returns-clause-named : goal.returns-clause-named
returns-clause-named c =
    let k : ℕ = c.in_ok-number.field-0.now in
    let s : Shelf = c.args.self.now in
    let is : lookup (name_eq (name_of c.args.ops.now)) s.names ≡ Some k =
    ap (λ (s : Shelf). lookup (name_eq (name_of c.args.ops.now)) s.names) (sym c.self.view_is) ∙ ap (λ n. lookup (name_eq n) c.self.inside.names.entries) (sym c.of-name.ensures) ∙ sym c.in_ok-number.ensures.value in
    let there : lookup (nat_eq k) s.chunks ≡ Some c.in-Some.chunk.now = ap (λ (s : Shelf). lookup (nat_eq k) s.chunks) (sym c.self.view_is) ∙ sym c.in-Some.ensures in
    let same : c.in_ok-served.served.0 ≡ c.in-Some.chunk.now = c.in_ok-served.ensures.same in
    IfSome-named s (name_of c.args.ops.now) k c.in-Some.chunk.now (Some c.in_ok-served.served.0) is there same

pub returns-clause-number : goal.returns-clause-number
returns-clause-number c =
    ap (λ (s : Shelf). lookup (name_eq (name_of c.args.ops.now)) s.names) (sym c.self.view_is) ∙ ap (λ n. lookup (name_eq n) c.self.inside.names.entries) (sym c.of-name.ensures) ∙ sym c.in_ok-number.ensures.value

pub returns-clause-ends : goal.returns-clause-ends
returns-clause-ends c = λ d there.
    let k : ℕ = c.in_ok-number.field-0.now in
    let is : d ≡ c.in-Some.chunk.now = same-promoted k c.self.inside.chunks.entries c.in-Some.chunk.now d c.len-count.ensures.valid.0 (sym c.in-Some.ensures) (subst (λ (m : LruCache ℕ Chunk). Contains m.entries (k, d)) c.promote.ensures.entries there) in
    ap (λ (e : Chunk). end_from e.start e.ops) (is ∙ sym c.in_ok-served.ensures.same)

pub returns-in_err-number-clause-shelf : goal.returns-in_err-number-clause-shelf
returns-in_err-number-clause-shelf c = inl (search rules)

pub returns-in-None-clause-shelf : goal.returns-in-None-clause-shelf
returns-in-None-clause-shelf c = inl (search rules)

pub returns-in_err-served-clause-shelf : goal.returns-in_err-served-clause-shelf
returns-in_err-served-clause-shelf c = inl (search rules)

pub returns-clause-shelf : goal.returns-clause-shelf
returns-clause-shelf c =
    let k : ℕ = c.in_ok-number.field-0.now in
    let is : lookup (name_eq (name_of c.args.ops.now)) c.self.inside.names.entries ≡ Some k = ap (λ n. lookup (name_eq n) c.self.inside.names.entries) (sym c.of-name.ensures) ∙ sym c.in_ok-number.ensures.value in
    let noted = rw (c.promote-2.ensures.entries, c.self.invariant.2) at c.join.ensures.noted in
    rw (← c.self.view_is, c.promote.ensures.entries)
    (Notes-as _ _ (joint_behind c.self.inside.next k c.args.before) c.join.new.joints.entries (sought-there _ (name_of c.args.ops.now) k c.in-Some.chunk.now is (sym c.in-Some.ensures)) noted)
