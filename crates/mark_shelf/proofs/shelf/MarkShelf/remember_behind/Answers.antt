use Rattle.std.proofs.Common.{◌≡◌, ◌∙◌, ◌+◌, ◌-◌, ◌^◌, ◌<◌, ◌≤◌, inl, refl, ap, sym, subst, arith, ℕ, List, ◌∷◌, length}
use Rattle.std.specs.Prelude.{Contains}
use Rattle.lru.specs.LruCache.{LruCache}
use Rattle.ownership_model.specs.Step.{end_from}
use Rattle.op_step.specs.Chunk.{Chunk}
use Rattle.mark_shelf.specs.declared.names.ChunkName.{ChunkName}
use Rattle.mark_shelf.specs.Joints.{AreJoints}
use Rattle.mark_shelf.proofs.ChunkLemmas.{AreBelow, AreBelow-take, AreBelow-next}
use Rattle.mark_shelf.proofs.JointLemmas.{AreJoints-next, next-is, noted-joint, Notes-from}
use Rattle.mark_shelf.proofs.shelf.MarkShelf.remember_behind.Goals as goal

pub invariant_of-self-then-not-keep : goal.invariant_of-self-then-not-keep
invariant_of-self-then-not-keep c = (
  subst (λ (m : LruCache ℕ Chunk). AreBelow c.self.inside.next m.entries) (sym (c.if-not-keep.ensures.err refl)) c.self.invariant.0,
  subst (λ (es : List (ChunkName × ℕ)). length es ≤ c.self.inside.most_names) (sym c.in-Ok.ensures.entries) c.self.invariant.1,
  c.self.invariant.2 ∙ ap (λ (m : LruCache ℕ Chunk). m.cap) (sym (c.if-not-keep.ensures.err refl)),
  subst (λ (m : LruCache ℕ Chunk). AreJoints m.entries c.self.inside.next c.self.inside.joints.entries) (sym (c.if-not-keep.ensures.err refl)) c.self.invariant.3,
)

pub invariant_of-self-2 : goal.invariant_of-self-2
invariant_of-self-2 c =
    let k = c.self.inside.next in
    let es = c.self.inside.chunks.entries in
    let chunks = c.if-not-keep.ensures.ok refl in (
      subst (λ (m : LruCache ℕ Chunk). AreBelow (k + 1) m.entries) (sym chunks)
          (AreBelow-take (k + 1) c.self.inside.chunks.cap ((k, c.args.chunk) ∷ es) (omega arith, AreBelow-next k es c.self.invariant.0)),
      c.note.ensures.few,
      c.join.ensures.cap ∙ c.self.invariant.2 ∙ ap (λ (m : LruCache ℕ Chunk). m.cap) (sym chunks),
      subst (λ (m : LruCache ℕ Chunk). AreJoints m.entries (k + 1) c.join.new.joints.entries) (sym chunks)
          (AreJoints-next k c.self.inside.chunks.cap es c.args.chunk c.self.inside.joints.entries c.args.before c.self.invariant.0 c.self.invariant.3 (rw (← c.self.view_is) at c.requires) c.join.new.joints.entries
          (noted-joint c.self.inside.joints.cap c.self.inside.joints.entries c.join.new.joints.entries k k c.args.before _ c.join.ensures.noted)),
    )

pub returns-clause-remembers : goal.returns-clause-remembers
returns-clause-remembers c =
    let low : c.self.inside.next < 2 ^ 64 - 1 = omega (arith, c.if-self.false, c.self.ranges) in
    rw (← c.self.view_is, c.if-not-keep.ensures.ok refl, c.note.ensures.entries, c.in-Ok.ensures.entries, c.of-name.ensures, c.ops.ensures.value)
    (inl (low, Notes-from _ _ _ (rw c.self.invariant.2 at c.join.ensures.noted)))

pub returns-clause-number : goal.returns-clause-number
returns-clause-number c =
    rw (← c.self.view_is, c.if-not-keep.ensures.ok refl, c.note.ensures.entries, c.in-Ok.ensures.entries, c.of-name.ensures, c.ops.ensures.value)
    (refl, Notes-from _ _ _ (rw c.self.invariant.2 at c.join.ensures.noted))

pub returns-clause-ends : goal.returns-clause-ends
returns-clause-ends c = λ d there.
    let is : d ≡ c.args.chunk = next-is c.self.inside.next c.self.inside.chunks.cap c.self.inside.chunks.entries c.args.chunk d c.self.invariant.0 (subst (λ (m : LruCache ℕ Chunk). Contains m.entries (c.self.inside.next, d)) (c.if-not-keep.ensures.ok refl) there) in
    ap (λ (e : Chunk). end_from e.start e.ops) is
