-- Chunks that were stepped one behind the other, and where a replay stands behind them.
use Rattle.std.proofs.Common.{◌≡◌, ℕ, true, List, [], ◌∷◌, ◌++◌, refl, sym, subst, ◌∙◌}
use Rattle.std.specs.Prelude.{Option, Some, None, IfSome}
use Rattle.ownership_model.specs.State.{State}
use Rattle.ownership_model.specs.Step.{end_from}
use Rattle.op_step.specs.Chunk.{Chunk}
use Rattle.mark_shelf.specs.Joints.{EndsWith}
use Rattle.run_engine.specs.declared.replay.fresh.FreshChunk.{FreshChunk}
use Rattle.run_engine.specs.inner.FreshChunks.{end_after, AreLinked}
use Rattle.run_engine.specs.Memo.{AreSome}
use Rattle.run_engine.specs.declared.replay.origin.Origin.{Origin}
use Rattle.run_engine.specs.declared.replay.origin.Origin.TheVariants.{Old, Stepped, Shelf}
use Rattle.run_engine.specs.declared.replay.origin.Behind.TheVariants as behind
use Rattle.run_engine.specs.inner.Origins.{stepped_chunk, behind_of, end_behind}

-- behind one chunk more, that is where it ends
pub end_after-push : (before : Option State) (fs : List FreshChunk) (f : FreshChunk) → end_after before (fs ++ f ∷ []) ≡ Some (end_from f.chunk.start f.chunk.ops)
end_after-push before [] f = refl
end_after-push before (g ∷ fs) f = end_after-push (Some (end_from g.chunk.start g.chunk.ops)) fs f

-- a chunk more, which follows only where it begins at the end of those
pub AreLinked-push : (before : Option State) (fs : List FreshChunk) (f : FreshChunk) → AreLinked before fs → (f.follows ≡ true → IfSome (end_after before fs) (λ s. s ≡ f.chunk.start)) → AreLinked before (fs ++ f ∷ [])
AreLinked-push before [] f h begins = (begins, tt)
AreLinked-push before (g ∷ fs) f h begins = (h.0, AreLinked-push (Some (end_from g.chunk.start g.chunk.ops)) fs f h.1 begins)

-- chunks that are linked, the first, if it follows, to the one with a number
abbrev pub AreBehind : List (ℕ × Chunk) → Option ℕ → List FreshChunk → Type 0
AreBehind chunks last [] = Unit {0}
AreBehind chunks last (f ∷ fs) = (f.follows ≡ true → IfSome last (λ k. EndsWith chunks k f.chunk.start)) × AreLinked (Some (end_from f.chunk.start f.chunk.ops)) fs

-- to one that ends where they are linked
pub AreBehind-next : (chunks : List (ℕ × Chunk)) (last : Option ℕ) (state : State) (fs : List FreshChunk) → AreLinked (Some state) fs → IfSome last (λ k. EndsWith chunks k state) → AreBehind chunks last fs
AreBehind-next chunks last state [] h ends = tt
AreBehind-next chunks last state (f ∷ fs) h ends = (λ t. subst (λ s. IfSome last (λ k. EndsWith chunks k s)) (h.0 t) ends, h.1)

-- a chunk that was stepped where the prefix ends begins where the last of the others ends
pub begins-there : (stepped : Option Chunk) (fresh : Option State) (state : State) → IfSome stepped (λ c. c.start ≡ state) → IfSome fresh (λ s. s ≡ state) → IfSome stepped (λ c. IfSome fresh (λ s. s ≡ c.start))
begins-there None fresh state h k = tt
begins-there (Some c) None state h k = tt
begins-there (Some c) (Some s) state h k = k ∙ sym h

-- behind a chunk that was stepped a replay stands where the last of the chunks ends
pub placed-fresh : (before : Option State) (end : State) (origin : Origin) → IfSome (stepped_chunk origin) (λ c. end_from c.start c.ops ≡ end) → behind_of origin ≡ behind.Stepped → IfSome (end_behind before origin) (λ s. s ≡ end)
placed-fresh before end Old h is = cc
placed-fresh before end (Stepped c) h is = h
placed-fresh before end (Shelf k) h is = cc

-- where chunks go, what is known of the others stays
pub EndsWith-fewer : (all some : List (ℕ × Chunk)) (o : Option ℕ) (state : State) → AreSome some all → IfSome o (λ k. EndsWith all k state) → IfSome o (λ k. EndsWith some k state)
EndsWith-fewer all some None state fewer h = tt
EndsWith-fewer all some (Some k) state fewer h = λ c there. h c (fewer (k, c) there)
