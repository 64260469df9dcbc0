use Rattle.std.proofs.Common.{◌≡◌, ◌∙◌, true, sym, arith, le-ltb}
use mathlib.Core.Logic.{inl}
use Rattle.std.proofs.lemmas.Bool.{false≢true}
use Rattle.run_engine.specs.Segments.{has_mark}
use Rattle.run_engine.proofs.PassedLemmas.{has_mark-is}
use Rattle.run_engine.proofs.replay.parts.is_enough.Goals.{then-len-gt0, else-len-gt0}
use Rattle.run_engine.proofs.replay.parts.is_enough.Goals as goal

pub returns-then-is_marked-clause-enough : goal.returns-then-is_marked-clause-enough
returns-then-is_marked-clause-enough c = λ t.
    let marked : has_mark c.args.old.now c.args.index ≡ true = elim c.if-len-gt0.branch [
      | then-len-gt0 w ↦ has_mark-is c.args.old.now c.args.index w.at.result c.requires.index w.at.ensures ∙ sym w.is_marked.ensures ∙ sym w.value-is ∙ c.if-is_marked.true
      | else-len-gt0 w ↦ absurd (false≢true (sym (le-ltb 0 c.len.result (omega (arith, w.if-len-gt0.false))) ∙ sym w.value-is ∙ c.if-is_marked.true))
    ] in
    inl (record { begins = marked; ends = rw c.len-then-is_marked.ensures at (c.is_followed.ensures t) })
