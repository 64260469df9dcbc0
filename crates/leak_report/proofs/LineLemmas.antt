-- There is a line for each operation.
use Rattle.std.proofs.Common.{◌≡◌, ℕ, suc, ◌+◌, List, [], ◌∷◌, ◌++◌, length, cond, refl, ap, arith}
use Rattle.std.specs.Prelude.{count_by, fold}
use Rattle.trace_types.specs.Operation.{Operation}
use Rattle.trace_types.specs.declared.outcomes.Outcome.{Outcome}
use Rattle.leak_report.specs.Lines.{line_of, lines_of, is_skipped, is_skipped_line}

pub lines_length : (ops : List Operation) (outs : List Outcome) → length outs ≡ length ops → length (lines_of ops outs) ≡ length ops
lines_length [] outs same = refl
lines_length (op ∷ ops) [] same = same
lines_length (op ∷ ops) (out ∷ outs) same = ap suc (lines_length ops outs (omega (arith, same)))

skipped_after : (n : ℕ) (ops : List Operation) (outs : List Outcome) → length outs ≡ length ops
    → fold (λ a l. a + cond (is_skipped_line l) 1 0) n (lines_of ops outs) ≡ fold (λ a (out : Outcome). a + cond (is_skipped out.verdict) 1 0) n outs
skipped_after n [] [] same = refl
skipped_after n [] (out ∷ outs) same = absurd (omega (arith, same))
skipped_after n (op ∷ ops) [] same = refl
skipped_after n (op ∷ ops) (out ∷ outs) same = skipped_after (n + cond (is_skipped out.verdict) 1 0) ops outs (omega (arith, same))

pub lines_skipped : (ops : List Operation) (outs : List Outcome) → length outs ≡ length ops → count_by is_skipped_line (lines_of ops outs) ≡ count_by (λ (out : Outcome). is_skipped out.verdict) outs
lines_skipped ops outs same = skipped_after 0 ops outs same

-- the lines of a trace are those of its front and of its rest
pub lines_append : (a b : List Operation) (c d : List Outcome) → length c ≡ length a → lines_of (a ++ b) (c ++ d) ≡ lines_of a c ++ lines_of b d
lines_append [] b [] d same = refl
lines_append [] b (out ∷ c) d same = absurd (omega (arith, same))
lines_append (op ∷ a) b [] d same = absurd (omega (arith, same))
lines_append (op ∷ a) b (out ∷ c) d same = ap (λ ls. line_of op out ∷ ls) (lines_append a b c d (omega (arith, same)))
