-- The canonical lines of a trace read as the trace.
use Rattle.std.proofs.Common.{◌≡◌, ℕ, suc, ◌≤◌, List, [], ◌∷◌, ◌++◌, length, true, false, ◌==◌, nat_lt, nat_le, Ok, refl, sym, subst, ap, ◌∙◌, arith, append-nil, append_assoc, leb-true, ltb-true, le-ltb, ne_eqb}
use Rattle.std.specs.List.{list_all, AllByRecursion}
use Rattle.std.specs.Str.{IsAscii}
use Rattle.std.proofs.lemmas.List.Elements.{All-from_recursion}
use Rattle.std.proofs.lemmas.List.Splits.{slice_split_at}
use Rattle.std.proofs.lemmas.Str.{IsUtf8-from_ascii}
use Rattle.std.proofs.lemmas.Str.Ascii.{IsAscii-nil, IsAscii-cons}
use Rattle.trace_types.specs.Limits.{is_within_limits}
use Rattle.trace_types.specs.declared.limits.TheConstants.{MAX_LINE}
use Rattle.trace_types.specs.Operation.{Operation}
use Rattle.trace_reader.specs.Reading.{json_of, is_blank, read_op, push_cause, after_line, after_lines, lines_of, at_line, read_trace}
use Rattle.trace_types.specs.Trace.{IsTrace, pushed}
use Rattle.trace_reader.specs.Writing.{data_of, line_of, lines_text, op_of_line}
use Rattle.trace_reader.specs.Members.{◌>>=◌}
use Rattle.trace_reader.proofs.Json.{json_of-read}
use Rattle.trace_reader.proofs.OpLines.{both, read-line_of, read_op-data_of}
use Rattle.trace_reader.proofs.Traces.{GoesOn, GoesOn-from_trace}
use Rattle.trace_reader.proofs.Visible.{is_visible, IsNeatLine-line_of}

no_newlines : (xs : List ℕ) → list_all is_visible xs ≡ true → AllByRecursion (λ x. (x == 10) ≡ false) xs
no_newlines [] h = tt
no_newlines (x ∷ xs) h =
    let p = both (is_visible x) _ h in let q = both (nat_le 32 x) _ p.0 in let low : 32 ≤ x = leb-true 32 x q.0 in
    (ne_eqb x 10 (λ e. omega arith), no_newlines xs p.1)

ascii : (xs : List ℕ) → list_all is_visible xs ≡ true → IsAscii xs
ascii [] h = IsAscii-nil
ascii (x ∷ xs) h = let p = both (is_visible x) _ h in let q = both (nat_le 32 x) _ p.0 in IsAscii-cons x xs (ltb-true x 128 q.1) (ascii xs p.1)

-- the value of a canonical line
pub json_of-line_of : (o : Operation) → is_within_limits o ≡ true → json_of (line_of o) ≡ Ok (data_of o)
json_of-line_of o h = let n = IsNeatLine-line_of o h in json_of-read (line_of o) (data_of o) (IsUtf8-from_ascii (line_of o) (ascii (line_of o) n.visible)) (read-line_of o h)

pub after_line-line_of : (t : List Operation) (o : Operation) → is_within_limits o ≡ true → after_line t (line_of o) ≡ push_cause (pushed t o)
unfolding after_line
after_line-line_of t o h =
    let n = IsNeatLine-line_of o h in
    let short : nat_lt MAX_LINE (length (line_of o)) ≡ false = le-ltb _ _ n.short in
    let full : is_blank (line_of o) ≡ false = ap is_blank n.begins in
    rw (short, full, json_of-line_of o h, read_op-data_of o h)

after_line-nil : (t : List Operation) → after_line t [] ≡ Ok t
unfolding after_line
after_line-nil t = refl

lines_of-cons : (o : Operation) (os : List Operation) → is_within_limits o ≡ true → lines_of (lines_text (o ∷ os)) ≡ line_of o ∷ lines_of (lines_text os)
lines_of-cons o os h =
    let n = IsNeatLine-line_of o h in
    ap lines_of (append_assoc (line_of o) (10 ∷ []) (lines_text os))
    ∙ slice_split_at (λ b. b == 10) (line_of o) 10 (lines_text os) (All-from_recursion (λ x. (x == 10) ≡ false) (line_of o) (no_newlines (line_of o) n.visible)) refl

pub after_lines-lines_text : (t os : List Operation) (n : ℕ) → GoesOn t os → after_lines t n (lines_of (lines_text os)) ≡ Ok (t ++ os)
after_lines-lines_text t [] n h = ap (λ r. at_line n r >>= λ u. Ok u) (after_line-nil t) ∙ ap Ok (sym (append-nil t))
after_lines-lines_text t (o ∷ os) n h =
    ap (after_lines t n) (lines_of-cons o os h.0)
    ∙ ap (λ r. at_line n r >>= λ u. after_lines u (suc n) (lines_of (lines_text os))) (after_line-line_of t o h.0 ∙ ap push_cause h.1)
    ∙ after_lines-lines_text (t ++ o ∷ []) os (suc n) h.2
    ∙ ap Ok (append_assoc t (o ∷ []) os)

-- the round trip
pub read_trace-lines_text : (os : List Operation) → GoesOn [] os → read_trace (lines_text os) ≡ Ok os
read_trace-lines_text os h = after_lines-lines_text [] os 1 h

pub read_trace-lines_text-is : (ops trace : List Operation) → ops ≡ trace → IsTrace trace → list_all is_within_limits ops ≡ true → read_trace (lines_text ops) ≡ Ok trace
read_trace-lines_text-is ops trace same t within =
    read_trace-lines_text ops (GoesOn-from_trace ops (subst IsTrace (sym same) t) within) ∙ ap Ok same

pub op_of_line-line_of : (o : Operation) → is_within_limits o ≡ true → op_of_line (line_of o) ≡ Ok o
op_of_line-line_of o h = ap (λ r. r >>= read_op) (json_of-line_of o h) ∙ read_op-data_of o h
