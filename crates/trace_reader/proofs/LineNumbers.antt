-- The lines of a text are read one after the other, so a fault stands at a line that was reached.
use Rattle.std.proofs.Common.{ℕ, suc, List, [], ◌∷◌, Bool, true, false, Result, Ok, Err, arith}
use Rattle.std.specs.Bool.{if◌then◌else◌}
use Rattle.trace_types.specs.Operation.{Operation}
use Rattle.trace_reader.specs.Members.{◌>>=◌}
use Rattle.trace_reader.specs.Reading.{after_line, after_lines, at_line, IsReadUpTo}
use Rattle.trace_reader.specs.Scripts.{after_request, after_requests, is_divider, with_requests, script_from}
use Rattle.trace_reader.specs.declared.fault.LineCause.{LineCause}
use Rattle.trace_reader.specs.declared.fault.LineFault.{LineFault}
use Rattle.trace_reader.specs.declared.request.RequestLine.{RequestLine}

IsReadUpTo-earlier : {A : Type 0} (n : ℕ) (reading : Result A LineFault) → IsReadUpTo (suc n) reading → IsReadUpTo n reading
IsReadUpTo-earlier n (Ok x) h = tt
IsReadUpTo-earlier n (Err fault) h = omega (arith, h)

IsReadUpTo-at_line : {A B : Type 0} (n : ℕ) (one : Result A LineCause) (more : A → Result B LineFault) → ((x : A) → IsReadUpTo (suc n) (more x)) → IsReadUpTo n (at_line n one >>= more)
IsReadUpTo-at_line n (Ok x) more later = IsReadUpTo-earlier n (more x) (later x)
IsReadUpTo-at_line n (Err cause) more later = omega arith

pub IsReadUpTo-after_lines : (ops : List Operation) (n : ℕ) (lines : List (List ℕ)) → IsReadUpTo n (after_lines ops n lines)
IsReadUpTo-after_lines ops n [] = tt
IsReadUpTo-after_lines ops n (line ∷ lines) =
    IsReadUpTo-at_line n (after_line ops line) (λ after. after_lines after (suc n) lines) (λ after. IsReadUpTo-after_lines after (suc n) lines)

pub IsReadUpTo-after_requests : (lone : Bool) (requests : List RequestLine) (n : ℕ) (lines : List (List ℕ)) → IsReadUpTo n (after_requests lone requests n lines)
IsReadUpTo-after_requests lone requests n [] = tt
IsReadUpTo-after_requests lone requests n (line ∷ lines) =
    IsReadUpTo-at_line n (after_request lone requests line) (λ after. after_requests lone after (suc n) lines) (λ after. IsReadUpTo-after_requests lone after (suc n) lines)

pub IsReadUpTo-with_requests : (ops : List Operation) (n : ℕ) (reading : Result (List RequestLine) LineFault) → IsReadUpTo n reading → IsReadUpTo n (with_requests ops reading)
IsReadUpTo-with_requests ops n (Ok requests) h = tt
IsReadUpTo-with_requests ops n (Err fault) h = h

IsReadUpTo-if : {A : Type 0} (n : ℕ) (test : Bool) (r s : Result A LineFault) → IsReadUpTo n r → IsReadUpTo n s → IsReadUpTo n (if test then r else s)
IsReadUpTo-if n true r s h k = h
IsReadUpTo-if n false r s h k = k

pub IsReadUpTo-script_from : (lone : Bool) (ops : List Operation) (n : ℕ) (lines : List (List ℕ)) → IsReadUpTo n (script_from lone ops n lines)
IsReadUpTo-script_from lone ops n [] = tt
IsReadUpTo-script_from lone ops n (line ∷ lines) =
    IsReadUpTo-if n (is_divider line) (with_requests ops (after_requests lone [] (suc n) lines)) (at_line n (after_line ops line) >>= λ after. script_from lone after (suc n) lines)
    (IsReadUpTo-earlier n (with_requests ops (after_requests lone [] (suc n) lines)) (IsReadUpTo-with_requests ops (suc n) (after_requests lone [] (suc n) lines) (IsReadUpTo-after_requests lone [] (suc n) lines)))
    (IsReadUpTo-at_line n (after_line ops line) (λ after. script_from lone after (suc n) lines) (λ after. IsReadUpTo-script_from lone after (suc n) lines))
