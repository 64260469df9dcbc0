-- Which trace a text is with the requests that follow it, or which fault its first faulty line has (profile of this project).
use Rattle.std.specs.Prelude.{ℕ, suc, List, [], ◌∷◌, ◌++◌, length, codes, Bool, ◌&&◌, nat_lt, if◌then◌else◌, Result, Ok, Err}
use Rattle.std.specs.Str.{bytes_eq}
use Rattle.trace_types.specs.Operation.{Operation}
use Rattle.trace_types.specs.declared.limits.TheConstants.{MAX_LINE}
use Rattle.trace_reader.specs.declared.fault.LineCause.{LineCause}
use Rattle.trace_reader.specs.declared.fault.LineCause.TheVariants.{LineTooLong, TooMany}
use Rattle.trace_reader.specs.declared.fault.LineFault.{LineFault}
use Rattle.trace_reader.specs.declared.request.RequestLine.{RequestLine}
use Rattle.trace_reader.specs.declared.script.Script.{Script}
use Rattle.trace_reader.specs.Members.{◌>>=◌}
use Rattle.trace_reader.specs.Reading.{json_of, is_blank, after_line, lines_of, at_line}
use Rattle.trace_reader.specs.Requests.{read_request}

-- the requests with one more, of which there may be one alone
abbrev pub joined : Bool → List RequestLine → RequestLine → Result (List RequestLine) LineCause
joined lone requests request = if lone && nat_lt 0 (length requests) then Err TooMany else Ok (requests ++ request ∷ [])

-- the requests after a line
unfoldable pub after_request : Bool → List RequestLine → List ℕ → Result (List RequestLine) LineCause
after_request lone requests line = if nat_lt MAX_LINE (length line) then Err LineTooLong else (if is_blank line then Ok requests else (json_of line >>= read_request >>= λ request. joined lone requests request))

-- the requests after these lines, the first of which has number n
abbrev pub after_requests : Bool → List RequestLine → ℕ → List (List ℕ) → Result (List RequestLine) LineFault
after_requests lone requests n [] = Ok requests
after_requests lone requests n (line ∷ lines) = at_line n (after_request lone requests line) >>= λ after. after_requests lone after (suc n) lines

-- the line between a trace and its requests
abbrev pub is_divider : List ℕ → Bool
is_divider line = bytes_eq line (codes "--")

-- the trace with the requests that follow it, or the first fault of these
abbrev pub with_requests : List Operation → Result (List RequestLine) LineFault → Result Script LineFault
with_requests ops reading = reading >>= λ requests. Ok (record { trace = ops; requests = requests })

-- what these lines say after the operations, the first of which has number n. Without a divider there are no requests
abbrev pub script_from : Bool → List Operation → ℕ → List (List ℕ) → Result Script LineFault
script_from lone ops n [] = Ok (record { trace = ops; requests = [] })
script_from lone ops n (line ∷ lines) = if is_divider line then with_requests ops (after_requests lone [] (suc n) lines) else (at_line n (after_line ops line) >>= λ after. script_from lone after (suc n) lines)

-- the trace and the requests that a text is, or its first fault. Where a request is to be alone, another is one too many
abbrev pub read_script : Bool → List ℕ → Result Script LineFault
read_script lone bytes = script_from lone [] 1 (lines_of bytes)
