-- What may be due for a race.
use Rattle.std.proofs.Common.{◌≡◌, ◌≢◌, ℕ, List, [], length, false, Result, Ok, Err, IfOk, OnOk, refl, sym, subst}
use Rattle.std.specs.Prelude.{slice_index_or}
use Rattle.trace_types.specs.Operation.{Operation}
use Rattle.trace_reader.specs.declared.fault.LineCause.TheVariants as LineCause
use Rattle.trace_reader.specs.declared.fault.LineFault.{LineFault}
use Rattle.trace_reader.specs.declared.request.RequestLine.{RequestLine}
use Rattle.trace_reader.specs.declared.script.Script.{Script}
use Rattle.trace_reader.specs.Scripts.{read_script}
use Rattle.edit_desk.specs.declared.entries.Entry.{Entry}
use Rattle.edit_desk.specs.declared.entries.Request.{Request}
use Rattle.live_sessions.specs.Races.{asked_by, AreAsked}
use Rattle.command_serve.specs.declared.due.Due.{Due}
use Rattle.command_serve.specs.Serve.{fault_due}
use Rattle.command_race.specs.Race.{requests_of, IsRaced, race_text, IsRaceText, IsRaceAnswer, IsRaceDue}

abbrev pub race_due : List Operation → List Entry → Due
race_due trace h = record { text = race_text trace h; is_fault = false }

-- the requests of each session's lines
pub raced_lines : (trace : List Operation) (lines : List RequestLine) (requests : List (List Request)) (text : List ℕ) → ((s : ℕ) → slice_index_or requests s [] ≡ requests_of s lines)
    → IsRaceText trace requests text → (h : List Entry) × IsRaced trace lines h × (text ≡ race_text trace h)
raced_lines trace lines requests text each is = (
  is.0,
  record {
    legal = is.1;
    asked = λ s. subst (λ (x : List Request). AreAsked x (asked_by s is.0) (length is.0)) (each s) (is.2 s);
  },
  is.3,
)

-- a race over what was read
pub may_race : (input : List ℕ) (script : Script) (h : List Entry) → read_script false input ≡ Ok script → IsRaced script.trace script.requests h → IsRaceDue input (race_due script.trace h)
unfolding IsRaceDue
may_race input script h is raced = subst (λ r. IsRaceAnswer r (race_due script.trace h)) (sym is) (h, raced, refl)

-- the first fault
may_fault : (input : List ℕ) (fault : LineFault) → read_script false input ≡ Err fault → IsRaceDue input (fault_due fault)
unfolding IsRaceDue
may_fault input fault is = subst (λ r. IsRaceAnswer r (fault_due fault)) (sym is) refl

-- the line that tells it, where memory did not run out there
pub may_tell : {E : Type 0} (input : List ℕ) (fault : LineFault) (made : Result Due E) → IfOk made (λ d. d ≡ fault_due fault) → OnOk made (fault.cause ≢ LineCause.Memory)
    → (fault.cause ≢ LineCause.Memory → read_script false input ≡ Err fault) → IfOk made (IsRaceDue input)
may_tell input fault (Ok d) is cause read = subst (IsRaceDue input) (sym is) (may_fault input fault (read cause))
may_tell input fault (Err e) is cause read = tt
