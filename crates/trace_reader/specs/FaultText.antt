-- The text of a fault (profile of this project).
use Rattle.std.specs.Prelude.{ℕ, List, ◌++◌, codes, decimal}
use Rattle.trace_reader.specs.declared.fault.LineCause.{LineCause}
use Rattle.trace_reader.specs.declared.fault.LineCause.TheVariants.{LineTooLong, NotJson, NotObject, Missing, WrongType, UnknownOp, OutOfRange, IdTaken, TooMany, Memory}
use Rattle.trace_reader.specs.declared.fault.LineFault.{LineFault}

-- the name of a cause, as the line of a fault has it: `OutOfRange`
abbrev pub cause_text : LineCause → List ℕ
cause_text LineTooLong = codes "LineTooLong"
cause_text NotJson = codes "NotJson"
cause_text NotObject = codes "NotObject"
cause_text Missing = codes "Missing"
cause_text WrongType = codes "WrongType"
cause_text UnknownOp = codes "UnknownOp"
cause_text OutOfRange = codes "OutOfRange"
cause_text IdTaken = codes "IdTaken"
cause_text TooMany = codes "TooMany"
cause_text Memory = codes "Memory"

-- the line that tells a fault, without its newline
abbrev pub fault_text : LineFault → List ℕ
fault_text f = codes "fault line " ++ decimal f.line ++ codes " " ++ cause_text f.cause
