-- Which request a line is: the version it was made for, the session that made it, and its edits (profile of this project).
use Rattle.std.specs.Prelude.{ℕ, List, [], ◌∷◌, ◌++◌, codes, if◌then◌else◌, Option, Some, None, Result, Ok, Err}
use Rattle.std.specs.Str.{bytes_eq}
use Rattle.serde_json.specs.Data.{Data, Items, no_items, item}
use Rattle.serde_json.specs.Find.{get, as_array, as_object}
use Rattle.trace_types.specs.Operation.{Operation}
use Rattle.trace_types.specs.declared.edits.Edit.{Edit}
use Rattle.trace_types.specs.declared.edits.Edit.TheVariants.{Insert, Remove, Change}
use Rattle.trace_types.specs.declared.limits.TheConstants.{MAX_ID, MAX_SESSION, MAX_VERSION}
use Rattle.trace_reader.specs.declared.fault.LineCause.{LineCause}
use Rattle.trace_reader.specs.declared.fault.LineCause.TheVariants.{NotObject, Missing, WrongType, UnknownOp}
use Rattle.trace_reader.specs.declared.request.RequestLine.{RequestLine}
use Rattle.trace_reader.specs.Members.{◌>>=◌, number_at, text_at}
use Rattle.trace_reader.specs.Reading.{on_object, members_of_op}

-- ---- an edit

-- the operation that a member is, or its first fault; None is a missing member
abbrev pub op_in : Option Data → Result Operation LineCause
op_in None = Err Missing
op_in (Some d) = on_object WrongType (as_object d) (members_of_op d)

-- the member `op`, an operation as a trace's line has it
unfoldable pub op_at : Data → Result Operation LineCause
op_at d = op_in (get (codes "op") d)

-- the number of an operation of the trace
abbrev pub id_at : Data → Result ℕ LineCause
id_at d = number_at (codes "id") 1 MAX_ID d

-- `insert`: the number of the operation to stand behind, 0 for the front, and the operation that comes
unfoldable pub insert_at : Data → Result Edit LineCause
insert_at d = do
  after ← number_at (codes "after") 0 MAX_ID d
  op ← op_at d
  Ok (Insert after op)

-- `remove`: the number of the operation that goes
unfoldable pub remove_at : Data → Result Edit LineCause
remove_at d = do
  id ← id_at d
  Ok (Remove id)

-- `change`: the number of the operation that goes, and the one that takes its place
unfoldable pub change_at : Data → Result Edit LineCause
change_at d = do
  id ← id_at d
  op ← op_at d
  Ok (Change id op)

-- the edit of that name, with its members; another text is `UnknownOp`
unfoldable pub edit_named : List ℕ → Data → Result Edit LineCause
edit_named name d = if bytes_eq name (codes "insert") then insert_at d else (if bytes_eq name (codes "remove") then remove_at d else (if bytes_eq name (codes "change") then change_at d else Err UnknownOp))

-- the member `edit`, and then the members of the edit that it names
unfoldable pub members_of_edit : Data → Result Edit LineCause
members_of_edit d = do
  name ← text_at (codes "edit") d
  edit_named name d

-- the edit that an element of `edits` is, or its first fault; what is no object is of the wrong type
unfoldable pub edit_of : Data → Result Edit LineCause
edit_of d = on_object WrongType (as_object d) (members_of_edit d)

-- the edits, after those that were read
abbrev pub edits_from : List Edit → Items → Result (List Edit) LineCause
edits_from done no_items = Ok done
edits_from done (item d ds) = edit_of d >>= λ e. edits_from (done ++ e ∷ []) ds

-- the edits of an array, or the first fault; what is no array is of the wrong type
abbrev pub edits_of : Option Items → Result (List Edit) LineCause
edits_of None = Err WrongType
edits_of (Some ds) = edits_from [] ds

-- the edits that a member is, or the first fault; None is a missing member
abbrev pub edits_in : Option Data → Result (List Edit) LineCause
edits_in None = Err Missing
edits_in (Some d) = edits_of (as_array d)

-- the member `edits`; whether there are none or too many of them is not asked here
unfoldable pub edits_at : Data → Result (List Edit) LineCause
edits_at d = edits_in (get (codes "edits") d)

-- ---- a request

-- the members `base`, `session` and `edits`, in this order
unfoldable pub members_of_request : Data → Result RequestLine LineCause
members_of_request d = do
  base ← number_at (codes "base") 0 MAX_VERSION d
  session ← number_at (codes "session") 0 MAX_SESSION d
  batch ← edits_at d
  Ok (record { base = base; session = session; batch = batch })

-- the request that a value is, or its first fault
unfoldable pub read_request : Data → Result RequestLine LineCause
read_request d = on_object NotObject (as_object d) (members_of_request d)
