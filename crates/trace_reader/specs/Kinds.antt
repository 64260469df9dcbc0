-- The members of each operation, in the order in which they are tried (profile of this project). Members that aren't named
-- are ignored.
use Rattle.std.specs.Prelude.{ℕ, List, codes, Bool, true, false, Result, Ok}
use Rattle.serde_json.specs.Data.{Data}
use Rattle.trace_types.specs.declared.kinds.Field.{Field}
use Rattle.trace_types.specs.declared.kinds.Kind.{Kind}
use Rattle.trace_types.specs.declared.kinds.Kind.TheVariants as kind
use Rattle.trace_types.specs.declared.limits.TheConstants.{MAX_INDEX}
use Rattle.trace_types.specs.declared.names.OpName.{OpName}
use Rattle.trace_types.specs.declared.names.OpName.TheVariants.{New, NewCyclic, NewFrom, WeakNew, Null, Clone, Drop, Downgrade, Upgrade, TryUnwrap, IntoInner, GetMut, MakeMut, Counts, PtrEq, Set, Take, Get, CellNew, CellLoad, CellSwap, CellCas, CellDrop, ScopeEnd}
use Rattle.trace_reader.specs.declared.fault.LineCause.{LineCause}
use Rattle.trace_reader.specs.Members.{◌>>=◌, number_at, handle_at, perhaps_handle_at, fields_at}

-- one handle or cell
unfoldable pub one_at : List ℕ → (ℕ → Kind) → Data → Result Kind LineCause
one_at name make d = do
  x ← handle_at name d
  Ok (make x)

-- two of them
unfoldable pub two_at : List ℕ → List ℕ → (ℕ → ℕ → Kind) → Data → Result Kind LineCause
two_at first second make d = do
  x ← handle_at first d
  y ← handle_at second d
  Ok (make x y)

-- three of them
unfoldable pub three_at : List ℕ → List ℕ → List ℕ → (ℕ → ℕ → ℕ → Kind) → Data → Result Kind LineCause
three_at first second third make d = do
  x ← handle_at first d
  y ← handle_at second d
  z ← handle_at third d
  Ok (make x y z)

-- a handle, the index of one of its fields, and another handle
unfoldable pub field_at : List ℕ → (ℕ → ℕ → ℕ → Kind) → Data → Result Kind LineCause
field_at other make d = do
  h ← handle_at (codes "h") d
  i ← number_at (codes "i") 0 MAX_INDEX d
  x ← handle_at other d
  Ok (make h i x)

-- the handle of a new object, and its fields, which may be `me` where it is cyclic
unfoldable pub made_at : Bool → (ℕ → List Field → Kind) → Data → Result Kind LineCause
made_at cyclic make d = do
  to ← handle_at (codes "to") d
  fields ← fields_at cyclic d
  Ok (make to fields)

-- a cell, a handle, and a handle that may be left out
unfoldable pub swap_at : Data → Result Kind LineCause
swap_at d = do
  c ← handle_at (codes "c") d
  from ← handle_at (codes "from") d
  to ← perhaps_handle_at (codes "to") d
  Ok (kind.CellSwap c from to)

-- what an operation of that name does
abbrev pub kind_of : OpName → Data → Result Kind LineCause
kind_of New d = made_at false kind.New d
kind_of NewCyclic d = made_at true kind.NewCyclic d
kind_of NewFrom d = two_at (codes "from") (codes "to") kind.NewFrom d
kind_of WeakNew d = one_at (codes "to") kind.WeakNew d
kind_of Null d = one_at (codes "to") kind.Null d
kind_of Clone d = two_at (codes "from") (codes "to") kind.Clone d
kind_of Drop d = one_at (codes "h") kind.Drop d
kind_of Downgrade d = two_at (codes "from") (codes "to") kind.Downgrade d
kind_of Upgrade d = two_at (codes "from") (codes "to") kind.Upgrade d
kind_of TryUnwrap d = one_at (codes "h") kind.TryUnwrap d
kind_of IntoInner d = one_at (codes "h") kind.IntoInner d
kind_of GetMut d = one_at (codes "h") kind.GetMut d
kind_of MakeMut d = one_at (codes "h") kind.MakeMut d
kind_of Counts d = one_at (codes "h") kind.Counts d
kind_of PtrEq d = two_at (codes "a") (codes "b") kind.PtrEq d
kind_of Set d = field_at (codes "from") kind.Set d
kind_of Take d = field_at (codes "to") kind.Take d
kind_of Get d = field_at (codes "to") kind.Get d
kind_of CellNew d = two_at (codes "c") (codes "from") kind.CellNew d
kind_of CellLoad d = two_at (codes "c") (codes "to") kind.CellLoad d
kind_of CellSwap d = swap_at d
kind_of CellCas d = three_at (codes "c") (codes "expected") (codes "desired") kind.CellCas d
kind_of CellDrop d = one_at (codes "c") kind.CellDrop d
kind_of ScopeEnd d = Ok kind.ScopeEnd
