-- The members of each operation, in the order in which reasons to skip it are tried (profile of this project). Its limits,
-- what it reads of a state and its line follow from them.
use Rattle.std.specs.Prelude.{ℕ, List, [], ◌∷◌, codes, Option, Some, None, if◌then◌else◌}
use Rattle.std.specs.Str.{bytes_eq}
use Rattle.trace_types.specs.declared.kinds.Field.{Field}
use Rattle.trace_types.specs.declared.kinds.Kind.{Kind}
use Rattle.trace_types.specs.declared.kinds.Kind.TheVariants as kind

-- what a member is: the number of a handle, also one that may be missing; of a cell; of a field; the elements of a new
-- object, among which `new_cyclic` alone may have `me`
pub data Value : Type 0 where
  Handle : (h : ℕ) → Value
  PerhapsHandle : (h : Option ℕ) → Value
  Cell : (c : ℕ) → Value
  Index : (i : ℕ) → Value
  Fields : (fields : List Field) → Value
  CyclicFields : (fields : List Field) → Value

-- a member, with its name
pub record Member : Type 0 where
  pub name : List ℕ
  pub value : Value

-- a handle's number, with the name of the member: `"from":3`
abbrev pub handle : List ℕ → ℕ → Member
handle name h = record { name = name; value = Handle h }

-- the same, where there may be none: the `to` of `cell_swap` alone
abbrev pub perhaps_handle : List ℕ → Option ℕ → Member
perhaps_handle name h = record { name = name; value = PerhapsHandle h }

-- a cell's number, which is always called `c`: `"c":0`
abbrev pub cell : ℕ → Member
cell c = record { name = codes "c"; value = Cell c }

-- a field's number, from 0, which is always called `i`: `"i":0`
abbrev pub index : ℕ → Member
index i = record { name = codes "i"; value = Index i }

-- the fields of an object that `new` makes: `"fields":[3,null]`
abbrev pub elements : List Field → Member
elements fields = record { name = codes "fields"; value = Fields fields }

-- the fields of an object that `new_cyclic` makes: `"fields":[3,"me"]`
abbrev pub cyclic_elements : List Field → Member
cyclic_elements fields = record { name = codes "fields"; value = CyclicFields fields }

-- the members of an operation
abbrev pub members : Kind → List Member
members (kind.New to fields) = handle (codes "to") to ∷ elements fields ∷ []
members (kind.NewCyclic to fields) = handle (codes "to") to ∷ cyclic_elements fields ∷ []
members (kind.NewFrom from to) = handle (codes "from") from ∷ handle (codes "to") to ∷ []
members (kind.WeakNew to) = handle (codes "to") to ∷ []
members (kind.Null to) = handle (codes "to") to ∷ []
members (kind.Clone from to) = handle (codes "from") from ∷ handle (codes "to") to ∷ []
members (kind.Drop h) = handle (codes "h") h ∷ []
members (kind.Downgrade from to) = handle (codes "from") from ∷ handle (codes "to") to ∷ []
members (kind.Upgrade from to) = handle (codes "from") from ∷ handle (codes "to") to ∷ []
members (kind.TryUnwrap h) = handle (codes "h") h ∷ []
members (kind.IntoInner h) = handle (codes "h") h ∷ []
members (kind.GetMut h) = handle (codes "h") h ∷ []
members (kind.MakeMut h) = handle (codes "h") h ∷ []
members (kind.Counts h) = handle (codes "h") h ∷ []
members (kind.PtrEq a b) = handle (codes "a") a ∷ handle (codes "b") b ∷ []
members (kind.Set h i from) = handle (codes "h") h ∷ index i ∷ handle (codes "from") from ∷ []
members (kind.Take h i to) = handle (codes "h") h ∷ index i ∷ handle (codes "to") to ∷ []
members (kind.Get h i to) = handle (codes "h") h ∷ index i ∷ handle (codes "to") to ∷ []
members (kind.CellNew c from) = cell c ∷ handle (codes "from") from ∷ []
members (kind.CellLoad c to) = cell c ∷ handle (codes "to") to ∷ []
members (kind.CellSwap c from to) = cell c ∷ handle (codes "from") from ∷ perhaps_handle (codes "to") to ∷ []
members (kind.CellCas c expected desired) = cell c ∷ handle (codes "expected") expected ∷ handle (codes "desired") desired ∷ []
members (kind.CellDrop c) = cell c ∷ []
members kind.ScopeEnd = []

-- the value of the member of that name, if there is one
abbrev pub value_of : List ℕ → List Member → Option Value
value_of name [] = None
value_of name (m ∷ ms) = if bytes_eq m.name name then Some m.value else value_of name ms
