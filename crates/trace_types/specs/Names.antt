-- The names of the operations (profile of this project).
use Rattle.std.specs.Prelude.{List, ℕ, codes, Option, Some, None, if◌then◌else◌}
use Rattle.std.specs.Str.{bytes_eq}
use Rattle.trace_types.specs.declared.kinds.Kind.{Kind}
use Rattle.trace_types.specs.declared.kinds.Kind.TheVariants as kind
use Rattle.trace_types.specs.declared.names.OpName.{OpName}
use Rattle.trace_types.specs.declared.names.OpName.TheVariants.{New, NewCyclic, NewFrom, WeakNew, Null, Clone, Drop, Downgrade, Upgrade, TryUnwrap, IntoInner, GetMut, MakeMut, Counts, PtrEq, Set, Take, Get, CellNew, CellLoad, CellSwap, CellCas, CellDrop, ScopeEnd}

-- how a name is written
abbrev pub name_text : OpName → List ℕ
name_text New = codes "new"
name_text NewCyclic = codes "new_cyclic"
name_text NewFrom = codes "new_from"
name_text WeakNew = codes "weak_new"
name_text Null = codes "null"
name_text Clone = codes "clone"
name_text Drop = codes "drop"
name_text Downgrade = codes "downgrade"
name_text Upgrade = codes "upgrade"
name_text TryUnwrap = codes "try_unwrap"
name_text IntoInner = codes "into_inner"
name_text GetMut = codes "get_mut"
name_text MakeMut = codes "make_mut"
name_text Counts = codes "counts"
name_text PtrEq = codes "ptr_eq"
name_text Set = codes "set"
name_text Take = codes "take"
name_text Get = codes "get"
name_text CellNew = codes "cell_new"
name_text CellLoad = codes "cell_load"
name_text CellSwap = codes "cell_swap"
name_text CellCas = codes "cell_cas"
name_text CellDrop = codes "cell_drop"
name_text ScopeEnd = codes "scope_end"

-- the operation of that name
unfoldable pub name_of : List ℕ → Option OpName
name_of text = if bytes_eq text (codes "new") then Some New else (if bytes_eq text (codes "new_cyclic") then Some NewCyclic else (if bytes_eq text (codes "new_from") then Some NewFrom else (if bytes_eq text (codes "weak_new") then Some WeakNew else (if bytes_eq text (codes "null") then Some Null else (if bytes_eq text (codes "clone") then Some Clone else (if bytes_eq text (codes "drop") then Some Drop else (if bytes_eq text (codes "downgrade") then Some Downgrade else (if bytes_eq text (codes "upgrade") then Some Upgrade else (if bytes_eq text (codes "try_unwrap") then Some TryUnwrap else (if bytes_eq text (codes "into_inner") then Some IntoInner else (if bytes_eq text (codes "get_mut") then Some GetMut else (if bytes_eq text (codes "make_mut") then Some MakeMut else (if bytes_eq text (codes "counts") then Some Counts else (if bytes_eq text (codes "ptr_eq") then Some PtrEq else (if bytes_eq text (codes "set") then Some Set else (if bytes_eq text (codes "take") then Some Take else (if bytes_eq text (codes "get") then Some Get else (if bytes_eq text (codes "cell_new") then Some CellNew else (if bytes_eq text (codes "cell_load") then Some CellLoad else (if bytes_eq text (codes "cell_swap") then Some CellSwap else (if bytes_eq text (codes "cell_cas") then Some CellCas else (if bytes_eq text (codes "cell_drop") then Some CellDrop else (if bytes_eq text (codes "scope_end") then Some ScopeEnd else (None))))))))))))))))))))))))

-- the name of an operation
abbrev pub name_of_kind : Kind → OpName
name_of_kind (kind.New to fields) = New
name_of_kind (kind.NewCyclic to fields) = NewCyclic
name_of_kind (kind.NewFrom from to) = NewFrom
name_of_kind (kind.WeakNew to) = WeakNew
name_of_kind (kind.Null to) = Null
name_of_kind (kind.Clone from to) = Clone
name_of_kind (kind.Drop h) = Drop
name_of_kind (kind.Downgrade from to) = Downgrade
name_of_kind (kind.Upgrade from to) = Upgrade
name_of_kind (kind.TryUnwrap h) = TryUnwrap
name_of_kind (kind.IntoInner h) = IntoInner
name_of_kind (kind.GetMut h) = GetMut
name_of_kind (kind.MakeMut h) = MakeMut
name_of_kind (kind.Counts h) = Counts
name_of_kind (kind.PtrEq a b) = PtrEq
name_of_kind (kind.Set h i from) = Set
name_of_kind (kind.Take h i to) = Take
name_of_kind (kind.Get h i to) = Get
name_of_kind (kind.CellNew c from) = CellNew
name_of_kind (kind.CellLoad c to) = CellLoad
name_of_kind (kind.CellSwap c from to) = CellSwap
name_of_kind (kind.CellCas c expected desired) = CellCas
name_of_kind (kind.CellDrop c) = CellDrop
name_of_kind kind.ScopeEnd = ScopeEnd
