-- Which handles operations may end, by what they name (profile of this project). What is moved out of a handle, or dropped with it,
-- ends it; a handle that is used, or that holds something else afterwards, stays where it stands in its scope.
use Rattle.std.specs.Prelude.{ℕ, ◌==◌, List, Bool, true, false}
use Rattle.std.specs.List.{list_any}
use Rattle.trace_types.specs.declared.kinds.Kind.{Kind}
use Rattle.trace_types.specs.declared.kinds.Kind.TheVariants as kind
use Rattle.trace_types.specs.Operation.{Operation}
use Rattle.ownership_model.specs.Reach.{has}
use Rattle.ownership_model.specs.View.{held_fields}

-- whether an operation of this kind may end a handle; the end of a scope may end any
abbrev pub may_end : Kind → ℕ → Bool
may_end (kind.New to fields) h = has h (held_fields fields)
may_end (kind.NewCyclic to fields) h = has h (held_fields fields)
may_end (kind.NewFrom from to) h = from == h
may_end (kind.WeakNew to) h = false
may_end (kind.Null to) h = false
may_end (kind.Clone from to) h = false
may_end (kind.Drop g) h = g == h
may_end (kind.Downgrade from to) h = false
may_end (kind.Upgrade from to) h = false
may_end (kind.TryUnwrap g) h = false
may_end (kind.IntoInner g) h = false
may_end (kind.GetMut g) h = false
may_end (kind.MakeMut g) h = false
may_end (kind.Counts g) h = false
may_end (kind.PtrEq a b) h = false
may_end (kind.Set g i from) h = from == h
may_end (kind.Take g i to) h = false
may_end (kind.Get g i to) h = false
may_end (kind.CellNew c from) h = from == h
may_end (kind.CellLoad c to) h = false
may_end (kind.CellSwap c from to) h = from == h
may_end (kind.CellCas c expected desired) h = desired == h
may_end (kind.CellDrop c) h = false
may_end kind.ScopeEnd h = true

-- whether one of the operations may end one of the handles
abbrev pub may_end_any : List Operation → List ℕ → Bool
may_end_any ops handles = list_any (λ (op : Operation). list_any (may_end op.kind) handles) ops
