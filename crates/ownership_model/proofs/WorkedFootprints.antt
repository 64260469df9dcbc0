-- Worked footprints: what each operation of a trace touches, and what it moves or copies beside, found by computation. A footprint that
-- leaves a key out, or has one too many, is refused here.
use Rattle.std.specs.Prelude.{◌≡◌, List, [], ◌∷◌}
use Rattle.trace_types.specs.declared.kinds.Field.TheVariants as field
use Rattle.trace_types.specs.declared.kinds.Kind.TheVariants as kind
use Rattle.trace_types.specs.Operation.{Operation}
use Rattle.ownership_model.specs.declared.key.Key.{Key}
use Rattle.ownership_model.specs.declared.key.Key.TheVariants.{Handle, Cell, Object, Scope}
use Rattle.ownership_model.specs.State.{nothing_held}
use Rattle.ownership_model.proofs.ListedKeys.{Keys, each_from, keyed}
use Rattle.ownership_model.proofs.Worked.{op, by}

abbrev keys : List Key → List Key → Keys
keys touched moved = record { touched = touched; moved = moved }

-- The operation's own number, which it makes; a handle that isn't held; a count that is told; all that a drop destroys or frees, where an
-- allocation that a Weak keeps is touched as well
abbrev drops_trace : List Operation
drops_trace =
    op 1 (kind.New 0 []) ∷
    op 2 (kind.New 1 (field.Held 0 ∷ [])) ∷
    op 3 (kind.Downgrade 1 2) ∷
    op 4 (kind.Drop 1) ∷
    op 5 (kind.Drop 7) ∷
    op 6 (kind.Upgrade 2 3) ∷
    []

pub drops_touch : each_from nothing_held drops_trace ≡
    keys (Handle 0 ∷ Object 1 ∷ Handle 0 ∷ Object 1 ∷ []) (Object 1 ∷ []) ∷
    keys (Handle 1 ∷ Handle 0 ∷ Handle 0 ∷ Object 2 ∷ Handle 1 ∷ Object 2 ∷ []) (Object 1 ∷ Object 1 ∷ Object 2 ∷ []) ∷
    keys (Handle 1 ∷ Handle 2 ∷ Object 2 ∷ Handle 2 ∷ Object 2 ∷ []) (Object 2 ∷ []) ∷
    keys (Handle 1 ∷ Object 2 ∷ Handle 1 ∷ Object 2 ∷ Object 1 ∷ Object 1 ∷ Object 2 ∷ Object 2 ∷ []) (Object 2 ∷ []) ∷
    keys (Handle 7 ∷ []) [] ∷
    keys (Handle 2 ∷ Handle 3 ∷ Object 2 ∷ Handle 3 ∷ Object 2 ∷ []) [] ∷
    []
drops_touch = keyed drops_trace

-- a cell, what it holds, and what is dropped in a failed exchange
abbrev cells_trace : List Operation
cells_trace =
    op 1 (kind.New 0 []) ∷
    op 2 (kind.CellNew 5 0) ∷
    op 3 (kind.CellLoad 5 1) ∷
    op 4 (kind.Null 2) ∷
    op 5 (kind.CellCas 5 2 1) ∷
    op 6 (kind.CellDrop 5) ∷
    []

pub cells_touch : each_from nothing_held cells_trace ≡
    keys (Handle 0 ∷ Object 1 ∷ Handle 0 ∷ Object 1 ∷ []) (Object 1 ∷ []) ∷
    keys (Handle 0 ∷ Cell 5 ∷ Object 1 ∷ Handle 0 ∷ Cell 5 ∷ Object 1 ∷ []) (Object 1 ∷ Object 1 ∷ []) ∷
    keys (Handle 1 ∷ Cell 5 ∷ Handle 1 ∷ Object 1 ∷ []) (Object 1 ∷ []) ∷
    keys (Handle 2 ∷ Handle 2 ∷ []) [] ∷
    keys (Handle 2 ∷ Handle 1 ∷ Cell 5 ∷ Handle 2 ∷ Handle 1 ∷ Object 1 ∷ Object 1 ∷ []) (Object 1 ∷ Object 1 ∷ []) ∷
    keys (Cell 5 ∷ Cell 5 ∷ Object 1 ∷ Object 1 ∷ []) (Object 1 ∷ []) ∷
    []
cells_touch = keyed cells_trace

-- the end of a scope: its label's list, each handle of it and what these held, and nothing of another label; a handle that enters a scope
-- touches no other handle of it
abbrev scopes_trace : List Operation
scopes_trace =
    by 7 1 (kind.New 0 []) ∷
    by 8 2 (kind.Clone 0 1) ∷
    by 7 3 (kind.Null 2) ∷
    by 7 4 kind.ScopeEnd ∷
    by 8 5 kind.ScopeEnd ∷
    []

pub scopes_touch : each_from nothing_held scopes_trace ≡
    keys (Handle 0 ∷ Object 1 ∷ Handle 0 ∷ Object 1 ∷ []) (Object 1 ∷ []) ∷
    keys (Handle 0 ∷ Handle 1 ∷ Object 1 ∷ Handle 1 ∷ Object 1 ∷ []) (Object 1 ∷ []) ∷
    keys (Handle 2 ∷ Handle 2 ∷ []) [] ∷
    keys (Scope 7 ∷ Handle 2 ∷ Handle 0 ∷ Handle 2 ∷ Handle 0 ∷ Object 1 ∷ []) (Object 1 ∷ []) ∷
    keys (Scope 8 ∷ Handle 1 ∷ Handle 1 ∷ Object 1 ∷ Object 1 ∷ []) (Object 1 ∷ []) ∷
    []
scopes_touch = keyed scopes_trace

-- a field is a part of its object; what is moved into it, or out of an allocation with a value, is moved and not touched
abbrev fields_trace : List Operation
fields_trace =
    op 1 (kind.New 0 (field.Null ∷ [])) ∷
    op 2 (kind.New 1 []) ∷
    op 3 (kind.Set 0 0 1) ∷
    op 4 (kind.MakeMut 0) ∷
    op 5 (kind.TryUnwrap 0) ∷
    []

pub fields_touch : each_from nothing_held fields_trace ≡
    keys (Handle 0 ∷ Object 1 ∷ Handle 0 ∷ Object 1 ∷ []) (Object 1 ∷ []) ∷
    keys (Handle 1 ∷ Object 2 ∷ Handle 1 ∷ Object 2 ∷ []) (Object 2 ∷ []) ∷
    keys (Handle 0 ∷ Handle 1 ∷ Object 1 ∷ Handle 1 ∷ Object 1 ∷ Object 1 ∷ []) (Object 2 ∷ Object 2 ∷ []) ∷
    keys (Handle 0 ∷ Object 1 ∷ Object 1 ∷ []) [] ∷
    keys (Handle 0 ∷ Object 1 ∷ Object 1 ∷ Handle 0 ∷ Object 1 ∷ Object 1 ∷ []) (Object 2 ∷ Object 2 ∷ Object 1 ∷ []) ∷
    []
fields_touch = keyed fields_trace
