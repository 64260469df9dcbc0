-- Worked traces: the outcome of each operation, found by computation.
use Rattle.std.specs.Prelude.{ℕ, ◌≡◌, List, [], ◌∷◌, Some, None}
use Rattle.trace_types.specs.declared.kinds.Field.TheVariants as field
use Rattle.trace_types.specs.declared.kinds.Kind.{Kind}
use Rattle.trace_types.specs.declared.kinds.Kind.TheVariants as kind
use Rattle.trace_types.specs.declared.outcomes.Answer.{Answer}
use Rattle.trace_types.specs.declared.outcomes.Answer.TheVariants as answer
use Rattle.trace_types.specs.declared.outcomes.Event.{Event}
use Rattle.trace_types.specs.declared.outcomes.Event.TheVariants as event
use Rattle.trace_types.specs.declared.outcomes.Reason.{Reason}
use Rattle.trace_types.specs.declared.outcomes.Reason.TheVariants.{SameName, NotHeld, NoCell, WrongKind, NoField, AlreadyHeld, CellHeld}
use Rattle.trace_types.specs.declared.outcomes.Outcome.{Outcome}
use Rattle.trace_types.specs.declared.outcomes.Verdict.TheVariants.{Did, Skipped}
use Rattle.trace_types.specs.Operation.{Operation}
use Rattle.ownership_model.specs.State.{nothing_held}
use Rattle.ownership_model.specs.Step.{outcomes_from}
use Rattle.ownership_model.proofs.ListedLemmas.{replayed}

abbrev pub op : ℕ → Kind → Operation
op id k = record { id = id; thread = 0; kind = k }

abbrev pub by : ℕ → ℕ → Kind → Operation
by t id k = record { id = id; thread = t; kind = k }

abbrev skipped : ℕ → Reason → Outcome
skipped id r = record { id = id; verdict = Skipped r; events = []; counts = None }

abbrev did : ℕ → Answer → List Event → Outcome
did id a es = record { id = id; verdict = Did a; events = es; counts = None }

abbrev counted : ℕ → Answer → List Event → ℕ → ℕ → ℕ → Outcome
counted id a es o s w = record { id = id; verdict = Did a; events = es; counts = Some (record { object = o; strong = s; weak = w }) }

abbrev new_cyclic_trace : List Operation
new_cyclic_trace =
    op 1 (kind.NewCyclic 0 (field.Me ∷ [])) ∷
    op 2 (kind.Drop 0) ∷
    []

pub new_cyclic : outcomes_from nothing_held new_cyclic_trace ≡
    counted 1 answer.Made [] 1 1 1 ∷
    counted 2 answer.Done (event.Destroyed 1 ∷ event.Freed 1 ∷ []) 1 0 0 ∷
    []
new_cyclic = replayed new_cyclic_trace

abbrev make_mut_trace : List Operation
make_mut_trace =
    op 1 (kind.New 0 []) ∷
    op 2 (kind.Clone 0 1) ∷
    op 3 (kind.MakeMut 0) ∷
    op 4 (kind.Downgrade 0 2) ∷
    op 5 (kind.MakeMut 0) ∷
    op 6 (kind.Upgrade 2 3) ∷
    op 7 (kind.MakeMut 0) ∷
    []

pub make_mut : outcomes_from nothing_held make_mut_trace ≡
    counted 1 answer.Made [] 1 1 0 ∷
    counted 2 answer.Done [] 1 2 0 ∷
    counted 3 answer.Cloned [] 3 1 0 ∷
    counted 4 answer.Done [] 3 1 1 ∷
    counted 5 answer.Moved (event.Moved 3 ∷ []) 5 1 0 ∷
    counted 6 answer.No [] 3 0 1 ∷
    counted 7 answer.Unique [] 5 1 0 ∷
    []
make_mut = replayed make_mut_trace

abbrev atomic_cells_trace : List Operation
atomic_cells_trace =
    op 1 (kind.New 0 []) ∷
    op 2 (kind.Clone 0 1) ∷
    op 3 (kind.CellNew 0 1) ∷
    op 4 (kind.New 2 []) ∷
    op 5 (kind.CellCas 0 0 2) ∷
    op 6 (kind.New 3 []) ∷
    op 7 (kind.CellCas 0 0 3) ∷
    op 8 (kind.Null 4) ∷
    op 9 (kind.Null 5) ∷
    op 10 (kind.CellCas 0 4 5) ∷
    op 11 (kind.CellDrop 0) ∷
    []

pub atomic_cells : outcomes_from nothing_held atomic_cells_trace ≡
    counted 1 answer.Made [] 1 1 0 ∷
    counted 2 answer.Done [] 1 2 0 ∷
    counted 3 answer.Done [] 1 2 0 ∷
    counted 4 answer.Made [] 4 1 0 ∷
    counted 5 answer.Yes [] 4 1 0 ∷
    counted 6 answer.Made [] 6 1 0 ∷
    counted 7 answer.No (event.Destroyed 1 ∷ event.Freed 1 ∷ event.Destroyed 6 ∷ event.Freed 6 ∷ []) 4 2 0 ∷
    did 8 answer.Done [] ∷
    did 9 answer.Done [] ∷
    counted 10 answer.No [] 4 3 0 ∷
    counted 11 answer.Done [] 4 2 0 ∷
    []
atomic_cells = replayed atomic_cells_trace

abbrev bare_values_trace : List Operation
bare_values_trace =
    op 1 (kind.New 0 (field.Null ∷ [])) ∷
    op 2 (kind.TryUnwrap 0) ∷
    op 3 (kind.New 1 []) ∷
    op 4 (kind.Set 0 0 1) ∷
    op 5 (kind.NewFrom 0 2) ∷
    op 6 (kind.Get 2 0 3) ∷
    op 7 (kind.Counts 3) ∷
    op 8 (kind.Take 2 0 4) ∷
    op 9 (kind.Counts 4) ∷
    op 10 (kind.Drop 3) ∷
    op 11 (kind.Drop 4) ∷
    op 12 (kind.Drop 2) ∷
    []

pub bare_values : outcomes_from nothing_held bare_values_trace ≡
    counted 1 answer.Made [] 1 1 0 ∷
    counted 2 answer.Yes (event.Unwrapped 1 ∷ event.Freed 1 ∷ []) 1 0 0 ∷
    counted 3 answer.Made [] 3 1 0 ∷
    did 4 answer.Done [] ∷
    counted 5 answer.Made [] 5 1 0 ∷
    counted 6 answer.Done [] 5 1 0 ∷
    counted 7 answer.Done [] 3 2 0 ∷
    counted 8 answer.Done [] 5 1 0 ∷
    counted 9 answer.Done [] 3 2 0 ∷
    counted 10 answer.Done [] 3 1 0 ∷
    counted 11 answer.Done (event.Destroyed 3 ∷ event.Freed 3 ∷ []) 3 0 0 ∷
    counted 12 answer.Done (event.Destroyed 5 ∷ event.Freed 5 ∷ []) 5 0 0 ∷
    []
bare_values = replayed bare_values_trace

abbrev cell_swaps_trace : List Operation
cell_swaps_trace =
    op 1 (kind.New 0 []) ∷
    op 2 (kind.CellNew 0 0) ∷
    op 3 (kind.CellLoad 0 1) ∷
    op 4 (kind.New 2 []) ∷
    op 5 (kind.CellSwap 0 2 (Some 3)) ∷
    op 6 (kind.Null 4) ∷
    op 7 (kind.CellSwap 0 4 None) ∷
    op 8 (kind.Drop 1) ∷
    op 9 (kind.Drop 3) ∷
    []

pub cell_swaps : outcomes_from nothing_held cell_swaps_trace ≡
    counted 1 answer.Made [] 1 1 0 ∷
    counted 2 answer.Done [] 1 1 0 ∷
    counted 3 answer.Done [] 1 2 0 ∷
    counted 4 answer.Made [] 4 1 0 ∷
    counted 5 answer.Done [] 4 1 0 ∷
    did 6 answer.Done [] ∷
    did 7 answer.Done (event.Destroyed 4 ∷ event.Freed 4 ∷ []) ∷
    counted 8 answer.Done [] 1 1 0 ∷
    counted 9 answer.Done (event.Destroyed 1 ∷ event.Freed 1 ∷ []) 1 0 0 ∷
    []
cell_swaps = replayed cell_swaps_trace

abbrev leaked_pair_trace : List Operation
leaked_pair_trace =
    op 1 (kind.New 0 (field.Null ∷ [])) ∷
    op 2 (kind.New 1 (field.Null ∷ [])) ∷
    op 3 (kind.Clone 0 2) ∷
    op 4 (kind.Clone 1 3) ∷
    op 5 (kind.Set 0 0 3) ∷
    op 6 (kind.Set 1 0 2) ∷
    op 7 (kind.Drop 0) ∷
    op 8 (kind.Drop 1) ∷
    []

pub leaked_pair : outcomes_from nothing_held leaked_pair_trace ≡
    counted 1 answer.Made [] 1 1 0 ∷
    counted 2 answer.Made [] 2 1 0 ∷
    counted 3 answer.Done [] 1 2 0 ∷
    counted 4 answer.Done [] 2 2 0 ∷
    counted 5 answer.Done [] 1 2 0 ∷
    counted 6 answer.Done [] 2 2 0 ∷
    counted 7 answer.Done [] 1 1 0 ∷
    counted 8 answer.Done [] 2 1 0 ∷
    []
leaked_pair = replayed leaked_pair_trace

abbrev nested_fields_trace : List Operation
nested_fields_trace =
    op 1 (kind.New 0 []) ∷
    op 2 (kind.New 1 (field.Held 0 ∷ [])) ∷
    op 3 (kind.New 2 []) ∷
    op 4 (kind.Downgrade 2 3) ∷
    op 5 (kind.New 4 []) ∷
    op 6 (kind.New 5 (field.Held 1 ∷ field.Held 3 ∷ field.Held 4 ∷ [])) ∷
    op 7 (kind.Drop 5) ∷
    []

pub nested_fields : outcomes_from nothing_held nested_fields_trace ≡
    counted 1 answer.Made [] 1 1 0 ∷
    counted 2 answer.Made [] 2 1 0 ∷
    counted 3 answer.Made [] 3 1 0 ∷
    counted 4 answer.Done [] 3 1 1 ∷
    counted 5 answer.Made [] 5 1 0 ∷
    counted 6 answer.Made [] 6 1 0 ∷
    counted 7 answer.Done (event.Destroyed 6 ∷ event.Destroyed 2 ∷ event.Destroyed 1 ∷ event.Freed 1 ∷ event.Freed 2 ∷ event.Destroyed 5 ∷ event.Freed 5 ∷ event.Freed 6 ∷ []) 6 0 0 ∷
    []
nested_fields = replayed nested_fields_trace

abbrev skips_trace : List Operation
skips_trace =
    op 1 (kind.Drop 5) ∷
    op 2 (kind.New 0 []) ∷
    op 3 (kind.New 0 []) ∷
    op 4 (kind.Upgrade 0 1) ∷
    op 5 (kind.Clone 0 0) ∷
    op 6 (kind.Get 0 0 1) ∷
    op 7 (kind.CellLoad 3 0) ∷
    op 8 (kind.PtrEq 0 0) ∷
    op 9 (kind.Drop 0) ∷
    op 10 (kind.Drop 0) ∷
    op 11 (kind.Null 1) ∷
    op 12 (kind.CellNew 0 1) ∷
    op 13 (kind.Null 1) ∷
    op 14 (kind.CellNew 0 1) ∷
    []

pub skips : outcomes_from nothing_held skips_trace ≡
    skipped 1 (NotHeld 5) ∷
    counted 2 answer.Made [] 2 1 0 ∷
    skipped 3 (AlreadyHeld 0) ∷
    skipped 4 (WrongKind 0) ∷
    skipped 5 (SameName 0) ∷
    skipped 6 (NoField 0) ∷
    skipped 7 (NoCell 3) ∷
    counted 8 answer.Yes [] 2 1 0 ∷
    counted 9 answer.Done (event.Destroyed 2 ∷ event.Freed 2 ∷ []) 2 0 0 ∷
    skipped 10 (NotHeld 0) ∷
    did 11 answer.Done [] ∷
    did 12 answer.Done [] ∷
    did 13 answer.Done [] ∷
    skipped 14 (CellHeld 0) ∷
    []
skips = replayed skips_trace

abbrev unwrap_trace : List Operation
unwrap_trace =
    op 1 (kind.New 0 []) ∷
    op 2 (kind.New 1 (field.Held 0 ∷ [])) ∷
    op 3 (kind.Clone 1 2) ∷
    op 4 (kind.TryUnwrap 1) ∷
    op 5 (kind.IntoInner 2) ∷
    op 6 (kind.Downgrade 1 3) ∷
    op 7 (kind.IntoInner 1) ∷
    op 8 (kind.Drop 3) ∷
    op 9 (kind.Drop 1) ∷
    []

pub unwrap : outcomes_from nothing_held unwrap_trace ≡
    counted 1 answer.Made [] 1 1 0 ∷
    counted 2 answer.Made [] 2 1 0 ∷
    counted 3 answer.Done [] 2 2 0 ∷
    counted 4 answer.No [] 2 2 0 ∷
    counted 5 answer.No [] 2 1 0 ∷
    counted 6 answer.Done [] 2 1 1 ∷
    counted 7 answer.Yes (event.Unwrapped 2 ∷ []) 2 0 1 ∷
    counted 8 answer.Done (event.Freed 2 ∷ []) 2 0 0 ∷
    did 9 answer.Done (event.Destroyed 1 ∷ event.Freed 1 ∷ []) ∷
    []
unwrap = replayed unwrap_trace

abbrev make_mut_counts_trace : List Operation
make_mut_counts_trace =
    op 1 (kind.New 0 []) ∷
    op 2 (kind.Clone 0 1) ∷
    op 3 (kind.MakeMut 0) ∷
    op 4 (kind.Downgrade 0 2) ∷
    op 5 (kind.MakeMut 0) ∷
    op 6 (kind.Upgrade 2 3) ∷
    op 7 (kind.MakeMut 0) ∷
    op 8 (kind.Counts 2) ∷
    []

pub make_mut_counts : outcomes_from nothing_held make_mut_counts_trace ≡
    counted 1 answer.Made [] 1 1 0 ∷
    counted 2 answer.Done [] 1 2 0 ∷
    counted 3 answer.Cloned [] 3 1 0 ∷
    counted 4 answer.Done [] 3 1 1 ∷
    counted 5 answer.Moved (event.Moved 3 ∷ []) 5 1 0 ∷
    counted 6 answer.No [] 3 0 1 ∷
    counted 7 answer.Unique [] 5 1 0 ∷
    counted 8 answer.Done [] 3 0 1 ∷
    []
make_mut_counts = replayed make_mut_counts_trace

-- scopes of two threads: handles end in reverse order of making
abbrev scopes_trace : List Operation
scopes_trace =
    by 0 1 (kind.New 0 []) ∷
    by 1 2 (kind.New 1 []) ∷
    by 0 3 (kind.Clone 1 2) ∷
    by 0 4 (kind.Downgrade 0 3) ∷
    by 0 5 (kind.New 4 (field.Held 2 ∷ [])) ∷
    by 0 6 kind.ScopeEnd ∷
    by 1 7 kind.ScopeEnd ∷
    by 1 8 kind.ScopeEnd ∷
    []

pub scopes : outcomes_from nothing_held scopes_trace ≡
    counted 1 answer.Made [] 1 1 0 ∷
    counted 2 answer.Made [] 2 1 0 ∷
    counted 3 answer.Done [] 2 2 0 ∷
    counted 4 answer.Done [] 1 1 1 ∷
    counted 5 answer.Made [] 5 1 0 ∷
    did 6 answer.Done (event.Destroyed 5 ∷ event.Freed 5 ∷ event.Destroyed 1 ∷ event.Freed 1 ∷ []) ∷
    did 7 answer.Done (event.Destroyed 2 ∷ event.Freed 2 ∷ []) ∷
    did 8 answer.Done [] ∷
    []
scopes = replayed scopes_trace
