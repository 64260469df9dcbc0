-- Traces without scope_end: for these the scopes can be left out (profile of this project).
use Rattle.std.specs.Prelude.{◌≡◌, List, [], ◌∷◌, Bool, true, false}
use Rattle.std.specs.List.{All}
use Rattle.trace_types.specs.declared.kinds.Kind.{Kind}
use Rattle.trace_types.specs.declared.kinds.Kind.TheVariants as kind
use Rattle.trace_types.specs.Operation.{Operation}
use Rattle.trace_types.specs.declared.outcomes.Outcome.{Outcome}
use Rattle.ownership_model.specs.State.{State}
use Rattle.ownership_model.specs.Step.{step, outcomes_from, end_from}

-- the state with its scopes left out: handles, cells and objects alone
abbrev pub without_scopes : State → State
without_scopes m = record m { scopes = [] }

-- whether it is the end of a scope
abbrev pub is_scope_end : Kind → Bool
is_scope_end kind.ScopeEnd = true
is_scope_end _ = false

-- the outcomes of a replay that keeps no scopes: after each operation they are left out
abbrev pub outcomes_before : State → List Operation → List Outcome
outcomes_before m [] = []
outcomes_before m (op ∷ ops) = (step m op).outcome ∷ outcomes_before (without_scopes (step m op).state) ops

-- the end of such a replay
abbrev pub end_before : State → List Operation → State
end_before m [] = m
end_before m (op ∷ ops) = end_before (without_scopes (step m op).state) ops

-- the replay of a trace without scope_end, with the scopes left out, is the replay that keeps none
pub record ScopesCanBeLeftOut (m : State) (ops : List Operation) : Type 0 where
  pub outcomes : outcomes_from m ops ≡ outcomes_before (without_scopes m) ops
  pub end : without_scopes (end_from m ops) ≡ end_before (without_scopes m) ops

-- so it is from any state, for any operations of which none is scope_end
abbrev pub OldTracesReplayAsBefore : Type 0
OldTracesReplayAsBefore = (m : State) (ops : List Operation) → All (λ op. is_scope_end op.kind ≡ false) ops → ScopesCanBeLeftOut m ops
