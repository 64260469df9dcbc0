-- The state that plain lists hold (profile of this project).
use Rattle.ownership_model.specs.State.{State}
use Rattle.ownership_model.specs.declared.plain.state.PlainState.{PlainState}

-- its lists: three of them are seen as finite maps
abbrev pub state_of : PlainState → State
state_of s = record { handles = s.handles; cells = s.cells; objects = s.objects; scopes = s.scopes.items }
