-- By which a proof tells states apart.
use Rattle.std.specs.Prelude.{refl}
use Rattle.std.specs.Ordering.{nat_cmp}
use Rattle.std.specs.FinMap.{FinMap}
use Rattle.std.specs.FinMap as map
use Rattle.std.specs.Prelude.{List}
use Rattle.std.specs.Coded.{Coded, code_by, coded×, coded_ℕ, coded_list}
use Rattle.trace_types.specs.declared.slots.Scoped.{Scoped}
use Rattle.trace_types.specs.contracts.slots.Scoped as scoped
use Rattle.trace_types.specs.declared.slots.Slot.{Slot}
use Rattle.trace_types.specs.declared.slots.Holding.{Holding}
use Rattle.trace_types.specs.declared.slots.Entry.{Entry}
use Rattle.trace_types.specs.contracts.slots.Slot as slot
use Rattle.trace_types.specs.contracts.slots.Holding as holding
use Rattle.trace_types.specs.contracts.slots.Entry as entry
use Rattle.ownership_model.specs.State.{State}

-- a state as the tuple of its four parts, by which a proof tells states apart
abbrev pub state_code : Coded State
state_code =
    code_by (FinMap nat_cmp Holding × (FinMap nat_cmp Slot × (FinMap nat_cmp Entry × List Scoped)))
    (coded× (map.code coded_ℕ holding.the_row.coded) (coded× (map.code coded_ℕ slot.the_row.coded) (coded× (map.code coded_ℕ entry.the_row.coded) (coded_list scoped.the_row.coded))))
    (λ m. (m.handles, (m.cells, (m.objects, m.scopes)))) (λ p. record { handles = p.0; cells = p.1.0; objects = p.1.1.0; scopes = p.1.1.1 }) (λ _. refl)
