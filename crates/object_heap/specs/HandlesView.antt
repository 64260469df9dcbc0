-- The handles of a heap: what each holds, and the scopes in which they stand (for private functions alone).
use Rattle.std.specs.Prelude.{ℕ, Some, List, refl}
use Rattle.std.specs.Ordering.{nat_cmp}
use Rattle.std.specs.FinMap.{FinMap}
use Rattle.std.specs.FinMap as map
use Rattle.std.specs.Coded.{Coded, code_by, coded×, coded_ℕ, coded_list}
use Rattle.trace_types.specs.declared.slots.Holding.{Holding}
use Rattle.trace_types.specs.declared.slots.Scoped.{Scoped}
use Rattle.trace_types.specs.contracts.slots.Holding as holding
use Rattle.trace_types.specs.contracts.slots.Scoped as scoped
use Rattle.object_heap.specs.declared.place.Place.{Place}
use Rattle.object_heap.specs.declared.held.Held.{Held}
use Rattle.object_heap.specs.Links.{scopes_at}
use Rattle.object_heap.specs.TableView.{part}

-- what contracts see of all handles
pub record HandlesView : Type 0 where
  pub holdings : FinMap nat_cmp Holding
  pub scopes : List Scoped

-- what each handle holds, of what is kept for it
abbrev pub holdings_of : FinMap nat_cmp Held → FinMap nat_cmp Holding
holdings_of m = part (λ x. Some x.holding) m

-- where each stands in its scope
abbrev pub places_of : FinMap nat_cmp Held → FinMap nat_cmp Place
places_of m = part (λ x. Some x.place) m

-- what contracts see of what is kept, and of the handle made last of each label
abbrev pub handles_of : FinMap nat_cmp Held → FinMap nat_cmp ℕ → HandlesView
handles_of m last = record { holdings = holdings_of m; scopes = scopes_at (places_of m) last }

-- by which a proof tells such apart
abbrev pub handles_code : Coded HandlesView
handles_code =
    code_by (FinMap nat_cmp Holding × List Scoped) (coded× (map.code coded_ℕ holding.the_row.coded) (coded_list scoped.the_row.coded))
    (λ v. (v.holdings, v.scopes)) (λ p. record { holdings = p.0; scopes = p.1 }) (λ _. refl)
