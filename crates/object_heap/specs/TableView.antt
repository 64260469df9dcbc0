-- The objects of a heap: what stands for each, and how often each is named (for private functions alone).
use Rattle.std.specs.Prelude.{ℕ, ◌+◌, ◌-◌, ◌^◌, ◌<◌, ◌≤◌, ◌≡◌, ◌==◌, ◌&&◌, Bool, List, [], ◌∷◌, ◌++◌, Option, Some, None, unwrap_or, if◌then◌else◌, refl}
use Rattle.std.specs.Option.{option_map}
use Rattle.std.specs.Ordering.{nat_cmp}
use Rattle.std.specs.FinMap.{FinMap, get, from_sorted}
use Rattle.std.specs.FinMap as map
use Rattle.std.specs.Coded.{Coded, code_by, coded×, coded_ℕ, coded_option}
use Rattle.share_tree.specs.Entries.{entry}
use Rattle.trace_types.specs.declared.slots.Entry.{Entry}
use Rattle.trace_types.specs.contracts.slots.Entry as stands
use Rattle.object_heap.specs.declared.counters.Counters.{Counters}

-- what contracts see of all objects: what stands for each, and the counters of each that is named
pub record TableView : Type 0 where
  pub entries : FinMap nat_cmp Entry
  pub counts : FinMap nat_cmp Counters

-- the counters of an object; zeros, where none are kept
abbrev pub counters_at : Option Counters → Counters
counters_at kept = unwrap_or kept (record { strong = 0; weak = 0; ends = 0 })

-- what two sets of counters count together
abbrev pub plus : Counters → Counters → Counters
plus c more = record { strong = c.strong + more.strong; weak = c.weak + more.weak; ends = c.ends + more.ends }

-- that much can be counted in 64 bits
abbrev pub HasRoomFor : Counters → Counters → Type 0
HasRoomFor c more = (c.strong + more.strong < 2 ^ 64) × ((c.weak + more.weak < 2 ^ 64) × (c.ends + more.ends < 2 ^ 64))

-- what two sets of counters differ by
abbrev pub minus : Counters → Counters → Counters
minus c less = record { strong = c.strong - less.strong; weak = c.weak - less.weak; ends = c.ends - less.ends }

-- these are among those
abbrev pub AreAmong : Counters → Counters → Type 0
AreAmong less c = (less.strong ≤ c.strong) × ((less.weak ≤ c.weak) × (less.ends ≤ c.ends))

-- the same stands in both, and is named as often
abbrev pub AreAlike : TableView → TableView → Type 0
AreAlike a b = (a.entries ≡ b.entries) × ((o : ℕ) → counters_at (get a.counts o) ≡ counters_at (get b.counts o))

-- what does not stand is named by nothing
abbrev pub AllStand : TableView → Type 0
AllStand t = (o : ℕ) → get t.entries o ≡ None → counters_at (get t.counts o) ≡ counters_at None

-- what is kept for one: what stands for it, if anything does, and its counters
abbrev pub Kept : Type 0
Kept = Option Entry × Counters

-- the same, where nothing may be kept: then nothing stands, and nothing is counted
abbrev pub kept_at : Option Kept → Kept
kept_at kept = unwrap_or kept (None, counters_at None)

-- whether nothing is counted
abbrev pub are_zero : Counters → Bool
are_zero c = (c.strong == 0) && ((c.weak == 0) && (c.ends == 0))

-- counters, where anything is counted
abbrev pub if_any : Counters → Option Counters
if_any c = if are_zero c then None else Some c

-- what is kept of these two: nothing, where nothing stands and nothing is counted
abbrev pub kept_of : Option Entry → Counters → Option Kept
kept_of None c = option_map (λ n. (None, n)) (if_any c)
kept_of (Some e) c = Some (Some e, c)

-- of the entries of a list those for which f gives something, with that
abbrev pub picked : {X Y : Type 0} → (X → Option Y) → List (ℕ × X) → List (ℕ × Y)
picked f [] = []
picked f (e ∷ es) = entry e.0 (f e.1) ++ picked f es

-- the same of a map
unfoldable pub part : {X Y : Type 0} → (X → Option Y) → FinMap nat_cmp X → FinMap nat_cmp Y
part f m = from_sorted (picked f (map.entries m))

-- what contracts see of what is kept
abbrev pub table_of : FinMap nat_cmp Kept → TableView
table_of m = record { entries = part (λ x. x.0) m; counts = part (λ x. if_any x.1) m }

-- nothing is kept where nothing stands and nothing is counted
abbrev pub IsLean : FinMap nat_cmp Kept → Type 0
IsLean m = (o : ℕ) (x : Kept) → get m o ≡ Some x → kept_of x.0 x.1 ≡ Some x

-- what is kept for one object as a tuple, by which a proof tells such apart
abbrev pub counters_code : Coded Counters
counters_code = code_by (ℕ × (ℕ × ℕ)) (coded× coded_ℕ (coded× coded_ℕ coded_ℕ)) (λ c. (c.strong, (c.weak, c.ends))) (λ p. record { strong = p.0; weak = p.1.0; ends = p.1.1 }) (λ _. refl)

abbrev pub kept_code : Coded Kept
kept_code = coded× (coded_option stands.the_row.coded) counters_code

-- so of all
abbrev pub table_code : Coded TableView
table_code =
    code_by (FinMap nat_cmp Entry × FinMap nat_cmp Counters) (coded× (map.code coded_ℕ stands.the_row.coded) (map.code coded_ℕ counters_code))
    (λ t. (t.entries, t.counts)) (λ p. record { entries = p.0; counts = p.1 }) (λ _. refl)
