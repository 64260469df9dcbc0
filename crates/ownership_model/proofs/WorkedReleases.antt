-- Worked releases: what becomes of objects, found by computation. For the tests of the layers above too, which make these changes.
use Rattle.std.proofs.Common.{refl, arith, zero, suc}
use Rattle.std.specs.Prelude.{◌≡◌, List, [], ◌∷◌}
use Rattle.trace_types.specs.declared.slots.Slot.TheVariants.{Strong, Weak}
use Rattle.trace_types.specs.declared.slots.Holding.TheVariants as holding
use Rattle.trace_types.specs.declared.slots.Item.{Item}
use Rattle.trace_types.specs.declared.slots.Item.TheVariants as item
use Rattle.trace_types.specs.declared.slots.Change.{Change}
use Rattle.trace_types.specs.declared.slots.Change.TheVariants.{SetHandle, Make, TurnHusk}
use Rattle.trace_types.specs.declared.outcomes.Event.{Event}
use Rattle.trace_types.specs.declared.outcomes.Event.TheVariants.{Destroyed, Freed}
use Rattle.ownership_model.specs.State.{nothing_held, IsSound}
use Rattle.ownership_model.specs.Changes.{changed, CanChange}
use Rattle.ownership_model.specs.Release.{release}
use Rattle.ownership_model.specs.Bounds.{ChangesFit}
use Rattle.ownership_model.proofs.Listed.{nothing_listed, changes_in}
use Rattle.ownership_model.proofs.FarLemmas.{far_sound}
use Rattle.ownership_model.proofs.ListedLemmas.{cascaded, AreCountsSoundIn, sound_made, can_be_made}

-- the events, where the changes are made to nothing and then the items dropped
abbrev events_of : List Change → List Item → List Event
events_of changes pending = (release (changed nothing_held changes) pending).events

-- two objects that hold each other: nothing happens to them
abbrev pub pair : List Change
pair = Make 1 (Strong 2 ∷ []) ∷ Make 2 (Strong 1 ∷ []) ∷ []

pub pair_stays : events_of pair [] ≡ []
pair_stays = cascaded pair []

-- fields in order, each with all that it held last, and the allocation after the fields
abbrev pub nested : List Change
nested =
    Make 1 [] ∷
    Make 2 (Strong 1 ∷ []) ∷
    Make 3 [] ∷
    Make 5 [] ∷
    Make 6 (Strong 2 ∷ Weak 3 ∷ Strong 5 ∷ []) ∷
    SetHandle 0 2 (holding.Slot (Strong 3)) ∷
    []

pub nested_falls : events_of nested (item.Slot (Strong 6) ∷ []) ≡
    Destroyed 6 ∷ Destroyed 2 ∷ Destroyed 1 ∷ Freed 1 ∷ Freed 2 ∷ Destroyed 5 ∷ Freed 5 ∷ Freed 6 ∷ []
nested_falls = cascaded nested (item.Slot (Strong 6) ∷ [])

-- an object with a Weak to itself
abbrev pub own_weak : List Change
own_weak = Make 1 (Weak 1 ∷ []) ∷ []

pub own_weak_falls : events_of own_weak (item.Slot (Strong 1) ∷ []) ≡ Destroyed 1 ∷ Freed 1 ∷ []
own_weak_falls = cascaded own_weak (item.Slot (Strong 1) ∷ [])

-- a husk that a Weak keeps
abbrev pub husk : List Change
husk = Make 1 [] ∷ TurnHusk 1 ∷ SetHandle 0 0 (holding.Slot (Weak 1)) ∷ []

pub husk_stays : events_of husk [] ≡ []
husk_stays = cascaded husk []

-- ---- each of these states can be made, and is sound
pub pair_can : CanChange nothing_held pair
pair_can = can_be_made pair (refl, (refl, tt))

pair_counts : AreCountsSoundIn (changes_in nothing_listed pair) []
pair_counts zero = (refl, refl, refl)
pair_counts (suc zero) = (omega arith, refl)
pair_counts (suc (suc zero)) = (omega arith, refl)
pair_counts (suc (suc (suc o))) = far_sound 3 (changes_in nothing_listed pair) [] (record { handles = tt; cells = tt; objects = ((omega arith, tt), ((omega arith, tt), tt)); keys = (omega arith, (omega arith, tt)); items = tt }) (suc (suc (suc o))) (omega arith)

pub pair_is_sound : IsSound (changed nothing_held pair) []
pair_is_sound = sound_made pair [] pair_can pair_counts

pub nested_can : CanChange nothing_held nested
nested_can = can_be_made nested (refl, (refl, (refl, (refl, (refl, (tt, tt))))))

nested_counts : AreCountsSoundIn (changes_in nothing_listed nested) (item.Slot (Strong 6) ∷ [])
nested_counts zero = (refl, refl, refl)
nested_counts (suc zero) = (omega arith, refl)
nested_counts (suc (suc zero)) = (omega arith, refl)
nested_counts (suc (suc (suc zero))) = (omega arith, refl)
nested_counts (suc (suc (suc (suc zero)))) = (refl, refl, refl)
nested_counts (suc (suc (suc (suc (suc zero))))) = (omega arith, refl)
nested_counts (suc (suc (suc (suc (suc (suc zero)))))) = (omega arith, refl)
nested_counts (suc (suc (suc (suc (suc (suc (suc o))))))) = far_sound 7 (changes_in nothing_listed nested) (item.Slot (Strong 6) ∷ []) (record { handles = (omega arith, tt); cells = tt; objects = ((omega arith, (omega arith, (omega arith, tt))), (tt, (tt, ((omega arith, tt), (tt, tt))))); keys = (omega arith, (omega arith, (omega arith, (omega arith, (omega arith, tt))))); items = (omega arith, tt) }) (suc (suc (suc (suc (suc (suc (suc o))))))) (omega arith)

pub nested_is_sound : IsSound (changed nothing_held nested) (item.Slot (Strong 6) ∷ [])
nested_is_sound = sound_made nested (item.Slot (Strong 6) ∷ []) nested_can nested_counts

pub own_weak_can : CanChange nothing_held own_weak
own_weak_can = can_be_made own_weak (refl, tt)

own_weak_counts : AreCountsSoundIn (changes_in nothing_listed own_weak) (item.Slot (Strong 1) ∷ [])
own_weak_counts zero = (refl, refl, refl)
own_weak_counts (suc zero) = (omega arith, refl)
own_weak_counts (suc (suc o)) = far_sound 2 (changes_in nothing_listed own_weak) (item.Slot (Strong 1) ∷ []) (record { handles = tt; cells = tt; objects = ((omega arith, tt), tt); keys = (omega arith, tt); items = (omega arith, tt) }) (suc (suc o)) (omega arith)

pub own_weak_is_sound : IsSound (changed nothing_held own_weak) (item.Slot (Strong 1) ∷ [])
own_weak_is_sound = sound_made own_weak (item.Slot (Strong 1) ∷ []) own_weak_can own_weak_counts

pub husk_can : CanChange nothing_held husk
husk_can = can_be_made husk (refl, (refl, (tt, tt)))

husk_counts : AreCountsSoundIn (changes_in nothing_listed husk) []
husk_counts zero = (refl, refl, refl)
husk_counts (suc zero) = (refl, omega arith, omega arith)
husk_counts (suc (suc o)) = far_sound 2 (changes_in nothing_listed husk) [] (record { handles = (omega arith, tt); cells = tt; objects = (tt, tt); keys = (omega arith, tt); items = tt }) (suc (suc o)) (omega arith)

pub husk_is_sound : IsSound (changed nothing_held husk) []
husk_is_sound = sound_made husk [] husk_can husk_counts

-- ---- and its numbers and fields are within the limits
pub pair_fits : ChangesFit pair
pair_fits = ((omega arith, omega arith), ((omega arith, omega arith), tt))

pub nested_fits : ChangesFit nested
nested_fits =
    ((omega arith, omega arith), ((omega arith, omega arith), ((omega arith, omega arith), ((omega arith, omega arith), ((omega arith, omega arith), ((omega arith, (omega arith, tt)), tt))))))

pub own_weak_fits : ChangesFit own_weak
own_weak_fits = ((omega arith, omega arith), tt)

pub husk_fits : ChangesFit husk
husk_fits = ((omega arith, omega arith), (tt, ((omega arith, (omega arith, tt)), tt)))
