-- What became of each object that was made. Its value ends where it is dropped, where Arc::try_unwrap or Arc::into_inner
-- moves it out, and where Arc::make_mut moves it to an allocation of its own (documentation of std::sync::Arc). Its
-- allocation is given up once no Weak is left (documentation of std::sync::Weak). That the first such event of an object
-- counts is a profile of this project.
use Rattle.std.specs.Prelude.{ℕ, ◌==◌, List, [], ◌∷◌, map, flat_map, fold, Option, Some, None, Bool, true, false, if◌then◌else◌}
use Rattle.std.specs.Option.{option_or}
use Rattle.std.specs.Ordering.{nat_cmp}
use Rattle.std.specs.BTreeSet.{insert_key}
use Rattle.trace_types.specs.declared.outcomes.Event.{Event}
use Rattle.trace_types.specs.declared.outcomes.Event.TheVariants as event
use Rattle.trace_types.specs.declared.outcomes.Answer.TheVariants as answer
use Rattle.trace_types.specs.declared.outcomes.Verdict.{Verdict}
use Rattle.trace_types.specs.declared.outcomes.Verdict.TheVariants.{Did, Skipped}
use Rattle.trace_types.specs.declared.outcomes.Outcome.{Outcome}
use Rattle.leak_report.specs.declared.lives.Ending.{Ending}
use Rattle.leak_report.specs.declared.lives.Ending.TheVariants as ending
use Rattle.leak_report.specs.declared.lives.Life.{Life}

-- the first answer along a list
abbrev pub first_some : {A B : Type 0} → (A → Option B) → List A → Option B
first_some f [] = None
first_some f (x ∷ xs) = option_or (f x) (first_some f xs)

-- how an operation's event ends the value of o, if it does
abbrev pub ending_at : ℕ → ℕ × Event → Option Ending
ending_at o (id, event.Destroyed p) = if p == o then Some (ending.Destroyed id) else None
ending_at o (id, event.Unwrapped p) = if p == o then Some (ending.Unwrapped id) else None
ending_at o (id, event.Moved p) = if p == o then Some (ending.Moved id) else None
ending_at o (id, event.Freed p) = None

-- the operation, where its event gives up the allocation of o
abbrev pub freed_at : ℕ → ℕ × Event → Option ℕ
freed_at o (id, event.Freed p) = if p == o then Some id else None
freed_at o (id, event.Destroyed p) = None
freed_at o (id, event.Unwrapped p) = None
freed_at o (id, event.Moved p) = None

-- the events of an operation, each with the operation's number
abbrev pub numbered : ℕ → List Event → List (ℕ × Event)
numbered id es = map (λ e. (id, e)) es

-- all events in order
abbrev pub events_of : List Outcome → List (ℕ × Event)
events_of outs = flat_map (λ out. numbered out.id out.events) outs

-- how the value of o ended, by the first of these events that ends it; None where none does
abbrev pub first_ending : ℕ → List (ℕ × Event) → Option Ending
first_ending o es = first_some (ending_at o) es

-- the first operation whose event gives up the allocation of o; None where none does
abbrev pub first_freed : ℕ → List (ℕ × Event) → Option ℕ
first_freed o es = first_some (freed_at o) es

-- whether the operation made an object, which goes by the operation's number
abbrev pub is_making : Verdict → Bool
is_making (Did answer.Made) = true
is_making (Did answer.Cloned) = true
is_making (Did answer.Moved) = true
is_making (Did answer.Done) = false
is_making (Did answer.Yes) = false
is_making (Did answer.No) = false
is_making (Did answer.Unique) = false
is_making (Skipped reason) = false

-- the object that an operation made, if it made one
abbrev pub making : Outcome → List ℕ
making out = if is_making out.verdict then out.id ∷ [] else []

-- the objects that operations made, in the order of these
abbrev pub made_in : List Outcome → List ℕ
made_in outs = flat_map making outs

-- the objects of os, rising, and the operation's own, where it made one
abbrev pub with_made : List ℕ → Outcome → List ℕ
with_made os out = if is_making out.verdict then insert_key nat_cmp os out.id else os

-- the objects that were made, rising, with those of os
abbrev pub made_after : List ℕ → List Outcome → List ℕ
made_after os outs = fold with_made os outs

-- what became of an object
abbrev pub life_of : List Outcome → ℕ → Life
life_of outs o = record { object = o; ending = first_ending o (events_of outs); freed = first_freed o (events_of outs) }

-- what became of an object, by all events
abbrev pub life_by : List (ℕ × Event) → ℕ → Life
life_by es o = record { object = o; ending = first_ending o es; freed = first_freed o es }

-- of objects, rising, by all events
abbrev pub lives_by : List (ℕ × Event) → List ℕ → List Life
lives_by es os = map (life_by es) (fold (insert_key nat_cmp) [] os)

-- of all that were made, rising
abbrev pub lives_of : List Outcome → List Life
lives_of outs = map (life_of outs) (made_after [] outs)
