-- A replay that goes on from a place.
use Rattle.std.specs.Prelude.{◌≡◌, ℕ, ◌≤◌, List, length}
use Rattle.std.specs.Ordering.{nat_cmp}
use Rattle.std.specs.BTreeSet.{contains}
use Rattle.trace_types.specs.Operation.{Operation}
use Rattle.mark_shelf.specs.Shelf.{Shelf}
use Rattle.run_engine.specs.declared.replay.prefix.Prefix.{Prefix}
use Rattle.run_engine.specs.declared.replay.revision.Revision.{Revision}
use Rattle.run_engine.specs.Guesses.{Reusable, with_guesses}
use Rattle.run_engine.specs.inner.OldRun.{old_trace, new_trace, reusable}
use Rattle.run_engine.specs.Segments.{marks_from, IsReached}
use Rattle.run_engine.specs.inner.Onward.{IsWay, IsOnward}
use Rattle.run_engine.specs.Steps.{HaveSteppedOn}

-- a replay that stands at the end of its prefix may go on to a position
pub record MayGoOn (ops : List Operation) (prefix : Prefix) (to : ℕ) : Type 0 where
  -- the prefix is the replay of the first operations, as many as it has
  pub reached : IsReached ops prefix.len prefix.segments prefix.end
  -- the position isn't before its end
  pub order : prefix.len ≤ to
  -- nor behind the last operation
  pub within : to ≤ length ops

-- a replay has gone on from a prefix to a longer one, beside an old trace and what may be reused, while a shelf and a meter went on
pub record GoesOn (old ops : List Operation) (known : Reusable) (prefix next : Prefix) (shelf after : Shelf) (before count : ℕ) : Type 0 where
  -- the next prefix is the replay of the first operations, as many as it has
  pub reached : IsReached ops next.len next.segments next.end
  -- by cuts whose names were touched, and no chunk is new on the shelf
  pub onward :
      IsOnward ops known prefix.len next.len (marks_from 0 prefix.segments) (marks_from 0 next.segments) shelf after
      (contains nat_cmp prefix.answered) (contains nat_cmp next.answered)
  -- the operations between that are not covered were stepped
  pub stepped : HaveSteppedOn old ops known.marks (with_guesses known.guesses shelf.chunks) prefix.len next.len before count

-- so beside an old run
abbrev pub GoesOnBeside : Revision → Prefix → Prefix → Shelf → Shelf → ℕ → ℕ → Type 0
GoesOnBeside r prefix next shelf after before count =
    GoesOn (old_trace r) (new_trace r) (reusable r) prefix next shelf after before count

-- a replay has gone on from a prefix to a longer one by these cuts, whose names were touched before, and none is touched now
pub record GoesAhead (ops : List Operation) (prefix next : Prefix) (more : List ℕ) : Type 0 where
  -- the next prefix is the replay of the first operations, as many as it has
  pub reached : IsReached ops next.len next.segments next.end
  -- whatever may be reused, the new checkpoints leave what is due
  pub way : (known : Reusable) → IsWay ops known prefix.len next.len more (marks_from 0 prefix.segments) (marks_from 0 next.segments) (contains nat_cmp prefix.answered)
  -- no name is answered
  pub answered : next.answered ≡ prefix.answered
