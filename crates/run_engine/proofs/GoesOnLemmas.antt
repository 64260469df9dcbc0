-- A replay that goes on from a place.
use Rattle.std.proofs.Common.{ℕ, List}
use Rattle.std.specs.Ordering.{nat_cmp}
use Rattle.std.specs.BTreeSet.{contains}
use Rattle.trace_types.specs.Operation.{Operation}
use Rattle.mark_shelf.specs.Shelf.{Shelf}
use Rattle.run_engine.specs.declared.replay.prefix.Prefix.{Prefix}
use Rattle.run_engine.specs.Segments.{marks_from, IsReached}
use Rattle.run_engine.specs.Steps.{HaveStepped}
use Rattle.run_engine.specs.Guesses.{Reusable, with_guesses}
use Rattle.run_engine.specs.inner.GoesOn.{GoesOn}
use Rattle.run_engine.proofs.OnwardLemmas.{IsOnward-none, IsOnward-next}
use Rattle.run_engine.proofs.GuessLemmas.{AreSome-guesses}
use Rattle.run_engine.proofs.SteppedLemmas.{HaveStepped-none}

-- a replay that has not gone on yet
pub GoesOn-none : (old ops : List Operation) (known : Reusable) (prefix : Prefix) (shelf : Shelf) (count : ℕ)
    → IsReached ops prefix.len prefix.segments prefix.end → GoesOn old ops known prefix prefix shelf shelf count count
GoesOn-none old ops known prefix shelf count reached = record {
  reached = reached;
  onward = IsOnward-none ops known prefix.len (marks_from 0 prefix.segments) shelf (contains nat_cmp prefix.answered);
  stepped = λ r start chunks h all. h;
}

-- one that goes on further
pub GoesOn-next : (old ops : List Operation) (known : Reusable) (a b c : Prefix) (s t u : Shelf) (l m n : ℕ)
    → GoesOn old ops known a b s t l m → GoesOn old ops known b c t u m n → GoesOn old ops known a c s u l n
GoesOn-next old ops known a b c s t u l m n h k = record {
  reached = k.reached;
  onward = IsOnward-next ops known a.len b.len c.len (marks_from 0 a.segments) (marks_from 0 b.segments) (marks_from 0 c.segments) s t u
      (contains nat_cmp a.answered) (contains nat_cmp b.answered) (contains nat_cmp c.answered) h.onward k.onward;
  stepped = λ r start chunks before all.
      k.stepped r start chunks (h.stepped r start chunks before all) (λ e there. all e (AreSome-guesses known.guesses t.chunks s.chunks h.onward.answered.touched.fewer e there));
}

-- as many operations were stepped as it passed that are not covered
pub GoesOn-steps : (old ops : List Operation) (known : Reusable) (prefix next : Prefix) (shelf after : Shelf) (before count : ℕ)
    → GoesOn old ops known prefix next shelf after before count → HaveStepped old ops known.marks (with_guesses known.guesses shelf.chunks) prefix.len next.len before count
GoesOn-steps old ops known prefix next shelf after before count h =
    h.stepped prefix.len before (with_guesses known.guesses shelf.chunks) (HaveStepped-none old ops known.marks (with_guesses known.guesses shelf.chunks) prefix.len before) (λ e there. there)
