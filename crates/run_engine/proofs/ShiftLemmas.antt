-- What edits do to stretches.
use Rattle.std.proofs.Common.{◌≡◌, ℕ, ◌+◌, ◌-◌, ◌≤◌, Bool, true, false, cond, nat_lt, List, [], ◌∷◌, ◌++◌, refl, ap, sym, ◌∙◌, arith}
use Rattle.std.specs.Prelude.{fold, Ok}
use Rattle.trace_types.specs.Operation.{Operation}
use Rattle.trace_types.specs.declared.edits.Edit.{Edit}
use Rattle.run_engine.specs.declared.jobs.begins.Shift.{Shift}
use Rattle.run_engine.specs.declared.jobs.begins.Shift.TheVariants.{Up, Down, Nowhere}
use Rattle.run_engine.specs.Edited.{edited_one}
use Rattle.run_engine.specs.Jobs.{made, begin_after, begin_by}
use Rattle.run_engine.specs.inner.Shifts.{shifted}

-- a stretch moves up by one at most
pub shifted-most : (begin : ℕ) (shift : Shift) → shifted begin shift ≤ begin + 1
shifted-most begin (Up place) = go (nat_lt place begin)
  where
    go : (b : Bool) → cond b (begin + 1) begin ≤ begin + 1
    go true = omega arith
    go false = omega arith
shifted-most begin (Down place) = go (nat_lt place begin)
  where
    go : (b : Bool) → cond b (begin - 1) begin ≤ begin + 1
    go true = omega arith
    go false = omega arith
shifted-most begin Nowhere = omega arith

pub fold-push : (begin : ℕ) (shifts : List Shift) (shift : Shift) → fold shifted begin (shifts ++ shift ∷ []) ≡ shifted (fold shifted begin shifts) shift
fold-push begin [] shift = refl
fold-push begin (s ∷ shifts) shift = fold-push (shifted begin s) shifts shift

-- an edit more
pub begin_by-next : (k : ℕ) (ops next : List Operation) (edit : Edit) (edits : List Edit) (shift : Shift) (at begin : ℕ) → edited_one k ops edit ≡ Ok next → ((b : ℕ) → shifted b shift ≡ begin_after ops edit b)
    → begin ≡ begin_by k ops (edit ∷ edits) at → begin ≡ begin_by (k + 1) next edits (shifted at shift)
begin_by-next k ops next edit edits shift at begin ok is h =
    h ∙ ap (λ r. begin_by (k + 1) (made ops r) edits (begin_after ops edit at)) ok ∙ ap (begin_by (k + 1) next edits) (sym (is at))
