-- A run that is loaded as far as a position.
use Rattle.std.proofs.Common.{◌≡◌, ◌≢◌, ℕ, zero, suc, ◌+◌, ◌-◌, ◌%◌, min, ◌<◌, ◌≤◌, Bool, false, cond, nat_eq, eq-eqb, List, [], ◌∷◌, ◌++◌, length, drop, refl, ap, sym, ◌∙◌, arith, add-zero, zero-add, true, not, append-nil}
use Rattle.std.specs.Prelude.{◌/◌, ◌&&◌, Option, IfSome, filter, get_or, nat_lt, slice_range}
use Rattle.std.specs.List.{range_with_len}
use Rattle.std.proofs.lemmas.Bool.{ne_eqb}
use Rattle.std.proofs.lemmas.List.Elements.{filter-append}
use Rattle.std.proofs.lemmas.List.{length-take, length-drop}
use Rattle.ownership_model.specs.State.{State, nothing_held}
use Rattle.ownership_model.specs.Step.{end_from}
use Rattle.trace_types.specs.Operation.{Operation}
use Rattle.op_step.specs.Meter.{raised}
use Rattle.run_engine.specs.SegmentView.{SegmentView}
use Rattle.run_engine.specs.Segments.{trace_of, marks_from, HasBare, IsReached, IsPiece}
use Rattle.run_engine.specs.Marks.{multiples_below}
use Rattle.run_engine.specs.inner.Loaded.{is_given_up, kept_below}
use Rattle.run_engine.proofs.PieceLemmas.{IsReached-next, IsReached-bare, marks_from-bare, marks_from-piece}

pub range-append : (a n m : ℕ) → range_with_len a (n + m) ≡ range_with_len a n ++ range_with_len (a + n) m
range-append a zero m = ap (range_with_len a) (zero-add m) ∙ ap (λ b. range_with_len b m) (sym (add-zero a))
range-append a (suc n) m =
    let long : suc n + m ≡ suc (n + m) = omega arith in
    let place : a + 1 + n ≡ a + suc n = omega arith in
    ap (range_with_len a) long ∙ ap (λ ps. a ∷ ps) (range-append (a + 1) n m ∙ ap (λ b. range_with_len (a + 1) n ++ range_with_len b m) place)

filter-none : (p : ℕ → Bool) (a n : ℕ) → ((q : ℕ) → a ≤ q → q < a + n → p q ≡ false) → filter p (range_with_len a n) ≡ []
filter-none p a zero h = refl
filter-none p a (suc n) h =
    ap (λ b. cond b (a ∷ filter p (range_with_len (a + 1) n)) (filter p (range_with_len (a + 1) n))) (h a (omega arith) (omega arith))
    ∙ filter-none p (a + 1) n (λ q x y. h q (omega arith) (omega arith))

-- no multiple of 64 lies between one and the next
between : (at q : ℕ) → at % 64 ≡ 0 → at < q → q < at + 64 → q % 64 ≢ 0
between at q z lt below e = omega arith

pub multiples_below-next : (at cut : ℕ) → at % 64 ≡ 0 → 0 < cut → cut ≤ 64 → multiples_below (at + cut) ≡ multiples_below at ++ at ∷ []
multiples_below-next at zero z pos small = absurd (omega arith)
multiples_below-next at (suc n) z pos small =
    let test : ℕ → Bool = λ p. nat_eq (p % 64) 0 in
    let start : 0 + at ≡ at = zero-add at in
    let none : filter test (range_with_len (at + 1) n) ≡ [] = filter-none test (at + 1) n (λ q a b. ne_eqb (q % 64) 0 (between at q z (omega arith) (omega arith))) in
    ap (filter test) (range-append 0 at (suc n) ∙ ap (λ a. range_with_len 0 at ++ range_with_len a (suc n)) start)
    ∙ filter-append test (range_with_len 0 at) (range_with_len at (suc n))
    ∙ ap (λ ps. multiples_below at ++ ps) (ap (λ b. cond b (at ∷ filter test (range_with_len (at + 1) n)) (filter test (range_with_len (at + 1) n))) (eq-eqb _ _ z) ∙ ap (λ ps. at ∷ ps) none)

-- a loaded run as far as the operation `at`
pub record IsLoaded (ops : List Operation) (gone : List Bool) (before at : ℕ) (segments : List SegmentView) (end : State) (count : ℕ) : Type 0 where
  pub prefix : IsReached ops at segments end
  pub aligned : at < length ops → at % 64 ≡ 0
  pub marks : marks_from 0 segments ≡ kept_below gone at
  pub count_is : count ≡ raised before at

-- the checkpoint at 0 stays
pub gone-behind : (gone : List Bool) (p : ℕ) → is_given_up gone p ≡ true → 0 < p
gone-behind gone zero h = cc
gone-behind gone (suc p) h = omega arith

-- what is kept as far as the next cut
kept-next : (gone : List Bool) (at to : ℕ) (b : Bool) → multiples_below to ≡ multiples_below at ++ at ∷ [] → is_given_up gone at ≡ b → kept_below gone to ≡ kept_below gone at ++ cond (not b) (at ∷ []) []
kept-next gone at to b next is =
    ap (filter (λ p. not (is_given_up gone p))) next ∙ filter-append (λ p. not (is_given_up gone p)) (multiples_below at) (at ∷ [])
    ∙ ap (λ x. kept_below gone at ++ cond (not x) (at ∷ []) []) is

-- it goes on by a piece, whose checkpoint is kept
pub IsLoaded-kept : (ops : List Operation) (gone : List Bool) (before at to len count : ℕ) (segments more : List SegmentView) (heap end : State)
    → IsLoaded ops gone before at segments heap count → at < length ops → to ≡ at + min (length ops - at) 64 → IsPiece heap (slice_range ops at to) more end len → len ≡ length (slice_range ops at to)
    → is_given_up gone at ≡ false → IsLoaded ops gone before (at + len) (segments ++ more) end (raised count len)
IsLoaded-kept ops gone before at to len count segments more heap end h lt there piece whole stays =
    let within = h.prefix.within in
    let pos : 0 < len = piece.some in
    let is = h.count_is in
    let rest = length-drop at ops in
    let long : len ≡ to - at = omega (arith, length-take (to - at) (drop at ops)) in
    record {
      prefix = IsReached-next ops at to len segments more heap end h.prefix (omega arith) (omega arith) piece;
      aligned = λ lt2. let z : at % 64 ≡ 0 = h.aligned lt in let c : len ≡ 64 = omega arith in omega arith;
      marks = marks_from-piece ops (slice_range ops at to) at len segments more heap end h.prefix piece ∙ ap (λ ps. ps ++ at ∷ []) h.marks
          ∙ sym (kept-next gone at (at + len) false (multiples_below-next at len (h.aligned lt) pos (omega arith)) stays);
      count_is = omega arith;
    }

-- it goes on with no checkpoint
pub IsLoaded-gone : (ops next : List Operation) (gone : List Bool) (before at to count : ℕ) (segments : List SegmentView) (heap : State) (anchor : Option State)
    → IsLoaded ops gone before at segments heap count → at < length ops → to ≡ at + min (length ops - at) 64 → IfSome anchor (λ n. n ≡ heap) → next ≡ slice_range ops at to → is_given_up gone at ≡ true
    → (more : List SegmentView) → HasBare segments anchor heap next more → IsLoaded ops gone before (at + length next) more (end_from heap next) (raised count (length next))
IsLoaded-gone ops next gone before at to count segments heap anchor h lt there same is goes more has =
    let counted = h.count_is in
    let within = h.prefix.within in
    let long : length next ≡ to - at = ap length is ∙ omega (arith, length-take (to - at) (drop at ops), length-drop at ops) in
    let cut : to ≡ at + length next = omega arith in
    let pos : 0 < length next = omega arith in
    record {
      prefix = IsReached-bare ops next at segments heap anchor h.prefix (gone-behind gone at goes) (omega arith) pos same (is ∙ ap (slice_range ops at) cut) more has;
      aligned = λ lt2. let z : at % 64 ≡ 0 = h.aligned lt in let c : length next ≡ 64 = omega arith in omega arith;
      marks = marks_from-bare 0 segments more heap anchor next has ∙ h.marks
          ∙ sym (kept-next gone at (at + length next) true (multiples_below-next at (length next) (h.aligned lt) pos (omega arith)) goes ∙ append-nil (kept_below gone at));
      count_is = omega arith;
    }

pub IsLoaded-none : (ops : List Operation) (gone : List Bool) (before : ℕ) → IsLoaded ops gone before 0 [] nothing_held before
IsLoaded-none ops gone before = record { prefix = record { within = omega arith; trace = refl; replay = tt; full = tt; begins = tt; state = refl }; aligned = λ _. refl; marks = refl; count_is = omega arith }

get-none : (n : ℕ) → get_or [] n false ≡ false
get-none zero = refl
get-none (suc n) = refl

none-gone : (p : ℕ) → is_given_up [] p ≡ false
none-gone p = elim (nat_lt 0 p) as (λ b. (b && get_or [] (p / 64) false) ≡ false) [ true ↦ get-none (p / 64) | false ↦ refl ]

all-stay : (ps : List ℕ) → filter (λ p. not (is_given_up [] p)) ps ≡ ps
all-stay [] = refl
all-stay (p ∷ ps) = ap (λ b. cond (not b) (p ∷ filter (λ q. not (is_given_up [] q)) ps) (filter (λ q. not (is_given_up [] q)) ps)) (none-gone p) ∙ ap (λ qs. p ∷ qs) (all-stay ps)

-- where none is given up
pub kept-all : (n : ℕ) → kept_below [] n ≡ multiples_below n
kept-all n = all-stay (multiples_below n)

pub load-marks : (ops : List Operation) (gone : List Bool) (segments : List SegmentView) → trace_of segments ≡ ops → marks_from 0 segments ≡ kept_below gone (length ops)
    → marks_from 0 segments ++ length (trace_of segments) ∷ [] ≡ kept_below gone (length ops) ++ length ops ∷ []
load-marks ops gone segments t m = ap (λ ps. ps ++ length (trace_of segments) ∷ []) m ∙ ap (λ xs. kept_below gone (length ops) ++ length xs ∷ []) t
