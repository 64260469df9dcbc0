-- Guesses beside the chunks of a shelf.
use Rattle.std.proofs.Common.{◌≡◌, ℕ, ◌+◌, ◌-◌, ◌<◌, ◌≤◌, zero, suc, List, [], ◌∷◌, ◌++◌, length, take, drop, get_or, ap, sym, subst, ◌∙◌, arith}
use Rattle.std.specs.Prelude.{map, Contains, slice_range}
use mathlib.Core.Logic.{⊎_elim}
use Rattle.std.proofs.Math.Seq.{take-add}
use Rattle.std.proofs.lemmas.List.{drop-drop}
use Rattle.std.proofs.lemmas.List.Elements.{Contains-append_cases, Contains-append_left, Contains-append_right}
use Rattle.trace_types.specs.Operation.{Operation}
use Rattle.ownership_model.specs.State.{State}
use Rattle.op_step.specs.Chunk.{Chunk}
use Rattle.run_engine.specs.Guesses.{with_guesses, IsGuessed}
use Rattle.run_engine.specs.Memo.{IsAmong, AreSome}
use Rattle.run_engine.proofs.ListingLemmas.{take-shorter}

-- fewer chunks beside the same guesses
pub AreSome-guesses : (guesses : List Chunk) (some all : List (ℕ × Chunk)) → AreSome some all → AreSome (with_guesses guesses some) (with_guesses guesses all)
AreSome-guesses guesses some all h e there =
    let numbered : List (ℕ × Chunk) = map (λ (c : Chunk). (0, c)) guesses in
    ⊎_elim (λ g. Contains-append_left numbered all e g) (λ k. Contains-append_right numbered all e (h e k)) (Contains-append_cases numbered some e there)

-- the chunks alone
pub AreSome-chunks : (guesses : List Chunk) (some all : List (ℕ × Chunk)) → AreSome some all → AreSome some (with_guesses guesses all)
AreSome-chunks guesses some all h e there = Contains-append_right (map (λ (c : Chunk). (0, c)) guesses) all e (h e there)

numbered : (guesses : List Chunk) (c : Chunk) → Contains guesses c → Contains {X = ℕ × Chunk} (map (λ (d : Chunk). (0, d)) guesses) (0, c)
numbered [] c h = let lt = h.1 in absurd (omega arith)
numbered (g ∷ guesses) c (zero, lt, is) = (zero, omega arith, ap (λ (d : Chunk). (0, d)) is)
numbered (g ∷ guesses) c (suc i, lt, is) =
    let first : ℕ × Chunk = (0, g) in
    let wanted : ℕ × Chunk = (0, c) in
    Contains-append_right (first ∷ []) (map (λ (d : Chunk). (0, d)) guesses) wanted (numbered guesses c (i, omega arith, is))

-- a guess is one of both
pub IsAmong-guess : (guesses : List Chunk) (chunks : List (ℕ × Chunk)) (start : State) (ops : List Operation) → IsGuessed guesses start ops → IsAmong (with_guesses guesses chunks) start ops
IsAmong-guess guesses chunks start ops h =
    let c : Chunk = record { start = start; ops = ops } in
    let wanted : ℕ × Chunk = (0, c) in
    (0, Contains-append_left (map (λ (d : Chunk). (0, d)) guesses) chunks wanted (numbered guesses c h))

-- so is a chunk
pub IsAmong-chunk : (guesses : List Chunk) (chunks : List (ℕ × Chunk)) (start : State) (ops : List Operation) → IsAmong chunks start ops → IsAmong (with_guesses guesses chunks) start ops
IsAmong-chunk guesses chunks start ops h =
    let wanted : ℕ × Chunk = (h.0, record { start = start; ops = ops }) in
    (h.0, Contains-append_right (map (λ (d : Chunk). (0, d)) guesses) chunks wanted h.1)

-- so many more operations are listed where others are
pub listed-more : (others ops next : List Operation) (at i few : ℕ) → take i others ≡ take i (drop at ops) → next ≡ take (length next) (drop (at + i) ops) → few ≤ length next → take few next ≡ take few (drop i others)
    → take (i + few) others ≡ take (i + few) (drop at ops)
listed-more others ops next at i few same is le more =
    take-add i few others
    ∙ ap (λ xs. xs ++ take few (drop i others)) same
    ∙ ap (λ xs. take i (drop at ops) ++ xs) (sym more ∙ ap (take few) is ∙ take-shorter few (length next) (drop (at + i) ops) le ∙ ap (take few) (sym (drop-drop i at ops)))
    ∙ sym (take-add i few (drop at ops))

-- a guess begins with the heap, and has operations from a position on, one at least and none behind another position
pub record Serves (guess : Chunk) (heap : State) (ops : List Operation) (at to : ℕ) : Type 0 where
  pub start_is : guess.start ≡ heap
  pub some : 0 < length guess.ops
  pub short : length guess.ops ≤ to - at
  pub ops_are : guess.ops ≡ take (length guess.ops) (drop at ops)

-- a guess that serves is one of them, as long as what is taken of it
pub guess-there : (guesses : List Chunk) (k : ℕ) (guess : Chunk) (heap : State) (ops : List Operation) (at to len : ℕ) → k < length guesses → guess ≡ get_or guesses k guess → Serves guess heap ops at to → len ≡ length guess.ops
    → IsGuessed guesses heap (take len (slice_range ops at to))
guess-there guesses k guess heap ops at to len lt is fits whole =
    let short = fits.short in
    let cut : guess.ops ≡ take len (slice_range ops at to) = fits.ops_are ∙ ap (λ n. take n (drop at ops)) (sym whole) ∙ sym (take-shorter len (to - at) (drop at ops) (omega arith)) in
    let same : guess ≡ record { start = heap; ops = take len (slice_range ops at to) } = λ i. record { start = fits.start_is i; ops = cut i } in
    subst (λ (c : Chunk). Contains guesses c) same (k, lt, sym is)
