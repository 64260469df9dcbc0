-- Checkpoints that are given up one after another, and all at once.
use Rattle.std.proofs.Common.{◌≡◌, ℕ, zero, suc, ◌+◌, Bool, true, false, cond, nat_eq, nat_lt, eq-eqb, List, [], ◌∷◌, length, refl, ap, sym, subst, ◌∙◌, T, arith}
use Rattle.std.specs.Prelude.{◌==◌, ◌&&◌, ◌||◌, not, filter, fold, slice_get, option_map, Option, Some, None, IsTrue, if◌then◌else◌}
use Rattle.std.specs.Option.{option_map_or}
use Rattle.std.specs.List.{position_from}
use Rattle.std.proofs.Math.Facts.{eqb_yes}
use Rattle.std.proofs.lemmas.Bool.{ne_eqb}
use Rattle.std.proofs.lemmas.List.Elements.{filter_agree}
use Rattle.trace_types.specs.Operation.{Operation}
use Rattle.trace_types.specs.Trace.{place_of, is_taken, has_distinct_numbers}
use Rattle.run_engine.specs.Segments.{without}
use Rattle.run_engine.specs.GivenUp.{given_up, name_at}
use Rattle.run_engine.specs.inner.Cleared.{is_named}
use Rattle.run_engine.specs.inner.Onward.{among}
use Rattle.run_engine.proofs.EditLemmas.{right}
use Rattle.run_engine.proofs.NumberLemmas.{alone, within}
use Rattle.run_engine.proofs.GoneLemmas.{given-up-at}
use Rattle.run_engine.proofs.ClearedLemmas.{goes}

-- whether a number is this one, or one of these
abbrev is_own : ℕ → ℕ → Bool
is_own g id = id == g

-- the number of the operation at a place, if there is one
abbrev number_at : List Operation → ℕ → Option ℕ
number_at ops k = option_map (λ (op : Operation). op.id) (slice_get ops k)

number-nowhere : (g n : ℕ) (ops : List Operation) → position_from (λ op. op.id == g) n ops ≡ None → (k : ℕ) → is_named (is_own g) (number_at ops k) ≡ false
number-nowhere g n [] none k = refl
number-nowhere g n (o ∷ ops) none k = by_test (o.id == g) (number-nowhere g (n + 1) ops) refl none k
  where
    by_test : (t : Bool) → (position_from (λ op. op.id == g) (n + 1) ops ≡ None → (k : ℕ) → is_named (is_own g) (number_at ops k) ≡ false)
        → (o.id == g) ≡ t → cond t (Some n) (position_from (λ op. op.id == g) (n + 1) ops) ≡ None → (k : ℕ) → is_named (is_own g) (number_at (o ∷ ops) k) ≡ false
    by_test true later is e k = absurd cc
    by_test false later is e zero = is
    by_test false later is e (suc k) = later e k

number-there : (g n i : ℕ) (ops : List Operation) → IsTrue (has_distinct_numbers ops) → position_from (λ op. op.id == g) n ops ≡ Some i → (k : ℕ) → is_named (is_own g) (number_at ops k) ≡ nat_eq (n + k) i
number-there g n i [] distinct there k = absurd cc
number-there g n i (o ∷ ops) distinct there k = by_test (o.id == g) (number-there g (n + 1) i ops (right (not (is_taken o.id ops)) (has_distinct_numbers ops) distinct)) refl there k
  where
    by_test : (t : Bool) → (position_from (λ op. op.id == g) (n + 1) ops ≡ Some i → (k : ℕ) → is_named (is_own g) (number_at ops k) ≡ nat_eq (n + 1 + k) i)
        → (o.id == g) ≡ t → cond t (Some n) (position_from (λ op. op.id == g) (n + 1) ops) ≡ Some i → (k : ℕ) → is_named (is_own g) (number_at (o ∷ ops) k) ≡ nat_eq (n + k) i
    by_test true later is e zero = let here : n ≡ i = cc in is ∙ sym (eq-eqb (n + 0) i (omega arith))
    by_test true later is e (suc k) = let here : n ≡ i = cc in number-nowhere g (n + 1) ops (alone g (n + 1) o ops distinct is) k ∙ sym (ne_eqb (n + suc k) i (λ same. omega arith))
    by_test false later is e zero = let behind = (within g (n + 1) i ops e).0 in is ∙ sym (ne_eqb (n + 0) i (λ same. omega arith))
    by_test false later is e (suc k) = let next : n + 1 + k ≡ n + suc k = omega arith in later e k ∙ ap (λ m. nat_eq m i) next

-- the checkpoint with a name stands right behind the operation with the number
name-nowhere : (trace : List Operation) (g p : ℕ) → place_of g trace ≡ None → is_named (is_own g) (name_at trace p) ≡ false
name-nowhere trace g zero none = refl
name-nowhere trace g (suc k) none = number-nowhere g 0 trace none k

name-there : (trace : List Operation) (g i p : ℕ) → IsTrue (has_distinct_numbers trace) → place_of g trace ≡ Some i → is_named (is_own g) (name_at trace p) ≡ nat_eq p (i + 1)
name-there trace g i zero distinct there = sym (ne_eqb 0 (i + 1) (λ same. omega arith))
name-there trace g i (suc k) distinct there = number-there g 0 i trace distinct there k ∙ one-more
  where
    by_test : (t : Bool) → nat_eq (0 + k) i ≡ t → t ≡ nat_eq (suc k) (i + 1)
    by_test true is = let same : 0 + k ≡ i = eqb_yes (subst T (sym is) tt) in sym (eq-eqb (suc k) (i + 1) (omega arith))
    by_test false is = sym (ne_eqb (suc k) (i + 1) (λ same. let here : 0 + k ≡ i = omega arith in let yes : nat_eq (0 + k) i ≡ true = eq-eqb (0 + k) i here in cc))

    one-more : nat_eq (0 + k) i ≡ nat_eq (suc k) (i + 1)
    one-more = by_test (nat_eq (0 + k) i) refl

all-stay : (test : ℕ → Bool) → ((p : ℕ) → test p ≡ false) → (ps : List ℕ) → filter (λ p. not (test p)) ps ≡ ps
all-stay test none [] = refl
all-stay test none (p ∷ ps) = ap (λ b. cond (not b) (p ∷ filter (λ q. not (test q)) ps) (filter (λ q. not (test q)) ps)) (none p) ∙ ap (λ qs. p ∷ qs) (all-stay test none ps)

and-false : (a b : Bool) → b ≡ false → (a && b) ≡ false
and-false true b is = is
and-false false b is = refl

-- what a name gives up
given_up-is : (trace : List Operation) (marks : List ℕ) (g : ℕ) → IsTrue (has_distinct_numbers trace) → given_up trace marks g ≡ filter (λ p. not (goes (is_own g) trace p)) marks
given_up-is trace marks g distinct = by_place (place_of g trace) refl
  where
    drops : ℕ → Bool
    drops p = goes (is_own g) trace p

    inner : (i : ℕ) → nat_lt (i + 1) (length trace) ≡ true → (p : ℕ) → (t : Bool) → nat_eq p (i + 1) ≡ t → t ≡ (nat_lt p (length trace) && t)
    inner i lt p true is = let same : p ≡ i + 1 = eqb_yes (subst T (sym is) tt) in sym (ap (λ q. nat_lt q (length trace) && true) same ∙ ap (λ b. b && true) lt)
    inner i lt p false is = sym (and-false (nat_lt p (length trace)) false refl)

    outer : (i : ℕ) → nat_lt (i + 1) (length trace) ≡ false → (p : ℕ) → (t : Bool) → nat_eq p (i + 1) ≡ t → (nat_lt p (length trace) && t) ≡ false
    outer i ge p true is = let same : p ≡ i + 1 = eqb_yes (subst T (sym is) tt) in ap (λ q. nat_lt q (length trace) && true) same ∙ ap (λ b. b && true) ge
    outer i ge p false is = and-false (nat_lt p (length trace)) false refl

    by_end : (i : ℕ) (b : Bool) → place_of g trace ≡ Some i → nat_lt (i + 1) (length trace) ≡ b → given_up trace marks g ≡ filter (λ p. not (goes (is_own g) trace p)) marks
    by_end i true is lt =
        given-up-at trace marks g i true is lt
        ∙ filter_agree (λ p. not (nat_eq p (i + 1))) (λ p. not (goes (is_own g) trace p))
        (λ p. ap not (inner i lt p (nat_eq p (i + 1)) refl ∙ ap (λ b. nat_lt p (length trace) && b) (sym (name-there trace g i p distinct is)))) marks
    by_end i false is ge =
        given-up-at trace marks g i false is ge
        ∙ sym (all-stay drops (λ p. ap (λ b. nat_lt p (length trace) && b) (name-there trace g i p distinct is) ∙ outer i ge p (nat_eq p (i + 1)) refl) marks)

    by_place : (o : Option ℕ) → place_of g trace ≡ o → given_up trace marks g ≡ filter (λ p. not (goes (is_own g) trace p)) marks
    by_place None is =
        ap (λ o. option_map_or (λ i. if nat_lt (i + 1) (length trace) then without (i + 1) marks else marks) o marks) is
        ∙ sym (all-stay drops (λ p. and-false (nat_lt p (length trace)) (is_named (is_own g) (name_at trace p)) (name-nowhere trace g p is)) marks)
    by_place (Some i) is = by_end i (nat_lt (i + 1) (length trace)) is refl

-- one after the other
stay-both : (f h : ℕ → Bool) (ps : List ℕ) → filter (λ p. not (h p)) (filter (λ p. not (f p)) ps) ≡ filter (λ p. not (f p || h p)) ps
stay-both f h [] = refl
stay-both f h (p ∷ ps) = elim (f p) as (λ b. filter (λ q. not (h q)) (cond (not b) (p ∷ filter (λ q. not (f q)) ps) (filter (λ q. not (f q)) ps))
    ≡ cond (not (b || h p)) (p ∷ filter (λ q. not (f q || h q)) ps) (filter (λ q. not (f q || h q)) ps)) [
      | true ↦ stay-both f h ps
      | false ↦ ap (λ qs. cond (not (h p)) (p ∷ qs) qs) (stay-both f h ps)
    ]

is_named-none : (o : Option ℕ) → is_named (λ _. false) o ≡ false
is_named-none None = refl
is_named-none (Some id) = refl

is_named-or : (f h : ℕ → Bool) (o : Option ℕ) → (is_named f o || is_named h o) ≡ is_named (λ id. f id || h id) o
is_named-or f h None = refl
is_named-or f h (Some id) = refl

and-or : (a b c : Bool) → ((a && b) || (a && c)) ≡ (a && (b || c))
and-or true b c = refl
and-or false b c = refl

goes-or : (f h : ℕ → Bool) (trace : List Operation) (p : ℕ) → (goes f trace p || goes h trace p) ≡ goes (λ id. f id || h id) trace p
goes-or f h trace p =
    and-or (nat_lt p (length trace)) (is_named f (name_at trace p)) (is_named h (name_at trace p)) ∙ ap (λ b. nat_lt p (length trace) && b) (is_named-or f h (name_at trace p))

-- what names give up one after another is what they give up at once
pub given_up-all : (trace : List Operation) (names marks : List ℕ) → IsTrue (has_distinct_numbers trace) → fold (given_up trace) marks names ≡ filter (λ p. not (goes (among names) trace p)) marks
given_up-all trace [] marks distinct =
    sym (all-stay (λ p. goes (λ _. false) trace p) (λ p. and-false (nat_lt p (length trace)) (is_named (λ _. false) (name_at trace p)) (is_named-none (name_at trace p))) marks)
given_up-all trace (g ∷ names) marks distinct =
    let first : ℕ → Bool = λ p. goes (is_own g) trace p in
    let later : ℕ → Bool = λ p. goes (among names) trace p in
    given_up-all trace names (given_up trace marks g) distinct
    ∙ ap (filter (λ p. not (later p))) (given_up-is trace marks g distinct)
    ∙ stay-both first later marks
    ∙ filter_agree (λ p. not (first p || later p)) (λ p. not (goes (among (g ∷ names)) trace p))
    (λ p. ap not (goes-or (is_own g) (among names) trace p)) marks

is_named-same : (f h : ℕ → Bool) → ((id : ℕ) → f id ≡ h id) → (o : Option ℕ) → is_named f o ≡ is_named h o
is_named-same f h same None = refl
is_named-same f h same (Some id) = same id

-- another test for the same names
pub goes-same : (f h : ℕ → Bool) (trace : List Operation) → ((id : ℕ) → f id ≡ h id) → (ps : List ℕ) → filter (λ p. not (goes f trace p)) ps ≡ filter (λ p. not (goes h trace p)) ps
goes-same f h trace same ps = filter_agree (λ p. not (goes f trace p)) (λ p. not (goes h trace p)) (λ p. ap (λ b. not (nat_lt p (length trace) && b)) (is_named-same f h same (name_at trace p))) ps
