-- Lives of which events tell more and more.
use Rattle.std.proofs.Common.{◌≡◌, ◌∙◌, ℕ, zero, suc, ◌+◌, ◌<◌, ◌≤◌, List, [], ◌∷◌, ◌++◌, map, length, get_or, take, Result, Ok, Err, refl, sym, ap, subst, arith, inl, inr}
use Rattle.std.specs.Prelude.{◌==◌, Option, Some, None, if◌then◌else◌, slice_set, slice_index_or, true, false, MatchOption}
use Rattle.std.specs.Option.{option_or}
use Rattle.std.specs.Result.{result_ok}
use Rattle.std.specs.Ordering.{nat_cmp, ordering_index}
use Rattle.std.specs.List.Sorted.{IsBinarySearchResult, IsSearchInRange, IsNonDecreasingBy, IsStrictlySortedBy}
use Rattle.std.proofs.lemmas.Cmp.{ranked}
use Rattle.std.proofs.lemmas.List.{get_or-map, length-map, take_at, take_more, map-append}
use Rattle.std.proofs.lemmas.List.Sorted.{IsNonDecreasingBy-from_default}
use Rattle.std.proofs.lemmas.List.Kept.{AllPairs-from_increasing}
use Rattle.std.proofs.lemmas.Map.Keys.{IsStrictlyIncreasing-from_sorted}
use Rattle.std.proofs.lemmas.Bool.{cases_lt}
use Rattle.std.proofs.lemmas.Bool.Decides.{nat_tests}
use Rattle.trace_types.specs.declared.outcomes.Event.{Event}
use Rattle.trace_types.specs.declared.outcomes.Event.TheVariants as event
use Rattle.trace_types.specs.declared.outcomes.Outcome.{Outcome}
use Rattle.leak_report.specs.declared.lives.Ending.{Ending}
use Rattle.leak_report.specs.declared.lives.Ending.TheVariants as ending
use Rattle.leak_report.specs.declared.lives.Life.{Life}
use Rattle.leak_report.specs.Lives.{ending_at, freed_at, first_ending, first_freed, numbered, events_of, life_of, life_by}
use Rattle.leak_report.specs.Told.{HasRisingObjects, HasNone, begins, ends, gives_up, told_by, told_by_all}
use Rattle.leak_report.proofs.LifeLemmas.{option_or-none, option_or-assoc, first_some-append}

-- ---- one life

abbrev life : ℕ → Option Ending → Option ℕ → Life
life o e f = record { object = o; ending = e; freed = f }

alike : (o : ℕ) {e e' : Option Ending} {f f' : Option ℕ} → e ≡ e' → f ≡ f' → life o e f ≡ life o e' f'
alike o {e} {e'} {f} {f'} p q = ap (λ x. life o x f) p ∙ ap (λ y. life o e' y) q

told_none : (l : Life) → told_by_all [] l ≡ l
told_none l = alike l.object (option_or-none l.ending) (option_or-none l.freed)

told_one : (e : ℕ × Event) (l : Life) → told_by e l ≡ told_by_all (e ∷ []) l
told_one e l = alike l.object (ap (option_or l.ending) (sym (option_or-none (ending_at l.object e)))) (ap (option_or l.freed) (sym (option_or-none (freed_at l.object e))))

told_both : (xs ys : List (ℕ × Event)) (l : Life) → told_by_all ys (told_by_all xs l) ≡ told_by_all (xs ++ ys) l
told_both xs ys l = alike l.object
    (option_or-assoc l.ending (first_ending l.object xs) (first_ending l.object ys) ∙ ap (option_or l.ending) (sym (first_some-append (ending_at l.object) xs ys)))
    (option_or-assoc l.freed (first_freed l.object xs) (first_freed l.object ys) ∙ ap (option_or l.freed) (sym (first_some-append (freed_at l.object) xs ys)))

-- one event more of an operation
pub numbered_more : (id : ℕ) (es : List Event) (i : ℕ) (d : Event) → i < length es → numbered id (take (i + 1) es) ≡ numbered id (take i es) ++ (id, get_or es i d) ∷ []
numbered_more id es i d h = ap (numbered id) (take_more es i d h) ∙ map-append (λ (e : Event). (id, e)) (take i es) (get_or es i d ∷ [])

-- ---- all lives

pub all_told_none : (ls : List Life) → map (told_by_all []) ls ≡ ls
all_told_none [] = refl
all_told_none (l ∷ ls) = ap (λ x. x ∷ map (told_by_all []) ls) (told_none l) ∙ ap (λ xs. l ∷ xs) (all_told_none ls)

pub all_told_both : (xs ys : List (ℕ × Event)) (ls : List Life) → map (told_by_all ys) (map (told_by_all xs) ls) ≡ map (told_by_all (xs ++ ys)) ls
all_told_both xs ys [] = refl
all_told_both xs ys (l ∷ ls) = ap (λ x. x ∷ map (told_by_all ys) (map (told_by_all xs) ls)) (told_both xs ys l) ∙ ap (λ zs. told_by_all (xs ++ ys) l ∷ zs) (all_told_both xs ys ls)

pub all_told_more : (xs : List (ℕ × Event)) (e : ℕ × Event) (ls : List Life) → map (told_by e) (map (told_by_all xs) ls) ≡ map (told_by_all (xs ++ e ∷ [])) ls
all_told_more xs e [] = refl
all_told_more xs e (l ∷ ls) =
    ap (λ x. x ∷ map (told_by e) (map (told_by_all xs) ls)) (told_one e (told_by_all xs l) ∙ told_both xs (e ∷ []) l)
    ∙ ap (λ zs. told_by_all (xs ++ e ∷ []) l ∷ zs) (all_told_more xs e ls)

pub all_alike : (f g : Life → Life) → ((l : Life) → f l ≡ g l) → (ls : List Life) → map f ls ≡ map g ls
all_alike f g same [] = refl
all_alike f g same (l ∷ ls) = ap (λ x. x ∷ map f ls) (same l) ∙ ap (λ xs. g l ∷ xs) (all_alike f g same ls)

-- ---- one event

pub destroyed_told : (id o : ℕ) (ls : List Life) → map (ends o (ending.Destroyed id)) ls ≡ map (told_by (id, event.Destroyed o)) ls
destroyed_told id o = all_alike _ _ (λ l. alike l.object refl (sym (option_or-none l.freed)))

pub unwrapped_told : (id o : ℕ) (ls : List Life) → map (ends o (ending.Unwrapped id)) ls ≡ map (told_by (id, event.Unwrapped o)) ls
unwrapped_told id o = all_alike _ _ (λ l. alike l.object refl (sym (option_or-none l.freed)))

pub moved_told : (id o : ℕ) (ls : List Life) → map (ends o (ending.Moved id)) ls ≡ map (told_by (id, event.Moved o)) ls
moved_told id o = all_alike _ _ (λ l. alike l.object refl (sym (option_or-none l.freed)))

pub freed_told : (id o : ℕ) (ls : List Life) → map (gives_up o id) ls ≡ map (told_by (id, event.Freed o)) ls
freed_told id o = all_alike _ _ (λ l. alike l.object (sym (option_or-none l.ending)) refl)

-- ---- rising objects

pub begin_rising : (os : List ℕ) → IsStrictlySortedBy nat_cmp os → HasRisingObjects (map begins os)
begin_rising os sorted i j d before within =
    let inside : j < length os = omega (arith, within, length-map os begins) in
    rw (get_or-map begins os i 0 d (omega (arith, before, inside)), get_or-map begins os j 0 d inside)
    (AllPairs-from_increasing os (IsStrictlyIncreasing-from_sorted os sorted) i j 0 before inside)

pub goes_on_rising : (f : Life → Life) (ls : List Life) → ((l : Life) → (f l).object ≡ l.object) → HasRisingObjects ls → HasRisingObjects (map f ls)
goes_on_rising f ls same rising i j d before within =
    let inside : j < length ls = omega (arith, within, length-map ls f) in
    rw (get_or-map f ls i d d (omega (arith, before, inside)), get_or-map f ls j d d inside, same (get_or ls i d), same (get_or ls j d)) (rising i j d before inside)

pub told_rising : (es : List (ℕ × Event)) (ls now : List Life) → now ≡ map (told_by_all es) ls → HasRisingObjects ls → HasRisingObjects now
told_rising es ls now is rising = subst HasRisingObjects (sym is) (goes_on_rising (told_by_all es) ls (λ l. refl) rising)

-- ---- the life of one object

module _ (o : ℕ) (ls : List Life) (rising : HasRisingObjects ls) where
  comparisons_rise : Life → IsNonDecreasingBy (λ l. ordering_index (nat_cmp l.object o)) ls
  comparisons_rise d = IsNonDecreasingBy-from_default (λ l. ordering_index (nat_cmp l.object o)) ls d (λ i j le within.
      let objects_rise : (get_or ls i d).object ≤ (get_or ls j d).object = grind (arith, rising i j d, λ (same : i ≡ j). ap (λ k. (get_or ls k d).object) same) in
      grind (arith, nat_tests))

  pub found : (i : ℕ) (d : Life) → i < length ls → IsBinarySearchResult (λ l. nat_cmp l.object o) ls (Ok i) → (get_or ls i d).object ≡ o
  found i d within equal = ranked _ o _ (sym (equal d))

  pub missed : (i : ℕ) → IsBinarySearchResult (λ l. nat_cmp l.object o) ls (Err i) → HasNone o ls
  missed i parted j e is_within is = elim (cases_lt j i) [
    | inl before ↦ omega (arith, ranked _ o _ (sym ((parted (comparisons_rise e)).0 j e (omega arith) before)), is)
    | inr behind ↦ omega (arith, ranked _ o _ (sym ((parted (comparisons_rise e)).1 j e behind is_within)), is)
  ]

-- what a binary search finds
pub placed : (o : ℕ) (ls : List Life) (r : Result ℕ ℕ) (place : Option ℕ) → HasRisingObjects ls → place ≡ result_ok r → IsSearchInRange r (length ls) → IsBinarySearchResult (λ l. nat_cmp l.object o) ls r
    → MatchOption place (HasNone o ls) (λ i. (i < length ls) × ((d : Life) → (slice_index_or ls i d).object ≡ o))
placed o ls (Ok i) place rising is within equal = subst (λ p. MatchOption p (HasNone o ls) (λ i. (i < length ls) × ((d : Life) → (slice_index_or ls i d).object ≡ o))) (sym is) (within, λ d. found o ls rising i d within equal)
placed o ls (Err i) place rising is within parted = subst (λ p. MatchOption p (HasNone o ls) (λ i. (i < length ls) × ((d : Life) → (slice_index_or ls i d).object ≡ o))) (sym is) (missed o ls rising i parted)

default-free : (ls : List Life) (i : ℕ) (d e : Life) → i < length ls → get_or ls i d ≡ get_or ls i e
default-free [] i d e within = absurd (omega (arith, within))
default-free (l ∷ ls) zero d e within = refl
default-free (l ∷ ls) (suc i) d e within = default-free ls i d e (omega (arith, within))

-- ---- one life of them

module _ (f : Life → Life) (o : ℕ) (stays : (l : Life) → (l.object ≡ o → ⊥) → f l ≡ l) where
  pub others_stay : (ls : List Life) → HasNone o ls → map f ls ≡ ls
  others_stay [] none = refl
  others_stay (l ∷ ls) none = ap (λ x. x ∷ map f ls) (stays l (none 0 l (omega arith))) ∙ ap (λ xs. l ∷ xs) (others_stay ls (λ i d within. none (suc i) d (omega (arith, within))))

  pub one_changes : (ls : List Life) (i : ℕ) (new : Life) → HasRisingObjects ls → i < length ls → (get_or ls i new).object ≡ o → new ≡ f (get_or ls i new) → slice_set ls i new ≡ map f ls
  one_changes [] i new rising within at is = absurd (omega (arith, within))
  one_changes (l ∷ ls) zero new rising within at is =
      ap (λ x. x ∷ ls) is ∙ ap (λ xs. f l ∷ xs) (sym (others_stay ls (λ j d inside same. omega (arith, rising 0 (suc j) d (omega arith) (omega (arith, inside)), same, at))))
  one_changes (l ∷ ls) (suc i) new rising within at is =
      ap (λ x. x ∷ slice_set ls i new) (sym (stays l (λ same. omega (arith, rising 0 (suc i) new (omega arith) (omega (arith, within)), same, at))))
      ∙ ap (λ xs. f l ∷ xs) (one_changes ls i new (λ j k d before inside. rising (suc j) (suc k) d (omega (arith, before)) (omega (arith, inside))) (omega (arith, within)) at is)

pub ends_stays : (o : ℕ) (e : Ending) (l : Life) → (l.object ≡ o → ⊥) → ends o e l ≡ l
ends_stays o e l other =
    let apart : (o == l.object) ≡ false = grind (arith, nat_tests, other) in
    alike l.object (ap (λ b. option_or l.ending (if b then Some e else None)) apart ∙ option_or-none l.ending) refl

pub gives_up_stays : (o id : ℕ) (l : Life) → (l.object ≡ o → ⊥) → gives_up o id l ≡ l
gives_up_stays o id l other =
    let apart : (o == l.object) ≡ false = grind (arith, nat_tests, other) in
    alike l.object refl (ap (λ b. option_or l.freed (if b then Some id else None)) apart ∙ option_or-none l.freed)

-- what stands for one life of an object is that life with what is told
pub one_ends : (o : ℕ) (e : Ending) (ls : List Life) (i : ℕ) (d : Life) (ending : Option Ending) → HasRisingObjects ls → i < length ls → ((d : Life) → (get_or ls i d).object ≡ o) → ending ≡ option_or (get_or ls i d).ending (Some e)
    → slice_set ls i (life (get_or ls i d).object ending (get_or ls i d).freed) ≡ map (ends o e) ls
one_ends o e ls i d ending rising within at is =
    let new = life (get_or ls i d).object ending (get_or ls i d).freed in
    let same : get_or ls i new ≡ get_or ls i d = default-free ls i new d within in
    let here : (o == (get_or ls i d).object) ≡ true = grind (arith, nat_tests, at d) in
    one_changes (ends o e) o (ends_stays o e) ls i new rising within (at new)
    (alike (get_or ls i d).object (is ∙ ap (λ b. option_or (get_or ls i d).ending (if b then Some e else None)) (sym here)) refl ∙ ap (ends o e) (sym same))

pub one_gives_up : (o id : ℕ) (ls : List Life) (i : ℕ) (d : Life) (freed : Option ℕ) → HasRisingObjects ls → i < length ls → ((d : Life) → (get_or ls i d).object ≡ o) → freed ≡ option_or (get_or ls i d).freed (Some id)
    → slice_set ls i (life (get_or ls i d).object (get_or ls i d).ending freed) ≡ map (gives_up o id) ls
one_gives_up o id ls i d freed rising within at is =
    let new = life (get_or ls i d).object (get_or ls i d).ending freed in
    let same : get_or ls i new ≡ get_or ls i d = default-free ls i new d within in
    let here : (o == (get_or ls i d).object) ≡ true = grind (arith, nat_tests, at d) in
    one_changes (gives_up o id) o (gives_up_stays o id) ls i new rising within (at new)
    (alike (get_or ls i d).object refl (is ∙ ap (λ b. option_or (get_or ls i d).freed (if b then Some id else None)) (sym here)) ∙ ap (gives_up o id) (sym same))

-- ---- from the first event to the last

-- a list that was borrowed to be changed, as long as it was
pub given_back : (new : List Life) (rest : List Life) (len : ℕ) → length new ≡ len → take len (new ++ rest) ≡ new
given_back new rest len same = take_at new rest len same

pub is_lived : (es : List (ℕ × Event)) (os : List ℕ) → map (told_by_all es) (map begins os) ≡ map (life_by es) os
is_lived es [] = refl
is_lived es (o ∷ os) = ap (λ xs. life_by es o ∷ xs) (is_lived es os)

pub is_life : (outs : List Outcome) (os : List ℕ) → map (told_by_all (events_of outs)) (map begins os) ≡ map (life_of outs) os
is_life outs [] = refl
is_life outs (o ∷ os) = ap (λ xs. life_of outs o ∷ xs) (is_life outs os)
