-- Handles that fields name.
use Rattle.std.proofs.Common.{◌≡◌, ℕ, ◌+◌, ◌<◌, List, [], ◌∷◌, ◌++◌, length, take, drop, get_or, refl, ap, ◌∙◌, sym, Bool, true, false}
use Rattle.std.specs.Prelude.{◌==◌, ◌||◌, Option, Some, if◌then◌else◌}
use Rattle.std.specs.List.{list_any}
use Rattle.std.proofs.lemmas.List.{drop_more, take_more}
use Rattle.trace_types.specs.declared.kinds.Field.{Field}
use Rattle.trace_types.specs.declared.kinds.Field.TheVariants as field
use Rattle.ownership_model.specs.View.{held_fields, repeated_in}

-- the handles that were met, the last one first
abbrev pub met : List ℕ → List Field → List ℕ
met before [] = before
met before (field.Held h ∷ fs) = met (h ∷ before) fs
met before (field.Null ∷ fs) = met before fs
met before (field.Me ∷ fs) = met before fs

swap : (a b c : Bool) → ((a || b) || c) ≡ (b || (a || c))
swap true true c = refl
swap true false c = refl
swap false true c = refl
swap false false c = refl

no_more : (b : Bool) → b ≡ (b || false)
no_more true = refl
no_more false = refl

-- one of them is the handle where it was one before or is one of the fields
met-any : (h : ℕ) (fs : List Field) (before : List ℕ) → list_any (λ b. b == h) (met before fs) ≡ (list_any (λ b. b == h) before || list_any (λ b. b == h) (held_fields fs))
met-any h [] before = no_more (list_any (λ b. b == h) before)
met-any h (field.Held k ∷ fs) before = met-any h fs (k ∷ before) ∙ swap (k == h) (list_any (λ b. b == h) before) (list_any (λ b. b == h) (held_fields fs))
met-any h (field.Null ∷ fs) before = met-any h fs before
met-any h (field.Me ∷ fs) before = met-any h fs before

met-append : (fs : List Field) (more : List Field) (before : List ℕ) → met before (fs ++ more) ≡ met (met before fs) more
met-append [] more before = refl
met-append (field.Held k ∷ fs) more before = met-append fs more (k ∷ before)
met-append (field.Null ∷ fs) more before = met-append fs more before
met-append (field.Me ∷ fs) more before = met-append fs more before

or_none : (a b : Bool) → ((a || false) || b) ≡ (a || b)
or_none true b = refl
or_none false b = refl

met_with : (h to : ℕ) (fs : List Field) → list_any (λ b. b == h) (met (to ∷ []) fs) ≡ list_any (λ b. b == h) (to ∷ held_fields fs)
met_with h to fs = met-any h fs (to ∷ []) ∙ or_none (to == h) (list_any (λ b. b == h) (held_fields fs))

-- the first handle that repeats one, from a place on
abbrev pub repeated_from : ℕ → List Field → ℕ → Option ℕ
repeated_from to fs i = repeated_in (met (to ∷ []) (take i fs)) (held_fields (drop i fs))

found : (to h : ℕ) (front rest : List Field) → list_any (λ b. b == h) (to ∷ held_fields front) ≡ true → repeated_in (met (to ∷ []) front) (held_fields (field.Held h ∷ rest)) ≡ Some h
found to h front rest e = ap (λ b. if b then Some h else repeated_in (h ∷ met (to ∷ []) front) (held_fields rest)) (met_with h to front ∙ e)

passed : (to h : ℕ) (front rest : List Field) → list_any (λ b. b == h) (to ∷ held_fields front) ≡ false
    → repeated_in (met (to ∷ []) front) (held_fields (field.Held h ∷ rest)) ≡ repeated_in (met (to ∷ []) (front ++ field.Held h ∷ [])) (held_fields rest)
passed to h front rest e =
    ap (λ b. if b then Some h else repeated_in (h ∷ met (to ∷ []) front) (held_fields rest)) (met_with h to front ∙ e)
    ∙ ap (λ before. repeated_in before (held_fields rest)) (sym (met-append front (field.Held h ∷ []) (to ∷ [])))

passed_other : (to : ℕ) (f : Field) (front rest : List Field) → ((h : ℕ) → f ≡ field.Held h → ⊥)
    → repeated_in (met (to ∷ []) front) (held_fields (f ∷ rest)) ≡ repeated_in (met (to ∷ []) (front ++ f ∷ [])) (held_fields rest)
passed_other to (field.Held h) front rest other = absurd (other h refl)
passed_other to field.Null front rest other = ap (λ before. repeated_in before (held_fields rest)) (sym (met-append front (field.Null ∷ []) (to ∷ [])))
passed_other to field.Me front rest other = ap (λ before. repeated_in before (held_fields rest)) (sym (met-append front (field.Me ∷ []) (to ∷ [])))

pub repeated_from-found : (to h : ℕ) (fs : List Field) (i : ℕ) (d : Field) → i < length fs → get_or fs i d ≡ field.Held h → list_any (λ b. b == h) (to ∷ held_fields (take i fs)) ≡ true
    → repeated_from to fs i ≡ Some h
repeated_from-found to h fs i d in' is e =
    ap (λ rest. repeated_in (met (to ∷ []) (take i fs)) (held_fields rest)) (drop_more fs i d in' ∙ ap (λ (f : Field). f ∷ drop (i + 1) fs) is)
    ∙ found to h (take i fs) (drop (i + 1) fs) e

later : (to : ℕ) (fs : List Field) (i : ℕ) (d f : Field) → i < length fs → get_or fs i d ≡ f
    → repeated_in (met (to ∷ []) (take i fs)) (held_fields (f ∷ drop (i + 1) fs)) ≡ repeated_in (met (to ∷ []) (take i fs ++ f ∷ [])) (held_fields (drop (i + 1) fs))
    → repeated_from to fs i ≡ repeated_from to fs (i + 1)
later to fs i d f in' is e =
    ap (λ rest. repeated_in (met (to ∷ []) (take i fs)) (held_fields rest)) (drop_more fs i d in' ∙ ap (λ (g : Field). g ∷ drop (i + 1) fs) is)
    ∙ e ∙ sym (ap (λ front. repeated_in (met (to ∷ []) front) (held_fields (drop (i + 1) fs))) (take_more fs i d in' ∙ ap (λ (g : Field). take i fs ++ g ∷ []) is))

pub repeated_from-passed : (to h : ℕ) (fs : List Field) (i : ℕ) (d : Field) → i < length fs → get_or fs i d ≡ field.Held h → list_any (λ b. b == h) (to ∷ held_fields (take i fs)) ≡ false
    → repeated_from to fs i ≡ repeated_from to fs (i + 1)
repeated_from-passed to h fs i d in' is e = later to fs i d (field.Held h) in' is (passed to h (take i fs) (drop (i + 1) fs) e)

pub repeated_from-other : (to : ℕ) (fs : List Field) (i : ℕ) (d : Field) → i < length fs → ((h : ℕ) → get_or fs i d ≡ field.Held h → ⊥) → repeated_from to fs i ≡ repeated_from to fs (i + 1)
repeated_from-other to fs i d in' other = later to fs i d (get_or fs i d) in' refl (passed_other to (get_or fs i d) (take i fs) (drop (i + 1) fs) other)
