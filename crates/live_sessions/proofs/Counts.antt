-- How many entries each session has, after one entry more.
use Rattle.std.proofs.Common.{◌≡◌, ◌≢◌, ℕ, ◌+◌, ◌≤◌, ◌<◌, ◌==◌, set, Bool, true, false, List, [], ◌∷◌, ◌++◌, length, sym, ap, ◌∙◌, subst, arith}
use Rattle.std.proofs.lemmas.Bool.Decides.{nat_tests}
use Rattle.std.specs.List.{All}
use Rattle.std.proofs.lemmas.List.Elements.{All-nil, All-cons}
use Rattle.edit_desk.specs.declared.entries.Entry.{Entry}
use Rattle.std.specs.Prelude.{slice_index}
use Rattle.std.proofs.Math.ListN.{length-set}
use Rattle.std.proofs.lemmas.List.{get_or-set_same, get_or-set_other}
use native.Mathlib.Decide.{ℕ_discrete}
use Rattle.live_sessions.specs.Desks.{IsCounted}
use Rattle.live_sessions.specs.Fronts.{one_if, count_of}
use Rattle.live_sessions.proofs.Prefixes.{all_more}
use Rattle.live_sessions.specs.declared.limits.TheConstants.{PLACES}

pub count_of-append : (s : ℕ) (g h : List Entry) → count_of s (g ++ h) ≡ count_of s g + count_of s h
count_of-append s [] h = omega arith
count_of-append s (x ∷ xs) h = omega (arith, count_of-append s xs h)

one_if_le : (b : Bool) → one_if b ≤ 1
one_if_le true = omega arith
one_if_le false = omega arith

pub count_of-le-length : (s : ℕ) (h : List Entry) → count_of s h ≤ length h
count_of-le-length s [] = omega arith
count_of-le-length s (x ∷ xs) = omega (arith, count_of-le-length s xs, one_if_le (x.session == s))

pub one_if-same : (n : ℕ) → one_if (n == n) ≡ 1
one_if-same n = grind (arith, nat_tests)

other_one : (n s : ℕ) → one_if (n == s) ≡ 0 → n ≢ s
other_one n s z e = let w = one_if-same n in let q : one_if (n == n) ≡ one_if (n == s) = ap (λ k. one_if (n == k)) e in absurd (omega arith)

pub one_if-other : (n s : ℕ) → n ≢ s → one_if (n == s) ≡ 0
one_if-other n s apart = grind (arith, nat_tests)

-- no entry of the session: all are of others
pub all_others : (s : ℕ) (h : List Entry) → count_of s h ≡ 0 → All (λ e. e.session ≢ s) h
all_others s [] z = All-nil (λ (e : Entry). e.session ≢ s)
all_others s (x ∷ xs) z = All-cons (λ (e : Entry). e.session ≢ s) x xs (other_one x.session s (omega arith)) (all_others s xs (omega arith))

-- the numbers of entries after one more
pub counted-more : (counts : List ℕ) (h : List Entry) (e : Entry) → e.session < PLACES → IsCounted counts h → IsCounted (set counts e.session (slice_index counts e.session + 1)) (h ++ e ∷ [])
counted-more counts h e small c = record {
  places = simp length-set c.places;
  numbers = λ s le. by_case s le (ℕ_discrete s e.session);
  sessions = all_more (λ (x : Entry). x.session < PLACES) h e c.sessions small;
}
  where
    by_case : (s : ℕ) → s < PLACES → Dec (s ≡ e.session) → slice_index (set counts e.session (slice_index counts e.session + 1)) s ≡ count_of s (h ++ e ∷ [])
    by_case s le (yes same) =
        subst (λ (k : ℕ). slice_index (set counts e.session (slice_index counts e.session + 1)) k ≡ count_of k (h ++ e ∷ [])) (sym same)
        (get_or-set_same counts e.session _ 0 (omega (arith, c.places)) ∙ omega (arith, c.numbers e.session small, count_of-append e.session h (e ∷ []), one_if-same e.session))
    by_case s le (no apart) =
        get_or-set_other counts e.session s _ 0 apart ∙ (c.numbers s le ∙ omega (arith, count_of-append s h (e ∷ []), one_if-other e.session s (λ k. apart (sym k))))

pub one_if_is : (n s : ℕ) → n ≡ s → one_if (n == s) ≡ 1
one_if_is n s e = grind (arith, nat_tests)
