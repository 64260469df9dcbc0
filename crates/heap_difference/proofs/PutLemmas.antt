-- How the new scopes are made out of the old ones, and that this stays so over operations that touch nothing of it.
use Rattle.std.proofs.Common.{◌≡◌, ℕ, List, [], ◌∷◌, ◌++◌, refl, ap, ◌∙◌, sym, subst, Bool, true, false}
use mathlib.Core.Logic.{⊎_elim}
use Rattle.std.specs.Prelude.{◌==◌, ◌||◌, ◌&&◌, Option, Some, None, if◌then◌else◌, filter, not, is_some, option_to_list, IsTrue}
use Rattle.std.specs.List.{AllByRecursion, list_any}
use Rattle.std.specs.FinMap.{get}
use Rattle.trace_types.specs.declared.slots.Scoped.{Scoped}
use Rattle.trace_types.specs.declared.slots.Holding.{Holding}
use Rattle.trace_types.specs.declared.kinds.Kind.{Kind}
use Rattle.trace_types.specs.Operation.{Operation}
use Rattle.ownership_model.specs.declared.key.Key.{Key}
use Rattle.ownership_model.specs.declared.key.Key.TheVariants.{Handle, Cell, Object, Scope}
use Rattle.ownership_model.specs.Reach.{has}
use Rattle.ownership_model.specs.State.{State, IsSound}
use Rattle.ownership_model.specs.Scopes.{scope_of, times_held}
use Rattle.trace_types.specs.Trace.{has_distinct_numbers}
use Rattle.ownership_model.specs.Step.{end_from, AreUnused}
use Rattle.ownership_model.specs.Alike.{AreAlike, AreWithin, ScopesMoveAlike}
use Rattle.ownership_model.specs.Footprint.{footprints_from, moved_from}
use Rattle.ownership_model.specs.FootprintLaws.{ReplaysAlike}
use Rattle.ownership_model.proofs.Counting.{same_number}
use Rattle.ownership_model.proofs.Searching.{has-append}
use Rattle.ownership_model.proofs.LawsHold.{footprints, soundness}
use Rattle.object_heap.specs.Links.{first_of, label_in, under, put_above}
use Rattle.object_heap.proofs.UnderLemmas.{AreOnce, absent}
use Rattle.heap_difference.specs.declared.key_set.KeySet.{KeySet}
use Rattle.object_heap.specs.declared.put.Put.{Put}
use Rattle.heap_difference.specs.KeySets.{is_among}
use Rattle.heap_difference.specs.Differences.{outside, less}
use Rattle.heap_difference.specs.Puts.{put_all, ArePuts, PutsMakeScopes, AreUndersApart, DoUndersStay, unders, PutsStay}
use Rattle.heap_difference.specs.Endings.{may_end, may_end_any}
use Rattle.heap_difference.proofs.Tests.{clash, not_false, not_true, is_false, left_false, right_false, or_right, has_first, filter_keeps, filter_drops, filter_all, filter_skip}
use Rattle.heap_difference.proofs.ScopeLemmas.{after, distinct_scope, some_same, in_own, in_no_other, label_of_member, under_after, filter_same, filter_put, filter_has}
use Rattle.heap_difference.proofs.FoundLemmas.{once_sound}
use Rattle.heap_difference.proofs.EndingLemmas.{KindKeeps, AreHeld, but, run_moves}
use Rattle.heap_difference.proofs.LawLemmas.{meet_none, within_front}

-- ---- the scopes that are made
-- what a sound state doesn't hold stands in no scope of it
unheld : (m : State) → IsSound m [] → (h t : ℕ) → get m.handles h ≡ None → has h (scope_of t m.scopes) ≡ false
unheld m sound h t none = absent h t m.scopes (sound.scopes.once h ∙ ap times_held none)

pub without : (k : ℕ → Bool) (m : State) → IsSound m [] → ((h : ℕ) → k h ≡ true → get m.handles h ≡ None) → (t : ℕ) → filter (λ g. not (k g)) (scope_of t m.scopes) ≡ scope_of t m.scopes
without k m sound none t = filter_all (λ g. not (k g)) (scope_of t m.scopes) (λ h here. not_false (k h) (at h here (k h) refl))
  where
    at : (h : ℕ) → has h (scope_of t m.scopes) ≡ true → (b : Bool) → k h ≡ b → b ≡ false
    at h here true e = absurd (clash (has h (scope_of t m.scopes)) here (unheld m sound h t (none h e)))
    at h here false e = refl

-- one handle is put in
pub one_put : (k : ℕ → Bool) (m : State) (p : Put) → AreOnce m.scopes → k p.handle ≡ true → label_in p.handle m.scopes ≡ Some p.label
    → p.under ≡ first_of (filter (λ g. not (k g)) (under p.handle m.scopes)) → (t : ℕ)
    → (if p.label == t then put_above p.under p.handle (filter (λ g. not (k g)) (scope_of t m.scopes)) else filter (λ g. not (k g)) (scope_of t m.scopes))
    ≡ filter (λ g. not (less k p.handle g)) (scope_of t m.scopes)
one_put k m p once in_set label first t = at (p.label == t) refl
  where
    at : (b : Bool) → (p.label == t) ≡ b
        → (if b then put_above p.under p.handle (filter (λ g. not (k g)) (scope_of t m.scopes)) else filter (λ g. not (k g)) (scope_of t m.scopes)) ≡ filter (λ g. not (less k p.handle g)) (scope_of t m.scopes)
    at true e =
        let own : label_in p.handle m.scopes ≡ Some t = label ∙ ap (λ n. Some n) (same_number p.label t e) in
        ap (λ o. put_above o p.handle (filter (λ g. not (k g)) (scope_of t m.scopes))) (first ∙ ap (λ ys. first_of (filter (λ g. not (k g)) ys)) (under_after p.handle t m.scopes own))
        ∙ sym (filter_put k p.handle in_set (scope_of t m.scopes) (distinct_scope t m.scopes once) (in_own p.handle t m.scopes own))
    at false e = sym (filter_same k p.handle (scope_of t m.scopes) (in_no_other p.handle p.label t m.scopes once label e))

-- all are put in
all_put : (m : State) → IsSound m [] → (puts : List Put) (k : ℕ → Bool) → ArePuts k m puts → (t : ℕ) → put_all puts t (filter (λ g. not (k g)) (scope_of t m.scopes)) ≡ scope_of t m.scopes
all_put m sound [] k are t = without k m sound are t
all_put m sound (p ∷ ps) k are t =
    ap (put_all ps t) (one_put k m p (once_sound m sound) are.0 are.2 are.3 t)
    ∙ all_put m sound ps (less k p.handle) are.4 t

pub puts_make : PutsMakeScopes
puts_make k old new puts sound alike are t = sym (ap (put_all puts t) (alike t) ∙ all_put new sound puts k are t)

-- ---- over operations that touch nothing of it
and_false : (a b : Bool) → b ≡ false → (a && b) ≡ false
and_false true b e = e
and_false false b e = refl

pub alike_less : (j k : Key → Bool) (m n : State) → ((x : Key) → j x ≡ true → k x ≡ true) → AreAlike k m n → AreAlike j m n
alike_less j k m n fewer a = record {
  handles = λ h c. a.handles h (fewer (Handle h) c);
  cells = λ q c. a.cells q (fewer (Cell q) c);
  entries = λ o c. a.entries o (fewer (Object o) c);
  strongs = λ o c. a.strongs o (fewer (Object o) c);
  weaks = λ o c. a.weaks o (fewer (Object o) c);
  scopes = λ t c. a.scopes t (fewer (Scope t) c);
  within_scopes = λ t.
      sym (filter_skip (λ h. j (Handle h)) (λ h. k (Handle h)) (λ h. fewer (Handle h)) (scope_of t m.scopes))
      ∙ ap (filter (λ h. j (Handle h))) (a.within_scopes t)
      ∙ filter_skip (λ h. j (Handle h)) (λ h. k (Handle h)) (λ h. fewer (Handle h)) (scope_of t n.scopes);
}

-- behind handles that are not it
after_others : (h : ℕ) (ys xs : List ℕ) → has h ys ≡ false → after h (ys ++ xs) ≡ after h xs
after_others h [] xs none = refl
after_others h (y ∷ ys) xs none = at (y == h) refl none (λ e. after_others h ys xs e)
  where
    at : (b : Bool) → (y == h) ≡ b → (b || has h ys) ≡ false → (has h ys ≡ false → after h (ys ++ xs) ≡ after h xs) → (if b then ys ++ xs else after h (ys ++ xs)) ≡ after h xs
    at true e n rest = absurd cc
    at false e n rest = rest n

after_stays : (p : ℕ → Bool) (h : ℕ) (xs : List ℕ) → p h ≡ true → after h (filter p xs) ≡ filter p (after h xs)
after_stays p h [] stays = refl
after_stays p h (x ∷ xs) stays = at (x == h) (p x) refl refl (after_stays p h xs stays)
  where
    at : (b c : Bool) → (x == h) ≡ b → p x ≡ c → after h (filter p xs) ≡ filter p (after h xs) → after h (if c then x ∷ filter p xs else filter p xs) ≡ filter p (if b then xs else after h xs)
    at true true e f rest = ap (λ b. if b then filter p xs else after h (filter p xs)) e
    at true false e f rest = absurd (clash (p x) (ap p (same_number x h e) ∙ stays) f)
    at false true e f rest = ap (λ b. if b then filter p xs else after h (filter p xs)) e ∙ rest
    at false false e f rest = rest

-- the first that passes stays the first, where it isn't taken out
first_stays : (p q : ℕ → Bool) (xs : List ℕ) → ((b : ℕ) → first_of (filter p xs) ≡ Some b → q b ≡ true) → first_of (filter p (filter q xs)) ≡ first_of (filter p xs)
first_stays p q [] stays = refl
first_stays p q (x ∷ xs) stays = at (p x) (q x) refl refl stays (λ s. first_stays p q xs s)
  where
    at : (b c : Bool) → p x ≡ b → q x ≡ c → ((z : ℕ) → first_of (if b then x ∷ filter p xs else filter p xs) ≡ Some z → q z ≡ true)
        → (((z : ℕ) → first_of (filter p xs) ≡ Some z → q z ≡ true) → first_of (filter p (filter q xs)) ≡ first_of (filter p xs))
        → first_of (filter p (if c then x ∷ filter q xs else filter q xs)) ≡ first_of (if b then x ∷ filter p xs else filter p xs)
    at true true e f s rest = ap first_of (filter_keeps p x (filter q xs) e)
    at true false e f s rest = absurd (clash (q x) (s x refl) f)
    at false true e f s rest = ap first_of (filter_drops p x (filter q xs) e) ∙ rest s
    at false false e f s rest = rest s

none_of : (k : Key → Bool) (h : ℕ) (ys : List ℕ) → AllByRecursion (λ g. k (Handle g) ≡ true) ys → k (Handle h) ≡ false → has h ys ≡ false
none_of k h [] all isnt = refl
none_of k h (y ∷ ys) all isnt = at (y == h) refl (none_of k h ys all.1 isnt)
  where
    at : (b : Bool) → (y == h) ≡ b → has h ys ≡ false → (b || has h ys) ≡ false
    at true e rest = absurd (clash (k (Handle h)) (sym (ap (λ g. k (Handle g)) (same_number y h e)) ∙ all.0) isnt)
    at false e rest = rest

-- the first that passes is one of them
first_is : (p : ℕ → Bool) (xs : List ℕ) (z : ℕ) → first_of (filter p xs) ≡ Some z → has z xs ≡ true
first_is p [] z is = absurd cc
first_is p (x ∷ xs) z is = at (p x) is (λ e. first_is p xs z e)
  where
    at : (b : Bool) → first_of (if b then x ∷ filter p xs else filter p xs) ≡ Some z → (first_of (filter p xs) ≡ Some z → has z xs ≡ true) → has z (x ∷ xs) ≡ true
    at true e rest = subst (λ y. has y (x ∷ xs) ≡ true) (some_same x z e) (has_first x xs)
    at false e rest = or_right (x == z) (has z xs) (rest e)

-- what is behind another one is among them
behind_is : (h z : ℕ) (xs : List ℕ) → has z (after h xs) ≡ true → has z xs ≡ true
behind_is h z [] here = here
behind_is h z (x ∷ xs) here = or_right (x == z) (has z xs) (at (x == h) here (λ e. behind_is h z xs e))
  where
    at : (b : Bool) → has z (if b then xs else after h xs) ≡ true → (has z (after h xs) ≡ true → has z xs ≡ true) → has z xs ≡ true
    at true e rest = e
    at false e rest = rest e

-- a handle that stands in a scope of a sound state is held
held_there : (m : State) → IsSound m [] → (z t : ℕ) → has z (scope_of t m.scopes) ≡ true → is_some (get m.handles z) ≡ true
held_there m sound z t here = at (get m.handles z) refl
  where
    at : (x : Option Holding) → get m.handles z ≡ x → is_some x ≡ true
    at (Some x) is = refl
    at None is = absurd (clash (has z (scope_of t m.scopes)) here (unheld m sound z t is))

-- the handles under those that are put in are held
unders_held : (m : State) → IsSound m [] → (puts : List Put) (k : ℕ → Bool) → ArePuts k m puts → AreHeld (λ h. has h (unders puts)) m
unders_held m sound [] k are h here = absurd cc
unders_held m sound (p ∷ ps) k are h here = by p.under refl here (λ there. unders_held m sound ps (less k p.handle) are.4 h there)
  where
    at : (z : ℕ) → p.under ≡ Some z → (b : Bool) → (z == h) ≡ b → (b || has h (unders ps)) ≡ true → (has h (unders ps) ≡ true → is_some (get m.handles h) ≡ true) → is_some (get m.handles h) ≡ true
    at z is true e there rest =
        let first : first_of (filter (λ g. not (k g)) (under p.handle m.scopes)) ≡ Some h = sym are.3 ∙ is ∙ ap (λ n. Some n) (same_number z h e) in
        held_there m sound h p.label
        (behind_is p.handle h (scope_of p.label m.scopes) (ap (has h) (sym (under_after p.handle p.label m.scopes are.2)) ∙ first_is (λ g. not (k g)) (under p.handle m.scopes) h first))
    at z is false e there rest = rest there

    by : (o : Option ℕ) → p.under ≡ o → has h (option_to_list o ++ unders ps) ≡ true → (has h (unders ps) ≡ true → is_some (get m.handles h) ≡ true) → is_some (get m.handles h) ≡ true
    by None is there rest = rest there
    by (Some z) is there rest = at z is (z == h) refl there rest

-- where none of the operations may end one of the handles, what one may end is none of them
none_ends : (k : Kind) (us : List ℕ) → list_any (may_end k) us ≡ false → (h : ℕ) → may_end k h ≡ true → has h us ≡ false
none_ends k [] none h ends = refl
none_ends k (y ∷ us) none h ends = at (y == h) refl (none_ends k us (right_false (may_end k y) (list_any (may_end k) us) none) h ends)
  where
    at : (b : Bool) → (y == h) ≡ b → has h us ≡ false → (b || has h us) ≡ false
    at true e rest = absurd (clash (may_end k h) ends (sym (ap (may_end k) (same_number y h e)) ∙ left_false (may_end k y) (list_any (may_end k) us) none))
    at false e rest = rest

none_end : (ops : List Operation) (us : List ℕ) → may_end_any ops us ≡ false → AllByRecursion (λ op. KindKeeps (λ h. has h us) op.kind) ops
none_end [] us none = tt
none_end (op ∷ ops) us none = (
  none_ends op.kind us (left_false (list_any (may_end op.kind) us) (may_end_any ops us) none),
  none_end ops us (right_false (list_any (may_end op.kind) us) (may_end_any ops us) none),
)

-- the handles under those that are put in are outside of a set
abbrev Outside : (Key → Bool) → List Put → Type 0
Outside j [] = Unit {0}
Outside j (p ∷ ps) = ((b : ℕ) → p.under ≡ Some b → j (Handle b) ≡ false) × Outside j ps

module _ (j : Key → Bool) (m later : State) (a b : List Scoped) (sound : IsSound m []) (sound_later : IsSound later []) (moves : ScopesMoveAlike j a b m.scopes later.scopes) where
  label_stays : (h t : ℕ) → j (Handle h) ≡ false → label_in h m.scopes ≡ Some t → label_in h later.scopes ≡ Some t
  label_stays h t isnt is =
      label_of_member h t later.scopes (once_sound later sound_later)
      (ap (has h) (moves.second t) ∙ has-append h (moves.entered t) (filter moves.stays (scope_of t m.scopes))
      ∙ or_right (has h (moves.entered t)) (has h (filter moves.stays (scope_of t m.scopes))) (filter_has moves.stays h (scope_of t m.scopes) (moves.outside h isnt) (in_own h t m.scopes is)))

  under_stays : (p : ℕ → Bool) (h t : ℕ) → j (Handle h) ≡ false → label_in h m.scopes ≡ Some t → ((z : ℕ) → first_of (filter p (under h m.scopes)) ≡ Some z → j (Handle z) ≡ false)
      → first_of (filter p (under h later.scopes)) ≡ first_of (filter p (under h m.scopes))
  under_stays p h t isnt is apart =
      let scope : List ℕ = scope_of t m.scopes in
      let here : under h m.scopes ≡ after h scope = under_after h t m.scopes is in
      ap (λ ys. first_of (filter p ys))
      (under_after h t later.scopes (label_stays h t isnt is)
      ∙ ap (after h) (moves.second t)
      ∙ after_others h (moves.entered t) (filter moves.stays scope) (none_of j h (moves.entered t) (moves.within t) isnt)
      ∙ after_stays moves.stays h scope (moves.outside h isnt)
      ∙ ap (filter moves.stays) (sym here))
      ∙ first_stays p moves.stays (under h m.scopes) (λ z first. moves.outside z (apart z first))

  all_stay : (puts : List Put) (k : ℕ → Bool) → ((h : ℕ) → k h ≡ true → (j (Handle h) ≡ false) × (get later.handles h ≡ get m.handles h)) → Outside j puts → ArePuts k m puts → ArePuts k later puts
  all_stay [] k out apart are = λ h here. (out h here).1 ∙ are h here
  all_stay (p ∷ ps) k out apart are = (
    are.0,
    (out p.handle are.0).1 ∙ are.1,
    label_stays p.handle p.label (out p.handle are.0).0 are.2,
    are.3 ∙ sym (under_stays (λ g. not (k g)) p.handle p.label (out p.handle are.0).0 are.2 (λ z first. apart.0 z (are.3 ∙ first))),
    all_stay ps (less k p.handle) (λ h here. out h (was h (p.handle == h) here)) apart.1 are.4,
  )
    where
      was : (h : ℕ) (c : Bool) → (if c then false else k h) ≡ true → k h ≡ true
      was h true t = absurd cc
      was h false t = t

-- so they are where none is touched, and where those that end are left out of the set
outside_apart : (keys : KeySet) (puts : List Put) → AreUndersApart keys puts → Outside (is_among keys) puts
outside_apart keys [] apart = tt
outside_apart keys (p ∷ ps) apart = (apart.0, outside_apart keys ps apart.1)

outside_but : (keys : KeySet) (us : List ℕ) (puts : List Put) → ((h : ℕ) → has h (unders puts) ≡ true → has h us ≡ true) → Outside (but (λ h. has h us) (is_among keys)) puts
outside_but keys us [] all = tt
outside_but keys us (p ∷ ps) all = (
  λ b is. none b (all b (ap (λ (o : Option ℕ). has b (option_to_list o ++ unders ps)) is ∙ has_first b (unders ps))),
  outside_but keys us ps (λ h here. all h (has-append h (option_to_list p.under) (unders ps) ∙ or_right (has h (option_to_list p.under)) (has h (unders ps)) here)),
)
  where
    none : (b : ℕ) → has b us ≡ true → (is_among keys (Handle b) && not (has b us)) ≡ false
    none b here = and_false (is_among keys (Handle b)) (not (has b us)) (not_true (has b us) here)

-- where the scopes move alike and no handle of the set is touched, the puts stay
pub puts_stay_by : (d keys : KeySet) (old new : State) (puts : List Put) (ops : List Operation) → ((h : ℕ) → has h d.handles ≡ true → is_among keys (Handle h) ≡ false)
    → ScopesMoveAlike (is_among keys) old.scopes (end_from old ops).scopes new.scopes (end_from new ops).scopes → AreWithin (is_among keys) (footprints_from new ops) → DoUndersStay keys ops puts
    → IsSound new [] → IsTrue (has_distinct_numbers ops) → AreUnused new ops → ArePuts (λ h. has h d.handles) new puts → ArePuts (λ h. has h d.handles) (end_from new ops) puts
puts_stay_by d keys old new puts ops untouched moves feet stay sound distinct unused are =
    let kept = footprints.kept_by_replay (is_among keys) new ops sound distinct unused feet in
    let later = (soundness.replays new ops sound distinct unused).1 in
    let own : ℕ → Bool = λ h. has h d.handles in
    ⊎_elim
    (λ (apart : AreUndersApart keys puts).
    all_stay (is_among keys) new (end_from new ops) old.scopes (end_from old ops).scopes sound later moves puts own
    (λ h here. (untouched h here, kept.0.handles h (untouched h here)))
    (outside_apart keys puts apart) are)
    (λ (ends : may_end_any ops (unders puts) ≡ false).
    let us : ℕ → Bool = λ h. has h (unders puts) in
    let moved = run_moves us (is_among keys) ops new (none_end ops (unders puts) ends) feet (unders_held new sound puts own are) in
    all_stay (but us (is_among keys)) new (end_from new ops) new.scopes (end_from new ops).scopes sound later moved.scopes puts own
    (λ h here. (ap (λ c. c && not (us h)) (untouched h here), kept.0.handles h (untouched h here)))
    (outside_but keys (unders puts) puts (λ h here. here)) are)
    stay

pub puts_stay : PutsStay
puts_stay d keys old new puts ops differ touched none stay sound sound_too distinct unused unused_too are =
    let feet : AreWithin (is_among keys) (footprints_from old ops) = within_front (is_among keys) (footprints_from old ops) (moved_from old ops) touched in
    let alike : AreAlike (is_among keys) old new = alike_less (is_among keys) (outside d) old new (meet_none d keys none) differ in
    let r : ReplaysAlike (is_among keys) old new ops = footprints.replays (is_among keys) old new ops alike feet in
    let feet_too : AreWithin (is_among keys) (footprints_from new ops) = subst (λ ks. AreWithin (is_among keys) ks) r.footprints feet in
    puts_stay_by d keys old new puts ops (λ h here. apart_at h here (is_among keys (Handle h)) refl) r.scopes feet_too stay sound_too distinct unused_too are
  where
    apart_at : (h : ℕ) → has h d.handles ≡ true → (b : Bool) → is_among keys (Handle h) ≡ b → b ≡ false
    apart_at h here true e = absurd (clash (has h d.handles) here (is_false (has h d.handles) (meet_none d keys none (Handle h) e)))
    apart_at h here false e = refl
