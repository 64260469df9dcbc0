-- What is found has all that differs.
use Rattle.std.proofs.Common.{◌≡◌, ℕ, ◌≤◌, List, [], ◌∷◌, ◌++◌, refl, ap, ◌∙◌, sym, arith, Bool, true, false}
use Rattle.std.specs.Prelude.{◌==◌, ◌||◌, Option, Some, None, flat_map, option_to_list, filter, not}
use Rattle.std.specs.FinMap.{get}
use Rattle.trace_types.specs.declared.slots.Holding.{Holding}
use Rattle.ownership_model.specs.Reach.{has}
use Rattle.ownership_model.specs.State.{State, IsSound, strong, weak}
use Rattle.ownership_model.specs.Scopes.{scope_of, times_in, times_held}
use Rattle.ownership_model.proofs.Counting.{same_number}
use Rattle.ownership_model.proofs.Searching.{has-append, or_left, or_right}
use Rattle.heap_difference.specs.declared.key_set.KeySet.{KeySet}
use Rattle.object_heap.specs.Links.{label_in}
use Rattle.heap_difference.specs.Differences.{HasDifference, IsSameCell, IsSameObject, AreHandlesFound, labels_of, IsFound}
use Rattle.heap_difference.specs.Sifts.{IsSifted}
use Rattle.heap_difference.proofs.Tests.{clash, not_false, is_false, has_first, filter_all}
use Rattle.heap_difference.proofs.ScopeLemmas.{label_of_member}
use Rattle.object_heap.proofs.UnderLemmas.{AreOnce}

held_once : (x : Option Holding) → times_held x ≤ 1
held_once None = omega arith
held_once (Some x) = omega arith

-- each handle stands in the scopes of a sound state at most once
pub once_sound : (m : State) → IsSound m [] → AreOnce m.scopes
once_sound m sound h = let is : times_in h m.scopes ≡ times_held (get m.handles h) = sound.scopes.once h in let few : times_held (get m.handles h) ≤ 1 = held_once (get m.handles h) in omega (arith, is, few)

has_flat : (f : ℕ → List ℕ) (t h : ℕ) (hs : List ℕ) → has h hs ≡ true → has t (f h) ≡ true → has t (flat_map f hs) ≡ true
has_flat f t h [] here there = absurd cc
has_flat f t h (g ∷ hs) here there = at (g == h) refl (λ e. has_flat f t h hs e there)
  where
    at : (b : Bool) → (g == h) ≡ b → (has h hs ≡ true → has t (flat_map f hs) ≡ true) → has t (f g ++ flat_map f hs) ≡ true
    at true e rest = has-append t (f g) (flat_map f hs) ∙ or_left (has t (f g)) (has t (flat_map f hs)) (ap (λ z. has t (f z)) (same_number g h e) ∙ there)
    at false e rest = has-append t (f g) (flat_map f hs) ∙ or_right (has t (f g)) (has t (flat_map f hs)) (rest (sym (ap (λ b. b || has h hs) e) ∙ here))

label_listed : (o : Option ℕ) (t : ℕ) → o ≡ Some t → has t (option_to_list o) ≡ true
label_listed o t is = ap (λ x. has t (option_to_list x)) is ∙ has_first t []

in_first : (old new : State) (h t : ℕ) → label_in h old.scopes ≡ Some t → has t (labels_of old new h) ≡ true
in_first old new h t is =
    has-append t (option_to_list (label_in h old.scopes)) (option_to_list (label_in h new.scopes))
    ∙ or_left (has t (option_to_list (label_in h old.scopes))) (has t (option_to_list (label_in h new.scopes))) (label_listed (label_in h old.scopes) t is)

in_second : (old new : State) (h t : ℕ) → label_in h new.scopes ≡ Some t → has t (labels_of old new h) ≡ true
in_second old new h t is =
    has-append t (option_to_list (label_in h old.scopes)) (option_to_list (label_in h new.scopes))
    ∙ or_right (has t (option_to_list (label_in h old.scopes))) (has t (option_to_list (label_in h new.scopes))) (label_listed (label_in h new.scopes) t is)

-- what holds where a number is listed, and where it isn't, holds
by_listed : (A : Type 0) (b : Bool) → (b ≡ true → A) → (b ≡ false → A) → A
by_listed A true p q = p refl
by_listed A false p q = q refl

-- the scope of a label that isn't told has no handle that differs
module _ (old new : State) (rest labels : List ℕ) (told : (t : ℕ) → has t labels ≡ has t (flat_map (labels_of old new) rest)) where
  apart : (m : State) → AreOnce m.scopes → ((h t : ℕ) → label_in h m.scopes ≡ Some t → has t (labels_of old new h) ≡ true) → (t : ℕ) → has t labels ≡ false
      → filter (λ g. not (has g rest)) (scope_of t m.scopes) ≡ scope_of t m.scopes
  apart m once listed t none = filter_all (λ g. not (has g rest)) (scope_of t m.scopes) (λ g here. not_false (has g rest)
      (by_listed (has g rest ≡ false) (has g rest)
      (λ yes. absurd (clash (has t labels) (told t ∙ has_flat (labels_of old new) t g rest yes (listed g t (label_of_member g t m.scopes once here))) none))
      (λ no. no)))

  pub whole_scopes : AreOnce old.scopes → AreOnce new.scopes → ((t : ℕ) → filter (λ g. not (has g rest)) (scope_of t old.scopes) ≡ filter (λ g. not (has g rest)) (scope_of t new.scopes))
      → (t : ℕ) → has t labels ≡ false → scope_of t old.scopes ≡ scope_of t new.scopes
  whole_scopes once once_too alike t none =
      sym (apart old once (in_first old new) t none) ∙ alike t ∙ apart new once_too (in_second old new) t none

-- all of it together
pub is_found : (among : KeySet) (old new : State) (d : KeySet) → IsSound old [] → IsSound new [] → HasDifference among old new
    → AreHandlesFound among.handles old new d.handles → IsSifted (IsSameCell old new) among.cells d.cells → IsSifted (IsSameObject old new) among.objects d.objects
    → ((t : ℕ) → has t d.labels ≡ has t (flat_map (labels_of old new) d.handles)) → IsFound among old new d
is_found among old new d sound sound_too before handles cells objects labels = record {
  difference = record {
    handles = λ h c. by_listed (get old.handles h ≡ get new.handles h) (has h among.handles) (λ yes. handles.held h yes (is_false (has h d.handles) c)) (λ no. before.handles h (not_false (has h among.handles) no));
    cells = λ q c. by_listed (get old.cells q ≡ get new.cells q) (has q among.cells) (λ yes. cells.out q yes (is_false (has q d.cells) c)) (λ no. before.cells q (not_false (has q among.cells) no));
    entries = λ o c. by_listed (get old.objects o ≡ get new.objects o) (has o among.objects) (λ yes. (objects.out o yes (is_false (has o d.objects) c)).entry) (λ no. before.entries o (not_false (has o among.objects) no));
    strongs = λ o c. by_listed (strong old [] o ≡ strong new [] o) (has o among.objects) (λ yes. (objects.out o yes (is_false (has o d.objects) c)).strong) (λ no. before.strongs o (not_false (has o among.objects) no));
    weaks = λ o c. by_listed (weak old [] o ≡ weak new [] o) (has o among.objects) (λ yes. (objects.out o yes (is_false (has o d.objects) c)).weak) (λ no. before.weaks o (not_false (has o among.objects) no));
    scopes = λ t c. whole_scopes old new d.handles d.labels labels (once_sound old sound) (once_sound new sound_too) handles.scopes t (is_false (has t d.labels) c);
    within_scopes = handles.scopes;
  };
  handles = handles.left;
  cells = cells.left;
  objects = objects.left;
  labels = labels;
}
