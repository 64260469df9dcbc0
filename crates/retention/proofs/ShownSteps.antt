-- What a picture shows, object by object.
use Rattle.std.proofs.Common.{◌≡◌, ℕ, zero, suc, ◌+◌, ◌<◌, ◌≤◌, ◌⊎◌, inl, inr, List, [], ◌∷◌, ◌++◌, length, get_or, set, take, refl, sym, ap, ◌∙◌, subst, arith, Bool, true, false, length-append, length-set}
use Rattle.std.specs.Prelude.{◌==◌, ◌||◌, ◌↔◌, Option, Some, None, IfSome, MatchOption, nat_lt, if◌then◌else◌}
use Rattle.std.proofs.lemmas.Bool.Decides.{nat_tests}
use Rattle.trace_types.specs.declared.slots.Slot.TheVariants.{Nothing}
use Rattle.retention_model.specs.declared.place.Place.TheVariants.{Cell}
use Rattle.retention_model.specs.declared.place.Held.{Held}
use Rattle.std.proofs.lemmas.List.{get_or_append_left, get_or_past, take_more}
use Rattle.ownership_model.specs.Reach.{has}
use Rattle.ownership_model.proofs.Searching.{has-append, or_left, or_right}
use Rattle.retention.specs.declared.graph.Graph.{Graph}
use Rattle.retention.specs.Graph.{size, places, target_at, held_at, IsFieldAt}
use Rattle.retention.specs.Layout.{naming, upto}
use Rattle.retention.specs.Paths.{Points, Chain, Path, marked, with_member, with_mark, IsGathered}
use Rattle.retention.specs.Pictured.{IsNearAt, IsShownAt, HoldsWeaklyAt, AreTheMarked, is_weak_slot}
use Rattle.retention.proofs.WalkSteps.{number_same, same_number, by_number, apart_number}
use Rattle.retention.proofs.PathLemmas.{at_has, has_last, mark_same, mark_other}
use Rattle.retention.proofs.GraphPaths.{keeps_path, path_keeps, source_is}
use Rattle.retention.proofs.JoinSteps.{has_kept, has_upto}

drop_false : (a b : Bool) → b ≡ false → (a || (b || false)) ≡ a
drop_false true b e = refl
drop_false false true e = absurd cc
drop_false false false e = refl

other_way : (a b : ℕ) → (a == b) ≡ false → (b == a) ≡ false
other_way a b e =
    elim (b == a) as (λ c. (b == a) ≡ c → (b == a) ≡ false) [
      | true ↦ λ t. absurd (apart_number a b e (sym (number_same b a t)))
      | false ↦ λ f. f
    ] refl

-- what is marked is one of all
pub marked_within : (marks : List Bool) (i : ℕ) → marked marks i ≡ true → i < length marks
marked_within [] i h = absurd cc
marked_within (m ∷ marks) zero h = omega arith
marked_within (m ∷ marks) (suc i) h = let l : i < length marks = marked_within marks i h in omega (arith, l)

-- one more is marked and listed
pub shown_more : (near : List ℕ) (marks : List Bool) (i : ℕ) → i < length marks → AreTheMarked near marks → AreTheMarked (near ++ i ∷ []) (set marks i true)
shown_more near marks i inside are z =
    by_number (λ x. marked (set marks i true) x ≡ has x (near ++ i ∷ [])) i z (mark_same marks i inside ∙ sym (has_last near i))
    (λ e. mark_other marks i z e ∙ are z ∙ sym (has-append z near (i ∷ []) ∙ drop_false (has z near) (i == z) (other_way z i e)))

-- What is asked for, and what holds it weakly.

-- after the first places that name the first of those asked for
pub record IsShowing (g : Graph) (near : List ℕ) (marks : List Bool) (at k : ℕ) (near' : List ℕ) (marks' : List Bool) : Type 0 where
  pub long : length marks' ≡ length marks
  pub listed : AreTheMarked near' marks'
  pub kept : (i : ℕ) → i < length near → (i < length near') × (get_or near' i 0 ≡ get_or near i 0)
  pub still : (i : ℕ) → marked marks i ≡ true → marked marks' i ≡ true
  pub only : (i : ℕ) → marked marks' i ≡ true → (marked marks i ≡ true) ⊎ ((j : ℕ) × (marked marks j ≡ true) × HoldsWeaklyAt g i j)
  pub done : (j i : ℕ) → j < at → HoldsWeaklyAt g i (get_or near j 0) → marked marks' i ≡ true
  pub now : (j i : ℕ) → j < k → IsFieldAt g i (get_or (naming g.targets.items (get_or near at 0)) j 0) → is_weak_slot (held_at g (get_or (naming g.targets.items (get_or near at 0)) j 0)).slot ≡ true → marked marks' i ≡ true

-- what joining an object leaves
pub record Shows (s : ℕ) (near : List ℕ) (marks : List Bool) (near' : List ℕ) (marks' : List Bool) : Type 0 where
  pub long : length marks' ≡ length marks
  pub listed : AreTheMarked near' marks'
  pub here : marked marks' s ≡ true
  pub others : (i : ℕ) → (i == s) ≡ false → marked marks' i ≡ marked marks i
  pub kept : (i : ℕ) → i < length near → (i < length near') × (get_or near' i 0 ≡ get_or near i 0)

shows_by : (s : ℕ) (near : List ℕ) (marks : List Bool) → s < length marks → AreTheMarked near marks → (b : Bool) → marked marks s ≡ b → Shows s near marks (if b then near else near ++ s ∷ []) (if b then marks else set marks s true)
shows_by s near marks inside are true e = record { long = refl; listed = are; here = e; others = λ i d. refl; kept = λ i h. (h, refl) }
shows_by s near marks inside are false e = record {
  long = length-set marks s true;
  listed = shown_more near marks s inside are;
  here = mark_same marks s inside;
  others = λ i d. mark_other marks s i d;
  kept = λ i h. (let l : length (near ++ s ∷ []) ≡ length near + 1 = length-append near (s ∷ []) in omega (arith, l, h), get_or_append_left near (s ∷ []) 0 i h);
}

pub shows : (s : ℕ) (near : List ℕ) (marks : List Bool) → s < length marks → AreTheMarked near marks → Shows s near marks (with_member (Some s) marks near) (with_mark (Some s) marks)
shows s near marks inside are = shows_by s near marks inside are (marked marks s) refl

weak_slot_place : (g : Graph) (p : ℕ) → is_weak_slot (held_at g p).slot ≡ true → p < places g
weak_slot_place g p w =
    elim (nat_lt p (places g)) as (λ b. nat_lt p (places g) ≡ b → p < places g) [
      | true ↦ λ e. grind (arith, nat_tests, e)
      | false ↦ λ e. absurd (
          let none : is_weak_slot (held_at g p).slot ≡ false = ap (λ (x : Held). is_weak_slot x.slot) (get_or_past g.held.items p (record { place = Cell 0; slot = Nothing; since = 0 }) (grind (arith, nat_tests, e))) in cc)
    ] refl

module _ (g : Graph) (near : List ℕ) (marks : List Bool) where
  pub showing_start : AreTheMarked near marks → IsShowing g near marks 0 0 near marks
  showing_start are = record {
    long = refl;
    listed = are;
    kept = λ i h. (h, refl);
    still = λ i h. h;
    only = λ i h. inl h;
    done = λ j i h. absurd (omega (arith, h));
    now = λ j i h. absurd (omega (arith, h));
  }

  module _ (at k : ℕ) (near' : List ℕ) (marks' : List Bool) (is : IsShowing g near marks at k near' marks') (p : ℕ) (here : get_or (naming g.targets.items (get_or near at 0)) k 0 ≡ p) where
    now_more : (marks'' : List Bool) → ((i : ℕ) → marked marks' i ≡ true → marked marks'' i ≡ true) → ((i : ℕ) → IsFieldAt g i p → is_weak_slot (held_at g p).slot ≡ true → marked marks'' i ≡ true)
        → (j i : ℕ) → j < k + 1 → IsFieldAt g i (get_or (naming g.targets.items (get_or near at 0)) j 0) → is_weak_slot (held_at g (get_or (naming g.targets.items (get_or near at 0)) j 0)).slot ≡ true → marked marks'' i ≡ true
    now_more marks'' still this j i h =
        by_number (λ x. IsFieldAt g i (get_or (naming g.targets.items (get_or near at 0)) x 0) → is_weak_slot (held_at g (get_or (naming g.targets.items (get_or near at 0)) x 0)).slot ≡ true → marked marks'' i ≡ true) k j
        (λ f w. this i (subst (λ x. IsFieldAt g i x) here f) (subst (λ x. is_weak_slot (held_at g x).slot ≡ true) here w))
        (λ apart f w. still i (is.now j i (let other : j ≡ k → ⊥ = apart_number j k apart in omega (arith, other, h)) f w))

    -- it is no such field
    pub showing_none : ((i : ℕ) → IsFieldAt g i p → is_weak_slot (held_at g p).slot ≡ true → ⊥) → IsShowing g near marks at (k + 1) near' marks'
    showing_none none = record {
      long = is.long;
      listed = is.listed;
      kept = is.kept;
      still = is.still;
      only = is.only;
      done = is.done;
      now = now_more marks' (λ i h. h) (λ i f w. absurd (none i f w));
    }

    -- it is a field of s, which is shown
    pub showing_more : (s : ℕ) → IsFieldAt g s p → is_weak_slot (held_at g p).slot ≡ true → target_at g p ≡ get_or near at 0 → marked marks (get_or near at 0) ≡ true → ((i : ℕ) → IsFieldAt g i p → i ≡ s)
        → (near'' : List ℕ) (marks'' : List Bool) → length marks'' ≡ length marks' → AreTheMarked near'' marks'' → marked marks'' s ≡ true → ((i : ℕ) → (i == s) ≡ false → marked marks'' i ≡ marked marks' i)
        → ((i : ℕ) → i < length near' → (i < length near'') × (get_or near'' i 0 ≡ get_or near' i 0)) → IsShowing g near marks at (k + 1) near'' marks''
    showing_more s field weak names asked one near'' marks'' long listed shown others kept =
        let stays : (i : ℕ) → marked marks' i ≡ true → marked marks'' i ≡ true = λ i h. by_number (λ x. marked marks' x ≡ true → marked marks'' x ≡ true) s i (λ t. shown) (λ e t. others i e ∙ t) h in
        record {
          long = long ∙ is.long;
          listed = listed;
          kept = λ i h. let old = is.kept i h in let new = kept i old.0 in (new.0, new.1 ∙ old.1);
          still = λ i h. stays i (is.still i h);
          only = λ i h. by_number (λ x. marked marks'' x ≡ true → (marked marks x ≡ true) ⊎ ((j : ℕ) × (marked marks j ≡ true) × HoldsWeaklyAt g x j)) s i
              (λ t. inr (get_or near at 0, asked, (p, field, names, weak))) (λ e t. is.only i (sym (others i e) ∙ t)) h;
          done = λ j i h w. stays i (is.done j i h w);
          now = now_more marks'' stays (λ i f w. subst (λ x. marked marks'' x ≡ true) (sym (one i f)) shown);
        }

  module _ (at k : ℕ) (near' : List ℕ) (marks' : List Bool) (is : IsShowing g near marks at k near' marks') (end : length (naming g.targets.items (get_or near at 0)) ≤ k) where
    weak_done : (i : ℕ) → HoldsWeaklyAt g i (get_or near at 0) → marked marks' i ≡ true
    weak_done i w =
        let place : w.0 < length g.targets.items = subst (λ n. w.0 < n) (sym g.laid.targets_long) (weak_slot_place g w.0 w.3) in
        let there : has w.0 (naming g.targets.items (get_or near at 0)) ≡ true = has_kept (λ p. get_or g.targets.items p 0 == get_or near at 0) (upto (length g.targets.items)) w.0 (has_upto (length g.targets.items) w.0 place)
        (subst (λ x. (x == get_or near at 0) ≡ true) (sym w.2) (same_number (get_or near at 0))) in
        let it = at_has (naming g.targets.items (get_or near at 0)) w.0 there in
        let below : it.0 < length (naming g.targets.items (get_or near at 0)) = it.1 in
        is.now it.0 i (omega (arith, below, end)) (subst (λ x. IsFieldAt g i x) (sym it.2) w.1) (subst (λ x. is_weak_slot (held_at g x).slot ≡ true) (sym it.2) w.3)

    -- the next of those asked for
    pub showing_next : IsShowing g near marks (at + 1) 0 near' marks'
    showing_next = record {
      long = is.long;
      listed = is.listed;
      kept = is.kept;
      still = is.still;
      only = is.only;
      done = λ j i h. by_number (λ x. HoldsWeaklyAt g i (get_or near x 0) → marked marks' i ≡ true) at j (weak_done i)
          (λ e w. is.done j i (let apart : j ≡ at → ⊥ = apart_number j at e in omega (arith, apart, h)) w);
      now = λ j i h. absurd (omega (arith, h));
    }

  -- one place more, whatever it is
  module _ (at k : ℕ) (near' : List ℕ) (marks' : List Bool) (is : IsShowing g near marks at k near' marks') (p : ℕ) (here : get_or (naming g.targets.items (get_or near at 0)) k 0 ≡ p)
      (names : target_at g p ≡ get_or near at 0) (asked : marked marks (get_or near at 0) ≡ true) (long : length marks' ≡ size g) where
    pub showing_either : (x : Option ℕ) → IfSome x (λ s. (s < size g) × IsFieldAt g s p × (is_weak_slot (held_at g p).slot ≡ true)) → ((i : ℕ) → IsFieldAt g i p → is_weak_slot (held_at g p).slot ≡ true → x ≡ Some i)
        → IsShowing g near marks at (k + 1) (with_member x marks' near') (with_mark x marks')
    showing_either None own all = showing_none at k near' marks' is p here (λ i f w. let clash : None ≡ Some i = all i f w in absurd cc)
    showing_either (Some s) own all =
        let it = shows s near' marks' (subst (λ n. s < n) (sym long) own.0) is.listed in
        showing_more at k near' marks' is p here s own.1 own.2 names asked (λ i f. sym (source_is g i p f) ∙ source_is g s p own.1)
        (with_member (Some s) marks' near') (with_mark (Some s) marks') it.long it.listed it.here it.others it.kept

  -- after the last of them
  module _ (at : ℕ) (near' : List ℕ) (marks' : List Bool) (is : IsShowing g near marks at 0 near' marks') (end : length near ≤ at) (are : AreTheMarked near marks) where
    of_either : (i : ℕ) → (marked marks i ≡ true) ⊎ ((j : ℕ) × (marked marks j ≡ true) × HoldsWeaklyAt g i j) → marked marks' i ≡ true
    of_either i (inl h) = is.still i h
    of_either i (inr it) =
        let there = at_has near it.0 (sym (are it.0) ∙ it.1) in
        let l : there.0 < length near = there.1 in
        is.done there.0 i (omega (arith, l, end)) (subst (λ x. HoldsWeaklyAt g i x) (sym there.2) it.2)

    pub showing_end : (i : ℕ) → (marked marks' i ≡ true) ↔ ((marked marks i ≡ true) ⊎ ((j : ℕ) × (marked marks j ≡ true) × HoldsWeaklyAt g i j))
    showing_end i = (is.only i, of_either i)

-- All that lead to what is near are shown.
module _ (g : Graph) (Asked : ℕ → Type 0) (asked near' : List Bool) (near : List ℕ) (all : List ℕ) (marks : List Bool)
    (are_asked : (i : ℕ) → (marked asked i ≡ true) ↔ Asked i)
    (are_near : (i : ℕ) → (marked near' i ≡ true) ↔ ((marked asked i ≡ true) ⊎ ((j : ℕ) × (marked asked j ≡ true) × HoldsWeaklyAt g i j)))
    (listed : AreTheMarked near near') (gathered : IsGathered (Points g) near near' all marks) where
  near_of : (i : ℕ) → (marked asked i ≡ true) ⊎ ((j : ℕ) × (marked asked j ≡ true) × HoldsWeaklyAt g i j) → IsNearAt g Asked i
  near_of i (inl h) = inl ((are_asked i).0 h)
  near_of i (inr it) = inr (it.0, (are_asked it.0).0 it.1, it.2)

  of_near : (i : ℕ) → IsNearAt g Asked i → marked near' i ≡ true
  of_near i (inl h) = (are_near i).1 (inl ((are_asked i).1 h))
  of_near i (inr it) = (are_near i).1 (inr (it.0, (are_asked it.0).1 it.1, it.2))

  is_near : (i : ℕ) → marked near' i ≡ true → IsNearAt g Asked i
  is_near i h = near_of i ((are_near i).0 h)

  or_either : (P : Type 0) (a b : Bool) → (a || b) ≡ true → (a ≡ true → P) → (b ≡ true → P) → P
  or_either P true b h p q = p refl
  or_either P false b h p q = q h

  of_leads : (i : ℕ) → (has i near ≡ true) ⊎ ((marked near' i ≡ false) × ((y : ℕ) × (has y near ≡ true) × Path (Points g) i y)) → IsShownAt g Asked i
  of_leads i (inl h) = inl (is_near i (listed i ∙ h))
  of_leads i (inr it) = inr (it.1.0, is_near it.1.0 (listed it.1.0 ∙ it.1.1), path_keeps g i it.1.0 it.1.2)

  is_shown : (i : ℕ) → marked marks i ≡ true → IsShownAt g Asked i
  is_shown i h = or_either (IsShownAt g Asked i) (marked near' i) (has i all) (sym (gathered.marks i) ∙ h) (λ n. inl (is_near i n)) (λ m. of_leads i (gathered.leads i m))

  member_of : (i : ℕ) → marked marks i ≡ true → has i all ≡ true
  member_of i h = or_either (has i all ≡ true) (marked near' i) (has i all) (sym (gathered.marks i) ∙ h) (λ n. gathered.first i (sym (listed i) ∙ n)) (λ m. m)

  by_near : (i : ℕ) → marked near' i ≡ true → marked marks i ≡ true
  by_near i h = gathered.marks i ∙ or_left (marked near' i) (has i all) h

  by_chain : (cs : List ℕ) (i j : ℕ) → Chain (Points g) i cs j → marked marks j ≡ true → marked marks i ≡ true
  by_chain [] i j e h = gathered.closed i j e (member_of j h)
  by_chain (c ∷ cs) i j e h = gathered.closed i c e.0 (member_of c (by_chain cs c j e.1 h))

  of_shown : (i : ℕ) → IsShownAt g Asked i → marked marks i ≡ true
  of_shown i (inl n) = by_near i (of_near i n)
  of_shown i (inr it) = let path = keeps_path g i it.0 it.2 in by_chain path.0 i it.0 path.1 (by_near it.0 (of_near it.0 it.1))

  pub shown_each : (i : ℕ) → (marked marks i ≡ true) ↔ IsShownAt g Asked i
  shown_each i = (is_shown i, of_shown i)

-- Those asked for.

pub given_more : (given near : List ℕ) (marks : List Bool) (k v : ℕ) → k < length given → get_or given k 0 ≡ v → v < length marks → AreTheMarked near marks → ((i : ℕ) → marked marks i ≡ has i (take k given))
    → (i : ℕ) → marked (with_mark (Some v) marks) i ≡ has i (take (k + 1) given)
given_more given near marks k v h at inside are each i =
    let it = shows v near marks inside are in
    let more : has i (take (k + 1) given) ≡ (has i (take k given) || has i (v ∷ [])) = ap (has i) (take_more given k 0 h) ∙ has-append i (take k given) (get_or given k 0 ∷ []) ∙ ap (λ x. has i (take k given) || has i (x ∷ [])) at in
    by_number (λ x. marked (with_mark (Some v) marks) x ≡ (has x (take k given) || has x (v ∷ []))) v i
    (it.here ∙ sym (or_right (has v (take k given)) (has v (v ∷ [])) (or_left (v == v) false (same_number v))))
    (λ e. it.others i e ∙ each i ∙ sym (drop_false (has i (take k given)) (v == i) (other_way i v e))) ∙ sym more

pub interest_more : (Q : ℕ → Type 0) (near : List ℕ) (marks : List Bool) (k : ℕ) (x : Option ℕ) → MatchOption x (Q k → ⊥) (λ i. (i ≡ k) × Q k) → k < length marks → AreTheMarked near marks → ((i : ℕ) → (marked marks i ≡ true) ↔ ((i < k) × Q i))
    → AreTheMarked (with_member x marks near) (with_mark x marks) × (length (with_mark x marks) ≡ length marks) × ((i : ℕ) → (marked (with_mark x marks) i ≡ true) ↔ ((i < k + 1) × Q i))
interest_more Q near marks k None none inside are each = (
  are,
  refl,
  λ i. (
    λ h. let it = (each i).0 h in let l : i < k = it.0 in (omega (arith, l), it.1),
    λ it. (each i).1 (by_number (λ y. y < k + 1 → Q y → y < k) k i (λ l q. absurd (none q)) (λ e l q. let apart : i ≡ k → ⊥ = apart_number i k e in omega (arith, apart, l)) it.0 it.1, it.1),
  ),
)
interest_more Q near marks k (Some v) it inside are each =
    let all = shows v near marks (subst (λ y. y < length marks) (sym it.0) inside) are in (
      all.listed,
      all.long,
      λ i. by_number (λ y. (marked (with_mark (Some v) marks) y ≡ true) ↔ ((y < k + 1) × Q y)) v i
          (λ h. subst (λ y. (y < k + 1) × Q y) (sym it.0) (omega arith, it.1), λ h. all.here)
          (λ e. (
            λ h. let old = (each i).0 (sym (all.others i e) ∙ h) in let l : i < k = old.0 in (omega (arith, l), old.1),
            λ h. all.others i e ∙ (each i).1 (let apart : i ≡ v → ⊥ = apart_number i v e in let l : i < k + 1 = h.0 in let at : v ≡ k = it.0 in omega (arith, apart, l, at), h.1),
          )),
    )
