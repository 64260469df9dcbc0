-- What holds one member joins, place by place.
use Rattle.std.proofs.Common.{◌≡◌, ℕ, zero, suc, ◌+◌, ◌<◌, ◌≤◌, ◌⊎◌, inl, inr, List, [], ◌∷◌, ◌++◌, length, get_or, set, refl, sym, ap, ◌∙◌, subst, arith, zero-le, not, Bool, true, false, cond, length-append, length-set}
use Rattle.std.specs.Prelude.{◌==◌, ◌||◌, Option, Some, None, IfSome, if◌then◌else◌, filter, count_by}
use Rattle.std.specs.List.{All}
use Rattle.std.proofs.lemmas.List.Elements.{All-push}
use Rattle.std.specs.List.{range_with_len}
use Rattle.std.proofs.lemmas.Bool.Decides.{nat_tests}
use Rattle.std.proofs.lemmas.List.{get_or_append_left}
use Rattle.std.proofs.lemmas.List.Sums.{sum_by-set}
use Rattle.ownership_model.specs.Reach.{has}
use Rattle.ownership_model.proofs.Searching.{has-append, or_left, or_right}
use Rattle.retention.specs.declared.graph.Graph.{Graph}
use Rattle.retention.specs.Layout.{upto, naming}
use Rattle.retention.specs.Graph.{size, places, holds, target_at, IsFieldAt}
use Rattle.retention.specs.Paths.{Points, marked, with_member, with_mark, IsJoined}
use Rattle.retention.proofs.WalkSteps.{number_same, same_number, by_number, apart_number}
use Rattle.retention.proofs.PathLemmas.{has_at, at_has, has_last, by_last, mark_same, mark_other}
use Rattle.retention.proofs.GraphPaths.{held_object, held_place, source_is}

-- A number below n is in the list of those that pass a test, where it passes it.

has_range : (a n x : ℕ) → a ≤ x → x < a + n → has x (range_with_len a n) ≡ true
has_range a zero x low high = absurd (omega (arith, low, high))
has_range a (suc n) x low high =
    elim (a == x) as (λ b. (a == x) ≡ b → (b || has x (range_with_len (a + 1) n)) ≡ true) [
      | true ↦ λ e. refl
      | false ↦ λ e. let apart : a ≡ x → ⊥ = apart_number a x e in has_range (a + 1) n x (omega (arith, low, apart)) (omega (arith, high))
    ] refl

kept_cons : (test : ℕ → Bool) (y x : ℕ) (xs : List ℕ) (b : Bool) → test y ≡ b → ((y == x) || has x xs) ≡ true → test x ≡ true → (has x xs ≡ true → has x (filter test xs) ≡ true) → has x (cond b (y ∷ filter test xs) (filter test xs)) ≡ true
kept_cons test y x xs true e h t rest =
    elim (y == x) as (λ b. (b || has x xs) ≡ true → (b || has x (filter test xs)) ≡ true) [ true ↦ λ k. refl | false ↦ λ k. rest k ] h
kept_cons test y x xs false e h t rest =
    elim (y == x) as (λ b. (y == x) ≡ b → (b || has x xs) ≡ true → has x (filter test xs) ≡ true) [
      | true ↦ λ same k. absurd (let f : test x ≡ false = subst (λ z. test z ≡ false) (number_same y x same) e in cc)
      | false ↦ λ same k. rest k
    ] refl h

pub has_kept : (test : ℕ → Bool) (xs : List ℕ) (x : ℕ) → has x xs ≡ true → test x ≡ true → has x (filter test xs) ≡ true
has_kept test [] x h t = absurd cc
has_kept test (y ∷ xs) x h t = kept_cons test y x xs (test y) refl h t (λ k. has_kept test xs x k t)

passes_cons : (test : ℕ → Bool) (y x : ℕ) (xs : List ℕ) (b : Bool) → test y ≡ b → (has x (filter test xs) ≡ true → (test x ≡ true) × (has x xs ≡ true)) → has x (cond b (y ∷ filter test xs) (filter test xs)) ≡ true → (test x ≡ true) × (((y == x) || has x xs) ≡ true)
passes_cons test y x xs true e rest h =
    elim (y == x) as (λ b. (y == x) ≡ b → (b || has x (filter test xs)) ≡ true → (test x ≡ true) × ((b || has x xs) ≡ true)) [
      | true ↦ λ same k. (subst (λ z. test z ≡ true) (number_same y x same) e, refl)
      | false ↦ λ same k. rest k
    ] refl h
passes_cons test y x xs false e rest h = let it = rest h in (it.0, or_right (y == x) (has x xs) it.1)

pub kept_has : (test : ℕ → Bool) (xs : List ℕ) (x : ℕ) → has x (filter test xs) ≡ true → (test x ≡ true) × (has x xs ≡ true)
kept_has test [] x h = absurd cc
kept_has test (y ∷ xs) x h = passes_cons test y x xs (test y) refl (kept_has test xs x) h

range_below : (a n x : ℕ) → has x (range_with_len a n) ≡ true → x < a + n
range_below a zero x h = absurd cc
range_below a (suc n) x h =
    elim (a == x) as (λ b. (a == x) ≡ b → (b || has x (range_with_len (a + 1) n)) ≡ true → x < a + suc n) [
      | true ↦ λ same k. let e : a ≡ x = number_same a x same in omega (arith, e)
      | false ↦ λ same k. let l : x < a + 1 + n = range_below (a + 1) n x k in omega (arith, l)
    ] refl h

pub has_upto : (n x : ℕ) → x < n → has x (upto n) ≡ true
has_upto n x h = has_range 0 n x zero-le (omega (arith, h))

pub upto_has : (n x : ℕ) → has x (upto n) ≡ true → x < n
upto_has n x h = let l : x < 0 + n = range_below 0 n x h in omega (arith, l)

-- The first places have been looked at.
pub record IsJoining (g : Graph) (member : ℕ) (members : List ℕ) (before : List Bool) (k : ℕ) (members' : List ℕ) (after : List Bool) : Type 0 where
  pub long : length after ≡ length before
  pub kept : (i : ℕ) → i < length members → (i < length members') × (get_or members' i 0 ≡ get_or members i 0)
  pub new : (z : ℕ) → has z members' ≡ true → (has z members ≡ true) ⊎ ((marked before z ≡ false) × Points g z member)
  pub all : (j a : ℕ) → j < k → IsFieldAt g a (get_or (naming g.targets.items member) j 0) → holds g (get_or (naming g.targets.items member) j 0) ≡ Some member → marked after a ≡ true
  pub marks : (z : ℕ) → marked after z ≡ (marked before z || has z members')
  pub count : count_by not after + length members' ≡ count_by not before + length members

not_so : (b : Bool) → (b ≡ true → ⊥) → b ≡ false
not_so true h = absurd (h refl)
not_so false h = refl

clash : (b : Bool) → b ≡ true → b ≡ false → ⊥
clash b t f = absurd (let e : true ≡ false = sym t ∙ f in cc)

drop_false : (a b : Bool) → b ≡ false → (a || (b || false)) ≡ a
drop_false true b e = refl
drop_false false true e = absurd cc
drop_false false false e = refl

other_way : (a b : ℕ) → (a == b) ≡ false → (b == a) ≡ false
other_way a b e = grind (arith, nat_tests, e)

absorb : (a b : Bool) → (b ≡ true → a ≡ true) → a ≡ (a || b)
absorb true b h = refl
absorb false true h = absurd (let e : false ≡ true = h refl in cc)
absorb false false h = refl

pub join_start : (g : Graph) (member : ℕ) (members : List ℕ) (before : List Bool) → ((z : ℕ) → has z members ≡ true → marked before z ≡ true) → IsJoining g member members before 0 members before
join_start g member members before begun = record {
  long = refl;
  kept = λ i h. (h, refl);
  new = λ z h. inl h;
  all = λ j a h f e. absurd (omega (arith, h));
  marks = λ z. absorb (marked before z) (has z members) (begun z);
  count = refl;
}

module _ (g : Graph) (member : ℕ) (members : List ℕ) (before : List Bool) (k : ℕ) (members' : List ℕ) (after : List Bool) (is : IsJoining g member members before k members' after) (p : ℕ)
    (here : get_or (naming g.targets.items member) k 0 ≡ p) where
  all_more : (after' : List Bool) → ((a : ℕ) → marked after a ≡ true → marked after' a ≡ true) → ((a : ℕ) → IsFieldAt g a p → holds g p ≡ Some member → marked after' a ≡ true)
      → (j a : ℕ) → j < k + 1 → IsFieldAt g a (get_or (naming g.targets.items member) j 0) → holds g (get_or (naming g.targets.items member) j 0) ≡ Some member → marked after' a ≡ true
  all_more after' still now j a h =
      by_number (λ x. IsFieldAt g a (get_or (naming g.targets.items member) x 0) → holds g (get_or (naming g.targets.items member) x 0) ≡ Some member → marked after' a ≡ true) k j
      (λ f e. now a (subst (λ x. IsFieldAt g a x) here f) (subst (λ x. holds g x ≡ Some member) here e))
      (λ apart f e. still a (is.all j a (let other : j ≡ k → ⊥ = apart_number j k apart in omega (arith, other, h)) f e))

  -- it is no field that holds the member, or one of an object that is marked
  pub join_none : ((a : ℕ) → IsFieldAt g a p → holds g p ≡ Some member → marked after a ≡ true) → IsJoining g member members before (k + 1) members' after
  join_none now = record {
    long = is.long;
    kept = is.kept;
    new = is.new;
    all = all_more after (λ a h. h) now;
    marks = is.marks;
    count = is.count;
  }

  -- it is a field of an object that joins
  module _ (s : ℕ) (inside : s < length after) (new : marked after s ≡ false) (points : Points g s member) (only : (a : ℕ) → IsFieldAt g a p → a ≡ s) where
    still : (a : ℕ) → marked after a ≡ true → marked (set after s true) a ≡ true
    still a h = by_number (λ x. marked after x ≡ true → marked (set after s true) x ≡ true) s a (λ t. mark_same after s inside) (λ e t. mark_other after s a e ∙ t) h

    unmarked : marked before s ≡ false
    unmarked = not_so (marked before s) (λ e. clash (marked after s) (is.marks s ∙ or_left (marked before s) (has s members') e) new)

    longer : length (members' ++ s ∷ []) ≡ length members' + 1
    longer = length-append members' (s ∷ [])

    marks_more : (z : ℕ) → marked (set after s true) z ≡ (marked before z || has z (members' ++ s ∷ []))
    marks_more z = by_number (λ x. marked (set after s true) x ≡ (marked before x || has x (members' ++ s ∷ []))) s z
        (mark_same after s inside ∙ sym (or_right (marked before s) (has s (members' ++ s ∷ [])) (has_last members' s)))
        (λ e. mark_other after s z e ∙ is.marks z ∙ ap (λ b. marked before z || b) (sym (has-append z members' (s ∷ []) ∙ drop_false (has z members') (s == z) (other_way z s e))))

    count_more : count_by not (set after s true) + length (members' ++ s ∷ []) ≡ count_by not before + length members
    count_more =
        let one : count_by not (set after s true) + cond (not (get_or after s false)) 1 0 ≡ count_by not after + cond (not true) 1 0 = sum_by-set (λ b. cond (not b) 1 0) after s true false inside in
        let was : cond {A = ℕ} (not (get_or after s false)) 1 0 ≡ 1 = ap (λ b. cond {A = ℕ} (not b) 1 0) new in
        let all : count_by not after + length members' ≡ count_by not before + length members = is.count in
        omega (arith, one, was, all, longer)

    pub join_more : IsJoining g member members before (k + 1) (members' ++ s ∷ []) (set after s true)
    join_more = record {
      long = length-set after s true ∙ is.long;
      kept = λ i h. let old = is.kept i h in let l : i < length members' = old.0 in (omega (arith, longer, l), get_or_append_left members' (s ∷ []) 0 i l ∙ old.1);
      new = λ z h. by_last ((has z members ≡ true) ⊎ ((marked before z ≡ false) × Points g z member)) members' s z h (is.new z)
          (λ e. inr (subst (λ x. (marked before x ≡ false) × Points g x member) e (unmarked, points)));
      all = all_more (set after s true) still (λ a f e. subst (λ x. marked (set after s true) x ≡ true) (sym (only a f)) (mark_same after s inside));
      marks = marks_more;
      count = count_more;
    }

-- what names a member is one of the places, and names it
pub naming_at : (g : Graph) (member k : ℕ) → k < length (naming g.targets.items member) → (get_or (naming g.targets.items member) k 0 < places g) × (target_at g (get_or (naming g.targets.items member) k 0) ≡ member)
naming_at g member k h =
    let it = kept_has (λ p. get_or g.targets.items p 0 == member) (upto (length g.targets.items)) (get_or (naming g.targets.items member) k 0) (has_at (naming g.targets.items member) k h) in (
      subst (λ n. get_or (naming g.targets.items member) k 0 < n) g.laid.targets_long (upto_has (length g.targets.items) (get_or (naming g.targets.items member) k 0) it.1),
      number_same (target_at g (get_or (naming g.targets.items member) k 0)) member it.0,
    )

pub all_has : (P : ℕ → Type 0) (xs : List ℕ) (z : ℕ) → All P xs → has z xs ≡ true → P z
all_has P xs z all h = let it = at_has xs z h in subst (λ x. P x) it.2 (all it.0 0 it.1)

-- One place more, whatever it is.
module _ (g : Graph) (member : ℕ) (members : List ℕ) (before : List Bool) (k : ℕ) (members' : List ℕ) (after : List Bool) (is : IsJoining g member members before k members' after) (p : ℕ)
    (here : get_or (naming g.targets.items member) k 0 ≡ p) (long : length after ≡ size g) (named : target_at g p ≡ member) where
  of_one : (s : ℕ) → (s < size g) × IsFieldAt g s p × (holds g p ≡ Some (target_at g p)) → (b : Bool) → marked after s ≡ b → ((a t : ℕ) → IsFieldAt g a p → holds g p ≡ Some t → Some s ≡ Some a)
      → IsJoining g member members before (k + 1) (if b then members' else members' ++ s ∷ []) (if b then after else set after s true)
  of_one s own true e all = join_none g member members before k members' after is p here (λ a f h. let same : s ≡ a = (let u : Some s ≡ Some a = all a member f h in cc) in subst (λ x. marked after x ≡ true) same e)
  of_one s own false e all =
      join_more g member members before k members' after is p here s (subst (λ n. s < n) (sym long) own.0) e (p, own.1, own.2 ∙ ap Some named) (λ a f. sym (source_is g a p f) ∙ source_is g s p own.1)

  pub join_either : (x : Option ℕ) → IfSome x (λ s. (s < size g) × IsFieldAt g s p × (holds g p ≡ Some (target_at g p))) → ((a t : ℕ) → IsFieldAt g a p → holds g p ≡ Some t → x ≡ Some a)
      → IsJoining g member members before (k + 1) (with_member x after members') (with_mark x after)
  join_either None own all = join_none g member members before k members' after is p here (λ a f h. absurd (let u : None ≡ Some a = all a member f h in cc))
  join_either (Some s) own all = of_one s own (marked after s) refl all

all_below_more : (n : ℕ) (x : Option ℕ) (marks : List Bool) (members : List ℕ) → IfSome x (λ s. s < n) → All (λ i. i < n) members → All (λ i. i < n) (with_member x marks members)
all_below_more n None marks members own all = all
all_below_more n (Some s) marks members own all =
    elim (marked marks s) as (λ b. All (λ i. i < n) (if b then members else members ++ s ∷ [])) [ true ↦ all | false ↦ All-push (λ i. i < n) members s all own ]

pub join_within : (g : Graph) (p : ℕ) (x : Option ℕ) (marks : List Bool) (members : List ℕ) → IfSome x (λ s. (s < size g) × IsFieldAt g s p × (holds g p ≡ Some (target_at g p))) → All (λ i. i < size g) members → All (λ i. i < size g) (with_member x marks members)
join_within g p None marks members own all = all
join_within g p (Some s) marks members own all = all_below_more (size g) (Some s) marks members own.0 all

-- After the last place, all that hold the member have joined.
pub join_end : (g : Graph) (member : ℕ) (members : List ℕ) (before : List Bool) (k : ℕ) (members' : List ℕ) (after : List Bool) → IsJoining g member members before k members' after
    → length (naming g.targets.items member) ≤ k → length g.targets.items ≡ places g → IsJoined (Points g) member members before members' after
join_end g member members before k members' after is end targets = record {
  long = is.long;
  kept = is.kept;
  new = is.new;
  all = λ a it.
      let named : target_at g it.0 ≡ member = (held_object g it.0 member it.2).0 in
      let place : it.0 < length g.targets.items = subst (λ n. it.0 < n) (sym targets) (held_place g it.0 member it.2) in
      let there : has it.0 (naming g.targets.items member) ≡ true = has_kept (λ p. get_or g.targets.items p 0 == member) (upto (length g.targets.items)) it.0 (has_upto (length g.targets.items) it.0 place)
      (subst (λ x. (x == member) ≡ true) (sym named) (same_number member)) in
      let at = at_has (naming g.targets.items member) it.0 there in
      let below : at.0 < length (naming g.targets.items member) = at.1 in
      is.all at.0 a (omega (arith, below, end)) (subst (λ x. IsFieldAt g a x) (sym at.2) it.1) (subst (λ x. holds g x ≡ Some member) (sym at.2) it.2);
  marks = is.marks;
  count = is.count;
}
