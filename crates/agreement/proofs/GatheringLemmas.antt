-- What is left of a heap's objects, gathered one after another; and a set that is tested member by member.
use Rattle.std.proofs.Common.{◌≡◌, ℕ, ◌+◌, ◌<◌, List, [], ◌∷◌, length, take, get_or, add-one, refl, ap, ◌∙◌, sym, subst, Bool, true, false}
use Rattle.std.specs.Prelude.{Result, Ok, Err, OnOk, Option, Some, None, ◌==◌, ◌&&◌, ◌||◌, not, if◌then◌else◌, is_some}
use Rattle.std.proofs.Math.Seq.{take-suc}
use Rattle.std.specs.Ordering.{nat_cmp}
use Rattle.std.specs.FinMap.{FinMap, get, insert, keys, contains_key-keys}
use Rattle.trace_types.specs.declared.slots.Entry.{Entry}
use Rattle.ownership_model.specs.declared.remaining.Remaining.{Remaining}
use Rattle.ownership_model.specs.State.{State, strong, weak}
use Rattle.ownership_model.specs.Reach.{has}
use Rattle.ownership_model.specs.Patch.{remaining_at}
use Rattle.ownership_model.proofs.Counting.{same_number, get_inserted}
use Rattle.ownership_model.proofs.Searching.{has-append, has_as_any}
use Rattle.agreement.specs.Gathering.{with_remaining}

-- of the listed objects those outside the set are gathered
abbrev pub IsRest : State → (ℕ → Bool) → List ℕ → FinMap nat_cmp Remaining → Type 0
IsRest m k xs rest = (q : ℕ) → get rest q ≡ (if has q xs && not (k q) then remaining_at m q (get m.objects q) else None)

pushed : (b c : Bool) (x y z : Option Remaining) → (b ≡ true → z ≡ x) → (if b then z else y) ≡ (if b && true then x else y)
pushed true c x y z s = s refl
pushed false c x y z s = refl

-- one object was put among them
pub put_remaining : (m : State) (rest new : FinMap nat_cmp Remaining) (o : ℕ) (e : Entry) (x : Remaining) → new ≡ insert rest o x → Some e ≡ get m.objects o → x ≡ record { entry = e; strong = strong m [] o; weak = weak m [] o }
    → (q : ℕ) → get new q ≡ with_remaining m rest o q
put_remaining m rest new o e x is there what q =
    ap (λ n. get n q) is ∙ get_inserted rest o x q
    ∙ pushed (o == q) true (remaining_at m q (get m.objects q)) (get rest q) (Some x) (λ t. ap Some what ∙ ap (remaining_at m o) there ∙ ap (λ p. remaining_at m p (get m.objects p)) (same_number o q t))
    ∙ ap (λ b. if o == q && b then remaining_at m q (get m.objects q) else get rest q) (ap is_some there)

kept : (b : Bool) (x y : Option Remaining) → y ≡ (if b && false then x else y)
kept true x y = refl
kept false x y = refl

-- none was there to put
pub none_remaining : (m : State) (rest : FinMap nat_cmp Remaining) (o : ℕ) → None ≡ get m.objects o → (q : ℕ) → get rest q ≡ with_remaining m rest o q
none_remaining m rest o none q = kept (o == q) (remaining_at m q (get m.objects q)) (get rest q) ∙ ap (λ b. if o == q && b then remaining_at m q (get m.objects q) else get rest q) (ap is_some none)

pub has_next : (xs : List ℕ) (i d q : ℕ) → i < length xs → has q (take (i + 1) xs) ≡ (has q (take i xs) || (get_or xs i d == q))
has_next xs i d q within = ap (λ k. has q (take k xs)) (add-one i) ∙ ap (has q) (take-suc xs i d within) ∙ has-append q (take i xs) (get_or xs i d ∷ []) ∙ last (has q (take i xs)) (get_or xs i d == q)
  where
    last : (a b : Bool) → (a || (b || false)) ≡ (a || b)
    last true b = refl
    last false true = refl
    last false false = refl

skipped : (h e k : Bool) (x : Option Remaining) → (e ≡ true → k ≡ true) → (if h && not k then x else None) ≡ (if (h || e) && not k then x else None)
skipped true e k x s = refl
skipped false true true x s = refl
skipped false true false x s = absurd (let f : false ≡ true = s refl in cc)
skipped false false k x s = refl

joined : (h e k s : Bool) (x : Option Remaining) → (e ≡ true → k ≡ false) → (s ≡ false → e ≡ true → x ≡ None) → (if e && s then x else (if h && not k then x else None)) ≡ (if (h || e) && not k then x else None)
joined true true true s x n z = absurd (let f : true ≡ false = n refl in cc)
joined true true false true x n z = refl
joined true true false false x n z = refl
joined true false k true x n z = refl
joined true false k false x n z = refl
joined false true true s x n z = absurd (let f : true ≡ false = n refl in cc)
joined false true false true x n z = refl
joined false true false false x n z = sym (z refl refl)
joined false false k true x n z = refl
joined false false k false x n z = refl

nothing_at : (m : State) (q : ℕ) (x : Option Entry) → is_some x ≡ false → remaining_at m q x ≡ None
nothing_at m q None h = refl
nothing_at m q (Some e) h = absurd cc

module _ (m : State) (k : ℕ → Bool) (xs : List ℕ) (i d : ℕ) (within : i < length xs) where
  turned : (q : ℕ) → (if (has q (take i xs) || (get_or xs i d == q)) && not (k q) then remaining_at m q (get m.objects q) else None) ≡ (if has q (take (i + 1) xs) && not (k q) then remaining_at m q (get m.objects q) else None)
  turned q = ap (λ b. if b && not (k q) then remaining_at m q (get m.objects q) else None) (sym (has_next xs i d q within))

  pub rest_skips : (rest : FinMap nat_cmp Remaining) → k (get_or xs i d) ≡ true → IsRest m k (take i xs) rest → IsRest m k (take (i + 1) xs) rest
  rest_skips rest member so_far q =
      so_far q ∙ skipped (has q (take i xs)) (get_or xs i d == q) (k q) (remaining_at m q (get m.objects q)) (λ t. subst (λ p. k p ≡ true) (same_number (get_or xs i d) q t) member) ∙ turned q

  pub rest_joins : (rest new : FinMap nat_cmp Remaining) → k (get_or xs i d) ≡ false → ((q : ℕ) → get new q ≡ with_remaining m rest (get_or xs i d) q) → IsRest m k (take i xs) rest → IsRest m k (take (i + 1) xs) new
  rest_joins rest new other put so_far q =
      put q ∙ ap (λ y. if (get_or xs i d == q) && is_some (get m.objects (get_or xs i d)) then remaining_at m q (get m.objects q) else y) (so_far q)
      ∙ joined (has q (take i xs)) (get_or xs i d == q) (k q) (is_some (get m.objects (get_or xs i d))) (remaining_at m q (get m.objects q))
      (λ t. subst (λ p. k p ≡ false) (same_number (get_or xs i d) q t) other)
      (λ none t. nothing_at m q (get m.objects q) (subst (λ p. is_some (get m.objects p) ≡ false) (same_number (get_or xs i d) q t) none))
      ∙ turned q

whole : (h k : Bool) (m : State) (q : ℕ) (x : Option Entry) → is_some x ≡ h → (if h && not k then remaining_at m q x else None) ≡ (if k then None else remaining_at m q x)
whole true true m q x t = refl
whole true false m q x t = refl
whole false true m q x t = refl
whole false false m q x t = sym (nothing_at m q x t)

-- all were listed
pub rest_whole : (m : State) (k : ℕ → Bool) (rest : FinMap nat_cmp Remaining) → IsRest m k (keys m.objects) rest → (q : ℕ) → get rest q ≡ (if k q then None else remaining_at m q (get m.objects q))
rest_whole m k rest all q = all q ∙ whole (has q (keys m.objects)) (k q) m q (get m.objects q) (contains_key-keys m.objects q ∙ has_as_any q (keys m.objects))

turned_round : (b : Bool) (x : Option Remaining) → (if b && true then x else None) ≡ (if not b then None else x)
turned_round true x = refl
turned_round false x = refl

-- no listed one was skipped
pub rest_listed : (m : State) (xs : List ℕ) (rest : FinMap nat_cmp Remaining) → IsRest m (λ o. false) xs rest → (q : ℕ) → get rest q ≡ (if not (has q xs) then None else remaining_at m q (get m.objects q))
rest_listed m xs rest all q = all q ∙ turned_round (has q xs) (remaining_at m q (get m.objects q))

-- where neither of two holds
pub neither_left : (a b : Bool) → (a || b) ≡ false → a ≡ false
neither_left true b h = h
neither_left false b h = refl

pub neither_right : (a b : Bool) → (a || b) ≡ false → b ≡ false
neither_right true b h = absurd cc
neither_right false b h = h

-- what a call that succeeded gives
pub on_ok : {T E : Type 0} (r : Result T E) {P Q : Type 0} → OnOk r P → (P → Q) → OnOk r Q
on_ok (Ok x) p f = f p
on_ok (Err e) p f = tt
