-- One pass over the fields gives each leaked object its holders.
use Rattle.std.proofs.Common.{◌≡◌, ◌≢◌, ℕ, zero, suc, ◌+◌, ◌<◌, ◌≤◌, List, [], ◌∷◌, ◌++◌, map, length, get_or, set, drop, drop-cons, drop_of_length-le, add-one, refl, ap, ◌∙◌, sym, subst, arith, Bool, true, false, cond, append_assoc, append-nil}
use Rattle.std.specs.Prelude.{◌==◌, ◌||◌, ◌&&◌, not, if◌then◌else◌, Option, Some, None, filter}
use Rattle.std.specs.List.{AllByRecursion, list_any}
use Rattle.std.specs.List.Sorted.{IsStrictlySortedBy, IsBinarySearchResult}
use Rattle.std.specs.Prelude.{Ok, Err}
use Rattle.std.proofs.Common.{⊎_elim}
use Rattle.std.proofs.lemmas.Bool.{cases_lt}
use Rattle.std.proofs.lemmas.List.Sorted.{searched}
use Rattle.std.specs.declared.cmp.Ordering.{Ordering}
use Rattle.std.specs.declared.cmp.Ordering.TheVariants.{Less, Equal, Greater}
use Rattle.std.specs.Ordering.{nat_cmp, is_lt}
use Rattle.std.proofs.lemmas.Bool.Decides.{nat_tests}
use Rattle.std.proofs.lemmas.Map.Keys.{sorted_head, sorted_tail, below_from_sorted}
use Rattle.std.specs.FinMap.{get, keys, entries, entries_sorted}
use Rattle.std.specs.FinMap.Entries.{is_sorted, below_all}
use Rattle.std.proofs.Math.Dec.{T}
use Rattle.trace_types.specs.declared.slots.Slot.{Slot}
use Rattle.trace_types.specs.declared.slots.Slot.TheVariants.{Nothing, Strong, Weak, Dangling}
use Rattle.trace_types.specs.declared.slots.Entry.{Entry}
use Rattle.trace_types.specs.declared.slots.Entry.TheVariants.{Alive, Husk}
use Rattle.ownership_model.specs.State.{State, is_alive}
use Rattle.ownership_model.specs.declared.leaks.Leak.{Leak}
use Rattle.ownership_model.specs.declared.leaks.Holder.{Holder}
use Rattle.ownership_model.specs.declared.link.Link.TheVariants.{StrongOnly}
use Rattle.ownership_model.specs.Reach.{IsReach, is_reached}
use Rattle.ownership_model.proofs.LawsHold.{reach}
use Rattle.ownership_model.specs.Leaks.{holds, fields_holding, entry_holding, holders_in, leaks_in, leaked_in, holders_of}
use Rattle.leak_report.specs.HolderPass.{with_holders, unheld, leak_names}

-- the holder, where its slot holds the object
abbrev pub slot_holding : Holder → Slot → ℕ → List Holder
slot_holding h s o = if holds o s then h ∷ [] else []

pub names-with_holders : (more : ℕ → List Holder) (ls : List Leak) → leak_names (with_holders more ls) ≡ leak_names ls
names-with_holders more [] = refl
names-with_holders more (l ∷ ls) = ap (λ os. l.object ∷ os) (names-with_holders more ls)

same_leak : (l : Leak) → record { object = l.object; holders = l.holders ++ [] } ≡ l
same_leak l = ap (λ hs. record { object = l.object; holders = hs }) (append-nil l.holders)

or_false_left : (a b : Bool) → (a || b) ≡ false → a ≡ false
or_false_left true b h = absurd cc
or_false_left false b h = refl

or_false_right : (a b : Bool) → (a || b) ≡ false → b ≡ false
or_false_right true b h = absurd cc
or_false_right false b h = h

-- a slot that holds none of them
pub slot_apart : (h : Holder) (s : Slot) (ls : List Leak) → list_any (λ o. holds o s) (leak_names ls) ≡ false → with_holders (slot_holding h s) ls ≡ ls
slot_apart h s [] apart = refl
slot_apart h s (l ∷ ls) apart =
    let here : holds l.object s ≡ false = or_false_left (holds l.object s) (list_any (λ o. holds o s) (leak_names ls)) apart in
    let rest : with_holders (slot_holding h s) ls ≡ ls = slot_apart h s ls (or_false_right (holds l.object s) (list_any (λ o. holds o s) (leak_names ls)) apart) in
    ap (λ b. record { object = l.object; holders = l.holders ++ (if b then h ∷ [] else []) } ∷ with_holders (slot_holding h s) ls) here
    ∙ ap (λ x. x ∷ with_holders (slot_holding h s) ls) (same_leak l) ∙ ap (λ xs. l ∷ xs) rest

apart_above : (o : ℕ) (os : List ℕ) → AllByRecursion (λ y. nat_cmp o y ≡ Less) os → list_any (λ x. o == x) os ≡ false
apart_above o [] h = refl
apart_above o (x ∷ os) h = grind (arith, nat_tests, h.0, apart_above o os h.1)

above_at : (x n : ℕ) (ls : List Leak) (d : Leak) → AllByRecursion (λ y. nat_cmp x y ≡ Less) (leak_names ls) → n < length ls → x < (get_or ls n d).object
above_at x n [] d h in' = absurd (omega arith)
above_at x zero (l ∷ ls) d h in' = grind (arith, nat_tests, h.0)
above_at x (suc n) (l ∷ ls) d h in' = above_at x n ls d h.1 (omega arith)

-- a slot that holds the one at n
pub slot_at : (h : Holder) (o n : ℕ) (ls : List Leak) (d : Leak) → IsStrictlySortedBy nat_cmp (leak_names ls) → n < length ls → (get_or ls n d).object ≡ o
    → with_holders (slot_holding h (Strong o)) ls ≡ set ls n (record { object = (get_or ls n d).object; holders = (get_or ls n d).holders ++ h ∷ [] })
slot_at h o n [] d sorted in' is = absurd (omega arith)
slot_at h o zero (l ∷ ls) d sorted in' is =
    let here : (o == l.object) ≡ true = grind (arith, nat_tests, is) in
    let apart : list_any (λ q. o == q) (leak_names ls) ≡ false = subst (λ x. list_any (λ q. x == q) (leak_names ls) ≡ false) is (apart_above l.object (leak_names ls) (sorted_head nat_cmp l.object (leak_names ls) sorted)) in
    let rest : with_holders (slot_holding h (Strong o)) ls ≡ ls = slot_apart h (Strong o) ls apart in
    ap (λ b. record { object = l.object; holders = l.holders ++ (if b then h ∷ [] else []) } ∷ with_holders (slot_holding h (Strong o)) ls) here
    ∙ ap (λ xs. record { object = l.object; holders = l.holders ++ h ∷ [] } ∷ xs) rest
slot_at h o (suc n) (l ∷ ls) d sorted in' is =
    let below : l.object < (get_or ls n d).object = above_at l.object n ls d (sorted_head nat_cmp l.object (leak_names ls) sorted) (omega arith) in
    let here : (o == l.object) ≡ false = grind (arith, nat_tests, is, below) in
    let rest : with_holders (slot_holding h (Strong o)) ls ≡ set ls n (record { object = (get_or ls n d).object; holders = (get_or ls n d).holders ++ h ∷ [] }) = slot_at h o n ls d (sorted_tail nat_cmp l.object (leak_names ls) sorted) (omega arith) is in
    ap (λ b. record { object = l.object; holders = l.holders ++ (if b then h ∷ [] else []) } ∷ with_holders (slot_holding h (Strong o)) ls) here
    ∙ ap (λ x. x ∷ with_holders (slot_holding h (Strong o)) ls) (same_leak l) ∙ ap (λ xs. l ∷ xs) rest

nothing_more : (ls : List Leak) → with_holders (λ o. []) ls ≡ ls
nothing_more [] = refl
nothing_more (l ∷ ls) = ap (λ x. x ∷ with_holders (λ o. []) ls) (same_leak l) ∙ ap (λ xs. l ∷ xs) (nothing_more ls)

twice_more : (h g f : ℕ → List Holder) (ls : List Leak) → ((o : ℕ) → f o ≡ h o ++ g o) → with_holders g (with_holders h ls) ≡ with_holders f ls
twice_more h g f [] is = refl
twice_more h g f (l ∷ ls) is =
    ap (λ xs. record { object = l.object; holders = xs } ∷ with_holders g (with_holders h ls)) (append_assoc l.holders (h l.object) (g l.object) ∙ ap (λ xs. l.holders ++ xs) (sym (is l.object)))
    ∙ ap (λ xs. record { object = l.object; holders = l.holders ++ f l.object } ∷ xs) (twice_more h g f ls is)

one_field : (o p i : ℕ) (s : Slot) (ss : List Slot) → fields_holding o p i (s ∷ ss) ≡ (if holds o s then record { object = p; field = i } ∷ [] else []) ++ fields_holding o p (i + 1) ss
one_field o p i s ss =
    elim (holds o s) as (λ b. (if b then record { object = p; field = i } ∷ fields_holding o p (i + 1) ss else fields_holding o p (i + 1) ss) ≡ (if b then record { object = p; field = i } ∷ [] else []) ++ fields_holding o p (i + 1) ss) [
      | true ↦ refl
      | false ↦ refl
    ]

-- one field more
pub field_more : (p i : ℕ) (ss : List Slot) (s d : Slot) (old new end : List Leak) → i < length ss → s ≡ get_or ss i d
    → new ≡ with_holders (slot_holding (record { object = p; field = i }) s) old → with_holders (λ o. fields_holding o p i (drop i ss)) old ≡ end
    → with_holders (λ o. fields_holding o p (i + 1) (drop (i + 1) ss)) new ≡ end
field_more p i ss s d old new end h is more was =
    let rest : drop i ss ≡ get_or ss i d ∷ drop (suc i) ss = drop-cons ss i d h in
    ap (λ n. with_holders (λ o. fields_holding o p (i + 1) (drop n ss)) new) (add-one i)
    ∙ ap (with_holders (λ o. fields_holding o p (i + 1) (drop (suc i) ss))) more
    ∙ twice_more (slot_holding (record { object = p; field = i }) s) (λ o. fields_holding o p (i + 1) (drop (suc i) ss)) (λ o. fields_holding o p i (s ∷ drop (suc i) ss)) old (λ o. one_field o p i s (drop (suc i) ss))
    ∙ ap (λ xs. with_holders (λ o. fields_holding o p i xs) old) (ap (λ x. x ∷ drop (suc i) ss) is ∙ sym rest)
    ∙ was

-- one object more
pub object_more : (m : State) (i : ℕ) (ps : List ℕ) (p d : ℕ) (e : Option Entry) (old new end : List Leak) → i < length ps → p ≡ get_or ps i d → e ≡ get m.objects p
    → new ≡ with_holders (λ o. entry_holding o p e) old → with_holders (λ o. holders_in m (drop i ps) o) old ≡ end
    → with_holders (λ o. holders_in m (drop (i + 1) ps) o) new ≡ end
object_more m i ps p d e old new end h is there more was =
    let rest : drop i ps ≡ get_or ps i d ∷ drop (suc i) ps = drop-cons ps i d h in
    ap (λ n. with_holders (λ o. holders_in m (drop n ps) o) new) (add-one i)
    ∙ ap (with_holders (λ o. holders_in m (drop (suc i) ps) o)) (more ∙ ap (λ x. with_holders (λ o. entry_holding o p x) old) there)
    ∙ twice_more (λ o. entry_holding o p (get m.objects p)) (λ o. holders_in m (drop (suc i) ps) o) (λ o. holders_in m (p ∷ drop (suc i) ps) o) old (λ o. refl)
    ∙ ap (λ xs. with_holders (λ o. holders_in m xs o) old) (ap (λ x. x ∷ drop (suc i) ps) is ∙ sym rest)
    ∙ was

pub fields_end : (p i : ℕ) (ss : List Slot) (ls end : List Leak) → length ss ≤ i → with_holders (λ o. fields_holding o p i (drop i ss)) ls ≡ end → ls ≡ end
fields_end p i ss ls end h was = sym (nothing_more ls) ∙ ap (λ xs. with_holders (λ o. fields_holding o p i xs) ls) (sym (drop_of_length-le ss h)) ∙ was

pub objects_end : (m : State) (i : ℕ) (ps : List ℕ) (ls end : List Leak) → length ps ≤ i → with_holders (λ o. holders_in m (drop i ps) o) ls ≡ end → ls ≡ end
objects_end m i ps ls end h was = sym (nothing_more ls) ∙ ap (λ xs. with_holders (λ o. holders_in m xs o) ls) (sym (drop_of_length-le ps h)) ∙ was

-- an object without a value
pub no_value_more : (p : ℕ) (e : Option Entry) (ls : List Leak) → is_alive e ≡ false → ls ≡ with_holders (λ o. entry_holding o p e) ls
no_value_more p None ls gone = sym (nothing_more ls)
no_value_more p (Some Husk) ls gone = sym (nothing_more ls)
no_value_more p (Some (Alive fields)) ls gone = absurd cc

held_unheld : (h : ℕ → List Holder) (os : List ℕ) → with_holders h (unheld os) ≡ map (λ o. record { object = o; holders = h o }) os
held_unheld h [] = refl
held_unheld h (o ∷ os) = ap (λ xs. record { object = o; holders = h o } ∷ xs) (held_unheld h os)

same_leaked : (k j : ℕ → Bool) (m : State) (os : List ℕ) → ((o : ℕ) → k o ≡ j o) → leaked_in k m os ≡ leaked_in j m os
same_leaked k j m [] same = refl
same_leaked k j m (o ∷ os) same = grind (arith, same o, same_leaked k j m os same)

-- what one pass gives
pub all_holders : (k j : ℕ → Bool) (m : State) → ((o : ℕ) → k o ≡ j o) → with_holders (λ o. holders_in m (keys m.objects) o) (unheld (leaked_in k m (keys m.objects))) ≡ leaks_in j m (keys m.objects)
all_holders k j m same =
    held_unheld (holders_of m) (leaked_in k m (keys m.objects))
    ∙ ap (λ os. map (λ o. record { object = o; holders = holders_of m o }) os) (same_leaked k j m (keys m.objects) same)

pub names-unheld : (os : List ℕ) → leak_names (unheld os) ≡ os
names-unheld [] = refl
names-unheld (o ∷ os) = ap (λ xs. o ∷ xs) (names-unheld os)

first : (a b : Bool) → T (a && b) → T a
first true b p = tt
first false b p = p

second : (a b : Bool) → T (a && b) → T b
second true b p = p
second false b p = absurd p

less : (o : Ordering) → T (is_lt o) → o ≡ Less
less Less p = refl
less Equal p = absurd p
less Greater p = absurd p

above_keys : (k : ℕ) (es : List (ℕ × Entry)) → T (below_all nat_cmp k es) → AllByRecursion (λ y. nat_cmp k y ≡ Less) (map (λ (e : ℕ × Entry). e.0) es)
above_keys k [] h = tt
above_keys k (e ∷ es) h = (less _ (first _ _ h), above_keys k es (second _ _ h))

sorted_keys : (es : List (ℕ × Entry)) → T (is_sorted nat_cmp es) → IsStrictlySortedBy nat_cmp (map (λ (e : ℕ × Entry). e.0) es)
unfolding IsStrictlySortedBy
sorted_keys [] h = tt
sorted_keys (e ∷ es) h = (above_keys e.0 es (first _ _ h), sorted_keys es (second _ _ h))

all_kept : (P : ℕ → Type 0) (p : ℕ → Bool) (xs : List ℕ) → AllByRecursion P xs → AllByRecursion P (filter p xs)
all_kept P p [] h = tt
all_kept P p (x ∷ xs) h = elim (p x) as (λ b. AllByRecursion P (cond b (x ∷ filter p xs) (filter p xs))) [ true ↦ (h.0, all_kept P p xs h.1) | false ↦ all_kept P p xs h.1 ]

sorted_kept : (p : ℕ → Bool) (xs : List ℕ) → IsStrictlySortedBy nat_cmp xs → IsStrictlySortedBy nat_cmp (filter p xs)
unfolding IsStrictlySortedBy
sorted_kept p [] h = tt
sorted_kept p (x ∷ xs) h = elim (p x) as (λ b. IsStrictlySortedBy nat_cmp (cond b (x ∷ filter p xs) (filter p xs))) [ true ↦ (all_kept _ p xs h.0, sorted_kept p xs h.1) | false ↦ sorted_kept p xs h.1 ]

pub leaked_rise : (k : ℕ → Bool) (m : State) → IsStrictlySortedBy nat_cmp (leaked_in k m (keys m.objects))
leaked_rise k m = sorted_kept (λ o. is_alive (get m.objects o) && not (k o)) (keys m.objects) (sorted_keys (entries m.objects) (entries_sorted m.objects))

none_held : (os : List ℕ) → list_any (λ o. false) os ≡ false
none_held [] = refl
none_held (o ∷ os) = none_held os

pub other_slot : (h : Holder) (s : Slot) (ls : List Leak) → ((o : ℕ) → s ≡ Strong o → ⊥) → ls ≡ with_holders (slot_holding h s) ls
other_slot h (Strong o) ls other = absurd (other o refl)
other_slot h Nothing ls other = sym (slot_apart h Nothing ls (none_held (leak_names ls)))
other_slot h (Weak o) ls other = sym (slot_apart h (Weak o) ls (none_held (leak_names ls)))
other_slot h Dangling ls other = sym (slot_apart h Dangling ls (none_held (leak_names ls)))

rise : (os : List ℕ) → IsStrictlySortedBy nat_cmp os → (i j : ℕ) → i ≤ j → j < length os → get_or os i 0 ≤ get_or os j 0
rise os sorted i j h in' = ⊎_elim
    (λ l. let f : get_or os i 0 < get_or os j 0 = below_from_sorted os i j 0 sorted l in' in omega (arith, f))
    (λ g. let e : i ≡ j = omega arith in subst (λ k. get_or os i 0 ≤ get_or os k 0) e (omega arith))
    (cases_lt i j)

found_none : (o : ℕ) (os : List ℕ) → ((k : ℕ) → k < length os → get_or os k 0 ≢ o) → list_any (λ q. o == q) os ≡ false
found_none o [] h = refl
found_none o (x ∷ os) h =
    let here : x ≢ o = h 0 (omega arith) in
    let rest : list_any (λ q. o == q) os ≡ false = found_none o os (λ k in'. h (suc k) (omega arith)) in
    grind (arith, nat_tests, here, rest)

apart_at : (os : List ℕ) (o n k : ℕ) → ((j : ℕ) → j < n → get_or os j 0 < o) → ((j : ℕ) → n ≤ j → j < length os → o < get_or os j 0) → k < length os → get_or os k 0 ≢ o
apart_at os o n k low high in' = ⊎_elim (λ l. let f : get_or os k 0 < o = low k l in omega (arith, f)) (λ g. let f : o < get_or os k 0 = high k g in' in omega (arith, f)) (cases_lt k n)

pub not_found : (h : Holder) (o n : ℕ) (s : Slot) (os : List ℕ) (ls : List Leak) → s ≡ Strong o → leak_names ls ≡ os → IsStrictlySortedBy nat_cmp os → IsBinarySearchResult (λ y. nat_cmp y o) os (Err n) → ls ≡ with_holders (slot_holding h s) ls
not_found h o n s os ls is same sorted search =
    let told : (n ≤ length os) × ((k : ℕ) → k < n → get_or os k 0 < o) × ((k : ℕ) → n ≤ k → k < length os → o < get_or os k 0) = searched os o (Err n) search (rise os sorted) in
    let apart : list_any (λ q. o == q) os ≡ false = found_none o os (λ k in'. apart_at os o n k told.1 told.2 in') in
    subst (λ x. ls ≡ with_holders (slot_holding h x) ls) (sym is) (sym (slot_apart h (Strong o) ls (subst (λ xs. list_any (λ q. o == q) xs ≡ false) (sym same) apart)))

name_at : (ls : List Leak) (n : ℕ) (d : Leak) → n < length ls → get_or (leak_names ls) n 0 ≡ (get_or ls n d).object
name_at [] n d in' = absurd (omega arith)
name_at (l ∷ ls) zero d in' = refl
name_at (l ∷ ls) (suc n) d in' = name_at ls n d (omega arith)

length_names : (ls : List Leak) → length (leak_names ls) ≡ length ls
length_names [] = refl
length_names (l ∷ ls) = ap suc (length_names ls)

pub found : (h : Holder) (o n : ℕ) (s : Slot) (os : List ℕ) (ls : List Leak) (d : Leak) (hs : List Holder) → s ≡ Strong o → leak_names ls ≡ os → IsStrictlySortedBy nat_cmp os → IsBinarySearchResult (λ y. nat_cmp y o) os (Ok n)
    → d ≡ get_or ls n d → hs ≡ d.holders ++ h ∷ [] → set ls n (record { object = d.object; holders = hs }) ≡ with_holders (slot_holding h s) ls
found h o n s os ls d hs is same sorted search at more =
    let told : (n < length os) × (get_or os n 0 ≡ o) = searched os o (Ok n) search (rise os sorted) in
    let in' : n < length ls = subst (λ k. n < k) (ap length (sym same) ∙ length_names ls) told.0 in
    let here : (get_or ls n d).object ≡ o = sym (name_at ls n d in') ∙ ap (λ xs. get_or xs n 0) same ∙ told.1 in
    let step : with_holders (slot_holding h (Strong o)) ls ≡ set ls n (record { object = (get_or ls n d).object; holders = (get_or ls n d).holders ++ h ∷ [] }) = slot_at h o n ls d (subst (λ xs. IsStrictlySortedBy nat_cmp xs) (sym same) sorted) in' here in
    ap (λ xs. set ls n (record { object = d.object; holders = xs })) more
    ∙ ap (λ (x : Leak). set ls n (record { object = x.object; holders = x.holders ++ h ∷ [] })) at
    ∙ sym step
    ∙ ap (λ x. with_holders (slot_holding h x) ls) (sym is)

pub in_range : (o n : ℕ) (os : List ℕ) (ls : List Leak) → leak_names ls ≡ os → IsStrictlySortedBy nat_cmp os → IsBinarySearchResult (λ y. nat_cmp y o) os (Ok n) → n < length ls
in_range o n os ls same sorted search =
    let told : (n < length os) × (get_or os n 0 ≡ o) = searched os o (Ok n) search (rise os sorted) in
    subst (λ k. n < k) (ap length (sym same) ∙ length_names ls) told.0

-- all that is found, by what each part of the search gave
pub found_leaks : (k : ℕ → Bool) (m : State) (os xs names : List ℕ) (start ls : List Leak) → IsReach StrongOnly m k → os ≡ keys m.objects → xs ≡ keys m.objects
    → names ≡ leaked_in k m os → start ≡ unheld names → ls ≡ with_holders (λ o. holders_in m xs o) start → ls ≡ leaks_in (λ o. is_reached StrongOnly m o) m (keys m.objects)
found_leaks k m os xs names start ls is_reach all again is from then' =
    then' ∙ ap (λ ys. with_holders (λ o. holders_in m ys o) start) again ∙ ap (with_holders (λ o. holders_in m (keys m.objects) o)) (from ∙ ap unheld (is ∙ ap (leaked_in k m) all))
    ∙ all_holders k (λ o. is_reached StrongOnly m o) m (reach.only StrongOnly m k is_reach)
