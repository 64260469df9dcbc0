-- A depth-first search enters an object that it has not seen, and leaves one all of whose fields it has gone through.
use Rattle.std.proofs.Common.{◌≡◌, ℕ, ◌+◌, ◌<◌, ◌≤◌, inl, inr, List, [], ◌∷◌, ◌++◌, length, get_or, set, refl, sym, ◌∙◌, subst, arith, Bool, true, false, length-append, length-set}
use Rattle.std.specs.Prelude.{◌==◌, ◌||◌}
use Rattle.std.proofs.lemmas.List.{get_or_append_left, get_or_push}
use Rattle.ownership_model.specs.Reach.{has}
use Rattle.ownership_model.proofs.Searching.{or_left, or_right}
use Rattle.retention.specs.Paths.{Chain, Path, Same, marked, IsBehind, IsSearching, IsLeavingOrder}
use Rattle.retention.proofs.WalkSteps.{number_same, same_number, apart_number, by_number}
use Rattle.retention.proofs.PathLemmas.{has_at, at_has, has_last, has_before, by_last, not_last, mark_same, mark_other, same_path, same_trans}

not_both : (P : Type 0) (b : Bool) → b ≡ true → b ≡ false → P
not_both P true t f = absurd cc
not_both P false t f = absurd cc

false_unless : (b : Bool) → (b ≡ true → ⊥) → b ≡ false
false_unless true h = absurd (h refl)
false_unless false h = refl

either_of : (P : Type 0) (a b : Bool) → (a || b) ≡ true → (a ≡ true → P) → (b ≡ true → P) → P
either_of P true b h p q = p refl
either_of P false b h p q = q h

by_length : (P : Type 0) (j n : ℕ) → j < n + 1 → (j < n → P) → (j ≡ n → P) → P
by_length P j n h old last =
    elim (j == n) as (λ b. (j == n) ≡ b → P) [
      | true ↦ λ e. last (number_same j n e)
      | false ↦ λ e. old (let apart : j ≡ n → ⊥ = apart_number j n e in omega (arith, h, apart))
    ] refl

module _ (Edge : ℕ → ℕ → Type 0) (n : ℕ) (seen : List Bool) (path order : List ℕ) (is : IsSearching Edge n seen path order) where
  -- It enters an object.
  module _ (t : ℕ) (within : t < n) (new : marked seen t ≡ false) (from : (i : ℕ) → i < length path → Path Edge (get_or path i 0) t) where
    inside : t < length seen
    inside = subst (λ k. t < k) (sym is.long) within

    still : (x : ℕ) → marked seen x ≡ true → marked (set seen t true) x ≡ true
    still x h = by_number (λ y. marked seen y ≡ true → marked (set seen t true) y ≡ true) t x (λ k. mark_same seen t inside) (λ e k. mark_other seen t x e ∙ k) h

    unless : (P : ℕ → Type 0) → P t → ((x : ℕ) → marked seen x ≡ true → P x) → (x : ℕ) → marked (set seen t true) x ≡ true → P x
    unless P here other x = by_number (λ y. marked (set seen t true) y ≡ true → P y) t x (λ h. here) (λ e h. other x (sym (mark_other seen t x e) ∙ h))

    longer : length (path ++ t ∷ []) ≡ length path + 1
    longer = length-append path (t ∷ [])

    first_of : (i : ℕ) → i < length path → get_or (path ++ t ∷ []) i 0 ≡ get_or path i 0
    first_of i h = get_or_append_left path (t ∷ []) 0 i h

    last_of : (j : ℕ) → j ≡ length path → get_or (path ++ t ∷ []) j 0 ≡ t
    last_of j e = get_or_push path t 0 j (sym e)

    unordered : has t order ≡ false
    unordered = false_unless (has t order) (λ h. not_both ⊥ (marked seen t) (is.order_seen t h) new)

    enter_chain : (i j : ℕ) → i < j → j < length (path ++ t ∷ []) → Path Edge (get_or (path ++ t ∷ []) i 0) (get_or (path ++ t ∷ []) j 0)
    enter_chain i j h k =
        by_length (Path Edge (get_or (path ++ t ∷ []) i 0) (get_or (path ++ t ∷ []) j 0)) j (length path) (subst (λ x. j < x) longer k)
        (λ old. let first : i < length path = omega (arith, h, old) in
        subst (λ x. Path Edge x (get_or (path ++ t ∷ []) j 0)) (sym (first_of i first)) (subst (λ x. Path Edge (get_or path i 0) x) (sym (first_of j old)) (is.chain i j h old)))
        (λ last. let first : i < length path = omega (arith, h, last) in
        subst (λ x. Path Edge x (get_or (path ++ t ∷ []) j 0)) (sym (first_of i first)) (subst (λ x. Path Edge (get_or path i 0) x) (sym (last_of j last)) (from i first)))

    enter_distinct : (i j : ℕ) → i < j → j < length (path ++ t ∷ []) → get_or (path ++ t ∷ []) i 0 ≡ get_or (path ++ t ∷ []) j 0 → ⊥
    enter_distinct i j h k e =
        by_length ⊥ j (length path) (subst (λ x. j < x) longer k)
        (λ old. let first : i < length path = omega (arith, h, old) in is.distinct i j h old (sym (first_of i first) ∙ e ∙ first_of j old))
        (λ last. let first : i < length path = omega (arith, h, last) in
        not_both ⊥ (marked seen t) (subst (λ x. marked seen x ≡ true) (sym (first_of i first) ∙ e ∙ last_of j last) (is.path_seen (get_or path i 0) (has_at path i first))) new)

    still_behind : (k w : ℕ) → IsBehind path order k w → IsBehind (path ++ t ∷ []) order k w
    still_behind k w (inl h) = inl (has_before path t w h)
    still_behind k w (inr it) = inr it

    pub enters : IsSearching Edge n (set seen t true) (path ++ t ∷ []) order
    enters = record {
      long = length-set seen t true ∙ is.long;
      within = unless (λ x. x < n) within is.within;
      path_seen = λ x h. by_last (marked (set seen t true) x ≡ true) path t x h (λ k. still x (is.path_seen x k)) (λ e. subst (λ y. marked (set seen t true) y ≡ true) e (mark_same seen t inside));
      order_seen = λ x h. still x (is.order_seen x h);
      either = unless (λ x. (has x (path ++ t ∷ []) || has x order) ≡ true) (or_left (has t (path ++ t ∷ [])) (has t order) (has_last path t))
          (λ x h. either_of ((has x (path ++ t ∷ []) || has x order) ≡ true) (has x path) (has x order) (is.either x h)
          (λ k. or_left (has x (path ++ t ∷ [])) (has x order) (has_before path t x k)) (λ k. or_right (has x (path ++ t ∷ [])) (has x order) k));
      apart = λ x h. by_last (has x order ≡ false) path t x h (is.apart x) (λ e. subst (λ y. has y order ≡ false) e unordered);
      chain = enter_chain;
      distinct = enter_distinct;
      done = λ x y h e. still y (is.done x y h e);
      led = λ u y h k p. let it = is.led u y h k p in (it.0, has_before path t it.0 it.1, it.2);
      last = λ u v k h p l e. let it = is.last u v k h p l e in (it.0, it.1, still_behind k it.0 it.2);
    }

-- It leaves the last object of the path.
module _ (Edge : ℕ → ℕ → Type 0) (n : ℕ) (seen : List Bool) (rest : List ℕ) (x : ℕ) (order : List ℕ) (is : IsSearching Edge n seen (rest ++ x ∷ []) order)
    (gone : (y : ℕ) → Edge x y → marked seen y ≡ true) where
  grown : length (order ++ x ∷ []) ≡ length order + 1
  grown = length-append order (x ∷ [])

  path_long : length (rest ++ x ∷ []) ≡ length rest + 1
  path_long = length-append rest (x ∷ [])

  here : has x (rest ++ x ∷ []) ≡ true
  here = has_last rest x

  unordered_x : has x order ≡ false
  unordered_x = is.apart x here

  all_done : (a b : ℕ) → has a (order ++ x ∷ []) ≡ true → Edge a b → marked seen b ≡ true
  all_done a b h e = by_last (marked seen b ≡ true) order x a h (λ k. is.done a b k e) (λ same. gone b (subst (λ y. Edge y b) (sym same) e))

  -- what is seen and not left is before it on the path
  still_on : (y : ℕ) → marked seen y ≡ true → has y (order ++ x ∷ []) ≡ false → has y rest ≡ true
  still_on y h k =
      let not = not_last order x y k in
      either_of (has y rest ≡ true) (has y (rest ++ x ∷ [])) (has y order) (is.either y h)
      (λ on. by_last (has y rest ≡ true) rest x y on (λ r. r) (λ e. not_both (has y rest ≡ true) (x == y) (subst (λ z. (x == z) ≡ true) e (same_number x)) not.1))
      (λ off. not_both (has y rest ≡ true) (has y order) off not.0)

  -- a path out of what is left goes on by the path of the search
  leaves : (cs : List ℕ) (a y : ℕ) → has a (order ++ x ∷ []) ≡ true → has y (order ++ x ∷ []) ≡ false → Chain Edge a cs y → (w : ℕ) × (has w rest ≡ true) × Path Edge a w
  leaves [] a y h k e = (y, still_on y (all_done a y h e) k, ([], e))
  leaves (c ∷ cs) a y h k e =
      elim (has c (order ++ x ∷ [])) as (λ b. has c (order ++ x ∷ []) ≡ b → (w : ℕ) × (has w rest ≡ true) × Path Edge a w) [
        | true ↦ λ left. let it = leaves cs c y left k e.1 in (it.0, it.1, (c ∷ it.2.0, (e.0, it.2.1)))
        | false ↦ λ on. (c, still_on c (all_done a c h e.0) on, ([], e.0))
      ] refl

  back : (w : ℕ) → has w rest ≡ true → Path Edge w x
  back w h =
      let it = at_has rest w h in
      let l : it.0 < length rest = it.1 in
      let from : get_or (rest ++ x ∷ []) it.0 0 ≡ w = get_or_append_left rest (x ∷ []) 0 it.0 it.1 ∙ it.2 in
      let to : get_or (rest ++ x ∷ []) (length rest) 0 ≡ x = get_or_push rest x 0 (length rest) refl in
      subst (λ z. Path Edge z x) from (subst (λ z. Path Edge (get_or (rest ++ x ∷ []) it.0 0) z) to (is.chain it.0 (length rest) l (omega (arith, path_long))))

  -- x leads out, so that an object before it on the path is in its component
  exit : (y : ℕ) → has y (order ++ x ∷ []) ≡ false → Path Edge x y → (w : ℕ) × (has w rest ≡ true) × Same Edge w x
  exit y k p = let it = leaves p.0 x y (has_last order x) k p.1 in (it.0, it.1, inr (back it.0 it.1, it.2))

  leave_led : (u y : ℕ) → has u (order ++ x ∷ []) ≡ true → has y (order ++ x ∷ []) ≡ false → Path Edge u y → (w : ℕ) × (has w rest ≡ true) × Same Edge w u
  leave_led u y h k p =
      by_last ((w : ℕ) × (has w rest ≡ true) × Same Edge w u) order x u h
      (λ old. let it = is.led u y old (not_last order x y k).0 p in
      by_last ((w : ℕ) × (has w rest ≡ true) × Same Edge w u) rest x it.0 it.1 (λ on. (it.0, on, it.2))
      (λ e. let same : Same Edge x u = subst (λ z. Same Edge z u) (sym e) it.2 in
      let out = exit y k (same_path Edge x u y same p) in
      (out.0, out.1, same_trans Edge out.0 x u out.2 same)))
      (λ e. let out = exit y k (subst (λ z. Path Edge z y) (sym e) p) in (out.0, out.1, subst (λ z. Same Edge out.0 z) e out.2))

  last_one : (k : ℕ) → k < length (order ++ x ∷ []) → IsBehind rest (order ++ x ∷ []) k x
  last_one k h = inr (length order, omega (arith, grown, h), omega (arith, grown), get_or_push order x 0 (length order) refl)

  on_path : (k w u : ℕ) → k < length (order ++ x ∷ []) → has w (rest ++ x ∷ []) ≡ true → Same Edge w u → (z : ℕ) × Same Edge z u × IsBehind rest (order ++ x ∷ []) k z
  on_path k w u h on same =
      by_last ((z : ℕ) × Same Edge z u × IsBehind rest (order ++ x ∷ []) k z) rest x w on (λ r. (w, same, inl r)) (λ e. (x, subst (λ z. Same Edge z u) (sym e) same, last_one k h))

  on_either : (k w u : ℕ) → k < length (order ++ x ∷ []) → IsBehind (rest ++ x ∷ []) order k w → Same Edge w u → (z : ℕ) × Same Edge z u × IsBehind rest (order ++ x ∷ []) k z
  on_either k w u h (inl on) same = on_path k w u h on same
  on_either k w u h (inr it) same = let l : it.0 < length order = it.2 in (w, same, inr (it.0, it.1, omega (arith, grown, l), get_or_append_left order (x ∷ []) 0 it.0 l ∙ it.3))

  leave_last : (u v k : ℕ) → has u (order ++ x ∷ []) ≡ true → Path Edge u v → k < length (order ++ x ∷ []) → get_or (order ++ x ∷ []) k 0 ≡ v → (w : ℕ) × Same Edge w u × IsBehind rest (order ++ x ∷ []) k w
  leave_last u v k h p l e =
      by_last ((w : ℕ) × Same Edge w u × IsBehind rest (order ++ x ∷ []) k w) order x u h
      (λ old. by_length ((w : ℕ) × Same Edge w u × IsBehind rest (order ++ x ∷ []) k w) k (length order) (subst (λ z. k < z) grown l)
      (λ first. let it = is.last u v k old p first (sym (get_or_append_left order (x ∷ []) 0 k first) ∙ e) in on_either k it.0 u l it.2 it.1)
      (λ last. let to : v ≡ x = sym e ∙ get_or_push order x 0 k (sym last) in
      let it = is.led u x old unordered_x (subst (λ z. Path Edge u z) to p) in on_path k it.0 u l it.1 it.2))
      (λ same. (x, inl same, last_one k l))

  leave_apart : (y : ℕ) → has y rest ≡ true → has y (order ++ x ∷ []) ≡ false
  leave_apart y h = false_unless (has y (order ++ x ∷ [])) (λ k. by_last ⊥ order x y k (λ old. not_both ⊥ (has y order) old (is.apart y (has_before rest x y h)))
      (λ e. let it = at_has rest y h in
      let l : it.0 < length rest = it.1 in
      is.distinct it.0 (length rest) l (omega (arith, path_long)) (get_or_append_left rest (x ∷ []) 0 it.0 l ∙ it.2 ∙ sym e ∙ sym (get_or_push rest x 0 (length rest) refl))))

  leave_either : (y : ℕ) → marked seen y ≡ true → (has y rest || has y (order ++ x ∷ [])) ≡ true
  leave_either y h =
      either_of ((has y rest || has y (order ++ x ∷ [])) ≡ true) (has y (rest ++ x ∷ [])) (has y order) (is.either y h)
      (λ on. by_last ((has y rest || has y (order ++ x ∷ [])) ≡ true) rest x y on (or_left (has y rest) (has y (order ++ x ∷ [])))
      (λ e. or_right (has y rest) (has y (order ++ x ∷ [])) (subst (λ z. has z (order ++ x ∷ []) ≡ true) e (has_last order x))))
      (λ off. or_right (has y rest) (has y (order ++ x ∷ [])) (has_before order x y off))

  leave_chain : (i j : ℕ) → i < j → j < length rest → Path Edge (get_or rest i 0) (get_or rest j 0)
  leave_chain i j h k =
      let first : i < length rest = omega (arith, h, k) in
      subst (λ z. Path Edge z (get_or rest j 0)) (get_or_append_left rest (x ∷ []) 0 i first)
      (subst (λ z. Path Edge (get_or (rest ++ x ∷ []) i 0) z) (get_or_append_left rest (x ∷ []) 0 j k) (is.chain i j h (omega (arith, k, path_long))))

  pub leaves_last : IsSearching Edge n seen rest (order ++ x ∷ [])
  leaves_last = record {
    long = is.long;
    within = is.within;
    path_seen = λ y h. is.path_seen y (has_before rest x y h);
    order_seen = λ y h. by_last (marked seen y ≡ true) order x y h (is.order_seen y) (λ e. subst (λ z. marked seen z ≡ true) e (is.path_seen x here));
    either = leave_either;
    apart = leave_apart;
    chain = leave_chain;
    distinct = λ i j h k e. let first : i < length rest = omega (arith, h, k) in is.distinct i j h (omega (arith, k, path_long)) (get_or_append_left rest (x ∷ []) 0 i first ∙ e ∙ sym (get_or_append_left rest (x ∷ []) 0 j k));
    done = all_done;
    led = leave_led;
    last = leave_last;
  }

-- Where the path is empty and all objects are seen, all are left.

gone_behind : (Edge : ℕ → ℕ → Type 0) (order : List ℕ) (k w u : ℕ) → Same Edge w u → IsBehind [] order k w → (z : ℕ) × Same Edge z u × ((j : ℕ) × (k ≤ j) × (j < length order) × (get_or order j 0 ≡ z))
gone_behind Edge order k w u same (inl h) = absurd cc
gone_behind Edge order k w u same (inr it) = (w, same, it)

pub all_left : (Edge : ℕ → ℕ → Type 0) (n : ℕ) (seen : List Bool) (order : List ℕ) → IsSearching Edge n seen [] order → ((x : ℕ) → x < n → marked seen x ≡ true) → IsLeavingOrder Edge n order
all_left Edge n seen order is all = record {
  all = λ x h. is.either x (all x h);
  within = λ k h. is.within (get_or order k 0) (is.order_seen (get_or order k 0) (has_at order k h));
  last = λ u v k h p l e. let it = is.last u v k (is.either u (all u h)) p l e in gone_behind Edge order k it.0 u it.1 it.2;
}
