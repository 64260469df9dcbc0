-- A map as a list that is sorted by number.
use Rattle.std.proofs.Common.{◌≡◌, ℕ, ◌+◌, ◌<◌, ◌≢◌, suc, zero, List, [], ◌∷◌, ◌++◌, length, get_or, set, refl, ap, ◌∙◌, sym, subst, arith, Bool, true, false}
use Rattle.std.specs.Prelude.{not, Some, None, IsTrue, ◌==◌}
use Rattle.std.proofs.Math.Dec.{T}
use Rattle.std.specs.List.{insert, filter, remove}
use Rattle.std.specs.List as List
use Rattle.std.specs.Option.{option_map}
use Rattle.std.proofs.lemmas.Bool.Decides.{nat_tests}
use Rattle.std.specs.declared.cmp.Ordering.TheVariants.{Less}
use Rattle.std.specs.Ordering.{nat_cmp, is_lt, eq_by_cmp}
use Rattle.std.specs.Cmp.{nat_cmp_total}
use Rattle.std.specs.FinMap.{FinMap, entries, empty, get, same_entries_map, from_sorted, get-from_sorted, entries-from_sorted, entries-insert, empty_of_len, len-entries}
use Rattle.std.specs.FinMap as map
use Rattle.std.specs.FinMap.Entries.{below_all, put, find, where_key, is_sorted, is_sorted-put, is_sorted-where_key}
use Rattle.ownership_model.specs.Places.{place_from}
use Rattle.ownership_model.proofs.TotalLemmas.{entries-remove, first, second, less, below_less, below_tied}

pub so : (b : Bool) → IsTrue b → T b
so b e = subst T (sym e) tt

pub is_true : (b : Bool) → T b → IsTrue b
is_true true p = refl
is_true false p = absurd p

module _ {X : Type 0} where
  pub no_entries : ◌≡◌ {A = FinMap nat_cmp X} (from_sorted []) empty
  no_entries = empty_of_len _ (len-entries _ ∙ ap length (entries-from_sorted nat_cmp [] tt))

  pub entries-sorted : (es : List (ℕ × X)) → IsTrue (is_sorted nat_cmp es) → es ≡ entries (from_sorted {R = nat_cmp} es)
  entries-sorted es h = sym (entries-from_sorted nat_cmp es (so _ h))

  pub get-sorted : (es : List (ℕ × X)) (k : ℕ) → IsTrue (is_sorted nat_cmp es) → find nat_cmp k es ≡ get (from_sorted {R = nat_cmp} es) k
  get-sorted es k h = sym (get-from_sorted nat_cmp es k (so _ h))

  pub sorted_put : (k : ℕ) (v : X) (es : List (ℕ × X)) → IsTrue (is_sorted nat_cmp es) → IsTrue (is_sorted nat_cmp (put nat_cmp k v es))
  sorted_put k v es h = is_true _ (is_sorted-put nat_cmp nat_cmp_total k v es (so _ h))

  pub insert-sorted : (k : ℕ) (v : X) (es : List (ℕ × X)) → IsTrue (is_sorted nat_cmp es) → from_sorted {R = nat_cmp} (put nat_cmp k v es) ≡ map.insert (from_sorted es) k v
  insert-sorted k v es h = same_entries_map _ _ (entries-from_sorted nat_cmp _ (so _ (sorted_put k v es h)) ∙ ap (put nat_cmp k v) (sym (entries-from_sorted nat_cmp es (so _ h))) ∙ sym (entries-insert nat_cmp_total (from_sorted es) k v))

  pub sorted_without : (k : ℕ) (es : List (ℕ × X)) → IsTrue (is_sorted nat_cmp es) → IsTrue (is_sorted nat_cmp (where_key nat_cmp (λ x. not (eq_by_cmp nat_cmp k x)) es))
  sorted_without k es h = is_true _ (is_sorted-where_key nat_cmp (λ x. not (eq_by_cmp nat_cmp k x)) es (so _ h))

  pub remove-sorted : (k : ℕ) (es : List (ℕ × X)) → IsTrue (is_sorted nat_cmp es) → from_sorted {R = nat_cmp} (where_key nat_cmp (λ x. not (eq_by_cmp nat_cmp k x)) es) ≡ map.remove (from_sorted es) k
  remove-sorted k es h = same_entries_map _ _ (entries-from_sorted nat_cmp _ (so _ (sorted_without k es h)) ∙ ap (where_key nat_cmp (λ x. not (eq_by_cmp nat_cmp k x))) (sym (entries-from_sorted nat_cmp es (so _ h))) ∙ sym (entries-remove (from_sorted es) k))

  pub find_as_list : (k : ℕ) (es : List (ℕ × X)) → find nat_cmp k es ≡ option_map (λ (e : ℕ × X). e.1) (List.find (λ e. e.0 == k) es)
  find_as_list k [] = refl
  find_as_list k (e ∷ es) = grind (arith, nat_tests, find_as_list k es)

  pub where_as_filter : (k : ℕ) (es : List (ℕ × X)) → where_key nat_cmp (λ x. not (eq_by_cmp nat_cmp k x)) es ≡ filter (λ e. not (e.0 == k)) es
  where_as_filter k [] = refl
  where_as_filter k (e ∷ es) = grind (arith, nat_tests, where_as_filter k es)

  -- no number is k or more: the entry goes last
  pub put_last : (k : ℕ) (v : X) (n : ℕ) (es : List (ℕ × X)) → place_from k n es ≡ None → put nat_cmp k v es ≡ es ++ (k, v) ∷ []
  put_last k v n [] h = refl
  put_last k v n (e ∷ es) h = grind (arith, nat_tests, put_last k v (n + 1) es)

  -- a place is in range
  pub place_bound : (k : ℕ) (n i : ℕ) (es : List (ℕ × X)) → place_from k n es ≡ Some i → (i < n + length es) × (n < suc i)
  place_bound k n i [] h = absurd cc
  place_bound k n i (e ∷ es) h = grind (arith, nat_tests, place_bound k (n + 1) i es)

  pub put_over : (k : ℕ) (v : X) (n at i : ℕ) (es : List (ℕ × X)) (d : ℕ × X) → place_from k n es ≡ Some at → at ≡ n + i → (get_or es i d).0 ≡ k → put nat_cmp k v es ≡ set es i (k, v)
  put_over k v n at i [] d h here is = absurd cc
  put_over k v n at zero (e ∷ es) d h here is = grind (arith, nat_tests, place_bound k (n + 1) at es)
  put_over k v n at (suc i) (e ∷ es) d h here is = grind (arith, nat_tests, place_bound k (n + 1) at es, put_over k v (n + 1) at i es d)

  pub put_between : (k : ℕ) (v : X) (n at i : ℕ) (es : List (ℕ × X)) (d : ℕ × X) → place_from k n es ≡ Some at → at ≡ n + i → (get_or es i d).0 ≢ k → put nat_cmp k v es ≡ insert es i (k, v)
  put_between k v n at i [] d h here other = absurd cc
  put_between k v n at zero (e ∷ es) d h here other = grind (arith, nat_tests, place_bound k (n + 1) at es)
  put_between k v n at (suc i) (e ∷ es) d h here other = grind (arith, nat_tests, place_bound k (n + 1) at es, put_between k v (n + 1) at i es d)

  pub sorted_filter : (k : ℕ) (es : List (ℕ × X)) → IsTrue (is_sorted nat_cmp es) → IsTrue (is_sorted nat_cmp (filter (λ e. not (e.0 == k)) es))
  sorted_filter k es h = subst (λ xs. IsTrue (is_sorted nat_cmp xs)) (where_as_filter k es) (sorted_without k es h)

  pub remove-filter : (k : ℕ) (es : List (ℕ × X)) → IsTrue (is_sorted nat_cmp es) → from_sorted {R = nat_cmp} (filter (λ e. not (e.0 == k)) es) ≡ map.remove (from_sorted es) k
  remove-filter k es h = ap (λ (xs : List (ℕ × X)). from_sorted {R = nat_cmp} xs) (sym (where_as_filter k es)) ∙ remove-sorted k es h

  above : (k : ℕ) (es : List (ℕ × X)) → T (below_all nat_cmp k es) → filter (λ e. not (e.0 == k)) es ≡ es
  above k [] h = refl
  above k (e ∷ es) h =
      let larger : nat_cmp k e.0 ≡ Less = less (nat_cmp k e.0) (first _ (below_all nat_cmp k es) h) in
      let rest : filter (λ x. not (x.0 == k)) es ≡ es = above k es (second (is_lt (nat_cmp k e.0)) _ h) in
      grind (arith, nat_tests, larger, rest)

  -- no number is k or more
  pub cut_last : (k n : ℕ) (es : List (ℕ × X)) → place_from k n es ≡ None → filter (λ e. not (e.0 == k)) es ≡ es
  cut_last k n [] h = refl
  cut_last k n (e ∷ es) h = grind (arith, nat_tests, cut_last k (n + 1) es)

  tail_above : (k : ℕ) (e : ℕ × X) (es : List (ℕ × X)) → IsTrue (is_sorted nat_cmp (e ∷ es)) → k ≡ e.0 → filter (λ x. not (x.0 == k)) es ≡ es
  tail_above k e es sorted is = above k es (below_tied k e.0 es (grind (arith, nat_tests)) (first _ _ (so _ sorted)))

  all_above : (k : ℕ) (e : ℕ × X) (es : List (ℕ × X)) → IsTrue (is_sorted nat_cmp (e ∷ es)) → k < e.0 → filter (λ x. not (x.0 == k)) es ≡ es
  all_above k e es sorted lt = above k es (below_less k e.0 es (grind (arith, nat_tests)) (first _ _ (so _ sorted)))

  sorted_tail : (e : ℕ × X) (es : List (ℕ × X)) → IsTrue (is_sorted nat_cmp (e ∷ es)) → IsTrue (is_sorted nat_cmp es)
  sorted_tail e es sorted = is_true _ (second _ _ (so _ sorted))

  pub cut_at : (k n at i : ℕ) (es : List (ℕ × X)) (d : ℕ × X) → IsTrue (is_sorted nat_cmp es) → place_from k n es ≡ Some at → at ≡ n + i → (get_or es i d).0 ≡ k → filter (λ e. not (e.0 == k)) es ≡ remove es i
  cut_at k n at i [] d sorted h here is = absurd cc
  cut_at k n at zero (e ∷ es) d sorted h here is = let rest : filter (λ x. not (x.0 == k)) es ≡ es = tail_above k e es sorted (sym is) in grind (arith, nat_tests, rest)
  cut_at k n at (suc i) (e ∷ es) d sorted h here is = grind (arith, nat_tests, place_bound k (n + 1) at es, cut_at k (n + 1) at i es d (sorted_tail e es sorted))

  pub cut_none : (k n at i : ℕ) (es : List (ℕ × X)) (d : ℕ × X) → IsTrue (is_sorted nat_cmp es) → place_from k n es ≡ Some at → at ≡ n + i → (get_or es i d).0 ≢ k → filter (λ e. not (e.0 == k)) es ≡ es
  cut_none k n at i [] d sorted h here other = refl
  cut_none k n at zero (e ∷ es) d sorted h here other = grind (arith, nat_tests, place_bound k (n + 1) at es, all_above k e es sorted)
  cut_none k n at (suc i) (e ∷ es) d sorted h here other = grind (arith, nat_tests, place_bound k (n + 1) at es, cut_none k (n + 1) at i es d (sorted_tail e es sorted))

pub ruleset cuts = (cut_last, cut_at, cut_none, place_bound)

pub ruleset maps = (no_entries, entries-sorted, get-sorted, sorted_put, insert-sorted, sorted_filter, remove-filter)

pub ruleset places = (put_last, place_bound, put_over, put_between, find_as_list)
