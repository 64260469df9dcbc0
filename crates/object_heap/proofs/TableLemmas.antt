-- What contracts see of the objects, by what is kept for each.
use Rattle.std.proofs.Common.{◌≡◌, ℕ, List, [], ◌∷◌, ◌++◌, refl, ap, ◌∙◌, sym, subst, Bool, true, false, cond}
use Rattle.std.specs.Prelude.{Option, Some, None, is_some, ◌==◌, ◌&&◌, ◌↔◌, if◌then◌else◌, unwrap_or, map}
use Rattle.std.specs.Option.{option_map, option_and_then}
use Rattle.std.proofs.Math.Dec.{T}
use Rattle.std.specs.Ordering.{nat_cmp, eq_by_cmp}
use Rattle.std.specs.Cmp.{nat_cmp_total}
use Rattle.std.specs.FinMap.{FinMap, get, insert, remove, empty, entries, keys, entries_sorted, entries-from_sorted, get-entries, get-from_sorted, get-empty, same_map, nat_cmp-IsAntisymmetric}
use Rattle.std.specs.FinMap.Entries.{is_sorted, below_all, find}
use Rattle.share_tree.specs.Entries.{entry}
use Rattle.share_tree.specs.Updates.{set_at}
use Rattle.trace_types.specs.declared.slots.Entry.{Entry}
use Rattle.ownership_model.proofs.Counting.{get_inserted, get_removed, same_number}
use Rattle.ownership_model.proofs.Scoping.{itself}
use Rattle.object_heap.specs.declared.counters.Counters.{Counters}
use Rattle.object_heap.specs.TableView.{TableView, Kept, counters_at, are_zero, if_any, kept_at, kept_of, picked, part, table_of, IsLean, AreAlike, AllStand}
use Rattle.object_heap.specs.Gains.{IsSetAt}
use Rattle.object_heap.proofs.ViewLemmas.{first, second, same_key, find_below}

both : (a b : Bool) → T a → T b → T (a && b)
both true b p q = q
both false b p q = p

not_some : {X : Type 0} (x : X) → ◌≡◌ {A = Option X} None (Some x) → ⊥
not_some x e = cc

not_there : false ≡ true → ⊥
not_there e = cc

pub same_some : {X : Type 0} (x y : X) → Some x ≡ Some y → x ≡ y
same_some x y e = ap (λ o. unwrap_or o x) e

-- ---- what f gives of a list in order
module _ {X Y : Type 0} (f : X → Option Y) where
  below-picked : (k : ℕ) (es : List (ℕ × X)) → T (below_all nat_cmp k es) → T (below_all nat_cmp k (picked f es))
  below-picked k [] h = tt
  below-picked k (e ∷ es) h =
      let rest = below-picked k es (second _ _ h) in
      elim (f e.1) as (λ o. T (below_all nat_cmp k (entry e.0 o ++ picked f es))) [ None ↦ rest | Some y ↦ both _ _ (first _ _ h) rest ]

  sorted-picked : (es : List (ℕ × X)) → T (is_sorted nat_cmp es) → T (is_sorted nat_cmp (picked f es))
  sorted-picked [] h = tt
  sorted-picked (e ∷ es) h =
      let rest = sorted-picked es (second _ _ h) in
      elim (f e.1) as (λ o. T (is_sorted nat_cmp (entry e.0 o ++ picked f es))) [ None ↦ rest | Some y ↦ both _ _ (below-picked e.0 es (first _ _ h)) rest ]

  below_key : (q : ℕ) (e : ℕ × X) (es : List (ℕ × X)) → T (is_sorted nat_cmp (e ∷ es)) → eq_by_cmp nat_cmp q e.0 ≡ true → T (below_all nat_cmp q es)
  below_key q e es h t = subst (λ k. T (below_all nat_cmp k es)) (same_number e.0 q (sym (same_key q e.0) ∙ t)) (first _ _ h)

  find-picked : (q : ℕ) (es : List (ℕ × X)) → T (is_sorted nat_cmp es) → find nat_cmp q (picked f es) ≡ option_and_then f (find nat_cmp q es)
  find-picked q [] h = refl
  find-picked q (e ∷ es) h =
      elim (eq_by_cmp nat_cmp q e.0) as (λ b. eq_by_cmp nat_cmp q e.0 ≡ b → find nat_cmp q (entry e.0 (f e.1) ++ picked f es) ≡ option_and_then f (cond b (Some e.1) (find nat_cmp q es))) [
        | true ↦ λ t. elim (f e.1) as (λ o. find nat_cmp q (entry e.0 o ++ picked f es) ≡ o) [
          | None ↦ find_below q (picked f es) (below-picked q es (below_key q e es h t))
          | Some y ↦ ap (λ b. cond b (Some y) (find nat_cmp q (picked f es))) t
        ]
        | false ↦ λ t. elim (f e.1) as (λ o. find nat_cmp q (entry e.0 o ++ picked f es) ≡ option_and_then f (find nat_cmp q es)) [
          | None ↦ find-picked q es (second _ _ h)
          | Some y ↦ ap (λ b. cond b (Some y) (find nat_cmp q (picked f es))) t ∙ find-picked q es (second _ _ h)
        ]
      ] refl

  found_later : (q : ℕ) (e : ℕ × X) (es : List (ℕ × X)) (x : X) → T (is_sorted nat_cmp (e ∷ es)) → find nat_cmp q es ≡ Some x → find nat_cmp q (e ∷ es) ≡ Some x
  found_later q e es x h found =
      elim (eq_by_cmp nat_cmp q e.0) as (λ b. eq_by_cmp nat_cmp q e.0 ≡ b → cond b (Some e.1) (find nat_cmp q es) ≡ Some x) [
        | true ↦ λ t. absurd (not_some x (sym (find_below q es (below_key q e es h t)) ∙ found))
        | false ↦ λ t. found
      ] refl

  -- where f gives something of each entry, the keys are the same
  keys-picked : (es : List (ℕ × X)) → T (is_sorted nat_cmp es) → ((q : ℕ) (x : X) → find nat_cmp q es ≡ Some x → is_some (f x) ≡ true) → map (λ e. e.0) (picked f es) ≡ map (λ e. e.0) es
  keys-picked [] h all = refl
  keys-picked (e ∷ es) h all =
      let rest = keys-picked es (second _ _ h) (λ q x found. all q x (found_later q e es x h found)) in
      let here : is_some (f e.1) ≡ true = all e.0 e.1 (ap (λ b. cond b (Some e.1) (find nat_cmp e.0 es)) (same_key e.0 e.0 ∙ itself e.0)) in
      elim (f e.1) as (λ o. is_some o ≡ true → map (λ e. e.0) (entry e.0 o ++ picked f es) ≡ e.0 ∷ map (λ e. e.0) es) [
        | None ↦ λ s. absurd (not_there s)
        | Some y ↦ λ s. ap (λ ks. e.0 ∷ ks) rest
      ] here

  -- ---- and of a map
  pub get-part : (m : FinMap nat_cmp X) (q : ℕ) → get (part f m) q ≡ option_and_then f (get m q)
  unfolding part
  get-part m q = get-from_sorted nat_cmp (picked f (entries m)) q (sorted-picked (entries m) (entries_sorted m)) ∙ find-picked q (entries m) (entries_sorted m) ∙ ap (option_and_then f) (sym (get-entries m q))

  part_is : (m : FinMap nat_cmp X) (n : FinMap nat_cmp Y) → ((q : ℕ) → option_and_then f (get m q) ≡ get n q) → part f m ≡ n
  part_is m n is = same_map nat_cmp_total nat_cmp-IsAntisymmetric (part f m) n (λ q. get-part m q ∙ is q)

  pub part-empty : part f empty ≡ empty
  part-empty = part_is empty empty (λ q. ap (option_and_then f) (get-empty nat_cmp q) ∙ sym (get-empty nat_cmp q))

  pub keys-part : (m : FinMap nat_cmp X) → ((q : ℕ) (x : X) → get m q ≡ Some x → is_some (f x) ≡ true) → keys (part f m) ≡ keys m
  unfolding part
  keys-part m all =
      ap (map (λ e. e.0)) (entries-from_sorted nat_cmp (picked f (entries m)) (sorted-picked (entries m) (entries_sorted m)))
      ∙ keys-picked (entries m) (entries_sorted m) (λ q x found. all q x (get-entries m q ∙ found))

  -- at one key there is something else
  module _ (old new : FinMap nat_cmp X) (o : ℕ) (y : Option X) (is : (q : ℕ) → get new q ≡ (if o == q then y else get old q)) where
    through : (b : Bool) (z : Option X) → option_and_then f (if b then y else z) ≡ (if b then option_and_then f y else option_and_then f z)
    through true z = refl
    through false z = refl

    part_at : (q : ℕ) → option_and_then f (get new q) ≡ (if o == q then option_and_then f y else get (part f old) q)
    part_at q = ap (option_and_then f) (is q) ∙ through (o == q) (get old q) ∙ ap (λ z. if o == q then option_and_then f y else z) (sym (get-part old q))

    pub part_insert : (v : Y) → option_and_then f y ≡ Some v → part f new ≡ insert (part f old) o v
    part_insert v e = part_is new (insert (part f old) o v) (λ q. part_at q ∙ ap (λ z. if o == q then z else get (part f old) q) e ∙ sym (get_inserted (part f old) o v q))

    pub part_remove : option_and_then f y ≡ None → part f new ≡ remove (part f old) o
    part_remove e = part_is new (remove (part f old) o) (λ q. part_at q ∙ ap (λ z. if o == q then z else get (part f old) q) e ∙ sym (get_removed (part f old) o q))

    pub part_stays : option_and_then f y ≡ get (part f old) o → part f new ≡ part f old
    part_stays e = part_is new (part f old) (λ q. part_at q
        ∙ elim (o == q) as (λ b. (o == q) ≡ b → (if b then option_and_then f y else get (part f old) q) ≡ get (part f old) q) [
          | true ↦ λ t. e ∙ ap (get (part f old)) (same_number o q t)
          | false ↦ λ t. refl
        ] refl)

-- ---- counters that are kept where anything is counted
no_left : (a b : Bool) → (a && b) ≡ true → a ≡ true
no_left true b h = refl
no_left false b h = absurd cc

no_right : (a b : Bool) → (a && b) ≡ true → b ≡ true
no_right true b h = h
no_right false b h = absurd cc

zeros_are : (c : Counters) → are_zero c ≡ true → counters_at None ≡ c
zeros_are c t =
    let rest = no_right (c.strong == 0) ((c.weak == 0) && (c.ends == 0)) t in
    let s : c.strong ≡ 0 = same_number c.strong 0 (no_left _ _ t) in
    let w : c.weak ≡ 0 = same_number c.weak 0 (no_left (c.weak == 0) (c.ends == 0) rest) in
    let e : c.ends ≡ 0 = same_number c.ends 0 (no_right (c.weak == 0) (c.ends == 0) rest) in
    λ i. record { strong = sym s i; weak = sym w i; ends = sym e i }

-- whichever way the test of counters goes
pub by_zero : (P : Option Counters → Type 0) (c : Counters) → (are_zero c ≡ true → P None) → (are_zero c ≡ false → P (Some c)) → P (if_any c)
by_zero P c zero some = elim (are_zero c) as (λ b. are_zero c ≡ b → P (if b then None else Some c)) [ true ↦ zero | false ↦ some ] refl

any_is : (c : Counters) → counters_at (if_any c) ≡ c
any_is c = by_zero (λ o. counters_at o ≡ c) c (zeros_are c) (λ _. refl)

-- ---- what is kept of two
kept_entry : (e : Option Entry) (c : Counters) → option_and_then (λ (x : Kept). x.0) (kept_of e c) ≡ e
kept_entry (Some e) c = refl
kept_entry None c = by_zero (λ o. option_and_then (λ (x : Kept). x.0) (option_map (λ n. (None, n)) o) ≡ None) c (λ _. refl) (λ _. refl)

kept_any : (e : Option Entry) (c : Counters) → option_and_then (λ (x : Kept). if_any x.1) (kept_of e c) ≡ if_any c
kept_any (Some e) c = refl
kept_any None c = by_zero (λ o. option_and_then (λ (x : Kept). if_any x.1) (option_map (λ n. (None, n)) o) ≡ if_any c) c (λ t. sym (ap (λ b. if b then None else Some c) t)) (λ _. refl)

kept_counters : (e : Option Entry) (c : Counters) → counters_at (option_map (λ (x : Kept). x.1) (kept_of e c)) ≡ c
kept_counters (Some e) c = refl
kept_counters None c = by_zero (λ o. counters_at (option_map (λ (x : Kept). x.1) (option_map (λ n. (None, n)) o)) ≡ c) c (zeros_are c) (λ _. refl)

-- ---- what is seen of what is kept
module _ (m : FinMap nat_cmp Kept) where
  entry_seen : (q : ℕ) → get (table_of m).entries q ≡ option_and_then (λ (x : Kept). x.0) (get m q)
  entry_seen q = get-part (λ x. x.0) m q

  counters_of : (o : Option Kept) → counters_at (option_and_then (λ (x : Kept). if_any x.1) o) ≡ counters_at (option_map (λ (x : Kept). x.1) o)
  counters_of None = refl
  counters_of (Some x) = any_is x.1

  counters_seen : (q : ℕ) → counters_at (get (table_of m).counts q) ≡ counters_at (option_map (λ (x : Kept). x.1) (get m q))
  counters_seen q = ap counters_at (get-part (λ x. if_any x.1) m q) ∙ counters_of (get m q)

  any_of : (o : Option Kept) → if_any (counters_at (option_map (λ (x : Kept). x.1) o)) ≡ option_and_then (λ (x : Kept). if_any x.1) o
  any_of None = refl
  any_of (Some x) = refl

  any_seen : (q : ℕ) → if_any (counters_at (get (table_of m).counts q)) ≡ get (table_of m).counts q
  any_seen q = ap if_any (counters_seen q) ∙ any_of (get m q) ∙ sym (get-part (λ x. if_any x.1) m q)

  kept_is : IsLean m → (q : ℕ) → get m q ≡ kept_of (get (table_of m).entries q) (counters_at (get (table_of m).counts q))
  kept_is lean q =
      elim (get m q) as (λ z. get m q ≡ z → z ≡ kept_of (option_and_then (λ (x : Kept). x.0) z) (counters_at (option_map (λ (x : Kept). x.1) z))) [
        | None ↦ λ e. refl
        | Some x ↦ λ e. sym (lean q x e)
      ] refl
      ∙ ap (λ e. kept_of e (counters_at (option_map (λ (x : Kept). x.1) (get m q)))) (sym (entry_seen q))
      ∙ ap (λ c. kept_of (get (table_of m).entries q) c) (sym (counters_seen q))

  each_stands : IsLean m → AllStand (table_of m) → (q : ℕ) (x : Kept) → get m q ≡ Some x → is_some x.0 ≡ true
  each_stands lean stand q x is =
      elim x.0 as (λ z. x.0 ≡ z → is_some z ≡ true) [
        | None ↦ λ none.
            let e : get (table_of m).entries q ≡ None = entry_seen q ∙ ap (option_and_then (λ (x : Kept). x.0)) is ∙ none in
            absurd (not_some x (sym (kept_is lean q ∙ ap (λ z. kept_of z (counters_at (get (table_of m).counts q))) e ∙ ap (λ c. kept_of None c) (stand q e)) ∙ is))
        | Some e ↦ λ some. refl
      ] refl

  keys_seen : IsLean m → AllStand (table_of m) → keys m ≡ keys (table_of m).entries
  keys_seen lean stand = sym (keys-part (λ x. x.0) m (each_stands lean stand))

-- what is found by what is kept
module _ (m : FinMap nat_cmp Kept) (t : TableView) (view : table_of m ≡ t) (q : ℕ) (x : Option Kept) (is : get m q ≡ x) where
  pub entry_found : option_and_then (λ (k : Kept). k.0) x ≡ get t.entries q
  entry_found = ap (option_and_then (λ (k : Kept). k.0)) (sym is) ∙ sym (entry_seen m q) ∙ ap (λ (s : TableView). get s.entries q) view

  pub counters_found : counters_at (option_map (λ (k : Kept). k.1) x) ≡ counters_at (get t.counts q)
  counters_found = ap (λ (y : Option Kept). counters_at (option_map (λ (k : Kept). k.1) y)) (sym is) ∙ sym (counters_seen m q) ∙ ap (λ (s : TableView). counters_at (get s.counts q)) view

pub kept_found : (m : FinMap nat_cmp Kept) (t : TableView) → table_of m ≡ t → (q : ℕ) (x : Kept) → option_and_then (λ (k : Kept). k.0) (get m q) ≡ x.0 → counters_at (option_map (λ (k : Kept). k.1) (get m q)) ≡ x.1 → x ≡ (get t.entries q, counters_at (get t.counts q))
kept_found m t view q x e c =
    let entry = sym e ∙ entry_found m t view q (get m q) refl in
    let counters = sym c ∙ counters_found m t view q (get m q) refl in
    λ i. (entry i, counters i)

pub found_at : (m : FinMap nat_cmp Kept) (t : TableView) → table_of m ≡ t → (q : ℕ) (x : Option Kept) → get m q ≡ x → kept_at x ≡ (get t.entries q, counters_at (get t.counts q))
found_at m t view q None is = λ i. (entry_found m t view q None is i, counters_found m t view q None is i)
found_at m t view q (Some x) is = λ i. (entry_found m t view q (Some x) is i, counters_found m t view q (Some x) is i)

pub keys_found : (m : FinMap nat_cmp Kept) (t : TableView) → table_of m ≡ t → IsLean m → AllStand t → keys m ≡ keys t.entries
keys_found m t view lean stand = keys_seen m lean (subst (λ (s : TableView). AllStand s) (sym view) stand) ∙ ap (λ (s : TableView). keys s.entries) view

-- trees of which the same is seen are the same
same_kept : (a b : FinMap nat_cmp Kept) → IsLean a → IsLean b → AreAlike (table_of a) (table_of b) → a ≡ b
same_kept a b x y alike = same_map nat_cmp_total nat_cmp-IsAntisymmetric a b (λ q.
    kept_is a x q
    ∙ ap (λ e. kept_of e (counters_at (get (table_of a).counts q))) (ap (λ m. get m q) alike.0)
    ∙ ap (λ c. kept_of (get (table_of b).entries q) c) (alike.1 q)
    ∙ sym (kept_is b y q))

alike_seen : (a b : FinMap nat_cmp Kept) → a ≡ b → AreAlike (table_of a) (table_of b)
alike_seen a b e = (ap (λ m. (table_of m).entries) e, λ o. ap (λ m. counters_at (get (table_of m).counts o)) e)

pub same_seen : (a b : FinMap nat_cmp Kept) (s t : TableView) → table_of a ≡ s → table_of b ≡ t → IsLean a → IsLean b → (a ≡ b) ↔ AreAlike s t
same_seen a b s t first next x y = (
  λ e. subst (λ (u : TableView). AreAlike u t) first (subst (λ (u : TableView). AreAlike (table_of a) u) next (alike_seen a b e)),
  λ alike. same_kept a b x y (subst (λ (u : TableView). AreAlike u (table_of b)) (sym first) (subst (λ (u : TableView). AreAlike s u) (sym next) alike)),
)

-- ---- what is kept at one number changes
-- this stands for an object, or nothing
abbrev with_entry : FinMap nat_cmp Entry → ℕ → Option Entry → FinMap nat_cmp Entry
with_entry entries o None = remove entries o
with_entry entries o (Some e) = insert entries o e

-- what is needed is put in: so all that is kept is needed still
pub lean_put : (old new : FinMap nat_cmp Kept) (o : ℕ) (k : Kept) → kept_of k.0 k.1 ≡ Some k → ((q : ℕ) → get new q ≡ (if o == q then kept_of k.0 k.1 else get old q)) → IsLean old → IsLean new
lean_put old new o k needed is lean q y found =
    elim (o == q) as (λ b. (if b then kept_of k.0 k.1 else get old q) ≡ Some y → kept_of y.0 y.1 ≡ Some y) [
      | true ↦ λ e. subst (λ (z : Kept). kept_of z.0 z.1 ≡ Some z) (same_some k y (sym needed ∙ e)) needed
      | false ↦ λ e. lean q y e
    ] (sym (is q) ∙ found)

module _ (old new : FinMap nat_cmp Kept) (t : TableView) (view : table_of old ≡ t) (o : ℕ) (k : Kept) (is : (q : ℕ) → get new q ≡ (if o == q then kept_of k.0 k.1 else get old q)) where
  counts_stay : k.1 ≡ counters_at (get t.counts o) → (table_of new).counts ≡ t.counts
  counts_stay same =
      part_stays (λ x. if_any x.1) old new o (kept_of k.0 k.1) is (kept_any k.0 k.1 ∙ ap if_any (same ∙ ap (λ (s : TableView). counters_at (get s.counts o)) (sym view)) ∙ any_seen old o)
      ∙ ap (λ (s : TableView). s.counts) view

  pub entries_with : (e : Option Entry) → k.0 ≡ e → (table_of new).entries ≡ with_entry t.entries o e
  entries_with None by = part_remove (λ x. x.0) old new o (kept_of k.0 k.1) is (kept_entry k.0 k.1 ∙ by) ∙ ap (λ (s : TableView). remove s.entries o) view
  entries_with (Some e) by = part_insert (λ x. x.0) old new o (kept_of k.0 k.1) is e (kept_entry k.0 k.1 ∙ by) ∙ ap (λ (s : TableView). insert s.entries o e) view

  -- what stands is replaced, and the counters stay
  pub entry_replaced : (e : Option Entry) (c : Counters) → k ≡ (e, c) → c ≡ counters_at (get t.counts o) → table_of new ≡ record { entries = with_entry t.entries o e; counts = t.counts }
  entry_replaced e c by same =
      let put = entries_with e (ap (λ (x : Kept). x.0) by) in
      let stay = counts_stay (ap (λ (x : Kept). x.1) by ∙ same) in
      λ i. record { entries = put i; counts = stay i }

  pub entries_stay : k.0 ≡ get t.entries o → (table_of new).entries ≡ t.entries
  entries_stay by =
      part_stays (λ x. x.0) old new o (kept_of k.0 k.1) is (kept_entry k.0 k.1 ∙ by ∙ ap (λ (s : TableView). get s.entries o) (sym view))
      ∙ ap (λ (s : TableView). s.entries) view

  pub counters_set : (c : Counters) → k.1 ≡ c → IsSetAt t.counts (table_of new).counts o c
  counters_set c by p =
      counters_seen new p
      ∙ ap (λ z. counters_at (option_map (λ (x : Kept). x.1) z)) (is p)
      ∙ elim (o == p) as (λ b. counters_at (option_map (λ (x : Kept). x.1) (if b then kept_of k.0 k.1 else get old p)) ≡ (if b then c else counters_at (get t.counts p))) [
        | true ↦ kept_counters k.0 k.1 ∙ by
        | false ↦ sym (counters_seen old p) ∙ ap (λ (s : TableView). counters_at (get s.counts p)) view
      ]

-- ---- nothing is kept
-- other counters in the place of those that are kept, where not all of them are zero or something stands
pub kept_counted : (e : Option Entry) (c : Counters) → are_zero c ≡ false → kept_of e c ≡ Some (e, c)
kept_counted None c any = ap (λ b. option_map (λ (n : Counters). (None, n)) (if b then None else Some c)) any
kept_counted (Some e) c any = refl

module _ (old new : FinMap nat_cmp Kept) (t : TableView) (view : table_of old ≡ t) (lean : IsLean old) (o : ℕ) (c : Counters) (keeps : (x : Kept) → get old o ≡ Some x → kept_of x.0 c ≡ Some (x.0, c)) (is : new ≡ set_at old o (option_map (λ (k : Kept). (k.0, c)) (get old o))) where
  recounted_at : (x : Kept) → get old o ≡ Some x → (q : ℕ) → get new q ≡ (if o == q then kept_of x.0 c else get old q)
  recounted_at x there q =
      ap (λ m. get m q) is
      ∙ ap (λ z. get (set_at old o (option_map (λ (k : Kept). (k.0, c)) z)) q) there
      ∙ get_inserted old o (x.0, c) q
      ∙ ap (λ z. if o == q then z else get old q) (sym (keeps x there))

  pub recounted : is_some (get old o) ≡ true → IsLean new × (IsSetAt t.counts (table_of new).counts o c × ((table_of new).entries ≡ t.entries))
  recounted = elim (get old o) as (λ z. get old o ≡ z → is_some z ≡ true → IsLean new × (IsSetAt t.counts (table_of new).counts o c × ((table_of new).entries ≡ t.entries))) [
    | None ↦ λ none there. absurd (not_there there)
    | Some x ↦ λ e there.
        let is = recounted_at x e in
        (lean_put old new o (x.0, c) (keeps x e) is lean, (counters_set old new t view o (x.0, c) is c refl, entries_stay old new t view o (x.0, c) is (entry_found old t view o (Some x) e)))
  ] refl

module _ (old : FinMap nat_cmp Kept) (t : TableView) (view : table_of old ≡ t) (o : ℕ) (stands : is_some (get t.entries o) ≡ true) where
  stands_at : (x : Option Kept) → get old o ≡ x → is_some (option_and_then (λ (k : Kept). k.0) x) ≡ true
  stands_at x is = ap is_some (entry_found old t view o x is) ∙ stands

  pub standing_kept : is_some (get old o) ≡ true
  standing_kept = elim (get old o) as (λ z. get old o ≡ z → is_some z ≡ true) [
    | None ↦ λ e. absurd (not_there (stands_at None e))
    | Some x ↦ λ e. refl
  ] refl

pub lean_empty : (m : FinMap nat_cmp Kept) → m ≡ empty → IsLean m
lean_empty m none o x is = absurd (not_some x (sym (ap (λ n. get n o) none ∙ get-empty nat_cmp o) ∙ is))

pub nothing_seen : (m : FinMap nat_cmp Kept) → m ≡ empty → table_of m ≡ record { entries = empty; counts = empty }
nothing_seen m none =
    let e : (table_of m).entries ≡ empty = ap (part (λ x. x.0)) none ∙ part-empty (λ x. x.0) in
    let c : (table_of m).counts ≡ empty = ap (part (λ x. if_any x.1)) none ∙ part-empty (λ x. if_any x.1) in
    λ i. record { entries = e i; counts = c i }
