-- Objects that go from a state and others that come: the limits, the counters, and the patch that they make.
use Rattle.std.proofs.Common.{◌≡◌, ℕ, ◌+◌, ◌≤◌, List, [], ◌∷◌, refl, ap, ◌∙◌, sym, subst, arith, Bool, true, false}
use Rattle.std.specs.Prelude.{Option, Some, None, ◌==◌, ◌||◌, if◌then◌else◌, is_some}
use Rattle.std.specs.Ordering.{nat_cmp}
use Rattle.std.specs.FinMap.{FinMap, get, remove, keys, contains_key-keys}
use Rattle.trace_types.specs.declared.limits.TheConstants.{MAX_ID}
use Rattle.trace_types.specs.declared.slots.Slot.{Slot}
use Rattle.trace_types.specs.declared.slots.Slot.TheVariants.{Strong, Weak}
use Rattle.trace_types.specs.declared.slots.Entry.{Entry}
use Rattle.ownership_model.specs.declared.remaining.Remaining.{Remaining}
use Rattle.ownership_model.specs.State.{State, weight, names_alike, entry_weight}
use Rattle.ownership_model.specs.Bounds.{IsBounded, EntryFits, ObjectFits}
use Rattle.ownership_model.specs.Patch.{Remains, patched, entry_of, or_else}
use Rattle.ownership_model.specs.Reach.{has}
use Rattle.ownership_model.proofs.LawsHold.{patches}
use Rattle.ownership_model.proofs.Counting.{weight_at, total-insert, total-remove, same_number, get_inserted, get_removed}
use Rattle.ownership_model.proofs.Searching.{has_as_any}
use Rattle.object_heap.specs.declared.counters.Counters.{Counters}
use Rattle.object_heap.specs.declared.draft.Draft.{Draft}
use Rattle.object_heap.specs.Counted.{drafted, IsCounted}
use Rattle.object_heap.specs.TableView.{TableView}
use Rattle.object_heap.specs.Gains.{CountsMore, HasSlots}
use Rattle.object_heap.specs.Exchange.{without_object, with_object, without_keys, with_one, with_keys, TakesOut, PutsIn}

-- what stands after a change, and what went by it (h), is what stood before, and what it brought (g)
abbrev pub IsBalanced : State → State → (g h : (Slot → ℕ) → ℕ) → Type 0
IsBalanced m n g h = (w : Slot → ℕ) → weight w n [] + h w ≡ g w + weight w m []

module _ (counts mid : FinMap nat_cmp Counters) (m n : State) (g h : (Slot → ℕ) → ℕ) (balance : IsBalanced m n g h) (counted : IsCounted counts m []) (more : CountsMore counts mid g) where
  pub still_in : HasSlots mid h
  still_in = record {
    strong_in = λ o. omega (arith, counted.strong_is o, more.strong_is o, balance (names_alike (Strong o)));
    weak_in = λ o. omega (arith, counted.weak_is o, more.weak_is o, balance (names_alike (Weak o)));
  }

  pub counted_then : (less : FinMap nat_cmp Counters) → CountsMore less mid h → IsCounted less n []
  counted_then less fewer = record {
    strong_is = λ o. omega (arith, counted.strong_is o, more.strong_is o, fewer.strong_is o, balance (names_alike (Strong o)));
    weak_is = λ o. omega (arith, counted.weak_is o, more.weak_is o, fewer.weak_is o, balance (names_alike (Weak o)));
    ends_is = λ o. sym (fewer.ends_is o) ∙ more.ends_is o ∙ counted.ends_is o;
  }

-- what the fields of an object weigh, if it is there
abbrev pub object_weight : State → ℕ → (Slot → ℕ) → ℕ
object_weight m q w = weight_at (entry_weight w) (get m.objects q)

pub out_balance : (m : State) (q : ℕ) → IsBalanced m (without_object m q) (λ w. 0) (object_weight m q)
out_balance m q w = omega (arith, total-remove (entry_weight w) m.objects q)

pub in_balance : (m : State) (q : ℕ) (e : Entry) → IsBalanced m (with_object m q e) (λ w. entry_weight w e) (object_weight m q)
in_balance m q e w = omega (arith, total-insert (entry_weight w) m.objects q e)

cut_fits : (b : Bool) (o : ℕ) (x : Option Entry) → ObjectFits o x → ObjectFits o (if b then None else x)
cut_fits true o x f = tt
cut_fits false o x f = f

put_fits : (b : Bool) (o : ℕ) (e : Entry) (x : Option Entry) → (b ≡ true → o ≤ MAX_ID) → EntryFits e → ObjectFits o x → ObjectFits o (if b then Some e else x)
put_fits true o e x within few f = (within refl, few)
put_fits false o e x within few f = f

bounded_out : (m : State) (q : ℕ) → IsBounded m → IsBounded (without_object m q)
bounded_out m q b = record {
  handles = b.handles;
  cells = b.cells;
  objects = λ o. subst (ObjectFits o) (sym (get_removed m.objects q o)) (cut_fits (q == o) o (get m.objects o) (b.objects o));
  labels = b.labels;
}

bounded_in : (m : State) (q : ℕ) (e : Entry) → IsBounded m → q ≤ MAX_ID → EntryFits e → IsBounded (with_object m q e)
bounded_in m q e b within few = record {
  handles = b.handles;
  cells = b.cells;
  objects = λ o. subst (ObjectFits o) (sym (get_inserted m.objects q e o)) (put_fits (q == o) o e (get m.objects o) (λ t. subst (λ k. k ≤ MAX_ID) (same_number q o t) within) few (b.objects o));
  labels = b.labels;
}

pub took_out : (old new : Draft) (q : ℕ) → IsBounded (drafted old) → drafted new ≡ without_object (drafted old) q → IsCounted new.objects.counts (without_object (drafted old) q) [] → TakesOut old new q
took_out old new q bounded is counted = record {
  state = is;
  counted = subst (λ (n : State). IsCounted new.objects.counts n []) (sym is) counted;
  bounded = subst (λ (n : State). IsBounded n) (sym is) (bounded_out (drafted old) q bounded);
}

-- what stands for an object goes, and the counters stay
pub cut_entry : (d : Draft) (mid new : TableView) (o : ℕ) → new ≡ record { entries = remove mid.entries o; counts = mid.counts } → mid.entries ≡ d.objects.entries
    → drafted (record { handles = d.handles; cells = d.cells; objects = new }) ≡ without_object (drafted d) o
cut_entry d mid new o cut stay =
    let is : new.entries ≡ remove d.objects.entries o = ap (λ (t : TableView). t.entries) cut ∙ ap (λ es. remove es o) stay in
    λ i. record { handles = d.handles.holdings; cells = d.cells; objects = is i; scopes = d.handles.scopes }

pub still_counted : (mid new : TableView) (es : FinMap nat_cmp Entry) (m : State) → new ≡ record { entries = es; counts = mid.counts } → IsCounted mid.counts m [] → IsCounted new.counts m []
still_counted mid new es m is counted = subst (λ (t : TableView). IsCounted t.counts m []) (sym is) counted

pub put_in : (old new : Draft) (q : ℕ) (e : Entry) → IsBounded (drafted old) → q ≤ MAX_ID → EntryFits e → drafted new ≡ with_object (drafted old) q e → IsCounted new.objects.counts (with_object (drafted old) q e) [] → PutsIn old new q e
put_in old new q e bounded within few is counted = record {
  state = is;
  counted = subst (λ (n : State). IsCounted new.objects.counts n []) (sym is) counted;
  bounded = subst (λ (n : State). IsBounded n) (sym is) (bounded_in (drafted old) q e bounded within few);
}

-- what stands after all
cut_then : (a b : Bool) (x : Option Entry) → (if a then None else (if b then None else x)) ≡ (if b || a then None else x)
cut_then true true x = refl
cut_then true false x = refl
cut_then false true x = refl
cut_then false false x = refl

pub get-without_keys : (qs : List ℕ) (m : State) (q : ℕ) → get (without_keys qs m).objects q ≡ (if has q qs then None else get m.objects q)
get-without_keys [] m q = refl
get-without_keys (k ∷ qs) m q =
    get-without_keys qs (without_object m k) q
    ∙ ap (λ x. if has q qs then None else x) (get_removed m.objects k q)
    ∙ cut_then (has q qs) (k == q) (get m.objects q)

get-with_one : (m : State) (k : ℕ) (x : Option Remaining) (q : ℕ) → get (with_one m k x).objects q ≡ (if k == q then or_else (entry_of x) (get m.objects q) else get m.objects q)
get-with_one m k None q = same (k == q) (get m.objects q)
  where
    same : (b : Bool) (x : Option Entry) → x ≡ (if b then x else x)
    same true x = refl
    same false x = refl
get-with_one m k (Some x) q = get_inserted m.objects k x.entry q

put_then : (a b : Bool) (x y : Option Remaining) (z : Option Entry) → (b ≡ true → x ≡ y) → (if a then or_else (entry_of y) (if b then or_else (entry_of x) z else z) else (if b then or_else (entry_of x) z else z)) ≡ (if b || a then or_else (entry_of y) z else z)
put_then true true x (Some y) z same = refl
put_then true true x None z same = ap (λ o. or_else (entry_of o) z) (same refl)
put_then true false x y z same = refl
put_then false true x y z same = ap (λ o. or_else (entry_of o) z) (same refl)
put_then false false x y z same = refl

get-with_keys : (xs : FinMap nat_cmp Remaining) (qs : List ℕ) (m : State) (q : ℕ) → get (with_keys xs qs m).objects q ≡ (if has q qs then or_else (entry_of (get xs q)) (get m.objects q) else get m.objects q)
get-with_keys xs [] m q = refl
get-with_keys xs (k ∷ qs) m q =
    get-with_keys xs qs (with_one m k (get xs k)) q
    ∙ ap (λ x. if has q qs then or_else (entry_of (get xs q)) x else x) (get-with_one m k (get xs k) q)
    ∙ put_then (has q qs) (k == q) (get xs k) (get xs q) (get m.objects q) (λ t. ap (get xs) (same_number k q t))

-- handles, cells and scopes stay
abbrev pub HasRootsOf : State → State → Type 0
HasRootsOf m n = (n.handles ≡ m.handles) × ((n.cells ≡ m.cells) × (n.scopes ≡ m.scopes))

roots_then : (m n k : State) → HasRootsOf n k → HasRootsOf m n → HasRootsOf m k
roots_then m n k next first = (next.0 ∙ first.0, (next.1.0 ∙ first.1.0, next.1.1 ∙ first.1.1))

pub roots-without_keys : (qs : List ℕ) (m : State) → HasRootsOf m (without_keys qs m)
roots-without_keys [] m = (refl, (refl, refl))
roots-without_keys (k ∷ qs) m = roots-without_keys qs (without_object m k)

roots-with_one : (m : State) (k : ℕ) (x : Option Remaining) → HasRootsOf m (with_one m k x)
roots-with_one m k None = (refl, (refl, refl))
roots-with_one m k (Some x) = (refl, (refl, refl))

roots-with_keys : (xs : FinMap nat_cmp Remaining) (qs : List ℕ) (m : State) → HasRootsOf m (with_keys xs qs m)
roots-with_keys xs [] m = (refl, (refl, refl))
roots-with_keys xs (k ∷ qs) m = roots_then m (with_one m k (get xs k)) (with_keys xs qs (with_one m k (get xs k))) (roots-with_keys xs qs (with_one m k (get xs k))) (roots-with_one m k (get xs k))

-- a key is among the keys just where something stands there
there : (xs : FinMap nat_cmp Remaining) (q : ℕ) → is_some (get xs q) ≡ has q (keys xs)
there xs q = contains_key-keys xs q ∙ has_as_any q (keys xs)

or_there : (x : Option Remaining) (y : Option Entry) → (if is_some x then or_else (entry_of x) y else y) ≡ or_else (entry_of x) y
or_there None y = refl
or_there (Some x) y = refl

-- objects that go and come one after another make the patch
pub makes_patch : (m mid n : State) (removed added : FinMap nat_cmp Remaining) → mid ≡ without_keys (keys removed) m → n ≡ with_keys added (keys added) mid → n ≡ patched m (record { removed = removed; added = added })
makes_patch m mid n removed added out is =
    let x : Remains = record { removed = removed; added = added } in
    let gone : HasRootsOf m mid = subst (λ (k : State). HasRootsOf m k) (sym out) (roots-without_keys (keys removed) m) in
    let come : HasRootsOf mid n = subst (λ (k : State). HasRootsOf mid k) (sym is) (roots-with_keys added (keys added) mid) in
    let roots : HasRootsOf m n = roots_then m mid n come gone in
    patches.only m n x roots.0 roots.1.0 roots.1.1 (λ q.
    ap (λ (k : State). get k.objects q) is
    ∙ get-with_keys added (keys added) mid q
    ∙ ap (λ b. if b then or_else (entry_of (get added q)) (get mid.objects q) else get mid.objects q) (sym (there added q))
    ∙ or_there (get added q) (get mid.objects q)
    ∙ ap (or_else (entry_of (get added q))) (ap (λ (k : State). get k.objects q) out ∙ get-without_keys (keys removed) m q ∙ ap (λ b. if b then None else get m.objects q) (sym (there removed q))))
