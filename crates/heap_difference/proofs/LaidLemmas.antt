-- A difference that is laid over the old state makes the new one.
use Rattle.std.proofs.Common.{◌≡◌, ℕ, ◌≤◌, List, [], ◌∷◌, refl, ap, ◌∙◌, sym, subst, arith, Bool, true, false}
use Rattle.std.specs.Prelude.{◌==◌, ◌||◌, ◌&&◌, Option, Some, None, if◌then◌else◌, filter, not}
use Rattle.std.specs.Cmp.{nat_cmp_total}
use Rattle.std.specs.Ordering.{nat_cmp}
use Rattle.std.specs.FinMap.{FinMap, get, same_map, nat_cmp-IsAntisymmetric}
use Rattle.trace_types.specs.declared.limits.TheConstants.{MAX_NAME, MAX_THREAD}
use Rattle.trace_types.specs.declared.slots.Slot.{Slot}
use Rattle.trace_types.specs.declared.slots.Holding.{Holding}
use Rattle.trace_types.specs.declared.slots.Entry.{Entry}
use Rattle.trace_types.specs.declared.slots.Scoped.{Scoped}
use Rattle.trace_types.specs.declared.slots.Change.TheVariants.{EndHandle}
use Rattle.ownership_model.specs.declared.key.Key.TheVariants.{Handle, Object}
use Rattle.ownership_model.specs.State.{State, IsSound, IsScoped}
use Rattle.ownership_model.specs.Scopes.{scope_of, times_in, times_held}
use Rattle.ownership_model.specs.Bounds.{IsBounded, LabelsFit, HandleFits, HoldingFits}
use Rattle.ownership_model.specs.Reach.{has}
use Rattle.ownership_model.specs.Near.{AreEntriesNear}
use Rattle.ownership_model.proofs.Counting.{same_number, get_inserted, get_removed}
use Rattle.ownership_model.proofs.Scoping.{hit_is, same_scopes}
use Rattle.ownership_model.proofs.LawsHold.{scopes}
use Rattle.object_heap.specs.declared.put.Put.{Put}
use Rattle.object_heap.specs.declared.put.FieldPut.{FieldPut}
use Rattle.object_heap.specs.Links.{first_of, label_in, under, put_above, entered_above, IsAbove}
use Rattle.object_heap.specs.Laid.{ended_at, without_handles, with_put, with_puts, CanPut, PutFits, PutsFit, cell_ended, with_cell, with_cells, with_entry, with_entries, laid_over, with_fields, CanSet}
use Rattle.object_heap.proofs.UnderLemmas.{AreOnce, absent}
use Rattle.object_heap.proofs.AboveLemmas.{scope_own, scope_other, times_above, from_above}
use Rattle.heap_difference.specs.declared.key_set.KeySet.{KeySet}
use Rattle.heap_difference.specs.Differences.{outside, less}
use Rattle.heap_difference.specs.declared.shifts.Shift.{Shift}
use Rattle.heap_difference.specs.Alikes.{is_alike, is_loose}
use Rattle.heap_difference.specs.Puts.{ArePuts}
use Rattle.heap_difference.specs.Laid.{IsLaid, IsWhole}
use Rattle.heap_difference.proofs.Tests.{clash, not_false, not_true, itself, filter_keeps, filter_drops, filter_all}
use Rattle.heap_difference.proofs.ScopeLemmas.{after, in_own, label_of_member, under_after, filter_has, has_filtered, first_in, after_has}
use Rattle.heap_difference.proofs.FoundLemmas.{once_sound}
use Rattle.heap_difference.proofs.PutLemmas.{one_put, without}
use Rattle.heap_difference.proofs.FieldLemmas.{fields_rest, fields_get, fields_others, can_set}

-- ---- handles that go
-- a filter after another
filter_both : (p q r : ℕ → Bool) → ((g : ℕ) → r g ≡ (if q g then p g else false)) → (xs : List ℕ) → filter p (filter q xs) ≡ filter r xs
filter_both p q r same [] = refl
filter_both p q r same (x ∷ xs) = at (q x) (p x) refl refl (filter_both p q r same xs)
  where
    at : (b c : Bool) → q x ≡ b → p x ≡ c → filter p (filter q xs) ≡ filter r xs → filter p (if b then x ∷ filter q xs else filter q xs) ≡ filter r (x ∷ xs)
    at true true e f rest = filter_keeps p x (filter q xs) f ∙ ap (λ ys. x ∷ ys) rest ∙ sym (filter_keeps r x xs (same x ∙ ap (λ b. if b then p x else false) e ∙ f))
    at true false e f rest = filter_drops p x (filter q xs) f ∙ rest ∙ sym (filter_drops r x xs (same x ∙ ap (λ b. if b then p x else false) e ∙ f))
    at false c e f rest = rest ∙ sym (filter_drops r x xs (same x ∙ ap (λ b. if b then p x else false) e))

ended_get : (m : State) (h q : ℕ) (o : Option Holding) → get m.handles h ≡ o → get (ended_at o h m).handles q ≡ (if h == q then None else get m.handles q)
ended_get m h q None is = at (h == q) refl
  where
    at : (b : Bool) → (h == q) ≡ b → get m.handles q ≡ (if b then None else get m.handles q)
    at true e = ap (get m.handles) (sym (same_number h q e)) ∙ is
    at false e = refl
ended_get m h q (Some x) is = get_removed m.handles h q

ended_scoped : (m : State) (h : ℕ) (o : Option Holding) → get m.handles h ≡ o → IsScoped m.handles m.scopes → IsScoped (ended_at o h m).handles (ended_at o h m).scopes
ended_scoped m h None is scoped = scoped
ended_scoped m h (Some x) is scoped = scopes.changes m (EndHandle h ∷ []) scoped

turned_not : (g h : ℕ) → not (g == h) ≡ not (h == g)
turned_not g h = at (g == h) (h == g) refl refl
  where
    at : (b c : Bool) → (g == h) ≡ b → (h == g) ≡ c → not b ≡ not c
    at true true e f = refl
    at true false e f = absurd (clash (h == g) (ap (λ k. h == k) (same_number g h e) ∙ itself h) f)
    at false true e f = absurd (clash (g == h) (ap (λ k. g == k) (same_number h g f) ∙ itself g) e)
    at false false e f = refl

ended_scope : (m : State) (h t : ℕ) (o : Option Holding) → get m.handles h ≡ o → IsScoped m.handles m.scopes → scope_of t (ended_at o h m).scopes ≡ filter (λ g. not (h == g)) (scope_of t m.scopes)
ended_scope m h t None is scoped = sym (filter_all (λ g. not (h == g)) (scope_of t m.scopes) (λ g here. not_false (h == g) (at g here (h == g) refl)))
  where
    at : (g : ℕ) → has g (scope_of t m.scopes) ≡ true → (b : Bool) → (h == g) ≡ b → b ≡ false
    at g here true e =
        absurd (clash (has g (scope_of t m.scopes)) here
        (subst (λ k. has k (scope_of t m.scopes) ≡ false) (same_number h g e) (absent h t m.scopes (scoped.once h ∙ ap times_held is))))
    at g here false e = refl
ended_scope m h t (Some x) is scoped = scopes.leaves h t m.scopes ∙ (λ i. filter (λ g. turned_not g h i) (scope_of t m.scopes))

without_get : (hs : List ℕ) (m : State) (q : ℕ) → get (without_handles hs m).handles q ≡ (if has q hs then None else get m.handles q)
without_get [] m q = refl
without_get (h ∷ hs) m q =
    without_get hs (ended_at (get m.handles h) h m) q
    ∙ ap (λ (o : Option Holding). if has q hs then None else o) (ended_get m h q (get m.handles h) refl)
    ∙ both (h == q) (has q hs)
  where
    both : (b c : Bool) → (if c then None else (if b then None else get m.handles q)) ≡ (if b || c then None else get m.handles q)
    both true true = refl
    both true false = refl
    both false true = refl
    both false false = refl

without_scoped : (hs : List ℕ) (m : State) → IsScoped m.handles m.scopes → IsScoped (without_handles hs m).handles (without_handles hs m).scopes
without_scoped [] m scoped = scoped
without_scoped (h ∷ hs) m scoped = without_scoped hs (ended_at (get m.handles h) h m) (ended_scoped m h (get m.handles h) refl scoped)

without_scope : (hs : List ℕ) (m : State) (t : ℕ) → IsScoped m.handles m.scopes → scope_of t (without_handles hs m).scopes ≡ filter (λ g. not (has g hs)) (scope_of t m.scopes)
without_scope [] m t scoped = sym (filter_all (λ g. true) (scope_of t m.scopes) (λ g here. refl))
without_scope (h ∷ hs) m t scoped =
    without_scope hs (ended_at (get m.handles h) h m) t (ended_scoped m h (get m.handles h) refl scoped)
    ∙ ap (filter (λ g. not (has g hs))) (ended_scope m h t (get m.handles h) refl scoped)
    ∙ filter_both (λ g. not (has g hs)) (λ g. not (h == g)) (λ g. not (has g (h ∷ hs))) (λ g. both (h == g) (has g hs)) (scope_of t m.scopes)
  where
    both : (b c : Bool) → not (b || c) ≡ (if not b then not c else false)
    both true c = refl
    both false c = refl

ended_rest : (m : State) (h : ℕ) (o : Option Holding) → ((ended_at o h m).cells ≡ m.cells) × ((ended_at o h m).objects ≡ m.objects)
ended_rest m h None = (refl, refl)
ended_rest m h (Some x) = (refl, refl)

without_rest : (hs : List ℕ) (m : State) → ((without_handles hs m).cells ≡ m.cells) × ((without_handles hs m).objects ≡ m.objects)
without_rest [] m = (refl, refl)
without_rest (h ∷ hs) m =
    let rest = without_rest hs (ended_at (get m.handles h) h m) in
    let one = ended_rest m h (get m.handles h) in
    (rest.0 ∙ one.0, rest.1 ∙ one.1)

-- ---- handles that are put in
puts_rest : (puts : List Put) (x : State) → ((with_puts puts x).cells ≡ x.cells) × ((with_puts puts x).objects ≡ x.objects)
puts_rest [] x = (refl, refl)
puts_rest (p ∷ ps) x = puts_rest ps (with_put p x)

-- x has what m has, but for the handles of the set
record IsBut (k : ℕ → Bool) (x m : State) : Type 0 where
  gone : (q : ℕ) → k q ≡ true → get x.handles q ≡ None
  kept : (q : ℕ) → k q ≡ false → get x.handles q ≡ get m.handles q
  scope : (t : ℕ) → scope_of t x.scopes ≡ filter (λ g. not (k g)) (scope_of t m.scopes)
  scoped : IsScoped x.handles x.scopes

few_once : (x : State) → IsScoped x.handles x.scopes → AreOnce x.scopes
few_once x scoped q = let is : times_in q x.scopes ≡ times_held (get x.handles q) = scoped.once q in let few : times_held (get x.handles q) ≤ 1 = held_few (get x.handles q) in omega (arith, is, few)
  where
    held_few : (o : Option Holding) → times_held o ≤ 1
    held_few None = omega arith
    held_few (Some y) = omega arith

first_passes : (p : ℕ → Bool) (xs : List ℕ) (b : ℕ) → first_of (filter p xs) ≡ Some b → p b ≡ true
first_passes p [] b is = absurd cc
first_passes p (x ∷ xs) b is = at (p x) refl (λ e. first_passes p xs b e)
  where
    some_same : (a c : ℕ) → Some a ≡ Some c → a ≡ c
    some_same a c e = ap (λ (o : Option ℕ). of o) e
      where
        of : Option ℕ → ℕ
        of None = 0
        of (Some z) = z

    at : (c : Bool) → p x ≡ c → (first_of (filter p xs) ≡ Some b → p b ≡ true) → p b ≡ true
    at true e rest = ap p (sym (some_same x b (sym (ap first_of (filter_keeps p x xs e)) ∙ is))) ∙ e
    at false e rest = rest (sym (ap first_of (filter_drops p x xs e)) ∙ is)

module _ (m : State) (sound : IsSound m []) where
  -- what a handle is put above stands there
  stands : (k : ℕ → Bool) (x : State) (p : Put) → IsBut k x m → label_in p.handle m.scopes ≡ Some p.label → (o : Option ℕ)
      → o ≡ first_of (filter (λ g. not (k g)) (under p.handle m.scopes)) → IsAbove o p.label x.scopes
  stands k x p but label None is = tt
  stands k x p but label (Some b) is =
      let out : ℕ → Bool = λ g. not (k g) in
      let scope : List ℕ = scope_of p.label m.scopes in
      let first : first_of (filter out (after p.handle scope)) ≡ Some b = sym (is ∙ ap (λ ys. first_of (filter out ys)) (under_after p.handle p.label m.scopes label)) in
      label_of_member b p.label x.scopes (few_once x but.scoped)
      (ap (has b) (but.scope p.label)
      ∙ filter_has out b scope (first_passes out (after p.handle scope) b first) (after_has k p.handle b scope (first_in k p.handle out (after p.handle scope) b first)))

  put_scoped : (x : State) (p : Put) → IsScoped x.handles x.scopes → get x.handles p.handle ≡ None → IsAbove p.under p.label x.scopes → IsScoped (with_put p x).handles (with_put p x).scopes
  put_scoped x p scoped free is = record {
    once = λ q. at q (p.handle == q) refl ∙ sym (ap times_held (get_inserted x.handles p.handle p.holding q));
    in_order = from_above p.label p.handle p.under 0 x.scopes (omega arith) scoped.in_order is;
  }
    where
      at : (q : ℕ) (b : Bool) → (p.handle == q) ≡ b → times_in q (entered_above p.label p.handle p.under x.scopes) ≡ times_held (if b then Some p.holding else get x.handles q)
      at q true e =
          let none : times_in q x.scopes ≡ 0 = subst (λ k. times_in k x.scopes ≡ 0) (same_number p.handle q e) (scoped.once p.handle ∙ ap times_held free) in
          omega (arith, times_above p.label p.handle p.under q x.scopes, none, hit_is p.handle q true e)
      at q false e = omega (arith, times_above p.label p.handle p.under q x.scopes, scoped.once q, hit_is p.handle q false e)

  put_but : (k : ℕ → Bool) (x : State) (p : Put) (ps : List Put) → ArePuts k m (p ∷ ps) → IsBut k x m → IsBut (less k p.handle) (with_put p x) m
  put_but k x p ps are but =
      let is : IsAbove p.under p.label x.scopes = stands k x p but are.2 p.under are.3 in
      record {
        gone = λ q here. get_inserted x.handles p.handle p.holding q ∙ lost q (p.handle == q) refl here;
        kept = λ q out. get_inserted x.handles p.handle p.holding q ∙ found q (p.handle == q) refl out;
        scope = λ t.
            one t (p.label == t) refl is
            ∙ (λ i. if p.label == t then put_above p.under p.handle (but.scope t i) else but.scope t i)
            ∙ one_put k m p (once_sound m sound) are.0 are.2 are.3 t;
        scoped = put_scoped x p but.scoped (but.gone p.handle are.0) is;
      }
    where
      lost : (q : ℕ) (b : Bool) → (p.handle == q) ≡ b → (if b then false else k q) ≡ true → (if b then Some p.holding else get x.handles q) ≡ None
      lost q true e t = absurd cc
      lost q false e t = but.gone q t

      found : (q : ℕ) (b : Bool) → (p.handle == q) ≡ b → (if b then false else k q) ≡ false → (if b then Some p.holding else get x.handles q) ≡ get m.handles q
      found q true e t = sym are.1 ∙ ap (get m.handles) (same_number p.handle q e)
      found q false e t = but.kept q t

      one : (t : ℕ) (b : Bool) → (p.label == t) ≡ b → IsAbove p.under p.label x.scopes
          → scope_of t (entered_above p.label p.handle p.under x.scopes) ≡ (if b then put_above p.under p.handle (scope_of t x.scopes) else scope_of t x.scopes)
      one t true e is =
          subst (λ u. scope_of u (entered_above p.label p.handle p.under x.scopes) ≡ put_above p.under p.handle (scope_of u x.scopes)) (same_number p.label t e)
          (scope_own p.label p.handle p.under 0 x.scopes but.scoped.in_order is)
      one t false e is = scope_other p.label p.handle p.under t x.scopes e

  can_put : (puts : List Put) (k : ℕ → Bool) (x : State) → ArePuts k m puts → IsBut k x m → CanPut x puts
  can_put [] k x are but = tt
  can_put (p ∷ ps) k x are but = (but.gone p.handle are.0, stands k x p but are.2 p.under are.3, can_put ps (less k p.handle) (with_put p x) are.4 (put_but k x p ps are but))

  all_same : (k : ℕ → Bool) (x : State) → ((h : ℕ) → k h ≡ true → get m.handles h ≡ None) → IsBut k x m → (x.handles ≡ m.handles) × (x.scopes ≡ m.scopes)
  all_same k x none but = (
    same_map nat_cmp_total nat_cmp-IsAntisymmetric x.handles m.handles (λ q. at q (k q) refl),
    same_scopes 0 0 x.scopes m.scopes but.scoped.in_order sound.scopes.in_order (λ t. but.scope t ∙ without k m sound none t),
  )
    where
      at : (q : ℕ) (b : Bool) → k q ≡ b → get x.handles q ≡ get m.handles q
      at q true e = but.gone q e ∙ sym (none q e)
      at q false e = but.kept q e

  puts_same : (puts : List Put) (k : ℕ → Bool) (x : State) → ArePuts k m puts → IsBut k x m → ((with_puts puts x).handles ≡ m.handles) × ((with_puts puts x).scopes ≡ m.scopes)
  puts_same [] k x are but = all_same k x are but
  puts_same (p ∷ ps) k x are but = puts_same ps (less k p.handle) (with_put p x) are.4 (put_but k x p ps are but)

-- ---- cells and objects
cell_get : (x : State) (c q : ℕ) (o : Option Slot) → get (with_cell o c x).cells q ≡ (if c == q then o else get x.cells q)
cell_get x c q None = of (get x.cells c) refl
  where
    at : (b : Bool) → (c == q) ≡ b → get x.cells c ≡ None → get x.cells q ≡ (if b then None else get x.cells q)
    at true e is = ap (get x.cells) (sym (same_number c q e)) ∙ is
    at false e is = refl

    of : (o : Option Slot) → get x.cells c ≡ o → get (cell_ended o c x).cells q ≡ (if c == q then None else get x.cells q)
    of None is = at (c == q) refl is
    of (Some s) is = get_removed x.cells c q
cell_get x c q (Some s) = get_inserted x.cells c s q

cell_rest : (x : State) (c : ℕ) (o : Option Slot) → ((with_cell o c x).handles ≡ x.handles) × ((with_cell o c x).scopes ≡ x.scopes) × ((with_cell o c x).objects ≡ x.objects)
cell_rest x c None = of (get x.cells c)
  where
    of : (o : Option Slot) → ((cell_ended o c x).handles ≡ x.handles) × ((cell_ended o c x).scopes ≡ x.scopes) × ((cell_ended o c x).objects ≡ x.objects)
    of None = (refl, refl, refl)
    of (Some s) = (refl, refl, refl)
cell_rest x c (Some s) = (refl, refl, refl)

cells_rest : (n : State) (cs : List ℕ) (x : State) → ((with_cells n cs x).handles ≡ x.handles) × ((with_cells n cs x).scopes ≡ x.scopes) × ((with_cells n cs x).objects ≡ x.objects)
cells_rest n [] x = (refl, refl, refl)
cells_rest n (c ∷ cs) x =
    let rest = cells_rest n cs (with_cell (get n.cells c) c x) in
    let one = cell_rest x c (get n.cells c) in
    (rest.0 ∙ one.0, rest.1 ∙ one.1, rest.2 ∙ one.2)

-- whichever comes first, the same is found
found_last : {X : Type 0} (f : ℕ → Option X) (c q : ℕ) (b d : Bool) (y : Option X) → (c == q) ≡ d → (if b then f q else (if d then f c else y)) ≡ (if d || b then f q else y)
found_last f c q true true y e = refl
found_last f c q true false y e = refl
found_last f c q false true y e = ap f (same_number c q e)
found_last f c q false false y e = refl

cells_get : (n : State) (cs : List ℕ) (x : State) (q : ℕ) → get (with_cells n cs x).cells q ≡ (if has q cs then get n.cells q else get x.cells q)
cells_get n [] x q = refl
cells_get n (c ∷ cs) x q =
    cells_get n cs (with_cell (get n.cells c) c x) q
    ∙ ap (λ (o : Option Slot). if has q cs then get n.cells q else o) (cell_get x c q (get n.cells c))
    ∙ found_last (get n.cells) c q (has q cs) (c == q) (get x.cells q) refl

entry_get : (x : State) (o q : ℕ) (e : Option Entry) → get (with_entry e o x).objects q ≡ (if o == q then e else get x.objects q)
entry_get x o q None = get_removed x.objects o q
entry_get x o q (Some e) = get_inserted x.objects o e q

entry_rest : (x : State) (o : ℕ) (e : Option Entry) → ((with_entry e o x).handles ≡ x.handles) × ((with_entry e o x).scopes ≡ x.scopes) × ((with_entry e o x).cells ≡ x.cells)
entry_rest x o None = (refl, refl, refl)
entry_rest x o (Some e) = (refl, refl, refl)

entries_rest : (n : State) (os : List ℕ) (x : State) → ((with_entries n os x).handles ≡ x.handles) × ((with_entries n os x).scopes ≡ x.scopes) × ((with_entries n os x).cells ≡ x.cells)
entries_rest n [] x = (refl, refl, refl)
entries_rest n (o ∷ os) x =
    let rest = entries_rest n os (with_entry (get n.objects o) o x) in
    let one = entry_rest x o (get n.objects o) in
    (rest.0 ∙ one.0, rest.1 ∙ one.1, rest.2 ∙ one.2)

entries_get : (n : State) (os : List ℕ) (x : State) (q : ℕ) → get (with_entries n os x).objects q ≡ (if has q os then get n.objects q else get x.objects q)
entries_get n [] x q = refl
entries_get n (o ∷ os) x q =
    entries_get n os (with_entry (get n.objects o) o x) q
    ∙ ap (λ (e : Option Entry). if has q os then get n.objects q else e) (entry_get x o q (get n.objects o))
    ∙ found_last (get n.objects) o q (has q os) (o == q) (get x.objects q) refl

-- ---- all of it
label_fits : (t q : ℕ) (ss : List Scoped) → LabelsFit ss → has q (scope_of t ss) ≡ true → t ≤ MAX_THREAD
label_fits t q [] fit here = absurd cc
label_fits t q (s ∷ ss) fit here = at (s.label == t) refl here (λ e. label_fits t q ss fit.1 e)
  where
    at : (b : Bool) → (s.label == t) ≡ b → has q (if b then s.handle ∷ scope_of t ss else scope_of t ss) ≡ true → (has q (scope_of t ss) ≡ true → t ≤ MAX_THREAD) → t ≤ MAX_THREAD
    at true e there rest = subst (λ k. k ≤ MAX_THREAD) (same_number s.label t e) fit.0
    at false e there rest = rest there

handle_fits : (h : ℕ) (x : Holding) (o : Option Holding) → o ≡ Some x → HandleFits h o → (h ≤ MAX_NAME) × HoldingFits x
handle_fits h x o is fit = subst (λ (y : Option Holding). HandleFits h y) is fit

module _ (d : KeySet) (firm : List ℕ) (shifts : List Shift) (fields : List FieldPut) (old new : State) (puts : List Put) (m : State) (whole : IsWhole d firm shifts fields) (sound : IsSound old []) (is : IsLaid d shifts fields old new puts m) where
  abbrev ended : State
  ended = without_handles d.handles old

  but : IsBut (λ h. has h d.handles) ended m
  but = record {
    gone = λ q here. without_get d.handles old q ∙ ap (λ b. if b then None else get old.handles q) here;
    kept = λ q out. without_get d.handles old q ∙ ap (λ b. if b then None else get old.handles q) out ∙ is.difference.handles q (not_false (has q d.handles) out);
    scope = λ t. without_scope d.handles old t sound.scopes ∙ is.difference.within_scopes t;
    scoped = without_scoped d.handles old sound.scopes;
  }

  pub laid_can : CanPut ended puts
  laid_can = can_put m is.sound puts (λ h. has h d.handles) ended is.stand but

  abbrev base : State
  base = laid_over new d.handles d.cells firm puts old

  abbrev held : State
  held = with_puts puts ended

  abbrev filled : State
  filled = with_cells new d.cells held

  -- of the objects that have a shift nothing was laid before
  object_at : (q : ℕ) (b c : Bool) → has q d.objects ≡ b → is_alike shifts q ≡ c → get base.objects q ≡ (if b && not c then get new.objects q else get old.objects q)
  object_at q b c e f =
      entries_get new firm filled q
      ∙ (λ i. if (whole.firm q ∙ (λ j. e j && not (f j))) i then get new.objects q else get filled.objects q)
      ∙ ap (λ (x : Option Entry). if b && not c then get new.objects q else x) (ap (λ (x : FinMap nat_cmp Entry). get x q) ((cells_rest new d.cells held).2 ∙ (puts_rest puts ended).1 ∙ (without_rest d.handles old).1))

  near_base : (q : ℕ) → is_alike shifts q ≡ true → AreEntriesNear (is_loose fields q) (get base.objects q) (get m.objects q)
  near_base q here = subst (λ (e : Option Entry). AreEntriesNear (is_loose fields q) e (get m.objects q)) (sym (object_at q (has q d.objects) true refl here ∙ never (has q d.objects))) (is.near q here)
    where
      never : (b : Bool) → (if b && false then get new.objects q else get old.objects q) ≡ get old.objects q
      never true = refl
      never false = refl

  pub laid_can_set : CanSet base fields
  laid_can_set = can_set (is_alike shifts) m fields base is.holds whole.own near_base

  pub laid_is : with_fields fields base ≡ m
  laid_is =
      let placed = puts_same m is.sound puts (λ h. has h d.handles) ended is.stand but in
      let a = entries_rest new firm filled in
      let b = cells_rest new d.cells held in
      let f = fields_rest fields base in
      let handles : (with_fields fields base).handles ≡ m.handles = f.0 ∙ a.0 ∙ b.0 ∙ placed.0 in
      let scopes : (with_fields fields base).scopes ≡ m.scopes = f.1 ∙ a.1 ∙ b.1 ∙ placed.1 in
      let cells : (with_fields fields base).cells ≡ m.cells = f.2 ∙ a.2 ∙ same_map nat_cmp_total nat_cmp-IsAntisymmetric filled.cells m.cells (λ q. cells_get new d.cells held q ∙ cell_at q (has q d.cells) refl) in
      let objects : (with_fields fields base).objects ≡ m.objects = same_map nat_cmp_total nat_cmp-IsAntisymmetric (with_fields fields base).objects m.objects (λ q. at q (is_alike shifts q) refl) in
      λ i. record { handles = handles i; cells = cells i; objects = objects i; scopes = scopes i }
    where
      cell_at : (q : ℕ) (b : Bool) → has q d.cells ≡ b → (if b then get new.cells q else get held.cells q) ≡ get m.cells q
      cell_at q true e = sym (is.stays.cells q (not_true (has q d.cells) e))
      cell_at q false e =
          ap (λ (c : FinMap nat_cmp Slot). get c q) ((puts_rest puts ended).0 ∙ (without_rest d.handles old).0) ∙ is.difference.cells q (not_false (has q d.cells) e)

      firm_at : (q : ℕ) (b : Bool) → is_alike shifts q ≡ false → has q d.objects ≡ b → (if b && true then get new.objects q else get old.objects q) ≡ get m.objects q
      firm_at q true out e = sym (is.stays.entries q ((λ i. out i || outside d (Object q)) ∙ not_true (has q d.objects) e))
      firm_at q false out e = is.difference.entries q (not_false (has q d.objects) e)

      at : (q : ℕ) (c : Bool) → is_alike shifts q ≡ c → get (with_fields fields base).objects q ≡ get m.objects q
      at q true e = fields_get (is_alike shifts) m fields base is.holds near_base q e
      at q false e = fields_others (is_alike shifts) m fields base whole.own q e ∙ object_at q (has q d.objects) false refl e ∙ firm_at q (has q d.objects) e refl

  -- the limits of what is put
  put_fits : IsBounded new → (p : Put) → has p.handle d.handles ≡ true → get m.handles p.handle ≡ Some p.holding → label_in p.handle m.scopes ≡ Some p.label → PutFits p
  put_fits bounded p inside holds label =
      let outside_not : outside d (Handle p.handle) ≡ false = not_true (has p.handle d.handles) inside in
      let stands_here : has p.handle (scope_of p.label m.scopes) ≡ true = in_own p.handle p.label m.scopes label in
      let kept_here : has p.handle (filter (λ g. not (outside d (Handle g))) (scope_of p.label new.scopes)) ≡ true =
      ap (has p.handle) (sym (is.stays.within_scopes p.label)) ∙ filter_has (λ g. not (outside d (Handle g))) p.handle (scope_of p.label m.scopes) (not_false (outside d (Handle p.handle)) outside_not) stands_here in
      let fit = handle_fits p.handle p.holding (get new.handles p.handle) (sym (is.stays.handles p.handle outside_not) ∙ holds) (bounded.handles p.handle) in
      (label_fits p.label p.handle new.scopes bounded.labels (has_filtered (λ g. not (outside d (Handle g))) p.handle (scope_of p.label new.scopes) kept_here), fit)

  puts_fit : IsBounded new → (ps : List Put) (k : ℕ → Bool) → ((h : ℕ) → k h ≡ true → has h d.handles ≡ true) → ArePuts k m ps → PutsFit ps
  puts_fit bounded [] k within are = tt
  puts_fit bounded (p ∷ ps) k within are = (put_fits bounded p (within p.handle are.0) are.1 are.2, puts_fit bounded ps (less k p.handle) (λ h here. within h (was h (p.handle == h) here)) are.4)
    where
      was : (h : ℕ) (c : Bool) → (if c then false else k h) ≡ true → k h ≡ true
      was h true t = absurd cc
      was h false t = t

  pub laid_fits : IsBounded new → PutsFit puts
  laid_fits bounded = puts_fit bounded puts (λ h. has h d.handles) (λ h here. here) is.stand

-- the same, of the lists that hold the set
module _ (d : KeySet) (firm : List ℕ) (shifts : List Shift) (fields : List FieldPut) (old new : State) (puts : List Put) (hs cs os : List ℕ) (h : hs ≡ d.handles) (c : cs ≡ d.cells) (o : os ≡ firm) (whole : IsWhole d firm shifts fields)
    (sound : IsSound old []) (m : State) (is : IsLaid d shifts fields old new puts m) where
  pub made_can : CanPut (without_handles hs old) puts
  made_can = subst (λ xs. CanPut (without_handles xs old) puts) (sym h) (laid_can d firm shifts fields old new puts m whole sound is)

  made_base : laid_over new hs cs os puts old ≡ laid_over new d.handles d.cells firm puts old
  made_base = λ i. laid_over new (h i) (c i) (o i) puts old

  pub made_set : CanSet (laid_over new hs cs os puts old) fields
  made_set = subst (λ (x : State). CanSet x fields) (sym made_base) (laid_can_set d firm shifts fields old new puts m whole sound is)

  pub made_is : with_fields fields (laid_over new hs cs os puts old) ≡ m
  made_is = ap (with_fields fields) made_base ∙ laid_is d firm shifts fields old new puts m whole sound is

  pub made_sound : IsSound (with_fields fields (laid_over new hs cs os puts old)) []
  made_sound = subst (λ (k : State). IsSound k []) (sym made_is) is.sound
