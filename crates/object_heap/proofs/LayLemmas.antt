-- Parts of one state laid over another: each step keeps the counts and the limits.
use Rattle.std.proofs.Common.{◌≡◌, ℕ, ◌+◌, ◌<◌, ◌≤◌, List, [], ◌∷◌, ◌++◌, length, drop, get_or, suc, add-one, refl, ap, ◌∙◌, sym, subst, arith, Bool, true, false}
use Rattle.std.proofs.Math.Seq.{drop-cons}
use Rattle.std.proofs.Math.ListN.{length-set}
use Rattle.std.proofs.lemmas.List.{take_all, take_more, take_more_set}
use Rattle.std.proofs.lemmas.Bool.Decides.{nat_tests}
use Rattle.std.specs.Prelude.{Option, Some, None, ◌==◌, nat_le, if◌then◌else◌}
use Rattle.std.specs.Cmp.{nat_cmp_total}
use Rattle.std.specs.FinMap.{get, insert, remove, same_map, nat_cmp-IsAntisymmetric}
use Rattle.trace_types.specs.declared.limits.TheConstants.{MAX_THREAD}
use Rattle.trace_types.specs.declared.slots.Slot.{Slot}
use Rattle.trace_types.specs.declared.slots.Entry.{Entry}
use Rattle.trace_types.specs.declared.slots.Entry.TheVariants.{Alive, Husk}
use Rattle.trace_types.specs.declared.slots.Scoped.{Scoped}
use Rattle.trace_types.specs.declared.slots.Change.{Change}
use Rattle.trace_types.specs.declared.slots.Change.TheVariants.{SetHandle, SetField}
use Rattle.ownership_model.specs.State.{State, holding_weight, HoldPointers}
use Rattle.ownership_model.specs.Bounds.{IsBounded, LabelsFit, ChangeFits}
use Rattle.ownership_model.specs.Changes.{changed_by, with_field, HasField, CanBeDone}
use Rattle.ownership_model.proofs.LawsHold.{bounds}
use Rattle.ownership_model.proofs.Counting.{total-set, same_number, get_inserted, get_removed}
use Rattle.object_heap.specs.declared.draft.Draft.{Draft}
use Rattle.object_heap.specs.declared.put.Put.{Put}
use Rattle.object_heap.specs.Counted.{drafted, IsCounted}
use Rattle.object_heap.specs.Gains.{CountsMore, Changes}
use Rattle.object_heap.specs.Exchange.{with_object}
use Rattle.object_heap.specs.Links.{entered_above}
use Rattle.object_heap.specs.Laid.{with_put, with_entry, CanPut, PutFits, PutsFit, IsDrafted, MayHold, BeginAlike}
use Rattle.object_heap.proofs.GainLemmas.{no_more}
use Rattle.object_heap.proofs.ExchangeLemmas.{IsBalanced, counted_then}

-- one change was made
pub made : (old new : Draft) (c : Change) (m : State) → m ≡ changed_by (drafted old) c → IsBounded (drafted old) → ChangeFits c → CanBeDone (drafted old) c → Changes old new c → IsDrafted new m
made old new c m is bounded fits can r = record {
  state = r.state ∙ sym is;
  counted = r.counted;
  bounded = subst (λ (k : State). IsBounded k) (sym r.state) (bounds.changes (drafted old) (c ∷ []) bounded (fits, tt) (can, tt));
}

-- nothing was
pub stayed : (d : Draft) (m : State) → m ≡ drafted d → IsCounted d.objects.counts (drafted d) [] → IsBounded (drafted d) → IsDrafted d m
stayed d m is counted bounded = record { state = sym is; counted = counted; bounded = bounded }

-- ---- a handle is put into its scope
labels_above : (t h : ℕ) (o : Option ℕ) (ss : List Scoped) → t ≤ MAX_THREAD → LabelsFit ss → LabelsFit (entered_above t h o ss)
labels_above t h None [] low fit = (low, tt)
labels_above t h (Some b) [] low fit = (low, tt)
labels_above t h None (s ∷ ss) low fit = at (nat_le s.label t) (labels_above t h None ss low fit.1)
  where
    at : (c : Bool) → LabelsFit (entered_above t h None ss) → LabelsFit (if c then s ∷ entered_above t h None ss else record { label = t; handle = h } ∷ s ∷ ss)
    at true rest = (fit.0, rest)
    at false rest = (low, fit)
labels_above t h (Some b) (s ∷ ss) low fit = at (s.handle == b) (labels_above t h (Some b) ss low fit.1)
  where
    at : (c : Bool) → LabelsFit (entered_above t h (Some b) ss) → LabelsFit (if c then record { label = t; handle = h } ∷ s ∷ ss else s ∷ entered_above t h (Some b) ss)
    at true rest = (low, fit)
    at false rest = (fit.0, rest)

put_balance : (m : State) (p : Put) → get m.handles p.handle ≡ None → IsBalanced m (with_put p m) (λ w. holding_weight w p.holding) (λ w. 0)
put_balance m p free w = omega (arith, total-set (holding_weight w) m.handles p.handle p.holding None free)

put_bounded : (m : State) (p : Put) → IsBounded m → PutFits p → IsBounded (with_put p m)
put_bounded m p bounded fits =
    let so : IsBounded (changed_by m (SetHandle p.label p.handle p.holding)) = bounds.changes m (SetHandle p.label p.handle p.holding ∷ []) bounded (fits, tt) (tt, tt) in
    record { handles = so.handles; cells = so.cells; objects = so.objects; labels = labels_above p.label p.handle p.under m.scopes fits.0 bounded.labels }

pub put_made : (old new : Draft) (p : Put) → drafted new ≡ with_put p (drafted old) → get old.handles.holdings p.handle ≡ None → PutFits p → IsBounded (drafted old) → IsCounted old.objects.counts (drafted old) []
    → CountsMore old.objects.counts new.objects.counts (λ w. holding_weight w p.holding) → IsDrafted new (with_put p (drafted old))
put_made old new p is free fits bounded counted more = record {
  state = is;
  counted = subst (λ (k : State). IsCounted new.objects.counts k []) (sym is)
      (counted_then old.objects.counts new.objects.counts (drafted old) (with_put p (drafted old)) (λ w. holding_weight w p.holding) (λ w. 0) (put_balance (drafted old) p free) counted more
      new.objects.counts (no_more new.objects.counts (λ w. 0) (λ w. refl)));
  bounded = subst (λ (k : State). IsBounded k) (sym is) (put_bounded (drafted old) p bounded fits);
}

-- one put of several
module _ (m : State) (puts : List Put) (i : ℕ) (x : Put) (within : i < length puts) (is : x ≡ get_or puts i x) where
  pub first_put : drop i puts ≡ x ∷ drop (i + 1) puts
  first_put = drop-cons puts i x within ∙ ap (λ (y : Put). y ∷ drop (suc i) puts) (sym is) ∙ ap (λ k. x ∷ drop k puts) (sym (add-one i))

  pub put_first : CanPut m (drop i puts) → CanPut m (x ∷ drop (i + 1) puts)
  put_first can = subst (λ (ps : List Put). CanPut m ps) first_put can

  pub put_fits : PutsFit (drop i puts) → PutsFit (x ∷ drop (i + 1) puts)
  put_fits fits = subst (λ (ps : List Put). PutsFit ps) first_put fits

-- ---- cells
pub may_hold : (m : State) (c : ℕ) (o : Option Slot) → HoldPointers m.cells → get m.cells c ≡ o → MayHold o
may_hold m c None pointers is = tt
may_hold m c (Some s) pointers is = pointers c s is

-- ---- objects
there_already : (b : Bool) (x y : Option Entry) → (b ≡ true → y ≡ x) → (if b then x else y) ≡ y
there_already true x y is = sym (is refl)
there_already false x y is = refl

-- what stands for an object already, put again, changes nothing
pub entry_again : (m : State) (o : ℕ) (x : Option Entry) → get m.objects o ≡ x → with_entry x o m ≡ m
entry_again m o None is =
    let objects : remove m.objects o ≡ m.objects = same_map nat_cmp_total nat_cmp-IsAntisymmetric (remove m.objects o) m.objects (λ q.
    get_removed m.objects o q ∙ there_already (o == q) None (get m.objects q) (λ t. ap (get m.objects) (sym (same_number o q t)) ∙ is)) in
    λ i. record m { objects = objects i }
entry_again m o (Some e) is =
    let objects : insert m.objects o e ≡ m.objects = same_map nat_cmp_total nat_cmp-IsAntisymmetric (insert m.objects o e) m.objects (λ q.
    get_inserted m.objects o e q ∙ there_already (o == q) (Some e) (get m.objects q) (λ t. ap (get m.objects) (sym (same_number o q t)) ∙ is)) in
    λ i. record m { objects = objects i }

-- ---- the fields of an object, one after another
either_last : (b : Bool) (x y z : Option Entry) → (if b then x else (if b then y else z)) ≡ (if b then x else z)
either_last true x y z = refl
either_last false x y z = refl

-- of what is put for an object twice the last stands
put_last : (m : State) (o : ℕ) (x e : Entry) → with_object (with_object m o x) o e ≡ with_object m o e
put_last m o x e =
    let objects : insert (insert m.objects o x) o e ≡ insert m.objects o e = same_map nat_cmp_total nat_cmp-IsAntisymmetric (insert (insert m.objects o x) o e) (insert m.objects o e) (λ q.
    get_inserted (insert m.objects o x) o e q ∙ ap (λ z. if o == q then Some e else z) (get_inserted m.objects o x q) ∙ either_last (o == q) (Some e) (Some x) (get m.objects q) ∙ sym (get_inserted m.objects o e q)) in
    λ i. record m { objects = objects i }

set_alike : (e : Option Entry) (slots : List Slot) (i : ℕ) (d : Slot) → i < length slots → BeginAlike e slots i → BeginAlike (Some (with_field e i (get_or slots i d))) slots (i + 1)
set_alike None slots i d within alike = absurd alike
set_alike (Some Husk) slots i d within alike = absurd alike
set_alike (Some (Alive fields)) slots i d within alike = (
  length-set fields i (get_or slots i d) ∙ alike.0,
  (omega arith, take_more_set fields i (get_or slots i d) (omega (arith, alike.0)) ∙ ap (λ (xs : List Slot). xs ++ get_or slots i d ∷ []) alike.1.1 ∙ sym (take_more slots i d within)),
)

has_alike : (e : Option Entry) (slots : List Slot) (i : ℕ) → i < length slots → BeginAlike e slots i → HasField e i
has_alike None slots i within alike = alike
has_alike (Some Husk) slots i within alike = alike
has_alike (Some (Alive fields)) slots i within alike = omega (arith, alike.0)

-- the field from which on they may differ is set
module _ (old new : Draft) (o i : ℕ) (slots : List Slot) (d : Slot) (within : i < length slots) (alike : BeginAlike (get old.objects.entries o) slots i) (set : Changes old new (SetField o i (get_or slots i d))) where
  abbrev field : Entry
  field = with_field (get old.objects.entries o) i (get_or slots i d)

  there : get (insert old.objects.entries o field) o ≡ Some field
  there =
      let same : (o == o) ≡ true = grind (arith, nat_tests) in
      get_inserted old.objects.entries o field o ∙ ap (λ b. if b then Some field else get old.objects.entries o) same

  pub next_alike : BeginAlike (get new.objects.entries o) slots (i + 1)
  next_alike =
      subst (λ (k : State). BeginAlike (get k.objects o) slots (i + 1)) (sym set.state)
      (subst (λ (x : Option Entry). BeginAlike x slots (i + 1)) (sym there) (set_alike (get old.objects.entries o) slots i d within alike))

  pub next_bounded : IsBounded (drafted old) → IsBounded (drafted new)
  next_bounded bounded =
      (made old new (SetField o i (get_or slots i d)) (changed_by (drafted old) (SetField o i (get_or slots i d))) refl bounded tt (has_alike (get old.objects.entries o) slots i within alike) set).bounded

  pub next_rest : with_object (drafted new) o (Alive slots) ≡ with_object (drafted old) o (Alive slots)
  next_rest = ap (λ (k : State). with_object k o (Alive slots)) set.state ∙ put_last (drafted old) o field (Alive slots)

-- all fields are the same
pub all_alike : (e : Option Entry) (slots : List Slot) (i : ℕ) → length slots ≤ i → BeginAlike e slots i → e ≡ Some (Alive slots)
all_alike None slots i past alike = absurd alike
all_alike (Some Husk) slots i past alike = absurd alike
all_alike (Some (Alive fields)) slots i past alike =
    ap (λ (xs : List Slot). Some (Alive xs)) (sym (take_all i fields (omega (arith, alike.0))) ∙ alike.1.1 ∙ take_all i slots past)
