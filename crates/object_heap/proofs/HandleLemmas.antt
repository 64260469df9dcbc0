-- What contracts see of the handles, by what is kept for each.
use Rattle.std.proofs.Common.{◌≡◌, ℕ, [], refl, ap, ◌∙◌, sym, Bool, true, false}
use Rattle.std.specs.Prelude.{Option, Some, None, ◌==◌, if◌then◌else◌}
use Rattle.std.specs.Option.{option_map, option_and_then}
use Rattle.std.specs.Ordering.{nat_cmp}
use Rattle.std.specs.Cmp.{nat_cmp_total}
use Rattle.std.specs.FinMap.{FinMap, get, insert, remove, empty, keys, same_map, nat_cmp-IsAntisymmetric}
use Rattle.share_tree.specs.Updates.{set_at}
use Rattle.trace_types.specs.declared.slots.Holding.{Holding}
use Rattle.ownership_model.specs.Scopes.{scope_of, times_in, entered, left, kept_or_entered}
use Rattle.ownership_model.proofs.Counting.{get_inserted, get_removed, same_number}
use Rattle.object_heap.specs.declared.place.Place.{Place}
use Rattle.object_heap.specs.declared.held.Held.{Held}
use Rattle.object_heap.specs.Links.{AreLinked, scopes_at, earlier_at, earlier_in, label_at, label_in, set_later_at, set_earlier_at, with_later, with_earlier, relinked_later, relinked_earlier, last_without, entered_above, IsAbove, above_of, last_with}
use Rattle.object_heap.specs.HandlesView.{HandlesView, holdings_of, places_of, handles_of}
use Rattle.object_heap.proofs.LinkLemmas.{empty_linked}
use Rattle.object_heap.proofs.EarlierLemmas.{earlier_linked}
use Rattle.object_heap.proofs.LabelLemmas.{label_linked}
use Rattle.object_heap.proofs.EnterLemmas.{entered_linked}
use Rattle.object_heap.proofs.AboveLemmas.{later_at, later_linked, above_linked}
use Rattle.object_heap.proofs.UnderLemmas.{AreOnce}
use Rattle.object_heap.proofs.LeaveLemmas.{absent, places_without, left_linked, left_same}
use Rattle.object_heap.proofs.ViewLemmas.{viewed, linked_as, linked_to, same_trees}
use Rattle.object_heap.proofs.TableLemmas.{same_some, get-part, part-empty, keys-part, part_insert, part_remove, part_stays}

-- of what is kept for a handle, if anything is: what it holds, and where it stands
abbrev pub holding_at : Option Held → Option Holding
holding_at o = option_and_then (λ (x : Held). Some x.holding) o

abbrev pub place_at : Option Held → Option Place
place_at o = option_and_then (λ (x : Held). Some x.place) o

-- ---- what is seen of what is kept
module _ (m : FinMap nat_cmp Held) where
  pub holding_seen : (q : ℕ) → get (holdings_of m) q ≡ holding_at (get m q)
  holding_seen q = get-part (λ x. Some x.holding) m q

  pub place_seen : (q : ℕ) → get (places_of m) q ≡ place_at (get m q)
  place_seen q = get-part (λ x. Some x.place) m q

  pub keys_seen : keys m ≡ keys (holdings_of m)
  keys_seen = sym (keys-part (λ x. Some x.holding) m (λ q x is. refl))

  pub holdings_with : (h : ℕ) (x : Held) → holdings_of (insert m h x) ≡ insert (holdings_of m) h x.holding
  holdings_with h x = part_insert (λ y. Some y.holding) m (insert m h x) h (Some x) (get_inserted m h x) x.holding refl

  pub places_with : (h : ℕ) (x : Held) → places_of (insert m h x) ≡ insert (places_of m) h x.place
  places_with h x = part_insert (λ y. Some y.place) m (insert m h x) h (Some x) (get_inserted m h x) x.place refl

  pub holdings_less : (h : ℕ) → holdings_of (remove m h) ≡ remove (holdings_of m) h
  holdings_less h = part_remove (λ y. Some y.holding) m (remove m h) h None (get_removed m h) refl

  pub places_less : (h : ℕ) → places_of (remove m h) ≡ remove (places_of m) h
  places_less h = part_remove (λ y. Some y.place) m (remove m h) h None (get_removed m h) refl

  -- a handle that holds something else stands where it stood
  pub places_stay : (h : ℕ) (x y : Held) → get m h ≡ Some x → y.place ≡ x.place → places_of (insert m h y) ≡ places_of m
  places_stay h x y is same =
      part_stays (λ z. Some z.place) m (insert m h y) h (Some y) (get_inserted m h y)
      (ap (λ (p : Place). Some p) same ∙ sym (place_seen h ∙ ap place_at is))

  pub holdings_stay : (h : ℕ) (x y : Held) → get m h ≡ Some x → y.holding ≡ x.holding → holdings_of (insert m h y) ≡ holdings_of m
  holdings_stay h x y is same =
      part_stays (λ z. Some z.holding) m (insert m h y) h (Some y) (get_inserted m h y)
      (ap (λ (p : Holding). Some p) same ∙ sym (holding_seen h ∙ ap holding_at is))

-- ---- a handle gets another neighbour
module _ (m : FinMap nat_cmp Held) (h : ℕ) (n : Option ℕ) where
  abbrev pub to_later : Held → Held
  to_later x = record { holding = x.holding; place = record { label = x.place.label; earlier = x.place.earlier; later = n } }

  abbrev pub to_earlier : Held → Held
  to_earlier x = record { holding = x.holding; place = record { label = x.place.label; earlier = n; later = x.place.later } }

  pub later_holdings : holdings_of (set_at m h (option_map to_later (get m h))) ≡ holdings_of m
  later_holdings = of (get m h) refl
    where
      of : (o : Option Held) → get m h ≡ o → holdings_of (set_at m h (option_map to_later o)) ≡ holdings_of m
      of None is = refl
      of (Some x) is = holdings_stay m h x (to_later x) is refl

  pub later_places : places_of (set_at m h (option_map to_later (get m h))) ≡ with_later (places_of m) h n
  later_places = of (get m h) ∙ ap (λ (o : Option Place). set_later_at (places_of m) h o n) (sym (place_seen m h))
    where
      of : (o : Option Held) → places_of (set_at m h (option_map to_later o)) ≡ set_later_at (places_of m) h (place_at o) n
      of None = refl
      of (Some x) = places_with m h (to_later x)

  pub earlier_holdings : holdings_of (set_at m h (option_map to_earlier (get m h))) ≡ holdings_of m
  earlier_holdings = of (get m h) refl
    where
      of : (o : Option Held) → get m h ≡ o → holdings_of (set_at m h (option_map to_earlier o)) ≡ holdings_of m
      of None is = refl
      of (Some x) is = holdings_stay m h x (to_earlier x) is refl

  pub earlier_places : places_of (set_at m h (option_map to_earlier (get m h))) ≡ with_earlier (places_of m) h n
  earlier_places = of (get m h) ∙ ap (λ (o : Option Place). set_earlier_at (places_of m) h o n) (sym (place_seen m h))
    where
      of : (o : Option Held) → places_of (set_at m h (option_map to_earlier o)) ≡ set_earlier_at (places_of m) h (place_at o) n
      of None = refl
      of (Some x) = places_with m h (to_earlier x)

-- ---- no handle is held
module _ (m : FinMap nat_cmp Held) (last : FinMap nat_cmp ℕ) (none : m ≡ empty) (no_last : last ≡ empty) where
  pub nothing_linked : AreLinked (places_of m) last (scopes_at (places_of m) last)
  nothing_linked =
      let x = linked_as (places_of m) empty last empty [] (ap places_of none ∙ part-empty (λ (x : Held). Some x.place)) no_last empty_linked in
      linked_to (places_of m) last [] (scopes_at (places_of m) last) (sym (viewed (places_of m) last [] x)) x

  pub nothing_seen : handles_of m last ≡ record { holdings = empty; scopes = [] }
  nothing_seen =
      let x = linked_as (places_of m) empty last empty [] (ap places_of none ∙ part-empty (λ (x : Held). Some x.place)) no_last empty_linked in
      let held : holdings_of m ≡ empty = ap holdings_of none ∙ part-empty (λ (x : Held). Some x.holding) in
      let scopes : scopes_at (places_of m) last ≡ [] = viewed (places_of m) last [] x in
      λ i. record { holdings = held i; scopes = scopes i }

-- ---- trees of which the same is seen are the same
held_is : (a b : Option Held) → holding_at a ≡ holding_at b → place_at a ≡ place_at b → a ≡ b
held_is None None h p = refl
held_is None (Some y) h p = absurd cc
held_is (Some x) None h p = absurd cc
held_is (Some x) (Some y) h p =
    let holding : x.holding ≡ y.holding = same_some x.holding y.holding h in
    let place : x.place ≡ y.place = same_some x.place y.place p in
    λ i. Some (record { holding = holding i; place = place i })

pub same_kept : (a b : FinMap nat_cmp Held) → holdings_of a ≡ holdings_of b → places_of a ≡ places_of b → a ≡ b
same_kept a b h p = same_map nat_cmp_total nat_cmp-IsAntisymmetric a b (λ q.
    held_is (get a q) (get b q)
    (sym (holding_seen a q) ∙ ap (λ (m : FinMap nat_cmp Holding). get m q) h ∙ holding_seen b q)
    (sym (place_seen a q) ∙ ap (λ (m : FinMap nat_cmp Place). get m q) p ∙ place_seen b q))

pub same_seen : (a b : FinMap nat_cmp Held) (la lb : FinMap nat_cmp ℕ) → AreLinked (places_of a) la (scopes_at (places_of a) la) → AreLinked (places_of b) lb (scopes_at (places_of b) lb) → handles_of a la ≡ handles_of b lb → (a ≡ b) × (la ≡ lb)
same_seen a b la lb x y same =
    let trees = same_trees (places_of a) (places_of b) la lb x y (ap (λ (v : HandlesView). v.scopes) same) in
    (same_kept a b (ap (λ (v : HandlesView). v.holdings) same) trees.0, trees.1)

-- ---- what is found by what is kept
module _ (m : FinMap nat_cmp Held) (last : FinMap nat_cmp ℕ) (v : HandlesView) (view : handles_of m last ≡ v) (linked : AreLinked (places_of m) last (scopes_at (places_of m) last)) where
  pub linked_seen : AreLinked (places_of m) last v.scopes
  linked_seen = linked_to (places_of m) last (scopes_at (places_of m) last) v.scopes (ap (λ (w : HandlesView). w.scopes) view) linked

  pub holding_found : (q : ℕ) (x : Option Held) → get m q ≡ x → holding_at x ≡ get v.holdings q
  holding_found q x is = ap holding_at (sym is) ∙ sym (holding_seen m q) ∙ ap (λ (w : HandlesView). get w.holdings q) view

  pub earlier_found : (q : ℕ) (x : Option Held) → get m q ≡ x → earlier_at (place_at x) ≡ earlier_in q v.scopes
  earlier_found q x is = ap (λ (o : Option Held). earlier_at (place_at o)) (sym is) ∙ ap earlier_at (sym (place_seen m q)) ∙ earlier_linked (places_of m) last v.scopes linked_seen q

  pub label_found : (q : ℕ) (x : Option Held) → get m q ≡ x → label_at (place_at x) ≡ label_in q v.scopes
  label_found q x is = ap (λ (o : Option Held). label_at (place_at o)) (sym is) ∙ ap label_at (sym (place_seen m q)) ∙ label_linked (places_of m) last v.scopes linked_seen q

  -- what is not held stands in no scope
  pub stands_nowhere : (q : ℕ) → get m q ≡ None → times_in q v.scopes ≡ 0
  stands_nowhere q none = absent (places_of m) last v.scopes q (times_in q v.scopes) linked_seen (place_seen m q ∙ ap place_at none) refl

  pub kept_none : (q : ℕ) → get v.holdings q ≡ None → get m q ≡ None
  kept_none q none = of (get m q) (holding_found q (get m q) refl ∙ none)
    where
      of : (o : Option Held) → holding_at o ≡ None → o ≡ None
      of None e = refl
      of (Some x) e = absurd cc

  -- a handle that held nothing entered the scope of a label
  pub entered_kept : (new : FinMap nat_cmp Held) (new_last : FinMap nat_cmp ℕ) (t h : ℕ) (o : Option ℕ) → o ≡ get last t → get v.holdings h ≡ None
      → places_of new ≡ insert (relinked_later (places_of m) o (Some h)) h (record { label = t; earlier = o; later = None }) → new_last ≡ insert last t h → AreLinked (places_of new) new_last (entered t h v.scopes)
  entered_kept new new_last t h o is none places lasts =
      linked_as (places_of new) (insert (relinked_later (places_of m) o (Some h)) h (record { label = t; earlier = o; later = None })) new_last (insert last t h) (entered t h v.scopes) places lasts
      (entered_linked (places_of m) last v.scopes t h linked_seen (stands_nowhere h (kept_none h none)) o is)

  -- or just above another handle of it
  pub above_kept : (new : FinMap nat_cmp Held) (new_last : FinMap nat_cmp ℕ) (t h : ℕ) (o a : Option ℕ) → IsAbove o t v.scopes → a ≡ above_of o None (scope_of t v.scopes) → get v.holdings h ≡ None
      → places_of new ≡ insert (relinked_earlier (relinked_later (places_of m) o (Some h)) a (Some h)) h (record { label = t; earlier = o; later = a }) → new_last ≡ last_with last t h a
      → AreLinked (places_of new) new_last (entered_above t h o v.scopes)
  above_kept new new_last t h o a stands is none places lasts =
      linked_as (places_of new) (insert (relinked_earlier (relinked_later (places_of m) o (Some h)) a (Some h)) h (record { label = t; earlier = o; later = a })) new_last (last_with last t h a) (entered_above t h o v.scopes) places lasts
      (above_linked (places_of m) last v.scopes t h o linked_seen (stands_nowhere h (kept_none h none)) stands a is)

  pub later_found : (t d : ℕ) (x : Option Held) → get m d ≡ x → IsAbove (Some d) t v.scopes → later_at (place_at x) ≡ above_of (Some d) None (scope_of t v.scopes)
  later_found t d x is stands = ap (λ (o : Option Held). later_at (place_at o)) (sym is) ∙ ap later_at (sym (place_seen m d)) ∙ later_linked (places_of m) last v.scopes linked_seen t d stands

  pub once_seen : AreOnce v.scopes
  once_seen = linked_seen.once

  -- a handle of this place left its scope
  pub left_kept : (new : FinMap nat_cmp Held) (new_last : FinMap nat_cmp ℕ) (h : ℕ) (x : Held) → get m h ≡ Some x → places_of new ≡ places_without (places_of m) h x.place.earlier x.place.later
      → new_last ≡ last_without last x.place.label x.place.earlier x.place.later → AreLinked (places_of new) new_last (left h v.scopes)
  left_kept new new_last h x here places lasts =
      linked_as (places_of new) (places_without (places_of m) h x.place.earlier x.place.later) new_last (last_without last x.place.label x.place.earlier x.place.later) (left h v.scopes) places lasts
      (left_linked (places_of m) last v.scopes h x.place (place_seen m h ∙ ap place_at here) linked_seen)

  -- where nothing is kept for a handle, nothing ends
  pub scopes_stay : (h : ℕ) → get m h ≡ None → v.scopes ≡ left h v.scopes
  scopes_stay h none = sym (left_same (places_of m) last v.scopes h linked_seen (place_seen m h ∙ ap place_at none))

  pub held_stays : (h : ℕ) → get m h ≡ None → v.holdings ≡ remove v.holdings h
  held_stays h none = same_map nat_cmp_total nat_cmp-IsAntisymmetric v.holdings (remove v.holdings h) (λ q. of q (h == q) refl ∙ sym (get_removed v.holdings h q))
    where
      of : (q : ℕ) (b : Bool) → (h == q) ≡ b → get v.holdings q ≡ (if b then None else get v.holdings q)
      of q true is = ap (get v.holdings) (sym (same_number h q is)) ∙ sym (holding_found h None none)
      of q false is = refl

  -- a handle that holds something else stands where it stood
  module _ (new : FinMap nat_cmp Held) (h : ℕ) (x y : Held) (here : get m h ≡ Some x) (is : new ≡ insert m h y) (same : y.place ≡ x.place) where
    pub linked_still : AreLinked (places_of new) last v.scopes
    linked_still = linked_as (places_of new) (places_of m) last last v.scopes (ap places_of is ∙ places_stay m h x y here same) refl linked_seen

    pub scopes_kept : (t : ℕ) → v.scopes ≡ kept_or_entered (get v.holdings h) t h v.scopes
    scopes_kept t = ap (λ (o : Option Holding). kept_or_entered o t h v.scopes) (holding_found h (Some x) here)
