-- What is compared at the members of a set is agreement, where the set is the reach.
use Rattle.std.proofs.Common.{◌≡◌, ℕ, List, [], ◌∷◌, map, refl, ap, ◌∙◌, sym, subst, arith, Bool, true, false}
use Rattle.std.specs.Prelude.{Option, Some, None, ◌||◌, if◌then◌else◌}
use Rattle.std.proofs.lemmas.Bool.Decides.{nat_tests}
use Rattle.std.specs.List.{list_any, AllByRecursion}
use Rattle.std.specs.Ordering.{nat_cmp, is_eq}
use Rattle.std.specs.FinMap.{FinMap, get}
use Rattle.trace_types.specs.declared.slots.Entry.{Entry}
use Rattle.ownership_model.specs.declared.remaining.Remaining.{Remaining}
use Rattle.ownership_model.specs.declared.link.Link.TheVariants.{StrongOrWeak}
use Rattle.ownership_model.specs.State.{State, IsSound}
use Rattle.ownership_model.specs.Bounds.{IsBounded, ObjectFits}
use Rattle.ownership_model.specs.Reach.{IsReach, is_reached, Reaches.by_root, Reaches.by_field}
use Rattle.ownership_model.specs.Agrees.{HaveSameRoots}
use Rattle.ownership_model.specs.Patch.{Remains, IsRemains, remaining_at, entry_of}
use Rattle.ownership_model.specs.Laws.{ReplayAlike}
use Rattle.ownership_model.proofs.LawsHold.{agreement, reach}
use Rattle.object_heap.specs.Exchange.{AreWithinLimits}
use Rattle.agreement.specs.Agreement.{Agree, AreRemains, is_apart}
use Rattle.agreement.specs.Gathering.{AgreeOn}
use Rattle.agreement.proofs.TrimmingLemmas.{cut_fits}

pub neither : (b : Bool) → b ≡ false → b ≡ true → false ≡ true
neither b p t = sym p ∙ t

module _ (k : ℕ → Bool) (new old : State) (is_reach : IsReach StrongOrWeak new k) where
  same : (o : ℕ) → k o ≡ is_reached StrongOrWeak new o
  same o = reach.only StrongOrWeak new k is_reach o

  pub agree_from : HaveSameRoots new old → AgreeOn k new old → Agree new old
  agree_from roots on = record {
    handles = roots.handles;
    cells = roots.cells;
    scopes = roots.scopes;
    entries = λ o h. (on o (same o ∙ h)).entry;
    strongs = λ o h. (on o (same o ∙ h)).strong;
    weaks = λ o h. (on o (same o ∙ h)).weak;
  }

  pub agree_on_from : Agree new old → AgreeOn k new old
  agree_on_from a o h = let r = sym (same o) ∙ h in record { entry = a.entries o r; strong = a.strongs o r; weak = a.weaks o r }

  pub remains_from : (x : Remains) → IsRemains k new old x → AreRemains new old x
  remains_from x is = record {
    removed = λ q. is.removed q ∙ ap (λ b. if b then None else remaining_at old q (get old.objects q)) (same q);
    added = λ q. is.added q ∙ ap (λ b. if b then None else remaining_at new q (get new.objects q)) (same q);
  }

entry_fits : (m : State) (q : ℕ) (x : Option Entry) → ObjectFits q x → ObjectFits q (entry_of (remaining_at m q x))
entry_fits m q None f = tt
entry_fits m q (Some e) f = f

-- what is left of a heap is within its limits
pub rest_within : (k : ℕ → Bool) (m : State) (rest : FinMap nat_cmp Remaining) → IsBounded m → ((q : ℕ) → get rest q ≡ (if k q then None else remaining_at m q (get m.objects q))) → AreWithinLimits rest
rest_within k m rest bounded is q = subst (λ x. ObjectFits q (entry_of x)) (sym (is q)) (cut_fits (k q) q (remaining_at m q (get m.objects q)) (entry_fits m q (get m.objects q) (bounded.objects q)))

same_key : (o x : ℕ) → is_eq (nat_cmp o x) ≡ true → x ≡ o
same_key o x h = grind (arith, nat_tests, h)

-- each member was passed
pub each_member : {A : Type 0} (P : ℕ → Type 0) (shows : A → ℕ) (xs : List A) → AllByRecursion (λ b. P (shows b)) xs → (o : ℕ) → list_any (λ x. is_eq (nat_cmp o x)) (map shows xs) ≡ true → P o
each_member P shows [] all o h = absurd cc
each_member P shows (x ∷ xs) all o h =
    elim (is_eq (nat_cmp o (shows x))) as (λ b. is_eq (nat_cmp o (shows x)) ≡ b → (b || list_any (λ x. is_eq (nat_cmp o x)) (map shows xs)) ≡ true → P o) [
      | true ↦ λ e g. subst P (same_key o (shows x) e) all.0
      | false ↦ λ e g. each_member P shows xs all.1 o g
    ] refl h

-- the test of what is reached tells the reach
all_reached : (m : State) → IsReach StrongOrWeak m (λ o. is_reached StrongOrWeak m o)
all_reached m = record {
  roots = λ o h. (reach.reached StrongOrWeak m o).1 (by_root o h);
  fields = λ p o h n. (reach.reached StrongOrWeak m o).1 (by_field p o ((reach.reached StrongOrWeak m p).0 h) n);
  reached = λ o h. (reach.reached StrongOrWeak m o).0 h;
}

-- what agreement is for
pub replay_alike : (new old : State) (x : Remains) → IsSound new [] → IsSound old [] → Agree new old → AreRemains new old x → ReplayAlike (is_apart new old) new old x
replay_alike new old x sound sound_too a is ops distinct unused unused_too =
    let reach : IsReach StrongOrWeak new (λ o. is_reached StrongOrWeak new o) = all_reached new in
    agreement (λ o. is_reached StrongOrWeak new o) new old sound sound_too (record { roots = reach.roots; fields = reach.fields }) a x is ops distinct unused unused_too
