-- What remains tell by themselves, of two states that agree.
use Rattle.std.proofs.Common.{◌≡◌, ℕ, refl, sym, subst, Bool, true, false}
use Rattle.std.specs.Prelude.{Option, Some, None, not, ◌&&◌, ◌||◌, if◌then◌else◌, is_some}
use Rattle.std.specs.FinMap.{get}
use Rattle.trace_types.specs.declared.slots.Entry.{Entry}
use Rattle.ownership_model.specs.declared.remaining.Remaining.{Remaining}
use Rattle.ownership_model.specs.State.{State}
use Rattle.ownership_model.specs.Agrees.{is_remaining}
use Rattle.ownership_model.specs.Patch.{Remains, IsRemains, remaining_at}
use Rattle.ownership_model.specs.Laws.{ReplayAlike}
use Rattle.agreement.specs.Agreement.{Agree}
use Rattle.agreement.specs.Meeting.{apart_from, AgreeBut}

-- where the set and what two maps leave have the same of what stands
record IsLeft (b : Bool) (new old : State) (q : ℕ) (n o : Option Entry) (goes comes : Option Remaining) : Type 0 where
  same : ((is_some n || is_some o) && not b) ≡ ((is_some n || is_some o) && not (not (is_some goes || is_some comes)))
  removed : goes ≡ (if not (is_some goes || is_some comes) then None else remaining_at old q o)
  added : comes ≡ (if not (is_some goes || is_some comes) then None else remaining_at new q n)

left_by : (b : Bool) (new old : State) (q : ℕ) (n o : Option Entry) → IsLeft b new old q n o (if b then None else remaining_at old q o) (if b then None else remaining_at new q n)
left_by true new old q None None = record { same = refl; removed = refl; added = refl }
left_by true new old q None (Some e) = record { same = refl; removed = refl; added = refl }
left_by true new old q (Some e) o = record { same = refl; removed = refl; added = refl }
left_by false new old q None None = record { same = refl; removed = refl; added = refl }
left_by false new old q None (Some e) = record { same = refl; removed = refl; added = refl }
left_by false new old q (Some e) None = record { same = refl; removed = refl; added = refl }
left_by false new old q (Some e) (Some f) = record { same = refl; removed = refl; added = refl }

module _ (k : ℕ → Bool) (new old : State) (x : Remains) (is : IsRemains k new old x) where
  left : (q : ℕ) → IsLeft (k q) new old q (get new.objects q) (get old.objects q) (get x.removed q) (get x.added q)
  left q =
      subst (λ r. IsLeft (k q) new old q (get new.objects q) (get old.objects q) r (get x.added q)) (sym (is.removed q))
      (subst (λ a. IsLeft (k q) new old q (get new.objects q) (get old.objects q) (if k q then None else remaining_at old q (get old.objects q)) a) (sym (is.added q))
      (left_by (k q) new old q (get new.objects q) (get old.objects q)))

  same_remaining : is_remaining k new old ≡ is_remaining (apart_from x) new old
  same_remaining = λ i q. (left q).same i

  -- the remains of a set are those of the set that they leave
  pub agree_but : Agree new old → ReplayAlike (is_remaining k new old) new old x → AgreeBut new old x
  agree_but agree law = record {
    agree = agree;
    remains = record { removed = λ q. (left q).removed; added = λ q. (left q).added };
    law = subst (λ r. ReplayAlike r new old x) same_remaining law;
  }
