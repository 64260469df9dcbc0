-- A leaked object leaked by the last operation by which it, or one that leads to it at the end, lost a strong slot.
use Rattle.std.proofs.Common.{◌≡◌, ℕ, List, [], ◌∷◌, ◌++◌, refl, sym, ap, ◌∙◌, subst, Bool, true, false, inl, inr}
use Rattle.std.specs.Prelude.{Option, Some, None, ◌⊎◌}
use Rattle.std.specs.Ordering.{nat_cmp}
use Rattle.std.specs.FinMap.{get, get-empty}
use Rattle.trace_types.specs.declared.slots.Slot.{Slot}
use Rattle.trace_types.specs.declared.slots.Slot.TheVariants.{Strong}
use Rattle.trace_types.specs.declared.slots.Entry.{Entry}
use Rattle.trace_types.specs.declared.slots.Entry.TheVariants.{Alive, Husk}
use Rattle.trace_types.specs.Operation.{Operation}
use Rattle.ownership_model.specs.State.{State, nothing_held, is_alive, IsSound}
use Rattle.ownership_model.specs.Step.{step, end_from, AreNew}
use Rattle.ownership_model.specs.Leaks.{IsLeaked}
use Rattle.ownership_model.specs.declared.link.Link.TheVariants.{StrongOnly}
use Rattle.ownership_model.specs.Reach.{has, root_names, field_names, Reaches, Reaches.by_root, Reaches.by_field}
use Rattle.ownership_model.proofs.LawsHold as model
use Rattle.retention_model.specs.declared.place.Place.{Place}
use Rattle.retention_model.specs.declared.place.Place.TheVariants.{Handle, Cell, Field}
use Rattle.retention_model.specs.Places.{at, field_at, IsRoot, IsFieldOf}
use Rattle.retention_model.specs.Since.{IsSince, is_same}
use Rattle.retention_model.specs.Ways.{LeadsTo, BeginsIn, IsWay}
use Rattle.retention_model.specs.Cycles.{Keeps}
use Rattle.retention_model.specs.LeakedSince.{IsLeakedSince}
use Rattle.retention_model.specs.Losses.{Loses, Backs, LoseNone, IsLastLoss}
use Rattle.retention_model.proofs.SinceLemmas.{is_same_sound, is_same_whole}
use Rattle.retention_model.proofs.WayLemmas.{by_roots, named_entry, entry_named, root_reaches, field_reaches, along}
use Rattle.retention_model.proofs.StayLemmas.{leaked_stays, field_came, made_held}

-- a place in an object of these
abbrev IsInside : (ℕ → Type 0) → Place → Type 0
IsInside Of (Handle h i) = ⊥
IsInside Of (Cell c) = ⊥
IsInside Of (Field b i) = Of b

root_outside : (Of : ℕ → Type 0) (p : Place) → IsRoot p → IsInside Of p → ⊥
root_outside Of (Handle h i) root inside = inside
root_outside Of (Cell c) root inside = inside
root_outside Of (Field b i) root inside = root

-- no loss of more operations is none of the later ones
none_next : (Of : ℕ → Type 0) (m : State) (op : Operation) (ops : List Operation) → LoseNone Of m (op ∷ ops) → LoseNone Of (step m op).state ops
none_next Of m op ops none some more next a split of lost = none (op ∷ some) more next a (ap (λ l. op ∷ l) split) of lost

-- The objects of a set that are alive at the end e, where each place that holds one is a field of one.
module _ (e : State) (Of : ℕ → Type 0) (held : (a : ℕ) (p : Place) → Of a → at e p ≡ Some (Strong a) → IsInside Of p) (alive : (a : ℕ) → Of a → is_alive (get e.objects a) ≡ true) where
  -- a slot that isn't lost stands at the end
  pub stays_so : (rest : List Operation) (m : State) → end_from m rest ≡ e → LoseNone Of m rest → (a : ℕ) (p : Place) → Of a → at m p ≡ Some (Strong a) → at e p ≡ Some (Strong a)
  stays_so [] m is none a p of here = subst (λ (n : State). at n p ≡ Some (Strong a)) is here
  stays_so (op ∷ rest) m is none a p of here = stays_so rest (step m op).state is (none_next Of m op rest none) a p of (next (is_same (at m p) (at (step m op).state p)) refl)
    where
      next : (b : Bool) → is_same (at m p) (at (step m op).state p) ≡ b → at (step m op).state p ≡ Some (Strong a)
      next true same = sym (is_same_sound (at m p) (at (step m op).state p) same) ∙ here
      next false other = absurd (none [] rest op a refl of (p, here, other))

  pub never_reached : (m : State) → ((a : ℕ) (p : Place) → Of a → at m p ≡ Some (Strong a) → at e p ≡ Some (Strong a)) → (x : ℕ) → Reaches StrongOnly m x → Of x → ⊥
  never_reached m stays _ (by_root x h) of =
      let it = by_roots m x h in
      root_outside Of it.0 it.1 (held x it.0 of (stays x it.0 of it.2))
  never_reached m stays _ (by_field y x there h) of =
      let it = named_entry (get m.objects y) x h in
      never_reached m stays y there (held x (Field y it.0) of (stays x (Field y it.0) of it.1))

  pub was_alive : (rest : List Operation) (m : State) → IsSound m [] → AreNew m rest → end_from m rest ≡ e → LoseNone Of m rest → (x : ℕ) → Of x → is_alive (get m.objects x) ≡ true
  was_alive [] m sound new is none x of = subst (λ (n : State). is_alive (get n.objects x) ≡ true) (sym is) (alive x of)
  was_alive (op ∷ rest) m sound new is none x of =
      by_test (is_alive (get m.objects x)) refl (was_alive rest (step m op).state (model.soundness.steps m op sound new.0) new.1 is (none_next Of m op rest none) x of)
    where
      by_test : (b : Bool) → is_alive (get m.objects x) ≡ b → is_alive (get (step m op).state.objects x) ≡ true → b ≡ true
      by_test true lives later = refl
      by_test false dead later =
          let it : (h : ℕ) × (at (step m op).state (Handle h None) ≡ Some (Strong x)) = made_held m sound op x new.0 dead later in
          absurd (held x (Handle it.0 None) of (stays_so rest (step m op).state is (none_next Of m op rest none) x (Handle it.0 None) of it.1))

  -- where none is lost any more they have leaked
  pub was_leaked : (rest : List Operation) (m : State) → IsSound m [] → AreNew m rest → end_from m rest ≡ e → LoseNone Of m rest → (x : ℕ) → Of x → IsLeaked m x
  was_leaked rest m sound new is none x of = record {
    alive = was_alive rest m sound new is none x of;
    unreached = λ r. never_reached m (stays_so rest m is none) x r of;
  }

  pub ever_leaked : (some more : List Operation) (m : State) → IsSound m [] → AreNew m (some ++ more) → end_from m (some ++ more) ≡ e → LoseNone Of m (some ++ more)
      → (x : ℕ) → Of x → IsLeaked (end_from m some) x
  ever_leaked [] more m sound new is none x of = was_leaked more m sound new is none x of
  ever_leaked (op ∷ some) more m sound new is none x of =
      ever_leaked some more (step m op).state (model.soundness.steps m op sound new.0) new.1 is (none_next Of m op (some ++ more) none) x of

  -- and a field that holds one at the end has held it since
  pub field_was : (rest : List Operation) (m : State) → IsSound m [] → AreNew m rest → end_from m rest ≡ e → LoseNone Of m rest → (d k i : ℕ) → Of d
      → at e (Field k i) ≡ Some (Strong d) → at m (Field k i) ≡ Some (Strong d)
  field_was [] m sound new is none d k i of here = subst (λ (n : State). at n (Field k i) ≡ Some (Strong d)) (sym is) here
  field_was (op ∷ rest) m sound new is none d k i of here =
      field_came m sound op d k i new.0 (was_leaked (op ∷ rest) m sound new is none d of)
      (field_was rest (step m op).state (model.soundness.steps m op sound new.0) new.1 is (none_next Of m op rest none) d k i of here)

field_alive : (x : Option Entry) (i : ℕ) (s : Slot) → field_at x i ≡ Some s → is_alive x ≡ true
field_alive None i s e = absurd cc
field_alive (Some (Alive fields)) i s e = refl
field_alive (Some Husk) i s e = absurd cc

-- what holds a leaked object leaked
pub holder_leaked : (m : State) (d k i : ℕ) → IsLeaked m d → at m (Field k i) ≡ Some (Strong d) → IsLeaked m k
holder_leaked m d k i it here = record {
  alive = field_alive (get m.objects k) i (Strong d) here;
  unreached = λ r. it.unreached (by_field k d r (entry_named (get m.objects k) i d here));
}

-- Of an object o that leaked at the end e: those that lead to it.
module _ (e : State) (o : ℕ) (it : IsLeaked e o) where
  along_way : (a : ℕ) (way : List Place) → BeginsIn (IsFieldOf a) way → LeadsTo e o way → Reaches StrongOnly e a → Reaches StrongOnly e o
  along_way a [] begins leads r = absurd begins
  along_way a (q ∷ way) begins leads r = along e way q o (λ t here. field_reaches e a q t r begins here) leads

  pub backs_unreached : (a : ℕ) → Backs e o a → Reaches StrongOnly e a → ⊥
  backs_unreached a (inl same) r = it.unreached (subst (λ k. Reaches StrongOnly e k) same r)
  backs_unreached a (inr way) r = it.unreached (along_way a way.0 way.1.0 way.1.1 r)

  first_slot : (way : List Place) (q : Place) → LeadsTo e o (q ∷ way) → (s : Slot) × (at e q ≡ Some s)
  first_slot [] q leads = (Strong o, leads)
  first_slot (r ∷ way) q leads = (Strong leads.0.0, leads.0.1)

  owner_alive : (a : ℕ) (q : Place) (s : Slot) → IsFieldOf a q → at e q ≡ Some s → is_alive (get e.objects a) ≡ true
  owner_alive a (Handle h i) s owns here = absurd owns
  owner_alive a (Cell c) s owns here = absurd owns
  owner_alive a (Field p i) s owns here = subst (λ k. is_alive (get e.objects k) ≡ true) owns (field_alive (get e.objects p) i s here)

  way_alive : (a : ℕ) (way : List Place) → BeginsIn (IsFieldOf a) way → LeadsTo e o way → is_alive (get e.objects a) ≡ true
  way_alive a [] begins leads = absurd begins
  way_alive a (q ∷ way) begins leads = let s = first_slot way q leads in owner_alive a q s.0 begins s.1

  pub backs_alive : (a : ℕ) → Backs e o a → is_alive (get e.objects a) ≡ true
  backs_alive a (inl same) = subst (λ k. is_alive (get e.objects k) ≡ true) (sym same) it.alive
  backs_alive a (inr way) = way_alive a way.0 way.1.0 way.1.1

  more_way : (a b i : ℕ) (way : List Place) → at e (Field b i) ≡ Some (Strong a) → BeginsIn (IsFieldOf a) way → LeadsTo e o way → LeadsTo e o (Field b i ∷ way)
  more_way a b i [] here begins leads = absurd begins
  more_way a b i (q ∷ way) here begins leads = ((a, here, begins), leads)

  backs_more : (a b i : ℕ) → Backs e o a → at e (Field b i) ≡ Some (Strong a) → Backs e o b
  backs_more a b i (inl same) here = inr (Field b i ∷ [], (refl, subst (λ k. at e (Field b i) ≡ Some (Strong k)) same here))
  backs_more a b i (inr way) here = inr (Field b i ∷ way.0, (refl, more_way a b i way.0 here way.1.0 way.1.1))

  -- each place that holds one is a field of one
  pub backs_held : (a : ℕ) (p : Place) → Backs e o a → at e p ≡ Some (Strong a) → IsInside (Backs e o) p
  backs_held a (Handle h i) of here = backs_unreached a of (root_reaches e (Handle h i) a tt here)
  backs_held a (Cell c) of here = backs_unreached a of (root_reaches e (Cell c) a tt here)
  backs_held a (Field b i) of here = backs_more a b i of here

  -- Before the last loss it hadn't leaked.
  module _ (m : State) (sound : IsSound m []) (op : Operation) (rest : List Operation) (new : AreNew m (op ∷ rest)) (is : end_from m (op ∷ rest) ≡ e)
      (none : LoseNone (Backs e o) (step m op).state rest) (leaked : IsLeaked m o) where
    held_before : (d k i : ℕ) → Backs e o d → IsLeaked m d → at e (Field k i) ≡ Some (Strong d) → at m (Field k i) ≡ Some (Strong d)
    held_before d k i of there here =
        field_came m sound op d k i new.0 there
        (field_was e (Backs e o) backs_held backs_alive rest (step m op).state (model.soundness.steps m op sound new.0) new.1 is none d k i of here)

    owner_leaked : (a : ℕ) (q : Place) (d : ℕ) → IsFieldOf a q → Backs e o d → IsLeaked m d → at e q ≡ Some (Strong d) → IsLeaked m a
    owner_leaked a (Handle h i) d owns of there here = absurd owns
    owner_leaked a (Cell c) d owns of there here = absurd owns
    owner_leaked a (Field p i) d owns of there here = subst (λ k. IsLeaked m k) owns (holder_leaked m d p i there (held_before d p i of there here))

    back_along : (way : List Place) (a : ℕ) (q : Place) → IsFieldOf a q → LeadsTo e o (q ∷ way) → IsLeaked m a
    back_along [] a q owns leads = owner_leaked a q o owns (inl refl) leaked leads
    back_along (r ∷ way) a q owns leads =
        owner_leaked a q leads.0.0 owns (inr (r ∷ way, (leads.0.2, leads.1))) (back_along way leads.0.0 r leads.0.2 leads.1) leads.0.1

    by_way : (a : ℕ) (way : List Place) → BeginsIn (IsFieldOf a) way → LeadsTo e o way → IsLeaked m a
    by_way a [] begins leads = absurd begins
    by_way a (q ∷ way) begins leads = back_along way a q begins leads

    backer_leaked : (a : ℕ) → Backs e o a → IsLeaked m a
    backer_leaked a (inl same) = subst (λ k. IsLeaked m k) (sym same) leaked
    backer_leaked a (inr way) = by_way a way.0 way.1.0 way.1.1

    -- no leaked object loses a slot
    stays_there : (a : ℕ) (p : Place) → IsLeaked m a → at m p ≡ Some (Strong a) → at (step m op).state p ≡ at m p
    stays_there a (Handle h i) there here = absurd (there.unreached (root_reaches m (Handle h i) a tt here))
    stays_there a (Cell c) there here = absurd (there.unreached (root_reaches m (Cell c) a tt here))
    stays_there a (Field b i) there here = ap (λ (x : Option Entry). field_at x i) (leaked_stays m sound op b new.0 (holder_leaked m a b i there here))

    both_ways : (b : Bool) → b ≡ true → b ≡ false → ⊥
    both_ways b p q = cc

    pub loses_never : (a : ℕ) → Backs e o a → Loses m op a → ⊥
    loses_never a of lost =
        both_ways (is_same (at m lost.0) (at (step m op).state lost.0))
        (is_same_whole (at m lost.0) (at (step m op).state lost.0) (sym (stays_there a lost.0 (backer_leaked a of) lost.1))) lost.2

pub sound_along : (ops : List Operation) (m : State) → IsSound m [] → AreNew m ops → IsSound (end_from m ops) []
sound_along [] m sound new = sound
sound_along (op ∷ ops) m sound new = sound_along ops (step m op).state (model.soundness.steps m op sound new.0) new.1

-- Of a whole trace.
module _ (ops : List Operation) (new : AreNew nothing_held ops) (o : ℕ) (it : IsLeaked (end_from nothing_held ops) o) where
  abbrev End : State
  End = end_from nothing_held ops

  module _ (before : List Operation) (op : Operation) (later : List Operation) (split : ops ≡ before ++ op ∷ later)
      (none : LoseNone (Backs (end_from nothing_held ops) o) (step (end_from nothing_held before) op).state later) where
    abbrev Then : State
    Then = end_from nothing_held before

    split_new : AreNew nothing_held (before ++ op ∷ later)
    split_new = subst (λ l. AreNew nothing_held l) split new

    then_new : AreNew Then (op ∷ later)
    then_new = model.appends.new_rest nothing_held before (op ∷ later) split_new

    then_sound : IsSound Then []
    then_sound = sound_along before nothing_held model.soundness.start (model.appends.new_front nothing_held before (op ∷ later) split_new)

    then_end : end_from Then (op ∷ later) ≡ End
    then_end = sym (ap (λ l. end_from nothing_held l) split ∙ model.appends.end nothing_held before (op ∷ later))

    since : (some more : List Operation) → later ≡ some ++ more → IsLeaked (end_from (step Then op).state some) o
    since some more e =
        ever_leaked End (Backs End o) (backs_held End o it) (backs_alive End o it) some more (step Then op).state
        (model.soundness.steps Then op then_sound then_new.0)
        (subst (λ l. AreNew (step Then op).state l) e then_new.1)
        (subst (λ l. end_from (step Then op).state l ≡ End) e then_end)
        (subst (λ l. LoseNone (Backs End o) (step Then op).state l) e none) o (inl refl)

    pub since_then : (some more : List Operation) → later ≡ some ++ more → IsLeaked (end_from nothing_held (before ++ op ∷ some)) o
    since_then some more e = subst (λ (n : State). IsLeaked n o) (sym (model.appends.end nothing_held before (op ∷ some))) (since some more e)

    pub not_then : (a : ℕ) → Backs End o a → Loses Then op a → IsLeaked Then o → ⊥
    not_then a of lost leaked = loses_never End o it Then then_sound op later then_new then_end none leaked a of lost

  pub leaked_since_loss : (id : ℕ) → IsLastLoss nothing_held ops o id → IsLeakedSince ops o id
  leaked_since_loss id last = record {
    before = last.before;
    op = last.op;
    later = last.later;
    split = last.split;
    number = last.number;
    not_before = not_then last.before last.op last.later last.split last.none_later last.object last.backs last.lost;
    ever_since = since_then last.before last.op last.later last.split last.none_later;
  }

  dead_start : is_alive (get nothing_held.objects o) ≡ true → ⊥
  dead_start alive = let none : is_alive (get nothing_held.objects o) ≡ false = ap is_alive (get-empty nat_cmp o) in cc

  -- some slot was lost
  pub some_lost : LoseNone (Backs (end_from nothing_held ops) o) nothing_held ops → ⊥
  some_lost none = dead_start (was_alive End (Backs End o) (backs_held End o it) (backs_alive End o it) ops nothing_held model.soundness.start new refl none o (inl refl))
