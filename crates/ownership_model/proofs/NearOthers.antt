-- An operation that touches none of the objects that are near is done alike in both states, and leaves these objects as they are.
use Rattle.std.proofs.Common.{◌≡◌, ℕ, ◌+◌, List, [], ◌∷◌, ◌++◌, map, refl, ap, ◌∙◌, sym, subst, arith, Bool, true, false}
use Rattle.std.specs.Prelude.{Option, Some, None, ◌-◌, ◌||◌, ◌&&◌, not, filter, flat_map, option_to_list, slice_get}
use Rattle.std.specs.FinMap.{get}
use Rattle.trace_types.specs.declared.slots.Slot.TheVariants.{Strong, Weak}
use Rattle.trace_types.specs.declared.slots.Entry.{Entry}
use Rattle.trace_types.specs.declared.outcomes.Verdict.TheVariants.{Did}
use Rattle.trace_types.specs.Operation.{Operation}
use Rattle.ownership_model.specs.declared.plan.Plan.{Plan}
use Rattle.ownership_model.specs.declared.plan.Plan.TheVariants.{Skip, Act}
use Rattle.ownership_model.specs.State.{State, strong, weak, holding_weight, entry_weight, names_alike, IsSound}
use Rattle.ownership_model.specs.Scopes.{scope_of}
use Rattle.ownership_model.specs.Release.{release}
use Rattle.ownership_model.specs.Changes.{changed}
use Rattle.ownership_model.specs.View.{members, view_of}
use Rattle.ownership_model.specs.Table.{row, fields_of}
use Rattle.ownership_model.specs.Step.{step, carried_out, counts_of}
use Rattle.ownership_model.specs.declared.key.Key.{Key}
use Rattle.ownership_model.specs.declared.key.Key.TheVariants.{Handle, Cell, Object, Scope}
use Rattle.ownership_model.specs.Alike.{AreWithin, AreAlike, IsKeptOutside, WeightsMoveAlike, ScopesMoveAlike}
use Rattle.ownership_model.specs.Footprint.{item_keys, taken, change_key, member_keys, scope_keys, plan_keys, footprint, moved}
use Rattle.ownership_model.specs.Sets.{set_by}
use Rattle.ownership_model.specs.Near.{is_object_of, recounted_counts, recounted}
use Rattle.ownership_model.proofs.TotalLemmas.{weight_at}
use Rattle.ownership_model.proofs.ScopeMoves.{filter_skip}
use Rattle.ownership_model.proofs.AlikeLemmas.{within_back, have, move_then}
use Rattle.ownership_model.proofs.AlikeSteps.{step_alike}
use Rattle.ownership_model.proofs.OutsideLemmas.{Kept, step_kept, step_sets}
use Rattle.ownership_model.proofs.NearLemmas as near
use Rattle.ownership_model.proofs.NearLemmas.{Frame, Fit, Goes}

-- ---- fewer keys
-- what is alike on a set is alike on each part of it
alike_on_part : (j k : Key → Bool) (m n : State) → ((x : Key) → j x ≡ true → k x ≡ true) → AreAlike k m n → AreAlike j m n
alike_on_part j k m n less a = record {
  handles = λ h c. a.handles h (less (Handle h) c);
  cells = λ e c. a.cells e (less (Cell e) c);
  entries = λ o c. a.entries o (less (Object o) c);
  strongs = λ o c. a.strongs o (less (Object o) c);
  weaks = λ o c. a.weaks o (less (Object o) c);
  scopes = λ t c. a.scopes t (less (Scope t) c);
  within_scopes = λ t.
      sym (filter_skip (λ h. j (Handle h)) (λ h. k (Handle h)) (λ h. less (Handle h)) (scope_of t m.scopes))
      ∙ ap (filter (λ h. j (Handle h))) (a.within_scopes t)
      ∙ filter_skip (λ h. j (Handle h)) (λ h. k (Handle h)) (λ h. less (Handle h)) (scope_of t n.scopes);
}

-- keys of a part are keys of the whole
within_whole : (j k : Key → Bool) → ((x : Key) → j x ≡ true → k x ≡ true) → (keys : List Key) → AreWithin j keys → AreWithin k keys
within_whole j k less [] c = tt
within_whole j k less (x ∷ keys) c = (less x c.0, within_whole j k less keys c.1)

-- both at once
both_true : (b c : Bool) → b ≡ true → c ≡ true → (b && c) ≡ true
both_true true c d e = e
both_true false c d e = d

-- what is touched and no object that is near is alike
must_be_alike : (close touched alike : Bool) → (not close && touched) ≡ true → (touched ≡ true → (alike || close) ≡ true) → alike ≡ true
must_be_alike true touched alike c d = absurd cc
must_be_alike false touched true c d = refl
must_be_alike false touched false c d = d c

module _ (r : Frame) where
  -- what is touched, but for the objects that are near
  abbrev pub others : Key → Bool
  others x = not (is_object_of r.a x) && r.touched x

  -- these are alike
  others_alike : (x : Key) → others x ≡ true → r.k x ≡ true
  others_alike x c = must_be_alike (is_object_of r.a x) (r.touched x) (r.k x) c (r.within x)

  -- an object that is near is none of these
  near_out : (o : ℕ) → r.a o ≡ true → others (Object o) ≡ false
  near_out o c = ap (λ b. not b && r.touched (Object o)) c

  -- keys that are touched and no objects that are near
  pub within_others : (keys : List Key) → AreWithin r.touched keys → AreWithin (λ x. not (is_object_of r.a x)) keys → AreWithin others keys
  within_others [] c d = tt
  within_others (x ∷ keys) c d = (both_true (not (is_object_of r.a x)) (r.touched x) d.0 c.0, within_others keys c.1 d.1)

  -- where nothing else has changed than what is set, the other places weigh what they weighed
  still_kept : (n later : State) → Kept r.set ⊥ n later → near.IsStill r n later
  still_kept n later p w (Handle h) d = ap (weight_at (holding_weight w)) (p.handles h d)
  still_kept n later p w (Cell e) d = ap (weight_at w) (p.cells e d)
  still_kept n later p w (Object o) d = ap (weight_at (entry_weight w)) (p.entries o d)
  still_kept n later p w (Scope t) d = refl

  -- scopes that move alike on these do so on all that is touched, since no handle is an object
  wider_scopes : (m later_m n later_n : State) → ScopesMoveAlike others m.scopes later_m.scopes n.scopes later_n.scopes → ScopesMoveAlike r.touched m.scopes later_m.scopes n.scopes later_n.scopes
  wider_scopes m later_m n later_n s = record { entered = s.entered; stays = s.stays; first = s.first; second = s.second; within = s.within; outside = s.outside }

  -- ---- counts
  -- counts of an object that is alike are told alike
  counts_told : (a b later_a later_b : State) (o : Option ℕ) → AreWithin r.k (map Object (option_to_list o)) → AreAlike r.k later_a later_b → WeightsMoveAlike a later_a b later_b
      → recounted_counts a b (counts_of later_a o) ≡ counts_of later_a o
  counts_told a b later_a later_b None c alike v = refl
  counts_told a b later_a later_b (Some o) c alike v =
      let strongs : strong later_a [] o + strong b [] o - strong a [] o ≡ strong later_a [] o = omega (arith, alike.strongs o c.0, v (names_alike (Strong o))) in
      let weaks : weak later_a [] o + weak b [] o - weak a [] o ≡ weak later_a [] o = omega (arith, alike.weaks o c.0, v (names_alike (Weak o))) in
      λ i. Some (record { object = o; strong = strongs i; weak = weaks i })

  -- so is the outcome of a plan whose keys are alike
  plan_told : (a b m later : State) (id : ℕ) (p : Plan) → AreWithin r.k (plan_keys m p) → AreAlike r.k (carried_out m id p).state later → WeightsMoveAlike a (carried_out m id p).state b later
      → recounted a b (carried_out m id p).outcome ≡ (carried_out m id p).outcome
  plan_told a b m later id (Skip why) c alike v = refl
  plan_told a b m later id (Act said changes event pending object) c alike v =
      let x = release (changed m changes) pending in
      let counts : recounted_counts a b (counts_of x.state object) ≡ counts_of x.state object =
      counts_told a b x.state later object (within_back r.k (flat_map item_keys (taken (changed m changes) pending)) _ (within_back r.k (map change_key changes) _ c)) alike v in
      λ i. record { id = id; verdict = Did said; events = option_to_list event ++ x.events; counts = counts i }

  -- and of an operation
  step_told : (a b m later : State) (op : Operation) → AreWithin r.k (footprint m op) → AreAlike r.k (step m op).state later → WeightsMoveAlike a (step m op).state b later
      → recounted a b (step m op).outcome ≡ (step m op).outcome
  unfolding step footprint
  step_told a b m later op c alike v =
      plan_told a b m later op.id (row op (view_of m op.thread op.kind))
      (within_back r.k (member_keys m (members (scope_of op.thread m.scopes) op.kind)) _ (within_back r.k (scope_keys op.thread op.kind) _ c)) alike v

  -- ---- an operation
  -- both have carried out an operation alike, and touched and moved the same; a and b are the states where both began
  pub record StepsNear (a b m n : State) (op : Operation) : Type 0 where
    pub goes : Goes r m (step m op).state n (step n op).state
    pub outcome : recounted a b (step m op).outcome ≡ (step n op).outcome
    pub keys : footprint m op ≡ footprint n op
    pub moved : moved m op ≡ moved n op

  -- so it is with an operation that touches none of the objects that are near
  pub step_others : (a b m n : State) (op : Operation) → WeightsMoveAlike a m b n → IsSound m [] → IsSound n [] → get m.objects op.id ≡ None → get n.objects op.id ≡ None
      → AreWithin others (footprint m op) → AreWithin r.set (set_by m op) → Fit r m n → StepsNear a b m n op
  step_others a b m n op v sound sound_too new new_too c t f =
      let within : AreWithin r.k (footprint m op) = within_whole others r.k others_alike (footprint m op) c in
      let d = step_alike r.k m n op within f.alike in
      let part = step_alike others m n op c (alike_on_part others r.k m n others_alike f.alike) in
      let first : IsKeptOutside others m (step m op).state = (step_kept others m op sound new c).0 in
      let second : IsKeptOutside others n (step n op).state = (step_kept others n op sound_too new_too (subst (AreWithin others) d.keys c)).0 in
      record {
        goes = record {
          have = have r.k (step m op).state (step n op).state d.steps.alike;
          near = λ o close. near.near_other r (r.loose o) (get m.objects o) _ (get n.objects o) _ (first.entries o (near_out o close)) (second.entries o (near_out o close)) (f.near o close);
          moves = d.steps.moves;
          scopes = wider_scopes m (step m op).state n (step n op).state part.steps.scopes;
          still = still_kept n (step n op).state (step_sets r.set n op sound_too new_too (subst (AreWithin r.set) d.sets t));
          kept = λ o i close l. ap (λ (e : Option Entry). slice_get (fields_of e) i) (second.entries o (near_out o close));
        };
        outcome = step_told a b m (step n op).state op within d.steps.alike (move_then a m (step m op).state b n (step n op).state v d.steps.moves) ∙ d.steps.outcome;
        keys = d.keys;
        moved = d.moved;
      }
