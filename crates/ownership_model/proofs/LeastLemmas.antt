-- A release destroys the least set of objects that has each object that falls with it.
use Rattle.std.proofs.Common.{◌≡◌, ℕ, suc, zero, ◌+◌, ◌<◌, List, [], ◌∷◌, refl, ap, ◌∙◌, sym, subst, arith, Bool, true, false, inl, inr}
use Rattle.std.specs.Prelude.{Option, Some, None, ◌==◌, ◌&&◌, not, if◌then◌else◌}
use Rattle.std.proofs.lemmas.Bool.Decides.{nat_tests}
use Rattle.std.specs.FinMap.{get}
use Rattle.trace_types.specs.declared.slots.Slot.{Slot}
use Rattle.trace_types.specs.declared.slots.Slot.TheVariants.{Nothing, Strong, Weak, Dangling}
use Rattle.trace_types.specs.declared.slots.Entry.{Entry}
use Rattle.trace_types.specs.declared.slots.Entry.TheVariants.{Alive, Husk}
use Rattle.trace_types.specs.declared.slots.Item.{Item}
use Rattle.trace_types.specs.declared.slots.Item.TheVariants as item
use Rattle.ownership_model.specs.Totals.{total}
use Rattle.ownership_model.specs.State.{State, strong, weak, ends, names_alike, holding_weight, entry_weight, IsSound, IsSoundAt, is_alive}
use Rattle.ownership_model.specs.Release.{Released, Fate, Stays, Falls, Goes, fate, fall, left_by, drop_first, release, release_within, work, is_husk}
use Rattle.ownership_model.specs.Cascade.{times_destroyed, times_freed, HuskCourse, Course}
use Rattle.ownership_model.specs.declared.link.Link.TheVariants.{StrongOnly}
use Rattle.ownership_model.specs.Reach.{has, entry_names, field_names}
use Rattle.ownership_model.specs.Falling.{FallsWith, IsClosed, IsLeastClosed, is_destroyed}
use Rattle.ownership_model.proofs.MapLemmas.{get_inserted, get_removed}
use Rattle.ownership_model.proofs.TotalLemmas.{weight_at, total-zero}
use Rattle.ownership_model.proofs.CountLemmas.{at, same_number, is_zero}
use Rattle.ownership_model.proofs.DropLemmas.{decide, all_three, end_husk, self_end, sound-drop_first, sound-release}
use Rattle.ownership_model.proofs.CascadeLemmas.{course, times_destroyed-append}
use Rattle.ownership_model.proofs.NamedLemmas.{none_named, none_counted, named_entry, each_zero, roots_unnamed, unnamed_roots}

-- handles and cells stay as they are
kept_by : (m : State) (xs : List Item) (f : Fate) → ((left_by m xs f).state.handles ≡ m.handles) × ((left_by m xs f).state.cells ≡ m.cells)
kept_by m xs Stays = (refl, refl)
kept_by m xs (Falls o fields) = (refl, refl)
kept_by m xs (Goes o) = (refl, refl)

kept_within : (n : ℕ) (m : State) (p : List Item) → ((release_within n m p).state.handles ≡ m.handles) × ((release_within n m p).state.cells ≡ m.cells)
kept_within n m [] = (refl, refl)
kept_within zero m (x ∷ xs) = (refl, refl)
kept_within (suc n) m (x ∷ xs) =
    let first : ((drop_first m x xs).state.handles ≡ m.handles) × ((drop_first m x xs).state.cells ≡ m.cells) = kept_by m xs (fate m x xs) in
    let later : ((release_within n (drop_first m x xs).state (drop_first m x xs).pending).state.handles ≡ (drop_first m x xs).state.handles) × ((release_within n (drop_first m x xs).state (drop_first m x xs).pending).state.cells ≡ (drop_first m x xs).state.cells) =
    kept_within n (drop_first m x xs).state (drop_first m x xs).pending in
    (later.0 ∙ first.0, later.1 ∙ first.1)

pub kept_roots : (m : State) (p : List Item) → ((release m p).state.handles ≡ m.handles) × ((release m p).state.cells ≡ m.cells)
unfolding release
kept_roots m p = kept_within (work m p) m p

-- and so do scopes
scopes_by : (m : State) (xs : List Item) (f : Fate) → (left_by m xs f).state.scopes ≡ m.scopes
scopes_by m xs Stays = refl
scopes_by m xs (Falls o fields) = refl
scopes_by m xs (Goes o) = refl

scopes_within : (n : ℕ) (m : State) (p : List Item) → (release_within n m p).state.scopes ≡ m.scopes
scopes_within n m [] = refl
scopes_within zero m (x ∷ xs) = refl
scopes_within (suc n) m (x ∷ xs) = scopes_within n (drop_first m x xs).state (drop_first m x xs).pending ∙ scopes_by m xs (fate m x xs)

pub kept_scopes : (m : State) (p : List Item) → (release m p).state.scopes ≡ m.scopes
unfolding release
kept_scopes m p = scopes_within (work m p) m p

-- closed: what stays alive is held by what stays

husk_holds_none : (o g : ℕ) (after : Option Entry) → HuskCourse g after → weight_at (entry_weight (names_alike (Strong o))) after ≡ 0
husk_holds_none o g after (inl p) = subst (λ (x : Option Entry). weight_at (entry_weight (names_alike (Strong o))) x ≡ 0) (sym p.1) refl
husk_holds_none o g after (inr p) = subst (λ (x : Option Entry). weight_at (entry_weight (names_alike (Strong o))) x ≡ 0) (sym p.1) refl

-- where only objects that are destroyed held it, none holds it afterwards
holds_none : (o d g : ℕ) (b after : Option Entry) → Course b d g after → (has o (entry_names StrongOnly b) ≡ true → not (d == 0) ≡ true) → weight_at (entry_weight (names_alike (Strong o))) after ≡ 0
holds_none o d g None after c h = subst (λ (x : Option Entry). weight_at (entry_weight (names_alike (Strong o))) x ≡ 0) (sym c.1.1) refl
holds_none o d g (Some Husk) after c h = husk_holds_none o g after c.1
holds_none o d g (Some (Alive fields)) after (inl c) h =
    subst (λ (x : Option Entry). weight_at (entry_weight (names_alike (Strong o))) x ≡ 0) (sym c.1.1)
    (none_named _ _ (named_entry o (Some (Alive fields))) (unheld (has o (entry_names StrongOnly (Some (Alive fields)))) h))
  where
    unheld : (b : Bool) → (b ≡ true → not (d == 0) ≡ true) → b ≡ false
    unheld true f = absurd (let e : not (d == 0) ≡ true = f refl in grind (arith, nat_tests, e, c.0))
    unheld false f = refl
holds_none o d g (Some (Alive fields)) after (inr c) h = husk_holds_none o g after c.1

-- an object that no slot names strongly is not alive
destroyed_or_named : (d g s w : ℕ) (b after : Option Entry) → is_alive b ≡ true → Course b d g after → IsSoundAt s w 0 after → s ≡ 0 → not (d == 0) ≡ true
destroyed_or_named d g s w None after lives c sound none = absurd cc
destroyed_or_named d g s w (Some Husk) after lives c sound none = absurd cc
destroyed_or_named d g s w (Some (Alive fields)) after lives (inl c) sound none =
    let here : IsSoundAt s w 0 (Some (Alive fields)) = subst (λ (x : Option Entry). IsSoundAt s w 0 x) c.1.1 sound in
    absurd (omega (arith, here.0, none))
destroyed_or_named d g s w (Some (Alive fields)) after lives (inr c) sound none = grind (arith, nat_tests, c.0)

pub destroyed_closed : (m : State) (p : List Item) → IsSound m p → IsClosed m (is_destroyed (release m p).events)
destroyed_closed m p sound o falls =
    let e : State = (release m p).state in
    let roots : (total (holding_weight (names_alike (Strong o))) m.handles ≡ 0) × (total (names_alike (Strong o)) m.cells ≡ 0) = roots_unnamed m o falls.unrooted in
    let handles : total (holding_weight (names_alike (Strong o))) (release m p).state.handles ≡ 0 = ap (total (holding_weight (names_alike (Strong o)))) (kept_roots m p).0 ∙ roots.0 in
    let cells : total (names_alike (Strong o)) (release m p).state.cells ≡ 0 = ap (total (names_alike (Strong o))) (kept_roots m p).1 ∙ roots.1 in
    let objects : total (entry_weight (names_alike (Strong o))) (release m p).state.objects ≡ 0 =
    total-zero (entry_weight (names_alike (Strong o))) (release m p).state.objects
    (λ q. holds_none o (times_destroyed q (release m p).events) (times_freed q (release m p).events) (get m.objects q) (get (release m p).state.objects q) (course m p q sound) (falls.held q)) in
    destroyed_or_named (times_destroyed o (release m p).events) (times_freed o (release m p).events) (strong (release m p).state [] o) (weak (release m p).state [] o)
    (get m.objects o) (get (release m p).state.objects o) falls.alive (course m p o sound) ((sound-release m p sound).counts o) (omega (arith, handles, cells, objects))

-- least: what is destroyed is in every closed set, which stays closed

back_alive : (b : Bool) (x e : Option Entry) → is_alive x ≡ false → is_alive (if b then x else e) ≡ true → is_alive e ≡ true
back_alive true x e dead h = absurd (grind (arith, dead, h))
back_alive false x e dead h = h

back_held : (P : Type 0) (o : ℕ) (b : Bool) (x e : Option Entry) → (b ≡ true → has o (entry_names StrongOnly e) ≡ true → P) → (has o (entry_names StrongOnly (if b then x else e)) ≡ true → P) → has o (entry_names StrongOnly e) ≡ true → P
back_held P o true x e f g h = f refl h
back_held P o false x e f g h = g h

husk_names_none : (o : ℕ) (e : Option Entry) → is_husk e ≡ true → has o (entry_names StrongOnly e) ≡ true → ⊥
husk_names_none o None husk h = absurd cc
husk_names_none o (Some (Alive fields)) husk h = absurd cc
husk_names_none o (Some Husk) husk h = absurd cc

module _ (k : ℕ → Bool) (m : State) (xs : List Item) where
  -- what one item destroys is in the set, and the set stays closed
  pub record IsLed (f : Fate) : Type 0 where
    pub into : (o : ℕ) → 0 < times_destroyed o (left_by m xs f).events → k o ≡ true
    pub next : IsClosed (left_by m xs f).state k

  led_stays : IsClosed m k → IsLed Stays
  led_stays c = record { into = λ o h. absurd (omega (arith, h)); next = c }

  led_goes : (p : ℕ) → is_husk (get m.objects p) ≡ true → IsClosed m k → IsLed (Goes p)
  led_goes p husk c = record {
    into = λ o h. absurd (omega (arith, h));
    next = λ o f. c o (record {
      alive = back_alive (p == o) None (get m.objects o) refl (subst (λ (x : Option Entry). is_alive x ≡ true) (get_removed m.objects p o) f.alive);
      unrooted = f.unrooted;
      held = λ q. back_held (k q ≡ true) o (p == q) None (get m.objects q)
          (λ t h. absurd (husk_names_none o (get m.objects q) (subst (λ x. is_husk (get m.objects x) ≡ true) (same_number p q t) husk) h))
          (λ h. f.held q (subst (λ (x : Option Entry). has o (entry_names StrongOnly x) ≡ true) (sym (get_removed m.objects p q)) h));
    });
  }

  -- nothing that stands names an object whose strong count is 0
  unheld : (p q : ℕ) → strong m xs p ≡ 0 → has p (field_names StrongOnly m q) ≡ false
  unheld p q none = none_counted _ _ (named_entry p (get m.objects q)) (each_zero (entry_weight (names_alike (Strong p))) m.objects (omega (arith, none)) q)

  falls_alone : (p : ℕ) (fields : List Slot) → get m.objects p ≡ Some (Alive fields) → strong m xs p ≡ 0 → FallsWith m k p
  falls_alone p fields is none = record {
    alive = ap is_alive is;
    unrooted = unnamed_roots m p (omega (arith, none)) (omega (arith, none));
    held = λ q h. absurd (grind (arith, h, unheld p q none));
  }

  led_falls : (p : ℕ) (e : Option Entry) → get m.objects p ≡ e → strong m xs p ≡ 0 → IsClosed m k → IsLed (fall p e)
  led_falls p None is none c = led_stays c
  led_falls p (Some Husk) is none c = led_stays c
  led_falls p (Some (Alive fields)) is none c =
      let here : k p ≡ true = c p (falls_alone p fields is none) in
      record {
        into = λ o h. in_set o here (p == o) refl h;
        next = λ o f. c o (record {
          alive = back_alive (p == o) (Some Husk) (get m.objects o) refl (subst (λ (x : Option Entry). is_alive x ≡ true) (get_inserted m.objects p Husk o) f.alive);
          unrooted = f.unrooted;
          held = λ q. back_held (k q ≡ true) o (p == q) (Some Husk) (get m.objects q)
              (λ t h. subst (λ x. k x ≡ true) (same_number p q t) here)
              (λ h. f.held q (subst (λ (x : Option Entry). has o (entry_names StrongOnly x) ≡ true) (sym (get_inserted m.objects p Husk q)) h));
        });
      }
    where
      in_set : (o : ℕ) → k p ≡ true → (b : Bool) → (p == o) ≡ b → 0 < (if b then 1 else 0) + 0 → k o ≡ true
      in_set o here true t h = subst (λ x. k x ≡ true) (same_number p o t) here
      in_set o here false t h = absurd (omega (arith, h))

  led : (x : Item) → IsSound m (x ∷ xs) → IsClosed m k → IsLed (fate m x xs)
  led (item.Slot Nothing) h c = led_stays c
  led (item.Slot Dangling) h c = led_stays c
  led (item.Slot (Strong p)) h c = decide IsLed (strong m xs p == 0) (fall p (get m.objects p)) Stays (λ t. led_falls p (get m.objects p) refl (is_zero (strong m xs p) t) c) (λ _. led_stays c)
  led (item.Slot (Weak p)) h c = decide IsLed (weak m xs p == 0 && (is_husk (get m.objects p) && (ends p xs == 0))) (Goes p) Stays
      (λ t. led_goes p (all_three m xs (weak m xs p) (ends p xs) (is_husk (get m.objects p)) t).1 c) (λ _. led_stays c)
  led (item.End p) h c = decide IsLed (weak m xs p == 0) (Goes p) Stays
      (λ _. led_goes p (end_husk m xs (strong m xs p) (weak m xs p) (ends p xs) (get m.objects p)
      (at _ _ _ (strong m xs p) (weak m xs p) ((if p == p then 1 else 0) + ends p xs) _ (get m.objects p) refl refl (self_end m xs p (ends p xs)) refl (h.counts p))) c) (λ _. led_stays c)

in_either : (P : Type 0) (a b : ℕ) → 0 < a + b → (0 < a → P) → (0 < b → P) → P
in_either P zero b h f g = g (omega (arith, h))
in_either P (suc a) b h f g = f (omega arith)

least_within : (k : ℕ → Bool) (n : ℕ) (m : State) (p : List Item) → IsSound m p → IsClosed m k → (o : ℕ) → 0 < times_destroyed o (release_within n m p).events → k o ≡ true
least_within k n m [] sound c o h = absurd (omega (arith, h))
least_within k zero m (x ∷ xs) sound c o h = absurd (omega (arith, h))
least_within k (suc n) m (x ∷ xs) sound c o h =
    let r : Released = release_within n (drop_first m x xs).state (drop_first m x xs).pending in
    let one : IsLed k m xs (fate m x xs) = led k m xs x sound c in
    in_either (k o ≡ true) (times_destroyed o (drop_first m x xs).events) (times_destroyed o r.events) (subst (λ i. 0 < i) (times_destroyed-append o (drop_first m x xs).events r.events) h)
    (one.into o) (least_within k n (drop_first m x xs).state (drop_first m x xs).pending (sound-drop_first m x xs sound) one.next o)

pub destroyed_least : (k : ℕ → Bool) (m : State) (p : List Item) → IsSound m p → IsClosed m k → (o : ℕ) → 0 < times_destroyed o (release m p).events → k o ≡ true
unfolding release
destroyed_least k m p sound c o h = least_within k (work m p) m p sound c o h

some_times : (n : ℕ) → not (n == 0) ≡ true → 0 < n
some_times n h = grind (arith, nat_tests)

pub destroyed : (m : State) (p : List Item) → IsSound m p → IsLeastClosed m (is_destroyed (release m p).events)
destroyed m p sound = record {
  closed = destroyed_closed m p sound;
  least = λ k c o h. destroyed_least k m p sound c o (some_times (times_destroyed o (release m p).events) h);
}
