-- Two states that are alike on a set of keys stay so, whatever is dropped that names objects of the set alone.
use Rattle.std.proofs.Common.{◌≡◌, ℕ, suc, zero, ◌+◌, ◌≤◌, List, [], ◌∷◌, ◌++◌, refl, ap, ◌∙◌, sym, subst, arith, Bool, true}
use Rattle.std.specs.Prelude.{Option, Some, None, ◌==◌, ◌&&◌, if◌then◌else◌, filter, flat_map, length}
use Rattle.std.specs.FinMap.{get, insert, remove}
use Rattle.trace_types.specs.declared.slots.Slot.{Slot}
use Rattle.trace_types.specs.declared.slots.Slot.TheVariants.{Nothing, Strong, Weak, Dangling}
use Rattle.trace_types.specs.declared.slots.Entry.{Entry}
use Rattle.trace_types.specs.declared.slots.Entry.TheVariants.{Alive, Husk}
use Rattle.trace_types.specs.declared.slots.Item.{Item}
use Rattle.trace_types.specs.declared.slots.Item.TheVariants as item
use Rattle.ownership_model.specs.Totals.{total}
use Rattle.ownership_model.specs.Scopes.{scope_of}
use Rattle.ownership_model.specs.State.{State, strong, weak, ends, weight, entry_weight, names_alike}
use Rattle.ownership_model.specs.Release.{Dropped, Released, Fate, Stays, Falls, Goes, fate, fall, left_by, drop_first, release_within, release, work, alive_size, is_husk}
use Rattle.ownership_model.specs.declared.key.Key.{Key}
use Rattle.ownership_model.specs.declared.key.Key.TheVariants.{Handle, Cell, Object, Scope}
use Rattle.ownership_model.specs.Alike.{AreWithin, AreAlike, WeightsMoveAlike}
use Rattle.ownership_model.specs.Footprint.{item_keys, taken_within, taken}
use Rattle.ownership_model.proofs.TotalLemmas.{weight_at, total-insert, total-remove}
use Rattle.ownership_model.proofs.MapLemmas.{get_inserted, get_removed}
use Rattle.ownership_model.proofs.ReleaseLemmas.{either, release-enough, work_drops}

-- ---- keys
-- what a set has of two lists together it has of each
pub within_front : (k : Key → Bool) (a b : List Key) → AreWithin k (a ++ b) → AreWithin k a
within_front k [] b c = tt
within_front k (x ∷ a) b c = (c.0, within_front k a b c.1)

pub within_back : (k : Key → Bool) (a b : List Key) → AreWithin k (a ++ b) → AreWithin k b
within_back k [] b c = c
within_back k (x ∷ a) b c = within_back k a b c.1

-- ---- how weights move
-- where nothing changed, weights moved alike
pub move_none : (m n : State) → WeightsMoveAlike m m n n
move_none m n = λ w. omega arith

-- two moves alike in turn are one
pub move_then : (a b c x y z : State) → WeightsMoveAlike a b x y → WeightsMoveAlike b c y z → WeightsMoveAlike a c x z
move_then a b c x y z p q = λ w. omega (arith, p w, q w)

-- an entry that stood alike, or not at all, is set to the same: the weights move alike
pub move_put : (m n : State) (o : ℕ) (e : Entry) → get m.objects o ≡ get n.objects o → WeightsMoveAlike m (record m { objects = insert m.objects o e }) n (record n { objects = insert n.objects o e })
move_put m n o e same = λ w.
    let at : weight_at (entry_weight w) (get m.objects o) ≡ weight_at (entry_weight w) (get n.objects o) = ap (weight_at (entry_weight w)) same in
    omega (arith, at, total-insert (entry_weight w) m.objects o e, total-insert (entry_weight w) n.objects o e)

-- an entry that stood alike is gone: the weights move alike
pub move_cut : (m n : State) (o : ℕ) → get m.objects o ≡ get n.objects o → WeightsMoveAlike m (record m { objects = remove m.objects o }) n (record n { objects = remove n.objects o })
move_cut m n o same = λ w.
    let at : weight_at (entry_weight w) (get m.objects o) ≡ weight_at (entry_weight w) (get n.objects o) = ap (weight_at (entry_weight w)) same in
    omega (arith, at, total-remove (entry_weight w) m.objects o, total-remove (entry_weight w) n.objects o)

module _ (k : Key → Bool) where
  -- alike, but for the counts
  pub record HaveAlike (m n : State) : Type 0 where
    pub handles : (h : ℕ) → k (Handle h) ≡ true → get m.handles h ≡ get n.handles h
    pub cells : (c : ℕ) → k (Cell c) ≡ true → get m.cells c ≡ get n.cells c
    pub entries : (o : ℕ) → k (Object o) ≡ true → get m.objects o ≡ get n.objects o
    pub scopes : (t : ℕ) → k (Scope t) ≡ true → scope_of t m.scopes ≡ scope_of t n.scopes
    pub within_scopes : (t : ℕ) → filter (λ h. k (Handle h)) (scope_of t m.scopes) ≡ filter (λ h. k (Handle h)) (scope_of t n.scopes)

  -- what is alike has what stands there alike
  pub have : (m n : State) → AreAlike k m n → HaveAlike m n
  have m n a = record { handles = a.handles; cells = a.cells; entries = a.entries; scopes = a.scopes; within_scopes = a.within_scopes }

  -- where the weights have moved alike, the counts are equal again
  pub alike_after : (m later_m n later_n : State) → AreAlike k m n → HaveAlike later_m later_n → WeightsMoveAlike m later_m n later_n → AreAlike k later_m later_n
  alike_after m later_m n later_n a h v = record {
    handles = h.handles;
    cells = h.cells;
    entries = h.entries;
    strongs = λ o c. omega (arith, a.strongs o c, v (names_alike (Strong o)));
    weaks = λ o c. omega (arith, a.weaks o c, v (names_alike (Weak o)));
    scopes = h.scopes;
    within_scopes = h.within_scopes;
  }

  -- the same is set at one object in both
  pub have_put : (m n : State) (o : ℕ) (e : Entry) → HaveAlike m n → HaveAlike (record m { objects = insert m.objects o e }) (record n { objects = insert n.objects o e })
  have_put m n o e h = record {
    handles = h.handles;
    cells = h.cells;
    entries = λ x c. get_inserted m.objects o e x ∙ ap (λ y. if o == x then Some e else y) (h.entries x c) ∙ sym (get_inserted n.objects o e x);
    scopes = h.scopes;
    within_scopes = h.within_scopes;
  }

  -- one object is gone from both
  pub have_cut : (m n : State) (o : ℕ) → HaveAlike m n → HaveAlike (record m { objects = remove m.objects o }) (record n { objects = remove n.objects o })
  have_cut m n o h = record {
    handles = h.handles;
    cells = h.cells;
    entries = λ x c. get_removed m.objects o x ∙ ap (λ y. if o == x then None else y) (h.entries x c) ∙ sym (get_removed n.objects o x);
    scopes = h.scopes;
    within_scopes = h.within_scopes;
  }

  -- ---- dropping one item
  -- what is pending counts the same in both
  same_count : (m n : State) (s : Slot) (p : List Item) → weight (names_alike s) m [] ≡ weight (names_alike s) n [] → weight (names_alike s) m p ≡ weight (names_alike s) n p
  same_count m n s p e = omega (arith, e)

  -- an item whose object is alike brings about the same in both
  pub same_fate : (m n : State) (x : Item) (rest : List Item) → AreAlike k m n → AreWithin k (item_keys x) → fate m x rest ≡ fate n x rest
  same_fate m n (item.Slot Nothing) rest a c = refl
  same_fate m n (item.Slot Dangling) rest a c = refl
  same_fate m n (item.Slot (Strong o)) rest a c = λ i. if same_count m n (Strong o) rest (a.strongs o c.0) i == 0 then fall o (a.entries o c.0 i) else Stays
  same_fate m n (item.Slot (Weak o)) rest a c = λ i. if same_count m n (Weak o) rest (a.weaks o c.0) i == 0 && (is_husk (a.entries o c.0 i) && (ends o rest == 0)) then Goes o else Stays
  same_fate m n (item.End o) rest a c = λ i. if same_count m n (Weak o) rest (a.weaks o c.0) i == 0 then Goes o else Stays

  -- what it brings about is of an object of the set
  abbrev pub IsOf : Fate → Type 0
  IsOf Stays = Unit {0}
  IsOf (Falls o fields) = k (Object o) ≡ true
  IsOf (Goes o) = k (Object o) ≡ true

  -- what falls is the object whose last Arc is dropped
  fall_of : (o : ℕ) (e : Option Entry) → k (Object o) ≡ true → IsOf (fall o e)
  fall_of o None c = tt
  fall_of o (Some Husk) c = tt
  fall_of o (Some (Alive fields)) c = c

  -- what an item brings about is of the object that it names
  pub fate_of : (m : State) (x : Item) (rest : List Item) → AreWithin k (item_keys x) → IsOf (fate m x rest)
  fate_of m (item.Slot Nothing) rest c = tt
  fate_of m (item.Slot Dangling) rest c = tt
  fate_of m (item.Slot (Strong o)) rest c = either IsOf (strong m rest o == 0) (fall o (get m.objects o)) Stays (fall_of o (get m.objects o) c.0) tt
  fate_of m (item.Slot (Weak o)) rest c = either IsOf (weak m rest o == 0 && (is_husk (get m.objects o) && (ends o rest == 0))) (Goes o) Stays c.0 tt
  fate_of m (item.End o) rest c = either IsOf (weak m rest o == 0) (Goes o) Stays c.0 tt

  -- both have dropped an item alike
  record Met (m n : State) (a b : Dropped) : Type 0 where
    pub have : HaveAlike a.state b.state
    pub moves : WeightsMoveAlike m a.state n b.state
    pub events : a.events ≡ b.events
    pub pending : a.pending ≡ b.pending

  -- what an item brings about is done to both alike
  meet : (m n : State) (p : List Item) (f : Fate) → IsOf f → HaveAlike m n → Met m n (left_by m p f) (left_by n p f)
  meet m n p Stays c h = record { have = h; moves = move_none m n; events = refl; pending = refl }
  meet m n p (Falls o fields) c h = record { have = have_put m n o Husk h; moves = move_put m n o Husk (h.entries o c); events = refl; pending = refl }
  meet m n p (Goes o) c h = record { have = have_cut m n o h; moves = move_cut m n o (h.entries o c); events = refl; pending = refl }

  -- one item is dropped alike in both
  drop_alike : (m n : State) (x : Item) (p : List Item) → AreWithin k (item_keys x) → AreAlike k m n → Met m n (drop_first m x p) (drop_first n x p)
  drop_alike m n x p c a = subst (λ (f : Fate). Met m n (drop_first m x p) (left_by n p f)) (same_fate m n x p a c) (meet m n p (fate m x p) (fate_of m x p c) (have m n a))

  -- ---- a cascade
  -- both cascades have dropped the same, and leave what is alike
  pub record SameEnd (m n : State) (a b : Released) (s t : List Item) : Type 0 where
    pub alike : AreAlike k a.state b.state
    pub moves : WeightsMoveAlike m a.state n b.state
    pub events : a.events ≡ b.events
    pub taken : s ≡ t

  -- with any fuel
  within_alike : (f : ℕ) (m n : State) (p : List Item) → AreWithin k (flat_map item_keys (taken_within f m p)) → AreAlike k m n
      → SameEnd m n (release_within f m p) (release_within f n p) (taken_within f m p) (taken_within f n p)
  within_alike f m n [] c a = record { alike = a; moves = move_none m n; events = refl; taken = refl }
  within_alike zero m n (x ∷ p) c a = record { alike = a; moves = move_none m n; events = refl; taken = refl }
  within_alike (suc f) m n (x ∷ p) c a =
      let d = drop_first m x p in
      let e = drop_first n x p in
      let met : Met m n d e = drop_alike m n x p (within_front k (item_keys x) _ c) a in
      let next : AreAlike k d.state e.state = alike_after m d.state n e.state a met.have met.moves in
      let rest = within_alike f d.state e.state d.pending (within_back k (item_keys x) _ c) next in
      let r : SameEnd d.state e.state (release_within f d.state d.pending) (release_within f e.state e.pending) (taken_within f d.state d.pending) (taken_within f e.state e.pending) =
      subst (λ (q : List Item). SameEnd d.state e.state (release_within f d.state d.pending) (release_within f e.state q) (taken_within f d.state d.pending) (taken_within f e.state q)) met.pending rest in
      record {
        alike = r.alike;
        moves = move_then m d.state (release_within f d.state d.pending).state n e.state (release_within f e.state e.pending).state met.moves r.moves;
        events = λ i. met.events i ++ r.events i;
        taken = ap (λ xs. x ∷ xs) r.taken;
      }

-- more fuel than is needed takes no more items
same_taken : (n j : ℕ) (m : State) (p : List Item) → work m p ≤ n → work m p ≤ j → taken_within n m p ≡ taken_within j m p
same_taken n j m [] g h = refl
same_taken zero j m (x ∷ xs) g h = absurd (omega arith)
same_taken (suc n) zero m (x ∷ xs) g h = absurd (omega arith)
same_taken (suc n) (suc j) m (x ∷ xs) g h =
    ap (λ ys. x ∷ ys) (same_taken n j (drop_first m x xs).state (drop_first m x xs).pending (omega (arith, work_drops m x xs)) (omega (arith, work_drops m x xs)))

-- any fuel that is enough takes all
pub taken-enough : (n : ℕ) (m : State) (p : List Item) → work m p ≤ n → taken m p ≡ taken_within n m p
unfolding taken
taken-enough n m p g = same_taken (work m p) n m p (omega arith) g

-- where nothing is pending nothing is taken
pub taken-nil : (m : State) → taken m [] ≡ []
unfolding taken
taken-nil m = refl

-- the first item is taken, and then what it leaves pending is
pub taken-cons : (m : State) (x : Item) (xs : List Item) → taken m (x ∷ xs) ≡ x ∷ taken (drop_first m x xs).state (drop_first m x xs).pending
taken-cons m x xs =
    let left : ℕ = total alive_size m.objects + length xs in
    taken-enough (suc left) m (x ∷ xs) (omega arith) ∙ ap (λ ys. x ∷ ys) (sym (taken-enough left (drop_first m x xs).state (drop_first m x xs).pending (work_drops m x xs)))

-- two states that are alike on all that a cascade names release alike
pub release_alike : (k : Key → Bool) (m n : State) (p : List Item) → AreWithin k (flat_map item_keys (taken m p)) → AreAlike k m n → SameEnd k m n (release m p) (release n p) (taken m p) (taken n p)
release_alike k m n p c a =
    let f : ℕ = work m p + work n p in
    let e : taken m p ≡ taken_within f m p = taken-enough f m p (omega arith) in
    let g : taken n p ≡ taken_within f n p = taken-enough f n p (omega arith) in
    let r : release m p ≡ release_within f m p = release-enough f m p (omega arith) in
    let q : release n p ≡ release_within f n p = release-enough f n p (omega arith) in
    let w = within_alike k f m n p (subst (λ (xs : List Item). AreWithin k (flat_map item_keys xs)) e c) a in
    subst (λ (x : Released). SameEnd k m n x (release n p) (taken m p) (taken n p)) (sym r)
    (subst (λ (x : Released). SameEnd k m n (release_within f m p) x (taken m p) (taken n p)) (sym q)
    (subst (λ (xs : List Item). SameEnd k m n (release_within f m p) (release_within f n p) xs (taken n p)) (sym e)
    (subst (λ (xs : List Item). SameEnd k m n (release_within f m p) (release_within f n p) (taken_within f m p) xs) (sym g) w)))
