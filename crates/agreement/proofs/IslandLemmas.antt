-- Two heaps that differ at an island alone: its objects are their remains.
use Rattle.std.proofs.Common.{◌≡◌, ℕ, ◌+◌, List, [], ◌∷◌, refl, ap, ◌∙◌, sym, subst, arith, Bool, true, false}
use Rattle.std.specs.Prelude.{◌==◌, ◌||◌, not, Option, Some, None, if◌then◌else◌}
use Rattle.std.proofs.lemmas.Bool.Decides.{nat_tests}
use Rattle.std.specs.Cmp.{nat_cmp_total}
use Rattle.std.specs.Ordering.{nat_cmp}
use Rattle.std.specs.FinMap.{FinMap, get, remove, same_map, nat_cmp-IsAntisymmetric}
use Rattle.std.specs.List.{list_any}
use Rattle.trace_types.specs.declared.slots.Slot.{Slot}
use Rattle.trace_types.specs.declared.slots.Slot.TheVariants.{Nothing, Strong, Weak, Dangling}
use Rattle.trace_types.specs.declared.slots.Entry.{Entry}
use Rattle.trace_types.specs.declared.slots.Entry.TheVariants.{Alive, Husk}
use Rattle.ownership_model.specs.Totals.{total}
use Rattle.ownership_model.specs.State.{State, IsSound, weight, names_alike, slots_weight, entry_weight, holding_weight}
use Rattle.ownership_model.specs.declared.link.Link.TheVariants.{StrongOrWeak}
use Rattle.ownership_model.specs.Reach.{IsClosed, Reaches, Reaches.by_root, Reaches.by_field, has, named, slots_names, entry_names, field_names}
use Rattle.ownership_model.specs.Agrees.{HaveSameRoots, Agrees}
use Rattle.ownership_model.specs.Touched.{AgreeOutside}
use Rattle.ownership_model.specs.Patch.{Remains, IsRemains}
use Rattle.ownership_model.proofs.LawsHold.{agreement, reach}
use Rattle.ownership_model.proofs.Counting.{get_removed, weight_at, total-remove, same_number}
use Rattle.ownership_model.proofs.Searching.{has-append, either}
use Rattle.agreement.specs.Agreement.{Agree}
use Rattle.agreement.specs.Gathering.{AgreeAt}
use Rattle.agreement.specs.Joining.{IsJoined}
use Rattle.agreement.specs.Meeting.{AgreeBut}
use Rattle.agreement.proofs.GatheringLemmas.{neither_left, neither_right}
use Rattle.agreement.proofs.MeetingLemmas.{agree_but}

-- a map without some numbers
without : {X : Type 0} → List ℕ → FinMap nat_cmp X → FinMap nat_cmp X
without [] m = m
without (p ∷ ps) m = without ps (remove m p)

cut_twice : {X : Type 0} (a b : Bool) (x : Option X) → (if a then None else (if b then None else x)) ≡ (if b || a then None else x)
cut_twice true true x = refl
cut_twice true false x = refl
cut_twice false true x = refl
cut_twice false false x = refl

get-without : {X : Type 0} (ps : List ℕ) (m : FinMap nat_cmp X) (q : ℕ) → get (without ps m) q ≡ (if has q ps then None else get m q)
unfolding without
get-without [] m q = refl
get-without (p ∷ ps) m q = get-without ps (remove m p) q ∙ ap (λ x. if has q ps then None else x) (get_removed m p q) ∙ cut_twice (has q ps) (p == q) (get m q)

cut_same : {X : Type 0} (b : Bool) (x y : Option X) → (b ≡ false → x ≡ y) → (if b then None else x) ≡ (if b then None else y)
cut_same true x y h = refl
cut_same false x y h = h refl

-- maps that differ at these numbers alone are one without them
same_without : {X : Type 0} (ps : List ℕ) (m n : FinMap nat_cmp X) → ((q : ℕ) → has q ps ≡ false → get m q ≡ get n q) → without ps m ≡ without ps n
same_without ps m n outside =
    same_map nat_cmp_total nat_cmp-IsAntisymmetric (without ps m) (without ps n) (λ q.
    get-without ps m q ∙ cut_same (has q ps) (get m q) (get n q) (outside q) ∙ sym (get-without ps n q))

cut_weight : {X : Type 0} (w : X → ℕ) (b : Bool) (x : Option X) → weight_at w x ≡ 0 → weight_at w (if b then None else x) ≡ 0
cut_weight w true x h = refl
cut_weight w false x h = h

later_too : (p : ℕ) (ps : List ℕ) (q : ℕ) → has q ps ≡ true → has q (p ∷ ps) ≡ true
later_too p ps q h = grind (arith, nat_tests, h)

-- what weighs nothing may go
total-without : {X : Type 0} (w : X → ℕ) (ps : List ℕ) (m : FinMap nat_cmp X) → ((q : ℕ) → has q ps ≡ true → weight_at w (get m q) ≡ 0) → total w (without ps m) ≡ total w m
unfolding without
total-without w [] m zero = refl
total-without w (p ∷ ps) m zero =
    let here : weight_at w (get m p) ≡ 0 = zero p (grind (arith, nat_tests)) in
    let one : total w (remove m p) + weight_at w (get m p) ≡ total w m = total-remove w m p in
    let rest : total w (without ps (remove m p)) ≡ total w (remove m p) = total-without w ps (remove m p) (λ q h.
    ap (weight_at w) (get_removed m p q) ∙ cut_weight w (p == q) (get m q) (zero q (later_too p ps q h))) in
    omega (arith, here, one, rest)

-- a slot that doesn't name the object has no weight for its counts
slots_unnamed : (w : Slot → ℕ) (q : ℕ) → ((s : Slot) → has q (named StrongOrWeak s) ≡ false → w s ≡ 0) → (ss : List Slot) → has q (slots_names StrongOrWeak ss) ≡ false → slots_weight w ss ≡ 0
slots_unnamed w q zero [] n = refl
slots_unnamed w q zero (s ∷ ss) n =
    let apart : (has q (named StrongOrWeak s) || has q (slots_names StrongOrWeak ss)) ≡ false = sym (has-append q (named StrongOrWeak s) (slots_names StrongOrWeak ss)) ∙ n in
    let here : w s ≡ 0 = zero s (neither_left (has q (named StrongOrWeak s)) (has q (slots_names StrongOrWeak ss)) apart) in
    let rest : slots_weight w ss ≡ 0 = slots_unnamed w q zero ss (neither_right (has q (named StrongOrWeak s)) (has q (slots_names StrongOrWeak ss)) apart) in
    omega (arith, here, rest)

entry_unnamed : (w : Slot → ℕ) (q : ℕ) → ((s : Slot) → has q (named StrongOrWeak s) ≡ false → w s ≡ 0) → (e : Option Entry) → has q (entry_names StrongOrWeak e) ≡ false → weight_at (entry_weight w) e ≡ 0
entry_unnamed w q zero None n = refl
entry_unnamed w q zero (Some (Alive fields)) n = slots_unnamed w q zero fields n
entry_unnamed w q zero (Some Husk) n = refl

strong_unnamed : (q : ℕ) (s : Slot) → has q (named StrongOrWeak s) ≡ false → names_alike (Strong q) s ≡ 0
strong_unnamed q Nothing n = refl
strong_unnamed q (Strong p) n = grind (arith, nat_tests, n)
strong_unnamed q (Weak p) n = refl
strong_unnamed q Dangling n = refl

weak_unnamed : (q : ℕ) (s : Slot) → has q (named StrongOrWeak s) ≡ false → names_alike (Weak q) s ≡ 0
weak_unnamed q Nothing n = refl
weak_unnamed q (Strong p) n = refl
weak_unnamed q (Weak p) n = grind (arith, nat_tests, n)
weak_unnamed q Dangling n = refl

-- whether any listed number passes a test
some_of : (P : Type 0) (f : ℕ → Bool) (ps : List ℕ) → list_any f ps ≡ true → ((p : ℕ) → has p ps ≡ true → f p ≡ true → P) → P
some_of P f [] h g = absurd cc
some_of P f (p ∷ ps) h g = either P (f p) (list_any f ps) h (λ t. g p (grind (arith, nat_tests)) t) (λ t. some_of P f ps t (λ q m. g q (later_too p ps q m)))

none_of : (f : ℕ → Bool) (ps : List ℕ) → list_any f ps ≡ false → (p : ℕ) → has p ps ≡ true → f p ≡ false
none_of f [] h p m = absurd cc
none_of f (o ∷ ps) h p m =
    either (f p ≡ false) (o == p) (has p ps) m (λ t. subst (λ q. f q ≡ false) (same_number o p t) (neither_left (f o) (list_any f ps) h)) (none_of f ps (neither_right (f o) (list_any f ps) h) p)

outside_of : (b : Bool) → not b ≡ true → b ≡ false
outside_of true h = absurd cc
outside_of false h = refl

-- what is reached lies in each closed set
pub reached_in : (m : State) (k : ℕ → Bool) → IsClosed StrongOrWeak m k → (o : ℕ) → Reaches StrongOrWeak m o → k o ≡ true
reached_in m k closed o (by_root _ h) = closed.roots o h
reached_in m k closed o (by_field p _ r h) = closed.fields p o (reached_in m k closed p r) h

-- xs are the suspects, and ds these with all that differs with them
module _ (new old : State) (xs ds : List ℕ) (roots : HaveSameRoots new old) (same : AgreeOutside xs new old) (joined : IsJoined new old xs ds) where
  entries_same : (q : ℕ) → has q ds ≡ false → get new.objects q ≡ get old.objects q
  entries_same q n = same q (elim (has q xs) as (λ b. has q xs ≡ b → b ≡ false) [ true ↦ λ h. sym (joined.all q h) ∙ n | false ↦ λ h. refl ] refl)

  weight_same : (w : Slot → ℕ) → ((p : ℕ) → has p ds ≡ true → weight_at (entry_weight w) (get new.objects p) ≡ 0) → ((p : ℕ) → has p ds ≡ true → weight_at (entry_weight w) (get old.objects p) ≡ 0)
      → weight w new [] ≡ weight w old []
  weight_same w in_new in_old =
      let objects : total (entry_weight w) new.objects ≡ total (entry_weight w) old.objects =
      sym (total-without (entry_weight w) ds new.objects in_new) ∙ ap (total (entry_weight w)) (same_without ds new.objects old.objects entries_same) ∙ total-without (entry_weight w) ds old.objects in_old in
      λ i. ((total (holding_weight w) (roots.handles i) + total w (roots.cells i)) + objects i) + 0

  -- an object that none of them names has the same counts in both
  at_unnamed : (q : ℕ) → has q ds ≡ false → ((p : ℕ) → has p ds ≡ true → (has q (field_names StrongOrWeak new p) || has q (field_names StrongOrWeak old p)) ≡ false) → AgreeAt new old q
  at_unnamed q n none =
      let in_new : (p : ℕ) → has p ds ≡ true → has q (field_names StrongOrWeak new p) ≡ false = λ p m. neither_left (has q (field_names StrongOrWeak new p)) (has q (field_names StrongOrWeak old p)) (none p m) in
      let in_old : (p : ℕ) → has p ds ≡ true → has q (field_names StrongOrWeak old p) ≡ false = λ p m. neither_right (has q (field_names StrongOrWeak new p)) (has q (field_names StrongOrWeak old p)) (none p m) in
      record {
        entry = entries_same q n;
        strong = weight_same (names_alike (Strong q)) (λ p m. entry_unnamed (names_alike (Strong q)) q (strong_unnamed q) (get new.objects p) (in_new p m))
            (λ p m. entry_unnamed (names_alike (Strong q)) q (strong_unnamed q) (get old.objects p) (in_old p m));
        weak = weight_same (names_alike (Weak q)) (λ p m. entry_unnamed (names_alike (Weak q)) q (weak_unnamed q) (get new.objects p) (in_new p m))
            (λ p m. entry_unnamed (names_alike (Weak q)) q (weak_unnamed q) (get old.objects p) (in_old p m));
      }

  -- and what they name was compared
  at_outside : (q : ℕ) → has q ds ≡ false → AgreeAt new old q
  at_outside q n =
      let names : ℕ → Bool = λ p. has q (field_names StrongOrWeak new p) || has q (field_names StrongOrWeak old p) in
      elim (list_any names ds) as (λ b. list_any names ds ≡ b → AgreeAt new old q) [
        | true ↦ λ t. some_of (AgreeAt new old q) names ds t (λ p m h.
            either (AgreeAt new old q) (has q (field_names StrongOrWeak new p)) (has q (field_names StrongOrWeak old p)) h (λ g. joined.in_new p m q g n) (λ g. joined.in_old p m q g n))
        | false ↦ λ f. at_unnamed q n (none_of names ds f)
      ] refl

  agrees : Agrees (λ o. not (has o ds)) new old
  agrees = record {
    handles = roots.handles;
    cells = roots.cells;
    scopes = roots.scopes;
    entries = λ o k. (at_outside o (outside_of (has o ds) k)).entry;
    strongs = λ o k. (at_outside o (outside_of (has o ds) k)).strong;
    weaks = λ o k. (at_outside o (outside_of (has o ds) k)).weak;
  }

  -- where they are an island, the two agree but for them
  pub agree_but_island : IsSound new [] → IsSound old [] → IsClosed StrongOrWeak new (λ o. not (has o ds)) → (x : Remains) → IsRemains (λ o. not (has o ds)) new old x → AgreeBut new old x
  agree_but_island sound sound_too closed x is =
      let agree : Agree new old = record {
        handles = roots.handles;
        cells = roots.cells;
        scopes = roots.scopes;
        entries = λ o r. agrees.entries o (reached_in new (λ o. not (has o ds)) closed o ((reach.reached StrongOrWeak new o).0 r));
        strongs = λ o r. agrees.strongs o (reached_in new (λ o. not (has o ds)) closed o ((reach.reached StrongOrWeak new o).0 r));
        weaks = λ o r. agrees.weaks o (reached_in new (λ o. not (has o ds)) closed o ((reach.reached StrongOrWeak new o).0 r));
      } in
      agree_but (λ o. not (has o ds)) new old x is agree (λ ops distinct unused unused_too.
      agreement (λ o. not (has o ds)) new old sound sound_too closed agrees x is ops distinct unused unused_too)
