-- A handle leaves its scope: its neighbours are linked with each other, and the trees hold the scopes without it.
use Rattle.std.proofs.Common.{◌≡◌, ℕ, zero, suc, ◌<◌, ◌≤◌, List, [], ◌∷◌, refl, ap, ◌∙◌, sym, subst, arith, Bool, true, false}
use Rattle.std.specs.Prelude.{Option, Some, None, ◌==◌, is_some, if◌then◌else◌, not, filter}
use Rattle.std.proofs.lemmas.Bool.Decides.{nat_tests}
use Rattle.std.specs.Ordering.{nat_cmp}
use Rattle.std.specs.FinMap.{FinMap, get, remove}
use Rattle.trace_types.specs.declared.slots.Scoped.{Scoped}
use Rattle.ownership_model.specs.Scopes.{scope_of, left, times_in}
use Rattle.ownership_model.proofs.Counting.{get_inserted, get_removed, same_number}
use Rattle.ownership_model.proofs.LawsHold.{scopes}
use Rattle.object_heap.specs.declared.place.Place.{Place}
use Rattle.object_heap.specs.Links.{first_of, AreChained, AreLinked, set_later_at, set_earlier_at, relinked_later, relinked_earlier, last_without}
use Rattle.ownership_model.proofs.Scoping.{hit_is, itself, times_among, times_of_scope, times-left, from_left}
use Rattle.object_heap.proofs.LinkLemmas.{in_scope, chain_held}
use Rattle.object_heap.proofs.NeighbourLemmas.{is_at, first_place, not_last, own_scope, mutual_links}

-- the handle has no place, and its neighbours are linked with each other
abbrev pub places_without : FinMap nat_cmp Place → ℕ → Option ℕ → Option ℕ → FinMap nat_cmp Place
places_without places h earlier later = relinked_earlier (relinked_later (remove places h) earlier later) later earlier

-- ---- what stands in the trees after it
-- a link that goes past the handle, to what is linked there
abbrev past : ℕ → Option ℕ → Option ℕ → Option ℕ
past h there link = if is_at link h then there else link

abbrev place_past : ℕ → Place → Option Place → Option Place
place_past h x None = None
place_past h x (Some p) = Some (record { label = p.label; earlier = past h x.earlier p.earlier; later = past h x.later p.later })

abbrev pub later_set : Option ℕ → Option Place → Option Place
later_set link None = None
later_set link (Some p) = Some (record { label = p.label; earlier = p.earlier; later = link })

abbrev pub earlier_set : Option ℕ → Option Place → Option Place
earlier_set link None = None
earlier_set link (Some p) = Some (record { label = p.label; earlier = link; later = p.later })

later_set_at : (places : FinMap nat_cmp Place) (e q : ℕ) (link : Option ℕ) (o : Option Place) (b : Bool) → get places e ≡ o → (e == q) ≡ b → get (set_later_at places e o link) q ≡ (if b then later_set link (get places q) else get places q)
later_set_at places e q link None true is same = let none : get places q ≡ None = ap (get places) (sym (same_number e q same)) ∙ is in none ∙ sym (ap (later_set link) none)
later_set_at places e q link None false is other = refl
later_set_at places e q link (Some p) true is same =
    get_inserted places e (record { label = p.label; earlier = p.earlier; later = link }) q
    ∙ ap (λ b. if b then Some (record { label = p.label; earlier = p.earlier; later = link }) else get places q) same
    ∙ sym (ap (later_set link) (ap (get places) (sym (same_number e q same)) ∙ is))
later_set_at places e q link (Some p) false is other =
    get_inserted places e (record { label = p.label; earlier = p.earlier; later = link }) q
    ∙ ap (λ b. if b then Some (record { label = p.label; earlier = p.earlier; later = link }) else get places q) other

earlier_set_at : (places : FinMap nat_cmp Place) (e q : ℕ) (link : Option ℕ) (o : Option Place) (b : Bool) → get places e ≡ o → (e == q) ≡ b → get (set_earlier_at places e o link) q ≡ (if b then earlier_set link (get places q) else get places q)
earlier_set_at places e q link None true is same = let none : get places q ≡ None = ap (get places) (sym (same_number e q same)) ∙ is in none ∙ sym (ap (earlier_set link) none)
earlier_set_at places e q link None false is other = refl
earlier_set_at places e q link (Some p) true is same =
    get_inserted places e (record { label = p.label; earlier = link; later = p.later }) q
    ∙ ap (λ b. if b then Some (record { label = p.label; earlier = link; later = p.later }) else get places q) same
    ∙ sym (ap (earlier_set link) (ap (get places) (sym (same_number e q same)) ∙ is))
earlier_set_at places e q link (Some p) false is other =
    get_inserted places e (record { label = p.label; earlier = link; later = p.later }) q
    ∙ ap (λ b. if b then Some (record { label = p.label; earlier = link; later = p.later }) else get places q) other

pub get_later : (places : FinMap nat_cmp Place) (x link : Option ℕ) (q : ℕ) → get (relinked_later places x link) q ≡ (if is_at x q then later_set link (get places q) else get places q)
get_later places None link q = refl
get_later places (Some e) link q = later_set_at places e q link (get places e) (e == q) refl refl

pub get_earlier : (places : FinMap nat_cmp Place) (x link : Option ℕ) (q : ℕ) → get (relinked_earlier places x link) q ≡ (if is_at x q then earlier_set link (get places q) else get places q)
get_earlier places None link q = refl
get_earlier places (Some n) link q = earlier_set_at places n q link (get places n) (n == q) refl refl

-- one step for each change, by whether the handle is the one that is changed
abbrev steps : Place → (gone before after : Bool) → Option Place → Option Place
steps x gone before after o =
    if after then earlier_set x.earlier (if before then later_set x.later (if gone then None else o) else (if gone then None else o))
    else (if before then later_set x.later (if gone then None else o) else (if gone then None else o))

steps_none : (x : Place) (before after : Bool) → steps x false before after None ≡ None
steps_none x true true = refl
steps_none x true false = refl
steps_none x false true = refl
steps_none x false false = refl

steps_gone : (x : Place) (before after : Bool) (o : Option Place) → steps x true before after o ≡ None
steps_gone x true true o = refl
steps_gone x true false o = refl
steps_gone x false true o = refl
steps_gone x false false o = refl

steps_some : (x p : Place) (before after : Bool)
    → steps x false before after (Some p) ≡ Some (record { label = p.label; earlier = if after then x.earlier else p.earlier; later = if before then x.later else p.later })
steps_some x p true true = refl
steps_some x p true false = refl
steps_some x p false true = refl
steps_some x p false false = refl

module _ (places : FinMap nat_cmp Place) (last : FinMap nat_cmp ℕ) (ss : List Scoped) (linked : AreLinked places last ss) where
  -- each other handle has its links past the one that left
  place_without : (h q : ℕ) (x : Place) → get places h ≡ Some x → get (places_without places h x.earlier x.later) q ≡ (if h == q then None else place_past h x (get places q))
  place_without h q x here =
      get_earlier (relinked_later (remove places h) x.earlier x.later) x.later x.earlier q
      ∙ ap (λ (o : Option Place). if is_at x.later q then earlier_set x.earlier o else o) (get_later (remove places h) x.earlier x.later q)
      ∙ ap (λ (o : Option Place). if is_at x.later q then earlier_set x.earlier (if is_at x.earlier q then later_set x.later o else o) else (if is_at x.earlier q then later_set x.later o else o)) (get_removed places h q)
      ∙ after (h == q) (get places q) refl
    where
      after : (b : Bool) (o : Option Place) → get places q ≡ o → steps x b (is_at x.earlier q) (is_at x.later q) o ≡ (if b then None else place_past h x o)
      after true o there = steps_gone x (is_at x.earlier q) (is_at x.later q) o
      after false None there = steps_none x (is_at x.earlier q) (is_at x.later q)
      after false (Some p) there =
          steps_some x p (is_at x.earlier q) (is_at x.later q)
          ∙ ap (λ b. Some (record { label = p.label; earlier = if b then x.earlier else p.earlier; later = if is_at x.earlier q then x.later else p.later })) (sym (mutual_links places last ss linked q h p x there here))
          ∙ ap (λ b. Some (record { label = p.label; earlier = past h x.earlier p.earlier; later = if b then x.later else p.later })) (mutual_links places last ss linked h q x p here there)

-- ---- a handle that stands nowhere in a list
none_left : (h : ℕ) (hs : List ℕ) → times_among h hs ≡ 0 → filter (λ q. not (q == h)) hs ≡ hs
none_left h [] none = refl
none_left h (q ∷ hs) none = elim (q == h) as (λ b. (q == h) ≡ b → (if not b then q ∷ filter (λ r. not (r == h)) hs else filter (λ r. not (r == h)) hs) ≡ q ∷ hs) [
  | true ↦ λ e. absurd (omega (arith, none, hit_is q h true e))
  | false ↦ λ e. ap (λ rs. q ∷ rs) (none_left h hs (omega (arith, none)))
] refl

-- ---- a chain without one of its handles
module _ (a b : FinMap nat_cmp Place) (h : ℕ) (x : Place) (here : get a h ≡ Some x) (after : (q : ℕ) → get b q ≡ (if h == q then None else place_past h x (get a q))) where
  next_left : (t e : ℕ) (hs : List ℕ) → times_among h hs ≤ 1 → AreChained a t (Some e) hs → past h x.earlier (first_of hs) ≡ first_of (filter (λ q. not (q == h)) hs)
  next_left t e [] once c = refl
  next_left t e (r ∷ hs) once c = elim (r == h) as (λ z. (r == h) ≡ z → (if z then x.earlier else Some r) ≡ first_of (if not z then r ∷ filter (λ q. not (q == h)) hs else filter (λ q. not (q == h)) hs)) [
    | true ↦ λ same.
        ap (λ (p : Place). p.earlier) (first_place a t r h (Some e) hs x c same here)
        ∙ ap first_of (sym (none_left h hs (omega (arith, once, hit_is r h true same))))
    | false ↦ λ other. refl
  ] refl

  pub left_chain : (t : ℕ) (later : Option ℕ) (hs : List ℕ) → times_among h hs ≤ 1 → AreChained a t later hs → AreChained b t (past h x.later later) (filter (λ q. not (q == h)) hs)
  left_chain t later [] once c = tt
  left_chain t later (q ∷ hs) once c =
      let rest : AreChained b t (past h x.later (Some q)) (filter (λ r. not (r == h)) hs) = left_chain t (Some q) hs (omega (arith, once)) c.1 in
      elim (q == h) as (λ z. (q == h) ≡ z → AreChained b t (past h x.later later) (if not z then q ∷ filter (λ r. not (r == h)) hs else filter (λ r. not (r == h)) hs)) [
        | true ↦ λ same. subst (λ link. AreChained b t link (filter (λ r. not (r == h)) hs)) (ap (λ z. if z then x.later else Some q) same ∙ sym (met same)) rest
        | false ↦ λ other. (kept other, subst (λ link. AreChained b t link (filter (λ r. not (r == h)) hs)) (ap (λ z. if z then x.later else Some q) other) rest)
      ] refl
    where
      either : (z : Bool) (l m : Option ℕ) → l ≡ m → (if z then l else m) ≡ l
      either true l m is = refl
      either false l m is = sym is

      met : (q == h) ≡ true → past h x.later later ≡ x.later
      met same = either (is_at later h) x.later later (ap (λ (p : Place). p.later) (first_place a t q h later hs x c same here))

      turned : (q == h) ≡ false → (h == q) ≡ false
      turned other = grind (arith, nat_tests, other)

      kept : (q == h) ≡ false → get b q ≡ Some (record { label = t; earlier = first_of (filter (λ r. not (r == h)) hs); later = past h x.later later })
      kept other =
          after q ∙ ap (λ z. if z then None else place_past h x (get a q)) (turned other) ∙ ap (λ (o : Option Place). place_past h x o) c.0
          ∙ ap (λ link. Some (record { label = t; earlier = link; later = past h x.later later })) (next_left t q hs (omega (arith, once)) c.1)

-- ---- the last handle of each label
abbrev head_left : Option ℕ → Option ℕ → Bool → Option ℕ → Option ℕ
head_left earlier (Some n) own head = head
head_left earlier None own head = if own then earlier else head

head_at : (last : FinMap nat_cmp ℕ) (t u : ℕ) (earlier later : Option ℕ) → get (last_without last t earlier later) u ≡ head_left earlier later (t == u) (get last u)
head_at last t u earlier (Some n) = refl
head_at last t u (Some e) None = get_inserted last t e u
head_at last t u None None = get_removed last t u

head_kept : (earlier later : Option ℕ) (own : Bool) (head : Option ℕ) → (later ≡ None → own ≡ true → ⊥) → head_left earlier later own head ≡ head
head_kept earlier (Some n) own head apart = refl
head_kept earlier None true head apart = absurd (apart refl refl)
head_kept earlier None false head apart = refl

left_head : (places : FinMap nat_cmp Place) (h t : ℕ) (x : Place) (hs : List ℕ) → get places h ≡ Some x → AreChained places t None hs → times_among h hs ≤ 1 → ((x.label == t) ≡ true → 0 < times_among h hs)
    → head_left x.earlier x.later (x.label == t) (first_of hs) ≡ first_of (filter (λ q. not (q == h)) hs)
left_head places h t x [] here c once own = head_kept x.earlier x.later (x.label == t) None (λ none is. absurd (omega (arith, own is)))
left_head places h t x (q ∷ hs) here c once own =
    elim (q == h) as (λ z. (q == h) ≡ z → head_left x.earlier x.later (x.label == t) (Some q) ≡ first_of (if not z then q ∷ filter (λ r. not (r == h)) hs else filter (λ r. not (r == h)) hs)) [
      | true ↦ λ same.
          ap (λ (z : Place). head_left z.earlier z.later (z.label == t) (Some q)) (first_place places t q h None hs x c same here)
          ∙ ap (λ z. if z then first_of hs else Some q) (itself t)
          ∙ ap first_of (sym (none_left h hs (omega (arith, once, hit_is q h true same))))
      | false ↦ λ other.
          head_kept x.earlier x.later (x.label == t) (Some q) (λ none is. not_last places t q h hs x c.1 (omega (arith, own is, hit_is q h false other)) here none)
    ] refl

-- ---- put together
once_if : (b : Bool) (n : ℕ) → n ≤ 1 → (if b then 0 else n) ≤ 1
once_if true n few = omega arith
once_if false n few = few

none_if : (b : Bool) (h : ℕ) (x : Place) (n : ℕ) (o : Option Place) → (n ≡ 0 → o ≡ None) → (if b then 0 else n) ≡ 0 → (if b then None else place_past h x o) ≡ None
none_if true h x n o only z = refl
none_if false h x n o only z = ap (λ (p : Option Place). place_past h x p) (only z)

pub left_linked : (places : FinMap nat_cmp Place) (last : FinMap nat_cmp ℕ) (ss : List Scoped) (h : ℕ) (x : Place) → get places h ≡ Some x → AreLinked places last ss
    → AreLinked (places_without places h x.earlier x.later) (last_without last x.label x.earlier x.later) (left h ss)
left_linked places last ss h x here linked =
    let after : (q : ℕ) → get (places_without places h x.earlier x.later) q ≡ (if h == q then None else place_past h x (get places q)) = λ q. place_without places last ss linked h q x here in
    let few : (t : ℕ) → times_among h (scope_of t ss) ≤ 1 = λ t. omega (arith, times_of_scope t h ss, linked.once h) in
    record {
      chains = λ t. subst (λ hs. AreChained (places_without places h x.earlier x.later) t None hs) (sym (scopes.leaves h t ss))
          (left_chain places (places_without places h x.earlier x.later) h x here after t None (scope_of t ss) (few t) (linked.chains t));
      heads = λ t.
          head_at last x.label t x.earlier x.later
          ∙ ap (λ (o : Option ℕ). head_left x.earlier x.later (x.label == t) o) (linked.heads t)
          ∙ left_head places h t x (scope_of t ss) here (linked.chains t) (few t)
          (λ is. subst (λ u. 0 < times_among h (scope_of u ss)) (same_number x.label t is) (own_scope places last ss linked h x here))
          ∙ ap first_of (sym (scopes.leaves h t ss));
      only = λ q z. after q ∙ none_if (h == q) h x (times_in q ss) (get places q) (linked.only q) (sym (times-left h q ss) ∙ z);
      once = λ q. subst (λ n. n ≤ 1) (sym (times-left h q ss)) (once_if (h == q) (times_in q ss) (linked.once q));
      in_order = from_left 0 h ss linked.in_order;
    }

-- a handle without a place has left nothing
nothing_left : (h : ℕ) (ss : List Scoped) → times_in h ss ≡ 0 → left h ss ≡ ss
nothing_left h [] none = refl
nothing_left h (s ∷ ss) none = elim (s.handle == h) as (λ b. (s.handle == h) ≡ b → (if not b then s ∷ left h ss else left h ss) ≡ s ∷ ss) [
  | true ↦ λ e. absurd (omega (arith, none, hit_is s.handle h true e))
  | false ↦ λ e. ap (λ rest. s ∷ rest) (nothing_left h ss (omega (arith, none)))
] refl

pub absent : (places : FinMap nat_cmp Place) (last : FinMap nat_cmp ℕ) (ss : List Scoped) (h n : ℕ) → AreLinked places last ss → get places h ≡ None → times_in h ss ≡ n → n ≡ 0
absent places last ss h zero linked none is = refl
absent places last ss h (suc n) linked none is =
    let r : (t : ℕ) × (0 < times_among h (scope_of t ss)) = in_scope h ss (omega (arith, is)) in
    let some : is_some (get places h) ≡ true = chain_held places r.0 None (scope_of r.0 ss) h (linked.chains r.0) r.1 in
    let no_place : is_some (get places h) ≡ false = ap is_some none in
    absurd cc

pub left_same : (places : FinMap nat_cmp Place) (last : FinMap nat_cmp ℕ) (ss : List Scoped) (h : ℕ) → AreLinked places last ss → get places h ≡ None → left h ss ≡ ss
left_same places last ss h linked none = nothing_left h ss (absent places last ss h (times_in h ss) linked none refl)
