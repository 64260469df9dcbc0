-- A search for what is reached: what holds at each step of it, and why it ends. For the layers above too: `object_heap::reach`
-- is such a search, and `agreement` lists numbers.
use Rattle.std.proofs.Common.{◌≡◌, ℕ, ◌+◌, ◌<◌, ◌≤◌, List, [], ◌∷◌, ◌++◌, length, length-append, refl, ap, ◌∙◌, sym, subst, arith, Bool, true, false, cond}
use Rattle.std.specs.Prelude.{not, Option, Some, None, ◌==◌, ◌||◌, if◌then◌else◌, is_some}
use Rattle.std.specs.List.{list_any}
use Rattle.std.proofs.lemmas.Bool.Decides.{nat_tests}
use Rattle.std.specs.Ordering.{nat_cmp, eq_by_cmp, is_eq}
use Rattle.std.specs.FinMap.{get, keys, contains_key-keys}
use Rattle.trace_types.specs.declared.slots.Entry.{Entry}
use Rattle.ownership_model.specs.State.{State}
use Rattle.ownership_model.specs.declared.link.Link.{Link}
use Rattle.ownership_model.specs.Reach.{root_names, field_names, entry_names, has, Reaches, Reaches.by_root, Reaches.by_field, IsReach}

-- how many names stand in fields of objects that were not visited
abbrev pub unseen : Link → State → (ℕ → Bool) → List ℕ → ℕ
unseen by m k [] = 0
unseen by m k (p ∷ ps) = (if k p then 0 else length (field_names by m p)) + unseen by m k ps

-- a search that has visited k and has still to visit todo
pub record IsVisiting (by : Link) (m : State) (k : ℕ → Bool) (todo : List ℕ) : Type 0 where
  pub roots : (o : ℕ) → has o (root_names by m) ≡ true → (k o || has o todo) ≡ true
  pub fields : (p : ℕ) (o : ℕ) → k p ≡ true → has o (field_names by m p) ≡ true → (k o || has o todo) ≡ true
  pub visited : (o : ℕ) → k o ≡ true → Reaches by m o
  pub waiting : (o : ℕ) → has o todo ≡ true → Reaches by m o

pub has-append : (o : ℕ) (xs ys : List ℕ) → has o (xs ++ ys) ≡ (has o xs || has o ys)
has-append o [] ys = refl
has-append o (x ∷ xs) ys = grind (arith, nat_tests, has-append o xs ys)

pub or_left : (a b : Bool) → a ≡ true → (a || b) ≡ true
or_left true b h = refl
or_left false b h = absurd cc

pub or_right : (a b : Bool) → b ≡ true → (a || b) ≡ true
or_right true b h = refl
or_right false b h = h

-- what follows from either holds
pub either : (P : Type 0) (a b : Bool) → (a || b) ≡ true → (a ≡ true → P) → (b ≡ true → P) → P
either P true b h p q = p refl
either P false b h p q = q h

by_eq : (P : Type 0) (x y : ℕ) → (x == y) ≡ true → (x ≡ y → P) → P
by_eq P x y h p = p (grind (arith, nat_tests))

-- before the first step
pub visit_start : (by : Link) (m : State) (k : ℕ → Bool) (todo : List ℕ) → ((o : ℕ) → k o ≡ false) → todo ≡ root_names by m → IsVisiting by m k todo
visit_start by m k todo none is = record {
  roots = λ o h. or_right (k o) _ (subst (λ xs. has o xs ≡ true) (sym is) h);
  fields = λ p o h n. absurd (grind (arith, none p, h));
  visited = λ o h. absurd (grind (arith, none o, h));
  waiting = λ o h. by_root o (subst (λ xs. has o xs ≡ true) is h);
}

-- after the last one
pub visit_end : (by : Link) (m : State) (k : ℕ → Bool) (todo : List ℕ) → IsVisiting by m k todo → todo ≡ [] → IsReach by m k
visit_end by m k todo v none = record {
  roots = λ o h. either (k o ≡ true) (k o) (has o todo) (v.roots o h) (λ e. e) (λ e. absurd (grind (arith, none, e)));
  fields = λ p o h n. either (k o ≡ true) (k o) (has o todo) (v.fields p o h n) (λ e. e) (λ e. absurd (grind (arith, none, e)));
  reached = v.visited;
}

-- one object more in the set
abbrev pub Joins : ℕ → (ℕ → Bool) → (ℕ → Bool) → Type 0
Joins o k j = (q : ℕ) → j q ≡ ((q == o) || k q)

-- the first to be visited, and the rest
abbrev pub Takes : ℕ → List ℕ → List ℕ → Type 0
Takes o todo rest = (q : ℕ) → has q todo ≡ ((q == o) || has q rest)

-- more to be visited
abbrev pub Grows : List ℕ → List ℕ → List ℕ → Type 0
Grows rest names next = (q : ℕ) → has q next ≡ (has q rest || has q names)

pub takes_last : (o : ℕ) (todo rest : List ℕ) → todo ≡ rest ++ o ∷ [] → Takes o todo rest
takes_last o todo rest is q = grind (arith, nat_tests, is, has-append)

pub grows_behind : (rest names next : List ℕ) → next ≡ rest ++ names → Grows rest names next
grows_behind rest names next is q = grind (arith, nat_tests, is, has-append)

-- the object taken off todo is new: what its fields name waits from now on
pub visit_new : (by : Link) (m : State) (k j : ℕ → Bool) (o : ℕ) (todo rest next : List ℕ) → IsVisiting by m k todo → Takes o todo rest → Joins o k j → Grows rest (field_names by m o) next → IsVisiting by m j next
visit_new by m k j o todo rest next v takes joins grows =
    let here : has o todo ≡ true = grind (arith, nat_tests, takes o) in
    let reached : Reaches by m o = v.waiting o here in
    record {
      roots = λ q h. grind (arith, nat_tests, joins q, v.roots q h, takes q, grows q);
      fields = λ p q h n. either ((j q || has q next) ≡ true) (p == o) (k p) (sym (joins p) ∙ h)
          (λ e. let named_here : has q (field_names by m o) ≡ true = by_eq (has q (field_names by m o) ≡ true) p o e (λ e. subst (λ x. has q (field_names by m x) ≡ true) e n) in grind (arith, nat_tests, grows q, named_here))
          (λ e. let f : (k q || has q todo) ≡ true = v.fields p q e n in grind (arith, nat_tests, joins q, f, takes q, grows q));
      visited = λ q h. either (Reaches by m q) (q == o) (k q) (sym (joins q) ∙ h) (λ e. by_eq (Reaches by m q) q o e (λ e. subst (λ x. Reaches by m x) (sym e) reached)) (v.visited q);
      waiting = λ q h. either (Reaches by m q) (has q rest) (has q (field_names by m o)) (sym (grows q) ∙ h)
          (λ e. v.waiting q (takes q ∙ or_right (q == o) (has q rest) e))
          (λ e. by_field o q reached e);
    }

-- the work that is left
pub unseen_fewer : (by : Link) (m : State) (k j : ℕ → Bool) (o : ℕ) (ps : List ℕ) → Joins o k j → unseen by m j ps ≤ unseen by m k ps
unseen_fewer by m k j o [] joins = grind arith
unseen_fewer by m k j o (p ∷ ps) joins = grind (arith, nat_tests, joins p, unseen_fewer by m k j o ps joins)

pub unseen_without : (by : Link) (m : State) (k j : ℕ → Bool) (o : ℕ) (ps : List ℕ) → Joins o k j → k o ≡ false → has o ps ≡ true → unseen by m j ps + length (field_names by m o) ≤ unseen by m k ps
unseen_without by m k j o [] joins new h = absurd cc
unseen_without by m k j o (p ∷ ps) joins new h = grind (arith, nat_tests, joins p, unseen_fewer by m k j o ps joins, unseen_without by m k j o ps joins new)

no_names : (by : Link) (e : Option Entry) → is_some e ≡ false → length (entry_names by e) ≡ 0
no_names by None h = refl
no_names by (Some e) h = absurd cc

pub has_as_any : (o : ℕ) (ps : List ℕ) → list_any (eq_by_cmp nat_cmp o) ps ≡ has o ps
has_as_any o [] = refl
has_as_any o (p ∷ ps) = grind (arith, nat_tests, has_as_any o ps)

no_entry : (by : Link) (m : State) (o : ℕ) → has o (keys m.objects) ≡ false → length (field_names by m o) ≡ 0
no_entry by m o h = no_names by (get m.objects o) (contains_key-keys m.objects o ∙ has_as_any o (keys m.objects) ∙ h)

-- a step on a new object leaves less work
pub work_new : (by : Link) (m : State) (k j : ℕ → Bool) (o : ℕ) → Joins o k j → k o ≡ false → unseen by m j (keys m.objects) + length (field_names by m o) ≤ unseen by m k (keys m.objects)
work_new by m k j o joins new =
    elim (has o (keys m.objects)) as (λ b. has o (keys m.objects) ≡ b → unseen by m j (keys m.objects) + length (field_names by m o) ≤ unseen by m k (keys m.objects)) [
      | true ↦ λ h. unseen_without by m k j o (keys m.objects) joins new h
      | false ↦ λ h. let z : length (field_names by m o) ≡ 0 = no_entry by m o h in let f : unseen by m j (keys m.objects) ≤ unseen by m k (keys m.objects) = unseen_fewer by m k j o (keys m.objects) joins in omega (arith, z, f)
    ] refl

-- what an insertion into a set of numbers says
pub joins_from_update : (k j : ℕ → Bool) (o : ℕ) → ((q : ℕ) → j q ≡ cond (is_eq (nat_cmp o q)) true (k q)) → Joins o k j
joins_from_update k j o h q = grind (arith, nat_tests, h q)

pub was_new : (b added : Bool) → added ≡ true → added ≡ not b → b ≡ false
was_new true added t a = absurd cc
was_new false added t a = refl

pub work_falls : (by : Link) (m : State) (k j : ℕ → Bool) (o : ℕ) (todo rest next : List ℕ) → todo ≡ rest ++ o ∷ [] → Joins o k j → k o ≡ false → next ≡ rest ++ field_names by m o
    → unseen by m j (keys m.objects) + length next < unseen by m k (keys m.objects) + length todo
work_falls by m k j o todo rest next is joins new grown =
    let less : unseen by m j (keys m.objects) + length (field_names by m o) ≤ unseen by m k (keys m.objects) = work_new by m k j o joins new in
    let now : length next ≡ length rest + length (field_names by m o) = ap length grown ∙ length-append rest (field_names by m o) in
    let was : length todo ≡ length rest + 1 = ap length is ∙ length-append rest (o ∷ []) in
    omega (arith, less, now, was)
