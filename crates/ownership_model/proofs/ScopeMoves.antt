-- How scopes change alike: the same handles enter, and the same leave.
use Rattle.std.proofs.Common.{◌≡◌, ℕ, List, [], ◌∷◌, ◌++◌, append_assoc, refl, ap, ◌∙◌, sym, subst, Bool, true, false}
use Rattle.std.specs.Prelude.{Option, Some, None, ◌==◌, ◌&&◌, if◌then◌else◌, filter, not}
use Rattle.std.specs.List.{AllByRecursion}
use Rattle.std.proofs.lemmas.List.Elements.{filter-append}
use Rattle.trace_types.specs.declared.slots.Scoped.{Scoped}
use Rattle.trace_types.specs.declared.slots.Holding.{Holding}
use Rattle.ownership_model.specs.Scopes.{scope_of, entered, kept_or_entered, left}
use Rattle.ownership_model.specs.declared.key.Key.{Key}
use Rattle.ownership_model.specs.declared.key.Key.TheVariants.{Handle}
use Rattle.ownership_model.specs.Alike.{ScopesMoveAlike}
use Rattle.ownership_model.proofs.CountLemmas.{same_number}
use Rattle.ownership_model.proofs.ScopeMaps.{own_entered, other_entered, each_left}

-- ---- filters
-- a test that all pass drops none
filter_all : (hs : List ℕ) → filter (λ h. true) hs ≡ hs
filter_all [] = refl
filter_all (h ∷ hs) = ap (λ xs. h ∷ xs) (filter_all hs)

-- a first one that passes stays first
pub filter_keeps : (p : ℕ → Bool) (h : ℕ) (hs : List ℕ) → p h ≡ true → filter p (h ∷ hs) ≡ h ∷ filter p hs
filter_keeps p h hs e = ap (λ b. if b then h ∷ filter p hs else filter p hs) e

-- a first one that does not pass is dropped
pub filter_drops : (p : ℕ → Bool) (h : ℕ) (hs : List ℕ) → p h ≡ false → filter p (h ∷ hs) ≡ filter p hs
filter_drops p h hs e = ap (λ b. if b then h ∷ filter p hs else filter p hs) e

-- one handle more, by what both tests say of it
swap_next : (p q : ℕ → Bool) (h : ℕ) (xs ys : List ℕ) (b c : Bool) → p h ≡ b → q h ≡ c → filter p ys ≡ filter q xs
    → filter p (if c then h ∷ ys else ys) ≡ filter q (if b then h ∷ xs else xs)
swap_next p q h xs ys true true e f same = filter_keeps p h ys e ∙ ap (λ zs. h ∷ zs) same ∙ sym (filter_keeps q h xs f)
swap_next p q h xs ys true false e f same = same ∙ sym (filter_drops q h xs f)
swap_next p q h xs ys false true e f same = filter_drops p h ys e ∙ same
swap_next p q h xs ys false false e f same = same

-- two tests may be made in either order
pub filter_swap : (p q : ℕ → Bool) (hs : List ℕ) → filter p (filter q hs) ≡ filter q (filter p hs)
filter_swap p q [] = refl
filter_swap p q (h ∷ hs) = swap_next p q h (filter p hs) (filter q hs) (p h) (q h) refl refl (filter_swap p q hs)

-- one handle more, by what both tests say of it
both_next : (p q : ℕ → Bool) (h : ℕ) (ys zs : List ℕ) (b c : Bool) → p h ≡ b → filter p ys ≡ zs → filter p (if c then h ∷ ys else ys) ≡ (if b && c then h ∷ zs else zs)
both_next p q h ys zs true true e same = filter_keeps p h ys e ∙ ap (λ xs. h ∷ xs) same
both_next p q h ys zs true false e same = same
both_next p q h ys zs false true e same = filter_drops p h ys e ∙ same
both_next p q h ys zs false false e same = same

-- two tests in turn are one
filter_both : (p q : ℕ → Bool) (hs : List ℕ) → filter p (filter q hs) ≡ filter (λ x. p x && q x) hs
filter_both p q [] = refl
filter_both p q (h ∷ hs) = both_next p q h (filter q hs) (filter (λ x. p x && q x) hs) (p h) (q h) refl (filter_both p q hs)

-- one handle more, by what both tests say of it
skip_next : (p q : ℕ → Bool) (h : ℕ) (xs ys : List ℕ) (b c : Bool) → p h ≡ b → q h ≡ c → (p h ≡ true → q h ≡ true) → filter p ys ≡ xs → filter p (if c then h ∷ ys else ys) ≡ (if b then h ∷ xs else xs)
skip_next p q h xs ys true true e f less same = filter_keeps p h ys e ∙ ap (λ zs. h ∷ zs) same
skip_next p q h xs ys true false e f less same = absurd (apart (q h) f (less e))
  where
    apart : (b : Bool) → b ≡ false → b ≡ true → ⊥
    apart b f t = cc
skip_next p q h xs ys false true e f less same = filter_drops p h ys e ∙ same
skip_next p q h xs ys false false e f less same = same

-- what passes the second test anyway
pub filter_skip : (p q : ℕ → Bool) → ((h : ℕ) → p h ≡ true → q h ≡ true) → (hs : List ℕ) → filter p (filter q hs) ≡ filter p hs
filter_skip p q less [] = refl
filter_skip p q less (h ∷ hs) = skip_next p q h (filter p hs) (filter q hs) (p h) (q h) refl refl (less h) (filter_skip p q less hs)

-- of a test and its opposite one holds
not_in : (b : Bool) → b ≡ true → not b ≡ false
not_in b e = ap not e

not_out : (b : Bool) → not b ≡ true → b ≡ false
not_out true e = absurd cc
not_out false e = refl

in_not : (b : Bool) → b ≡ true → b ≡ false → ⊥
in_not b e f = cc

-- ---- the handles that are added to a scope, and those that stay in it
module _ (k : Key → Bool) where
  -- all of these handles are in the set
  abbrev In : List ℕ → Type 0
  In hs = AllByRecursion (λ h. k (Handle h) ≡ true) hs

  in_both : (xs ys : List ℕ) → In xs → In ys → In (xs ++ ys)
  in_both [] ys c d = d
  in_both (x ∷ xs) ys c d = (c.0, in_both xs ys c.1 d)

  in_less : (p : ℕ → Bool) (xs : List ℕ) → In xs → In (filter p xs)
  in_less p [] c = tt
  in_less p (x ∷ xs) c = elim (p x) as (λ b. In (if b then x ∷ filter p xs else filter p xs)) [
    | true ↦ (c.0, in_less p xs c.1)
    | false ↦ in_less p xs c.1
  ]

  -- then none is outside
  none_outside : (xs : List ℕ) → In xs → filter (λ h. not (k (Handle h))) xs ≡ []
  none_outside [] c = refl
  none_outside (x ∷ xs) c = filter_drops (λ h. not (k (Handle h))) x xs (not_in (k (Handle x)) c.0) ∙ none_outside xs c.1

  -- nothing enters, and nothing leaves
  pub scope_none : (a b : List Scoped) → ScopesMoveAlike k a a b b
  scope_none a b = record {
    entered = λ t. [];
    stays = λ h. true;
    first = λ t. sym (filter_all (scope_of t a));
    second = λ t. sym (filter_all (scope_of t b));
    within = λ t. tt;
    outside = λ h c. refl;
  }

  -- a handle enters the scope of its label alone
  enter_at : (t h u : ℕ) (a : List Scoped) (b : Bool) → (t == u) ≡ b → scope_of u (entered t h a) ≡ (if b then h ∷ [] else []) ++ filter (λ g. true) (scope_of u a)
  enter_at t h u a true e = subst (λ x. scope_of x (entered t h a) ≡ h ∷ scope_of x a) (same_number t u e) (own_entered t h a) ∙ ap (λ xs. h ∷ xs) (sym (filter_all (scope_of u a)))
  enter_at t h u a false e = other_entered t h u a e ∙ sym (filter_all (scope_of u a))

  -- what enters is in the set
  in_one : (h : ℕ) (b : Bool) → k (Handle h) ≡ true → In (if b then h ∷ [] else [])
  in_one h true c = (c, tt)
  in_one h false c = tt

  -- a handle is set: it enters, where it was not held
  pub scope_set : (x : Option Holding) (t h : ℕ) (a b : List Scoped) → k (Handle h) ≡ true → ScopesMoveAlike k a (kept_or_entered x t h a) b (kept_or_entered x t h b)
  scope_set (Some x) t h a b c = scope_none a b
  scope_set None t h a b c = record {
    entered = λ u. if t == u then h ∷ [] else [];
    stays = λ g. true;
    first = λ u. enter_at t h u a (t == u) refl;
    second = λ u. enter_at t h u b (t == u) refl;
    within = λ u. in_one h (t == u) c;
    outside = λ g d. refl;
  }

  -- a handle outside of the set is not the one that ends
  other_stays : (h g : ℕ) → k (Handle h) ≡ true → k (Handle g) ≡ false → (b : Bool) → (g == h) ≡ b → not b ≡ true
  other_stays h g c d true e = absurd (in_not (k (Handle h)) c (subst (λ x. k (Handle x) ≡ false) (same_number g h e) d))
  other_stays h g c d false e = refl

  -- a handle ends
  pub scope_end : (h : ℕ) (a b : List Scoped) → k (Handle h) ≡ true → ScopesMoveAlike k a (left h a) b (left h b)
  scope_end h a b c = record {
    entered = λ t. [];
    stays = λ g. not (g == h);
    first = λ t. each_left h t a;
    second = λ t. each_left h t b;
    within = λ t. tt;
    outside = λ g d. other_stays h g c d (g == h) refl;
  }

  -- what enters twice in turn, and leaves twice, as one move
  twice : (es ds : List ℕ) (p q : ℕ → Bool) (xs ys zs : List ℕ) → ys ≡ es ++ filter p xs → zs ≡ ds ++ filter q ys → zs ≡ (ds ++ filter q es) ++ filter (λ h. q h && p h) xs
  twice es ds p q xs ys zs e f =
      f ∙ ap (λ ws. ds ++ filter q ws) e ∙ ap (λ ws. ds ++ ws) (filter-append q es (filter p xs) ∙ ap (λ ws. filter q es ++ ws) (filter_both q p xs)) ∙ sym (append_assoc ds (filter q es) (filter (λ h. q h && p h) xs))

  -- two moves alike in turn are one
  pub scope_then : (a b c x y z : List Scoped) → ScopesMoveAlike k a b x y → ScopesMoveAlike k b c y z → ScopesMoveAlike k a c x z
  scope_then a b c x y z p q = record {
    entered = λ t. q.entered t ++ filter q.stays (p.entered t);
    stays = λ h. q.stays h && p.stays h;
    first = λ t. twice (p.entered t) (q.entered t) p.stays q.stays (scope_of t a) (scope_of t b) (scope_of t c) (p.first t) (q.first t);
    second = λ t. twice (p.entered t) (q.entered t) p.stays q.stays (scope_of t x) (scope_of t y) (scope_of t z) (p.second t) (q.second t);
    within = λ t. in_both (q.entered t) (filter q.stays (p.entered t)) (q.within t) (in_less q.stays (p.entered t) (p.within t));
    outside = λ h d. ap (λ s. q.stays h && s) (p.outside h d) ∙ ap (λ s. s && true) (q.outside h d);
  }

  -- so scopes that are equal stay so, whole or by the handles of the set, and the others stand as they did
  pub scope_whole : (a b x y : List Scoped) (t : ℕ) → ScopesMoveAlike k a b x y → scope_of t a ≡ scope_of t x → scope_of t b ≡ scope_of t y
  scope_whole a b x y t p e = p.first t ∙ ap (λ hs. p.entered t ++ filter p.stays hs) e ∙ sym (p.second t)

  -- the handles of the set, after a move
  part : (es hs gs : List ℕ) (p : ℕ → Bool) → gs ≡ es ++ filter p hs → filter (λ h. k (Handle h)) gs ≡ filter (λ h. k (Handle h)) es ++ filter p (filter (λ h. k (Handle h)) hs)
  part es hs gs p e =
      ap (filter (λ h. k (Handle h))) e ∙ filter-append (λ h. k (Handle h)) es (filter p hs) ∙ ap (λ ws. filter (λ h. k (Handle h)) es ++ ws) (filter_swap (λ h. k (Handle h)) p hs)

  -- and the handles of the set stay alike
  pub scope_part : (a b x y : List Scoped) (t : ℕ) → ScopesMoveAlike k a b x y → filter (λ h. k (Handle h)) (scope_of t a) ≡ filter (λ h. k (Handle h)) (scope_of t x)
      → filter (λ h. k (Handle h)) (scope_of t b) ≡ filter (λ h. k (Handle h)) (scope_of t y)
  scope_part a b x y t p e =
      part (p.entered t) (scope_of t a) (scope_of t b) p.stays (p.first t) ∙ ap (λ hs. filter (λ h. k (Handle h)) (p.entered t) ++ filter p.stays hs) e
      ∙ sym (part (p.entered t) (scope_of t x) (scope_of t y) p.stays (p.second t))

  -- and the handles outside of the set stand as they did
  pub scope_others : (a b x y : List Scoped) (t : ℕ) → ScopesMoveAlike k a b x y → filter (λ h. not (k (Handle h))) (scope_of t b) ≡ filter (λ h. not (k (Handle h))) (scope_of t a)
  scope_others a b x y t p =
      ap (filter (λ h. not (k (Handle h)))) (p.first t) ∙ filter-append (λ h. not (k (Handle h))) (p.entered t) (filter p.stays (scope_of t a))
      ∙ ap (λ ws. ws ++ filter (λ h. not (k (Handle h))) (filter p.stays (scope_of t a))) (none_outside (p.entered t) (p.within t))
      ∙ filter_skip (λ h. not (k (Handle h))) p.stays (λ h d. p.outside h (not_out (k (Handle h)) d)) (scope_of t a)
