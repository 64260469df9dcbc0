-- What stands under a handle in its scope.
use Rattle.std.proofs.Common.{◌≡◌, ℕ, ◌<◌, ◌≤◌, List, [], ◌∷◌, length, refl, ap, ◌∙◌, sym, arith, Bool, true, false}
use Rattle.std.specs.Prelude.{Option, Some, None, ◌==◌, ◌||◌, if◌then◌else◌}
use Rattle.trace_types.specs.declared.slots.Scoped.{Scoped}
use Rattle.ownership_model.specs.Reach.{has}
use Rattle.ownership_model.specs.Scopes.{scope_of, times_in}
use Rattle.ownership_model.proofs.Counting.{same_number}
use Rattle.ownership_model.proofs.Scoping.{hit_is, itself}
use Rattle.object_heap.specs.Links.{first_of, earlier_in, under, above_of}

-- each handle stands in scopes at most once
abbrev pub AreOnce : List Scoped → Type 0
AreOnce ss = (h : ℕ) → times_in h ss ≤ 1

pub once_rest : (s : Scoped) (ss : List Scoped) → AreOnce (s ∷ ss) → AreOnce ss
once_rest s ss once h = omega (arith, once h)

pub no_times : (s : Scoped) (ss : List Scoped) (q : ℕ) → AreOnce (s ∷ ss) → (s.handle == q) ≡ true → times_in q ss ≡ 0
no_times s ss q once e = omega (arith, once q, hit_is s.handle q true e)

clash : (b : Bool) → b ≡ true → b ≡ false → ⊥
clash true t f = absurd cc
clash false t f = absurd cc

has_first : (h : ℕ) (hs : List ℕ) → has h (h ∷ hs) ≡ true
has_first h hs = ap (λ b. b || has h hs) (itself h)

-- ---- what stands nowhere
pub absent_next : (q t : ℕ) (s : Scoped) (ss : List Scoped) (b : Bool) → (s.handle == q) ≡ false → has q (scope_of t ss) ≡ false → has q (if b then s.handle ∷ scope_of t ss else scope_of t ss) ≡ false
absent_next q t s ss true other none = ap (λ b. b || has q (scope_of t ss)) other ∙ none
absent_next q t s ss false other none = none

pub absent : (q t : ℕ) (ss : List Scoped) → times_in q ss ≡ 0 → has q (scope_of t ss) ≡ false
absent q t [] none = refl
absent q t (s ∷ ss) none = elim (s.handle == q) as (λ b. (s.handle == q) ≡ b → has q (scope_of t (s ∷ ss)) ≡ false) [
  | true ↦ λ e. absurd (omega (arith, none, hit_is s.handle q true e))
  | false ↦ λ e. absent_next q t s ss (s.label == t) e (absent q t ss (omega (arith, none, hit_is s.handle q false e)))
] refl

-- ---- what stands under a handle
pub under_miss : (q : ℕ) (s : Scoped) (ss : List Scoped) → (s.handle == q) ≡ false → under q (s ∷ ss) ≡ under q ss
under_miss q s ss e = ap (λ b. if b then scope_of s.label ss else under q ss) e

pub under_hit : (q : ℕ) (s : Scoped) (ss : List Scoped) → (s.handle == q) ≡ true → under q (s ∷ ss) ≡ scope_of s.label ss
under_hit q s ss e = ap (λ b. if b then scope_of s.label ss else under q ss) e

-- the handle made just before is the first under it
pub earlier_under : (q : ℕ) (ss : List Scoped) → earlier_in q ss ≡ first_of (under q ss)
earlier_under q [] = refl
earlier_under q (s ∷ ss) = elim (s.handle == q) as (λ b. (if b then first_of (scope_of s.label ss) else earlier_in q ss) ≡ first_of (if b then scope_of s.label ss else under q ss)) [
  | true ↦ refl
  | false ↦ earlier_under q ss
]

-- what is under the first handle of what is under another is the rest of that
first_has : (g : ℕ) (xs ys : List ℕ) → xs ≡ g ∷ ys → has g xs ≡ true
first_has g xs ys is = ap (has g) is ∙ has_first g ys

apart_from : (g t : ℕ) (s : Scoped) (ss : List Scoped) → AreOnce (s ∷ ss) → has g (scope_of t ss) ≡ true → (s.handle == g) ≡ false
apart_from g t s ss once here = elim (s.handle == g) as (λ b. (s.handle == g) ≡ b → b ≡ false) [
  | true ↦ λ e. absurd (clash (has g (scope_of t ss)) here (absent g t ss (no_times s ss g once e)))
  | false ↦ λ e. refl
] refl

rest_same : (x g : ℕ) (xs ys : List ℕ) → x ∷ xs ≡ g ∷ ys → xs ≡ ys
rest_same x g xs ys e = ap (λ (zs : List ℕ). of zs) e
  where
    of : List ℕ → List ℕ
    of [] = []
    of (z ∷ zs) = zs

head_same : (x g : ℕ) (xs ys : List ℕ) → x ∷ xs ≡ g ∷ ys → x ≡ g
head_same x g xs ys e = ap (λ (zs : List ℕ). of zs) e
  where
    of : List ℕ → ℕ
    of [] = 0
    of (z ∷ zs) = z

pub under_first : (t g : ℕ) (ys : List ℕ) (ss : List Scoped) → AreOnce ss → scope_of t ss ≡ g ∷ ys → under g ss ≡ ys
under_first t g ys [] once is = absurd cc
under_first t g ys (s ∷ ss) once is = at (s.label == t) refl (λ here. under_first t g ys ss (once_rest s ss once) here)
  where
    at : (b : Bool) → (s.label == t) ≡ b → (scope_of t ss ≡ g ∷ ys → under g ss ≡ ys) → under g (s ∷ ss) ≡ ys
    at true e below =
        let here : s.handle ∷ scope_of t ss ≡ g ∷ ys = sym (ap (λ b. if b then s.handle ∷ scope_of t ss else scope_of t ss) e) ∙ is in
        let first : (s.handle == g) ≡ true = ap (λ x. x == g) (head_same s.handle g (scope_of t ss) ys here) ∙ itself g in
        under_hit g s ss first ∙ ap (λ u. scope_of u ss) (same_number s.label t e) ∙ rest_same s.handle g (scope_of t ss) ys here
    at false e below =
        let here : scope_of t ss ≡ g ∷ ys = sym (ap (λ b. if b then s.handle ∷ scope_of t ss else scope_of t ss) e) ∙ is in
        under_miss g s ss (apart_from g t s ss once (first_has g (scope_of t ss) ys here)) ∙ below here

pub under_next : (q g : ℕ) (ys : List ℕ) (ss : List Scoped) → AreOnce ss → under q ss ≡ g ∷ ys → under g ss ≡ ys
under_next q g ys [] once is = absurd cc
under_next q g ys (s ∷ ss) once is = elim (s.handle == q) as (λ b. (s.handle == q) ≡ b → under g (s ∷ ss) ≡ ys) [
  | true ↦ λ e.
      let here : scope_of s.label ss ≡ g ∷ ys = sym (under_hit q s ss e) ∙ is in
      under_miss g s ss (apart_from g s.label s ss once (first_has g (scope_of s.label ss) ys here)) ∙ under_first s.label g ys ss (once_rest s ss once) here
  | false ↦ λ e.
      let here : under q ss ≡ g ∷ ys = sym (under_miss q s ss e) ∙ is in
      under_miss g s ss (stands_apart e here) ∙ under_next q g ys ss (once_rest s ss once) here
] refl
  where
    -- what is under a handle stands in a scope
    in_under : (q g : ℕ) (ss : List Scoped) → has g (under q ss) ≡ true → times_in g ss ≡ 0 → ⊥
    in_under q g [] here none = absurd cc
    in_under q g (z ∷ zs) here none = elim (z.handle == q) as (λ b. (z.handle == q) ≡ b → ⊥) [
      | true ↦ λ e. clash (has g (scope_of z.label zs)) (sym (ap (has g) (under_hit q z zs e)) ∙ here) (absent g z.label zs (omega (arith, none)))
      | false ↦ λ e. in_under q g zs (sym (ap (has g) (under_miss q z zs e)) ∙ here) (omega (arith, none))
    ] refl

    stands_apart : (s.handle == q) ≡ false → under q ss ≡ g ∷ ys → (s.handle == g) ≡ false
    stands_apart e here = elim (s.handle == g) as (λ b. (s.handle == g) ≡ b → b ≡ false) [
      | true ↦ λ f. absurd (in_under q g ss (first_has g (under q ss) ys here) (no_times s ss g once f))
      | false ↦ λ f. refl
    ] refl

-- ---- a walk to the end of a scope
first_is : (xs : List ℕ) (g : ℕ) → first_of xs ≡ Some g → (ys : List ℕ) × (xs ≡ g ∷ ys)
first_is [] g is = absurd cc
first_is (x ∷ xs) g is = (xs, ap (λ k. k ∷ xs) (ap (λ (o : Option ℕ). of o) is))
  where
    of : Option ℕ → ℕ
    of None = 0
    of (Some y) = y

none_is : (xs : List ℕ) → first_of xs ≡ None → xs ≡ []
none_is [] is = refl
none_is (x ∷ xs) is = absurd cc

module _ (ss : List Scoped) (once : AreOnce ss) where
  -- it begins at the handle made last
  pub lowest_first : (t g : ℕ) → first_of (scope_of t ss) ≡ Some g → above_of None (Some g) (under g ss) ≡ above_of None None (scope_of t ss)
  lowest_first t g is =
      let r = first_is (scope_of t ss) g is in
      ap (above_of None (Some g)) (under_first t g r.0 ss once r.1) ∙ sym (ap (above_of None None) r.1)

  -- goes on to the one made just before
  pub lowest_next : (q g : ℕ) → earlier_in q ss ≡ Some g → above_of None (Some g) (under g ss) ≡ above_of None (Some q) (under q ss)
  lowest_next q g is =
      let r = first_is (under q ss) g (sym (earlier_under q ss) ∙ is) in
      ap (above_of None (Some g)) (under_next q g r.0 ss once r.1) ∙ sym (ap (above_of None (Some q)) r.1)

  pub lowest_fewer : (q g : ℕ) → earlier_in q ss ≡ Some g → length (under g ss) < length (under q ss)
  lowest_fewer q g is =
      let r = first_is (under q ss) g (sym (earlier_under q ss) ∙ is) in
      omega (arith, ap length (under_next q g r.0 ss once r.1), ap length r.1)

  -- and ends where none was
  pub lowest_last : (q : ℕ) → earlier_in q ss ≡ None → above_of None (Some q) (under q ss) ≡ Some q
  lowest_last q is = ap (above_of None (Some q)) (none_is (under q ss) (sym (earlier_under q ss) ∙ is))

pub lowest_none : (t : ℕ) (ss : List Scoped) → first_of (scope_of t ss) ≡ None → above_of None None (scope_of t ss) ≡ None
lowest_none t ss is = ap (above_of None None) (none_is (scope_of t ss) is)
