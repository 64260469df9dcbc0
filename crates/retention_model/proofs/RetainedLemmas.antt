-- What an object retains is what falls where nothing names it strongly any more.
use Rattle.std.proofs.Common.{◌≡◌, ℕ, refl, sym, ap, ◌∙◌, subst, arith, Bool, true, false}
use Rattle.std.specs.Prelude.{◌==◌, ◌&&◌, ◌↔◌, not}
use Rattle.std.proofs.lemmas.Bool.Decides.{nat_tests}
use Rattle.std.specs.FinMap.{get}
use Rattle.ownership_model.specs.State.{State, is_alive}
use Rattle.ownership_model.specs.declared.link.Link.TheVariants.{StrongOnly}
use Rattle.ownership_model.specs.Reach.{has, root_names, field_names}
use Rattle.ownership_model.specs.Falling.{FallsWith, IsClosed, IsLeastClosed}
use Rattle.retention_model.specs.Retained.{IsRetained, IsWithout}

same_number : (p o : ℕ) → (p == o) ≡ true → p ≡ o
same_number p o e = grind (arith, nat_tests)

number_same : (o : ℕ) → (o == o) ≡ true
number_same o = grind (arith, nat_tests)

-- n is m without the strong slots of o, which is alive
module _ (m n : State) (o : ℕ) (alive : is_alive (get m.objects o) ≡ true) (less : IsWithout m n o) where
  -- another object has the names that it had
  kept_name : (b : Bool) (p : ℕ) → (p == o) ≡ false → (not (p == o) && b) ≡ b
  kept_name b p apart = ap (λ c. not c && b) apart

  -- the object itself has none
  no_name : (b : Bool) → (not (o == o) && b) ≡ false
  no_name b = ap (λ c. not c && b) (number_same o)

  itself_falls : (k : ℕ → Bool) → FallsWith n k o
  itself_falls k = record {
    alive = less.alive o ∙ alive;
    unrooted = less.roots o ∙ no_name (has o (root_names StrongOnly m));
    held = λ q named. let none : has o (field_names StrongOnly n q) ≡ false = less.fields q o ∙ no_name (has o (field_names StrongOnly m q)) in absurd cc;
  }

  falls_before : (k : ℕ → Bool) (p : ℕ) → (p == o) ≡ false → FallsWith n k p → FallsWith m k p
  falls_before k p apart falls = record {
    alive = sym (less.alive p) ∙ falls.alive;
    unrooted = sym (kept_name (has p (root_names StrongOnly m)) p apart) ∙ sym (less.roots p) ∙ falls.unrooted;
    held = λ q named. falls.held q (less.fields q p ∙ kept_name (has p (field_names StrongOnly m q)) p apart ∙ named);
  }

  falls_after : (k : ℕ → Bool) (p : ℕ) → (p == o) ≡ false → FallsWith m k p → FallsWith n k p
  falls_after k p apart falls = record {
    alive = less.alive p ∙ falls.alive;
    unrooted = less.roots p ∙ kept_name (has p (root_names StrongOnly m)) p apart ∙ falls.unrooted;
    held = λ q named. falls.held q (sym (kept_name (has p (field_names StrongOnly m q)) p apart) ∙ sym (less.fields q p) ∙ named);
  }

  by_number : (k : ℕ → Bool) (p : ℕ) (b : Bool) → (p == o) ≡ b → k o ≡ true → ((p == o) ≡ false → k p ≡ true) → k p ≡ true
  by_number k p true same here other = subst (λ q. k q ≡ true) (sym (same_number p o same)) here
  by_number k p false same here other = other same

  closed_before : (k : ℕ → Bool) → IsClosed n k → (k o ≡ true) × IsClosed m k
  closed_before k closed =
      let here : k o ≡ true = closed o (itself_falls k) in
      (here, λ p falls. by_number k p (p == o) refl here (λ apart. closed p (falls_after k p apart falls)))

  closed_after : (k : ℕ → Bool) → k o ≡ true → IsClosed m k → IsClosed n k
  closed_after k here closed p falls = by_number k p (p == o) refl here (λ apart. closed p (falls_before k p apart falls))

  falls_if_retained : (x : ℕ → Bool) → IsRetained m o x → IsLeastClosed n x
  falls_if_retained x is = record {
    closed = closed_after x is.itself is.closed;
    least = λ k closed. let old = closed_before k closed in is.least k old.0 old.1;
  }

  retained_if_falls : (x : ℕ → Bool) → IsLeastClosed n x → IsRetained m o x
  retained_if_falls x is = record {
    itself = (closed_before x is.closed).0;
    closed = (closed_before x is.closed).1;
    least = λ k here closed. is.least k (closed_after k here closed);
  }

  pub retained_falls : (x : ℕ → Bool) → IsRetained m o x ↔ IsLeastClosed n x
  retained_falls x = (falls_if_retained x, retained_if_falls x)
