-- What an object in a cycle retains is apart from what one in another cycle retains: what the one retains, less what the other does, is
-- still closed, and has the one.
use Rattle.std.proofs.Common.{◌≡◌, ℕ, refl, sym, subst, arith, Bool, true, false, inl, inr}
use Rattle.std.specs.Prelude.{◌⊎◌, ◌==◌, ◌&&◌, not}
use Rattle.std.proofs.lemmas.Bool.Decides.{nat_tests}
use Rattle.ownership_model.specs.State.{State}
use Rattle.ownership_model.specs.Falling.{FallsWith, IsClosed}
use Rattle.retention_model.specs.Cycles.{IsInCycle, AreInOneCycle}
use Rattle.retention_model.specs.Retained.{IsRetained}
use Rattle.retention_laws.specs.Laws.{CyclesRetainApart}
use Rattle.retention_laws.proofs.LeadLemmas.{Holds, Leads, leads, leads_told, told_leads, leads_one, leads_on, last_holder, leads_keeps, keeps_leads}
use Rattle.retention_laws.proofs.HolderLemmas.{has_holder_field}

same_number : (p o : ℕ) → (p == o) ≡ true → p ≡ o
same_number p o e = grind (arith, nat_tests)

number_same : (o : ℕ) → (o == o) ≡ true
number_same o = grind (arith, nat_tests)

never : (b : Bool) → b ≡ true → b ≡ false → ⊥
never b p q = cc

both : (a b : Bool) → (a && b) ≡ true → (a ≡ true) × (b ≡ true)
both true b h = (refl, h)
both false b h = absurd cc

both_ways : (a b : Bool) → a ≡ true → b ≡ true → (a && b) ≡ true
both_ways true b e f = f
both_ways false b e f = absurd cc

is_not : (b : Bool) → (b ≡ true → ⊥) → not b ≡ true
is_not true f = absurd (f refl)
is_not false f = refl

not_so : (b : Bool) → not b ≡ true → b ≡ false
not_so true e = absurd cc
not_so false e = refl

-- the members of the first set that are none of the second
abbrev less : (ℕ → Bool) → (ℕ → Bool) → ℕ → Bool
less x y r = x r && not (y r)

is_less : (x y : ℕ → Bool) (r : ℕ) → x r ≡ true → (y r ≡ true → ⊥) → less x y r ≡ true
is_less x y r here out = both_ways (x r) (not (y r)) here (is_not (y r) out)

is_in : (x y : ℕ → Bool) (r : ℕ) → less x y r ≡ true → x r ≡ true
is_in x y r e = (both (x r) (not (y r)) e).0

is_out : (x y : ℕ → Bool) (r : ℕ) → less x y r ≡ true → y r ≡ false
is_out x y r e = not_so (y r) (both (x r) (not (y r)) e).1

-- what falls with these falls with the first set
falls_more : (m : State) (x y : ℕ → Bool) (r : ℕ) → FallsWith m (less x y) r → FallsWith m x r
falls_more m x y r f = record { alive = f.alive; unrooted = f.unrooted; held = λ h e. is_in x y h (f.held h e) }

-- all objects but those of the cycle of p
abbrev outside : State → ℕ → ℕ → Bool
outside m p r = not (leads m p r && leads m r p)

-- what falls with these is one of them: an object of the cycle is held by one of the cycle
inside_closed : (m : State) (p : ℕ) → Leads m p p → IsClosed m (outside m p)
inside_closed m p cycle r f = is_not (leads m p r && leads m r p) within
  where
    from_p : (h : ℕ) → (h ≡ p) ⊎ Leads m p h → Leads m p h
    from_p h (inl e) = subst (λ t. Leads m p t) (sym e) cycle
    from_p h (inr way) = way

    within : (leads m p r && leads m r p) ≡ true → ⊥
    within e =
        let each = both (leads m p r) (leads m r p) e in
        let last = last_holder m p r (leads_told m p r each.0) in
        let there : leads m p last.0 ≡ true = told_leads m p last.0 (from_p last.0 last.1) in
        let back : leads m last.0 p ≡ true = told_leads m last.0 p (leads_on m last.0 r p (leads_one m last.0 r last.2) (leads_told m r p each.1)) in
        never (leads m p last.0 && leads m last.0 p) (both_ways (leads m p last.0) (leads m last.0 p) there back) (not_so (leads m p last.0 && leads m last.0 p) (f.held last.0 last.2))

-- What o retains.
module _ (m : State) (o : ℕ) (x : ℕ → Bool) (is : IsRetained m o x) where
  -- what holds another member is a member
  member_held : (q : ℕ) → x q ≡ true → (q ≡ o → ⊥) → (h : ℕ) → Holds m h q → x h ≡ true
  member_held q member other h held = by_test (x h) refl
    where
      here : less x (λ r. r == q) o ≡ true
      here = is_less x (λ r. r == q) o is.itself (λ e. other (sym (same_number o q e)))

      closed : x h ≡ false → IsClosed m (less x (λ r. r == q))
      closed out r f = is_less x (λ t. t == q) r (is.closed r (falls_more m x (λ t. t == q) r f))
          (λ e. never (x h) (is_in x (λ t. t == q) h (f.held h (subst (λ t. Holds m h t) (sym (same_number r q e)) held))) out)

      by_test : (b : Bool) → x h ≡ b → b ≡ true
      by_test true e = refl
      by_test false out = absurd (never (q == q) (number_same q) (is_out x (λ r. r == q) q (is.least (less x (λ r. r == q)) here (closed out) q member)))

  -- no object of another cycle is one
  none_of_other : (p : ℕ) → IsInCycle m o → IsInCycle m p → (AreInOneCycle m o p → ⊥) → x p ≡ true → ⊥
  none_of_other p own other apart member =
      never (leads m p p && leads m p p) (both_ways (leads m p p) (leads m p p) itself itself)
      (not_so (leads m p p && leads m p p) (is.least (outside m p) here (inside_closed m p (keeps_leads m p p other.1)) p member))
    where
      itself : leads m p p ≡ true
      itself = told_leads m p p (keeps_leads m p p other.1)

      here : outside m p o ≡ true
      here = is_not (leads m p o && leads m o p) (λ e.
          let each = both (leads m p o) (leads m o p) e in
          apart (own.0, other.0, leads_keeps m o p (leads_told m o p each.1), leads_keeps m p o (leads_told m p o each.0)))

pub retain_apart : CyclesRetainApart
retain_apart m o p x y sound own other apart is_x is_y q in_x in_y = never (y q) in_y (is_out x y q (is_x.least (less x y) here closed q in_x))
  where
    here : less x y o ≡ true
    here = is_less x y o is_x.itself (none_of_other m p y is_y o other own (λ one. apart (one.1, one.0, one.3, one.2)))

    unheld : (r : ℕ) → FallsWith m (less x y) r → x r ≡ true → y r ≡ true → ⊥
    unheld r f in_one in_other =
        let holder = has_holder_field m r sound f.alive f.unrooted in
        let not_p : r ≡ p → ⊥ = λ e. none_of_other m o x is_x p own other apart (subst (λ t. x t ≡ true) e in_one) in
        never (y holder.0) (member_held m p y is_y r in_other not_p holder.0 holder.1) (is_out x y holder.0 (f.held holder.0 holder.1))

    closed : IsClosed m (less x y)
    closed r f = let in_one : x r ≡ true = is_x.closed r (falls_more m x y r f) in is_less x y r in_one (unheld r f in_one)
