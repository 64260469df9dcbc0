-- The laws of reach, leaks and holders.
use Rattle.std.proofs.Common.{◌≡◌, ℕ, List, [], ◌∷◌, refl, ◌∙◌, sym, arith, Bool, true, false}
use Rattle.std.specs.Prelude.{◌↔◌, ◌&&◌, not, Option, Some, None, filter, is_some}
use Rattle.std.proofs.lemmas.Bool.Decides.{nat_tests}
use Rattle.std.specs.FinMap.{get, keys, contains_key-keys}
use Rattle.trace_types.specs.declared.slots.Entry.{Entry}
use Rattle.ownership_model.specs.State.{State, is_alive}
use Rattle.ownership_model.specs.declared.link.Link.{Link}
use Rattle.ownership_model.specs.declared.link.Link.TheVariants.{StrongOnly}
use Rattle.ownership_model.specs.Reach.{Reaches, is_reached, has}
use Rattle.ownership_model.specs.Leaks.{leaked_in}
use Rattle.ownership_model.specs.ReachLaws.{ReachIsLeast, LeakedAreUnreached}
use Rattle.ownership_model.proofs.Searching.{has_as_any}
use Rattle.ownership_model.proofs.ReachedLemmas.{reached, has_reached, is_reach}

least : (by : Link) (m : State) (o : ℕ) → (is_reached by m o ≡ true) ↔ Reaches by m o
least by m o = (λ h. (reached by m).reached o h, λ r. has_reached by m (λ q. is_reached by m q) (reached by m) o r)

pub reach_holds : ReachIsLeast
reach_holds = record { reached = least; only = is_reach }

has-filter : (o : ℕ) (p : ℕ → Bool) (xs : List ℕ) → has o (filter p xs) ≡ (p o && has o xs)
has-filter o p [] = grind arith
has-filter o p (x ∷ xs) = grind (arith, nat_tests, has-filter o p xs)

alive_is_there : (e : Option Entry) → is_alive e ≡ true → is_some e ≡ true
alive_is_there None h = absurd cc
alive_is_there (Some e) h = refl

and_left : (a b : Bool) → (a && b) ≡ true → a ≡ true
and_left true b h = refl
and_left false b h = absurd cc

pub and_right : (a b : Bool) → (a && b) ≡ true → b ≡ true
and_right true b h = h
and_right false b h = absurd cc

not_both : (b : Bool) → not b ≡ true → b ≡ true → ⊥
not_both true h g = cc
not_both false h g = cc

is_not : (b : Bool) → (b ≡ true → ⊥) → not b ≡ true
is_not true h = absurd (h refl)
is_not false h = refl

pub unreached : LeakedAreUnreached
unreached m o =
    let same : has o (leaked_in (λ q. is_reached StrongOnly m q) m (keys m.objects)) ≡ ((is_alive (get m.objects o) && not (is_reached StrongOnly m o)) && has o (keys m.objects)) =
    has-filter o (λ q. is_alive (get m.objects q) && not (is_reached StrongOnly m q)) (keys m.objects) in (
      λ h.
          let test : (is_alive (get m.objects o) && not (is_reached StrongOnly m o)) ≡ true = and_left _ (has o (keys m.objects)) (sym same ∙ h) in
          record {
            alive = and_left (is_alive (get m.objects o)) (not (is_reached StrongOnly m o)) test;
            unreached = λ r. not_both (is_reached StrongOnly m o) (and_right (is_alive (get m.objects o)) (not (is_reached StrongOnly m o)) test) ((least StrongOnly m o).1 r);
          },
      λ l.
          let there : has o (keys m.objects) ≡ true = sym (has_as_any o (keys m.objects)) ∙ sym (contains_key-keys m.objects o) ∙ alive_is_there (get m.objects o) l.alive in
          let apart : not (is_reached StrongOnly m o) ≡ true = is_not (is_reached StrongOnly m o) (λ h. l.unreached ((least StrongOnly m o).0 h)) in
          same ∙ grind (arith, nat_tests, there, apart, l.alive),
    )
