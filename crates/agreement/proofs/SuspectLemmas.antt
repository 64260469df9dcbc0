-- Heaps that differ at no object, and those that differ at most at the objects that stand in one of them.
use Rattle.std.proofs.Common.{◌≡◌, ℕ, List, [], ◌++◌, refl, ap, ◌∙◌, sym, false}
use Rattle.std.specs.Prelude.{◌||◌, Option, Some, None, is_some}
use Rattle.std.specs.Cmp.{nat_cmp_total}
use Rattle.std.specs.FinMap.{get, keys, same_map, nat_cmp-IsAntisymmetric, contains_key-keys}
use Rattle.trace_types.specs.declared.slots.Entry.{Entry}
use Rattle.ownership_model.specs.State.{State}
use Rattle.ownership_model.specs.Reach.{has}
use Rattle.ownership_model.specs.Agrees.{HaveSameRoots}
use Rattle.ownership_model.specs.Touched.{AgreeOutside}
use Rattle.ownership_model.proofs.Searching.{has-append, has_as_any}
use Rattle.agreement.proofs.GatheringLemmas.{neither_left, neither_right}

-- with the same roots and no suspect two states are one
pub no_suspects : (new old : State) (xs : List ℕ) → xs ≡ [] → HaveSameRoots new old → AgreeOutside xs new old → new ≡ old
no_suspects new old xs none roots outside =
    let objects : new.objects ≡ old.objects = same_map nat_cmp_total nat_cmp-IsAntisymmetric new.objects old.objects (λ q. outside q (ap (has q) none)) in
    λ i. record { handles = roots.handles i; cells = roots.cells i; objects = objects i; scopes = roots.scopes i }

nothing_there : (m : State) (q : ℕ) → has q (keys m.objects) ≡ false → get m.objects q ≡ None
nothing_there m q n = none (get m.objects q) (contains_key-keys m.objects q ∙ has_as_any q (keys m.objects) ∙ n)
  where
    none : (x : Option Entry) → is_some x ≡ false → x ≡ None
    none None h = refl
    none (Some e) h = absurd cc

-- at a number that neither has they don't differ
pub all_suspects : (new old : State) (xs ys zs : List ℕ) → xs ≡ keys new.objects → ys ≡ keys old.objects → zs ≡ xs ++ ys → AgreeOutside zs new old
all_suspects new old xs ys zs in_new in_old both q n =
    let apart : (has q xs || has q ys) ≡ false = sym (has-append q xs ys) ∙ ap (has q) (sym both) ∙ n in
    nothing_there new q (ap (has q) (sym in_new) ∙ neither_left (has q xs) (has q ys) apart) ∙ sym (nothing_there old q (ap (has q) (sym in_old) ∙ neither_right (has q xs) (has q ys) apart))
