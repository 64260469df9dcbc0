-- Remains that are exchanged one after another, and remains without what is the same on both sides.
use Rattle.std.proofs.Common.{◌≡◌, ℕ, refl, ap, ◌∙◌, sym, Bool, true, false}
use Rattle.std.specs.Prelude.{Option, Some, None, ◌&&◌, ◌||◌, not, if◌then◌else◌, is_some}
use Rattle.std.specs.Cmp.{nat_cmp_total}
use Rattle.std.specs.FinMap.{get, same_map, nat_cmp-IsAntisymmetric}
use Rattle.trace_types.specs.declared.slots.Entry.{Entry}
use Rattle.ownership_model.specs.declared.remaining.Remaining.{Remaining}
use Rattle.ownership_model.specs.State.{State}
use Rattle.ownership_model.specs.Agrees.{is_remaining, AreKept}
use Rattle.ownership_model.specs.Patch.{Remains, IsRemains, remaining_at, patched, or_else, AreBoth, AreLess, AreThere, entry_of}
use Rattle.ownership_model.proofs.PatchLemmas.{get-patched}

same_state : (m n : State) → m.handles ≡ n.handles → m.cells ≡ n.cells → m.scopes ≡ n.scopes → ((q : ℕ) → get m.objects q ≡ get n.objects q) → m ≡ n
same_state m n handles cells scopes each =
    let objects : m.objects ≡ n.objects = same_map nat_cmp_total nat_cmp-IsAntisymmetric m.objects n.objects each in
    λ i. record { handles = handles i; cells = cells i; objects = objects i; scopes = scopes i }

-- a state with the objects that a patch has is the patch
pub is_patched : (m n : State) (x : Remains) → n.handles ≡ m.handles → n.cells ≡ m.cells → n.scopes ≡ m.scopes
    → ((q : ℕ) → get n.objects q ≡ or_else (entry_of (get x.added q)) (if is_some (get x.removed q) then None else get m.objects q)) → n ≡ patched m x
is_patched m n x handles cells scopes each = same_state n (patched m x) handles cells scopes (λ q. each q ∙ sym (get-patched m x q))

twice : (xa ya xr yr : Option Remaining) (e : Option Entry) →
    or_else (entry_of ya) (if is_some yr then None else or_else (entry_of xa) (if is_some xr then None else e))
    ≡ or_else (entry_of (or_else ya (if is_some yr then None else xa))) (if is_some (or_else xr yr) then None else e)
twice xa (Some a) xr yr e = refl
twice xa None None (Some r) e = refl
twice xa None (Some s) (Some r) e = refl
twice None None None None e = refl
twice (Some a) None None None e = refl
twice None None (Some s) None e = refl
twice (Some a) None (Some s) None e = refl

-- two exchanges are one
pub patched_both : (m : State) (x y z : Remains) → AreBoth x y z → patched (patched m x) y ≡ patched m z
patched_both m x y z both = is_patched m (patched (patched m x) y) z refl refl refl (λ q.
    get-patched (patched m x) y q
    ∙ ap (λ o. or_else (entry_of (get y.added q)) (if is_some (get y.removed q) then None else o)) (get-patched m x q)
    ∙ twice (get x.added q) (get y.added q) (get x.removed q) (get y.removed q) (get m.objects q)
    ∙ ap (λ o. or_else (entry_of o) (if is_some (or_else (get x.removed q) (get y.removed q)) then None else get m.objects q)) (sym (both.added q))
    ∙ ap (λ o. or_else (entry_of (get z.added q)) (if is_some o then None else get m.objects q)) (sym (both.removed q)))

fewer : (t : Bool) (a r : Option Remaining) (e : Option Entry) → (t ≡ true → entry_of a ≡ entry_of r) → (is_some r ≡ true → e ≡ entry_of r) →
    or_else (entry_of (if t then None else a)) (if is_some (if t then None else r) then None else e) ≡ or_else (entry_of a) (if is_some r then None else e)
fewer false a r e same there = refl
fewer true None None e same there = refl
fewer true None (Some r) e same there = there refl ∙ sym (same refl)
fewer true (Some a) None e same there = absurd (let f : Some a.entry ≡ None = same refl in cc)
fewer true (Some a) (Some r) e same there = there refl ∙ sym (same refl)

-- where what goes is there as it was, what is the same on both sides need not be exchanged
pub patched_less : (t : ℕ → Bool) (m : State) (x z : Remains) → AreLess t x z → AreThere m x → patched m z ≡ patched m x
patched_less t m x z less there = is_patched m (patched m z) x refl refl refl (λ q.
    get-patched m z q
    ∙ ap (λ o. or_else (entry_of o) (if is_some (get z.removed q) then None else get m.objects q)) (less.added q)
    ∙ ap (λ o. or_else (entry_of (if t q then None else get x.added q)) (if is_some o then None else get m.objects q)) (less.removed q)
    ∙ fewer (t q) (get x.added q) (get x.removed q) (get m.objects q) (less.same q) (there q))

stays_there : (k : Bool) (m : State) (q : ℕ) (n o later : Option Entry) (r : Option Remaining) → r ≡ (if k then None else remaining_at m q o) → (((is_some n || is_some o) && not k) ≡ true → later ≡ o) → is_some r ≡ true → later ≡ entry_of r
stays_there true m q n o later r is kept some = absurd (let none : is_some r ≡ false = ap is_some is in cc)
stays_there false m q n None later r is kept some = absurd (let none : is_some r ≡ false = ap is_some is in cc)
stays_there false m q None (Some e) later r is kept some = kept refl ∙ ap entry_of (sym is)
stays_there false m q (Some d) (Some e) later r is kept some = kept refl ∙ ap entry_of (sym is)

-- what is to go is there as it was, where the remains were kept
pub still_there : (k : ℕ → Bool) (new old later : State) (x : Remains) → IsRemains k new old x → AreKept (is_remaining k new old) old later → AreThere later x
still_there k new old later x is kept q = stays_there (k q) old q (get new.objects q) (get old.objects q) (get later.objects q) (get x.removed q) (is.removed q) (kept q)
