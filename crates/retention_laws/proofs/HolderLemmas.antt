-- An object that is alive and that no handle and no cell holds is held by a field.
use Rattle.std.proofs.Common.{◌≡◌, ℕ, List, [], ◌∷◌, refl, sym, ap, ◌∙◌, subst, arith, Bool, true, false}
use Rattle.std.specs.Prelude.{Option, Some, None, slice_get}
use Rattle.std.specs.FinMap.{get}
use Rattle.std.proofs.lemmas.Bool.Decides.{nat_tests}
use Rattle.trace_types.specs.declared.slots.Slot.TheVariants.{Strong}
use Rattle.trace_types.specs.declared.slots.Entry.{Entry}
use Rattle.trace_types.specs.declared.slots.Entry.TheVariants.{Alive, Husk}
use Rattle.ownership_model.specs.Totals.{total}
use Rattle.ownership_model.specs.State.{State, strong, weak, ends, names_alike, entry_weight, is_alive, IsSound, IsSoundAt}
use Rattle.ownership_model.specs.declared.link.Link.TheVariants.{StrongOnly}
use Rattle.ownership_model.specs.declared.leaks.Holder.{Holder}
use Rattle.ownership_model.specs.Reach.{has, root_names, field_names, entry_names}
use Rattle.ownership_model.specs.Leaks.{holders_of}
use Rattle.ownership_model.specs.ReachLaws.{HoldsAt, has_holder}
use Rattle.ownership_model.proofs.TotalLemmas.{total-zero}
use Rattle.ownership_model.proofs.NamedLemmas as count
use Rattle.ownership_model.proofs.LawsHold as model
use Rattle.retention_model.specs.Places.{field_at}
use Rattle.retention_model.proofs.WayLemmas.{named_entry, entry_named}
use Rattle.retention_laws.proofs.LeadLemmas.{Holds}

-- what is alive is named strongly
named_strongly : (s w e : ℕ) (x : Option Entry) → is_alive x ≡ true → IsSoundAt s w e x → s ≡ 0 → ⊥
named_strongly s w e None alive sound none = absurd cc
named_strongly s w e (Some (Alive fields)) alive sound none = omega (arith, sound.0, none)
named_strongly s w e (Some Husk) alive sound none = absurd cc

-- what has a field is alive
pub holder_alive : (m : State) (h o : ℕ) → Holds m h o → is_alive (get m.objects h) ≡ true
holder_alive m h o held = by_entry (get m.objects h) held
  where
    by_entry : (x : Option Entry) → has o (entry_names StrongOnly x) ≡ true → is_alive x ≡ true
    by_entry None e = absurd cc
    by_entry (Some (Alive fields)) e = refl
    by_entry (Some Husk) e = absurd cc

held_at : (m : State) (o p i : ℕ) → HoldsAt m o p i → Holds m p o
held_at m o p i it = entry_named (get m.objects p) i o (ap (λ (x : Option Entry). field_at x i) it.alive ∙ it.held)

entry_held : (x : Option Entry) (i : ℕ) (o : ℕ) → field_at x i ≡ Some (Strong o) → (fields : _) × (x ≡ Some (Alive fields)) × (slice_get fields i ≡ Some (Strong o))
entry_held None i o e = absurd cc
entry_held (Some (Alive fields)) i o e = (fields, refl, e)
entry_held (Some Husk) i o e = absurd cc

module _ (m : State) (o : ℕ) where
  told : (p : ℕ) → Holds m p o → (i : ℕ) × (has_holder p i (holders_of m o) ≡ true)
  told p held =
      let it = named_entry (get m.objects p) o held in
      let stands = entry_held (get m.objects p) it.0 o it.1 in
      (it.0, (model.holders m o p it.0).1 (record { fields = stands.0; alive = stands.1; held = stands.2 }))

  -- where no field holds it
  unheld : holders_of m o ≡ [] → (p : ℕ) → has o (field_names StrongOnly m p) ≡ false
  unheld none p = by_test (has o (field_names StrongOnly m p)) refl
    where
      by_test : (b : Bool) → has o (field_names StrongOnly m p) ≡ b → b ≡ false
      by_test true e = absurd (let it = told p e in let empty : has_holder p it.0 [] ≡ true = subst (λ hs. has_holder p it.0 hs ≡ true) none it.1 in cc)
      by_test false e = refl

  pub has_holder_field : IsSound m [] → is_alive (get m.objects o) ≡ true → has o (root_names StrongOnly m) ≡ false → (h : ℕ) × Holds m h o
  has_holder_field sound alive unrooted = by_holders (holders_of m o) refl
    where
      by_holders : (hs : List Holder) → holders_of m o ≡ hs → (h : ℕ) × Holds m h o
      by_holders [] none =
          let roots = count.roots_unnamed m o unrooted in
          let fields : total (entry_weight (names_alike (Strong o))) m.objects ≡ 0 =
          total-zero (entry_weight (names_alike (Strong o))) m.objects (λ p. count.none_named _ _ (count.named_entry o (get m.objects p)) (unheld none p)) in
          absurd (named_strongly (strong m [] o) (weak m [] o) (ends o []) (get m.objects o) alive (sound.counts o) (omega (arith, roots.0, roots.1, fields)))
      by_holders (x ∷ xs) some =
          let it : has_holder x.object x.field (x ∷ xs) ≡ true = grind (arith, nat_tests) in
          (x.object, held_at m o x.object x.field ((model.holders m o x.object x.field).0 (subst (λ hs. has_holder x.object x.field hs ≡ true) (sym some) it)))
