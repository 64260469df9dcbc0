-- What is put in, one handle after another, and the handles just under those that are put in.
use Rattle.std.proofs.Common.{◌≡◌, ℕ, ◌+◌, ◌<◌, List, [], ◌∷◌, ◌++◌, length, take, get_or, append_assoc, refl, ap, ◌∙◌, sym, subst, arith, Bool, true, false}
use Rattle.std.proofs.lemmas.List.{append-nil}
use Rattle.std.specs.Prelude.{Option, Some, None, option_to_list, ◌==◌, ◌||◌, if◌then◌else◌, filter, not}
use Rattle.std.specs.FinMap.{get}
use Rattle.trace_types.specs.declared.slots.Scoped.{Scoped}
use Rattle.trace_types.specs.declared.slots.Holding.{Holding}
use Rattle.ownership_model.specs.Reach.{has}
use Rattle.ownership_model.specs.State.{State, IsSound}
use Rattle.ownership_model.specs.Scopes.{times_in, times_held}
use Rattle.ownership_model.proofs.Counting.{same_number}
use Rattle.ownership_model.proofs.Scoping.{hit_is}
use Rattle.ownership_model.proofs.Searching.{either}
use Rattle.object_heap.specs.Links.{first_of, label_in, under}
use Rattle.object_heap.specs.declared.put.Put.{Put}
use Rattle.heap_difference.specs.declared.key_set.KeySet.{KeySet}
use Rattle.heap_difference.specs.KeySets.{handles_alone, share_one, meet}
use Rattle.heap_difference.specs.Differences.{less}
use Rattle.heap_difference.specs.Puts.{ArePuts, IsPutOf, IsUnderApart, AreUndersApart, unders}
use Rattle.heap_difference.proofs.SiftLemmas.{has_next}
use Rattle.heap_difference.proofs.KeyLemmas.{some_same}
use Rattle.heap_difference.proofs.Tests.{clash, left_false, right_false}

-- ---- a handle that stands in no scope isn't held
none_in : (h : ℕ) (ss : List Scoped) → label_in h ss ≡ None → times_in h ss ≡ 0
none_in h [] is = refl
none_in h (s ∷ ss) is = elim (s.handle == h) as (λ b. (s.handle == h) ≡ b → times_in h (s ∷ ss) ≡ 0) [
  | true ↦ λ e. absurd (let hit : Some s.label ≡ None = sym (ap (λ b. if b then Some s.label else label_in h ss) e) ∙ is in cc)
  | false ↦ λ e.
      let rest : times_in h ss ≡ 0 = none_in h ss (sym (ap (λ b. if b then Some s.label else label_in h ss) e) ∙ is) in
      omega (arith, rest, hit_is s.handle h false e)
] refl

never_held : (x : Option Holding) → times_held x ≡ 0 → x ≡ None
never_held None none = refl
never_held (Some x) none = absurd (omega (arith, none))

pub unlabeled : (m : State) (h : ℕ) → IsSound m [] → label_in h m.scopes ≡ None → get m.handles h ≡ None
unlabeled m h sound none = never_held (get m.handles h) (sym (sound.scopes.once h) ∙ none_in h m.scopes none)

-- ---- handles are put in one after another
-- all is put that leads on from what was put already, and of the handles that were tried those left in the set are not held
pub record ArePutting (all tried : List ℕ) (m : State) (k : ℕ → Bool) (puts : List Put) : Type 0 where
  pub within : (h : ℕ) → k h ≡ true → has h all ≡ true
  pub unheld : (h : ℕ) → has h tried ≡ true → k h ≡ true → get m.handles h ≡ None
  pub on : (more : List Put) → ArePuts k m more → ArePuts (λ h. has h all) m (puts ++ more)

module _ (all : List ℕ) (m : State) where
  -- before the first
  pub put_start : (k : ℕ → Bool) → ((h : ℕ) → k h ≡ has h all) → ArePutting all [] m k []
  put_start k same = record {
    within = λ h t. sym (same h) ∙ t;
    unheld = λ h here t. absurd cc;
    on = λ more are. subst (λ f. ArePuts f m more) (λ i h. same h i) are;
  }

  was : (h g : ℕ) (k : ℕ → Bool) (b : Bool) → (if b then false else k g) ≡ true → k g ≡ true
  was h g k true t = absurd cc
  was h g k false t = t

  not_own : (h g : ℕ) (k : ℕ → Bool) → less k h g ≡ true → (h == g) ≡ false
  not_own h g k t = elim (h == g) as (λ b. (h == g) ≡ b → b ≡ false) [
    | true ↦ λ e. absurd (clash (less k h g) t (ap (λ b. if b then false else k g) e))
    | false ↦ λ e. refl
  ] refl

  -- one isn't put
  pub put_pass : (k : ℕ → Bool) (puts : List Put) (items : List ℕ) (i d : ℕ) → i < length items → IsPutOf k m (get_or items i d) None → ArePutting all (take i items) m k puts → ArePutting all (take (i + 1) items) m k puts
  put_pass k puts items i d inside none a = record {
    within = a.within;
    unheld = λ h here t.
        either (get m.handles h ≡ None) (has h (take i items)) (get_or items i d == h) (sym (has_next items i d h inside) ∙ here)
        (λ yes. a.unheld h yes t)
        (λ own. subst (λ z. k z ≡ true → get m.handles z ≡ None) (same_number (get_or items i d) h own) none t);
    on = a.on;
  }

  put_less : (k : ℕ → Bool) (puts : List Put) (items : List ℕ) (i d : ℕ) (p : Put) → i < length items → IsPutOf k m (get_or items i d) (Some p) → ArePutting all (take i items) m k puts
      → ArePutting all (take (i + 1) items) m (less k (get_or items i d)) (puts ++ p ∷ [])
  put_less k puts items i d p inside is a = let x : ℕ = get_or items i d in record {
    within = λ h t. a.within h (was x h k (x == h) t);
    unheld = λ h here t.
        either (get m.handles h ≡ None) (has h (take i items)) (x == h) (sym (has_next items i d h inside) ∙ here)
        (λ yes. a.unheld h yes (was x h k (x == h) t))
        (λ own. absurd (clash (x == h) own (not_own x h k t)));
    on = λ more are.
        subst (λ (ps : List Put). ArePuts (λ h. has h all) m ps) (sym (append_assoc puts (p ∷ []) more))
        (a.on (p ∷ more) (
          ap k is.0 ∙ is.1,
          ap (get m.handles) is.0 ∙ is.2,
          ap (λ h. label_in h m.scopes) is.0 ∙ is.3,
          is.4 ∙ sym (ap (λ h. first_of (filter (λ g. not (k g)) (under h m.scopes))) is.0),
          subst (λ h. ArePuts (less k h) m more) (sym is.0) are,
        ));
  }

  -- one is put, and leaves the set
  pub put_next : (j k : ℕ → Bool) (puts : List Put) (items : List ℕ) (i d : ℕ) (p : Put) → i < length items → IsPutOf k m (get_or items i d) (Some p) → ((h : ℕ) → j h ≡ less k (get_or items i d) h)
      → ArePutting all (take i items) m k puts → ArePutting all (take (i + 1) items) m j (puts ++ p ∷ [])
  put_next j k puts items i d p inside is same a =
      subst (λ f. ArePutting all (take (i + 1) items) m f (puts ++ p ∷ [])) (λ n h. sym (same h) n) (put_less k puts items i d p inside is a)

  -- behind the last
  pub put_all_of : (k : ℕ → Bool) (puts : List Put) → ArePutting all all m k puts → ArePuts (λ h. has h all) m puts
  put_all_of k puts a = subst (λ (ps : List Put). ArePuts (λ h. has h all) m ps) (append-nil puts) (a.on [] (λ h t. a.unheld h (a.within h t) t))

-- ---- handles under those that are put in
module _ (keys : KeySet) where
  apart_from : (puts : List Put) → share_one (unders puts) keys.handles ≡ false → AreUndersApart keys puts
  apart_from [] e = tt
  apart_from (p ∷ ps) e = by p.under refl e (λ f. apart_from ps f)
    where
      by : (o : Option ℕ) → p.under ≡ o → share_one (option_to_list o ++ unders ps) keys.handles ≡ false → (share_one (unders ps) keys.handles ≡ false → AreUndersApart keys ps) → IsUnderApart keys p × AreUndersApart keys ps
      by None is e rest = (λ b other. absurd (let none : None ≡ Some b = sym is ∙ other in cc), rest e)
      by (Some u) is e rest = (
        λ b other. subst (λ h. has h keys.handles ≡ false) (some_same u b (sym is ∙ other)) (left_false (has u keys.handles) (share_one (unders ps) keys.handles) e),
        rest (right_false (has u keys.handles) (share_one (unders ps) keys.handles) e),
      )

  apart_to : (puts : List Put) → AreUndersApart keys puts → share_one (unders puts) keys.handles ≡ false
  apart_to [] a = refl
  apart_to (p ∷ ps) a = by p.under refl (apart_to ps a.1)
    where
      by : (o : Option ℕ) → p.under ≡ o → share_one (unders ps) keys.handles ≡ false → share_one (option_to_list o ++ unders ps) keys.handles ≡ false
      by None is rest = rest
      by (Some u) is rest = ap (λ b. b || share_one (unders ps) keys.handles) (a.0 u is) ∙ rest

  or_false : (b : Bool) → (b || false) ≡ b
  or_false true = refl
  or_false false = refl

  -- a set of these handles meets the keys where one of them is among the keys
  unders_meet : (puts : List Put) → meet (handles_alone (unders puts)) keys ≡ share_one (unders puts) keys.handles
  unders_meet puts = or_false (share_one (unders puts) keys.handles)

  pub unders_apart : (puts : List Put) → meet (handles_alone (unders puts)) keys ≡ false → AreUndersApart keys puts
  unders_apart puts none = apart_from puts (sym (unders_meet puts) ∙ none)

  pub apart_unders : (puts : List Put) → AreUndersApart keys puts → meet (handles_alone (unders puts)) keys ≡ false
  apart_unders puts a = unders_meet puts ∙ apart_to puts a
