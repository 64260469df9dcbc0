-- How objects join, one after another, until whatever their fields name is compared.
use Rattle.std.proofs.Common.{◌≡◌, ℕ, ◌+◌, ◌<◌, List, [], ◌∷◌, ◌++◌, length, take, get_or, add-one, refl, ap, ◌∙◌, sym, subst, arith, append_assoc, Bool, true, false}
use Rattle.std.specs.Prelude.{◌==◌, ◌||◌}
use Rattle.std.proofs.lemmas.List.{append-nil, take-append-le}
use Rattle.std.proofs.lemmas.Grind.{flat_map-append}
use Rattle.std.proofs.Math.Seq.{take-suc}
use Rattle.trace_types.specs.declared.slots.Slot.{Slot}
use Rattle.ownership_model.specs.declared.link.Link.TheVariants.{StrongOrWeak}
use Rattle.ownership_model.specs.State.{State}
use Rattle.ownership_model.specs.Reach.{has, named, slots_names, field_names}
use Rattle.ownership_model.proofs.Counting.{same_number}
use Rattle.ownership_model.proofs.Searching.{has-append, or_left, either}
use Rattle.agreement.specs.Gathering.{AgreeAt}
use Rattle.agreement.specs.Joining.{IsListed, AreCompared, Compares, IsJoined}
use Rattle.agreement.proofs.GatheringLemmas.{has_next}

contrary : (P : Type 0) (b : Bool) → b ≡ true → b ≡ false → P
contrary P true t f = absurd cc
contrary P false t f = absurd cc

-- what is listed stays so as the list grows
pub still_listed : (o : ℕ) (xs more ys : List ℕ) → ys ≡ xs ++ more → has o xs ≡ true → has o ys ≡ true
still_listed o xs more ys is h = ap (has o) is ∙ has-append o xs more ∙ or_left (has o xs) (has o more) h

not_before : (o : ℕ) (xs more ys : List ℕ) → ys ≡ xs ++ more → has o ys ≡ false → has o xs ≡ false
not_before o xs more ys is n = elim (has o xs) as (λ b. has o xs ≡ b → b ≡ false) [
  | true ↦ λ h. contrary (true ≡ false) (has o ys) (still_listed o xs more ys is h) n
  | false ↦ λ h. refl
] refl

the_one : (P : ℕ → Type 0) (o q : ℕ) → has q (o ∷ []) ≡ true → P o → P q
the_one P o q h p = either (P q) (o == q) false h (λ t. subst P (same_number o q t) p) (λ f. absurd cc)

module _ (new old : State) where
  pub compared_more : (names xs more ys : List ℕ) → ys ≡ xs ++ more → AreCompared new old names xs → AreCompared new old names ys
  compared_more names xs more ys is all o h n = all o h (not_before o xs more ys is n)

  -- nothing joins
  pub compares_now : (names xs : List ℕ) → AreCompared new old names xs → Compares new old names xs xs
  compares_now names xs all = record { more = []; grown = sym (append-nil xs); compared = all }

  pub compares_none : (xs : List ℕ) → Compares new old [] xs xs
  compares_none xs = compares_now [] xs (λ o h. absurd cc)

  pub compares_same : (object : ℕ) (xs : List ℕ) → AgreeAt new old object → Compares new old (object ∷ []) xs xs
  compares_same object xs same = compares_now (object ∷ []) xs (λ o h n. the_one (λ q. AgreeAt new old q) object o h same)

  -- one joins
  pub compares_one : (object : ℕ) (xs ys : List ℕ) → IsListed object xs ys → Compares new old (object ∷ []) xs ys
  compares_one object xs ys l = record {
    more = l.more;
    grown = l.grown;
    compared = λ o h n. contrary (AgreeAt new old o) (has o ys) (the_one (λ q. has q ys ≡ true) object o h l.listed) n;
  }

  -- first some names, and then others
  pub compares_both : (first then : List ℕ) (xs ys zs : List ℕ) → Compares new old first xs ys → Compares new old then ys zs → Compares new old (first ++ then) xs zs
  compares_both first then xs ys zs a b = record {
    more = a.more ++ b.more;
    grown = b.grown ∙ ap (λ vs. vs ++ b.more) a.grown ∙ append_assoc xs a.more b.more;
    compared = λ o h n. either (AgreeAt new old o) (has o first) (has o then) (sym (has-append o first then) ∙ h)
        (λ f. compared_more first ys b.more zs b.grown a.compared o f n) (λ t. b.compared o t n);
  }

  names_next : (slots : List Slot) (i : ℕ) (d : Slot) → i < length slots → slots_names StrongOrWeak (take (i + 1) slots) ≡ slots_names StrongOrWeak (take i slots) ++ named StrongOrWeak (get_or slots i d)
  names_next slots i d within =
      ap (λ k. slots_names StrongOrWeak (take k slots)) (add-one i) ∙ ap (slots_names StrongOrWeak) (take-suc slots i d within)
      ∙ flat_map-append (named StrongOrWeak) (take i slots) (get_or slots i d ∷ [])
      ∙ ap (λ ns. slots_names StrongOrWeak (take i slots) ++ ns) (append-nil (named StrongOrWeak (get_or slots i d)))

  -- one slot more
  pub compares_next : (slots : List Slot) (i : ℕ) (d : Slot) (xs ys zs : List ℕ) → i < length slots
      → Compares new old (slots_names StrongOrWeak (take i slots)) xs ys → Compares new old (named StrongOrWeak (get_or slots i d)) ys zs
      → Compares new old (slots_names StrongOrWeak (take (i + 1) slots)) xs zs
  compares_next slots i d xs ys zs within a b =
      subst (λ ns. Compares new old ns xs zs) (sym (names_next slots i d within))
      (compares_both (slots_names StrongOrWeak (take i slots)) (named StrongOrWeak (get_or slots i d)) xs ys zs a b)

  -- of the listed objects the first ones were taken: what their fields name is compared
  pub record IsJoining (objects : List ℕ) (taken : ℕ) (xs : List ℕ) : Type 0 where
    pub all : (q : ℕ) → has q objects ≡ true → has q xs ≡ true
    pub in_new : (p : ℕ) → has p (take taken xs) ≡ true → AreCompared new old (field_names StrongOrWeak new p) xs
    pub in_old : (p : ℕ) → has p (take taken xs) ≡ true → AreCompared new old (field_names StrongOrWeak old p) xs

  pub joining_start : (objects xs : List ℕ) → ((q : ℕ) → has q objects ≡ true → has q xs ≡ true) → IsJoining objects 0 xs
  joining_start objects xs all = record { all = all; in_new = λ p h. absurd cc; in_old = λ p h. absurd cc }

  -- the next one is taken
  pub joining_next : (objects : List ℕ) (i d : ℕ) (xs ys zs : List ℕ) → i < length xs → IsJoining objects i xs
      → Compares new old (field_names StrongOrWeak new (get_or xs i d)) xs ys → Compares new old (field_names StrongOrWeak old (get_or xs i d)) ys zs → IsJoining objects (i + 1) zs
  joining_next objects i d xs ys zs within so_far a b =
      let more : List ℕ = a.more ++ b.more in
      let grown : zs ≡ xs ++ more = b.grown ∙ ap (λ vs. vs ++ b.more) a.grown ∙ append_assoc xs a.more b.more in
      let taken : (p : ℕ) → has p (take (i + 1) zs) ≡ (has p (take i xs) || (get_or xs i d == p)) = λ p.
      ap (λ vs. has p (take (i + 1) vs)) grown ∙ ap (has p) (take-append-le (i + 1) xs more (omega (arith, within))) ∙ has_next xs i d p within in
      record {
        all = λ q h. still_listed q xs more zs grown (so_far.all q h);
        in_new = λ p h. either (AreCompared new old (field_names StrongOrWeak new p) zs) (has p (take i xs)) (get_or xs i d == p) (sym (taken p) ∙ h)
            (λ t. compared_more (field_names StrongOrWeak new p) xs more zs grown (so_far.in_new p t))
            (λ t. subst (λ q. AreCompared new old (field_names StrongOrWeak new q) zs) (same_number (get_or xs i d) p t) (compared_more (field_names StrongOrWeak new (get_or xs i d)) ys b.more zs b.grown a.compared));
        in_old = λ p h. either (AreCompared new old (field_names StrongOrWeak old p) zs) (has p (take i xs)) (get_or xs i d == p) (sym (taken p) ∙ h)
            (λ t. compared_more (field_names StrongOrWeak old p) xs more zs grown (so_far.in_old p t))
            (λ t. subst (λ q. AreCompared new old (field_names StrongOrWeak old q) zs) (same_number (get_or xs i d) p t) b.compared);
      }

  -- all were taken
  pub joining_end : (objects : List ℕ) (taken : ℕ) (xs : List ℕ) → take taken xs ≡ xs → IsJoining objects taken xs → IsJoined new old objects xs
  joining_end objects taken xs is so_far = record {
    all = so_far.all;
    in_new = λ p h. so_far.in_new p (ap (has p) is ∙ h);
    in_old = λ p h. so_far.in_old p (ap (has p) is ∙ h);
  }

-- the first of some objects are listed
pub listed_next : (objects : List ℕ) (i d : ℕ) (xs ys : List ℕ) → i < length objects → ((q : ℕ) → has q (take i objects) ≡ true → has q xs ≡ true) → IsListed (get_or objects i d) xs ys
    → (q : ℕ) → has q (take (i + 1) objects) ≡ true → has q ys ≡ true
listed_next objects i d xs ys within so_far l q h =
    either (has q ys ≡ true) (has q (take i objects)) (get_or objects i d == q) (sym (has_next objects i d q within) ∙ h)
    (λ t. still_listed q xs l.more ys l.grown (so_far q t)) (λ t. subst (λ p. has p ys ≡ true) (same_number (get_or objects i d) q t) l.listed)
