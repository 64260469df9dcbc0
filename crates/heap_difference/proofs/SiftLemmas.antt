-- Numbers that are sifted one after another, and handles that leave a difference one after another.
use Rattle.std.proofs.Common.{◌≡◌, ℕ, ◌+◌, ◌<◌, List, [], ◌∷◌, ◌++◌, length, take, get_or, add-one, refl, ap, ◌∙◌, sym, subst, arith, Bool, true, false, cond}
use Rattle.std.proofs.lemmas.Bool.Decides.{nat_tests}
use Rattle.std.specs.Ordering.{nat_cmp, is_eq}
use Rattle.std.specs.Prelude.{◌==◌, ◌||◌, if◌then◌else◌}
use Rattle.std.specs.FinMap.{get}
use Rattle.std.proofs.Math.Seq.{take-suc}
use Rattle.ownership_model.specs.Reach.{has}
use Rattle.ownership_model.specs.State.{State}
use Rattle.ownership_model.proofs.Counting.{same_number}
use Rattle.ownership_model.proofs.Searching.{has-append, or_left, or_right, either}
use Rattle.heap_difference.specs.Sifts.{IsSifted}
use Rattle.heap_difference.specs.Differences.{AreScopesAlike, less, StandsAlike, AreHandlesFound}
use Rattle.heap_difference.proofs.Tests.{clash, left_false, right_false}
use Rattle.heap_difference.proofs.ScopeLemmas.{stands_still}

pub has_next : (xs : List ℕ) (i d q : ℕ) → i < length xs → has q (take (i + 1) xs) ≡ (has q (take i xs) || (get_or xs i d == q))
has_next xs i d q within = ap (λ k. has q (take k xs)) (add-one i) ∙ ap (has q) (take-suc xs i d within) ∙ has-append q (take i xs) (get_or xs i d ∷ []) ∙ last (has q (take i xs)) (get_or xs i d == q)
  where
    last : (a b : Bool) → (a || (b || false)) ≡ (a || b)
    last true b = refl
    last false true = refl
    last false false = refl

has_pushed : (q x : ℕ) (ys : List ℕ) → has q (ys ++ x ∷ []) ≡ (has q ys || (x == q))
has_pushed q x ys = has-append q ys (x ∷ []) ∙ last (has q ys) (x == q)
  where
    last : (a b : Bool) → (a || (b || false)) ≡ (a || b)
    last true b = refl
    last false true = refl
    last false false = refl

module _ (P : ℕ → Type 0) where
  pub sift_none : IsSifted P [] []
  sift_none = record { out = λ q h n. absurd cc; left = λ q h. absurd cc }

  -- one more is left
  pub sift_push : (xs ys : List ℕ) (i d : ℕ) → i < length xs → ¬ (P (get_or xs i d)) → IsSifted P (take i xs) ys → IsSifted P (take (i + 1) xs) (ys ++ get_or xs i d ∷ [])
  sift_push xs ys i d within isnt s = record {
    out = λ q h n.
        let x : ℕ = get_or xs i d in
        let none : (has q ys || (x == q)) ≡ false = sym (has_pushed q x ys) ∙ n in
        either (P q) (has q (take i xs)) (x == q) (sym (has_next xs i d q within) ∙ h)
        (λ t. s.out q t (left_false (has q ys) (x == q) none))
        (λ t. absurd (clash (x == q) t (right_false (has q ys) (x == q) none)));
    left = λ q h.
        let x : ℕ = get_or xs i d in
        either ((has q (take (i + 1) xs) ≡ true) × ¬ (P q)) (has q ys) (x == q) (sym (has_pushed q x ys) ∙ h)
        (λ t. (has_next xs i d q within ∙ or_left (has q (take i xs)) (x == q) (s.left q t).0, (s.left q t).1))
        (λ t. (has_next xs i d q within ∙ or_right (has q (take i xs)) (x == q) t, subst (λ z. ¬ (P z)) (same_number x q t) isnt));
  }

  -- one more is taken out
  pub sift_pass : (xs ys : List ℕ) (i d : ℕ) → i < length xs → P (get_or xs i d) → IsSifted P (take i xs) ys → IsSifted P (take (i + 1) xs) ys
  sift_pass xs ys i d within is s = record {
    out = λ q h n. either (P q) (has q (take i xs)) (get_or xs i d == q) (sym (has_next xs i d q within) ∙ h)
        (λ t. s.out q t n) (λ t. subst P (same_number (get_or xs i d) q t) is);
    left = λ q h. (has_next xs i d q within ∙ or_left (has q (take i xs)) (get_or xs i d == q) (s.left q h).0, (s.left q h).1);
  }

  -- the same numbers in another list
  pub sift_same : (all xs ys : List ℕ) → ((q : ℕ) → has q ys ≡ has q xs) → IsSifted P all xs → IsSifted P all ys
  sift_same all xs ys same s = record { out = λ q h n. s.out q h (sym (same q) ∙ n); left = λ q h. s.left q (sym (same q) ∙ h) }

-- ---- handles
-- of the handles those are in the set that may still differ: of those that were tried none stands alike
pub record AreLeft (all tried : List ℕ) (old new : State) (k : ℕ → Bool) : Type 0 where
  pub within : (h : ℕ) → k h ≡ true → has h all ≡ true
  pub held : (h : ℕ) → has h all ≡ true → k h ≡ false → get old.handles h ≡ get new.handles h
  pub scopes : AreScopesAlike k old new
  pub differ : (h : ℕ) → has h tried ≡ true → k h ≡ true → ¬ (StandsAlike k old new h)

module _ (all : List ℕ) (old new : State) where
  pub left_same : (tried : List ℕ) (j k : ℕ → Bool) → ((h : ℕ) → k h ≡ j h) → AreLeft all tried old new j → AreLeft all tried old new k
  left_same tried j k same l = subst (λ f. AreLeft all tried old new f) (λ i h. sym (same h) i) l

  -- before the first
  pub left_start : (k : ℕ → Bool) → ((h : ℕ) → k h ≡ has h all) → AreScopesAlike (λ h. has h all) old new → AreLeft all [] old new k
  left_start k same scopes =
      left_same [] (λ h. has h all) k same
      (record { within = λ h t. t; held = λ h t f. absurd (clash (has h all) t f); scopes = scopes; differ = λ h here t. absurd cc })

  was : (h g : ℕ) (k : ℕ → Bool) (b : Bool) → (if b then false else k g) ≡ true → k g ≡ true
  was h g k true t = absurd cc
  was h g k false t = t

  not_own : (h g : ℕ) (k : ℕ → Bool) → less k h g ≡ true → (h == g) ≡ false
  not_own h g k t = elim (h == g) as (λ b. (h == g) ≡ b → b ≡ false) [
    | true ↦ λ e. absurd (clash (less k h g) t (ap (λ b. if b then false else k g) e))
    | false ↦ λ e. refl
  ] refl

  -- one stands alike, and leaves
  pub left_less : (k : ℕ → Bool) (items : List ℕ) (i d : ℕ) → i < length items → StandsAlike k old new (get_or items i d) → AreLeft all (take i items) old new k
      → AreLeft all (take (i + 1) items) old new (less k (get_or items i d))
  left_less k items i d inside s l = let h : ℕ = get_or items i d in record {
    within = λ g t. l.within g (was h g k (h == g) t);
    held = λ g here gone. at g here (h == g) refl gone;
    scopes = s.scopes;
    differ = λ g here t same.
        l.differ g (tried g here t) (was h g k (h == g) t)
        (stands_still (less k h) k g old new (λ q more. was h q k (h == q) more) same);
  }
    where
      tried : (g : ℕ) → has g (take (i + 1) items) ≡ true → less k (get_or items i d) g ≡ true → has g (take i items) ≡ true
      tried g here t =
          either (has g (take i items) ≡ true) (has g (take i items)) (get_or items i d == g) (sym (has_next items i d g inside) ∙ here)
          (λ yes. yes) (λ own. absurd (clash (get_or items i d == g) own (not_own (get_or items i d) g k t)))

      at : (g : ℕ) → has g all ≡ true → (b : Bool) → (get_or items i d == g) ≡ b → (if b then false else k g) ≡ false → get old.handles g ≡ get new.handles g
      at g here true e gone = subst (λ z. get old.handles z ≡ get new.handles z) (same_number (get_or items i d) g e) s.held
      at g here false e gone = l.held g here gone

  -- one doesn't, and stays
  pub left_stays : (k : ℕ → Bool) (items : List ℕ) (i d : ℕ) → i < length items → ¬ (StandsAlike k old new (get_or items i d)) → AreLeft all (take i items) old new k → AreLeft all (take (i + 1) items) old new k
  left_stays k items i d inside isnt l = record {
    within = l.within;
    held = l.held;
    scopes = l.scopes;
    differ = λ g here t.
        either (¬ (StandsAlike k old new g)) (has g (take i items)) (get_or items i d == g) (sym (has_next items i d g inside) ∙ here)
        (λ yes. l.differ g yes t) (λ own. subst (λ z. ¬ (StandsAlike k old new z)) (same_number (get_or items i d) g own) isnt);
  }

  -- behind the last
  pub left_found : (k : ℕ → Bool) (rest : List ℕ) → AreLeft all all old new k → IsSifted (λ q. k q ≡ false) all rest → AreHandlesFound all old new rest
  left_found k rest l s = record {
    left = λ h t. ((s.left h t).0, subst (λ f. ¬ (StandsAlike f old new h)) (λ i g. same g i) (l.differ h (s.left h t).0 (same h ∙ t)));
    held = λ h here gone. l.held h here (s.out h here gone);
    scopes = subst (λ f. AreScopesAlike f old new) (λ i h. same h i) l.scopes;
  }
    where
      same : (h : ℕ) → k h ≡ has h rest
      same h = both (k h) (has h rest) refl refl
        where
          both : (a b : Bool) → k h ≡ a → has h rest ≡ b → a ≡ b
          both true true e f = refl
          both true false e f = absurd (clash (k h) e (s.out h (l.within h e) f))
          both false true e f = absurd ((s.left h f).1 e)
          both false false e f = refl

-- ---- sets
-- one number more
pub inserted_next : (j k : ℕ → Bool) (xs : List ℕ) (i d : ℕ) → i < length xs → ((q : ℕ) → j q ≡ has q (take i xs)) → ((q : ℕ) → k q ≡ cond (is_eq (nat_cmp (get_or xs i d) q)) true (j q)) → (q : ℕ) → k q ≡ has q (take (i + 1) xs)
inserted_next j k xs i d within so_far more q = more q ∙ turned (get_or xs i d) q (j q) ∙ ap (λ b. b || (get_or xs i d == q)) (so_far q) ∙ sym (has_next xs i d q within)
  where
    turned : (o q : ℕ) (b : Bool) → cond (is_eq (nat_cmp o q)) true b ≡ (b || (o == q))
    turned o q b = grind (arith, nat_tests)

-- one number less
pub removed_less : (j k : ℕ → Bool) (o : ℕ) → ((q : ℕ) → k q ≡ cond (is_eq (nat_cmp o q)) false (j q)) → (q : ℕ) → k q ≡ less j o q
removed_less j k o fewer q = fewer q ∙ turned (j q)
  where
    turned : (b : Bool) → cond (is_eq (nat_cmp o q)) false b ≡ (if o == q then false else b)
    turned b = grind (arith, nat_tests)
