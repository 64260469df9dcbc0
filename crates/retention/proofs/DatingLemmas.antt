-- How objects get their dates: each step of the search keeps what the last loss says.
use Rattle.std.proofs.Common.{◌≡◌, ℕ, zero, suc, ◌+◌, ◌<◌, ◌≤◌, ◌≢◌, List, [], ◌∷◌, ◌++◌, length, replicate, refl, sym, ap, ◌∙◌, subst, arith, Bool, true, false, inl, inr, get_or-set_same, get_or-set_other, length-append}
use Rattle.std.specs.Prelude.{Option, Some, None, ◌⊎◌, ◌==◌, is_some, slice_set}
use Rattle.std.proofs.lemmas.Bool.Decides.{nat_tests}
use Rattle.std.proofs.lemmas.List.{length-set}
use Rattle.ownership_model.specs.Reach.{has}
use Rattle.ownership_model.proofs.Searching.{has-append, either, or_left, or_right}
use Rattle.retention.specs.declared.graph.Graph.{Graph}
use Rattle.retention.specs.declared.moves.Loss.{Loss}
use Rattle.retention.specs.Graph.{size, object_at, holds, IsFieldAt, start_at}
use Rattle.retention.specs.Dating.{is_marked, date_at, LeadsOn, LeadsOn.here, LeadsOn.on, LeadsTo, IsDatedBy, AreDated, IsClosed, IsDatedFrom, AreDistinct}
use Rattle.retention.specs.DatingSteps.{undated, IsDate, IsPlaceDated, IsTarget, AreDatedBefore, IsDating}

-- ---- lists of dates

no_date : (n i : ℕ) → date_at (replicate n None) i ≡ None
no_date zero i = refl
no_date (suc n) zero = refl
no_date (suc n) (suc i) = no_date n i

some_or_none : (d : Option ℕ) → (is_some d ≡ true) ⊎ (d ≡ None)
some_or_none None = inr refl
some_or_none (Some id) = inl refl

never_both : (d : Option ℕ) → is_some d ≡ true → d ≡ None → ⊥
never_both d some none = let not : is_some d ≡ false = ap is_some none in cc

set_same : (ds : List (Option ℕ)) (k id : ℕ) → k < length ds → date_at (slice_set ds k (Some id)) k ≡ Some id
set_same ds k id within = get_or-set_same ds k (Some id) None within

set_other : (ds : List (Option ℕ)) (k id j : ℕ) → j ≢ k → date_at (slice_set ds k (Some id)) j ≡ date_at ds j
set_other ds k id j apart = get_or-set_other ds k j (Some id) None apart

fewer : (ds : List (Option ℕ)) (k id : ℕ) → k < length ds → date_at ds k ≡ None → undated (slice_set ds k (Some id)) + 1 ≡ undated ds
fewer [] k id within none = absurd (omega (arith, within))
fewer (None ∷ ds) zero id within none = omega arith
fewer (Some d ∷ ds) zero id within none = absurd cc
fewer (d ∷ ds) (suc k) id within none = omega (arith, fewer ds k id (omega (arith, within)) none)

pub same_or_not : (j k : ℕ) → (j ≡ k) ⊎ (j ≢ k)
same_or_not j k = elim (j == k) as (λ b. (j == k) ≡ b → (j ≡ k) ⊎ (j ≢ k)) [
  | true ↦ λ e. inl (grind (arith, nat_tests, e))
  | false ↦ λ e. inr (λ same. grind (arith, nat_tests, e, same))
] refl

pub has_last : (k : ℕ) (xs : List ℕ) → has k (xs ++ k ∷ []) ≡ true
has_last k xs = has-append k xs (k ∷ []) ∙ or_right (has k xs) (has k (k ∷ [])) (grind (arith, nat_tests))

pub has_front : (j k : ℕ) (xs : List ℕ) → has j xs ≡ true → has j (xs ++ k ∷ []) ≡ true
has_front j k xs h = has-append j xs (k ∷ []) ∙ or_left (has j xs) (has j (k ∷ [])) h

pub only_last : (j k : ℕ) → has j (k ∷ []) ≡ true → j ≡ k
only_last j k h = grind (arith, nat_tests, h)

pub in_front : (P : Type 0) (j k : ℕ) (xs : List ℕ) → has j (xs ++ k ∷ []) ≡ true → (has j xs ≡ true → P) → (j ≡ k → P) → P
in_front P j k xs h f g = either P (has j xs) (has j (k ∷ [])) (sym (has-append j xs (k ∷ [])) ∙ h) f (λ e. g (only_last j k e))

-- ---- what leads on

pub leads_marked : (g : Graph) (marks : List Bool) (j i : ℕ) → LeadsOn g marks j i → is_marked marks j ≡ true
leads_marked g marks j i (here _ _ marked same) = marked
leads_marked g marks j i (on _ p k _ marked field hold rest) = marked

-- one field more
leads_more : (g : Graph) (marks : List Bool) (j i p k : ℕ) → LeadsOn g marks j i → IsFieldAt g i p → holds g p ≡ Some k → is_marked marks k ≡ true → LeadsOn g marks j k
leads_more g marks j i p k (here _ _ marked same) field hold here_too =
    on j p k k marked (subst (λ x. IsFieldAt g x p) (sym same) field) hold (here k k here_too refl)
leads_more g marks j i p k (on _ q l _ marked first held rest) field hold here_too = on j q l k marked first held (leads_more g marks l i p k rest field hold here_too)

-- what an object with a date leads to has one
pub closed_on : (g : Graph) (marks : List Bool) (ds : List (Option ℕ)) → IsClosed g marks ds → (j i : ℕ) → LeadsOn g marks j i → is_some (date_at ds j) ≡ true → is_some (date_at ds i) ≡ true
closed_on g marks ds closed j i (here _ _ marked same) dated = subst (λ x. is_some (date_at ds x) ≡ true) same dated
closed_on g marks ds closed j i (on _ p k _ marked field hold rest) dated =
    closed_on g marks ds closed k i rest (closed j p k dated field hold (leads_marked g marks k i rest))

-- ---- the fields of one object
module _ (g : Graph) (marks : List Bool) (j id : ℕ) where
  abbrev Before : (old new : List (Option ℕ)) (before after : List ℕ) (at : ℕ) → Type 0
  Before old new before after at = AreDatedBefore g marks j id old new before after at

  further : (at k : ℕ) → IsTarget g marks j at k → IsTarget g marks j (at + 1) k
  further at k it = (it.0, omega (arith, it.1), it.2, it.3, it.4)

  pub fields_start : (old : List (Option ℕ)) (before : List ℕ) (at : ℕ) → at ≡ start_at g j → Before old old before before at
  fields_start old before at first = record {
    long = refl;
    each = λ k. inl refl;
    kept = λ k h. h;
    only = λ k h. inl h;
    done = λ k it. absurd (omega (arith, it.1, it.2.0, first));
    work = omega arith;
  }

  -- the place holds nothing that is marked
  pub fields_skip : (old new : List (Option ℕ)) (before after : List ℕ) (at : ℕ) → Before old new before after at
      → ((k : ℕ) → holds g at ≡ Some k → is_marked marks k ≡ true → ⊥) → Before old new before after (at + 1)
  fields_skip old new before after at b none = record {
    long = b.long;
    each = λ k. told k (b.each k);
    kept = b.kept;
    only = λ k h. only k (b.only k h);
    done = λ k it. done k it (same_or_not it.0 at);
    work = b.work;
  }
    where
      told : (k : ℕ) → (date_at new k ≡ date_at old k) ⊎ ((date_at old k ≡ None) × (date_at new k ≡ Some id) × IsTarget g marks j at k × (has k after ≡ true))
          → (date_at new k ≡ date_at old k) ⊎ ((date_at old k ≡ None) × (date_at new k ≡ Some id) × IsTarget g marks j (at + 1) k × (has k after ≡ true))
      told k (inl same) = inl same
      told k (inr it) = inr (it.0, it.1, further at k it.2, it.3)

      only : (k : ℕ) → (has k before ≡ true) ⊎ IsTarget g marks j at k → (has k before ≡ true) ⊎ IsTarget g marks j (at + 1) k
      only k (inl h) = inl h
      only k (inr it) = inr (further at k it)

      done : (k : ℕ) (it : IsTarget g marks j (at + 1) k) → (it.0 ≡ at) ⊎ (it.0 ≢ at) → is_some (date_at new k) ≡ true
      done k it (inl same) = absurd (none k (subst (λ p. holds g p ≡ Some k) same it.3) it.4)
      done k it (inr other) = b.done k (it.0, omega (arith, it.1, other), it.2, it.3, it.4)

  -- the place holds the object t, which then has a date
  module _ (old new next : List (Option ℕ)) (before after todo : List ℕ) (at t : ℕ) (b : AreDatedBefore g marks j id old new before after at)
      (field : IsFieldAt g j at) (hold : holds g at ≡ Some t) (marked : is_marked marks t ≡ true) (within : t < length new) where
    target : (at' : ℕ) → at < at' → IsTarget g marks j at' t
    target at' less = (at, less, field, hold, marked)

    -- it had one
    had : is_some (date_at new t) ≡ true → next ≡ new → todo ≡ after → Before old next before todo (at + 1)
    had dated same same_too =
        subst (λ ds. Before old ds before todo (at + 1)) (sym same) (subst (λ xs. Before old new before xs (at + 1)) (sym same_too) (record {
          long = b.long;
          each = λ k. told k (b.each k);
          kept = b.kept;
          only = λ k h. only k (b.only k h);
          done = λ k it. done k it (same_or_not it.0 at);
          work = b.work;
        }))
      where
        told : (k : ℕ) → (date_at new k ≡ date_at old k) ⊎ ((date_at old k ≡ None) × (date_at new k ≡ Some id) × IsTarget g marks j at k × (has k after ≡ true))
            → (date_at new k ≡ date_at old k) ⊎ ((date_at old k ≡ None) × (date_at new k ≡ Some id) × IsTarget g marks j (at + 1) k × (has k after ≡ true))
        told k (inl same) = inl same
        told k (inr it) = inr (it.0, it.1, further at k it.2, it.3)

        only : (k : ℕ) → (has k before ≡ true) ⊎ IsTarget g marks j at k → (has k before ≡ true) ⊎ IsTarget g marks j (at + 1) k
        only k (inl h) = inl h
        only k (inr it) = inr (further at k it)

        held : (k : ℕ) → holds g at ≡ Some k → k ≡ t
        held k e = let both : Some k ≡ Some t = sym e ∙ hold in cc

        done : (k : ℕ) (it : IsTarget g marks j (at + 1) k) → (it.0 ≡ at) ⊎ (it.0 ≢ at) → is_some (date_at new k) ≡ true
        done k it (inl same) = subst (λ x. is_some (date_at new x) ≡ true) (sym (held k (subst (λ p. holds g p ≡ Some k) same it.3))) dated
        done k it (inr other) = b.done k (it.0, omega (arith, it.1, other), it.2, it.3, it.4)

    -- it had none
    new_each : (k : ℕ) → date_at new t ≡ None → (k ≡ t) ⊎ (k ≢ t)
        → (date_at new k ≡ date_at old k) ⊎ ((date_at old k ≡ None) × (date_at new k ≡ Some id) × IsTarget g marks j at k × (has k after ≡ true))
        → (date_at (slice_set new t (Some id)) k ≡ date_at old k) ⊎ ((date_at old k ≡ None) × (date_at (slice_set new t (Some id)) k ≡ Some id) × IsTarget g marks j (at + 1) k × (has k (after ++ t ∷ []) ≡ true))
    new_each k none (inl same) (inl e) =
        let was : date_at old k ≡ None = sym e ∙ ap (date_at new) same ∙ none in
        inr (was, ap (date_at (slice_set new t (Some id))) same ∙ set_same new t id within, subst (λ x. IsTarget g marks j (at + 1) x) (sym same) (target (at + 1) (omega arith)), subst (λ x. has x (after ++ t ∷ []) ≡ true) (sym same) (has_last t after))
    new_each k none (inl same) (inr it) = absurd (let no : Some id ≡ None = sym it.1 ∙ ap (date_at new) same ∙ none in cc)
    new_each k none (inr other) (inl e) = inl (set_other new t id k other ∙ e)
    new_each k none (inr other) (inr it) = inr (it.0, set_other new t id k other ∙ it.1, further at k it.2, has_front k t after it.3)

    new_only : (k : ℕ) → (has k before ≡ true) ⊎ IsTarget g marks j at k → (has k before ≡ true) ⊎ IsTarget g marks j (at + 1) k
    new_only k (inl h) = inl h
    new_only k (inr it) = inr (further at k it)

    new_done : (k : ℕ) (it : IsTarget g marks j (at + 1) k) → (it.0 ≡ at) ⊎ (it.0 ≢ at) → (k ≡ t) ⊎ (k ≢ t) → is_some (date_at (slice_set new t (Some id)) k) ≡ true
    new_done k it place (inl same) = ap is_some (ap (date_at (slice_set new t (Some id))) same ∙ set_same new t id within)
    new_done k it (inl same) (inr other) = absurd (other (let both : Some k ≡ Some t = sym (subst (λ p. holds g p ≡ Some k) same it.3) ∙ hold in cc))
    new_done k it (inr place) (inr other) = ap is_some (set_other new t id k other) ∙ b.done k (it.0, omega (arith, it.1, place), it.2, it.3, it.4)

    had_none : date_at new t ≡ None → next ≡ slice_set new t (Some id) → todo ≡ after ++ t ∷ [] → Before old next before todo (at + 1)
    had_none none same same_too =
        subst (λ ds. Before old ds before todo (at + 1)) (sym same) (subst (λ xs. Before old (slice_set new t (Some id)) before xs (at + 1)) (sym same_too) (record {
          long = length-set new t (Some id) ∙ b.long;
          each = λ k. new_each k none (same_or_not k t) (b.each k);
          kept = λ k h. has_front k t after (b.kept k h);
          only = λ k h. in_front ((has k before ≡ true) ⊎ IsTarget g marks j (at + 1) k) k t after h (λ e. new_only k (b.only k e)) (λ e. inr (subst (λ x. IsTarget g marks j (at + 1) x) (sym e) (target (at + 1) (omega arith))));
          done = λ k it. new_done k it (same_or_not it.0 at) (same_or_not k t);
          work = omega (arith, b.work, fewer new t id within none, length-append after (t ∷ []));
        }))

    pub fields_date : IsDate t id new next after todo → Before old next before todo (at + 1)
    fields_date (inl it) = had it.0 it.1 it.2
    fields_date (inr it) = had_none it.0 it.1 it.2

  pub fields_place : (old new next : List (Option ℕ)) (before after todo : List ℕ) (at : ℕ) → Before old new before after at → IsFieldAt g j at → IsPlaceDated g marks at id new next after todo → Before old next before todo (at + 1)
  fields_place old new next before after todo at b field (inl it) =
      subst (λ ds. Before old ds before todo (at + 1)) (sym it.1) (subst (λ xs. Before old new before xs (at + 1)) (sym it.2) (fields_skip old new before after at b it.0))
  fields_place old new next before after todo at b field (inr it) = fields_date old new next before after todo at it.0 b field it.1 it.2 it.3 it.4

  pub fields_end : (old new : List (Option ℕ)) (before after : List ℕ) (at end : ℕ) → at ≡ end → Before old new before after at → Before old new before after end
  fields_end old new before after at end same b = subst (λ x. Before old new before after x) same b

-- ---- the search from one object
module _ (g : Graph) (marks : List Bool) (x id : ℕ) (old : List (Option ℕ)) where
  abbrev Dating : List (Option ℕ) → List ℕ → Type 0
  Dating new todo = IsDating g marks x id old new todo

  had_date : IsClosed g marks old → is_some (date_at old x) ≡ true → Dating old []
  had_date closed dated = record {
    long = refl;
    open' = λ j p k there field hold marked. inl (closed j p k there field hold marked);
    each = λ k. inl refl;
    first = dated;
    waiting = λ k h. absurd cc;
  }

  -- the first to be dated
  module _ (closed : IsClosed g marks old) (none : date_at old x ≡ None) (within : x < length old) (there : x < size g) (marked : is_marked marks x ≡ true) where
    abbrev First : List (Option ℕ)
    First = slice_set old x (Some id)

    first_open : (j p k : ℕ) → (j ≡ x) ⊎ (j ≢ x) → (k ≡ x) ⊎ (k ≢ x) → is_some (date_at First j) ≡ true → IsFieldAt g j p → holds g p ≡ Some k → is_marked marks k ≡ true
        → (is_some (date_at First k) ≡ true) ⊎ (has j (x ∷ []) ≡ true)
    first_open j p k (inl same) it dated field hold here_too = inr (subst (λ y. has y (x ∷ []) ≡ true) (sym same) (has_last x []))
    first_open j p k (inr other) (inl same) dated field hold here_too = inl (ap is_some (ap (date_at First) same ∙ set_same old x id within))
    first_open j p k (inr other) (inr apart) dated field hold here_too =
        inl (ap is_some (set_other old x id k apart) ∙ closed j p k (ap is_some (sym (set_other old x id j other)) ∙ dated) field hold here_too)

    first_each : (k : ℕ) → (k ≡ x) ⊎ (k ≢ x) → (date_at First k ≡ date_at old k) ⊎ ((date_at old k ≡ None) × (date_at First k ≡ Some id) × LeadsOn g marks x k)
    first_each k (inl same) = inr (ap (date_at old) same ∙ none, ap (date_at First) same ∙ set_same old x id within, here x k marked (sym same))
    first_each k (inr other) = inl (set_other old x id k other)

    first_date : Dating First (x ∷ [])
    first_date = record {
      long = length-set old x (Some id);
      open' = λ j p k dated field hold here_too. first_open j p k (same_or_not j x) (same_or_not k x) dated field hold here_too;
      each = λ k. first_each k (same_or_not k x);
      first = ap is_some (set_same old x id within);
      waiting = λ k h. (subst (λ y. y < size g) (sym (only_last k x h)) there, here x k marked (sym (only_last k x h)));
    }

  pub dating_start : (new : List (Option ℕ)) (before todo : List ℕ) → IsClosed g marks old → x < length old → x < size g → is_marked marks x ≡ true → before ≡ [] → IsDate x id old new before todo → Dating new todo
  dating_start new before todo closed within there marked empty (inl it) =
      subst (λ ds. Dating ds todo) (sym it.1) (subst (λ xs. Dating old xs) (sym (it.2 ∙ empty)) (had_date closed it.0))
  dating_start new before todo closed within there marked empty (inr it) =
      subst (λ ds. Dating ds todo) (sym it.1) (subst (λ xs. Dating (slice_set old x (Some id)) xs) (sym (it.2 ∙ ap (λ xs. xs ++ x ∷ []) empty)) (first_date closed it.0 within there marked))

  -- one object is taken, and its fields are dated
  module _ (new next : List (Option ℕ)) (rest todo : List ℕ) (j : ℕ) (d : IsDating g marks x id old new (rest ++ j ∷ []))
      (sizes : (p : ℕ) → IsFieldAt g j p → (k : ℕ) → holds g p ≡ Some k → k < size g) (b : AreDatedBefore g marks j id new next rest todo (start_at g (j + 1))) where
    source : LeadsOn g marks x j
    source = (d.waiting j (has_last j rest)).1

    led : (k : ℕ) → IsTarget g marks j (start_at g (j + 1)) k → LeadsOn g marks x k
    led k it = leads_more g marks x j it.0 k source it.2 it.3 it.4

    still : (k : ℕ) → is_some (date_at new k) ≡ true → (date_at next k ≡ date_at new k) ⊎ ((date_at new k ≡ None) × (date_at next k ≡ Some id) × IsTarget g marks j (start_at g (j + 1)) k × (has k todo ≡ true))
        → is_some (date_at next k) ≡ true
    still k dated (inl same) = ap is_some same ∙ dated
    still k dated (inr it) = ap is_some it.1

    next_open : (i p k : ℕ) → IsFieldAt g i p → holds g p ≡ Some k → is_marked marks k ≡ true → (is_some (date_at new k) ≡ true) ⊎ (has i (rest ++ j ∷ []) ≡ true)
        → (is_some (date_at next k) ≡ true) ⊎ (has i todo ≡ true)
    next_open i p k field hold marked (inl dated) = inl (still k dated (b.each k))
    next_open i p k field hold marked (inr waits) =
        in_front ((is_some (date_at next k) ≡ true) ⊎ (has i todo ≡ true)) i j rest waits
        (λ e. inr (b.kept i e))
        (λ same. let own : IsFieldAt g j p = subst (λ y. IsFieldAt g y p) same field in inl (b.done k (p, own.1, own, hold, marked)))

    by_each : (i p k : ℕ) → is_some (date_at next i) ≡ true → IsFieldAt g i p → holds g p ≡ Some k → is_marked marks k ≡ true
        → (date_at next i ≡ date_at new i) ⊎ ((date_at new i ≡ None) × (date_at next i ≡ Some id) × IsTarget g marks j (start_at g (j + 1)) i × (has i todo ≡ true))
        → (is_some (date_at next k) ≡ true) ⊎ (has i todo ≡ true)
    by_each i p k dated field hold marked (inl same) = next_open i p k field hold marked (d.open' i p k (ap is_some (sym same) ∙ dated) field hold marked)
    by_each i p k dated field hold marked (inr it) = inr it.3

    next_each : (k : ℕ) → (date_at next k ≡ date_at new k) ⊎ ((date_at new k ≡ None) × (date_at next k ≡ Some id) × IsTarget g marks j (start_at g (j + 1)) k × (has k todo ≡ true))
        → (date_at new k ≡ date_at old k) ⊎ ((date_at old k ≡ None) × (date_at new k ≡ Some id) × LeadsOn g marks x k)
        → (date_at next k ≡ date_at old k) ⊎ ((date_at old k ≡ None) × (date_at next k ≡ Some id) × LeadsOn g marks x k)
    next_each k (inl same) (inl e) = inl (same ∙ e)
    next_each k (inl same) (inr it) = inr (it.0, same ∙ it.1, it.2)
    next_each k (inr now) (inl e) = inr (sym e ∙ now.0, now.1, led k now.2)
    next_each k (inr now) (inr it) = absurd (let no : Some id ≡ None = sym it.1 ∙ now.0 in cc)

    next_waiting : (k : ℕ) → (has k rest ≡ true) ⊎ IsTarget g marks j (start_at g (j + 1)) k → (k < size g) × LeadsOn g marks x k
    next_waiting k (inl h) = d.waiting k (has_front k j rest h)
    next_waiting k (inr it) = (sizes it.0 it.2 k it.3, led k it)

    pub dating_next : Dating next todo
    dating_next = record {
      long = b.long ∙ d.long;
      open' = λ i p k dated field hold marked. by_each i p k dated field hold marked (b.each i);
      each = λ k. next_each k (b.each k) (d.each k);
      first = still x d.first (b.each x);
      waiting = λ k h. next_waiting k (b.only k h);
    }

  closed_end : (new : List (Option ℕ)) → Dating new [] → IsClosed g marks new
  closed_end new d j p k dated field hold marked = at_end (d.open' j p k dated field hold marked)
    where
      at_end : (is_some (date_at new k) ≡ true) ⊎ (has j [] ≡ true) → is_some (date_at new k) ≡ true
      at_end (inl it) = it
      at_end (inr h) = absurd cc

  pub dating_end : (new : List (Option ℕ)) (todo : List ℕ) → todo ≡ [] → Dating new todo → IsDatedFrom g marks x id old new
  dating_end new todo empty d =
      let whole : Dating new [] = subst (λ xs. Dating new xs) empty d in
      record { long = d.long; closed = closed_end new whole; each = d.each; first = d.first }

-- the work that is left
pub work_less : (new next : List (Option ℕ)) (todo rest after : List ℕ) (j : ℕ) → todo ≡ rest ++ j ∷ [] → undated next + undated next + length after ≤ undated new + undated new + length rest
    → undated next + undated next + length after < undated new + undated new + length todo
work_less new next todo rest after j is less = omega (arith, less, ap length is, length-append rest (j ∷ []))

-- ---- one loss more
module _ (g : Graph) (marks : List Bool) (l : Loss) (losses : List Loss) where
  -- the object leads to none that is marked
  pub dated_same : (ds : List (Option ℕ)) → ((i : ℕ) → LeadsTo g marks i l.object → ⊥) → AreDated g marks losses ds → AreDated g marks (l ∷ losses) ds
  dated_same ds never dated i there marked = by_date (date_at ds i) (dated i there marked)
    where
      by_date : (d : Option ℕ) → IsDatedBy (LeadsTo g marks i) losses d → IsDatedBy (LeadsTo g marks i) (l ∷ losses) d
      by_date None it = inr (it, inr (refl, never i))
      by_date (Some id) it = inl (id, refl, it)

  -- it does, and all of these are dated
  module _ (x : ℕ) (there : x < size g) (number : object_at g x ≡ l.object) (distinct : AreDistinct g) (old new : List (Option ℕ)) (from : IsDatedFrom g marks x l.id old new) where
    led_at : (i : ℕ) → LeadsTo g marks i l.object → is_some (date_at new i) ≡ true
    led_at i it =
        let same : it.0 ≡ x = distinct it.0 x it.1 there (it.2 ∙ sym number) in
        closed_on g marks new from.closed x i (subst (λ y. LeadsOn g marks y i) same it.3) from.first

    by_old : (i : ℕ) (d : Option ℕ) → date_at new i ≡ d → IsDatedBy (LeadsTo g marks i) losses d → IsDatedBy (LeadsTo g marks i) (l ∷ losses) d
    by_old i None is it = inr (it, inr (refl, λ lost. never_both (date_at new i) (led_at i lost) is))
    by_old i (Some id) is it = inl (id, refl, it)

    pub dated_more : AreDated g marks losses old → AreDated g marks (l ∷ losses) new
    dated_more dated i here_too marked = by_each (from.each i)
      where
        by_each : (date_at new i ≡ date_at old i) ⊎ ((date_at old i ≡ None) × (date_at new i ≡ Some l.id) × LeadsOn g marks x i) → IsDatedBy (LeadsTo g marks i) (l ∷ losses) (date_at new i)
        by_each (inl same) = by_old i (date_at new i) refl (subst (λ (d : Option ℕ). IsDatedBy (LeadsTo g marks i) losses d) (sym same) (dated i here_too marked))
        by_each (inr it) = inr (subst (λ (d : Option ℕ). IsDatedBy (LeadsTo g marks i) losses d) it.0 (dated i here_too marked), inl (it.1, (x, there, number, it.2)))

-- before the first one
pub dated_none : (g : Graph) (marks : List Bool) (n : ℕ) (ds : List (Option ℕ)) → ds ≡ replicate n None → AreDated g marks [] ds
dated_none g marks n ds is i there marked = ap (λ xs. date_at xs i) is ∙ no_date n i

pub closed_none : (g : Graph) (marks : List Bool) (n : ℕ) (ds : List (Option ℕ)) → ds ≡ replicate n None → IsClosed g marks ds
closed_none g marks n ds is j p k dated field hold marked = absurd (never_both (date_at ds j) dated (ap (λ xs. date_at xs j) is ∙ no_date n j))
