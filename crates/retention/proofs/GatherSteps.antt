-- What leads to some objects is gathered, member by member.
use Rattle.std.proofs.Common.{◌≡◌, ℕ, ◌+◌, ◌<◌, ◌≤◌, ◌⊎◌, inl, inr, List, [], length, get_or, refl, sym, ap, ◌∙◌, subst, arith, zero-le, Bool, true, false}
use Rattle.std.specs.Prelude.{◌||◌}
use Rattle.std.specs.List.{All}
use Rattle.ownership_model.specs.Reach.{has}
use Rattle.ownership_model.proofs.Searching.{or_left, or_right}
use Rattle.retention.specs.Paths.{Path, marked, IsJoined, IsGathered}
use Rattle.retention.proofs.WalkSteps.{by_number, apart_number}
use Rattle.retention.proofs.PathLemmas.{has_at, at_has, has_all, path_trans}

false_is_true : false ≡ true → ⊥
false_is_true e = absurd cc

false_true : (b : Bool) → b ≡ false → b ≡ true → ⊥
false_true b f t = absurd cc

or_swap : (a b c : Bool) → (b ≡ true → c ≡ true) → ((a || b) || c) ≡ (a || c)
or_swap true b c h = refl
or_swap false true c h = sym (h refl)
or_swap false false c h = refl

absorbed : (a b : Bool) → (b ≡ true → a ≡ true) → a ≡ (a || b)
absorbed true b h = refl
absorbed false true h = absurd (false_is_true (h refl))
absorbed false false h = refl

not_true : (b : Bool) → (b ≡ true → ⊥) → b ≡ false
not_true true h = absurd (h refl)
not_true false h = refl

-- of the first members, all that lead to them have joined
pub record IsGathering (Edge : ℕ → ℕ → Type 0) (begin : List ℕ) (before : List Bool) (at : ℕ) (all : List ℕ) (after : List Bool) : Type 0 where
  pub long : length after ≡ length before
  pub first : (z : ℕ) → has z begin ≡ true → has z all ≡ true
  pub leads : (z : ℕ) → has z all ≡ true → (has z begin ≡ true) ⊎ ((marked before z ≡ false) × ((y : ℕ) × (has y begin ≡ true) × Path Edge z y))
  pub closed : (i a : ℕ) → i < at → Edge a (get_or all i 0) → marked after a ≡ true
  pub marks : (z : ℕ) → marked after z ≡ (marked before z || has z all)
  pub within : at ≤ length all

module _ (Edge : ℕ → ℕ → Type 0) (begin : List ℕ) (before : List Bool) where
  pub gather_start : ((z : ℕ) → has z begin ≡ true → marked before z ≡ true) → IsGathering Edge begin before 0 begin before
  gather_start begun = record {
    long = refl;
    first = λ z h. h;
    leads = λ z h. inl h;
    closed = λ i a h e. absurd (omega (arith, h));
    marks = λ z. absorbed (marked before z) (has z begin) (begun z);
    within = zero-le;
  }

  -- what was unmarked after some were marked was so before
  unmarked_before : (at : ℕ) (all : List ℕ) (after : List Bool) → IsGathering Edge begin before at all after → (z : ℕ) → marked after z ≡ false → marked before z ≡ false
  unmarked_before at all after is z h = not_true (marked before z) (λ e. false_true (marked after z) h (is.marks z ∙ or_left (marked before z) (has z all) e))

  module _ (at member : ℕ) (all all' : List ℕ) (after after' : List Bool) (is : IsGathering Edge begin before at all after) (inside : at < length all) (source : get_or all at 0 ≡ member)
      (joins : IsJoined Edge member all after all' after') where
    still : (z : ℕ) → has z all ≡ true → has z all' ≡ true
    still z h =
        let it = at_has all z h in
        let now = joins.kept it.0 it.1 in
        subst (λ x. has x all' ≡ true) (now.1 ∙ it.2) (has_at all' it.0 now.0)

    after_too : (z : ℕ) → marked after z ≡ true → marked after' z ≡ true
    after_too z h = joins.marks z ∙ or_left (marked after z) (has z all') h

    abbrev Leads : ℕ → Type 0
    Leads z = (has z begin ≡ true) ⊎ ((marked before z ≡ false) × ((y : ℕ) × (has y begin ≡ true) × Path Edge z y))

    by_edge : (z : ℕ) → marked before z ≡ false → Edge z member → Leads member → Leads z
    by_edge z new e (inl h) = inr (new, (member, h, ([], e)))
    by_edge z new e (inr it) = inr (new, (it.1.0, it.1.1, path_trans Edge z member it.1.0 ([], e) it.1.2))

    member_in : has member all ≡ true
    member_in = subst (λ x. has x all ≡ true) source (has_at all at inside)

    leads_more : (z : ℕ) → (has z all ≡ true) ⊎ ((marked after z ≡ false) × Edge z member) → Leads z
    leads_more z (inl h) = is.leads z h
    leads_more z (inr it) = by_edge z (unmarked_before at all after is z it.0) it.1 (is.leads member member_in)

    closed_more : (i a : ℕ) → i < at + 1 → Edge a (get_or all' i 0) → marked after' a ≡ true
    closed_more i a h = by_number (λ k. Edge a (get_or all' k 0) → marked after' a ≡ true) at i
        (λ e. joins.all a (subst (λ b. Edge a b) ((joins.kept at inside).1 ∙ source) e))
        (λ apart e. let below : i < at = (let other : i ≡ at → ⊥ = apart_number i at apart in omega (arith, other, h)) in
        after_too a (is.closed i a below (subst (λ b. Edge a b) (joins.kept i (omega (arith, below, inside))).1 e)))

    pub gather_more : IsGathering Edge begin before (at + 1) all' after'
    gather_more = record {
      long = joins.long ∙ is.long;
      first = λ z h. still z (is.first z h);
      leads = λ z h. leads_more z (joins.new z h);
      closed = closed_more;
      marks = λ z. joins.marks z ∙ ap (λ b. b || has z all') (is.marks z) ∙ or_swap (marked before z) (has z all) (has z all') (still z);
      within = let l : at < length all' = (joins.kept at inside).0 in omega (arith, l);
    }

  pub gathered_marked : (at : ℕ) (all : List ℕ) (after : List Bool) → IsGathering Edge begin before at all after → All (λ i. marked after i ≡ true) all
  gathered_marked at all after is = has_all (λ i. marked after i ≡ true) all (λ z h. is.marks z ∙ or_right (marked before z) (has z all) h)

  pub gather_end : (at : ℕ) (all : List ℕ) (after : List Bool) → IsGathering Edge begin before at all after → length all ≤ at → IsGathered Edge begin before all after
  gather_end at all after is end = record {
    long = is.long;
    first = is.first;
    leads = is.leads;
    closed = λ a b e h. let it = at_has all b h in let l : it.0 < length all = it.1 in is.closed it.0 a (omega (arith, l, end)) (subst (λ x. Edge a x) (sym it.2) e);
    marks = is.marks;
  }
