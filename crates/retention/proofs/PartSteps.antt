-- The components of a graph, one by one, from the object that a search left last.
use Rattle.std.proofs.Common.{◌≡◌, ℕ, ◌+◌, ◌<◌, ◌≤◌, ◌⊎◌, inl, inr, List, [], ◌∷◌, length, get_or, set, refl, sym, ◌∙◌, subst, arith, Bool, true, false, length-set}
use Rattle.std.specs.Prelude.{◌==◌, ◌||◌}
use Rattle.ownership_model.specs.Reach.{has}
use Rattle.ownership_model.proofs.Searching.{or_left, or_right}
use Rattle.retention.specs.Paths.{Chain, Path, Same, marked, IsGathered, IsLeavingOrder, IsNamed, ArePartsFrom}
use Rattle.retention.proofs.WalkSteps.{number_same, same_number, by_number, apart_number}
use Rattle.retention.proofs.PathLemmas.{mark_same, mark_other, path_trans, same_sym, same_trans}

clash : (P : Type 0) (b : Bool) → b ≡ true → b ≡ false → P
clash P b t f = absurd (let e : true ≡ false = sym t ∙ f in cc)

not_so : (b : Bool) → (b ≡ true → ⊥) → b ≡ false
not_so true h = absurd (h refl)
not_so false h = refl

or_of : (P : Type 0) (a b : Bool) → (a || b) ≡ true → (a ≡ true → P) → (b ≡ true → P) → P
or_of P true b h p q = p refl
or_of P false b h p q = q h

only_one : (x y : ℕ) → has x (y ∷ []) ≡ true → y ≡ x
only_one x y h = or_of (y ≡ x) (y == x) false h (number_same y x) (λ e. absurd cc)

-- the parts of all objects, once all are marked
pub parts_start : (Edge : ℕ → ℕ → Type 0) (n : ℕ) (order : List ℕ) (marks : List Bool) (parts : List ℕ) → length marks ≡ n → length parts ≡ n → ((x : ℕ) → marked marks x ≡ false) → ArePartsFrom Edge n order (length order) marks parts
parts_start Edge n order marks parts ml pl none = record {
  marks_long = ml;
  parts_long = pl;
  closed = λ x y h s. clash (marked marks y ≡ true) (marked marks x) h (none x);
  behind = λ j h k. absurd (omega (arith, h, k));
  least = λ x h. clash ((get_or parts x 0 ≤ x) × Same Edge x (get_or parts x 0) × (marked marks (get_or parts x 0) ≡ true)) (marked marks x) h (none x);
  same = λ x y h k e. clash (Same Edge x y) (marked marks x) h (none x);
  all = λ x y h k s. clash (get_or parts x 0 ≡ get_or parts y 0) (marked marks x) h (none x);
}

module _ (Edge : ℕ → ℕ → Type 0) (n : ℕ) (bounded : (a b : ℕ) → Edge a b → (a < n) × (b < n)) (order : List ℕ) (leaving : IsLeavingOrder Edge n order)
    (k : ℕ) (marks : List Bool) (parts : List ℕ) (is : ArePartsFrom Edge n order (k + 1) marks parts) (inside : k < length order) where
  -- an object that has its component
  pub parts_had : marked marks (get_or order k 0) ≡ true → ArePartsFrom Edge n order k marks parts
  parts_had had = record {
    marks_long = is.marks_long;
    parts_long = is.parts_long;
    closed = is.closed;
    behind = λ j h l. by_number (λ x. k ≤ x → marked marks (get_or order x 0) ≡ true) k j (λ g. had) (λ e g. is.behind j (let apart : j ≡ k → ⊥ = apart_number j k e in omega (arith, apart, g)) l) h;
    least = is.least;
    same = is.same;
    all = is.all;
  }

  -- an object that has none
  module _ (v : ℕ) (here : get_or order k 0 ≡ v) (new : marked marks v ≡ false) (members : List ℕ) (after : List Bool) (gathered : IsGathered Edge (v ∷ []) (set marks v true) members after)
      (parts' : List ℕ) (named : IsNamed members parts parts') where
    v_in : v < length marks
    v_in = subst (λ x. x < length marks) here (subst (λ l. get_or order k 0 < l) (sym is.marks_long) (leaving.within k inside))

    itself : has v members ≡ true
    itself = gathered.first v (or_left (v == v) false (same_number v))

    -- a component is marked as a whole
    apart_from : (z : ℕ) → Same Edge z v → marked marks z ≡ false
    apart_from z s = not_so (marked marks z) (λ m. clash ⊥ (marked marks v) (is.closed z v m s) new)

    first_edge : (z : ℕ) (cs : List ℕ) (y : ℕ) → Chain Edge z cs y → z < n
    first_edge z [] y e = (bounded z y e).0
    first_edge z (c ∷ cs) y e = (bounded z c e.0).0

    by_last : (z : ℕ) → marked marks z ≡ false → (w : ℕ) × Same Edge w z × ((j : ℕ) × (k ≤ j) × (j < length order) × (get_or order j 0 ≡ w)) → Same Edge z v
    by_last z free it =
        by_number (λ j. (k ≤ j) → (j < length order) → get_or order j 0 ≡ it.0 → Same Edge z v) k it.2.0
        (λ g l e. same_sym Edge v z (subst (λ x. Same Edge x z) (sym e ∙ here) it.1))
        (λ apart g l e. clash (Same Edge z v) (marked marks z)
        (is.closed it.0 z (subst (λ x. marked marks x ≡ true) e (is.behind it.2.0 (let other : it.2.0 ≡ k → ⊥ = apart_number it.2.0 k apart in omega (arith, other, g)) l)) it.1) free)
        it.2.1 it.2.2 it.2.3

    old_mark : (z : ℕ) → marked (set marks v true) z ≡ false → marked marks z ≡ false
    old_mark z h = by_number (λ x. marked (set marks v true) x ≡ false → marked marks x ≡ false) v z (λ f. new) (λ e f. sym (mark_other marks v z e) ∙ f) h

    of_leads : (z : ℕ) → (has z (v ∷ []) ≡ true) ⊎ ((marked (set marks v true) z ≡ false) × ((y : ℕ) × (has y (v ∷ []) ≡ true) × Path Edge z y)) → Same Edge z v
    of_leads z (inl h) = inl (sym (only_one z v h))
    of_leads z (inr it) =
        let to : Path Edge z v = subst (λ x. Path Edge z x) (sym (only_one it.1.0 v it.1.1)) it.1.2 in
        by_last z (old_mark z it.0) (leaving.last z v k (first_edge z to.0 v to.1) to inside here)

    -- members are of the component
    of_member : (z : ℕ) → has z members ≡ true → Same Edge z v
    of_member z h = of_leads z (gathered.leads z h)

    joined : (a : ℕ) → marked after a ≡ true → Same Edge a v → has a members ≡ true
    joined a m s = by_number (λ x. marked after x ≡ true → Same Edge x v → has x members ≡ true) v a (λ n t. itself)
        (λ e n t. or_of (has a members ≡ true) (marked (set marks v true) a) (has a members) (sym (gathered.marks a) ∙ n)
        (λ old. clash (has a members ≡ true) (marked marks a) (sym (mark_other marks v a e) ∙ old) (apart_from a t)) (λ h. h)) m s

    along : (cs : List ℕ) (a : ℕ) → Chain Edge a cs v → Path Edge v a → has a members ≡ true
    along [] a e back = joined a (gathered.closed a v e itself) (inr (([], e), back))
    along (c ∷ cs) a e back =
        let next : has c members ≡ true = along cs c e.1 (path_trans Edge v a c back ([], e.0)) in
        joined a (gathered.closed a c e.0 next) (inr ((c ∷ cs, e), back))

    -- and all of it are members
    is_member : (z : ℕ) → Same Edge z v → has z members ≡ true
    is_member z (inl e) = subst (λ x. has x members ≡ true) (sym e) itself
    is_member z (inr it) = along it.0.0 z it.0.1 it.1

    unmarked : (z : ℕ) → has z members ≡ true → marked marks z ≡ false
    unmarked z h = apart_from z (of_member z h)

    no_member : (z : ℕ) → marked marks z ≡ true → has z members ≡ false
    no_member z m = not_so (has z members) (λ h. clash ⊥ (marked marks z) m (unmarked z h))

    now_member : (z : ℕ) → has z members ≡ true → marked after z ≡ true
    now_member z h = gathered.marks z ∙ or_right (marked (set marks v true) z) (has z members) h

    now_old : (z : ℕ) → marked marks z ≡ true → marked after z ≡ true
    now_old z m = gathered.marks z ∙ or_left (marked (set marks v true) z) (has z members)
        (by_number (λ x. marked marks x ≡ true → marked (set marks v true) x ≡ true) v z (λ h. mark_same marks v v_in) (λ e h. mark_other marks v z e ∙ h) m)

    by_mark : (P : ℕ → Type 0) (z : ℕ) → marked after z ≡ true → (marked marks z ≡ true → P z) → (has z members ≡ true → P z) → P z
    by_mark P z m old one = or_of (P z) (marked (set marks v true) z) (has z members) (sym (gathered.marks z) ∙ m)
        (by_number (λ x. (marked marks x ≡ true → P x) → (has x members ≡ true → P x) → marked (set marks v true) x ≡ true → P x) v z (λ o f h. f itself) (λ e o f h. o (sym (mark_other marks v z e) ∙ h)) old one) one

    kept_part : (z : ℕ) → marked marks z ≡ true → get_or parts' z 0 ≡ get_or parts z 0
    kept_part z m = named.others z (no_member z m)

    both_members : (x y : ℕ) → has x members ≡ true → has y members ≡ true → Same Edge x y
    both_members x y h l = same_trans Edge x v y (of_member x h) (same_sym Edge y v (of_member y l))

    -- an object of the component, and one of another
    different : (x y : ℕ) → marked marks x ≡ true → has y members ≡ true → Same Edge x y → ⊥
    different x y m h s = clash ⊥ (marked marks v) (is.closed x v m (same_trans Edge x y v s (of_member y h))) new

    other_part : (x y : ℕ) → marked marks x ≡ true → has y members ≡ true → get_or parts' x 0 ≡ get_or parts' y 0 → ⊥
    other_part x y m h e =
        let part : get_or parts x 0 ≡ named.least = sym (kept_part x m) ∙ e ∙ named.here y h in
        clash ⊥ (marked marks (get_or parts x 0)) (is.least x m).2 (subst (λ z. marked marks z ≡ false) (sym part) (unmarked named.least named.one))

    abbrev HasLeast : ℕ → Type 0
    HasLeast x = (get_or parts' x 0 ≤ x) × Same Edge x (get_or parts' x 0) × (marked after (get_or parts' x 0) ≡ true)

    least_old : (x : ℕ) → marked marks x ≡ true → HasLeast x
    least_old x m = subst (λ p. (p ≤ x) × Same Edge x p × (marked after p ≡ true)) (sym (kept_part x m)) ((is.least x m).0, (is.least x m).1, now_old (get_or parts x 0) (is.least x m).2)

    least_new : (x : ℕ) → has x members ≡ true → HasLeast x
    least_new x h = subst (λ p. (p ≤ x) × Same Edge x p × (marked after p ≡ true)) (sym (named.here x h)) (named.lowest x h, both_members x named.least h named.one, now_member named.least named.one)

    pub parts_more : ArePartsFrom Edge n order k after parts'
    parts_more = record {
      marks_long = gathered.long ∙ length-set marks v true ∙ is.marks_long;
      parts_long = named.long ∙ is.parts_long;
      closed = λ x y m s. by_mark (λ z. Same Edge z y → marked after y ≡ true) x m (λ old t. now_old y (is.closed x y old t))
          (λ h t. now_member y (is_member y (same_trans Edge y x v (same_sym Edge x y t) (of_member x h)))) s;
      behind = λ j h l. by_number (λ x. k ≤ x → marked after (get_or order x 0) ≡ true) k j (λ g. subst (λ x. marked after x ≡ true) (sym here) (now_member v itself))
          (λ e g. now_old (get_or order j 0) (is.behind j (let apart : j ≡ k → ⊥ = apart_number j k e in omega (arith, apart, g)) l)) h;
      least = λ x m. by_mark HasLeast x m (least_old x) (least_new x);
      same = λ x y m l e.
          by_mark (λ z. get_or parts' z 0 ≡ get_or parts' y 0 → Same Edge z y) x m
          (λ xo f. by_mark (λ z. get_or parts' x 0 ≡ get_or parts' z 0 → Same Edge x z) y l (λ yo g. is.same x y xo yo (sym (kept_part x xo) ∙ g ∙ kept_part y yo)) (λ yh g. absurd (other_part x y xo yh g)) f)
          (λ xh f. by_mark (λ z. get_or parts' x 0 ≡ get_or parts' z 0 → Same Edge x z) y l (λ yo g. absurd (other_part y x yo xh (sym g))) (λ yh g. both_members x y xh yh) f) e;
      all = λ x y m l s.
          by_mark (λ z. Same Edge z y → get_or parts' z 0 ≡ get_or parts' y 0) x m
          (λ xo t. by_mark (λ z. Same Edge x z → get_or parts' x 0 ≡ get_or parts' z 0) y l (λ yo u. kept_part x xo ∙ is.all x y xo yo u ∙ sym (kept_part y yo)) (λ yh u. absurd (different x y xo yh u)) t)
          (λ xh t. by_mark (λ z. Same Edge x z → get_or parts' x 0 ≡ get_or parts' z 0) y l (λ yo u. absurd (different y x yo xh (same_sym Edge x y u))) (λ yh u. named.here x xh ∙ sym (named.here y yh)) t) s;
    }
