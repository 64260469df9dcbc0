-- A walk that goes from places to what they hold, in the order of ways: what holds at each step of it.
use Rattle.std.proofs.Common.{◌≡◌, ℕ, zero, suc, ◌+◌, ◌<◌, ◌≤◌, inl, inr, List, [], ◌∷◌, ◌++◌, length, get_or, set, refl, zero-le, sym, ap, ◌∙◌, subst, arith, Bool, true, false, cond, length-append, length-set, get_or-set_same, get_or-set_other}
use Rattle.std.specs.Prelude.{Option, Some, None, ◌==◌, not, if◌then◌else◌, count_by}
use Rattle.std.proofs.lemmas.Bool.Decides.{nat_tests}
use Rattle.std.proofs.lemmas.List.{get_or_append_left, get_or_push, get_or_read}
use Rattle.std.proofs.lemmas.List.Sums.{sum_by-set, sum_by-cons}
use Rattle.retention.specs.declared.walk.Step.{Step}
use Rattle.retention.specs.declared.walk.Step.TheVariants.{Never, First, Further}
use Rattle.retention.specs.Walked.{LeadsBy, Less, NoLater, is_come, has_come, CameBy, HasWalked, IsFresh, AreListed, stepped, joined}
use Rattle.retention.proofs.WayOrder.{less_trans, no_later_trans, behind_both, later_place, less_behind}

-- Numbers that are the same, and that are not.

pub number_same : (a b : ℕ) → (a == b) ≡ true → a ≡ b
number_same a b e = grind (arith, nat_tests)

pub same_number : (a : ℕ) → (a == a) ≡ true
same_number a = grind (arith, nat_tests)

pub apart_number : (a b : ℕ) → (a == b) ≡ false → a ≡ b → ⊥
apart_number a b e same = grind (arith, nat_tests)

pub by_number : (P : ℕ → Type 0) (t o : ℕ) → P t → ((o == t) ≡ false → P o) → P o
by_number P t o here other = elim (o == t) as (λ b. (o == t) ≡ b → P o) [ true ↦ λ e. subst P (sym (number_same o t e)) here | false ↦ other ] refl

-- One step more.

-- how many objects it did not come to
abbrev pub is_never : Step → Bool
is_never s = not (is_come s)

abbrev pub unseen : List Step → ℕ
unseen steps = count_by is_never steps

never_more : (s : Step) (n : ℕ) → is_come s ≡ false → cond {A = ℕ} (is_never s) 1 0 + n ≡ suc n
never_more s n e = let one : 1 + n ≡ suc n = omega arith in ap (λ b. cond {A = ℕ} (not b) 1 0 + n) e ∙ one

all_never : (steps : List Step) → ((o : ℕ) → has_come steps o ≡ false) → unseen steps ≡ length steps
all_never [] never = refl
all_never (s ∷ steps) never =
    let first : unseen (s ∷ steps) ≡ cond {A = ℕ} (is_never s) 1 0 + unseen steps = sum_by-cons (λ x. cond (is_never x) 1 0) s steps in
    first ∙ never_more s (unseen steps) (never 0) ∙ ap suc (all_never steps (λ o. never (suc o)))

-- a way more
abbrev pub put : (ℕ → List ℕ) → ℕ → List ℕ → ℕ → List ℕ
put way t w o = if o == t then w else way o

put_same : (way : ℕ → List ℕ) (t : ℕ) (w : List ℕ) → put way t w t ≡ w
put_same way t w = ap (λ b. if b then w else way t) (same_number t)

put_other : (way : ℕ → List ℕ) (t : ℕ) (w : List ℕ) (o : ℕ) → (o == t) ≡ false → put way t w o ≡ way o
put_other way t w o e = ap (λ b. if b then w else way o) e

come_same : (steps : List Step) (t : ℕ) (s : Step) → t < length steps → is_come s ≡ true → has_come (set steps t s) t ≡ true
come_same steps t s within is = ap is_come (get_or-set_same steps t s Never within) ∙ is

at_other : (steps : List Step) (t : ℕ) (s : Step) (o : ℕ) → (o == t) ≡ false → get_or (set steps t s) o Never ≡ get_or steps o Never
at_other steps t s o e = get_or-set_other steps t o s Never (apart_number o t e)

-- an object that it came to is not one that it didn't come to
pub come_apart : (steps : List Step) (t o : ℕ) → has_come steps t ≡ false → has_come steps o ≡ true → (o == t) ≡ false
come_apart steps t o new old =
    elim (o == t) as (λ b. (o == t) ≡ b → (o == t) ≡ false) [
      | true ↦ λ e. let there : has_come steps t ≡ true = subst (λ x. has_come steps x ≡ true) (number_same o t e) old in absurd cc
      | false ↦ λ e. e
    ] refl

-- and it is one of all
pub come_within : (steps : List Step) (o : ℕ) → has_come steps o ≡ true → o < length steps
come_within [] o h = absurd cc
come_within (s ∷ steps) zero h = omega arith
come_within (s ∷ steps) (suc o) h = let l : o < length steps = come_within steps o h in omega (arith, l)

-- what it came to stays, and how
pub record Grows (steps : List Step) (way : ℕ → List ℕ) (steps' : List Step) (way' : ℕ → List ℕ) : Type 0 where
  pub same : (o : ℕ) → has_come steps o ≡ true → get_or steps' o Never ≡ get_or steps o Never
  pub ways : (o : ℕ) → has_come steps o ≡ true → way' o ≡ way o

pub grows_not : (steps : List Step) (way : ℕ → List ℕ) → Grows steps way steps way
grows_not steps way = record { same = λ o h. refl; ways = λ o h. refl }

grows_by : (steps : List Step) (way : ℕ → List ℕ) (t : ℕ) (s : Step) (w : List ℕ) → has_come steps t ≡ false → Grows steps way (set steps t s) (put way t w)
grows_by steps way t s w new = record {
  same = λ o h. at_other steps t s o (come_apart steps t o new h);
  ways = λ o h. put_other way t w o (come_apart steps t o new h);
}

pub still_come : (steps steps' : List Step) (way way' : ℕ → List ℕ) → Grows steps way steps' way' → (o : ℕ) → has_come steps o ≡ true → has_come steps' o ≡ true
still_come steps steps' way way' grows o h = ap is_come (grows.same o h) ∙ h

-- the bound on all ways so far
abbrev pub AreBelow : List Step → (ℕ → List ℕ) → List ℕ → Type 0
AreBelow steps way bound = (o : ℕ) → has_come steps o ≡ true → Less (way o) bound

-- Of what places hold, of which objects they are fields, and where ways begin.
module _ (hold : ℕ → Option ℕ) (field : ℕ → ℕ → Type 0) (from : ℕ → Bool) where
  came_still : (steps steps' : List Step) → ((o : ℕ) → has_come steps o ≡ true → get_or steps' o Never ≡ get_or steps o Never) → (o : ℕ) (w : List ℕ) → CameBy field steps o w → CameBy field steps' o w
  came_still steps steps' stay o [] c = c
  came_still steps steps' stay o (p ∷ []) c = stay o (ap is_come c) ∙ c
  came_still steps steps' stay o (p ∷ q ∷ w) c = (stay o (ap is_come c.0) ∙ c.0, (c.1.0, c.1.1, came_still steps steps' stay c.1.0 (q ∷ w) c.1.2))

  -- The objects that it came to, in the order of their ways
  pub record IsOrdered (n : ℕ) (steps : List Step) (came : List ℕ) (way : ℕ → List ℕ) : Type 0 where
    pub long : length steps ≡ n
    pub count : unseen steps + length came ≡ n
    pub leads : (o : ℕ) → has_come steps o ≡ true → LeadsBy hold field from o (way o)
    pub by_steps : (o : ℕ) → has_come steps o ≡ true → CameBy field steps o (way o)
    pub rising : (i j : ℕ) → i < j → j < length came → Less (way (get_or came i 0)) (way (get_or came j 0))
    pub marked : (i : ℕ) → i < length came → has_come steps (get_or came i 0) ≡ true
    pub listed : (o : ℕ) → has_come steps o ≡ true → (i : ℕ) × (i < length came) × (get_or came i 0 ≡ o)
    pub short : (i : ℕ) → i < length came → length (way (get_or came i 0)) ≤ i + 1

  -- One object more
  module _ (n : ℕ) (steps : List Step) (came : List ℕ) (way : ℕ → List ℕ) (is : IsOrdered n steps came way) (p t : ℕ) (V : List ℕ) (s : Step)
      (within : t < n) (new : has_come steps t ≡ false) (come : is_come s ≡ true) (leads : LeadsBy hold field from t (p ∷ V))
      (below : AreBelow steps way (p ∷ V)) (short : length V ≤ length came)
      (by_step : CameBy field (set steps t s) t (p ∷ V)) where
    more_grows : Grows steps way (set steps t s) (put way t (p ∷ V))
    more_grows = grows_by steps way t s (p ∷ V) new

    inside : t < length steps
    inside = subst (λ k. t < k) (sym is.long) within

    old_come : (o : ℕ) → (o == t) ≡ false → has_come (set steps t s) o ≡ true → has_come steps o ≡ true
    old_come o e h = sym (ap is_come (at_other steps t s o e)) ∙ h

    more_leads : (o : ℕ) → has_come (set steps t s) o ≡ true → LeadsBy hold field from o (put way t (p ∷ V) o)
    more_leads o = by_number (λ x. has_come (set steps t s) x ≡ true → LeadsBy hold field from x (put way t (p ∷ V) x)) t o
        (λ h. subst (λ w. LeadsBy hold field from t w) (sym (put_same way t (p ∷ V))) leads)
        (λ e h. subst (λ w. LeadsBy hold field from o w) (sym (put_other way t (p ∷ V) o e)) (is.leads o (old_come o e h)))

    more_steps : (o : ℕ) → has_come (set steps t s) o ≡ true → CameBy field (set steps t s) o (put way t (p ∷ V) o)
    more_steps o = by_number (λ x. has_come (set steps t s) x ≡ true → CameBy field (set steps t s) x (put way t (p ∷ V) x)) t o
        (λ h. subst (λ w. CameBy field (set steps t s) t w) (sym (put_same way t (p ∷ V))) by_step)
        (λ e h. subst (λ w. CameBy field (set steps t s) o w) (sym (put_other way t (p ∷ V) o e)) (came_still steps (set steps t s) more_grows.same o (way o) (is.by_steps o (old_come o e h))))

    old_way : (i : ℕ) → i < length came → put way t (p ∷ V) (get_or (came ++ t ∷ []) i 0) ≡ way (get_or came i 0)
    old_way i h = ap (put way t (p ∷ V)) (get_or_append_left came (t ∷ []) 0 i h) ∙ more_grows.ways (get_or came i 0) (is.marked i h)

    new_way : (j : ℕ) → j ≡ length came → put way t (p ∷ V) (get_or (came ++ t ∷ []) j 0) ≡ p ∷ V
    new_way j e = ap (put way t (p ∷ V)) (get_or_push came t 0 j (sym e)) ∙ put_same way t (p ∷ V)

    more_length : length (came ++ t ∷ []) ≡ length came + 1
    more_length = length-append came (t ∷ [])

    -- the last place of the longer list, or one of those before it
    by_place : (P : Type 0) (j : ℕ) → j < length (came ++ t ∷ []) → (j < length came → P) → (j ≡ length came → P) → P
    by_place P j h old last =
        elim (j == length came) as (λ b. (j == length came) ≡ b → P) [
          | true ↦ λ e. last (number_same j (length came) e)
          | false ↦ λ e. old (let apart : j ≡ length came → ⊥ = apart_number j (length came) e in omega (arith, more_length, h, apart))
        ] refl

    more_rising : (i j : ℕ) → i < j → j < length (came ++ t ∷ []) → Less (put way t (p ∷ V) (get_or (came ++ t ∷ []) i 0)) (put way t (p ∷ V) (get_or (came ++ t ∷ []) j 0))
    more_rising i j h k = by_place (Less (put way t (p ∷ V) (get_or (came ++ t ∷ []) i 0)) (put way t (p ∷ V) (get_or (came ++ t ∷ []) j 0))) j k
        (λ old. let first : i < length came = omega (arith, h, old) in
        subst (λ w. Less w (put way t (p ∷ V) (get_or (came ++ t ∷ []) j 0))) (sym (old_way i first)) (subst (λ w. Less (way (get_or came i 0)) w) (sym (old_way j old)) (is.rising i j h old)))
        (λ last. let first : i < length came = omega (arith, h, last) in
        subst (λ w. Less w (put way t (p ∷ V) (get_or (came ++ t ∷ []) j 0))) (sym (old_way i first)) (subst (λ w. Less (way (get_or came i 0)) w) (sym (new_way j last)) (below (get_or came i 0) (is.marked i first))))

    more_marked : (i : ℕ) → i < length (came ++ t ∷ []) → has_come (set steps t s) (get_or (came ++ t ∷ []) i 0) ≡ true
    more_marked i h = by_place (has_come (set steps t s) (get_or (came ++ t ∷ []) i 0) ≡ true) i h
        (λ old. subst (λ x. has_come (set steps t s) x ≡ true) (sym (get_or_append_left came (t ∷ []) 0 i old)) (still_come steps (set steps t s) way (put way t (p ∷ V)) more_grows (get_or came i 0) (is.marked i old)))
        (λ last. subst (λ x. has_come (set steps t s) x ≡ true) (sym (get_or_push came t 0 i (sym last))) (come_same steps t s inside come))

    abbrev IsListed : ℕ → Type 0
    IsListed o = (i : ℕ) × (i < length (came ++ t ∷ [])) × (get_or (came ++ t ∷ []) i 0 ≡ o)

    listed_still : (o : ℕ) → (i : ℕ) × (i < length came) × (get_or came i 0 ≡ o) → IsListed o
    listed_still o it = let h : it.0 < length came = it.1 in (it.0, omega (arith, more_length, h), get_or_append_left came (t ∷ []) 0 it.0 it.1 ∙ it.2)

    more_listed : (o : ℕ) → has_come (set steps t s) o ≡ true → IsListed o
    more_listed o = by_number (λ x. has_come (set steps t s) x ≡ true → IsListed x) t o
        (λ h. (length came, omega (arith, more_length), get_or_push came t 0 (length came) refl))
        (λ e h. listed_still o (is.listed o (old_come o e h)))

    more_short : (i : ℕ) → i < length (came ++ t ∷ []) → length (put way t (p ∷ V) (get_or (came ++ t ∷ []) i 0)) ≤ i + 1
    more_short i h = by_place (length (put way t (p ∷ V) (get_or (came ++ t ∷ []) i 0)) ≤ i + 1) i h
        (λ old. subst (λ w. length w ≤ i + 1) (sym (old_way i old)) (is.short i old))
        (λ last. subst (λ w. length w ≤ i + 1) (sym (new_way i last)) (omega (arith, short, last)))

    never_one : (b : Bool) → b ≡ false → cond {A = ℕ} (not b) 1 0 ≡ 1
    never_one true e = absurd cc
    never_one false e = refl

    never_none : (b : Bool) → b ≡ true → cond {A = ℕ} (not b) 1 0 ≡ 0
    never_none true e = refl
    never_none false e = absurd cc

    more_count : unseen (set steps t s) + length (came ++ t ∷ []) ≡ n
    more_count =
        let one : unseen (set steps t s) + cond (is_never (get_or steps t Never)) 1 0 ≡ unseen steps + cond (is_never s) 1 0 = sum_by-set (λ x. cond (is_never x) 1 0) steps t s Never inside in
        let was : cond (is_never (get_or steps t Never)) 1 0 ≡ 1 = never_one (has_come steps t) new in
        let now : cond (is_never s) 1 0 ≡ 0 = never_none (is_come s) come in
        let all : unseen steps + length came ≡ n = is.count in
        omega (arith, one, was, now, all, more_length)

    pub more_ordered : IsOrdered n (set steps t s) (came ++ t ∷ []) (put way t (p ∷ V))
    more_ordered = record {
      long = length-set steps t s ∙ is.long;
      count = more_count;
      leads = more_leads;
      by_steps = more_steps;
      rising = more_rising;
      marked = more_marked;
      listed = more_listed;
      short = more_short;
    }

    more_below : (bound : List ℕ) → Less (p ∷ V) bound → AreBelow (set steps t s) (put way t (p ∷ V)) bound
    more_below bound less o = by_number (λ x. has_come (set steps t s) x ≡ true → Less (put way t (p ∷ V) x) bound) t o
        (λ h. subst (λ w. Less w bound) (sym (put_same way t (p ∷ V))) less)
        (λ e h. subst (λ w. Less w bound) (sym (put_other way t (p ∷ V) o e)) (less_trans (way o) (p ∷ V) bound (below o (old_come o e h)) less))

  -- What coming to an object by a place leaves
  pub record Comes (n : ℕ) (steps : List Step) (came : List ℕ) (way : ℕ → List ℕ) (p t : ℕ) (V : List ℕ) (steps' : List Step) (came' : List ℕ) : Type 0 where
    pub way' : ℕ → List ℕ
    pub grows : Grows steps way steps' way'
    pub ordered : IsOrdered n steps' came' way'
    pub there : has_come steps' t ≡ true
    pub near : NoLater (way' t) (p ∷ V)
    pub below : (bound : List ℕ) → Less (p ∷ V) bound → AreBelow steps' way' bound
    pub kept : (i : ℕ) → i < length came → (i < length came') × (get_or came' i 0 ≡ get_or came i 0)

  module _ (n : ℕ) (steps : List Step) (came : List ℕ) (way : ℕ → List ℕ) (is : IsOrdered n steps came way) (p t : ℕ) (V : List ℕ) (s : Step)
      (within : t < n) (come : is_come s ≡ true) (leads : LeadsBy hold field from t (p ∷ V)) (below : AreBelow steps way (p ∷ V)) (short : length V ≤ length came) where
    abbrev pub Steps : Bool → List Step
    Steps b = if b then steps else set steps t s

    abbrev pub Came : Bool → List ℕ
    Came b = if b then came else came ++ t ∷ []

    comes_new : has_come steps t ≡ false → CameBy field (set steps t s) t (p ∷ V) → Comes n steps came way p t V (set steps t s) (came ++ t ∷ [])
    comes_new new by_step = record {
      way' = put way t (p ∷ V);
      grows = grows_by steps way t s (p ∷ V) new;
      ordered = more_ordered n steps came way is p t V s within new come leads below short by_step;
      there = come_same steps t s (subst (λ k. t < k) (sym is.long) within) come;
      near = inl (put_same way t (p ∷ V));
      below = more_below n steps came way is p t V s within new come leads below short by_step;
      kept = λ i h. (let l : length (came ++ t ∷ []) ≡ length came + 1 = length-append came (t ∷ []) in omega (arith, l, h), get_or_append_left came (t ∷ []) 0 i h);
    }

    comes_old : has_come steps t ≡ true → Comes n steps came way p t V steps came
    comes_old old = record {
      way' = way;
      grows = grows_not steps way;
      ordered = is;
      there = old;
      near = inr (below t old);
      below = λ bound less o h. less_trans (way o) (p ∷ V) bound (below o h) less;
      kept = λ i h. (h, refl);
    }

    comes_either : (b : Bool) → has_come steps t ≡ b → (has_come steps t ≡ false → CameBy field (set steps t s) t (p ∷ V)) → Comes n steps came way p t V (Steps b) (Came b)
    comes_either true e by_step = comes_old e
    comes_either false e by_step = comes_new e (by_step e)

    pub comes : (has_come steps t ≡ false → CameBy field (set steps t s) t (p ∷ V)) → (steps' : List Step) (came' : List ℕ) → steps' ≡ Steps (has_come steps t) → came' ≡ Came (has_come steps t) → Comes n steps came way p t V steps' came'
    comes by_step steps' came' se ce =
        subst (λ x. Comes n steps came way p t V x came') (sym se) (subst (λ x. Comes n steps came way p t V (Steps (has_come steps t)) x) (sym ce) (comes_either (has_come steps t) refl by_step))

  came_first : (steps : List Step) (p t : ℕ) → t < length steps → CameBy field (set steps t (First p)) t (p ∷ [])
  came_first steps p t within = get_or-set_same steps t (First p) Never within

  came_further : (steps : List Step) (way : ℕ → List ℕ) (p t r : ℕ) (w : List ℕ) → t < length steps → has_come steps t ≡ false → field r p → CameBy field steps r w → CameBy field (set steps t (Further p)) t (p ∷ w)
  came_further steps way p t r [] within new f c = absurd c
  came_further steps way p t r (q ∷ w) within new f c =
      (get_or-set_same steps t (Further p) Never within, (r, f, came_still steps (set steps t (Further p)) (grows_by steps way t (Further p) [] new).same r (q ∷ w) c))

  leads_further : (p t r : ℕ) (w : List ℕ) → hold p ≡ Some t → field r p → LeadsBy hold field from r w → LeadsBy hold field from t (p ∷ w)
  leads_further p t r [] h f l = absurd l
  leads_further p t r (q ∷ w) h f l = (h, (r, f, l))

  -- The places where ways begin, and how far it came with them.

  -- what the place holds, it came to, and no later than by it
  abbrev pub IsPassed : List Step → (ℕ → List ℕ) → ℕ → List ℕ → Type 0
  IsPassed steps way p V = (t : ℕ) → hold p ≡ Some t → (has_come steps t ≡ true) × NoLater (way t) (p ∷ V)

  passed_still : (steps steps' : List Step) (way way' : ℕ → List ℕ) → Grows steps way steps' way' → (p : ℕ) (V : List ℕ) → IsPassed steps way p V → IsPassed steps' way' p V
  passed_still steps steps' way way' grows p V passed t h =
      let old = passed t h in
      (still_come steps steps' way way' grows t old.0, subst (λ w. NoLater w (p ∷ V)) (sym (grows.ways t old.0)) old.1)

  passed_none : (steps : List Step) (way : ℕ → List ℕ) (p : ℕ) (V : List ℕ) → hold p ≡ None → IsPassed steps way p V
  passed_none steps way p V none t h = absurd cc

  -- after the first k of them
  pub record IsBeginning (n : ℕ) (begins : List ℕ) (k : ℕ) (steps : List Step) (came : List ℕ) : Type 0 where
    pub way : ℕ → List ℕ
    pub ordered : IsOrdered n steps came way
    pub begun : (j : ℕ) → j < k → IsPassed steps way (get_or begins j 0) []
    pub below : (q : ℕ) → ((j : ℕ) → j < k → get_or begins j 0 < q) → AreBelow steps way (q ∷ [])

  no_come : (P : Type 0) (steps : List Step) (o : ℕ) → has_come steps o ≡ false → has_come steps o ≡ true → P
  no_come P steps o e h = absurd cc

  pub begin_start : (n : ℕ) (begins : List ℕ) (steps : List Step) (came : List ℕ) → IsFresh n steps came → IsBeginning n begins 0 steps came
  begin_start n begins steps came fresh = record {
    way = λ o. [];
    ordered = record {
      long = fresh.long;
      count = subst (λ x. unseen steps + length x ≡ n) (sym fresh.none) (let all : unseen steps ≡ n = all_never steps fresh.never ∙ fresh.long in omega arith);
      leads = λ o h. no_come (LeadsBy hold field from o []) steps o (fresh.never o) h;
      by_steps = λ o h. no_come (CameBy field steps o []) steps o (fresh.never o) h;
      rising = λ i j h k. absurd (let none : length came ≡ 0 = ap length fresh.none in omega (arith, none, k));
      marked = λ i h. absurd (let none : length came ≡ 0 = ap length fresh.none in omega (arith, none, h));
      listed = λ o h. no_come ((i : ℕ) × (i < length came) × (get_or came i 0 ≡ o)) steps o (fresh.never o) h;
      short = λ i h. zero-le;
    };
    begun = λ j h. absurd (omega (arith, h));
    below = λ q h o c. no_come (Less [] (q ∷ [])) steps o (fresh.never o) c;
  }

  -- the next of them, which holds nothing of the graph
  pub begin_none : (n : ℕ) (begins : List ℕ) (k : ℕ) (steps : List Step) (came : List ℕ) → IsBeginning n begins k steps came → hold (get_or begins k 0) ≡ None → IsBeginning n begins (k + 1) steps came
  begin_none n begins k steps came is none = record {
    way = is.way;
    ordered = is.ordered;
    begun = λ j h. by_number (λ x. IsPassed steps is.way (get_or begins x 0) []) k j (passed_none steps is.way (get_or begins k 0) [] none)
        (λ e. is.begun j (let apart : j ≡ k → ⊥ = apart_number j k e in omega (arith, apart, h)));
    below = λ q all. is.below q (λ j h. all j (omega (arith, h)));
  }

  -- the next of them, which holds an object
  pub begin_more : (n : ℕ) (begins : List ℕ) (k t : ℕ) (steps : List Step) (came : List ℕ) → IsBeginning n begins k steps came → hold (get_or begins k 0) ≡ Some t → from (get_or begins k 0) ≡ true → t < n
      → ((j : ℕ) → j < k → get_or begins j 0 < get_or begins k 0)
      → (steps' : List Step) (came' : List ℕ) → steps' ≡ (if has_come steps t then steps else set steps t (First (get_or begins k 0))) → came' ≡ (if has_come steps t then came else came ++ t ∷ [])
      → IsBeginning n begins (k + 1) steps' came'
  begin_more n begins k t steps came is held begin within rising steps' came' se ce =
      let now : Comes n steps came is.way (get_or begins k 0) t [] steps' came' =
      comes n steps came is.way is.ordered (get_or begins k 0) t [] (First (get_or begins k 0)) within refl (held, begin) (is.below (get_or begins k 0) rising) zero-le
      (λ new. came_first steps (get_or begins k 0) t (subst (λ x. t < x) (sym is.ordered.long) within)) steps' came' se ce in
      record {
        way = now.way';
        ordered = now.ordered;
        begun = λ j h. by_number (λ x. IsPassed steps' now.way' (get_or begins x 0) []) k j
            (λ u h. let same : t ≡ u = cc in subst (λ x. (has_come steps' x ≡ true) × NoLater (now.way' x) (get_or begins k 0 ∷ [])) same (now.there, now.near))
            (λ e. passed_still steps steps' is.way now.way' now.grows (get_or begins j 0) [] (is.begun j (let apart : j ≡ k → ⊥ = apart_number j k e in omega (arith, apart, h))));
        below = λ q all. now.below (q ∷ []) (later_place (get_or begins k 0) q [] (all k (omega arith)));
      }

  -- either of both
  pub begin_either : (n : ℕ) (begins : List ℕ) (k : ℕ) (steps : List Step) (came : List ℕ) → IsBeginning n begins k steps came → from (get_or begins k 0) ≡ true → ((t : ℕ) → hold (get_or begins k 0) ≡ Some t → t < n)
      → ((j : ℕ) → j < k → get_or begins j 0 < get_or begins k 0)
      → (steps' : List Step) (came' : List ℕ) → steps' ≡ stepped (hold (get_or begins k 0)) steps (First (get_or begins k 0)) → came' ≡ joined (hold (get_or begins k 0)) steps came
      → IsBeginning n begins (k + 1) steps' came'
  begin_either n begins k steps came is begin within rising steps' came' se ce =
      elim (hold (get_or begins k 0)) as (λ x. hold (get_or begins k 0) ≡ x → steps' ≡ stepped x steps (First (get_or begins k 0)) → came' ≡ joined x steps came → IsBeginning n begins (k + 1) steps' came') [
        | None ↦ λ e s c. subst (λ x. IsBeginning n begins (k + 1) x came') (sym s) (subst (λ x. IsBeginning n begins (k + 1) steps x) (sym c) (begin_none n begins k steps came is e))
        | Some t ↦ λ e s c. begin_more n begins k t steps came is e begin (within t e) rising steps' came' s c
      ] refl se ce

  -- Object by object.

  abbrev pub HasBegun : List Step → (ℕ → List ℕ) → Type 0
  HasBegun steps way = (p : ℕ) → from p ≡ true → IsPassed steps way p []

  abbrev pub HasPassed : ℕ → List Step → List ℕ → (ℕ → List ℕ) → Type 0
  HasPassed at steps came way = (i p : ℕ) → i < at → field (get_or came i 0) p → IsPassed steps way p (way (get_or came i 0))

  -- all fields of the first objects that it came to have been gone through
  pub record IsGone (n at : ℕ) (steps : List Step) (came : List ℕ) : Type 0 where
    pub way : ℕ → List ℕ
    pub ordered : IsOrdered n steps came way
    pub begun : HasBegun steps way
    pub passed : HasPassed at steps came way
    pub ahead : at < length came → (p : ℕ) → AreBelow steps way (p ∷ way (get_or came at 0))
    pub within : at ≤ length came

  -- and of one more, those before a place
  pub record IsGoing (n at index place : ℕ) (steps : List Step) (came : List ℕ) : Type 0 where
    pub way : ℕ → List ℕ
    pub ordered : IsOrdered n steps came way
    pub begun : HasBegun steps way
    pub passed : HasPassed at steps came way
    pub inside : at < length came
    pub source : get_or came at 0 ≡ index
    pub along : (p : ℕ) → field index p → p < place → IsPassed steps way p (way index)
    pub below : AreBelow steps way (place ∷ way index)

  way_longer : (w : List ℕ) (o p Q : ℕ) → LeadsBy hold field from o w → Less (Q ∷ []) (p ∷ w)
  way_longer [] o p Q l = absurd l
  way_longer (q ∷ w) o p Q l = inl tt

  pub gone_start : (n Q : ℕ) (begins : List ℕ) (steps : List Step) (came : List ℕ) → IsBeginning n begins (length begins) steps came
      → ((p : ℕ) → from p ≡ true → (j : ℕ) × (j < length begins) × (get_or begins j 0 ≡ p)) → ((j : ℕ) → j < length begins → get_or begins j 0 < Q) → IsGone n 0 steps came
  gone_start n Q begins steps came is only bounded = record {
    way = is.way;
    ordered = is.ordered;
    begun = λ p h. let it = only p h in subst (λ x. IsPassed steps is.way x []) it.2 (is.begun it.0 it.1);
    passed = λ i p h. absurd (omega (arith, h));
    ahead = λ h p o c. less_trans (is.way o) (Q ∷ []) (p ∷ is.way (get_or came 0 0)) (is.below Q bounded o c)
        (way_longer (is.way (get_or came 0 0)) (get_or came 0 0) p Q (is.ordered.leads (get_or came 0 0) (is.ordered.marked 0 h)));
    within = zero-le;
  }

  -- the next object
  pub next_source : (came : List ℕ) (at index : ℕ) → at < length came → index ≡ get_or came at index → get_or came at 0 ≡ index
  next_source came at index h e = sym (get_or_read came at index h e 0)

  pub next_within : (n at index : ℕ) (steps : List Step) (came : List ℕ) → IsGone n at steps came → at < length came → index ≡ get_or came at index → index < n
  next_within n at index steps came is h e =
      subst (λ k. index < k) is.ordered.long (come_within steps index (subst (λ x. has_come steps x ≡ true) (next_source came at index h e) (is.ordered.marked at h)))

  pub going_start : (n at index start : ℕ) (steps : List Step) (came : List ℕ) → IsGone n at steps came → at < length came → get_or came at 0 ≡ index → ((p : ℕ) → field index p → start ≤ p) → IsGoing n at index start steps came
  going_start n at index start steps came is inside source lowest = record {
    way = is.way;
    ordered = is.ordered;
    begun = is.begun;
    passed = is.passed;
    inside = inside;
    source = source;
    along = λ p f h. absurd (let low : start ≤ p = lowest p f in omega (arith, low, h));
    below = subst (λ x. AreBelow steps is.way (start ∷ is.way x)) source (is.ahead inside start);
  }

  pub going_none : (n at index place : ℕ) (steps : List Step) (came : List ℕ) → IsGoing n at index place steps came → hold place ≡ None → IsGoing n at index (place + 1) steps came
  going_none n at index place steps came is none = record {
    way = is.way;
    ordered = is.ordered;
    begun = is.begun;
    passed = is.passed;
    inside = is.inside;
    source = is.source;
    along = λ p f h. by_number (λ x. IsPassed steps is.way x (is.way index)) place p (passed_none steps is.way place (is.way index) none)
        (λ e. is.along p f (let apart : p ≡ place → ⊥ = apart_number p place e in omega (arith, apart, h)));
    below = λ o c. less_trans (is.way o) (place ∷ is.way index) ((place + 1) ∷ is.way index) (is.below o c) (later_place place (place + 1) (is.way index) (omega arith));
  }

  pub going_more : (n at index place t : ℕ) (steps : List Step) (came : List ℕ) → IsGoing n at index place steps came → hold place ≡ Some t → field index place → t < n
      → (steps' : List Step) (came' : List ℕ) → steps' ≡ (if has_come steps t then steps else set steps t (Further place)) → came' ≡ (if has_come steps t then came else came ++ t ∷ [])
      → IsGoing n at index (place + 1) steps' came'
  going_more n at index place t steps came is held f within steps' came' se ce =
      let here : has_come steps index ≡ true = subst (λ x. has_come steps x ≡ true) is.source (is.ordered.marked at is.inside) in
      let short : length (is.way index) ≤ at + 1 = subst (λ x. length (is.way x) ≤ at + 1) is.source (is.ordered.short at is.inside) in
      let inside : at < length came = is.inside in
      let now : Comes n steps came is.way place t (is.way index) steps' came' =
      comes n steps came is.way is.ordered place t (is.way index) (Further place) within refl (leads_further place t index (is.way index) held f (is.ordered.leads index here)) is.below (omega (arith, short, inside))
      (λ new. came_further steps is.way place t index (is.way index) (subst (λ x. t < x) (sym is.ordered.long) within) new f (is.ordered.by_steps index here)) steps' came' se ce in
      let same_way : now.way' index ≡ is.way index = now.grows.ways index here in
      record {
        way = now.way';
        ordered = now.ordered;
        begun = λ p h. passed_still steps steps' is.way now.way' now.grows p [] (is.begun p h);
        passed = λ i p h g.
            let first : i < length came = omega (arith, h, inside) in
            let same : get_or came' i 0 ≡ get_or came i 0 = (now.kept i first).1 in
            let old_way : now.way' (get_or came' i 0) ≡ is.way (get_or came i 0) = ap now.way' same ∙ now.grows.ways (get_or came i 0) (is.ordered.marked i first) in
            subst (λ w. IsPassed steps' now.way' p w) (sym old_way) (passed_still steps steps' is.way now.way' now.grows p (is.way (get_or came i 0)) (is.passed i p h (subst (λ x. field x p) same g)));
        inside = (now.kept at is.inside).0;
        source = (now.kept at is.inside).1 ∙ is.source;
        along = λ p g h. subst (λ w. IsPassed steps' now.way' p w) (sym same_way)
            (by_number (λ x. IsPassed steps' now.way' x (is.way index)) place p
            (λ u h. let same : t ≡ u = cc in subst (λ x. (has_come steps' x ≡ true) × NoLater (now.way' x) (place ∷ is.way index)) same (now.there, now.near))
            (λ e. passed_still steps steps' is.way now.way' now.grows p (is.way index) (is.along p g (let apart : p ≡ place → ⊥ = apart_number p place e in omega (arith, apart, h)))));
        below = subst (λ w. AreBelow steps' now.way' ((place + 1) ∷ w)) (sym same_way) (now.below ((place + 1) ∷ is.way index) (later_place place (place + 1) (is.way index) (omega arith)));
      }

  -- either of both
  pub going_either : (n at index place : ℕ) (steps : List Step) (came : List ℕ) → IsGoing n at index place steps came → field index place → ((t : ℕ) → hold place ≡ Some t → t < n)
      → (steps' : List Step) (came' : List ℕ) → steps' ≡ stepped (hold place) steps (Further place) → came' ≡ joined (hold place) steps came → IsGoing n at index (place + 1) steps' came'
  going_either n at index place steps came is f within steps' came' se ce =
      elim (hold place) as (λ x. hold place ≡ x → steps' ≡ stepped x steps (Further place) → came' ≡ joined x steps came → IsGoing n at index (place + 1) steps' came') [
        | None ↦ λ e s c. subst (λ x. IsGoing n at index (place + 1) x came') (sym s) (subst (λ x. IsGoing n at index (place + 1) steps x) (sym c) (going_none n at index place steps came is e))
        | Some t ↦ λ e s c. going_more n at index place t steps came is e f (within t e) steps' came' s c
      ] refl se ce

  pub gone_more : (n at index place : ℕ) (steps : List Step) (came : List ℕ) → IsGoing n at index place steps came → ((p : ℕ) → field index p → p < place) → IsGone n (at + 1) steps came
  gone_more n at index place steps came is all = record {
    way = is.way;
    ordered = is.ordered;
    begun = is.begun;
    passed = λ i p h. by_number (λ x. field (get_or came x 0) p → IsPassed steps is.way p (is.way (get_or came x 0))) at i
        (λ f. subst (λ x. IsPassed steps is.way p (is.way x)) (sym is.source) (let g : field index p = subst (λ x. field x p) is.source f in is.along p g (all p g)))
        (λ e. is.passed i p (let apart : i ≡ at → ⊥ = apart_number i at e in omega (arith, apart, h)));
    ahead = λ h p o c. less_trans (is.way o) (place ∷ is.way index) (p ∷ is.way (get_or came (at + 1) 0)) (is.below o c)
        (less_behind place p (is.way index) (is.way (get_or came (at + 1) 0)) (subst (λ x. Less (is.way x) (is.way (get_or came (at + 1) 0))) is.source (is.ordered.rising at (at + 1) (omega arith) h)));
    within = let inside : at < length came = is.inside in omega (arith, inside);
  }

  -- After the last object no way is left.
  module _ (n at : ℕ) (steps : List Step) (came : List ℕ) (is : IsGone n at steps came) (end : length came ≤ at) where
    complete : (w : List ℕ) (o : ℕ) → LeadsBy hold field from o w → (has_come steps o ≡ true) × NoLater (is.way o) w
    complete [] o l = absurd l
    complete (p ∷ []) o l = is.begun p l.1 o l.0
    complete (p ∷ q ∷ w) o l =
        let r = l.1.0 in
        let before = complete (q ∷ w) l.1.0 l.1.2 in
        let it = is.ordered.listed l.1.0 before.0 in
        let first : it.0 < length came = it.1 in
        let now = is.passed it.0 p (omega (arith, first, end)) (subst (λ x. field x p) (sym it.2) l.1.1) o l.0 in
        (now.0, no_later_trans (is.way o) (p ∷ is.way l.1.0) (p ∷ q ∷ w) (subst (λ x. NoLater (is.way o) (p ∷ is.way x)) it.2 now.1) (behind_both p (is.way l.1.0) (q ∷ w) before.1))

    short_way : (o : ℕ) → has_come steps o ≡ true → length (is.way o) ≤ n
    short_way o h =
        let it = is.ordered.listed o h in
        let first : it.0 < length came = it.1 in
        let short : length (is.way (get_or came it.0 0)) ≤ it.0 + 1 = is.ordered.short it.0 it.1 in
        let all : unseen steps + length came ≡ n = is.ordered.count in
        subst (λ x. length (is.way x) ≤ n) it.2 (omega (arith, first, short, all))

    pub all_listed : AreListed steps came
    all_listed o h = is.ordered.listed o h

    pub walked : HasWalked hold field from n steps
    walked = record {
      long = is.ordered.long;
      way = is.way;
      least = λ o h. (is.ordered.leads o h, λ other l. (complete other o l).1);
      all = λ o other l. (complete other o l).0;
      came = is.ordered.by_steps;
      short = short_way;
    }
