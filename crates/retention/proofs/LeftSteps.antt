-- How a search goes through the fields of objects.
use Rattle.std.proofs.Common.{◌≡◌, ℕ, ◌+◌, ◌-◌, ◌<◌, ◌≤◌, List, [], ◌∷◌, ◌++◌, length, get_or, set, sym, ap, ◌∙◌, subst, arith, Bool, true, false, length-append, length-set, get_or-set_same, get_or-set_other}
use Rattle.std.specs.Prelude.{Some, ◌==◌, slice_get}
use Rattle.std.proofs.lemmas.Option.{slice_get_within, get_or_from_slice_get}
use Rattle.std.specs.List.{sum}
use Rattle.std.proofs.lemmas.List.Sums.{sum_by-set}
use Rattle.std.proofs.lemmas.List.{get_or_push}
use Rattle.retention.specs.declared.graph.Graph.{Graph}
use Rattle.retention.specs.Graph.{size, places, holds, start_at, IsFieldAt}
use Rattle.retention.specs.Paths.{Points, Path, marked, IsSearching, AreLeft}
use Rattle.retention.proofs.WalkSteps.{by_number, apart_number}
use Rattle.retention.proofs.PathLemmas.{path_trans, has_at, has_last, mark_same, mark_other}

-- more objects are seen
pub left_still : (g : Graph) (seen seen' : List Bool) (left : List ℕ) → AreLeft g seen left → ((x : ℕ) → marked seen x ≡ true → marked seen' x ≡ true) → AreLeft g seen' left
left_still g seen seen' left is still = record {
  long = is.long;
  few = is.few;
  passed = λ x p y h low high e. still y (is.passed x p y h low high e);
}

-- the next field of an object
module _ (g : Graph) (seen : List Bool) (left : List ℕ) (is : AreLeft g seen left) (last : ℕ) (inside : last < size g) (more : 0 < get_or left last 0) where
  pub next_field : IsFieldAt g last (start_at g (last + 1) - get_or left last 0)
  next_field = let few : start_at g last + get_or left last 0 ≤ start_at g (last + 1) = is.few last inside in (omega (arith, few), omega (arith, few, more))

  pub next_within : start_at g (last + 1) - get_or left last 0 < places g
  next_within =
      let high : start_at g (last + 1) - get_or left last 0 < start_at g (last + 1) = next_field.1 in
      let end : start_at g (last + 1) ≤ places g = g.laid.are_starts.within (last + 1) (omega (arith, inside)) in
      omega (arith, high, end)

  in_left : last < length left
  in_left = subst (λ n. last < n) (sym is.long) inside

  same : get_or (set left last (get_or left last 0 - 1)) last 0 ≡ get_or left last 0 - 1
  same = get_or-set_same left last (get_or left last 0 - 1) 0 in_left

  other : (x : ℕ) → (x == last) ≡ false → get_or (set left last (get_or left last 0 - 1)) x 0 ≡ get_or left x 0
  other x e = get_or-set_other left last x (get_or left last 0 - 1) 0 (apart_number x last e)

  pub sum_less : sum (set left last (get_or left last 0 - 1)) + 1 ≡ sum left
  sum_less =
      let one : sum (set left last (get_or left last 0 - 1)) + get_or left last 0 ≡ sum left + (get_or left last 0 - 1) = sum_by-set (λ x. x) left last (get_or left last 0 - 1) 0 in_left in
      omega (arith, one, more)

  module _ (seen' : List Bool) (still : (x : ℕ) → marked seen x ≡ true → marked seen' x ≡ true) (now : (y : ℕ) → holds g (start_at g (last + 1) - get_or left last 0) ≡ Some y → marked seen' y ≡ true) where
    here : (p y : ℕ) → start_at g last ≤ p → p + (get_or left last 0 - 1) < start_at g (last + 1) → holds g p ≡ Some y → marked seen' y ≡ true
    here p y low high e = by_number (λ z. holds g z ≡ Some y → marked seen' y ≡ true) (start_at g (last + 1) - get_or left last 0) p (λ f. now y f)
        (λ apart f. still y (is.passed last p y inside low
        (let differ : p ≡ start_at g (last + 1) - get_or left last 0 → ⊥ = apart_number p (start_at g (last + 1) - get_or left last 0) apart in omega (arith, differ, high, more)) f)) e

    -- it has been gone through
    pub one_less : AreLeft g seen' (set left last (get_or left last 0 - 1))
    one_less = record {
      long = length-set left last (get_or left last 0 - 1) ∙ is.long;
      few = λ x h. by_number (λ z. z < size g → start_at g z + get_or (set left last (get_or left last 0 - 1)) z 0 ≤ start_at g (z + 1)) last x
          (λ k. subst (λ n. start_at g last + n ≤ start_at g (last + 1)) (sym same) (let few : start_at g last + get_or left last 0 ≤ start_at g (last + 1) = is.few last inside in omega (arith, few)))
          (λ e k. subst (λ n. start_at g x + n ≤ start_at g (x + 1)) (sym (other x e)) (is.few x k)) h;
      passed = λ x p y h low high e. by_number (λ z. z < size g → start_at g z ≤ p → p + get_or (set left last (get_or left last 0 - 1)) z 0 < start_at g (z + 1) → marked seen' y ≡ true) last x
          (λ k l u. here p y l (subst (λ n. p + n < start_at g (last + 1)) same u) e)
          (λ apart k l u. still y (is.passed x p y k l (subst (λ n. p + n < start_at g (x + 1)) (other x apart) u) e)) h low high;
    }

-- the last one has been gone through
pub all_gone : (g : Graph) (seen : List Bool) (left : List ℕ) → AreLeft g seen left → (last : ℕ) → last < size g → get_or left last 0 ≡ 0 → (y : ℕ) → Points g last y → marked seen y ≡ true
all_gone g seen left is last inside none y it = let high : it.0 < start_at g (last + 1) = it.1.1 in is.passed last it.0 y inside it.1.0 (omega (arith, high, none)) it.2

-- a path to what the last object of the path of the search points to
pub from_last : (g : Graph) (seen : List Bool) (path order : List ℕ) → IsSearching (Points g) (size g) seen path order → (last t : ℕ) → 0 < length path → get_or path (length path - 1) 0 ≡ last → Points g last t
    → (i : ℕ) → i < length path → Path (Points g) (get_or path i 0) t
from_last g seen path order is last t some here points i h =
    by_number (λ x. x < length path → Path (Points g) (get_or path x 0) t) (length path - 1) i
    (λ k. ([], subst (λ x. Points g x t) (sym here) points))
    (λ e k. path_trans (Points g) (get_or path i 0) last t
    (subst (λ x. Path (Points g) (get_or path i 0) x) here (is.chain i (length path - 1) (let apart : i ≡ length path - 1 → ⊥ = apart_number i (length path - 1) e in omega (arith, apart, k)) (omega (arith, some)))) ([], points)) h

pub last_seen : (Edge : ℕ → ℕ → Type 0) (n : ℕ) (seen : List Bool) (path order : List ℕ) → IsSearching Edge n seen path order → (last : ℕ) → 0 < length path → get_or path (length path - 1) 0 ≡ last → last < n
last_seen Edge n seen path order is last some here = subst (λ x. x < n) here (is.within (get_or path (length path - 1) 0) (is.path_seen (get_or path (length path - 1) 0) (has_at path (length path - 1) (omega (arith, some)))))

-- the last of a list
pub last_at : (path rest : List ℕ) (last n : ℕ) → path ≡ rest ++ last ∷ [] → length path ≡ n → get_or path (n - 1) 0 ≡ last
last_at path rest last n e l =
    let one : length (rest ++ last ∷ []) ≡ length rest + 1 = length-append rest (last ∷ []) in
    let count : length rest ≡ n - 1 = (let m : length path ≡ length (rest ++ last ∷ []) = ap length e in omega (arith, one, m, l)) in
    ap (λ xs. get_or xs (n - 1) 0) e ∙ get_or_push rest last 0 (n - 1) count

pub top_of : (path : List ℕ) (last : ℕ) → slice_get path (length path - 1) ≡ Some last → (0 < length path) × (get_or path (length path - 1) 0 ≡ last)
top_of path last e = (let l : length path - 1 < length path = slice_get_within path (length path - 1) last e in omega (arith, l), get_or_from_slice_get path (length path - 1) last 0 e)

pub last_within : (Edge : ℕ → ℕ → Type 0) (n : ℕ) (seen : List Bool) (rest : List ℕ) (last : ℕ) (order : List ℕ) → IsSearching Edge n seen (rest ++ last ∷ []) order → last < n
last_within Edge n seen rest last order is = is.within last (is.path_seen last (has_last rest last))

-- what is seen stays seen, and so is what was entered
pub still_marked : (seen : List Bool) (t : ℕ) → t < length seen → (x : ℕ) → marked seen x ≡ true → marked (set seen t true) x ≡ true
still_marked seen t inside x h = by_number (λ z. marked seen z ≡ true → marked (set seen t true) z ≡ true) t x (λ k. mark_same seen t inside) (λ e k. mark_other seen t x e ∙ k) h

pub now_entered : (seen : List Bool) (t : ℕ) → t < length seen → (y : ℕ) → Some t ≡ Some y → marked (set seen t true) y ≡ true
now_entered seen t inside y e = let same : t ≡ y = cc in subst (λ z. marked (set seen t true) z ≡ true) same (mark_same seen t inside)

pub now_marked : (seen : List Bool) (t y : ℕ) → marked seen t ≡ true → Some t ≡ Some y → marked seen y ≡ true
now_marked seen t y h e = let same : t ≡ y = cc in subst (λ z. marked seen z ≡ true) same h

pub pass_left : (g : Graph) (seen : List Bool) (left : List ℕ) (is : AreLeft g seen left) (last : ℕ) (inside : last < size g) (more : 0 < get_or left last 0) (seen' : List Bool) (left' : List ℕ) (v : ℕ) → left' ≡ left → v ≡ get_or left last 0
    → ((x : ℕ) → marked seen x ≡ true → marked seen' x ≡ true) → ((y : ℕ) → holds g (start_at g (last + 1) - get_or left last 0) ≡ Some y → marked seen' y ≡ true) → AreLeft g seen' (set left' last (v - 1))
pass_left g seen left is last inside more seen' left' v le ve still now =
    subst (λ xs. AreLeft g seen' (set xs last (v - 1))) (sym le) (subst (λ n. AreLeft g seen' (set left last (n - 1))) (sym ve) (one_less g seen left is last inside more seen' still now))
