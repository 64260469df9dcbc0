-- Spans of operations.
use Rattle.std.proofs.Common.{◌≡◌, ℕ, suc, ◌+◌, ◌-◌, ◌<◌, ◌≤◌, List, [], ◌∷◌, ◌++◌, length, take, drop, get_or, refl, ap, sym, subst, ◌∙◌, arith, append_assoc, length-append, take-append-drop, add-one}
use Rattle.std.specs.Prelude.{insert, remove, slice_set}
use Rattle.std.proofs.lemmas.Bool.{cases_lt}
use mathlib.Core.Logic.{⊎_elim}
use Rattle.std.proofs.Math.Seq.{take-add, take-length, drop-append-add}
use Rattle.std.proofs.lemmas.List.{append-nil, take_more, length-take, length-drop, length-take-le, take_at, drop_at, set_at, set_split, drop-drop, drop-take, drop-append-le, take-append-le, drop_more, take_all}
use Rattle.std.proofs.lemmas.List.Concat.{flat_map-append}
use Rattle.trace_types.specs.Operation.{Operation}
use Rattle.run_engine.specs.declared.editing.spans.Span.{Span}
use Rattle.run_engine.specs.declared.editing.spans.Span.TheVariants.{Old, New}
use Rattle.run_engine.specs.HeadAndTail.{AreAlike}
use Rattle.run_engine.specs.inner.ListingView.{ListingView}
use Rattle.run_engine.specs.inner.Spans.{ops_in, laid, span_length, total, Fits, AreFit, IsFound}
use Rattle.run_engine.proofs.ListingLemmas.{around, take-shorter}

pub total-append : (a b : List Span) → total (a ++ b) ≡ total a + total b
total-append [] b = omega arith
total-append (s ∷ a) b = omega (arith, total-append a b)

pub laid-append : (base : List Operation) (a b : List Span) → laid base (a ++ b) ≡ laid base a ++ laid base b
laid-append base a b = flat_map-append (ops_in base) a b

pub AreFit-append : (n : ℕ) (a b : List Span) → AreFit n a → AreFit n b → AreFit n (a ++ b)
AreFit-append n [] b h k = k
AreFit-append n (s ∷ a) b h k = (h.0, AreFit-append n a b h.1 k)

pub AreFit-prefix : (n : ℕ) (a b : List Span) → AreFit n (a ++ b) → AreFit n a
AreFit-prefix n [] b h = tt
AreFit-prefix n (s ∷ a) b h = (h.0, AreFit-prefix n a b h.1)

pub AreFit-back : (n : ℕ) (a b : List Span) → AreFit n (a ++ b) → AreFit n b
AreFit-back n [] b h = h
AreFit-back n (s ∷ a) b h = AreFit-back n a b h.1

pub length-ops_in : (base : List Operation) (s : Span) → Fits (length base) s → length (ops_in base s) ≡ span_length s
length-ops_in base (Old from len) h = omega (arith, length-take len (drop from base), length-drop from base)
length-ops_in base (New op) h = refl

pub length-laid : (base : List Operation) (spans : List Span) → AreFit (length base) spans → length (laid base spans) ≡ total spans
length-laid base [] h = refl
length-laid base (s ∷ spans) h = omega (arith, length-append (ops_in base s) (laid base spans), length-ops_in base s h.0, length-laid base spans h.1)

-- the spans around the one at i
pub parts : (spans : List Span) (i : ℕ) (s : Span) → i < length spans → s ≡ get_or spans i s → spans ≡ take i spans ++ s ∷ drop (i + 1) spans
parts spans i s lt is = sym (take-append-drop i spans) ∙ ap (λ ss. take i spans ++ ss) (around spans i s lt is)

pub total-next : (spans : List Span) (i : ℕ) (s : Span) → i < length spans → s ≡ get_or spans i s → total (take (i + 1) spans) ≡ total (take i spans) + span_length s
total-next spans i s lt is =
    ap total (take_more spans i s lt ∙ ap (λ t. take i spans ++ t ∷ []) (sym is)) ∙ total-append (take i spans) (s ∷ []) ∙ ap (λ n. total (take i spans) + n) one
  where
    one : span_length s + 0 ≡ span_length s
    one = omega arith

pub total-around : (spans : List Span) (i : ℕ) → total (take i spans) + total (drop i spans) ≡ total spans
total-around spans i = sym (total-append (take i spans) (drop i spans)) ∙ ap total (take-append-drop i spans)

module _ {X : Type 0} where
  -- the first i + 1, where i stand in front of one
  pub take-after : (p rest : List X) (a : X) (i : ℕ) → length p ≡ i → take (i + 1) (p ++ a ∷ rest) ≡ p ++ a ∷ []
  take-after p rest a i e = ap (take (i + 1)) (sym (append_assoc p (a ∷ []) rest)) ∙ take_at (p ++ a ∷ []) rest (i + 1) (length-append p (a ∷ []) ∙ ap (λ n. n + 1) e)

  pub set-split : (xs : List X) (i : ℕ) (a b : X) → i < length xs → slice_set (insert xs (i + 1) b) i a ≡ take i xs ++ (a ∷ (b ∷ drop (i + 1) xs))
  set-split xs i a b lt =
      let long : length (take i xs) ≡ i = length-take-le i xs (omega arith) in
      ap (λ ys. slice_set (ys ++ (b ∷ drop (i + 1) xs)) i a) (take_more xs i a lt)
      ∙ ap (λ ys. slice_set ys i a) (append_assoc (take i xs) (get_or xs i a ∷ []) (b ∷ drop (i + 1) xs))
      ∙ set_at (take i xs) (get_or xs i a) (b ∷ drop (i + 1) xs) a i long

  pub insert-at : (p q : List X) (x : X) (n : ℕ) → length p ≡ n → insert (p ++ q) n x ≡ p ++ x ∷ q
  insert-at p q x n e = ap (λ ys. ys ++ (x ∷ drop n (p ++ q))) (take_at p q n e) ∙ ap (λ ys. p ++ x ∷ ys) (drop_at p q n e)

  pub remove-at : (p q : List X) (x : X) (n : ℕ) → length p ≡ n → remove (p ++ x ∷ q) n ≡ p ++ q
  remove-at p q x n e = ap (remove (p ++ x ∷ q)) (sym e) ∙ by_length p q x
    where
      by_length : (p q : List X) (x : X) → remove (p ++ x ∷ q) (length p) ≡ p ++ q
      by_length [] q x = refl
      by_length (y ∷ p) q x = ap (λ ys. y ∷ ys) (by_length p q x)

  pub set-removed : (xs : List X) (i : ℕ) (x : X) → i < length xs → insert (remove xs i) i x ≡ slice_set xs i x
  set-removed xs i x lt =
      insert-at (take i xs) (drop (suc i) xs) x i (length-take-le i xs (omega arith)) ∙ sym (set_split xs i x lt)

-- a part of the base in two
cut-old : (base : List Operation) (from len k : ℕ) → k ≤ len → take k (drop from base) ++ take (len - k) (drop (from + k) base) ≡ take len (drop from base)
cut-old base from len k le =
    let whole : k + (len - k) ≡ len = omega arith in
    ap (λ ops. take k (drop from base) ++ take (len - k) ops) (sym (drop-drop k from base)) ∙ sym (take-add k (len - k) (drop from base)) ∙ ap (λ n. take n (drop from base)) whole

pub split-laid : (base : List Operation) (p rest : List Span) (from len k : ℕ) → k ≤ len → laid base (p ++ (Old from k ∷ (Old (from + k) (len - k) ∷ rest))) ≡ laid base (p ++ Old from len ∷ rest)
split-laid base p rest from len k le =
    laid-append base p (Old from k ∷ (Old (from + k) (len - k) ∷ rest))
    ∙ ap (λ ops. laid base p ++ ops) (sym (append_assoc (take k (drop from base)) (take (len - k) (drop (from + k) base)) (laid base rest)) ∙ ap (λ ops. ops ++ laid base rest) (cut-old base from len k le))
    ∙ sym (laid-append base p (Old from len ∷ rest))

pub split-fit : (n : ℕ) (p rest : List Span) (from len k : ℕ) → k ≤ len → AreFit n (p ++ Old from len ∷ rest) → AreFit n (p ++ (Old from k ∷ (Old (from + k) (len - k) ∷ rest)))
split-fit n p rest from len k le h =
    let back = AreFit-back n p (Old from len ∷ rest) h in
    let fits : from + len ≤ n = back.0 in
    AreFit-append n p (Old from k ∷ (Old (from + k) (len - k) ∷ rest)) (AreFit-prefix n p (Old from len ∷ rest) h) (omega arith, (omega arith, back.1))

pub split-total : (p rest : List Span) (from len k : ℕ) → k ≤ len → total (p ++ (Old from k ∷ (Old (from + k) (len - k) ∷ rest))) ≡ total (p ++ Old from len ∷ rest)
split-total p rest from len k le = omega (arith, total-append p (Old from k ∷ (Old (from + k) (len - k) ∷ rest)), total-append p (Old from len ∷ rest))

pub split-found : (p rest : List Span) (from len k i place : ℕ) → k < len → length p ≡ i → total p + k ≡ place → IsFound (p ++ (Old from k ∷ (Old (from + k) (len - k) ∷ rest))) place (i + 1) 0
split-found p rest from len k i place lt long is =
    let a : Span = Old from k in
    let b : Span = Old (from + k) (len - k) in
    let first : total (take (i + 1) (p ++ (a ∷ (b ∷ rest)))) ≡ total p + k = ap total (take-after p (b ∷ rest) a i long) ∙ total-append p (a ∷ []) ∙ ap (λ n. total p + n) (plus k) in
    let both : length (p ++ a ∷ []) ≡ i + 1 = length-append p (a ∷ []) ∙ ap (λ n. n + 1) long in
    let second : total (take (i + 1 + 1) (p ++ (a ∷ (b ∷ rest)))) ≡ total p + len =
    ap (λ ss. total (take (i + 1 + 1) ss)) (sym (append_assoc p (a ∷ []) (b ∷ rest))) ∙ ap total (take-after (p ++ a ∷ []) rest b (i + 1) both)
    ∙ total-append (p ++ a ∷ []) (b ∷ []) ∙ ap (λ n. n + total (b ∷ [])) (total-append p (a ∷ [])) ∙ ends (total p) in
    record {
      within = omega (arith, length-append p (a ∷ (b ∷ rest)));
      place_is = omega arith;
      inside = λ h. omega arith;
    }
  where
    plus : (n : ℕ) → n + 0 ≡ n
    plus n = omega arith

    ends : (n : ℕ) → n + (k + 0) + (len - k + 0) ≡ n + len
    ends n = omega arith

-- a place that isn't behind all has its span
pub found-there : (spans : List Span) (place i rest : ℕ) → IsFound spans place i rest → place < total spans → i < length spans
found-there spans place i rest h lt = ⊎_elim (λ less. less)
    (λ (le : length spans ≤ i). let all : total (take i spans) ≡ total spans = ap total (take_all i spans le) in absurd (omega (arith, h.place_is)))
    (cases_lt i (length spans))

pub found-inside : (spans : List Span) (place i rest : ℕ) (s : Span) → IsFound spans place i rest → i < length spans → s ≡ get_or spans i s → rest < span_length s
found-inside spans place i rest s h lt is = omega (arith, total-next spans i s lt is, h.place_is, h.inside lt)

pub fit-at : (n : ℕ) (spans : List Span) (i : ℕ) (s : Span) → AreFit n spans → i < length spans → s ≡ get_or spans i s → Fits n s
fit-at n spans i s h lt is = (AreFit-back n (take i spans) (s ∷ drop (i + 1) spans) (subst (AreFit n) (parts spans i s lt is) h)).0

-- what is laid from a place on
pub laid-from : (base : List Operation) (spans : List Span) (place i rest : ℕ) (s : Span) → AreFit (length base) spans → IsFound spans place i rest → i < length spans → s ≡ get_or spans i s
    → drop place (laid base spans) ≡ drop rest (ops_in base s) ++ laid base (drop (i + 1) spans)
laid-from base spans place i rest s fit h lt is =
    let p : List Span = take i spans in
    let q : List Span = drop (i + 1) spans in
    let whole : AreFit (length base) (p ++ s ∷ q) = subst (AreFit (length base)) (parts spans i s lt is) fit in
    let prefix : length (laid base p) ≡ total p = length-laid base p (AreFit-prefix (length base) p (s ∷ q) whole) in
    let inner : length (ops_in base s) ≡ span_length s = length-ops_in base s (AreFit-back (length base) p (s ∷ q) whole).0 in
    let less : rest < span_length s = found-inside spans place i rest s h lt is in
    let there : length (laid base p) + rest ≡ place = omega (arith, h.place_is) in
    ap (λ ss. drop place (laid base ss)) (parts spans i s lt is)
    ∙ ap (drop place) (laid-append base p (s ∷ q))
    ∙ ap (λ n. drop n (laid base p ++ (ops_in base s ++ laid base q))) (sym there)
    ∙ drop-append-add (laid base p) (ops_in base s ++ laid base q) rest
    ∙ drop-append-le rest (ops_in base s) (laid base q) (omega arith)

-- the operations of a part of the base that stand side by side
pub from-old : (base ops more : List Operation) (from len rest few : ℕ) → ops ≡ take (length ops) (drop (from + rest) base) → few ≤ length ops → few ≤ len - rest → rest ≤ len → from + len ≤ length base
    → take few ops ≡ take (length (take few ops)) (drop rest (take len (drop from base)) ++ more)
from-old base ops more from len rest few is le short within fits =
    let d : List Operation = drop (from + rest) base in
    let whole : len ≡ rest + (len - rest) = omega arith in
    let inner : drop rest (take len (drop from base)) ≡ take (len - rest) d =
    ap (λ n. drop rest (take n (drop from base))) whole ∙ drop-take rest (len - rest) (drop from base) ∙ ap (take (len - rest)) (drop-drop rest from base) in
    let long : length (take few ops) ≡ few = length-take-le few ops le in
    let wide : few ≤ length (take (len - rest) d) = omega (arith, length-take (len - rest) d, length-drop (from + rest) base) in
    ap (take few) is ∙ take-shorter few (length ops) d le
    ∙ sym (ap (λ n. take n (drop rest (take len (drop from base)) ++ more)) long
    ∙ ap (λ xs. take few (xs ++ more)) inner ∙ take-append-le few (take (len - rest) d) more wide ∙ take-shorter few (len - rest) d short)

-- the same where they are wanted to the last
pub whole-old : (base ops more : List Operation) (from len rest : ℕ) → ops ≡ take (length ops) (drop (from + rest) base) → length ops ≤ len - rest → rest ≤ len → from + len ≤ length base
    → ops ≡ take (length ops) (drop rest (take len (drop from base)) ++ more)
whole-old base ops more from len rest is short within fits =
    let all : take (length ops) ops ≡ ops = take-length ops in
    subst (λ (os : List Operation). os ≡ take (length os) (drop rest (take len (drop from base)) ++ more)) all
    (from-old base ops more from len rest (length ops) is (omega arith) short within fits)

-- a new span
pub insert-laid : (base : List Operation) (spans : List Span) (i place : ℕ) (s : Span) (x : Operation) → AreFit (length base) spans → total (take i spans) ≡ place → ops_in base s ≡ x ∷ []
    → laid base (insert spans i s) ≡ insert (laid base spans) place x
insert-laid base spans i place s x fit at one =
    let p : List Span = take i spans in
    let q : List Span = drop i spans in
    let prefix : length (laid base p) ≡ place = length-laid base p (AreFit-prefix (length base) p q (subst (AreFit (length base)) (sym (take-append-drop i spans)) fit)) ∙ at in
    laid-append base p (s ∷ q)
    ∙ ap (λ ops. laid base p ++ (ops ++ laid base q)) one
    ∙ sym (insert-at (laid base p) (laid base q) x place prefix)
    ∙ ap (λ ops. insert ops place x) (sym (laid-append base p q) ∙ ap (laid base) (take-append-drop i spans))

pub insert-fit : (n : ℕ) (spans : List Span) (i : ℕ) (s : Span) → AreFit n spans → Fits n s → AreFit n (insert spans i s)
insert-fit n spans i s fit h =
    let whole : AreFit n (take i spans ++ drop i spans) = subst (AreFit n) (sym (take-append-drop i spans)) fit in
    AreFit-append n (take i spans) (s ∷ drop i spans) (AreFit-prefix n (take i spans) (drop i spans) whole) (h, AreFit-back n (take i spans) (drop i spans) whole)

pub insert-total : (spans : List Span) (i : ℕ) (s : Span) → total (insert spans i s) ≡ total spans + span_length s
insert-total spans i s = omega (arith, total-append (take i spans) (s ∷ drop i spans), total-around spans i)

-- the first operation of a span goes
pub cut-laid : (base : List Operation) (spans left : List Span) (i : ℕ) (s : Span) (x : Operation) → AreFit (length base) spans → i < length spans → s ≡ get_or spans i s → ops_in base s ≡ x ∷ laid base left
    → laid base (take i spans ++ (left ++ drop (i + 1) spans)) ≡ remove (laid base spans) (total (take i spans))
cut-laid base spans left i s x fit lt is e =
    let p : List Span = take i spans in
    let q : List Span = drop (i + 1) spans in
    let prefix : length (laid base p) ≡ total p = length-laid base p (AreFit-prefix (length base) p (s ∷ q) (subst (AreFit (length base)) (parts spans i s lt is) fit)) in
    laid-append base p (left ++ q) ∙ ap (λ ops. laid base p ++ ops) (laid-append base left q)
    ∙ sym (remove-at (laid base p) (laid base left ++ laid base q) x (total p) prefix)
    ∙ ap (λ ops. remove (laid base p ++ (ops ++ laid base q)) (total p)) (sym e)
    ∙ ap (λ ops. remove ops (total p)) (sym (laid-append base p (s ∷ q)) ∙ ap (laid base) (sym (parts spans i s lt is)))

pub old-first : (base : List Operation) (from len : ℕ) (x : Operation) → 0 < len → from < length base → take len (drop from base) ≡ get_or base from x ∷ (take (len - 1) (drop (from + 1) base) ++ [])
old-first base from len x some lt =
    let next : len ≡ suc (len - 1) = omega arith in
    ap (take len) (drop_more base from x lt) ∙ ap (λ n. take n (get_or base from x ∷ drop (from + 1) base)) next
    ∙ ap (λ ops. get_or base from x ∷ ops) (sym (append-nil (take (len - 1) (drop (from + 1) base))))

pub set-parts : (spans : List Span) (i : ℕ) (a : Span) → i < length spans → slice_set spans i a ≡ take i spans ++ (a ∷ drop (i + 1) spans)
set-parts spans i a lt = set_split spans i a lt ∙ ap (λ n. take i spans ++ (a ∷ drop n spans)) (sym (add-one i))

pub remove-parts : (spans : List Span) (i : ℕ) → remove spans i ≡ take i spans ++ drop (i + 1) spans
remove-parts spans i = ap (λ n. take i spans ++ drop n spans) (sym (add-one i))

pub cut-fit : (n : ℕ) (spans left : List Span) (i : ℕ) (s : Span) → AreFit n spans → i < length spans → s ≡ get_or spans i s → AreFit n left → AreFit n (take i spans ++ (left ++ drop (i + 1) spans))
cut-fit n spans left i s fit lt is h =
    let whole : AreFit n (take i spans ++ s ∷ drop (i + 1) spans) = subst (AreFit n) (parts spans i s lt is) fit in
    AreFit-append n (take i spans) (left ++ drop (i + 1) spans) (AreFit-prefix n (take i spans) (s ∷ drop (i + 1) spans) whole)
    (AreFit-append n left (drop (i + 1) spans) h (AreFit-back n (take i spans) (s ∷ drop (i + 1) spans) whole).1)

pub cut-total : (spans left : List Span) (i : ℕ) (s : Span) → i < length spans → s ≡ get_or spans i s → total left + 1 ≡ span_length s → total (take i spans ++ (left ++ drop (i + 1) spans)) + 1 ≡ total spans
cut-total spans left i s lt is e =
    let whole : total spans ≡ total (take i spans) + (span_length s + total (drop (i + 1) spans)) = ap total (parts spans i s lt is) ∙ total-append (take i spans) (s ∷ drop (i + 1) spans) in
    omega (arith, total-append (take i spans) (left ++ drop (i + 1) spans), total-append left (drop (i + 1) spans))

pub AreFit-wider : (n m : ℕ) (spans : List Span) → n ≤ m → AreFit n spans → AreFit m spans
AreFit-wider n m [] le h = tt
AreFit-wider n m (s ∷ spans) le h = (wider s h.0, AreFit-wider n m spans le h.1)
  where
    wider : (s : Span) → Fits n s → Fits m s
    wider (Old from len) fits = omega (arith, fits)
    wider (New op) fits = tt

-- the span at a place that isn't behind all stays where it stands in the base
pub record IsOldAt (spans : List Span) (i rest from len n : ℕ) : Type 0 where
  pub there : i < length spans
  pub less : rest < len
  pub is : Old from len ≡ get_or spans i (Old from len)
  pub fits : from + len ≤ n

pub old-at : (spans : List Span) (place i rest from len n : ℕ) (s : Span) → IsFound spans place i rest → i < length spans → AreFit n spans → s ≡ get_or spans i s → s ≡ Old from len → IsOldAt spans i rest from len n
old-at spans place i rest from len n s found lt fit is e =
    let at : Old from len ≡ get_or spans i (Old from len) = subst (λ t. t ≡ get_or spans i t) e is in
    record { there = lt; less = found-inside spans place i rest (Old from len) found lt at; is = at; fits = fit-at n spans i (Old from len) fit lt at }

-- a place behind a span's first is within
pub found-behind : (spans : List Span) (place i rest : ℕ) → IsFound spans place i rest → place ≤ total spans → (rest ≡ 0 → ⊥) → i < length spans
found-behind spans place i rest h le behind = ⊎_elim (λ less. less)
    (λ (ge : length spans ≤ i). let all : total (take i spans) ≡ total spans = ap total (take_all i spans ge) in absurd (behind (omega (arith, h.place_is))))
    (cases_lt i (length spans))

first-there : (base : List Operation) (from : ℕ) (x : Operation) (ops : List Operation) → from < length base → drop from base ≡ x ∷ ops → get_or base from x ≡ x
first-there base from x ops lt e =
    let same : get_or base from x ∷ drop (from + 1) base ≡ x ∷ ops = sym (drop_more base from x lt) ∙ e in
    cc

-- the first operation of a span of the base goes
pub cut-old_span : (base : List Operation) (spans : List Span) (i from len : ℕ) → AreFit (length base) spans → i < length spans → Old from len ≡ get_or spans i (Old from len) → 0 < len → from + len ≤ length base
    → laid base (take i spans ++ (Old (from + 1) (len - 1) ∷ drop (i + 1) spans)) ≡ remove (laid base spans) (total (take i spans))
cut-old_span base spans i from len fit lt is some fits = by_rest (drop from base) refl
  where
    by_rest : (ops : List Operation) → drop from base ≡ ops → laid base (take i spans ++ (Old (from + 1) (len - 1) ∷ drop (i + 1) spans)) ≡ remove (laid base spans) (total (take i spans))
    by_rest [] e = let none : length base - from ≡ 0 = sym (length-drop from base) ∙ ap length e in absurd (omega arith)
    by_rest (x ∷ ops) e =
        cut-laid base spans (Old (from + 1) (len - 1) ∷ []) i (Old from len) x fit lt is (old-first base from len x some (omega arith) ∙ ap (λ y. y ∷ (take (len - 1) (drop (from + 1) base) ++ [])) (first-there base from x ops (omega arith) e))

pub view-length : (base : List Operation) (spans : List Span) (v : ListingView) → AreFit (length base) spans → record { base = base; ops = laid base spans } ≡ v → total spans ≡ length v.ops
view-length base spans v fit e = sym (length-laid base spans fit) ∙ ap (λ (w : ListingView). length w.ops) e

pub alike-span : (base : List Operation) (spans : List Span) (place i rest from len : ℕ) → AreFit (length base) spans → IsFound spans place i rest → IsOldAt spans i rest from len (length base)
    → AreAlike base (laid base spans) place from (place - rest) len
alike-span base spans place i rest from len fit found h =
    let p : List Span = take i spans in
    let q : List Span = drop (i + 1) spans in
    let s : Span = Old from len in
    let whole : AreFit (length base) (p ++ s ∷ q) = subst (AreFit (length base)) (parts spans i s h.there h.is) fit in
    let prefix : length (laid base p) ≡ total p = length-laid base p (AreFit-prefix (length base) p (s ∷ q) whole) in
    let fits : from + len ≤ length base = h.fits in
    let inner : length (take len (drop from base)) ≡ len = omega (arith, length-take len (drop from base), length-drop from base) in
    let place_is : total p + rest ≡ place = found.place_is in
    let here : length (laid base p) ≡ place - rest = omega arith in
    let all : laid base spans ≡ laid base p ++ (take len (drop from base) ++ laid base q) = ap (laid base) (parts spans i s h.there h.is) ∙ laid-append base p (s ∷ q) in
    let long : length (laid base spans) ≡ length (laid base p) + (length (take len (drop from base)) + length (laid base q)) =
    ap length all ∙ length-append (laid base p) (take len (drop from base) ++ laid base q) ∙ ap (λ n. length (laid base p) + n) (length-append (take len (drop from base)) (laid base q)) in
    let less : rest < len = h.less in
    record {
      here = omega arith;
      before = omega arith;
      base_within = fits;
      within = omega arith;
      same = sym (ap (λ ops. take len (drop (place - rest) ops)) all ∙ ap (take len) (drop_at (laid base p) (take len (drop from base) ++ laid base q) (place - rest) here) ∙ take_at (take len (drop from base)) (laid base q) len inner);
    }
