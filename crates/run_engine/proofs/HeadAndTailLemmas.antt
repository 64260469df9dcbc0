-- Heads and tails of two traces.
use Rattle.std.proofs.Common.{◌≡◌, ℕ, zero, suc, ◌+◌, ◌-◌, ◌<◌, ◌≤◌, List, [], ◌∷◌, ◌++◌, length, take, drop, get_or, ap, sym, subst, ◌∙◌, arith, take-append-drop}
use Rattle.std.proofs.lemmas.Bool.{cases_lt}
use Rattle.std.proofs.lemmas.List.{take_more, same_from_push, drop-drop, drop_all, drop-take}
use Rattle.std.proofs.Math.Seq.{take-add}
use mathlib.Core.Logic.{⊎_elim}
use Rattle.trace_types.specs.Operation.{Operation}
use Rattle.run_engine.specs.HeadAndTail.{ShareEnd, IsHead, IsTail, AreShared, AreAlike}
use Rattle.run_engine.specs.Marks.{IsGreatest}
use Rattle.run_engine.specs.Bounds.{StepsAtMostFrom}
use Rattle.op_step.specs.Chunk.{Chunk}
use Rattle.run_engine.specs.Steps.{AreSteppedFrom}
use Rattle.run_engine.proofs.ListingLemmas.{around, take-shorter}

-- the first operations and one more
one-more : (xs : List Operation) (i : ℕ) (x : Operation) → i < length xs → x ≡ get_or xs i x → take (i + 1) xs ≡ take i xs ++ x ∷ []
one-more xs i x lt is = take_more xs i x lt ∙ ap (λ y. take i xs ++ y ∷ []) (sym is)

pub head-more : (old new : List Operation) (i : ℕ) (x y : Operation) → i < length old → i < length new → x ≡ get_or old i x → y ≡ get_or new i y → x ≡ y
    → take i old ≡ take i new → take (i + 1) old ≡ take (i + 1) new
head-more old new i x y a b is js e same = one-more old i x a is ∙ ap (λ zs. zs ++ x ∷ []) same ∙ ap (λ z. take i new ++ z ∷ []) e ∙ sym (one-more new i y b js)

-- where the operations at i differ, no longer prefix is common
pub head-ends : (old new : List Operation) (i : ℕ) (x y : Operation) → i < length old → i < length new → x ≡ get_or old i x → y ≡ get_or new i y → (x ≡ y → ⊥)
    → (n : ℕ) → take n old ≡ take n new → n ≤ i
head-ends old new i x y a b is js differ n same = ⊎_elim
    (λ lt.
    let first : take (i + 1) old ≡ take (i + 1) new = sym (take-shorter (i + 1) n old (omega arith)) ∙ ap (take (i + 1)) same ∙ take-shorter (i + 1) n new (omega arith) in
    absurd (differ (same_from_push (take i old) (take i new) x y (sym (one-more old i x a is) ∙ first ∙ one-more new i y b js)).1))
    (λ le. le)
    (cases_lt i n)

-- the last operations and one more
one-before : (xs : List Operation) (n : ℕ) (x : Operation) → n < length xs → x ≡ get_or xs (length xs - 1 - n) x → drop (length xs - (n + 1)) xs ≡ x ∷ drop (length xs - n) xs
one-before xs n x lt is =
    let at : length xs - (n + 1) ≡ length xs - 1 - n = omega arith in
    let next : length xs - 1 - n + 1 ≡ length xs - n = omega arith in
    ap (λ k. drop k xs) at ∙ around xs (length xs - 1 - n) x (omega arith) is ∙ ap (λ k. x ∷ drop k xs) next

pub tail-more : (old new : List Operation) (n : ℕ) (x y : Operation) → n < length old → n < length new → x ≡ get_or old (length old - 1 - n) x → y ≡ get_or new (length new - 1 - n) y → x ≡ y
    → drop (length old - n) old ≡ drop (length new - n) new → drop (length old - (n + 1)) old ≡ drop (length new - (n + 1)) new
tail-more old new n x y a b is js e same = one-before old n x a is ∙ ap (λ zs. x ∷ zs) same ∙ ap (λ z. z ∷ drop (length new - n) new) e ∙ sym (one-before new n y b js)

first-same : (x y : Operation) (xs ys : List Operation) → x ∷ xs ≡ y ∷ ys → x ≡ y
first-same x y xs ys e = cc

-- the last n of the last k
last-of-last : (xs : List Operation) (n k : ℕ) → n ≤ k → k ≤ length xs → drop (length xs - n) xs ≡ drop (k - n) (drop (length xs - k) xs)
last-of-last xs n k le fits = let at : length xs - k + (k - n) ≡ length xs - n = omega arith in sym (drop-drop (k - n) (length xs - k) xs ∙ ap (λ m. drop m xs) at)

pub tail-ends : (old new : List Operation) (n : ℕ) (x y : Operation) → n < length old → n < length new → x ≡ get_or old (length old - 1 - n) x → y ≡ get_or new (length new - 1 - n) y → (x ≡ y → ⊥)
    → (k : ℕ) → k ≤ length old → k ≤ length new → drop (length old - k) old ≡ drop (length new - k) new → k ≤ n
tail-ends old new n x y a b is js differ k fits within same = ⊎_elim
    (λ lt.
    let last : drop (length old - (n + 1)) old ≡ drop (length new - (n + 1)) new =
    last-of-last old (n + 1) k (omega arith) fits ∙ ap (drop (k - (n + 1))) same ∙ sym (last-of-last new (n + 1) k (omega arith) within) in
    absurd (differ (first-same x y _ _ (sym (one-before old n x a is) ∙ last ∙ one-before new n y b js))))
    (λ le. le)
    (cases_lt n k)

pub ShareEnd-tail : (old new : List Operation) (head tail : ℕ) → IsTail old new head tail → ShareEnd old new (length old - tail) (length new - tail)
ShareEnd-tail old new head tail h = record { old_within = omega arith; within = omega arith; same = h.same }

same-head : (old new : List Operation) (h k : ℕ) → IsHead old new h → IsHead old new k → h ≡ k
same-head old new h k a b =
    let le = b.most h a.old_within a.within a.same in
    let ge = a.most k b.old_within b.within b.same in
    omega arith

same-tail : (old new : List Operation) (head t u : ℕ) → IsTail old new head t → IsTail old new head u → t ≡ u
same-tail old new head t u a b =
    let le = b.most t a.old_within a.within a.same in
    let ge = a.most u b.old_within b.within b.same in
    omega arith

-- there is one head, one tail and one restart
pub from-greatest : (P : ℕ → ℕ → Type 0) (old ops : List Operation) (marks : List ℕ) (head tail at : ℕ) → AreShared old ops head tail → IsGreatest marks head at → P tail at
    → (other last r : ℕ) → AreShared old ops other last → IsGreatest marks other r → P last r
from-greatest P old ops marks head tail at shared greatest h other last r both is =
    let he : head ≡ other = same-head old ops head other shared.head_is both.head_is in
    let te : tail ≡ last = same-tail old ops head tail last shared.tail_is (subst (λ k. IsTail old ops k last) (sym he) both.tail_is) in
    let early = greatest.early in
    let is_early = is.early in
    let le : r ≤ at = greatest.most r is.mark (omega arith) in
    let ge : at ≤ r = is.most at greatest.mark (omega arith) in
    let re : at ≡ r = omega arith in
    subst (λ t. P t r) te (subst (λ x. P tail x) re h)

-- the bound by other names
pub bound-as : (old old_is ops : List Operation) (marks marks_are : List ℕ) (before after : ℕ) → old ≡ old_is → marks ≡ marks_are → StepsAtMostFrom old ops marks before after → StepsAtMostFrom old_is ops marks_are before after
bound-as old old_is ops marks marks_are before after e f h =
    subst (λ o. StepsAtMostFrom o ops marks_are before after) e (subst (λ ms. StepsAtMostFrom old ops ms before after) f h)

-- what is stepped, by other names
pub stepped-as : (old old_is ops : List Operation) (marks marks_are : List ℕ) (chunks : List (ℕ × Chunk)) (before after : ℕ) → old ≡ old_is → marks ≡ marks_are → AreSteppedFrom old ops marks chunks before after → AreSteppedFrom old_is ops marks_are chunks before after
stepped-as old old_is ops marks marks_are chunks before after e f h =
    subst (λ o. AreSteppedFrom o ops marks_are chunks before after) e (subst (λ ms. AreSteppedFrom old ops ms chunks before after) f h)

-- nothing was stepped
pub bounded-none : (old ops : List Operation) (marks : List ℕ) (before : ℕ) → StepsAtMostFrom old ops marks before before
bounded-none old ops marks before head tail r both is =
    let within = both.tail_is.within in
    let early = is.early in
    record { whole = omega arith; stop = λ p m behind agrees. omega arith }

pub tail-none : (old new : List Operation) → drop (length old - 0) old ≡ drop (length new - 0) new
tail-none old new = drop_all (length old - 0) old (omega arith) ∙ sym (drop_all (length new - 0) new (omega arith))

-- a part of the operations that are the base's
part-of : (xs : List Operation) (from len j k : ℕ) → j + k ≤ len → take k (drop j (take len (drop from xs))) ≡ take k (drop (from + j) xs)
part-of xs from len j k le =
    let whole : len ≡ j + (len - j) = omega arith in
    ap (λ n. take k (drop j (take n (drop from xs)))) whole ∙ ap (take k) (drop-take j (len - j) (drop from xs)) ∙ take-shorter k (len - j) (drop j (drop from xs)) (omega arith) ∙ ap (take k) (drop-drop j from xs)

pub alike-part : (base ops : List Operation) (place from at len j k : ℕ) → AreAlike base ops place from at len → j + k ≤ len → take k (drop (from + j) base) ≡ take k (drop (at + j) ops)
alike-part base ops place from at len j k h le = sym (part-of base from len j k le) ∙ ap (λ ys. take k (drop j ys)) h.same ∙ part-of ops at len j k le

-- those from a place on, where the base's stand at the same place
pub alike-here : (base ops : List Operation) (place from at len : ℕ) → AreAlike base ops place from at len → from ≡ at → take (len - (place - at)) (drop place base) ≡ take (len - (place - at)) (drop place ops)
alike-here base ops place from at len h e =
    let here = h.here in
    let before = h.before in
    let mine : from + (place - at) ≡ place = omega arith in
    let other : at + (place - at) ≡ place = omega arith in
    ap (λ n. take (len - (place - at)) (drop n base)) (sym mine) ∙ alike-part base ops place from at len (place - at) (len - (place - at)) h (omega arith) ∙ ap (λ n. take (len - (place - at)) (drop n ops)) other

pub one-alike : (base ops : List Operation) (at : ℕ) (x y : Operation) → at < length base → at < length ops → x ≡ get_or base at x → y ≡ get_or ops at y → x ≡ y → take 1 (drop at base) ≡ take 1 (drop at ops)
one-alike base ops at x y a b is js e = ap (take 1) (around base at x a is) ∙ ap (λ z. z ∷ []) e ∙ sym (ap (take 1) (around ops at y b js))

pub head-further : (base ops : List Operation) (at more : ℕ) → take at base ≡ take at ops → take more (drop at base) ≡ take more (drop at ops) → take (at + more) base ≡ take (at + more) ops
head-further base ops at more same next = take-add at more base ∙ ap (λ xs. xs ++ take more (drop at base)) same ∙ ap (λ xs. take at ops ++ xs) next ∙ sym (take-add at more ops)

-- the operations from u on, of which k are alike
back-more : (xs : List Operation) (u k : ℕ) → drop u xs ≡ take k (drop u xs) ++ drop (u + k) xs
back-more xs u k = sym (take-append-drop k (drop u xs)) ∙ ap (λ ys. take k (drop u xs) ++ ys) (drop-drop k u xs)

pub alike-back : (base ops : List Operation) (place from at len n k : ℕ) → AreAlike base ops place from at len → place ≡ length ops - 1 - n → n < length ops → n < length base → from + (place - at) ≡ length base - 1 - n → k ≤ place - at + 1
    → drop (length base - n) base ≡ drop (length ops - n) ops → drop (length base - (n + k)) base ≡ drop (length ops - (n + k)) ops
alike-back base ops place from at len n k h is lt less there le same =
    let here = h.here in
    let before = h.before in
    let j : ℕ = place - at + 1 - k in
    let u : from + j ≡ length base - (n + k) = omega arith in
    let v : at + j ≡ length ops - (n + k) = omega arith in
    let up : length base - (n + k) + k ≡ length base - n = omega arith in
    let vp : length ops - (n + k) + k ≡ length ops - n = omega arith in
    let middle : take k (drop (length base - (n + k)) base) ≡ take k (drop (length ops - (n + k)) ops) =
    ap (λ m. take k (drop m base)) (sym u) ∙ alike-part base ops place from at len j k h (omega arith) ∙ ap (λ m. take k (drop m ops)) v in
    back-more base (length base - (n + k)) k ∙ ap (λ xs. xs ++ drop (length base - (n + k) + k) base) middle
    ∙ ap (λ m. take k (drop (length ops - (n + k)) ops) ++ drop m base) up ∙ ap (λ xs. take k (drop (length ops - (n + k)) ops) ++ xs) same
    ∙ ap (λ m. take k (drop (length ops - (n + k)) ops) ++ drop m ops) (sym vp) ∙ sym (back-more ops (length ops - (n + k)) k)

-- none or one more at the tail
pub none-or-one : (P : ℕ → Type 0) (n k : ℕ) → k ≤ 1 → P n → P (n + 1) → P (n + k)
none-or-one P n zero le p q = let e : n ≡ n + zero = omega arith in subst P e p
none-or-one P n (suc zero) le p q = q
none-or-one P n (suc (suc k)) le p q = absurd (omega arith)
