-- Segments in blocks.
use Rattle.std.proofs.Common.{◌≡◌, ℕ, zero, suc, ◌+◌, ◌-◌, ◌<◌, ◌≤◌, List, [], ◌∷◌, ◌++◌, map, length, take, drop, get_or, set, min, refl, ap, sym, subst, ◌∙◌, arith, length-append, append_assoc}
use Rattle.std.specs.Prelude.{slice_range}
use Rattle.std.proofs.lemmas.List.{get_or_append_left, get_or-append-add, append-nil, map-append, length-drop}
use Rattle.ownership_model.specs.Patch.{Remains}
use Rattle.run_engine.specs.SegmentView.{SegmentView}
use Rattle.run_engine.specs.Segments.{without_mark}
use Rattle.run_engine.specs.inner.Parts.{joined, starts_from}
use Rattle.run_engine.specs.inner.Exchanged.{exchanged, AreExchangeable}
use Rattle.run_engine.proofs.PartLemmas.{joined-next, joined-around}

-- the segment at an index
module _ (blocks : List (List SegmentView)) (i rest index : ℕ) (b : List SegmentView) (lt : i < length blocks) (is : b ≡ get_or blocks i b) (place : length (joined (take i blocks)) + rest ≡ index) (inside : index < length (joined (take (i + 1) blocks))) where
  pub inside-block : rest < length b
  inside-block = let next : length (joined (take (i + 1) blocks)) ≡ length (joined (take i blocks)) + length b = ap length (joined-next blocks i b lt is) ∙ length-append (joined (take i blocks)) b in omega arith

  pub joined-at : (d : SegmentView) → get_or b rest d ≡ get_or (joined blocks) index d
  joined-at d =
      sym (ap (λ n. get_or (joined blocks) n d) (sym place)
      ∙ ap (λ all. get_or all (length (joined (take i blocks)) + rest) d) (joined-around blocks i b lt is)
      ∙ get_or-append-add (joined (take i blocks)) (b ++ joined (drop (i + 1) blocks)) rest d
      ∙ get_or_append_left b (joined (drop (i + 1) blocks)) d rest inside-block)

pub length-without : (ss : List SegmentView) (i : ℕ) → length (without_mark ss i) ≡ length ss
length-without [] i = refl
length-without (s ∷ ss) zero = refl
length-without (s ∷ ss) (suc i) = ap suc (length-without ss i)

without-prefix : (ss more : List SegmentView) (i : ℕ) → i < length ss → without_mark (ss ++ more) i ≡ without_mark ss i ++ more
without-prefix [] more i lt = absurd (omega arith)
without-prefix (s ∷ ss) more zero lt = refl
without-prefix (s ∷ ss) more (suc i) lt = ap (λ all. s ∷ all) (without-prefix ss more i (omega arith))

without-behind : (ss more : List SegmentView) (n i : ℕ) → length ss + i ≡ n → without_mark (ss ++ more) n ≡ ss ++ without_mark more i
without-behind [] more n i at = ap (without_mark more) (omega arith)
without-behind (s ∷ ss) more zero i at = absurd (omega arith)
without-behind (s ∷ ss) more (suc n) i at = ap (λ all. s ∷ all) (without-behind ss more n i (omega arith))

-- a checkpoint is given up in a block
pub joined-without : (blocks : List (List SegmentView)) (i rest index : ℕ) (b : List SegmentView) → i < length blocks → b ≡ get_or blocks i b → length (joined (take i blocks)) + rest ≡ index → rest < length b
    → joined (set blocks i (without_mark b rest)) ≡ without_mark (joined blocks) index
joined-without [] i rest index b lt is place inside = absurd (omega arith)
joined-without (p ∷ blocks) zero rest index b lt is place inside =
    let n : rest ≡ index = omega (arith, place) in
    sym (without-prefix b (joined blocks) rest inside) ∙ (λ j. without_mark (is j ++ joined blocks) (n j))
joined-without (p ∷ blocks) (suc i) rest index b lt is place inside =
    let long = length-append p (joined (take i blocks)) in
    let n : length p + (length (joined (take i blocks)) + rest) ≡ index = omega (arith, place) in
    ap (λ all. p ++ all) (joined-without blocks i rest (length (joined (take i blocks)) + rest) b (omega arith) is refl inside)
    ∙ sym (without-behind p (joined blocks) index (length (joined (take i blocks)) + rest) n)

pub starts-set : (at : ℕ) (blocks : List (List SegmentView)) (i : ℕ) (b new : List SegmentView) → i < length blocks → b ≡ get_or blocks i b → length new ≡ length b → starts_from at (set blocks i new) ≡ starts_from at blocks
starts-set at [] i b new lt is long = absurd (omega arith)
starts-set at (p ∷ blocks) zero b new lt is long = ap (λ n. at ∷ starts_from (at + n) blocks) (long ∙ ap length is)
starts-set at (p ∷ blocks) (suc i) b new lt is long = ap (λ all. at ∷ all) (starts-set (at + length p) blocks i b new (omega arith) is long)

-- the last block changes
pub starts-last : {X : Type 0} → (at : ℕ) (blocks : List (List X)) (i : ℕ) (new : List X) → i + 1 ≡ length blocks → starts_from at (set blocks i new) ≡ starts_from at blocks
starts-last at [] i new last = absurd (omega arith)
starts-last at (p ∷ []) zero new last = refl
starts-last at (p ∷ []) (suc i) new last = absurd (omega arith)
starts-last at (p ∷ q ∷ blocks) zero new last = absurd (omega arith)
starts-last at (p ∷ q ∷ blocks) (suc i) new last = ap (λ all. at ∷ all) (starts-last (at + length p) (q ∷ blocks) i new (omega arith))

pub joined-last : (blocks : List (List SegmentView)) (i : ℕ) (b new more : List SegmentView) → i + 1 ≡ length blocks → b ≡ get_or blocks i b → new ≡ b ++ more → joined (set blocks i new) ≡ joined blocks ++ more
joined-last [] i b new more last is grown = absurd (omega arith)
joined-last (p ∷ []) zero b new more last is grown = append-nil new ∙ grown ∙ ap (λ all. all ++ more) (is ∙ sym (append-nil p))
joined-last (p ∷ []) (suc i) b new more last is grown = absurd (omega arith)
joined-last (p ∷ q ∷ blocks) zero b new more last is grown = absurd (omega arith)
joined-last (p ∷ q ∷ blocks) (suc i) b new more last is grown =
    ap (λ all. p ++ all) (joined-last (q ∷ blocks) i b new more (omega arith) is grown) ∙ sym (append_assoc p (joined (q ∷ blocks)) more)

-- a block stays as it is
pub joined-same : (blocks : List (List SegmentView)) (i : ℕ) (b new : List SegmentView) → i < length blocks → b ≡ get_or blocks i b → new ≡ b → joined (set blocks i new) ≡ joined blocks
joined-same [] i b new lt is same = absurd (omega arith)
joined-same (p ∷ blocks) zero b new lt is same = ap (λ q. q ++ joined blocks) (same ∙ is)
joined-same (p ∷ blocks) (suc i) b new lt is same = ap (λ all. p ++ all) (joined-same blocks i b new (omega arith) is same)

take-append : (n k : ℕ) (xs ys : List SegmentView) → k ≡ n - length xs → take n (xs ++ ys) ≡ take n xs ++ take k ys
take-append zero k [] ys is = let z : 0 ≡ k = omega arith in ap (λ m. take m ys) z
take-append zero k (x ∷ xs) ys is = let z : 0 ≡ k = omega arith in ap (λ m. take m ys) z
take-append (suc n) k [] ys is = let z : suc n ≡ k = omega arith in ap (λ m. take m ys) z
take-append (suc n) k (x ∷ xs) ys is = ap (λ all. x ∷ all) (take-append n k xs ys (omega arith))

drop-append : (n k : ℕ) (xs ys : List SegmentView) → k ≡ n - length xs → drop n (xs ++ ys) ≡ drop n xs ++ drop k ys
drop-append zero k [] ys is = let z : 0 ≡ k = omega arith in ap (λ m. drop m ys) z
drop-append zero k (x ∷ xs) ys is = let z : 0 ≡ k = omega arith in ap (λ m. x ∷ (xs ++ drop m ys)) z
drop-append (suc n) k [] ys is = let z : suc n ≡ k = omega arith in ap (λ m. drop m ys) z
drop-append (suc n) k (x ∷ xs) ys is = drop-append n k xs ys (omega arith)

-- a stretch of the segments goes on by a part of the next block
stretch-append : (xs ys : List SegmentView) (from to : ℕ) → from ≤ to → slice_range (xs ++ ys) from to ≡ slice_range xs from to ++ slice_range ys (from - length xs) (to - length xs)
stretch-append xs ys from to le =
    let n : (to - length xs) - (from - length xs) ≡ (to - from) - length (drop from xs) = omega (arith, length-drop from xs) in
    ap (take (to - from)) (drop-append from (from - length xs) xs ys refl)
    ∙ take-append (to - from) ((to - length xs) - (from - length xs)) (drop from xs) (drop (from - length xs) ys) n

take-nothing : (m : ℕ) → take {A = SegmentView} m [] ≡ []
take-nothing zero = refl
take-nothing (suc m) = refl

take-min : (ys : List SegmentView) (k m : ℕ) → m ≡ min k (length ys) → take m ys ≡ take k ys
take-min [] k m is = take-nothing m ∙ sym (take-nothing k)
take-min (y ∷ ys) zero zero is = refl
take-min (y ∷ ys) zero (suc m) is = absurd (omega arith)
take-min (y ∷ ys) (suc k) zero is = absurd (omega arith)
take-min (y ∷ ys) (suc k) (suc m) is = ap (λ all. y ∷ all) (take-min ys k m (omega arith))

nothing-there : (m n : ℕ) → take {A = SegmentView} m (drop n []) ≡ []
nothing-there m zero = take-nothing m
nothing-there m (suc n) = take-nothing m

-- which stays where both ends are no further than its end
within : (ys : List SegmentView) (a k low m : ℕ) → low ≡ min a (length ys) → m ≡ min (a + k) (length ys) - low → take m (drop low ys) ≡ take k (drop a ys)
within [] a k low m low-is m-is = nothing-there m low ∙ sym (nothing-there k a)
within (y ∷ ys) zero k zero m low-is m-is = take-min (y ∷ ys) k m (omega arith)
within (y ∷ ys) zero k (suc low) m low-is m-is = absurd (omega arith)
within (y ∷ ys) (suc a) k zero m low-is m-is = absurd (omega arith)
within (y ∷ ys) (suc a) k (suc low) m low-is m-is = within ys a k low m (omega arith) (omega arith)

stretch-within : (ys : List SegmentView) (a b : ℕ) → a ≤ b → slice_range ys (min a (length ys)) (min b (length ys)) ≡ slice_range ys a b
stretch-within ys a b le = within ys a (b - a) (min a (length ys)) (min b (length ys) - min a (length ys)) refl (omega arith)

pub stretch-next : (blocks : List (List SegmentView)) (i from to at low high : ℕ) (b part : List SegmentView) → from ≤ to → i < length blocks → b ≡ get_or blocks i b → at ≡ length (joined (take i blocks))
    → low ≡ min (from - at) (length b) → high ≡ min (to - at) (length b) → part ≡ slice_range b low high
    → slice_range (joined (take i blocks)) from to ++ part ≡ slice_range (joined (take (i + 1) blocks)) from to
stretch-next blocks i from to at low high b part le lt is place low-is high-is part-is =
    let prefix : List SegmentView = joined (take i blocks) in
    ap (λ p. slice_range prefix from to ++ p) (part-is ∙ (λ j. slice_range b (low-is j) (high-is j)) ∙ stretch-within b (from - at) (to - at) (omega arith)
    ∙ ap (λ n. slice_range b (from - n) (to - n)) place)
    ∙ sym (stretch-append prefix b from to le) ∙ ap (λ all. slice_range all from to) (sym (joined-next blocks i b lt is))

exchangeable-prefix : (x : Remains) (ss more : List SegmentView) → AreExchangeable x (ss ++ more) → AreExchangeable x ss
exchangeable-prefix x [] more h = tt
exchangeable-prefix x (s ∷ ss) more h = (h.0, exchangeable-prefix x ss more h.1)

exchangeable-behind : (x : Remains) (ss more : List SegmentView) → AreExchangeable x (ss ++ more) → AreExchangeable x more
exchangeable-behind x [] more h = h
exchangeable-behind x (s ∷ ss) more h = exchangeable-behind x ss more h.1

-- in each block the remains can be exchanged
pub exchangeable-block : (x : Remains) (blocks : List (List SegmentView)) (i : ℕ) (b : List SegmentView) → i < length blocks → b ≡ get_or blocks i b → AreExchangeable x (joined blocks) → AreExchangeable x b
exchangeable-block x blocks i b lt is h =
    exchangeable-prefix x b (joined (drop (i + 1) blocks)) (exchangeable-behind x (joined (take i blocks)) (b ++ joined (drop (i + 1) blocks)) (subst (AreExchangeable x) (joined-around blocks i b lt is) h))

pub exchanged-next : (x : Remains) (blocks : List (List SegmentView)) (i : ℕ) (b : List SegmentView) → i < length blocks → b ≡ get_or blocks i b
    → map (exchanged x) (joined (take i blocks)) ++ map (exchanged x) b ≡ map (exchanged x) (joined (take (i + 1) blocks))
exchanged-next x blocks i b lt is = sym (map-append (exchanged x) (joined (take i blocks)) b) ∙ ap (map (exchanged x)) (sym (joined-next blocks i b lt is))
