-- Segments in a block: without the checkpoints that are given up, and under what is laid over them.
use Rattle.std.proofs.Common.{◌≡◌, ℕ, zero, suc, ◌+◌, ◌-◌, ◌<◌, ◌≤◌, Bool, true, false, List, [], ◌∷◌, ◌++◌, map, length, take, drop, get_or, set, replicate, refl, ap, sym, subst, ◌∙◌, arith, length-append}
use Rattle.std.specs.Prelude.{Option, Some, None, IfSome, is_some, option_map, slice_index_or}
use Rattle.std.specs.List.{AllByRecursion}
use Rattle.std.proofs.lemmas.List.{get_or-take, get_or-drop, drop-take, length-take-le, length-drop, length-map, take_all, take-map, drop-map, get_or-map, drop-append-le, map-append}
use Rattle.std.proofs.Math.Seq.{drop-cons}
use Rattle.run_engine.proofs.ListingLemmas.{take-shorter}
use Rattle.ownership_model.specs.State.{State, IsSound}
use Rattle.ownership_model.specs.Patch.{Remains, patched, AreThere, AreBoth}
use Rattle.ownership_model.proofs.LawsHold.{patches}
use Rattle.run_engine.specs.SegmentView.{SegmentView}
use Rattle.run_engine.specs.Segments.{without_mark}
use Rattle.run_engine.specs.inner.Cleared.{cleared_if}
use Rattle.run_engine.specs.inner.Exchanged.{exchanged, CanExchange, IsExchangeable, AreExchangeable}
use Rattle.run_engine.specs.inner.Blocks.{left, laid_over, IsSoundBelow, AreSoundBelow, standing, IsBoth}

pub length-left : (gone : List Bool) (ss : List SegmentView) → length (left gone ss) ≡ length ss
length-left [] ss = refl
length-left (b ∷ gone) [] = refl
length-left (b ∷ gone) (s ∷ ss) = ap suc (length-left gone ss)

-- where none is given up
pub left-none : (n : ℕ) (ss : List SegmentView) → left (replicate n false) ss ≡ ss
left-none zero ss = refl
left-none (suc n) [] = refl
left-none (suc n) (s ∷ ss) = ap (λ more. s ∷ more) (left-none n ss)

-- the segment at an index
pub left-at : (gone : List Bool) (ss : List SegmentView) (i : ℕ) (d e : SegmentView) → i < length ss → get_or (left gone ss) i d ≡ cleared_if (slice_index_or gone i false) (get_or ss i e)
left-at gone [] i d e lt = absurd (omega arith)
left-at [] (s ∷ ss) zero d e lt = refl
left-at [] (s ∷ ss) (suc i) d e lt = left-at [] ss i d e (omega arith)
left-at (b ∷ gone) (s ∷ ss) zero d e lt = refl
left-at (b ∷ gone) (s ∷ ss) (suc i) d e lt = left-at gone ss i d e (omega arith)

gone-again : (b : Bool) (s : SegmentView) → cleared_if true s ≡ record (cleared_if b s) { mark = None }
gone-again true s = refl
gone-again false s = refl

-- one more is given up
pub left-set : (gone : List Bool) (ss : List SegmentView) (i : ℕ) → i < length gone → left (set gone i true) ss ≡ without_mark (left gone ss) i
left-set [] ss i lt = absurd (omega arith)
left-set (b ∷ gone) [] zero lt = refl
left-set (b ∷ gone) [] (suc i) lt = refl
left-set (b ∷ gone) (s ∷ ss) zero lt = ap (λ t. t ∷ left gone ss) (gone-again b s)
left-set (b ∷ gone) (s ∷ ss) (suc i) lt = ap (λ more. cleared_if b s ∷ more) (left-set gone ss i (omega arith))

left-nothing : (gone : List Bool) → left gone [] ≡ []
left-nothing [] = refl
left-nothing (b ∷ gone) = refl

-- one segment more, which isn't
pub left-more : (gone : List Bool) (ss : List SegmentView) (n : ℕ) (s : SegmentView) → n ≡ length ss → n < length gone → left (set gone n false) (ss ++ s ∷ []) ≡ left gone ss ++ s ∷ []
left-more [] ss n s is lt = absurd (omega arith)
left-more (b ∷ gone) [] zero s is lt = ap (λ more. s ∷ more) (left-nothing gone)
left-more (b ∷ gone) [] (suc n) s is lt = absurd (omega arith)
left-more (b ∷ gone) (t ∷ ss) zero s is lt = absurd (omega arith)
left-more (b ∷ gone) (t ∷ ss) (suc n) s is lt = ap (λ more. cleared_if b t ∷ more) (left-more gone ss n s (omega arith) (omega arith))

pub drop-without : (ss : List SegmentView) (from i : ℕ) → drop from (without_mark ss (from + i)) ≡ without_mark (drop from ss) i
drop-without ss zero i = ap (without_mark ss) (omega arith)
drop-without [] (suc from) i = refl
drop-without (s ∷ ss) (suc from) i = let n : suc from + i ≡ suc (from + i) = omega arith in ap (λ j. drop (suc from) (without_mark (s ∷ ss) j)) n ∙ drop-without ss from i

pub take-without : (ss : List SegmentView) (n i : ℕ) → take n (without_mark ss i) ≡ without_mark (take n ss) i
take-without ss zero i = refl
take-without [] (suc n) i = refl
take-without (s ∷ ss) (suc n) zero = refl
take-without (s ∷ ss) (suc n) (suc i) = ap (λ more. s ∷ more) (take-without ss n i)

laid-without : (x : Option Remains) (s : SegmentView) → laid_over x (record s { mark = None }) ≡ record (laid_over x s) { mark = None }
laid-without None s = refl
laid-without (Some x) s = refl

pub map-without : (x : Option Remains) (ss : List SegmentView) (i : ℕ) → map (laid_over x) (without_mark ss i) ≡ without_mark (map (laid_over x) ss) i
map-without x [] i = refl
map-without x (s ∷ ss) zero = ap (λ t. t ∷ map (laid_over x) ss) (laid-without x s)
map-without x (s ∷ ss) (suc i) = ap (λ more. laid_over x s ∷ more) (map-without x ss i)

-- the checkpoint at an index is given up
pub standing-without : (gone : List Bool) (from len i : ℕ) (ss : List SegmentView) → from + i < length gone → standing (set gone (from + i) true) from len ss ≡ without_mark (standing gone from len ss) i
standing-without gone from len i ss lt = ap (λ more. take len (drop from more)) (left-set gone ss (from + i) lt) ∙ ap (take len) (drop-without (left gone ss) from i) ∙ take-without (drop from (left gone ss)) len i

pub length-standing : (gone : List Bool) (from len : ℕ) (ss : List SegmentView) → from + len ≤ length ss → length (standing gone from len ss) ≡ len
length-standing gone from len ss le =
    let long = length-left gone ss in
    let rest = length-drop from (left gone ss) in
    length-take-le len (drop from (left gone ss)) (omega arith)

pub standing-at : (gone : List Bool) (from len i : ℕ) (ss : List SegmentView) (d e : SegmentView) → i < len → from + i < length ss → get_or (standing gone from len ss) i d ≡ cleared_if (slice_index_or gone (from + i) false) (get_or ss (from + i) e)
standing-at gone from len i ss d e lt within = get_or-take len (drop from (left gone ss)) i d lt ∙ get_or-drop from (left gone ss) i d ∙ left-at gone ss (from + i) d e within

-- a block has as many segments as it says
pub length-laid : (x : Option Remains) (gone : List Bool) (from len : ℕ) (ss now : List SegmentView) → map (laid_over x) (standing gone from len ss) ≡ now → from + len ≤ length ss → len ≡ length now
length-laid x gone from len ss now is le = sym (length-standing gone from len ss le) ∙ sym (length-map (standing gone from len ss) (laid_over x)) ∙ ap length is

sound-one : (x : Option Remains) (ss : List SegmentView) (i : ℕ) (s : SegmentView) → AreSoundBelow x ss → i < length ss → s ≡ get_or ss i s → AreSoundBelow x (s ∷ [])
sound-one None ss i s h lt is = tt
sound-one (Some x) [] i s h lt is = absurd (omega arith)
sound-one (Some x) (t ∷ ss) zero s h lt is = (subst (IsSoundBelow x) (sym is) h.0, tt)
sound-one (Some x) (t ∷ ss) (suc i) s h lt is = sound-one (Some x) ss i s h.1 (omega arith) is

-- the segment at an index of a block
module _ (x : Option Remains) (gone : List Bool) (from len i : ℕ) (ss : List SegmentView) (s : SegmentView) (b : Bool) (le : from + len ≤ length ss) (lt : i < len) (is : s ≡ get_or ss (from + i) s) (flag : b ≡ slice_index_or gone (from + i) false) where
  pub stands : cleared_if b s ≡ get_or (standing gone from len ss) i (cleared_if b s)
  stands = (λ j. cleared_if (flag j) (is j)) ∙ sym (standing-at gone from len i ss (cleared_if b s) s lt (omega arith))

  pub stands-sound : AreSoundBelow x (standing gone from len ss) → AreSoundBelow x (cleared_if b s ∷ [])
  stands-sound h = let long = length-standing gone from len ss le in sound-one x (standing gone from len ss) i (cleared_if b s) h (omega arith) stands

  pub stands-laid : (now : List SegmentView) (e : SegmentView) → map (laid_over x) (standing gone from len ss) ≡ now → laid_over x (cleared_if b s) ≡ get_or now i e
  stands-laid now e view =
      let long = length-standing gone from len ss le in
      ap (laid_over x) stands ∙ sym (get_or-map (laid_over x) (standing gone from len ss) i (cleared_if b s) e (omega arith)) ∙ ap (λ all. get_or all i e) view

-- one alone
pub one-alone : (x : Option Remains) (gone : List Bool) (from len : ℕ) (ss now : List SegmentView) (s : SegmentView) → map (laid_over x) (standing gone from len ss) ≡ now → from + len ≤ length ss
    → len ≡ 1 → is_some x ≡ false → slice_index_or gone from false ≡ false → s ≡ get_or ss from s → s ∷ [] ≡ now
one-alone (Some x) gone from len ss now s view le one bare flag is = absurd cc
one-alone None gone from len ss now s view le one bare flag is =
    let long = length-left gone ss in
    let here : get_or (left gone ss) from s ≡ s = left-at gone ss from s s (omega arith) ∙ (λ j. cleared_if (flag j) (sym is j)) in
    let only : standing gone from len ss ≡ s ∷ [] = ap (λ n. standing gone from n ss) one ∙ ap (take 1) (drop-cons (left gone ss) from s (omega arith)) ∙ ap (λ t. t ∷ []) here in
    sym (ap (map (laid_over None)) only) ∙ view

drop-nothing : (b : ℕ) → drop {A = SegmentView} b [] ≡ []
drop-nothing zero = refl
drop-nothing (suc b) = refl

drop-drop : (ss : List SegmentView) (a b : ℕ) → drop (a + b) ss ≡ drop b (drop a ss)
drop-drop ss zero b = ap (λ n. drop n ss) (omega arith)
drop-drop [] (suc a) b = let n : suc a + b ≡ suc (a + b) = omega arith in ap (λ k. drop {A = SegmentView} k []) n ∙ sym (drop-nothing b)
drop-drop (s ∷ ss) (suc a) b = let n : suc a + b ≡ suc (a + b) = omega arith in ap (λ k. drop k (s ∷ ss)) n ∙ drop-drop ss a b

-- a part of a block
pub standing-part : (gone : List Bool) (from len a to : ℕ) (ss : List SegmentView) → a ≤ to → to ≤ len → standing gone (from + a) (to - a) ss ≡ take (to - a) (drop a (standing gone from len ss))
standing-part gone from len a to ss order within =
    let whole : List SegmentView = drop from (left gone ss) in
    let back : a + (to - a) ≡ to = omega arith in
    ap (take (to - a)) (drop-drop (left gone ss) from a)
    ∙ sym (drop-take a (to - a) whole) ∙ ap (λ n. drop a (take n whole)) back
    ∙ ap (drop a) (sym (take-shorter to len whole within))
    ∙ ap (λ n. drop a (take n (take len whole))) (sym back)
    ∙ drop-take a (to - a) (take len whole)

sound-take : (x : Remains) (n : ℕ) (ss : List SegmentView) → AllByRecursion (IsSoundBelow x) ss → AllByRecursion (IsSoundBelow x) (take n ss)
sound-take x zero ss h = tt
sound-take x (suc n) [] h = tt
sound-take x (suc n) (s ∷ ss) h = (h.0, sound-take x n ss h.1)

sound-drop : (x : Remains) (n : ℕ) (ss : List SegmentView) → AllByRecursion (IsSoundBelow x) ss → AllByRecursion (IsSoundBelow x) (drop n ss)
sound-drop x zero ss h = h
sound-drop x (suc n) [] h = tt
sound-drop x (suc n) (s ∷ ss) h = sound-drop x n ss h.1

pub sound-part : (x : Option Remains) (a n : ℕ) (ss : List SegmentView) → AreSoundBelow x ss → AreSoundBelow x (take n (drop a ss))
sound-part None a n ss h = tt
sound-part (Some x) a n ss h = sound-take x n (drop a ss) (sound-drop x a ss h)

pub sound-without : (x : Option Remains) (i : ℕ) (ss : List SegmentView) → AreSoundBelow x ss → AreSoundBelow x (without_mark ss i)
sound-without None i ss h = tt
sound-without (Some x) i [] h = tt
sound-without (Some x) zero (s ∷ ss) h = ((tt, h.0.1), h.1)
sound-without (Some x) (suc i) (s ∷ ss) h = (h.0, sound-without (Some x) i ss h.1)

pub sound-bare : (x : Option Remains) (ss : List SegmentView) → is_some x ≡ false → AreSoundBelow x ss
sound-bare None ss bare = tt
sound-bare (Some x) ss bare = absurd cc

pub laid-part : (x : Option Remains) (a n : ℕ) (ss : List SegmentView) → map (laid_over x) (take n (drop a ss)) ≡ take n (drop a (map (laid_over x) ss))
laid-part x a n ss = sym (take-map (laid_over x) n (drop a ss)) ∙ ap (take n) (sym (drop-map (laid_over x) a ss))

-- one segment more behind a block
pub standing-more : (gone : List Bool) (from len n : ℕ) (ss : List SegmentView) (s : SegmentView) → n ≡ from + len → from + len ≡ length ss → n < length gone → standing (set gone n false) from (len + 1) (ss ++ s ∷ []) ≡ standing gone from len ss ++ s ∷ []
standing-more gone from len n ss s at end lt =
    let long = length-left gone ss in
    let rest = length-drop from (left gone ss) in
    let one = length-append (drop from (left gone ss)) (s ∷ []) in
    ap (λ all. take (len + 1) (drop from all)) (left-more gone ss n s (at ∙ end) lt)
    ∙ ap (take (len + 1)) (drop-append-le from (left gone ss) (s ∷ []) (omega arith))
    ∙ take_all (len + 1) (drop from (left gone ss) ++ s ∷ []) (omega arith)
    ∙ ap (λ all. all ++ s ∷ []) (sym (take_all len (drop from (left gone ss)) (omega arith)))

-- the remains are exchanged in a checkpoint by what is laid over it then
bare-then : (r y : Remains) (o : Option State) → IsBoth None r y → IfSome o (CanExchange r) → (option_map (λ m. patched m y) o ≡ option_map (λ m. patched m r) o) × IfSome o (λ m. IsSound (patched m y) [])
bare-then r y None both can = (refl, tt)
bare-then r y (Some m) both can = let same = both m can.there in (ap Some same, subst (λ (n : State). IsSound n []) (sym same) can.sound)

under-then : (x r y : Remains) (o : Option State) → IsBoth (Some x) r y → IfSome (option_map (λ m. patched m x) o) (CanExchange r)
    → (option_map (λ m. patched m y) o ≡ option_map (λ m. patched m r) (option_map (λ m. patched m x) o)) × IfSome o (λ m. IsSound (patched m y) [])
under-then x r y None both can = (refl, tt)
under-then x r y (Some m) both can = let same = both m can.there in (ap Some same, subst (λ (n : State). IsSound n []) (sym same) can.sound)

laid-then : (x : Option Remains) (r y : Remains) (s : SegmentView) → IsBoth x r y → IsExchangeable r (laid_over x s) → (laid_over (Some y) s ≡ exchanged r (laid_over x s)) × IsSoundBelow y s
laid-then None r y s both can =
    let h = bare-then r y s.mark both can.0 in
    let k = bare-then r y s.anchor both can.1 in
    ((λ j. record s { mark = h.0 j; anchor = k.0 j }), (h.1, k.1))
laid-then (Some x) r y s both can =
    let h = under-then x r y s.mark both can.0 in
    let k = under-then x r y s.anchor both can.1 in
    ((λ j. record s { mark = h.0 j; anchor = k.0 j }), (h.1, k.1))

pub laid-both : (x : Option Remains) (r y : Remains) (ss : List SegmentView) → IsBoth x r y → AreExchangeable r (map (laid_over x) ss) → map (laid_over (Some y)) ss ≡ map (exchanged r) (map (laid_over x) ss)
laid-both x r y [] both can = refl
laid-both x r y (s ∷ ss) both can =
    let here = (laid-then x r y s both can.0).0 in
    let more = laid-both x r y ss both can.1 in
    λ j. here j ∷ more j

pub sound-both : (x : Option Remains) (r y : Remains) (ss : List SegmentView) → IsBoth x r y → AreExchangeable r (map (laid_over x) ss) → AreSoundBelow (Some y) ss
sound-both x r y [] both can = tt
sound-both x r y (s ∷ ss) both can = ((laid-then x r y s both can.0).1, sound-both x r y ss both can.1)

pub standing-own : (n len : ℕ) (ss : List SegmentView) → length ss ≡ len → standing (replicate n false) 0 len ss ≡ ss
standing-own n len ss is = ap (take len) (left-none n ss) ∙ take_all len ss (omega arith)

-- a segment was put behind a block over which nothing is laid
pub pushed : (x : Option Remains) (gone new : List Bool) (from len n : ℕ) (ss more now : List SegmentView) (s : SegmentView) → map (laid_over x) (standing gone from len ss) ≡ now → is_some x ≡ false → more ≡ ss ++ s ∷ []
    → from + len ≡ length ss → new ≡ set gone n false → n < length gone → n ≡ from + len → map (laid_over x) (standing new from (len + 1) more) ≡ now ++ s ∷ []
pushed (Some x) gone new from len n ss more now s view bare items end is lt at = absurd cc
pushed None gone new from len n ss more now s view bare items end is lt at =
    let whole : standing new from (len + 1) more ≡ standing gone from len ss ++ s ∷ [] = (λ j. standing (is j) from (len + 1) (items j)) ∙ standing-more gone from len n ss s at end lt in
    ap (map (laid_over None)) whole ∙ map-append (laid_over None) (standing gone from len ss) (s ∷ []) ∙ ap (λ all. all ++ s ∷ []) view

bare-all : (ss : List SegmentView) → map (laid_over None) ss ≡ ss
bare-all [] = refl
bare-all (s ∷ ss) = ap (λ more. s ∷ more) (bare-all ss)

-- what was laid over states, and then what differs in the remains
pub both-laid : (laid : Option Remains) (x a b d z new r : Remains) → laid ≡ Some x → a ≡ x → b ≡ d → AreBoth a b z → new ≡ z → ((m : State) → AreThere m r → patched m d ≡ patched m r) → IsBoth laid r new
both-laid laid x a b d z new r is here next joint same patch =
    let law : IsBoth (Some x) r new = λ m there.
    ap (patched m) same ∙ sym (patches.both m a b z joint) ∙ (λ j. patched (patched m (here j)) (next j)) ∙ patch (patched m x) there in
    subst (λ l. IsBoth l r new) (sym is) law
