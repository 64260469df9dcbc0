-- How many operations segments have, and within which bounds their numbers are.
use Rattle.std.proofs.Common.{◌≡◌, ℕ, ◌+◌, ◌-◌, ◌<◌, ◌≤◌, Bool, List, [], ◌∷◌, ◌++◌, map, length, take, drop, refl, ap, sym, subst, ◌∙◌, arith, length-append}
use Rattle.std.specs.Prelude.{Option, Some, None, slice_range}
use Rattle.std.proofs.lemmas.List.{take-map, drop-map, length-map, append-nil}
use Rattle.trace_types.specs.Operation.{Operation}
use Rattle.trace_types.specs.declared.limits.TheConstants.{MAX_OPS}
use Rattle.ownership_model.specs.Patch.{Remains}
use Rattle.run_engine.specs.SegmentView.{SegmentView}
use Rattle.run_engine.specs.inner.Parts.{AreBetween, joined}
use Rattle.run_engine.specs.Segments.{ops_of, trace_of, IsLastFrom}
use Rattle.run_engine.specs.inner.Blocks.{left, laid_over, standing, AreMeasured}
use Rattle.run_engine.proofs.SegmentLemmas.{trace_of-append}
use Rattle.run_engine.proofs.PlaceLemmas.{trace_of-parted}
use Rattle.run_engine.proofs.StartLemmas.{joined-ops}
use Rattle.run_engine.proofs.StretchLemmas.{stretch-few}
use Rattle.run_engine.proofs.ClearedLemmas.{ops_of-cleared_if}

-- segments with the same operations
pub same-length : (a b : List SegmentView) → map ops_of a ≡ map ops_of b → length a ≡ length b
same-length a b same = sym (length-map a ops_of) ∙ ap length same ∙ length-map b ops_of

pub same-trace : (a b : List SegmentView) → map ops_of a ≡ map ops_of b → trace_of a ≡ trace_of b
same-trace a b same = sym (joined-ops a) ∙ ap joined same ∙ joined-ops b

pub same-part : (a b : List SegmentView) (n m : ℕ) → map ops_of a ≡ map ops_of b → map ops_of (take n (drop m a)) ≡ map ops_of (take n (drop m b))
same-part a b n m same =
    sym (take-map ops_of n (drop m a)) ∙ ap (take n) (sym (drop-map ops_of m a)) ∙ ap (λ all. take n (drop m all)) same ∙ ap (take n) (drop-map ops_of m b) ∙ take-map ops_of n (drop m b)

same-prefix : (a b : List SegmentView) (n : ℕ) → map ops_of a ≡ map ops_of b → trace_of (take n a) ≡ trace_of (take n b)
same-prefix a b n same = same-trace (take n a) (take n b) (same-part a b n 0 same)

pub same-last : (a b : List SegmentView) (position i at : ℕ) → map ops_of a ≡ map ops_of b → IsLastFrom a position i at → IsLastFrom b position i at
same-last a b position i at same h =
    let long = same-length a b same in
    let within = h.within in
    record {
      within = omega arith;
      place = ap length (sym (same-prefix a b i same)) ∙ h.place;
      before = h.before;
      inside = λ lt.
          let there = h.inside (subst (λ (t : List Operation). position < length t) (sym (same-trace a b same)) lt) in
          let less = there.0 in
          (omega arith, subst (λ (t : List Operation). position < length t) (same-prefix a b (i + 1) same) there.1);
    }

-- what is laid over segments, and which of their checkpoints are given up, leaves their operations
ops_of-laid : (x : Option Remains) (s : SegmentView) → ops_of (laid_over x s) ≡ ops_of s
ops_of-laid None s = refl
ops_of-laid (Some x) s = refl

all-laid : (x : Option Remains) (ss : List SegmentView) → map ops_of (map (laid_over x) ss) ≡ map ops_of ss
all-laid x [] = refl
all-laid x (s ∷ ss) = λ j. ops_of-laid x s j ∷ all-laid x ss j

all-left : (gone : List Bool) (ss : List SegmentView) → map ops_of (left gone ss) ≡ map ops_of ss
all-left [] ss = refl
all-left (b ∷ gone) [] = refl
all-left (b ∷ gone) (s ∷ ss) = λ j. ops_of-cleared_if b s j ∷ all-left gone ss j

pub stored : (x : Option Remains) (gone : List Bool) (from len to : ℕ) (ss now : List SegmentView) → map (laid_over x) (standing gone from len ss) ≡ now → to ≡ from + len → map ops_of (slice_range ss from to) ≡ map ops_of now
stored x gone from len to ss now view end =
    let n : to - from ≡ len = omega arith in
    ap (λ k. map ops_of (take k (drop from ss))) n ∙ sym (same-part (left gone ss) ss len from (all-left gone ss))
    ∙ sym (all-laid x (standing gone from len ss)) ∙ ap (map ops_of) view

pub standing-trace : (x y : Option Remains) (gone new : List Bool) (from len : ℕ) (ss : List SegmentView) → trace_of (map (laid_over x) (standing gone from len ss)) ≡ trace_of (map (laid_over y) (standing new from len ss))
standing-trace x y gone new from len ss =
    same-trace (map (laid_over x) (standing gone from len ss)) (map (laid_over y) (standing new from len ss))
    (all-laid x (standing gone from len ss) ∙ same-part (left gone ss) ss len from (all-left gone ss)
    ∙ sym (all-laid y (standing new from len ss) ∙ same-part (left new ss) ss len from (all-left new ss)))

-- numbers within bounds
between-prefix : (least greatest : ℕ) (a b : List Operation) → AreBetween least greatest (a ++ b) → AreBetween least greatest a
between-prefix least greatest [] b h = tt
between-prefix least greatest (o ∷ a) b h = (h.0, h.1, between-prefix least greatest a b h.2)

between-back : (least greatest : ℕ) (a b : List Operation) → AreBetween least greatest (a ++ b) → AreBetween least greatest b
between-back least greatest [] b h = h
between-back least greatest (o ∷ a) b h = between-back least greatest a b h.2

wider : (least greatest low high : ℕ) (ops : List Operation) → low ≤ least → greatest ≤ high → AreBetween least greatest ops → AreBetween low high ops
wider least greatest low high [] a b h = tt
wider least greatest low high (o ∷ ops) a b h = let low_o = h.0 in let high_o = h.1 in (omega arith, omega arith, wider least greatest low high ops a b h.2)

-- bounds of either of two
pub between-both : (least greatest l g low high : ℕ) (ops more : List Operation) → low ≤ least → greatest ≤ high → low ≤ l → g ≤ high → AreBetween least greatest ops → AreBetween l g more → AreBetween low high (ops ++ more)
between-both least greatest l g low high [] more a b c d h k = wider l g low high more c d k
between-both least greatest l g low high (o ∷ ops) more a b c d h k =
    let low_o = h.0 in
    let high_o = h.1 in
    (omega arith, omega arith, between-both least greatest l g low high ops more a b c d h.2 k)

between-part : (least greatest n m : ℕ) (ss : List SegmentView) → AreBetween least greatest (trace_of ss) → AreBetween least greatest (trace_of (take n (drop m ss)))
between-part least greatest n m ss h =
    between-prefix least greatest (trace_of (take n (drop m ss))) (trace_of (drop n (drop m ss)))
    (subst (AreBetween least greatest) (sym (trace_of-parted (drop m ss) n))
    (between-back least greatest (trace_of (take m ss)) (trace_of (drop m ss)) (subst (AreBetween least greatest) (sym (trace_of-parted ss m)) h)))

-- segments with the same operations have as many, within the same bounds
pub measured-as : (a b : List SegmentView) (ops least greatest : ℕ) → trace_of a ≡ trace_of b → AreMeasured a ops least greatest → AreMeasured b ops least greatest
measured-as a b ops least greatest same h = record { ops_are = h.ops_are ∙ ap length same; few = h.few; between = subst (AreBetween least greatest) same h.between }

pub measured-part : (ss part : List SegmentView) (ops n least greatest from to : ℕ) → part ≡ slice_range ss from to → n ≡ length (trace_of (slice_range ss from to)) → AreMeasured ss ops least greatest → AreMeasured part n least greatest
measured-part ss part ops n least greatest from to is long h =
    let fewer = stretch-few ss from (to - from) in
    let few = h.few in
    let all = h.ops_are in
    measured-as (slice_range ss from to) part n least greatest (ap trace_of (sym is))
    (record { ops_are = long; few = omega arith; between = between-part least greatest (to - from) from ss h.between })

-- one segment more
pub measured-more : (ss all : List SegmentView) (s : SegmentView) (ops more least greatest low high : ℕ) → all ≡ ss ++ s ∷ [] → more ≡ length (ops_of s) → ops + more ≤ MAX_OPS
    → (AreBetween least greatest (trace_of ss) → AreBetween low high (trace_of ss ++ ops_of s)) → AreMeasured ss ops least greatest → AreMeasured all (ops + more) low high
measured-more ss all s ops more least greatest low high is long few wide h =
    let whole : trace_of all ≡ trace_of ss ++ ops_of s = ap trace_of is ∙ trace_of-append ss (s ∷ []) ∙ ap (λ (t : List Operation). trace_of ss ++ t) (append-nil (ops_of s)) in
    let size = ap length whole ∙ length-append (trace_of ss) (ops_of s) in
    let before = h.ops_are in
    record { ops_are = omega arith; few = few; between = subst (AreBetween low high) (sym whole) (wide h.between) }
