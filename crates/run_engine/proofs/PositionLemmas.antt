-- Where the operations of blocks begin.
use Rattle.std.proofs.Common.{◌≡◌, ℕ, zero, suc, ◌+◌, ◌-◌, ◌<◌, ◌≤◌, List, [], ◌∷◌, ◌++◌, map, length, take, drop, get_or, set, refl, ap, sym, ◌∙◌, arith, length-append}
use Rattle.std.specs.Prelude.{slice_range}
use Rattle.std.proofs.lemmas.List.{take-map, map-append, map-set, length-map}
use Rattle.std.proofs.Math.Seq.{take-append-add}
use Rattle.std.proofs.lemmas.List.{take-append-le}
use Rattle.trace_types.specs.Operation.{Operation}
use Rattle.run_engine.specs.SegmentView.{SegmentView}
use Rattle.run_engine.specs.inner.Parts.{joined, starts_from, IsPartAt}
use Rattle.run_engine.specs.Segments.{trace_of, IsLastFrom}
use Rattle.run_engine.proofs.SegmentLemmas.{trace_of-append}
use Rattle.run_engine.proofs.PartLemmas.{joined-next, joined-around, joined-few}
use Rattle.run_engine.proofs.StartLemmas.{start-is, starts-more}
use Rattle.run_engine.proofs.BlocksLemmas.{starts-last}

-- the operations of blocks are those of their segments
pub joined-traces : (blocks : List (List SegmentView)) → joined (map trace_of blocks) ≡ trace_of (joined blocks)
joined-traces [] = refl
joined-traces (b ∷ blocks) = ap (λ (ops : List Operation). trace_of b ++ ops) (joined-traces blocks) ∙ sym (trace_of-append b (joined blocks))

pub prefix-traces : (blocks : List (List SegmentView)) (i : ℕ) → joined (take i (map trace_of blocks)) ≡ trace_of (joined (take i blocks))
prefix-traces blocks i = ap joined (take-map trace_of i blocks) ∙ joined-traces (take i blocks)

pub traces-next : (blocks : List (List SegmentView)) (i : ℕ) (b : List SegmentView) → i < length blocks → b ≡ get_or blocks i b → trace_of (joined (take (i + 1) blocks)) ≡ trace_of (joined (take i blocks)) ++ trace_of b
traces-next blocks i b lt is = ap trace_of (joined-next blocks i b lt is) ∙ trace_of-append (joined (take i blocks)) b

pub prefix-few : (blocks : List (List SegmentView)) (i : ℕ) → length (trace_of (joined (take i blocks))) ≤ length (trace_of (joined blocks))
prefix-few blocks i = omega (arith, joined-few (map trace_of blocks) i, ap length (prefix-traces blocks i), ap length (joined-traces blocks))

-- a block more
pub positions-more : (blocks : List (List SegmentView)) (b : List SegmentView) → starts_from 0 (map trace_of (blocks ++ b ∷ [])) ≡ starts_from 0 (map trace_of blocks) ++ length (trace_of (joined blocks)) ∷ []
positions-more blocks b =
    let place : 0 + length (joined (map trace_of blocks)) ≡ length (trace_of (joined blocks)) = omega (arith, ap length (joined-traces blocks)) in
    ap (starts_from 0) (map-append trace_of blocks (b ∷ [])) ∙ starts-more 0 (map trace_of blocks) (trace_of b) ∙ ap (λ n. starts_from 0 (map trace_of blocks) ++ n ∷ []) place

-- the last block changes
pub positions-last : (blocks : List (List SegmentView)) (i : ℕ) (new : List SegmentView) → i + 1 ≡ length blocks → starts_from 0 (map trace_of (set blocks i new)) ≡ starts_from 0 (map trace_of blocks)
positions-last blocks i new last = ap (starts_from 0) (map-set trace_of blocks i new) ∙ starts-last 0 (map trace_of blocks) i (trace_of new) (last ∙ sym (length-map blocks trace_of))

-- a block changes, whose operations stay
pub traces-set : (blocks : List (List SegmentView)) (i : ℕ) (b new : List SegmentView) → i < length blocks → b ≡ get_or blocks i b → trace_of new ≡ trace_of b → map trace_of (set blocks i new) ≡ map trace_of blocks
traces-set [] i b new lt is same = absurd (omega arith)
traces-set (p ∷ blocks) zero b new lt is same = ap (λ (t : List Operation). t ∷ map trace_of blocks) (same ∙ ap trace_of is)
traces-set (p ∷ blocks) (suc i) b new lt is same = ap (λ all. trace_of p ∷ all) (traces-set blocks i b new (omega arith) is same)

-- where a block begins
pub position-is : (blocks : List (List SegmentView)) (positions : List ℕ) (i d : ℕ) → positions ≡ starts_from 0 (map trace_of blocks) → i < length blocks → get_or positions i d ≡ length (trace_of (joined (take i blocks)))
position-is blocks positions i d is lt =
    let there : get_or positions i d ≡ 0 + length (joined (take i (map trace_of blocks))) = ap (λ ss. get_or ss i d) is ∙ start-is 0 (map trace_of blocks) i d (omega (arith, length-map blocks trace_of)) in
    omega (arith, ap length (prefix-traces blocks i))

pub start-of : (blocks : List (List SegmentView)) (starts : List ℕ) (i d : ℕ) → starts ≡ starts_from 0 blocks → i < length blocks → get_or starts i d ≡ length (joined (take i blocks))
start-of blocks starts i d is lt =
    let there : get_or starts i d ≡ 0 + length (joined (take i blocks)) = ap (λ ss. get_or ss i d) is ∙ start-is 0 blocks i d lt in
    omega arith

pub position-there : (blocks : List (List SegmentView)) (i rest index : ℕ) (b : List SegmentView) → i < length blocks → b ≡ get_or blocks i b → length (joined (take i blocks)) + rest ≡ index → rest ≤ length b
    → length (trace_of (take index (joined blocks))) ≡ length (trace_of (joined (take i blocks))) + length (trace_of (slice_range b 0 rest))
position-there blocks i rest index b lt is place le =
    let prefix : List SegmentView = joined (take i blocks) in
    let behind : List SegmentView = joined (drop (i + 1) blocks) in
    let n : rest ≡ rest - 0 = omega arith in
    ap (λ all. length (trace_of (take index all))) (joined-around blocks i b lt is)
    ∙ ap (λ (k : ℕ). length (trace_of (take k (prefix ++ (b ++ behind))))) (sym place)
    ∙ ap (λ all. length (trace_of all)) (take-append-add prefix (b ++ behind) rest ∙ ap (λ (xs : List SegmentView). prefix ++ xs) (take-append-le rest b behind le))
    ∙ ap length (trace_of-append prefix (take rest b)) ∙ length-append (trace_of prefix) (trace_of (take rest b))
    ∙ ap (λ k. length (trace_of prefix) + length (trace_of (take k b))) n

-- the block that has a position
module _ (blocks : List (List SegmentView)) (position i : ℕ) (part : IsPartAt (map trace_of blocks) position i) where
  pub block-there : i < length blocks
  block-there = let lt = part.within in omega (arith, length-map blocks trace_of)

  pub block-before : length (trace_of (joined (take i blocks))) ≤ position
  block-before = let le = part.before in omega (arith, ap length (prefix-traces blocks i))

  block-inside : position < length (trace_of (joined blocks)) → position < length (trace_of (joined (take (i + 1) blocks)))
  block-inside lt = let more = part.inside (omega (arith, ap length (joined-traces blocks))) in omega (arith, ap length (prefix-traces blocks (i + 1)))

  -- the segment of the block
  pub last-joined : (b : List SegmentView) (start at k begun index place : ℕ) → b ≡ get_or blocks i b → start ≡ length (joined (take i blocks)) → at ≡ length (trace_of (joined (take i blocks))) → index ≡ start + k → place ≡ at + begun
      → IsLastFrom b (position - at) k begun → IsLastFrom (joined blocks) position index place
  last-joined b start at k begun index place is start-is at-is index-is place-is h =
      let prefix : List SegmentView = joined (take i blocks) in
      let rest : List SegmentView = joined (drop (i + 1) blocks) in
      let whole : joined blocks ≡ joined (take i blocks) ++ (b ++ joined (drop (i + 1) blocks)) = joined-around blocks i b block-there is in
      let le = h.within in
      let before = block-before in
      let own = h.before in
      let there = h.place in
      let long = length-append (joined (take i blocks)) (b ++ joined (drop (i + 1) blocks)) in
      let more = length-append b (joined (drop (i + 1) blocks)) in
      let cut : (n m : ℕ) → n ≡ start + m → m ≤ length b → trace_of (take n (joined blocks)) ≡ trace_of (joined (take i blocks)) ++ trace_of (take m b) =
      λ n m n-is small. ap (λ all. trace_of (take n all)) whole
      ∙ ap (λ (k : ℕ). trace_of (take k (prefix ++ (b ++ rest)))) (n-is ∙ ap (λ (k : ℕ). k + m) start-is)
      ∙ ap trace_of (take-append-add prefix (b ++ rest) m ∙ ap (λ (xs : List SegmentView). prefix ++ xs) (take-append-le m b rest small))
      ∙ trace_of-append prefix (take m b) in
      let size : length (trace_of (take index (joined blocks))) ≡ length (trace_of (joined (take i blocks))) + length (trace_of (take k b)) = ap length (cut index k index-is le) ∙ length-append (trace_of prefix) (trace_of (take k b)) in
      record {
        within = omega (arith, ap length whole);
        place = omega arith;
        before = omega arith;
        inside = λ lt.
            let next = block-inside lt in
            let grown = ap length (traces-next blocks i b block-there is) ∙ length-append (trace_of (joined (take i blocks))) (trace_of b) in
            let inner = h.inside (omega arith) in
            let less = inner.0 in
            let far = inner.1 in
            let after : length (trace_of (take (index + 1) (joined blocks))) ≡ length (trace_of (joined (take i blocks))) + length (trace_of (take (k + 1) b)) =
            ap length (cut (index + 1) (k + 1) (omega arith) (omega arith)) ∙ length-append (trace_of prefix) (trace_of (take (k + 1) b)) in
            (omega (arith, ap length whole), omega arith);
      }
