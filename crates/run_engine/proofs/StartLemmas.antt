-- Where parts begin.
use Rattle.std.proofs.Common.{◌≡◌, ℕ, suc, zero, ◌+◌, ◌-◌, ◌<◌, ◌≤◌, List, [], ◌∷◌, ◌++◌, length, take, get_or, map, refl, ap, sym, subst, ◌∙◌, arith, length-append}
use mathlib.Core.Logic.{⊎_elim}
use Rattle.std.proofs.lemmas.Bool.{cases_lt}
use Rattle.std.proofs.lemmas.List.{take_all}
use Rattle.run_engine.specs.inner.Parts.{joined, starts_from, IsPartAt}
use Rattle.run_engine.specs.SegmentView.{SegmentView}
use Rattle.run_engine.specs.Segments.{ops_of, trace_of}
use Rattle.run_engine.proofs.ListingLemmas.{take-shorter}
use Rattle.run_engine.proofs.PartLemmas.{joined-few}

pub starts-long : {X : Type 0} → (at : ℕ) (parts : List (List X)) → length (starts_from at parts) ≡ length parts
starts-long at [] = refl
starts-long at (p ∷ parts) = ap suc (starts-long (at + length p) parts)

-- a part begins behind all operations before it
pub start-is : {X : Type 0} → (at : ℕ) (parts : List (List X)) (i d : ℕ) → i < length parts → get_or (starts_from at parts) i d ≡ at + length (joined (take i parts))
start-is at [] i d lt = absurd (omega arith)
start-is at (p ∷ parts) zero d lt = omega arith
start-is at (p ∷ parts) (suc i) d lt =
    let rest = start-is (at + length p) parts i d (omega arith) in
    let long = length-append p (joined (take i parts)) in
    rest ∙ omega arith

-- no part begins before the one in front of it
pub starts-rise : {X : Type 0} → (at : ℕ) (parts : List (List X)) (i j d : ℕ) → i ≤ j → j < length (starts_from at parts) → get_or (starts_from at parts) i d ≤ get_or (starts_from at parts) j d
starts-rise at parts i j d le lt =
    let long = starts-long at parts in
    let one = start-is at parts i d (omega arith) in
    let other = start-is at parts j d (omega arith) in
    let few : length (joined (take i parts)) ≤ length (joined (take j parts)) = subst (λ ps. length (joined ps) ≤ length (joined (take j parts))) (take-shorter i j parts le) (joined-few (take j parts) i) in
    omega arith

-- one part more
pub starts-more : {X : Type 0} → (at : ℕ) (parts : List (List X)) (p : List X) → starts_from at (parts ++ p ∷ []) ≡ starts_from at parts ++ (at + length (joined parts)) ∷ []
starts-more at [] p = ap (λ n. n ∷ []) (omega arith)
starts-more at (q ∷ parts) p =
    let place : at + length q + length (joined parts) ≡ at + length (q ++ joined parts) = omega (arith, length-append q (joined parts)) in
    ap (λ ss. at ∷ ss) (starts-more (at + length q) parts p ∙ ap (λ n. starts_from (at + length q) parts ++ n ∷ []) place)

-- the last of the parts that begin at or before a place has it
pub last-begun : {X : Type 0} → (parts : List (List X)) (starts : List ℕ) (place begun : ℕ) → starts ≡ starts_from 0 parts → 0 < begun → begun ≤ length starts
    → ((k d : ℕ) → k < begun → get_or starts k d ≤ place) → ((k d : ℕ) → begun ≤ k → k < length starts → place < get_or starts k d) → IsPartAt parts place (begun - 1)
last-begun parts starts place begun is some within early late =
    let long : length starts ≡ length parts = ap length is ∙ starts-long 0 parts in
    let here : get_or starts (begun - 1) 0 ≡ 0 + length (joined (take (begun - 1) parts)) = ap (λ ss. get_or ss (begun - 1) 0) is ∙ start-is 0 parts (begun - 1) 0 (omega arith) in
    let le = early (begun - 1) 0 (omega arith) in
    let next : begun - 1 + 1 ≡ begun = omega arith in
    record {
      within = omega arith;
      before = omega arith;
      inside = λ lt. subst (λ n. place < length (joined (take n parts))) (sym next) (⊎_elim
          (λ more.
          let there : get_or starts begun 0 ≡ 0 + length (joined (take begun parts)) = ap (λ ss. get_or ss begun 0) is ∙ start-is 0 parts begun 0 (omega arith) in
          let gt : place < get_or starts begun 0 = late begun 0 (omega arith) (omega arith) in
          omega arith)
          (λ all. subst (λ ps. place < length (joined ps)) (sym (take_all begun parts all)) lt)
          (cases_lt begun (length parts)));
    }

-- where none begins at or before a place there is none
pub none-begun : {X : Type 0} → (parts : List (List X)) (starts : List ℕ) (place begun : ℕ) → starts ≡ starts_from 0 parts → begun ≡ 0
    → ((k d : ℕ) → begun ≤ k → k < length starts → place < get_or starts k d) → parts ≡ []
none-begun [] starts place begun is none late = refl
none-begun (p ∷ parts) starts place begun is none late =
    let long : length starts ≡ suc (length (starts_from (0 + length p) parts)) = ap length is in
    let first : get_or starts 0 0 ≡ 0 = ap (λ ss. get_or ss 0 0) is in
    let gt : place < get_or starts 0 0 = late 0 0 (omega arith) (omega arith) in
    absurd (omega arith)

pub start-there : {X : Type 0} → (parts : List (List X)) (starts : List ℕ) (place i : ℕ) → starts ≡ starts_from 0 parts → IsPartAt parts place i → i < length starts
start-there parts starts place i is h = let lt = h.within in omega (arith, ap length is ∙ starts-long 0 parts)

-- what of a place lies in its part
pub rest-in-part : {X : Type 0} → (parts : List (List X)) (starts : List ℕ) (place i : ℕ) → starts ≡ starts_from 0 parts → IsPartAt parts place i
    → (get_or starts i 0 ≤ place) × (length (joined (take i parts)) + (place - get_or starts i 0) ≡ place)
rest-in-part parts starts place i is h =
    let here : get_or starts i 0 ≡ 0 + length (joined (take i parts)) = ap (λ ss. get_or ss i 0) is ∙ start-is 0 parts i 0 h.within in
    let le = h.before in
    (omega arith, omega arith)

-- the operations of segments are those of parts
pub joined-ops : (segments : List SegmentView) → joined (map ops_of segments) ≡ trace_of segments
joined-ops [] = refl
joined-ops (s ∷ segments) = ap (λ ops. ops_of s ++ ops) (joined-ops segments)
