-- Chunks that begin where others end.
use Rattle.std.proofs.Common.{◌≡◌, ◌<◌, ℕ, ◌+◌, nat_eq, List, ◌∷◌, take, refl, ap, sym, subst, ◌∙◌, T, arith, inl, inr, ◌⊎◌}
use Rattle.std.specs.Prelude.{Option, Some, None, Contains, IfSome, is_some, nat_lt, ◌&&◌, true, false, option_and_then, if◌then◌else◌}
use Rattle.std.specs.Option.{option_map_or}
use Rattle.std.specs.Cmp.{nat_eq_equiv}
use Rattle.std.specs.Map.{lookup, keys_of}
use Rattle.std.specs.List.{IsDistinct}
use Rattle.std.proofs.Math.Facts.{eqb_yes}
use Rattle.std.proofs.lemmas.Bool.{ltb-true, lt-ltb}
use Rattle.std.proofs.lemmas.Map.Views.{lookup-from_Contains}
use Rattle.lru.specs.LruCache.{LruCache, lru_cache, promoted, put_entries}
use Rattle.lru.proofs.CallerLemmas.{Contains-take, Contains-lookup, Contains-promoted, Contains-put_entries}
use Rattle.lru.proofs.Splits.{Contains-cons, all_at}
use Rattle.ownership_model.specs.State.{State}
use Rattle.op_step.specs.Chunk.{Chunk}
use Rattle.mark_shelf.specs.Joints.{EndsWith, IsJoint, AreJoints, joint_behind, with_joint, is_joined}
use Rattle.mark_shelf.specs.Shelf.{Shelf, Notes, Remembers, RemembersBehind, remembered}
use Rattle.mark_shelf.proofs.ChunkLemmas.{AreBelow}

-- what a number leads to is there under it
pub Contains-at : {X : Type 0} (n : ℕ) (es : List (ℕ × X)) (x : X) → lookup (nat_eq n) es ≡ Some x → Contains es (n, x)
Contains-at n es x is =
    let there = Contains-lookup (nat_eq n) es x is in
    subst (λ k. Contains es (k, x)) (sym (eqb_yes (subst T (sym there.2) tt))) there.1

-- and it is the one that is there under it
pub same-at : {X : Type 0} (n : ℕ) (es : List (ℕ × X)) (x y : X) → IsDistinct nat_eq (keys_of es) → lookup (nat_eq n) es ≡ Some x → Contains es (n, y) → y ≡ x
same-at n es x y distinct is there = let other : lookup (nat_eq n) es ≡ Some y = lookup-from_Contains nat_eq_equiv n y es distinct there in let e : Some y ≡ Some x = sym other ∙ is in cc

-- also where it was brought to the front
pub same-promoted : {X : Type 0} (n : ℕ) (es : List (ℕ × X)) (x y : X) → IsDistinct nat_eq (keys_of es) → lookup (nat_eq n) es ≡ Some x → Contains (promoted (nat_eq n) es) (n, y) → y ≡ x
same-promoted n es x y distinct is there = same-at n es x y distinct is (Contains-promoted (nat_eq n) es (n, y) there)

pub below-at : (n : ℕ) (es : List (ℕ × Chunk)) (k : ℕ) (c : Chunk) → AreBelow n es → Contains es (k, c) → k < n
below-at n es k c h there = all_at (λ (e : ℕ × Chunk). e.0 < n) es (k, c) h there

-- where chunks go, and joints do, the others stay joined
pub AreJoints-fewer : (all some : List (ℕ × Chunk)) (next : ℕ) (more joints : List (ℕ × ℕ)) → ((e : ℕ × Chunk) → Contains some e → Contains all e) → ((j : ℕ × ℕ) → Contains joints j → Contains more j) → AreJoints all next more → AreJoints some next joints
AreJoints-fewer all some next more joints fewer less h j m =
    let is = h j (less j m) in
    record { meets = λ c there d before. is.meets c (fewer (j.0, c) there) d (fewer (j.1, d) before); first = is.first; second = is.second }

-- a chunk under the next number is the only one there
only-next : (next : ℕ) (most : ℕ) (es : List (ℕ × Chunk)) (c : Chunk) (k : ℕ) (d : Chunk) → Contains (take most ((next, c) ∷ es)) (k, d) → ((next ≡ k) × (c ≡ d)) ⊎ Contains es (k, d)
only-next next most es c k d there = elim (Contains-cons (next, c) es (k, d) (Contains-take most ((next, c) ∷ es) (k, d) there)) [
  | inl same ↦ inl (ap (λ (e : ℕ × Chunk). e.0) same, ap (λ (e : ℕ × Chunk). e.1) same)
  | inr old ↦ inr old
]

-- so under a number below it is what was there
old-below : (next : ℕ) (most : ℕ) (es : List (ℕ × Chunk)) (c : Chunk) (k : ℕ) (d : Chunk) → k < next → Contains (take most ((next, c) ∷ es)) (k, d) → Contains es (k, d)
old-below next most es c k d low there = elim (only-next next most es c k d there) [
  | inl same ↦ absurd (omega (arith, low, same.0))
  | inr old ↦ old
]

-- and under it, it is the new one
pub next-is : (next : ℕ) (most : ℕ) (es : List (ℕ × Chunk)) (c : Chunk) (d : Chunk) → AreBelow next es → Contains (take most ((next, c) ∷ es)) (next, d) → d ≡ c
next-is next most es c d h there = elim (only-next next most es c next d there) [
  | inl same ↦ sym same.1
  | inr old ↦ absurd (let low : next < next = below-at next es next d h old in omega (arith, low))
]

-- a chunk more, under the next number, and perhaps its joint
module _ (next : ℕ) (most : ℕ) (es : List (ℕ × Chunk)) (c : Chunk) (joints : List (ℕ × ℕ)) (before : Option ℕ) (below : AreBelow next es) (h : AreJoints es next joints) (ends : IfSome before (λ k. EndsWith es k c.start)) where
  IsJoint-old : (j : ℕ × ℕ) → Contains joints j → IsJoint (take most ((next, c) ∷ es)) (next + 1) j
  IsJoint-old j m =
      let is = h j m in
      record {
        meets = λ a there b behind. is.meets a (old-below next most es c j.0 a is.first there) b (old-below next most es c j.1 b is.second behind);
        first = omega (arith, is.first);
        second = omega (arith, is.second);
      }

  IsJoint-new : (j : ℕ × ℕ) → j.0 ≡ next → before ≡ Some j.1 → j.1 < next → IsJoint (take most ((next, c) ∷ es)) (next + 1) j
  IsJoint-new j number is low = record {
    meets = λ a there b behind.
        let same : a ≡ c = next-is next most es c a below (subst (λ n. Contains (take most ((next, c) ∷ es)) (n, a)) number there) in
        let from : EndsWith es j.1 c.start = subst (λ o. IfSome o (λ k. EndsWith es k c.start)) is ends in
        from b (old-below next most es c j.1 b low behind) ∙ ap (λ (d : Chunk). d.start) (sym same);
    first = omega (arith, number);
    second = omega (arith, low);
  }

  pub AreJoints-next : (new : List (ℕ × ℕ)) → ((j : ℕ × ℕ) → Contains new j → Contains joints j ⊎ ((j.0 ≡ next) × (before ≡ Some j.1) × (j.1 < next))) → AreJoints (take most ((next, c) ∷ es)) (next + 1) new
  AreJoints-next new only j m = elim (only j m) [
    | inl old ↦ IsJoint-old j old
    | inr is ↦ IsJoint-new j is.0 is.1 is.2
  ]

-- a chunk that is there, and its joint to one that ends where it begins
pub AreJoints-joined : (es : List (ℕ × Chunk)) (next : ℕ) (joints new : List (ℕ × ℕ)) (n : ℕ) (c : Chunk) (before : Option ℕ) → AreJoints es next joints → n < next → ((d : Chunk) → Contains es (n, d) → d ≡ c) → IfSome before (λ k. EndsWith es k c.start)
    → ((j : ℕ × ℕ) → Contains new j → Contains joints j ⊎ ((j.0 ≡ n) × (before ≡ Some j.1) × (j.1 < next))) → AreJoints es next new
AreJoints-joined es next joints new n c before h low alone ends only j m = elim (only j m) [
  | inl old ↦ h j old
  | inr is ↦ record {
    meets = λ a there b behind.
        let same : a ≡ c = alone a (subst (λ k. Contains es (k, a)) is.0 there) in
        let from : EndsWith es j.1 c.start = subst (λ o. IfSome o (λ k. EndsWith es k c.start)) is.1 ends in
        from b behind ∙ ap (λ (d : Chunk). d.start) (sym same);
    first = omega (arith, is.0, low);
    second = is.2;
  }
]

-- where chunks go, one that is there still ends where it did
pub ends-fewer : (all some : List (ℕ × Chunk)) (before : Option ℕ) (s t : State) → ((e : ℕ × Chunk) → Contains some e → Contains all e) → s ≡ t → IfSome before (λ k. EndsWith all k s) → IfSome before (λ k. EndsWith some k t)
ends-fewer all some None s t fewer same h = tt
ends-fewer all some (Some k) s t fewer same h = λ c there. h c (fewer (k, c) there) ∙ same

-- a chunk that is joined to one that is there begins with the heap at which that ends
start-of : (es : List (ℕ × Chunk)) (next : ℕ) (joints : List (ℕ × ℕ)) (n k : ℕ) (c : Chunk) (state : State) (o : Option Chunk) (p : Option ℕ) → AreJoints es next joints → lookup (nat_eq k) es ≡ o → lookup (nat_eq n) joints ≡ p → (is_some o && option_map_or (nat_eq k) p false) ≡ true
    → EndsWith es k state → Contains es (n, c) → c.start ≡ state
start-of es next joints n k c state None p h lies joined t ends there = cc
start-of es next joints n k c state (Some b) None h lies joined t ends there = cc
start-of es next joints n k c state (Some b) (Some j) h lies joined t ends there =
    let behind : Contains es (k, b) = Contains-at k es b lies in
    let same : k ≡ j = eqb_yes (subst T (sym t) tt) in
    let joint : Contains joints (n, k) = Contains-at n joints k (joined ∙ ap Some (sym same)) in
    sym ((h (n, k) joint).meets c there b behind) ∙ ends b behind

pub start-behind : (es : List (ℕ × Chunk)) (next : ℕ) (joints : List (ℕ × ℕ)) (n : ℕ) (c : Chunk) (before : Option ℕ) (state : State) → AreJoints es next joints → is_joined es joints n before ≡ true → IfSome before (λ k. EndsWith es k state) → Contains es (n, c) → c.start ≡ state
start-behind es next joints n c None state h t ends there = cc
start-behind es next joints n c (Some k) state h t ends there = start-of es next joints n k c state (lookup (nat_eq k) es) (lookup (nat_eq n) joints) h refl refl t ends there

-- what is noted of a chunk beside what was
joint-put : (c : LruCache ℕ ℕ) (n k below : ℕ) (before : Option ℕ) → before ≡ Some k → k < below → (j : ℕ × ℕ) → Contains (put_entries nat_eq c n k) j → Contains c.entries j ⊎ ((j.0 ≡ n) × (before ≡ Some j.1) × (j.1 < below))
joint-put c n k below before is low j m = elim (Contains-put_entries nat_eq c n k j m) [
  | inl old ↦ inl old
  | inr put ↦ inr (
    elim put.1 [
      | inl same ↦ same
      | inr there ↦ sym (eqb_yes (subst T (sym there.2) tt))
    ],
    is ∙ ap Some (sym put.0),
    subst (λ m. m < below) (sym put.0) low,
  )
]

-- each joint then was there, or is the one to be noted
with-joint : (most : ℕ) (joints : List (ℕ × ℕ)) (below n : ℕ) (before : Option ℕ) (j : ℕ × ℕ) → Contains (with_joint most joints (joint_behind below n before)) j → Contains joints j ⊎ ((j.0 ≡ n) × (before ≡ Some j.1) × (j.1 < below))
with-joint most joints below n None j m = inl m
with-joint most joints below n (Some k) j m =
    elim (nat_lt k below) as (λ b. nat_lt k below ≡ b → Contains (with_joint most joints (if b then Some (n, k) else None)) j → Contains joints j ⊎ ((j.0 ≡ n) × (Some k ≡ Some j.1) × (j.1 < below))) [
      | true ↦ λ low. joint-put (lru_cache joints most) n k below (Some k) refl (ltb-true k below low) j
      | false ↦ λ _. inl
    ] refl m

-- so it is where memory was refused, too
pub noted-joint : (most : ℕ) (joints new : List (ℕ × ℕ)) (below n : ℕ) (before : Option ℕ) (P : Type 0) → (new ≡ with_joint most joints (joint_behind below n before)) ⊎ (P × (new ≡ joints))
    → (j : ℕ × ℕ) → Contains new j → Contains joints j ⊎ ((j.0 ≡ n) × (before ≡ Some j.1) × (j.1 < below))
noted-joint most joints new below n before P h j m = elim h [
  | inl is ↦ with-joint most joints below n before j (subst (λ js. Contains js j) is m)
  | inr same ↦ inl (subst (λ js. Contains js j) same.1 m)
]

-- where memory is refused the chunk had no joint
pub joint-refused : (joints : List (ℕ × ℕ)) (below n k : ℕ) (before : Option ℕ) → before ≡ Some k → k < below → (Contains (keys_of joints) n → ⊥) → IfSome (joint_behind below n before) (λ j. Contains (keys_of joints) j.0 → ⊥)
joint-refused joints below n k before is low none = rw (is, lt-ltb k below low) none

-- joints that are those of a shelf with one to note leave it with that one noted
pub Notes-from : (s : Shelf) (joint : Option (ℕ × ℕ)) (js : List (ℕ × ℕ)) → (js ≡ with_joint s.most_chunks s.joints joint) ⊎ (IfSome joint (λ j. Contains (keys_of s.joints) j.0 → ⊥) × (js ≡ s.joints)) → Notes s joint (record s { joints = js })
Notes-from s joint js h = elim h [
  | inl is ↦ inl (ap (λ j. record s { joints = j }) is)
  | inr same ↦ inr (same.0, ap (λ j. record s { joints = j }) same.1)
]

-- so it is where the shelf has another form
pub Notes-as : (s t : Shelf) (joint : Option (ℕ × ℕ)) (js : List (ℕ × ℕ)) → s ≡ t → (js ≡ with_joint s.most_chunks s.joints joint) ⊎ (IfSome joint (λ j. Contains (keys_of s.joints) j.0 → ⊥) × (js ≡ s.joints)) → Notes t joint (record s { joints = js })
Notes-as s t joint js same h = subst (λ u. Notes u joint (record s { joints = js })) same (Notes-from s joint js h)

-- with no joint to note nothing changes
pub Notes-none : (s new : Shelf) → Notes s None new → new ≡ s
Notes-none s new h = elim h [
  | inl is ↦ is
  | inr same ↦ same.1
]

-- so it is with a chunk that is found behind no other
pub Notes-nowhere : {X : Type 0} (s new : Shelf) (o : Option X) → Notes s (option_and_then (λ _. None) o) new → new ≡ s
Notes-nowhere s new None h = Notes-none s new h
Notes-nowhere s new (Some x) h = Notes-none s new h

-- and with one that is remembered behind no other
pub Remembers-alone : (old new : Shelf) (c : Chunk) → RemembersBehind old c None new → Remembers old c new
Remembers-alone old new c h = elim h [
  | inl is ↦ inl (is.0, Notes-none (remembered old c) new is.1)
  | inr same ↦ inr same
]

-- a look-up moves a chunk, and its joint, to the front
pub AreJoints-promoted : (es : List (ℕ × Chunk)) (next : ℕ) (joints : List (ℕ × ℕ)) (n : ℕ) → AreJoints es next joints → AreJoints (promoted (nat_eq n) es) next (promoted (nat_eq n) joints)
AreJoints-promoted es next joints n h = AreJoints-fewer es (promoted (nat_eq n) es) next joints (promoted (nat_eq n) joints) (Contains-promoted (nat_eq n) es) (Contains-promoted (nat_eq n) joints) h
