-- What is drawn of the places and objects of a graph, one after another.
use Rattle.std.proofs.Common.{◌≡◌, ℕ, suc, ◌+◌, ◌<◌, ◌⊎◌, inl, inr, List, [], ◌∷◌, ◌++◌, length, get_or, take, refl, sym, ap, ◌∙◌, subst, arith, append_assoc, Bool, true, false, cond}
use Rattle.std.specs.Prelude.{Option, Some, None, flat_map, filter, ◌==◌, ◌||◌, not, slice_index, slice_index_or, IfSome, MatchOption, if◌then◌else◌}
use Rattle.std.proofs.lemmas.List.{take_more, append-nil}
use Rattle.ownership_model.specs.Reach.{has}
use Rattle.retention_model.specs.declared.place.Place.{Place}
use Rattle.retention_model.specs.declared.place.Place.TheVariants.{Handle, Cell, Field}
use Rattle.retention_model.specs.declared.place.Held.{Held}
use Rattle.retention.specs.declared.graph.Graph.{Graph}
use Rattle.retention.specs.declared.cycles.Cycles.{Cycles}
use Rattle.retention.specs.Graph.{size, object_at}
use Rattle.retention.proofs.WalkSteps.{number_same}
use Rattle.retention.proofs.GraphLaws.{same_index}
use Rattle.retention.proofs.PathLemmas.{has_at}
use Rattle.ownership_model.specs.State.{State, strong, weak}
use Rattle.retention.specs.declared.ending.Ending.{Ending}
use Rattle.retention_text.specs.Pictures.{root_text, object_text}
use Rattle.retention_report.specs.Pictured.{roots_of, is_root_at, once}
use Rattle.retention_report.specs.Drawn.{object_of, mark_at, cycle_at, is_marked_in, number_from, index_in, listed, if_so, is_last, later, other_text, roots_in, is_drawn}

pub flat_append : {X A : Type 0} (f : X → List A) (xs ys : List X) → flat_map f (xs ++ ys) ≡ flat_map f xs ++ flat_map f ys
flat_append f [] ys = refl
flat_append f (x ∷ xs) ys = ap (λ zs. f x ++ zs) (flat_append f xs ys) ∙ sym (append_assoc (f x) (flat_map f xs) (flat_map f ys))

-- the drawn ones of some, with one more
pub kept_if : {X A : Type 0} (F : X → List A) (b : Bool) (x : X) (rest : List X) → flat_map F (cond b (x ∷ rest) rest) ≡ cond b (F x) [] ++ flat_map F rest
kept_if F true x rest = refl
kept_if F false x rest = refl

pub kept_append : {X A : Type 0} (F : X → List A) (K : X → Bool) (xs ys : List X) → flat_map F (filter K (xs ++ ys)) ≡ flat_map F (filter K xs) ++ flat_map F (filter K ys)
kept_append F K [] ys = refl
kept_append F K (x ∷ xs) ys =
    kept_if F (K x) x (filter K (xs ++ ys)) ∙ ap (λ zs. cond (K x) (F x) [] ++ zs) (kept_append F K xs ys)
    ∙ sym (append_assoc (cond (K x) (F x) []) (flat_map F (filter K xs)) (flat_map F (filter K ys)))
    ∙ ap (λ zs. zs ++ flat_map F (filter K ys)) (sym (kept_if F (K x) x (filter K xs)))

pub kept_one : {X A : Type 0} (F : X → List A) (K : X → Bool) (x : X) → flat_map F (filter K (x ∷ [])) ≡ cond (K x) (F x) []
kept_one F K x = kept_if F (K x) x [] ∙ append-nil (cond (K x) (F x) [])

pub kept_more : {X A : Type 0} (F : X → List A) (K : X → Bool) (xs : List X) (i : ℕ) (d : X) → i < length xs
    → flat_map F (filter K (take (i + 1) xs)) ≡ flat_map F (filter K (take i xs)) ++ cond (K (get_or xs i d)) (F (get_or xs i d)) []
kept_more F K xs i d h =
    ap (λ zs. flat_map F (filter K zs)) (take_more xs i d h) ∙ kept_append F K (take i xs) (get_or xs i d ∷ [])
    ∙ ap (λ zs. flat_map F (filter K (take i xs)) ++ zs) (kept_one F K (get_or xs i d))

so_cond : (b : Bool) (text : List ℕ) → if_so b text ≡ cond b text []
so_cond true text = refl
so_cond false text = refl

-- a text with the lines of some, with that of one more
pub lines_more : {X : Type 0} (F : X → List ℕ) (K : X → Bool) (xs : List X) (i : ℕ) (d x : X) (old before after : List ℕ) → i < length xs → x ≡ get_or xs i d
    → before ≡ old ++ flat_map F (filter K (take i xs)) → after ≡ before ++ if_so (K x) (F x) → after ≡ old ++ flat_map F (filter K (take (i + 1) xs))
lines_more F K xs i d x old before after h is e f =
    f ∙ ap (λ zs. before ++ zs) (so_cond (K x) (F x)) ∙ ap (λ zs. zs ++ cond (K x) (F x) []) e ∙ append_assoc old (flat_map F (filter K (take i xs))) (cond (K x) (F x) [])
    ∙ ap (λ y. old ++ (flat_map F (filter K (take i xs)) ++ cond (K y) (F y) [])) is
    ∙ ap (λ zs. old ++ zs) (sym (kept_more F K xs i d h))

take_whole : {X : Type 0} (xs : List X) → take (length xs) xs ≡ xs
take_whole [] = refl
take_whole (x ∷ xs) = ap (λ ys. x ∷ ys) (take_whole xs)

pub take_end : {X : Type 0} (xs : List X) (i : ℕ) → i ≡ length xs → take i xs ≡ xs
take_end xs i e = ap (λ k. take k xs) e ∙ take_whole xs

-- Roots.

-- whether a root is the last of some
abbrev pub ends_with : Place → List Place → Bool
ends_with q [] = false
ends_with q (p ∷ []) = is_root_at p q
ends_with q (p ∷ r ∷ ps) = ends_with q (r ∷ ps)

pub ends_more : (q p : Place) (ps : List Place) → ends_with q (ps ++ p ∷ []) ≡ is_root_at p q
ends_more q p [] = refl
ends_more q p (r ∷ []) = refl
ends_more q p (r ∷ s ∷ ps) = ends_more q p (s ∷ ps)

same_line : (p q : Place) → is_root_at p q ≡ true → root_text p ≡ root_text q
same_line (Handle h i) (Handle g j) e = ap (λ k. root_text (Handle k None)) (number_same h g e)
same_line (Handle h i) (Cell d) e = absurd cc
same_line (Handle h i) (Field o j) e = absurd cc
same_line (Cell c) (Handle g j) e = absurd cc
same_line (Cell c) (Cell d) e = ap (λ k. root_text (Cell k)) (number_same c d e)
same_line (Cell c) (Field o j) e = absurd cc
same_line (Field o i) q e = absurd cc

abbrev pub lines_of : List Place → List ℕ
lines_of ps = flat_map root_text (once ps)

once_two : (p q : Place) (b : Bool) → is_root_at p q ≡ b → flat_map root_text (if b then q ∷ [] else p ∷ q ∷ []) ≡ (root_text p ++ []) ++ (if b then [] else root_text q)
once_two p q true e = append-nil (root_text q) ∙ sym (same_line p q e) ∙ sym (append-nil (root_text p)) ∙ sym (append-nil (root_text p ++ []))
once_two p q false e = ap (λ zs. root_text p ++ zs) (append-nil (root_text q)) ∙ ap (λ zs. zs ++ root_text q) (sym (append-nil (root_text p)))

once_if : (p : Place) (b : Bool) (xs ys : List Place) (more : List ℕ) → flat_map root_text ys ≡ flat_map root_text xs ++ more
    → flat_map root_text (if b then ys else p ∷ ys) ≡ flat_map root_text (if b then xs else p ∷ xs) ++ more
once_if p true xs ys more e = e
once_if p false xs ys more e = ap (λ zs. root_text p ++ zs) e ∙ sym (append_assoc (root_text p) (flat_map root_text xs) more)

pub once_more : (ps : List Place) (q : Place) → lines_of (ps ++ q ∷ []) ≡ lines_of ps ++ (if ends_with q ps then [] else root_text q)
once_more [] q = append-nil (root_text q)
once_more (p ∷ []) q = once_two p q (is_root_at p q) refl
once_more (p ∷ r ∷ ps) q = once_if p (is_root_at p r) (once (r ∷ ps)) (once (r ∷ (ps ++ q ∷ []))) (if ends_with q (r ∷ ps) then [] else root_text q) (once_more (r ∷ ps) q)

-- with a root more, if there is one
pub record IsLastOf (last : Option Place) (ps : List Place) : Type 0 where
  pub each : (q : Place) → ends_with q ps ≡ is_last last q

roots_next : (ps more : List Place) (last root : Option Place) (old before after : List ℕ) → listed root ≡ more → IsLastOf last ps → before ≡ old ++ lines_of ps → after ≡ before ++ other_text last root
    → IsLastOf (later last root) (ps ++ more) × (after ≡ old ++ lines_of (ps ++ more))
roots_next ps more last None old before after e is b a =
    subst (λ ms. IsLastOf last (ps ++ ms) × (after ≡ old ++ lines_of (ps ++ ms))) e
    (subst (λ xs. IsLastOf last xs × (after ≡ old ++ lines_of xs)) (sym (append-nil ps)) (is, a ∙ append-nil before ∙ b))
roots_next ps more last (Some p) old before after e is b a =
    subst (λ ms. IsLastOf (Some p) (ps ++ ms) × (after ≡ old ++ lines_of (ps ++ ms))) e (
      record { each = λ q. ends_more q p ps },
      a ∙ ap (λ zs. zs ++ (if is_last last p then [] else root_text p)) b ∙ append_assoc old (lines_of ps) (if is_last last p then [] else root_text p)
          ∙ ap (λ c. old ++ (lines_of ps ++ (if c then [] else root_text p))) (sym (is.each p)) ∙ ap (λ zs. old ++ zs) (sym (once_more ps p)),
    )

if_cond : {A : Type 0} (b : Bool) (x : List A) → (if b then x else []) ≡ cond b x []
if_cond true x = refl
if_cond false x = refl

pub roots_more : (os : List ℕ) (shown : List Bool) (hs : List Held) (i : ℕ) (d x : Held) (last root : Option Place) (old before after : List ℕ) → i < length hs → x ≡ get_or hs i d
    → listed root ≡ (if is_drawn os shown x then roots_of x.place else []) → IsLastOf last (roots_in os shown (take i hs)) → before ≡ old ++ lines_of (roots_in os shown (take i hs))
    → after ≡ before ++ other_text last root → IsLastOf (later last root) (roots_in os shown (take (i + 1) hs)) × (after ≡ old ++ lines_of (roots_in os shown (take (i + 1) hs)))
roots_more os shown hs i d x last root old before after h is e l b a =
    subst (λ ps. IsLastOf (later last root) ps × (after ≡ old ++ lines_of ps)) (sym (kept_more (λ (y : Held). roots_of y.place) (is_drawn os shown) hs i d h))
    (roots_next (roots_in os shown (take i hs)) (cond (is_drawn os shown (get_or hs i d)) (roots_of (get_or hs i d).place) []) last root old before after
    (e ∙ if_cond (is_drawn os shown x) (roots_of x.place) ∙ ap (λ (y : Held). cond (is_drawn os shown y) (roots_of y.place) []) is) l b a)

-- Where an object stands.

number_if : (i j o x : ℕ) (xs : List ℕ) (b : Bool) → (x == o) ≡ b → (if b then Some i else number_from (i + 1) xs o) ≡ Some j
    → ((b ≡ true) × (i ≡ j)) ⊎ ((b ≡ false) × (number_from (i + 1) xs o ≡ Some j))
number_if i j o x xs true e h = inl (refl, let s : Some i ≡ Some j = h in cc)
number_if i j o x xs false e h = inr (refl, h)

abbrev IsFoundAt : List ℕ → (i j o : ℕ) → Type 0
IsFoundAt xs i j o = (k : ℕ) × (j ≡ i + k) × (k < length xs) × (get_or xs k 0 ≡ o)

found_next : (x : ℕ) (xs : List ℕ) (i j o : ℕ) → (number_from (i + 1) xs o ≡ Some j → IsFoundAt xs (i + 1) j o) → (((x == o) ≡ true) × (i ≡ j)) ⊎ (((x == o) ≡ false) × (number_from (i + 1) xs o ≡ Some j)) → IsFoundAt (x ∷ xs) i j o
found_next x xs i j o rest (inl e) = (0, (let s : i ≡ j = e.1 in omega (arith, s)), omega arith, number_same x o e.0)
found_next x xs i j o rest (inr e) =
    let it = rest e.1 in
    let s : j ≡ i + 1 + it.0 = it.1 in
    let l : it.0 < length xs = it.2 in
    (suc it.0, omega (arith, s), omega (arith, l), it.3)

found_from : (xs : List ℕ) (i j o : ℕ) → number_from i xs o ≡ Some j → IsFoundAt xs i j o
found_from [] i j o h = absurd cc
found_from (x ∷ xs) i j o h = found_next x xs i j o (found_from xs (i + 1) j o) (number_if i j o x xs (x == o) refl h)

pub index_found : (os : List ℕ) (o j : ℕ) → index_in os o ≡ Some j → (j < length os) × (get_or os j 0 ≡ o)
index_found os o j h =
    let it = found_from os 0 j o h in
    let s : it.0 ≡ j = (let u : j ≡ 0 + it.0 = it.1 in omega (arith, u)) in
    subst (λ k. (k < length os) × (get_or os k 0 ≡ o)) s (it.2, it.3)

absent_next : (i x o : ℕ) (xs : List ℕ) (b : Bool) → (has o xs ≡ false → number_from (i + 1) xs o ≡ None) → (b || has o xs) ≡ false → (if b then Some i else number_from (i + 1) xs o) ≡ None
absent_next i x o xs true rest g = absurd cc
absent_next i x o xs false rest g = rest g

pub absent_from : (xs : List ℕ) (i o : ℕ) → has o xs ≡ false → number_from i xs o ≡ None
absent_from [] i o h = refl
absent_from (x ∷ xs) i o h = absent_next i x o xs (x == o) (absent_from xs (i + 1) o) h

present_next : (i x o : ℕ) (xs : List ℕ) (b : Bool) → (has o xs ≡ true → (j : ℕ) × (number_from (i + 1) xs o ≡ Some j)) → (b || has o xs) ≡ true → (j : ℕ) × ((if b then Some i else number_from (i + 1) xs o) ≡ Some j)
present_next i x o xs true rest g = (i, refl)
present_next i x o xs false rest g = rest g

present_from : (xs : List ℕ) (i o : ℕ) → has o xs ≡ true → (j : ℕ) × (number_from i xs o ≡ Some j)
present_from [] i o h = absurd cc
present_from (x ∷ xs) i o h = present_next i x o xs (x == o) (present_from xs (i + 1) o) h

pub index_at : (g : Graph) (i : ℕ) → i < size g → index_in g.objects.items (object_at g i) ≡ Some i
index_at g i h =
    let it = present_from g.objects.items 0 (object_at g i) (has_at g.objects.items i h) in
    let found = index_found g.objects.items (object_at g i) it.0 it.1 in
    it.1 ∙ ap Some (same_index g it.0 i found.0 h found.1)

pub index_option : (g : Graph) (o : ℕ) (x : Option ℕ) → MatchOption x (has o g.objects.items ≡ false) (λ i. (i < size g) × (object_at g i ≡ o)) → x ≡ index_in g.objects.items o
index_option g o None h = sym (absent_from g.objects.items 0 o h)
index_option g o (Some i) h = sym (ap (index_in g.objects.items) (sym h.1) ∙ index_at g i h.0)

pub option_within : (g : Graph) (o : ℕ) (x : Option ℕ) → MatchOption x (has o g.objects.items ≡ false) (λ i. (i < size g) × (object_at g i ≡ o)) → IfSome x (λ i. i < size g)
option_within g o None h = tt
option_within g o (Some i) h = h.0

pub mark_here : (g : Graph) (marks : List Bool) (i : ℕ) → i < size g → is_marked_in g.objects.items marks (object_at g i) ≡ slice_index_or marks i false
mark_here g marks i h = ap (mark_at marks) (index_at g i h)

pub cycle_option : (c : Cycles) (i : ℕ) (x : Option ℕ) → MatchOption x (slice_index_or c.marks.items i false ≡ false) (λ least. (slice_index_or c.marks.items i false ≡ true) × (slice_index c.parts.items i ≡ least)) → x ≡ cycle_at c (Some i)
cycle_option c i None h = sym (ap (λ b. if b then Some (slice_index c.parts.items i) else None) h)
cycle_option c i (Some least) h = sym (ap (λ b. if b then Some (slice_index c.parts.items i) else None) h.0 ∙ ap Some h.1)

-- the line of an object that is shown, and none of one that isn't
pub shown_line : (e : Ending) (m : State) (shown given : List Bool) (i : ℕ) (l d v : Bool) → i < size e.graph → slice_index_or shown i false ≡ true
    → l ≡ slice_index_or e.leaked.items i false → d ≡ not (slice_index_or e.graph.alive.items i false) → v ≡ slice_index_or given i false
    → object_text (object_at e.graph i) (strong m [] (object_at e.graph i)) (weak m [] (object_at e.graph i)) l d v ≡ if_so (is_marked_in e.graph.objects.items shown (object_at e.graph i)) (object_of e m given (object_at e.graph i))
shown_line e m shown given i l d v h s p q r =
    ap (λ b. object_text (object_at e.graph i) (strong m [] (object_at e.graph i)) (weak m [] (object_at e.graph i)) b d v) (p ∙ sym (mark_here e.graph e.leaked.items i h))
    ∙ ap (λ b. object_text (object_at e.graph i) (strong m [] (object_at e.graph i)) (weak m [] (object_at e.graph i)) (is_marked_in e.graph.objects.items e.leaked.items (object_at e.graph i)) b v) (q ∙ ap not (sym (mark_here e.graph e.graph.alive.items i h)))
    ∙ ap (λ b. object_text (object_at e.graph i) (strong m [] (object_at e.graph i)) (weak m [] (object_at e.graph i)) (is_marked_in e.graph.objects.items e.leaked.items (object_at e.graph i)) (not (is_marked_in e.graph.objects.items e.graph.alive.items (object_at e.graph i))) b)
    (r ∙ sym (mark_here e.graph given i h))
    ∙ ap (λ b. if_so b (object_of e m given (object_at e.graph i))) (sym (mark_here e.graph shown i h ∙ s))

pub hidden_line : (g : Graph) (shown : List Bool) (i : ℕ) (t line : List ℕ) → i < size g → slice_index_or shown i false ≡ false → t ≡ t ++ if_so (is_marked_in g.objects.items shown (object_at g i)) line
hidden_line g shown i t line h s = sym (append-nil t) ∙ ap (λ b. t ++ if_so b line) (sym (mark_here g shown i h ∙ s))
