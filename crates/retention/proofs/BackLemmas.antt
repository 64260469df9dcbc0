-- A way is gone back along, place by place.
use Rattle.std.proofs.Common.{◌≡◌, ℕ, ◌+◌, ◌<◌, List, [], ◌∷◌, ◌++◌, length, get_or, take, drop, map, reverse, refl, sym, ap, ◌∙◌, subst, arith, take-append-drop, true, false}
use Rattle.std.specs.Prelude.{nat_lt}
use Rattle.std.specs.List.{All}
use Rattle.std.proofs.lemmas.Bool.Decides.{nat_tests}
use Rattle.std.proofs.lemmas.List.{drop_more, drop_all, take_more, map-append}
use Rattle.std.proofs.lemmas.Grind.{reverse_onto}
use Rattle.retention_model.specs.declared.place.Held.{Held}
use Rattle.retention.specs.declared.graph.Graph.{Graph}
use Rattle.retention.specs.declared.walk.Step.{Step}
use Rattle.retention.specs.declared.walk.Step.TheVariants.{Never, First, Further}
use Rattle.retention.specs.Graph.{places, held_at}
use Rattle.retention.specs.Walked.{CameBy}

-- the front of what is left of a list
pub dropped : (xs : List ℕ) (k p : ℕ) (rest : List ℕ) → drop k xs ≡ p ∷ rest → (k < length xs) × (get_or xs k 0 ≡ p) × (drop (k + 1) xs ≡ rest) × (take (k + 1) xs ≡ take k xs ++ p ∷ [])
dropped xs k p rest e =
    elim (nat_lt k (length xs)) as (λ b. nat_lt k (length xs) ≡ b → (k < length xs) × (get_or xs k 0 ≡ p) × (drop (k + 1) xs ≡ rest) × (take (k + 1) xs ≡ take k xs ++ p ∷ [])) [
      | true ↦ λ t.
          let h : k < length xs = grind (arith, nat_tests, t) in
          let more : drop k xs ≡ get_or xs k 0 ∷ drop (k + 1) xs = drop_more xs k 0 h in
          let both : get_or xs k 0 ∷ drop (k + 1) xs ≡ p ∷ rest = sym more ∙ e in
          let first : get_or xs k 0 ≡ p = cc in
          let later : drop (k + 1) xs ≡ rest = cc in
          (h, first, later, take_more xs k 0 h ∙ ap (λ x. take k xs ++ x ∷ []) first)
      | false ↦ λ t. absurd (let none : drop k xs ≡ [] = drop_all k xs (grind (arith, nat_tests, t)) in let clash : [] ≡ p ∷ rest = sym none ∙ e in cc)
    ] refl

pub later : (xs : List ℕ) (k p : ℕ) (rest : List ℕ) → drop k xs ≡ p ∷ rest → drop (k + 1) xs ≡ rest
later xs k p rest e = (dropped xs k p rest e).2

-- what is made of each element, the other way round
pub map_reverse : (f : ℕ → Held) (xs : List ℕ) → reverse (map f xs) ≡ map f (reverse xs)
map_reverse f [] = refl
map_reverse f (x ∷ xs) =
    reverse_onto (map f xs) (f x) [] ∙ ap (λ hs. hs ++ f x ∷ []) (map_reverse f xs) ∙ sym (map-append f (reverse xs) (x ∷ [])) ∙ ap (map f) (sym (reverse_onto xs x []))

-- one step back
pub record IsBack (field : ℕ → ℕ → Type 0) (steps : List Step) (p : ℕ) (ds : List ℕ) : Type 0 where
  pub rest : List ℕ
  pub is : ds ≡ p ∷ rest
  pub from : ℕ
  pub owner : field from p
  pub came : CameBy field steps from rest

pub back_further : (field : ℕ → ℕ → Type 0) (steps : List Step) (o p : ℕ) (ds : List ℕ) → CameBy field steps o ds → get_or steps o Never ≡ Further p → IsBack field steps p ds
back_further field steps o p [] c e = absurd c
back_further field steps o p (q ∷ []) c e = absurd (let clash : First q ≡ Further p = sym c ∙ e in cc)
back_further field steps o p (q ∷ r ∷ ds) c e =
    let same : q ≡ p = (let both : Further q ≡ Further p = sym c.0 ∙ e in cc) in
    record { rest = r ∷ ds; is = ap (λ x. x ∷ r ∷ ds) same; from = c.1.0; owner = subst (λ x. field c.1.0 x) same c.1.1; came = c.1.2 }

pub back_first : (field : ℕ → ℕ → Type 0) (steps : List Step) (o p : ℕ) (ds : List ℕ) → CameBy field steps o ds → get_or steps o Never ≡ First p → ds ≡ p ∷ []
back_first field steps o p [] c e = absurd c
back_first field steps o p (q ∷ []) c e = let same : q ≡ p = (let both : First q ≡ First p = sym c ∙ e in cc) in ap (λ x. x ∷ []) same
back_first field steps o p (q ∷ r ∷ ds) c e = absurd (let clash : Further q ≡ First p = sym c.0 ∙ e in cc)

pub back_never : (field : ℕ → ℕ → Type 0) (steps : List Step) (o : ℕ) (ds : List ℕ) → CameBy field steps o ds → get_or steps o Never ≡ Never → ⊥
back_never field steps o [] c e = c
back_never field steps o (q ∷ []) c e = let clash : First q ≡ Never = sym c ∙ e in absurd cc
back_never field steps o (q ∷ r ∷ ds) c e = let clash : Further q ≡ Never = sym c.0 ∙ e in absurd cc

-- the places so far, and one more
pub one_back : (g : Graph) (way : List ℕ) (k p : ℕ) (rest : List ℕ) (told new : List Held) (h : Held) → drop k way ≡ p ∷ rest → told ≡ map (held_at g) (take k way) → new ≡ told ++ h ∷ [] → h ≡ held_at g p → new ≡ map (held_at g) (take (k + 1) way)
one_back g way k p rest told new h e was now is =
    now ∙ ap (λ hs. hs ++ h ∷ []) was ∙ ap (λ x. map (held_at g) (take k way) ++ x ∷ []) is ∙ sym (map-append (held_at g) (take k way) (p ∷ [])) ∙ ap (map (held_at g)) (sym (dropped way k p rest e).3)

-- the last one
pub all_taken : (way : List ℕ) (k p : ℕ) → drop k way ≡ p ∷ [] → take (k + 1) way ≡ way
all_taken way k p e =
    let it = dropped way k p [] e in
    let rest : take k way ++ drop k way ≡ way = take-append-drop k way in
    it.3 ∙ ap (λ xs. take k way ++ xs) (sym e) ∙ rest

pub place_within : (g : Graph) (way : List ℕ) (k p : ℕ) (rest : List ℕ) → All (λ q. q < places g) way → drop k way ≡ p ∷ rest → p < places g
place_within g way k p rest all e = let it = dropped way k p rest e in subst (λ q. q < places g) it.1 (all k 0 it.0)
