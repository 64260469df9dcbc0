-- What is dated by the losses of a trace is dated by the operation that lost a slot last.
use Rattle.std.proofs.Common.{◌≡◌, ℕ, List, [], ◌∷◌, ◌++◌, refl, sym, ap, ◌∙◌, subst, inl, inr}
use Rattle.std.specs.Prelude.{Option, Some, None, ◌⊎◌}
use Rattle.std.specs.List.{AllByRecursion}
use Rattle.trace_types.specs.Operation.{Operation}
use Rattle.ownership_model.specs.State.{State}
use Rattle.ownership_model.specs.Step.{step, end_from}
use Rattle.retention_model.specs.Losses.{Loses, Backs, LoseNone, IsLastLoss}
use Rattle.retention.specs.declared.moves.Loss.{Loss}
use Rattle.retention.specs.Losses.{IsLostIn, AreLosses}
use Rattle.retention.specs.Dating.{IsDatedBy}

-- The operation that lost a slot of one of these last
pub record IsLast (Of : ℕ → Type 0) (start : State) (ops : List Operation) (id : ℕ) : Type 0 where
  pub before : List Operation
  pub op : Operation
  pub later : List Operation
  pub split : ops ≡ before ++ op ∷ later
  pub number : id ≡ op.id
  pub object : ℕ
  pub is : Of object
  pub lost : Loses (end_from start before) op object
  pub none_later : LoseNone Of (step (end_from start before) op).state later

module _ (Of : ℕ → Type 0) where
  -- the last loss of two lists
  in_parts : (here rest : List Loss) (d : Option ℕ) → IsDatedBy Of (here ++ rest) d → ((id : ℕ) × (d ≡ Some id) × IsDatedBy Of rest (Some id)) ⊎ (IsDatedBy Of rest None × IsDatedBy Of here d)
  in_parts [] rest None it = inr (it, refl)
  in_parts [] rest (Some id) it = inl (id, refl, it)
  in_parts (l ∷ here) rest d (inl it) = later (in_parts here rest (Some it.0) it.2)
    where
      later : ((id : ℕ) × (Some it.0 ≡ Some id) × IsDatedBy Of rest (Some id)) ⊎ (IsDatedBy Of rest None × IsDatedBy Of here (Some it.0))
          → ((id : ℕ) × (d ≡ Some id) × IsDatedBy Of rest (Some id)) ⊎ (IsDatedBy Of rest None × IsDatedBy Of (l ∷ here) d)
      later (inl j) = inl (j.0, it.1 ∙ j.1, j.2)
      later (inr j) = inr (j.0, inl (it.0, it.1, j.1))
  in_parts (l ∷ here) rest d (inr it) = none (in_parts here rest None it.0)
    where
      none : ((id : ℕ) × (None ≡ Some id) × IsDatedBy Of rest (Some id)) ⊎ (IsDatedBy Of rest None × IsDatedBy Of here None)
          → ((id : ℕ) × (d ≡ Some id) × IsDatedBy Of rest (Some id)) ⊎ (IsDatedBy Of rest None × IsDatedBy Of (l ∷ here) d)
      none (inl j) = absurd (let e : None ≡ Some j.0 = j.1 in cc)
      none (inr j) = inr (j.0, inr (j.1, it.1))

  -- of one operation: one of the list was lost by it
  lost_here : (m : State) (op : Operation) (here : List Loss) (id : ℕ) → AllByRecursion (λ (l : Loss). (l.id ≡ op.id) × Loses m op l.object) here → IsDatedBy Of here (Some id) → (id ≡ op.id) × ((a : ℕ) × Of a × Loses m op a)
  lost_here m op [] id each it = absurd (let e : Some id ≡ None = it in cc)
  lost_here m op (l ∷ here) id each (inl it) =
      let same : it.0 ≡ id = sym (let e : Some id ≡ Some it.0 = it.1 in cc) in
      lost_here m op here id each.1 (subst (λ k. IsDatedBy Of here (Some k)) same it.2)
  lost_here m op (l ∷ here) id each (inr it) = by_first it.1
    where
      by_first : ((Some id ≡ Some l.id) × Of l.object) ⊎ ((Some id ≡ None) × (Of l.object → ⊥)) → (id ≡ op.id) × ((a : ℕ) × Of a × Loses m op a)
      by_first (inl j) = (let e : Some id ≡ Some l.id = j.0 in let same : id ≡ l.id = cc in same ∙ each.0.0, (l.object, j.1, each.0.1))
      by_first (inr j) = absurd (let e : Some id ≡ None = j.0 in cc)

  -- none of it was
  none_here : (here : List Loss) (a : ℕ) → IsDatedBy Of here None → Of a → IsLostIn a here → ⊥
  none_here [] a it of lost = lost
  none_here (l ∷ here) a (inl it) of lost = let e : None ≡ Some it.0 = it.1 in absurd cc
  none_here (l ∷ here) a (inr it) of (inr later) = none_here here a it.0 of later
  none_here (l ∷ here) a (inr it) of (inl same) = by_first it.1
    where
      by_first : ((◌≡◌ {A = Option ℕ} None (Some l.id)) × Of l.object) ⊎ ((◌≡◌ {A = Option ℕ} None None) × (Of l.object → ⊥)) → ⊥
      by_first (inl j) = let e : None ≡ Some l.id = j.0 in absurd cc
      by_first (inr j) = j.1 (subst Of (sym same) of)

  nothing_lost : (m : State) → LoseNone Of m []
  nothing_lost m [] more op a split of lost = absurd cc
  nothing_lost m (x ∷ some) more op a split of lost = absurd cc

  first_none : (m : State) (op : Operation) (ops : List Operation) → ((a : ℕ) → Of a → Loses m op a → ⊥) → LoseNone Of (step m op).state ops → LoseNone Of m (op ∷ ops)
  first_none m op ops here none [] more next a split of lost =
      let same : op ≡ next = cc in
      here a of (subst (λ o. Loses m o a) (sym same) lost)
  first_none m op ops here none (x ∷ some) more next a split of lost =
      let same : op ≡ x = cc in
      let rest : ops ≡ some ++ next ∷ more = cc in
      none some more next a rest of (subst (λ o. Loses (end_from (step m o).state some) next a) (sym same) lost)

  pub lose_none : (ops : List Operation) (m : State) (losses : List Loss) → AreLosses m ops losses → IsDatedBy Of losses None → LoseNone Of m ops
  lose_none [] m losses are it = nothing_lost m
  lose_none (op ∷ ops) m losses are it = by_parts (λ none. lose_none ops (step m op).state are.1 are.4 none) (in_parts are.0 are.1 None (subst (λ ls. IsDatedBy Of ls None) are.2 it))
    where
      by_parts : (IsDatedBy Of are.1 None → LoseNone Of (step m op).state ops) → ((id : ℕ) × (None ≡ Some id) × IsDatedBy Of are.1 (Some id)) ⊎ (IsDatedBy Of are.1 None × IsDatedBy Of are.0 None) → LoseNone Of m (op ∷ ops)
      by_parts later (inl j) = absurd (let e : None ≡ Some j.0 = j.1 in cc)
      by_parts later (inr j) = first_none m op ops (λ a of lost. none_here are.0 a j.1 of (are.3.all a lost)) (later j.0)

  pub last_loss : (ops : List Operation) (m : State) (losses : List Loss) (id : ℕ) → AreLosses m ops losses → IsDatedBy Of losses (Some id) → IsLast Of m ops id
  last_loss [] m losses id are it = absurd (let e : Some id ≡ None = subst (λ ls. IsDatedBy Of ls (Some id)) are it in cc)
  last_loss (op ∷ ops) m losses id are it =
      by_parts (λ k other. last_loss ops (step m op).state are.1 k are.4 other) (in_parts are.0 are.1 (Some id) (subst (λ ls. IsDatedBy Of ls (Some id)) are.2 it))
    where
      more : IsLast Of (step m op).state ops id → IsLast Of m (op ∷ ops) id
      more l = record {
        before = op ∷ l.before;
        op = l.op;
        later = l.later;
        split = ap (λ xs. op ∷ xs) l.split;
        number = l.number;
        object = l.object;
        is = l.is;
        lost = l.lost;
        none_later = l.none_later;
      }

      first : (id ≡ op.id) × ((a : ℕ) × Of a × Loses m op a) → LoseNone Of (step m op).state ops → IsLast Of m (op ∷ ops) id
      first j none = record {
        before = [];
        op = op;
        later = ops;
        split = refl;
        number = j.0;
        object = j.1.0;
        is = j.1.1;
        lost = j.1.2;
        none_later = none;
      }

      by_parts : ((k : ℕ) → IsDatedBy Of are.1 (Some k) → IsLast Of (step m op).state ops k) → ((k : ℕ) × (Some id ≡ Some k) × IsDatedBy Of are.1 (Some k)) ⊎ (IsDatedBy Of are.1 None × IsDatedBy Of are.0 (Some id))
          → IsLast Of m (op ∷ ops) id
      by_parts later (inl j) =
          let same : j.0 ≡ id = sym (let e : Some id ≡ Some j.0 = j.1 in cc) in
          more (later id (subst (λ k. IsDatedBy Of are.1 (Some k)) same j.2))
      by_parts later (inr j) = first (lost_here m op are.0 id are.3.each j.1) (lose_none ops (step m op).state are.1 are.4 j.0)

-- two sets with the same members
pub dated_alike : (Of To : ℕ → Type 0) → ((a : ℕ) → Of a → To a) → ((a : ℕ) → To a → Of a) → (losses : List Loss) (d : Option ℕ) → IsDatedBy Of losses d → IsDatedBy To losses d
dated_alike Of To there back [] d it = it
dated_alike Of To there back (l ∷ ls) d (inl it) = inl (it.0, it.1, dated_alike Of To there back ls (Some it.0) it.2)
dated_alike Of To there back (l ∷ ls) d (inr it) = inr (dated_alike Of To there back ls None it.0, by_first it.1)
  where
    by_first : ((d ≡ Some l.id) × Of l.object) ⊎ ((d ≡ None) × (Of l.object → ⊥)) → ((d ≡ Some l.id) × To l.object) ⊎ ((d ≡ None) × (To l.object → ⊥))
    by_first (inl j) = inl (j.0, there l.object j.1)
    by_first (inr j) = inr (j.0, λ to. j.1 (back l.object to))

pub as_last : (start : State) (ops : List Operation) (o id : ℕ) → IsLast (Backs (end_from start ops) o) start ops id → IsLastLoss start ops o id
as_last start ops o id l = record {
  before = l.before;
  op = l.op;
  later = l.later;
  split = l.split;
  number = l.number;
  object = l.object;
  backs = l.is;
  lost = l.lost;
  none_later = l.none_later;
}
