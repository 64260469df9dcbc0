-- What operations and outcomes name, key by key.
use Rattle.std.proofs.Common.{◌≡◌, ℕ, ◌+◌, ◌<◌, List, [], ◌∷◌, ◌++◌, map, take, length, inl, inr, refl, ap, ◌∙◌, sym, append_assoc, arith, Bool, true, false}
use Rattle.std.specs.Prelude.{flat_map, get_or, option_to_list, ◌||◌, ◌⊎◌}
use Rattle.std.specs.List.{list_any}
use Rattle.std.proofs.lemmas.List.{append-nil, take_more}
use Rattle.std.proofs.lemmas.List.Folds.{list_any-append}
use Rattle.std.proofs.lemmas.Grind.{flat_map-append}
use Rattle.trace_types.specs.declared.kinds.Field.{Field}
use Rattle.trace_types.specs.declared.kinds.Field.TheVariants as field
use Rattle.trace_types.specs.declared.kinds.Kind.{Kind}
use Rattle.trace_types.specs.declared.kinds.Kind.TheVariants as kind
use Rattle.trace_types.specs.declared.outcomes.Event.{Event}
use Rattle.trace_types.specs.declared.outcomes.Outcome.{Outcome}
use Rattle.trace_types.specs.Operation.{Operation}
use Rattle.ownership_model.specs.declared.key.Key.{Key}
use Rattle.ownership_model.specs.declared.key.Key.TheVariants.{Handle, Cell, Object, Scope}
use Rattle.ownership_model.specs.View.{Members, members, held_fields}
use Rattle.ownership_model.specs.Footprint.{scope_keys, named_keys}
use Rattle.ownership_model.specs.Touched.{event_object}
use Rattle.ownership_model.specs.Sets.{set_names_of}
use Rattle.heap_difference.specs.declared.key_set.KeySet.{KeySet}
use Rattle.heap_difference.specs.KeySets.{is_among, set_of, meet}
use Rattle.heap_difference.specs.Naming.{op_keys, outcome_keys, with_names}
use Rattle.heap_difference.proofs.KeyLemmas.{meet_listed, none_has}

-- ---- one part more of many
pub parts_next : {A : Type 0} (f : A → List Key) (xs : List A) (i : ℕ) (x : A) → i < length xs → x ≡ get_or xs i x → (before now later : List Key) → now ≡ before ++ flat_map f (take i xs) → later ≡ now ++ f x
    → later ≡ before ++ flat_map f (take (i + 1) xs)
parts_next {A} f xs i x within is before now later e g =
    let last : flat_map f (get_or xs i x ∷ []) ≡ f x = ap (λ (y : A). flat_map f (y ∷ [])) (sym is) ∙ append-nil (f x) in
    let more : flat_map f (take (i + 1) xs) ≡ flat_map f (take i xs) ++ f x =
    ap (λ (ys : List A). flat_map f ys) (take_more xs i x within) ∙ flat_map-append f (take i xs) (get_or xs i x ∷ []) ∙ ap (λ (ks : List Key). flat_map f (take i xs) ++ ks) last in
    g ∙ ap (λ (ks : List Key). ks ++ f x) e ∙ append_assoc before (flat_map f (take i xs)) (f x) ∙ ap (λ (ks : List Key). before ++ ks) (sym more)

-- operations or outcomes that have come to their end name nothing more that is set
pub names_end : (ops : List Operation) (xs : List Outcome) → (length ops ≡ 0) ⊎ (length xs ≡ 0) → set_names_of ops xs ≡ []
names_end [] xs e = refl
names_end (op ∷ ops) [] e = refl
names_end (op ∷ ops) (x ∷ xs) (inl e) = absurd (omega (arith, e))
names_end (op ∷ ops) (x ∷ xs) (inr e) = absurd (omega (arith, e))

-- ---- looked up
or_none : (a : Bool) → (a || false) ≡ a
or_none true = refl
or_none false = refl

module _ (p : Key → Bool) where
  pub any_part : {A : Type 0} (f : A → List Key) (xs : List A) → list_any p (flat_map f xs) ≡ list_any (λ x. list_any p (f x)) xs
  any_part f [] = refl
  any_part f (x ∷ xs) = list_any-append p (f x) (flat_map f xs) ∙ ap (λ t. list_any p (f x) || t) (any_part f xs)

  pub any_event : (es : List Event) → list_any p (map Object (map event_object es)) ≡ list_any (λ e. p (Object (event_object e))) es
  any_event [] = refl
  any_event (e ∷ es) = ap (λ t. p (Object (event_object e)) || t) (any_event es)

  pub any_field : (fs : List Field) → list_any p (map Handle (held_fields fs)) ≡ list_any (λ f. list_any p (map Handle (held_fields (f ∷ [])))) fs
  any_field [] = refl
  any_field (field.Held h ∷ fs) = ap (λ t. p (Handle h) || t) (any_field fs) ∙ ap (λ t. t || list_any (λ f. list_any p (map Handle (held_fields (f ∷ [])))) fs) (sym (or_none (p (Handle h))))
  any_field (field.Null ∷ fs) = any_field fs
  any_field (field.Me ∷ fs) = any_field fs

-- ---- where no handle, no cell and no label is looked for
module _ (p : Key → Bool) (handles : (h : ℕ) → p (Handle h) ≡ false) (cells : (c : ℕ) → p (Cell c) ≡ false) (labels : (t : ℕ) → p (Scope t) ≡ false) where
  none_of : (f : ℕ → Key) → ((n : ℕ) → p (f n) ≡ false) → (ns : List ℕ) → list_any p (map f ns) ≡ false
  none_of f none [] = refl
  none_of f none (n ∷ ns) = ap (λ t. t || list_any p (map f ns)) (none n) ∙ none_of f none ns

  none_behind : (xs ys : List Key) → list_any p xs ≡ false → list_any p ys ≡ false → list_any p (xs ++ ys) ≡ false
  none_behind xs ys first second = list_any-append p xs ys ∙ ap (λ t. t || list_any p ys) first ∙ second

  none_named : (a : Members) → list_any p (named_keys a) ≡ false
  none_named a =
      none_behind (map Handle (option_to_list a.first)) _ (none_of Handle handles (option_to_list a.first))
      (none_behind (map Handle (option_to_list a.second)) _ (none_of Handle handles (option_to_list a.second))
      (none_behind (map Handle (held_fields a.fields)) _ (none_of Handle handles (held_fields a.fields)) (none_of Cell cells (option_to_list a.cell))))

  no_scope : (label : ℕ) (kd : Kind) → list_any p (scope_keys label kd) ≡ false
  no_scope label kind.ScopeEnd = ap (λ t. t || false) (labels label)
  no_scope label kd = refl

  none_in_ops : (ops : List Operation) → list_any p (flat_map op_keys ops) ≡ false
  none_in_ops [] = refl
  none_in_ops (op ∷ ops) = none_behind (op_keys op) (flat_map op_keys ops) (none_behind (scope_keys op.thread op.kind) _ (no_scope op.thread op.kind) (none_named (members [] op.kind))) (none_in_ops ops)

-- operations name no object
pub no_names : (d : KeySet) → length d.handles ≡ 0 → length d.cells ≡ 0 → length d.labels ≡ 0 → (ops : List Operation) → list_any (is_among d) (flat_map op_keys ops) ≡ false
no_names d handles cells labels =
    none_in_ops (is_among d) (λ h. sym (none_has h d.handles handles)) (λ c. sym (none_has c d.cells cells)) (λ t. sym (none_has t d.labels labels))

-- what was told, and what is named
pub meet_all : (d : KeySet) (told : List Key) (ops : List Operation) (outcomes : List Outcome)
    → (meet d (set_of told) || (list_any (is_among d) (flat_map op_keys ops) || list_any (is_among d) (flat_map outcome_keys outcomes))) ≡ meet d (set_of (with_names told ops outcomes))
meet_all d told ops outcomes =
    let p = is_among d in
    let a = flat_map op_keys ops in
    let b = flat_map outcome_keys outcomes in
    ap (λ t. t || (list_any p a || list_any p b)) (sym (meet_listed d told))
    ∙ ap (λ t. list_any p told || t) (sym (list_any-append p a b))
    ∙ sym (list_any-append p told (a ++ b))
    ∙ meet_listed d (with_names told ops outcomes)
