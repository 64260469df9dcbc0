-- Whether operations may end a handle: part by part.
use Rattle.std.proofs.Common.{◌≡◌, ℕ, List, [], ◌∷◌, refl, ap, ◌∙◌, sym, Bool, true, false}
use Rattle.std.specs.Prelude.{◌==◌, ◌||◌, option_to_list}
use Rattle.std.specs.List.{list_any}
use Rattle.std.proofs.lemmas.List.Folds.{list_any-append}
use Rattle.trace_types.specs.declared.kinds.Field.{Field}
use Rattle.trace_types.specs.declared.kinds.Field.TheVariants as field
use Rattle.ownership_model.specs.Reach.{has}
use Rattle.ownership_model.specs.View.{held_fields}
use Rattle.object_heap.specs.declared.put.Put.{Put}
use Rattle.heap_difference.specs.Puts.{unders}

-- a test of the handles under those that are put in
pub any_under : (p : ℕ → Bool) (puts : List Put) → list_any p (unders puts) ≡ list_any (λ x. list_any p (option_to_list x.under)) puts
any_under p [] = refl
any_under p (x ∷ puts) = list_any-append p (option_to_list x.under) (unders puts) ∙ ap (λ t. list_any p (option_to_list x.under) || t) (any_under p puts)

or_none : (b : Bool) → (b || false) ≡ b
or_none true = refl
or_none false = refl

-- whether a handle is among fields
pub has_field : (h : ℕ) (fs : List Field) → has h (held_fields fs) ≡ list_any (λ f. has h (held_fields (f ∷ []))) fs
has_field h [] = refl
has_field h (field.Held g ∷ fs) = ap (λ t. (g == h) || t) (has_field h fs) ∙ ap (λ t. t || list_any (λ f. has h (held_fields (f ∷ []))) fs) (sym (or_none (g == h)))
has_field h (field.Null ∷ fs) = has_field h fs
has_field h (field.Me ∷ fs) = has_field h fs
