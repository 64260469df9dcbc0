-- The text of a history, one entry after another.
use Rattle.std.proofs.Common.{◌≡◌, ℕ, zero, suc, ◌+◌, ◌<◌, List, [], ◌∷◌, ◌++◌, length, take, get_or, Some, ap, sym, ◌∙◌, arith}
use Rattle.std.specs.Prelude.{slice_get}
use Rattle.std.proofs.lemmas.List.{take_more, flat_map_more}
use Rattle.edit_desk.specs.declared.entries.Entry.{Entry}
use Rattle.command_race.specs.Race.{entry_text, history_text}

within : (h : List Entry) (i : ℕ) (e : Entry) → slice_get h i ≡ Some e → i < length h
within [] i e is = absurd cc
within (x ∷ h) zero e is = omega arith
within (x ∷ h) (suc i) e is = omega (arith, within h i e is)

read : (h : List Entry) (i : ℕ) (e : Entry) → slice_get h i ≡ Some e → get_or h i e ≡ e
read [] i e is = absurd cc
read (x ∷ h) zero e is = cc is
read (x ∷ h) (suc i) e is = read h i e is

-- one entry more
pub history_more : (text : List ℕ) (h : List Entry) (i : ℕ) (e : Entry) → slice_get h i ≡ Some e
    → (text ++ history_text (take i h)) ++ entry_text e ≡ text ++ history_text (take (i + 1) h)
history_more text h i e is =
    flat_map_more entry_text text (take i h) e
    ∙ ap (λ (x : List Entry). text ++ history_text x) (ap (λ (y : Entry). take i h ++ y ∷ []) (sym (read h i e is)) ∙ sym (take_more h i e (within h i e is)))
