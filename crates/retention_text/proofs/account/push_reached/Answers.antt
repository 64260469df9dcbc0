use Rattle.std.proofs.Common.{◌≡◌, ◌∷◌, ◌++◌, ap, sym, ◌∙◌, append_assoc, string_bytes}
use Rattle.std.specs.Prelude.{codes}
use Rattle.retention_text.specs.Pieces.{held_text}
use Rattle.retention_text.specs.Accounts.{through_text, reached_text}
use Rattle.retention_text.proofs.account.push_reached.Goals as goal

pub returns : goal.returns
returns c =
    let whole : reached_text c.args.way.now ≡ reached_text (c.in-Some.first.now ∷ c.in-Some.further.now) = ap reached_text c.in-Some.ensures.cases.0 in
    c.in_ok-push_through.ensures
    ∙ ap (λ xs. xs ++ through_text c.in-Some.further.now) c.in_ok-push_held.ensures
    ∙ append_assoc (string_bytes c.args.text.now) (held_text (codes "  reached by ") c.in-Some.first.now) (through_text c.in-Some.further.now)
    ∙ ap (λ xs. string_bytes c.args.text.now ++ xs) (sym whole)
