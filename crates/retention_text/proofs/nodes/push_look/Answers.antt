use Rattle.std.proofs.Common.{◌≡◌, List, [], ◌++◌, ℕ, ap, ◌∙◌, append_assoc, string_bytes}
use Rattle.std.specs.Prelude.{codes, if◌then◌else◌}
use Rattle.retention_text.proofs.nodes.push_look.Goals as goal

pieces : (a b d e : List ℕ) → ((a ++ b) ++ d) ++ e ≡ a ++ ((b ++ d) ++ e)
pieces a b d e = simp append_assoc

pub returns : goal.returns
returns c =
    let k = c.args.look in
    let leaked : List ℕ = if k.is_leaked then codes " fillcolor=\"#f6b26b\"" else [] in
    let husk : List ℕ = if k.is_husk then codes " style=\"rounded,dashed\"" else [] in
    let given : List ℕ = if k.is_given then codes " penwidth=3" else [] in
    c.in_ok-push_if-3.ensures ∙ ap (λ xs. xs ++ given) (c.in_ok-push_if-2.ensures ∙ ap (λ xs. xs ++ husk) c.in_ok-push_if.ensures)
    ∙ pieces (string_bytes c.args.text.now) leaked husk given
