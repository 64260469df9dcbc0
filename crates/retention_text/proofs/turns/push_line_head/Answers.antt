use Rattle.std.proofs.Common.{◌++◌, ap, sym, ◌∙◌, append-nil, string_bytes}
use Rattle.std.proofs.lemmas.Result.{on_ok_weaker}
use Rattle.retention_text.specs.Turns.{line_head}
use Rattle.retention_text.proofs.turns.push_line_head.Goals as goal

pub returns-in-Some : goal.returns-in-Some
returns-in-Some c =
    on_ok_weaker c.push_head.result (λ e. e ∙ ap (λ o. string_bytes c.args.text.now ++ line_head o c.args.marked.now) c.in-Some.ensures) c.push_head.ensures

pub returns-in-None : goal.returns-in-None
returns-in-None c = sym (append-nil (string_bytes c.args.text.now)) ∙ ap (λ o. string_bytes c.args.text.now ++ line_head o c.args.marked.now) c.in-None.ensures
