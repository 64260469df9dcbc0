use Rattle.std.proofs.Common.{◌≡◌, [], ◌++◌, ap, sym, ◌∙◌, append_assoc, string_bytes}
use Rattle.std.specs.Prelude.{Bool, false, slice_get, if◌then◌else◌}
use Rattle.retention_text.specs.Turns.{is_at, line_end, line_head}
use Rattle.retention_text.proofs.turns.push_start.Goals as goal

pub returns : goal.returns
returns c =
    let x = c.args.marked.now in
    let t = string_bytes c.args.text.now in
    let end = line_end c.args.last in
    let head = line_head (slice_get c.args.ops.now x.position) x in
    let apart : is_at c.args.last x.position ≡ false = cc in
    c.in_ok-push_line_head.ensures ∙ ap (λ s. s ++ head) c.in_ok-push_end.ensures ∙ append_assoc t end head
    ∙ ap (λ (b : Bool). t ++ (if b then [] else end ++ head)) (sym apart)
