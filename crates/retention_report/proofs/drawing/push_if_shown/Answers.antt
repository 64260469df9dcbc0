use Rattle.std.proofs.Common.{◌≡◌, ◌<◌, ◌++◌, ◌∙◌, ℕ, List, [], false, length, arith, refl, ap, subst, string_bytes, OnOk}
use Rattle.std.specs.Prelude.{not, slice_index_or}
use Rattle.std.proofs.lemmas.List.{get_or_read}
use Rattle.trace_types.specs.declared.outcomes.Counts.{Counts}
use Rattle.ownership_model.specs.State.{strong, weak}
use Rattle.retention.specs.Graph.{object_at}
use Rattle.retention_text.specs.Pictures.{object_text}
use Rattle.retention_report.specs.Drawn.{object_of}
use Rattle.retention_report.proofs.DrawLemmas.{shown_line, hidden_line}
use Rattle.retention_report.proofs.drawing.push_if_shown.Goals as goal

pub returns-then-shown-index : goal.returns-then-shown-index
returns-then-shown-index c =
    subst (λ (z : List ℕ). OnOk c.push_object.result (string_bytes c.push_object.new.text ≡ string_bytes c.args.text.now ++ z))
    (ap (λ (k : Counts). object_text k.object k.strong k.weak c.index.result.now (not c.is_alive.result) (slice_index_or c.args.given.now c.args.index false)) c.counts.ensures
    ∙ ap (λ k. object_text k (strong c.args.heap.now [] k) (weak c.args.heap.now [] k) c.index.result.now (not c.is_alive.result) (slice_index_or c.args.given.now c.args.index false)) c.object.ensures
    ∙ shown_line c.args.end.now c.args.heap.now c.args.shown.now c.args.given.now c.args.index c.index.result.now (not c.is_alive.result) (slice_index_or c.args.given.now c.args.index false) c.requires.within c.if-shown-index.true
    (get_or_read c.args.end.now.leaked.items c.args.index c.index.result.now (let inside : c.args.index < length c.args.end.now.leaked.items = omega (arith, c.requires.within, c.requires.ending.long) in inside) c.index.ensures false) (ap not c.is_alive.ensures) refl)
    c.push_object.ensures

pub returns-else-shown-index : goal.returns-else-shown-index
returns-else-shown-index c =
    hidden_line c.args.end.now.graph c.args.shown.now c.args.index (string_bytes c.args.text.now) (object_of c.args.end.now c.args.heap.now c.args.given.now (object_at c.args.end.now.graph c.args.index)) c.requires.within c.if-shown-index.false
