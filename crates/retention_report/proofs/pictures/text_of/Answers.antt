use Rattle.std.proofs.Common.{◌∙◌, ◌<◌, ℕ, List, sym, subst, string_bytes}
use Rattle.std.specs.List.{All}
use Rattle.retention.specs.Graph.{size}
use Rattle.retention_report.proofs.GivenLemmas.{indices_within, drawn_told}
use Rattle.retention_report.proofs.pictures.text_of.Goals as goal

pub marks_of-requires : goal.marks_of-requires
marks_of-requires c =
    subst (λ (n : ℕ). All (λ i. i < n) c.deref.result.now) (sym c.len.ensures)
    (subst (λ (xs : List ℕ). All (λ i. i < size c.args.end.now.graph) xs) (sym (c.deref.ensures.value ∙ c.in_ok-indices.ensures)) (indices_within c.args.end.now.graph c.args.objects.now))

pub shown_in-requires : goal.shown_in-requires
shown_in-requires c = record {
  ending = c.requires;
  within = subst (λ (xs : List ℕ). All (λ i. i < size c.args.end.now.graph) xs) (sym (c.deref-2.ensures.value ∙ c.in_ok-indices.ensures)) (indices_within c.args.end.now.graph c.args.objects.now);
}

pub returns : goal.returns
returns c =
    drawn_told c.args.with_all c.args.heap.now c.args.end.now c.args.objects.now c.deref.result.now c.deref-2.result.now c.in_ok-shown.shown.items c.in_ok-given.given.items c.deref-3.result.now c.deref-4.result.now _ (string_bytes c.new-text.result)
    (c.deref.ensures.value ∙ c.in_ok-indices.ensures) (c.deref-2.ensures.value ∙ c.in_ok-indices.ensures) c.in_ok-shown.ensures.long c.in_ok-shown.ensures.each c.in_ok-given.ensures.each
    c.deref-3.ensures.value c.deref-4.ensures.value c.new-text.ensures.bytes c.in_ok-push_drawing.ensures
