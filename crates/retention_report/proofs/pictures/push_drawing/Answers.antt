use Rattle.std.proofs.Common.{◌≡◌, List, ◌++◌, ℕ, ap, ◌∙◌, append_assoc, string_bytes}
use Rattle.std.specs.Prelude.{codes}
use Rattle.retention_text.specs.Pictures.{head_text}
use Rattle.retention_report.specs.Drawn.{roots_text, objects_text, edges_text}
use Rattle.retention_report.proofs.pictures.push_drawing.Goals as goal

pieces : (t a r o d z : List ℕ) → ((((t ++ a) ++ r) ++ o) ++ d) ++ z ≡ t ++ ((((a ++ r) ++ o) ++ d) ++ z)
pieces t a r o d z = simp append_assoc

joined : (t s1 s2 s3 s4 s5 a r o d z : List ℕ) → s1 ≡ t ++ a → s2 ≡ s1 ++ r → s3 ≡ s2 ++ o → s4 ≡ s3 ++ d → s5 ≡ s4 ++ z → s5 ≡ t ++ ((((a ++ r) ++ o) ++ d) ++ z)
joined t s1 s2 s3 s4 s5 a r o d z p q u v w =
    w ∙ ap (λ x. x ++ z) (v ∙ ap (λ x. x ++ d) (u ∙ ap (λ x. x ++ o) (q ∙ ap (λ x. x ++ r) p))) ∙ pieces t a r o d z

pub returns : goal.returns
returns c = (
  c.totals-totals.result,
  c.totals-totals.ensures,
  joined (string_bytes c.args.text.now) _ _ _ _ _ (head_text c.totals-totals.result) (roots_text c.args.end.now.graph c.args.shown.now) (objects_text c.args.end.now c.args.heap.now c.args.shown.now c.args.given.now) (edges_text c.args.end.now c.args.shown.now) (codes "}\n")
      c.in_ok-push_head.ensures c.in_ok-push_roots.ensures c.in_ok-push_objects.ensures c.in_ok-push_edges.ensures c.in_ok-push_str.ensures.bytes,
)
