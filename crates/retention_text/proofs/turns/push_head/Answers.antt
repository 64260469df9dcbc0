use Rattle.std.proofs.Common.{◌≡◌, List, ◌++◌, ℕ, ap, ap₂, ◌∙◌, append_assoc, string_bytes}
use Rattle.std.specs.Prelude.{codes, decimal}
use Rattle.trace_types.specs.Names.{name_text, name_of_kind}
use Rattle.retention_text.proofs.turns.push_head.Goals as goal

pieces : (t k a l b d m e : List ℕ) → ((((t ++ (k ++ a)) ++ l) ++ b) ++ (l ++ d)) ++ (m ++ e) ≡ t ++ (((((((k ++ a) ++ l) ++ b) ++ l) ++ d) ++ m) ++ e)
pieces t k a l b d m e = simp append_assoc

joined : (t s1 s2 s3 s4 s5 k a l b d m e : List ℕ) → s1 ≡ t ++ (k ++ a) → s2 ≡ s1 ++ l → s3 ≡ s2 ++ b → s4 ≡ s3 ++ (l ++ d) → s5 ≡ s4 ++ (m ++ e)
    → s5 ≡ t ++ (((((((k ++ a) ++ l) ++ b) ++ l) ++ d) ++ m) ++ e)
joined t s1 s2 s3 s4 s5 k a l b d m e p q r u v =
    v ∙ ap (λ x. x ++ (m ++ e)) (u ∙ ap (λ x. x ++ (l ++ d)) (r ∙ ap (λ x. x ++ b) (q ∙ ap (λ x. x ++ l) p))) ∙ pieces t k a l b d m e

pub returns : goal.returns
returns c =
    let x = c.args.marked.now in
    joined (string_bytes c.args.text.now) _ _ _ _ _ (codes "  ") (decimal c.id.result) (codes " ") (name_text c.name.result) (decimal x.strong) (codes "/") (decimal x.weak)
    c.in_ok-push_labelled.ensures.both c.in_ok-push_str.ensures.bytes c.in_ok-push_name.ensures.name c.in_ok-push_labelled-2.ensures.both c.in_ok-push_labelled-3.ensures.both
    ∙ ap₂ (λ i n. string_bytes c.args.text.now ++ (((((((codes "  " ++ decimal i) ++ codes " ") ++ name_text n) ++ codes " ") ++ decimal x.strong) ++ codes "/") ++ decimal x.weak))
    c.id.ensures.value (c.name.ensures ∙ ap name_of_kind c.kind.ensures)
