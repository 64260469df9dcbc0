use Rattle.std.proofs.Common.{◌≡◌, List, ◌++◌, ℕ, ap, ◌∙◌, append_assoc, string_bytes}
use Rattle.std.specs.Prelude.{codes, decimal}
use Rattle.retention_text.proofs.nodes.push_counts.Goals as goal

pieces : (t k l m n z a b c : List ℕ) → ((((t ++ (k ++ a)) ++ (l ++ a)) ++ (m ++ b)) ++ (n ++ c)) ++ z ≡ t ++ ((((((((k ++ a) ++ l) ++ a) ++ m) ++ b) ++ n) ++ c) ++ z)
pieces t k l m n z a b c = simp append_assoc

joined : (t s1 s2 s3 s4 s5 k l m n z a b c : List ℕ) → s1 ≡ t ++ (k ++ a) → s2 ≡ s1 ++ (l ++ a) → s3 ≡ s2 ++ (m ++ b) → s4 ≡ s3 ++ (n ++ c) → s5 ≡ s4 ++ z
    → s5 ≡ t ++ ((((((((k ++ a) ++ l) ++ a) ++ m) ++ b) ++ n) ++ c) ++ z)
joined t s1 s2 s3 s4 s5 k l m n z a b c p q r u v =
    v ∙ ap (λ x. x ++ z) (u ∙ ap (λ x. x ++ (n ++ c)) (r ∙ ap (λ x. x ++ (m ++ b)) (q ∙ ap (λ x. x ++ (l ++ a)) p))) ∙ pieces t k l m n z a b c

pub returns : goal.returns
returns c =
    joined (string_bytes c.args.text.now) _ _ _ _ _ (codes "  o") (codes " [label=\"#") (codes "\\n") (codes "/") (codes "\"") (decimal c.args.counts.object) (decimal c.args.counts.strong) (decimal c.args.counts.weak)
    c.in_ok-push_labelled.ensures.both c.in_ok-push_labelled-2.ensures.both c.in_ok-push_labelled-3.ensures.both c.in_ok-push_labelled-4.ensures.both c.in_ok-push_str.ensures.bytes
