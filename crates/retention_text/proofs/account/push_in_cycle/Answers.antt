use Rattle.std.proofs.Common.{◌≡◌, List, ◌++◌, ℕ, ap, ◌∙◌, append_assoc, string_bytes}
use Rattle.std.specs.Prelude.{codes, decimal}
use Rattle.retention_text.specs.Accounts.{through_text}
use Rattle.retention_text.proofs.account.push_in_cycle.Goals as goal

pieces : (t k l m a b c : List ℕ) → (((t ++ (k ++ a)) ++ (l ++ b)) ++ m) ++ c ≡ t ++ (((((k ++ a) ++ l) ++ b) ++ m) ++ c)
pieces t k l m a b c = simp append_assoc

joined : (t s1 s2 s3 s4 k l m a b c : List ℕ) → s1 ≡ t ++ (k ++ a) → s2 ≡ s1 ++ (l ++ b) → s3 ≡ s2 ++ m → s4 ≡ s3 ++ c → s4 ≡ t ++ (((((k ++ a) ++ l) ++ b) ++ m) ++ c)
joined t s1 s2 s3 s4 k l m a b c p q r u = u ∙ ap (λ x. x ++ c) (r ∙ ap (λ x. x ++ m) (q ∙ ap (λ x. x ++ (l ++ b)) p)) ∙ pieces t k l m a b c

pub returns : goal.returns
returns c =
    joined (string_bytes c.args.text.now) _ _ _ _ (codes "  leaked since ") (codes " in a cycle among ") (codes " objects\n") (decimal c.args.since) (decimal c.args.size) (through_text c.args.way.now)
    c.in_ok-push_labelled.ensures.both c.in_ok-push_labelled-2.ensures.both c.in_ok-push_str.ensures.bytes c.in_ok-push_through.ensures
