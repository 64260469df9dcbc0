use Rattle.std.proofs.Common.{◌≡◌, List, ◌++◌, ℕ, ap, ◌∙◌, append_assoc, string_bytes}
use Rattle.std.specs.Prelude.{codes, decimal}
use Rattle.retention_text.specs.Accounts.{through_text, owner_text}
use Rattle.retention_text.proofs.account.push_under.Goals as goal

pieces : (t k l m a b c : List ℕ) → ((((t ++ (k ++ a)) ++ l) ++ b) ++ m) ++ c ≡ t ++ ((((k ++ a) ++ l) ++ b) ++ (m ++ c))
pieces t k l m a b c = simp append_assoc

joined : (t s1 s2 s3 s4 s5 k l m a b c : List ℕ) → s1 ≡ t ++ (k ++ a) → s2 ≡ s1 ++ l → s3 ≡ s2 ++ b → s4 ≡ s3 ++ m → s5 ≡ s4 ++ c → s5 ≡ t ++ ((((k ++ a) ++ l) ++ b) ++ (m ++ c))
joined t s1 s2 s3 s4 s5 k l m a b c p q r u v = v ∙ ap (λ x. x ++ c) (u ∙ ap (λ x. x ++ m) (r ∙ ap (λ x. x ++ b) (q ∙ ap (λ x. x ++ l) p))) ∙ pieces t k l m a b c

pub returns : goal.returns
returns c =
    joined (string_bytes c.args.text.now) _ _ _ _ _ (codes "  leaked since ") (codes " under ") (codes "\n") (decimal c.args.since) (owner_text c.args.way.now) (through_text c.args.way.now)
    c.in_ok-push_labelled.ensures.both c.in_ok-push_str.ensures.bytes c.in_ok-push_owner.ensures c.in_ok-push_str-2.ensures.bytes c.in_ok-push_through.ensures
