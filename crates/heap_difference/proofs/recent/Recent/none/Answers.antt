use Rattle.std.proofs.Common.{◌≡◌, ◌∙◌, ap, arith, ℕ, ◌+◌, ◌%◌, ◌<◌, false}
use Rattle.std.specs.Prelude.{◌==◌}
use Rattle.std.proofs.lemmas.Bool.Decides.{nat_tests}
use Rattle.std.proofs.lemmas.List.{get_or-replicate}
use Rattle.heap_difference.proofs.recent.Recent.none.Goals as goal

-- no handle's number and one is 0
none_there : (h : ℕ) → (0 == h + 1) ≡ false
none_there h = grind (arith, nat_tests)

pub returns : goal.returns
returns c h =
    let within : h % 256 < 256 = omega arith in
    ap (λ x. x == h + 1) (get_or-replicate 256 (h % 256) 0 0 within) ∙ none_there h
