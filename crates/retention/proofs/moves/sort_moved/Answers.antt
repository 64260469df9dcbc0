use Rattle.std.proofs.Common.{rules}
use Rattle.std.proofs.lemmas.Fn.{always_returns_same}
use Rattle.std.proofs.lemmas.Result.{on_ok_weaker}
use Rattle.std.specs.Prelude.{◌≡◌, ℕ}
use Rattle.retention_model.specs.declared.mark.Moved.{Moved}
use Rattle.retention_model.specs.Places.{kind_of, owner_of, rank_of}
use Rattle.retention.proofs.PlaceLemmas.{at_sorted}
use Rattle.retention.proofs.moves.sort_moved.Goals as goal

key : Moved → ℕ × ℕ × ℕ
key x = (kind_of x.place, owner_of x.place, rank_of x.place)

pub returns-clause-each : goal.returns-clause-each
unfolding key
returns-clause-each c =
    let stable = c.sort_by_key.ensures.stable key (always_returns_same _ (λ a r. r ≡ key a.0.now) _ (λ a r q k. search rules)) in
    on_ok_weaker c.sort_by_key.result (λ _. at_sorted _ _ stable) c.sort_by_key.ensures.sorted

pub returns-clause-in_order : goal.returns-clause-in_order
unfolding key
returns-clause-in_order c =
    on_ok_weaker c.sort_by_key.result (λ sorted. sorted key (always_returns_same _ (λ a r. r ≡ key a.0.now) _ (λ a r q k. search rules))) c.sort_by_key.ensures.sorted
