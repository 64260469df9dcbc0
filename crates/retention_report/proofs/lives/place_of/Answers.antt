use Rattle.std.proofs.Common.{rules}
use Rattle.std.proofs.lemmas.List.Sorted.{answers_always}
use Rattle.retention_report.proofs.SearchLemmas.{placed}
use Rattle.retention_report.proofs.lives.place_of.Goals as goal

pub returns : goal.returns
returns c =
    let by_key = c.binary_search_by_key.ensures.position (λ l. l.object) (answers_always _ _ _ (λ f a r g called. search rules)) in
    placed c.args.object c.args.lives.now _ _ c.requires c.ok.ensures.value c.binary_search_by_key.ensures.bound by_key
