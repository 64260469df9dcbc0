use Rattle.std.proofs.Common.{rules, sym, subst}
use Rattle.std.specs.List.{All}
use Rattle.std.proofs.lemmas.List.Elements.{All-push}
use Rattle.chunk_workers.specs.Chunks.{IsOfJob}
use Rattle.chunk_workers.proofs.worker.keep.Goals as goal

pub returns : goal.returns
returns c =
    let P = IsOfJob c.args.jobs.now in
    let one : P c.in-Some.one = search rules in
    let before : All P c.reserve.new.self.items = subst (All P) (sym c.reserve.ensures.items) c.requires.done in
    subst (All P) (sym c.push_reserved.ensures.items) (All-push P _ _ before one)
