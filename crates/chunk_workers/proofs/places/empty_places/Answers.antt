use Rattle.std.proofs.Common.{rules, ◌≡◌, length}
use Rattle.chunk_workers.proofs.Found.{found_none}
use Rattle.chunk_workers.proofs.places.empty_places.Goals as goal

pub returns : goal.returns
returns c =
    let all : length c.loop.places.items ≡ length c.args.jobs.now = search rules in
    found_none c.args.jobs.now c.loop.places.items all c.loop.invariant.none
