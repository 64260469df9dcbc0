use Rattle.std.proofs.Common.{Some}
use Rattle.chunk_workers.proofs.Found.{found_set}
use Rattle.chunk_workers.proofs.places.place.Goals as goal

pub returns : goal.returns
returns c = found_set c.args.jobs.now c.args.found.now.items c.args.done.job (Some c.args.done.chunk) c.requires.done c.requires.found
