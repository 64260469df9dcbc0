use Rattle.std.proofs.Common.{rules, ◌≡◌, ◌<◌, ◌∙◌, Option, Some, length, get_or, ap, arith}
use Rattle.std.specs.Prelude.{slice_get}
use Rattle.std.proofs.lemmas.Option.{slice_get-get_or}
use Rattle.op_step.specs.Chunk.{Chunk}
use Rattle.chunk_workers.proofs.Found.{found_at}
use Rattle.chunk_workers.proofs.places.taken.Goals as goal

pub returns-clause-chunk : goal.returns-clause-chunk
returns-clause-chunk c =
    let found = c.args.found.now.items in
    let i = c.args.i in
    let old = c.index_mut.result.now in
    let within : i < length found = omega (arith, c.requires.i, c.requires.found.all) in
    let is : get_or found i old ≡ c.take.result = search rules in
    found_at c.args.jobs.now found i c.take.result (slice_get-get_or found i old within ∙ ap (λ (o : Option Chunk). Some o) is) c.requires.found
