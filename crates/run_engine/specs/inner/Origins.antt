-- By what a replay comes to where it stands.
use Rattle.std.specs.Prelude.{ℕ, Option, Some, None}
use Rattle.std.specs.Option.{option_map_or}
use Rattle.ownership_model.specs.State.{State}
use Rattle.ownership_model.specs.Step.{end_from}
use Rattle.op_step.specs.Chunk.{Chunk}
use Rattle.run_engine.specs.declared.replay.origin.Origin.{Origin}
use Rattle.run_engine.specs.declared.replay.origin.Origin.TheVariants.{Old, Stepped, Shelf}
use Rattle.run_engine.specs.declared.replay.origin.Behind.{Behind}
use Rattle.run_engine.specs.declared.replay.origin.Behind.TheVariants as behind

-- the chunk that was stepped, if one was
abbrev pub stepped_chunk : Origin → Option Chunk
stepped_chunk Old = None
stepped_chunk (Stepped chunk) = Some chunk
stepped_chunk (Shelf number) = None

-- what ends where the replay stands then
abbrev pub behind_of : Origin → Behind
behind_of Old = behind.Nothing
behind_of (Stepped chunk) = behind.Stepped
behind_of (Shelf number) = behind.Shelf number

-- the number of the shelf's chunk, if it is one
abbrev pub shelf_number : Behind → Option ℕ
shelf_number behind.Nothing = None
shelf_number behind.Stepped = None
shelf_number (behind.Shelf number) = Some number

-- where the last of the stepped chunks ends then, where they ended at a state before
abbrev pub end_behind : Option State → Origin → Option State
end_behind before origin = option_map_or (λ (c : Chunk). Some (end_from c.start c.ops)) (stepped_chunk origin) before
