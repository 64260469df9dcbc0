-- Which chunks begin where others end.
use Rattle.std.specs.Prelude.{◌≡◌, ◌<◌, ◌&&◌, ℕ, Bool, false, nat_eq, nat_lt, is_some, List, Contains, Option, Some, None, option_and_then, if◌then◌else◌}
use Rattle.std.specs.Option.{option_map_or}
use Rattle.std.specs.Map.{lookup}
use Rattle.lru.specs.LruCache.{lru_cache, put_entries}
use Rattle.ownership_model.specs.State.{State}
use Rattle.ownership_model.specs.Step.{end_from}
use Rattle.op_step.specs.Chunk.{Chunk}

-- the chunk with a number, if it is there, ends with the state
abbrev pub EndsWith : List (ℕ × Chunk) → ℕ → State → Type 0
EndsWith chunks k state = (c : Chunk) → Contains chunks (k, c) → end_from c.start c.ops ≡ state

-- the chunk with the first number, if it is there, begins where the one with the second ends
pub record IsJoint (chunks : List (ℕ × Chunk)) (next : ℕ) (joint : ℕ × ℕ) : Type 0 where
  pub meets : (c : Chunk) → Contains chunks (joint.0, c) → EndsWith chunks joint.1 c.start
  -- both are below the number of the next chunk, which has no joint so far
  pub first : joint.0 < next
  pub second : joint.1 < next

-- each of these is one
abbrev pub AreJoints : List (ℕ × Chunk) → ℕ → List (ℕ × ℕ) → Type 0
AreJoints chunks next joints = (j : ℕ × ℕ) → Contains joints j → IsJoint chunks next j

-- the joint of the chunk with a number to the one before, if there is one and its number is below a bound
abbrev pub joint_behind : ℕ → ℕ → Option ℕ → Option (ℕ × ℕ)
joint_behind below n before = option_and_then (λ k. if nat_lt k below then Some (n, k) else None) before

-- the joints, at most so many, with one that comes first, in place of another of its chunk
abbrev pub with_joint : ℕ → List (ℕ × ℕ) → Option (ℕ × ℕ) → List (ℕ × ℕ)
with_joint most joints joint = option_map_or (λ j. put_entries nat_eq (lru_cache joints most) j.0 j.1) joint joints

-- whether the chunk with a number is joined to the one before, and that is there
abbrev pub is_joined : List (ℕ × Chunk) → List (ℕ × ℕ) → ℕ → Option ℕ → Bool
is_joined chunks joints n before = option_map_or (λ k. is_some (lookup (nat_eq k) chunks) && option_map_or (nat_eq k) (lookup (nat_eq n) joints) false) before false
