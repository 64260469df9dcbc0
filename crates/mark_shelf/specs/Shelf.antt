-- What a shelf is seen as, and what its calls do to it.
use Rattle.std.specs.Prelude.{◌≡◌, ◌⊎◌, ◌<◌, ◌&&◌, ℕ, ◌-◌, ◌+◌, ◌^◌, Bool, not, List, [], ◌∷◌, take, drop, length, filter, Contains, slice_get, nat_eq, is_some, Option, None, IfSome, option_and_then, if◌then◌else◌, refl}
use Rattle.std.specs.Option.{option_map_or}
use Rattle.std.specs.Map.{lookup, remove_entry, keys_of}
use Rattle.std.specs.Coded.{Coded, code_by, coded×, coded_ℕ, coded_list}
use Rattle.indexmap.specs.IndexMap.{insert_entry}
use Rattle.lru.specs.LruCache.{promoted}
use Rattle.trace_types.specs.Operation.{Operation}
use Rattle.op_step.specs.Chunk.{Chunk, chunk_code}
use Rattle.mark_shelf.specs.declared.names.ChunkName.{ChunkName}
use Rattle.mark_shelf.specs.contracts.names.ChunkName as name
use Rattle.mark_shelf.specs.Joints.{joint_behind, with_joint}

-- what is kept that serves a replay again, and how much of it there may be
pub record Shelf : Type 0 where
  -- the names of checkpoints, the one used last first
  pub marks : List ℕ
  -- chunks, the one used last first, each with its number
  pub chunks : List (ℕ × Chunk)
  -- the joints of chunks, the one used last first: a chunk's number, and that of the one behind which it is known to begin
  pub joints : List (ℕ × ℕ)
  -- the names of chunks, in the order in which they came, each with the number that it stands for
  pub names : List (ChunkName × ℕ)
  -- how many of each there may be
  pub most_marks : ℕ
  pub most_chunks : ℕ
  pub most_names : ℕ
  -- the number of the next chunk
  pub next : ℕ

-- by which a proof tells shelves apart
abbrev pub shelf_code : Coded Shelf
shelf_code = code_by (List ℕ × (List (ℕ × Chunk) × (List (ℕ × ℕ) × (List (ChunkName × ℕ) × (ℕ × (ℕ × (ℕ × ℕ)))))))
    (coded× (coded_list coded_ℕ) (coded× (coded_list (coded× coded_ℕ chunk_code)) (coded× (coded_list (coded× coded_ℕ coded_ℕ)) (coded× (coded_list (coded× name.the_row.coded coded_ℕ)) (coded× coded_ℕ (coded× coded_ℕ (coded× coded_ℕ coded_ℕ)))))))
    (λ s. (s.marks, (s.chunks, (s.joints, (s.names, (s.most_marks, (s.most_chunks, (s.most_names, s.next))))))))
    (λ p. record { marks = p.0; chunks = p.1.0; joints = p.1.1.0; names = p.1.1.1.0; most_marks = p.1.1.1.1.0; most_chunks = p.1.1.1.1.1.0; most_names = p.1.1.1.1.1.1.0; next = p.1.1.1.1.1.1.1 })
    (λ _. refl)

-- nothing, with room for so many checkpoints, chunks and names of chunks
abbrev pub empty_shelf : ℕ → ℕ → ℕ → Shelf
empty_shelf marks chunks names = record { marks = []; chunks = []; joints = []; names = []; most_marks = marks; most_chunks = chunks; most_names = names; next = 0 }

-- touch -------------------------------------------------------------------------------------------------------------

-- the name, and behind it the others in their order
abbrev pub in_front : ℕ → List ℕ → List ℕ
in_front id ids = id ∷ filter (λ other. not (nat_eq id other)) ids

-- the name comes first, and as many stay as there may be
abbrev pub touched : Shelf → ℕ → Shelf
touched s id = record s { marks = take s.most_marks (in_front id s.marks) }

-- the name for which there is no room then
abbrev pub dropped : Shelf → ℕ → Option ℕ
dropped s id = slice_get (in_front id s.marks) s.most_marks

-- what a touch of a name leaves and answers: want of memory, which a name that is there never meets, changes nothing
abbrev pub Touches : Shelf → ℕ → Shelf → Option ℕ → Type 0
Touches old id new answer = ((new ≡ touched old id) × (answer ≡ dropped old id)) ⊎ ((Contains old.marks id → ⊥) × (new ≡ old) × (answer ≡ None))

-- remember ----------------------------------------------------------------------------------------------------------

-- what a chunk with these operations goes by
abbrev pub name_of : List Operation → ChunkName
name_of ops = record { first = option_map_or (λ (o : Operation). o.id) (slice_get ops 0) 0; count = length ops }

-- whether two chunks go by one name
abbrev pub name_eq : ChunkName → ChunkName → Bool
name_eq m n = nat_eq m.first n.first && nat_eq m.count n.count

-- the last so many of a list
abbrev pub newest : {X : Type 0} → ℕ → List X → List X
newest most xs = drop (length xs - most) xs

-- the chunk comes first, under the next number, for which its name then stands: in its old place, or else as the last
abbrev pub remembered : Shelf → Chunk → Shelf
remembered s c = record s {
  chunks = take s.most_chunks ((s.next, c) ∷ s.chunks);
  names = newest s.most_names (insert_entry name_eq s.names (name_of c.ops) s.next);
  next = s.next + 1;
}

-- what is left with a chunk to remember: want of memory, or of a number below 2^64 - 1, loses the chunk and no more
abbrev pub Remembers : Shelf → Chunk → Shelf → Type 0
Remembers old c new = ((old.next < 2 ^ 64 - 1) × (new ≡ remembered old c)) ⊎ (new ≡ old)

-- join --------------------------------------------------------------------------------------------------------------

-- a joint, if there is one, comes first, in place of another of its chunk; as many stay as there may be chunks
abbrev pub noted : Shelf → Option (ℕ × ℕ) → Shelf
noted s joint = record s { joints = with_joint s.most_chunks s.joints joint }

-- what is left with a joint to note: want of memory, which a chunk that has a joint never meets, changes nothing
abbrev pub Notes : Shelf → Option (ℕ × ℕ) → Shelf → Type 0
Notes s joint new = (new ≡ noted s joint) ⊎ (IfSome joint (λ j. Contains (keys_of s.joints) j.0 → ⊥) × (new ≡ s))

-- what is left with a chunk to remember behind the one with a number, if there is one
abbrev pub RemembersBehind : Shelf → Chunk → Option ℕ → Shelf → Type 0
RemembersBehind old c before new = ((old.next < 2 ^ 64 - 1) × Notes (remembered old c) (joint_behind old.next old.next before) new) ⊎ (new ≡ old)

-- find --------------------------------------------------------------------------------------------------------------

-- the chunk that a name stands for
abbrev pub named : Shelf → ChunkName → Option Chunk
named s n = option_and_then (λ k. lookup (nat_eq k) s.chunks) (lookup (name_eq n) s.names)

-- the chunk with a number comes first, and so does its joint, or else the name, whose chunk is gone, goes
abbrev pub used : Shelf → ChunkName → ℕ → Shelf
used s n k = if is_some (lookup (nat_eq k) s.chunks) then record s { chunks = promoted (nat_eq k) s.chunks; joints = promoted (nat_eq k) s.joints } else record s { names = remove_entry (name_eq n) s.names }

-- what a look-up of a name leaves
abbrev pub sought : Shelf → ChunkName → Shelf
sought s n = option_map_or (used s n) (lookup (name_eq n) s.names) s
