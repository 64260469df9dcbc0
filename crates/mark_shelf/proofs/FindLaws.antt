-- What a look-up finds, and what it leaves.
use Rattle.std.proofs.Common.{◌≡◌, ℕ, Bool, true, false, nat_eq}
use Rattle.std.specs.Prelude.{Option, Some, None, Contains, is_some, option_and_then, if◌then◌else◌}
use Rattle.std.specs.Option.{option_map_or}
use Rattle.std.specs.Map.{lookup, remove_entry}
use Rattle.lru.specs.LruCache.{promoted}
use Rattle.lru.proofs.CallerLemmas.{Contains-lookup, Contains-promoted}
use Rattle.op_step.specs.Chunk.{Chunk}
use Rattle.mark_shelf.specs.declared.names.ChunkName.{ChunkName}
use Rattle.mark_shelf.specs.Shelf.{Shelf, name_eq, named, sought, used}

there : (s : Shelf) (c : Chunk) (o : Option ℕ) → option_and_then (λ k. lookup (nat_eq k) s.chunks) o ≡ Some c → (k : ℕ) × Contains s.chunks (k, c)
there s c None h = cc
there s c (Some k) h = let e = Contains-lookup (nat_eq k) s.chunks c h in (e.0, e.1)

pub named-there-law : (s : Shelf) (n : ChunkName) (c : Chunk) → named s n ≡ Some c → (k : ℕ) × Contains s.chunks (k, c)
named-there-law s n c h = there s c (lookup (name_eq n) s.names) h

used-fewer : (s : Shelf) (n : ChunkName) (k : ℕ) (e : ℕ × Chunk) (b : Bool)
    → Contains (if b then record s { chunks = promoted (nat_eq k) s.chunks; joints = promoted (nat_eq k) s.joints } else record s { names = remove_entry (name_eq n) s.names }).chunks e → Contains s.chunks e
used-fewer s n k e true h = Contains-promoted (nat_eq k) s.chunks e h
used-fewer s n k e false h = h

sought-fewer : (s : Shelf) (n : ChunkName) (e : ℕ × Chunk) (o : Option ℕ) → Contains (option_map_or (used s n) o s).chunks e → Contains s.chunks e
sought-fewer s n e None h = h
sought-fewer s n e (Some k) h = used-fewer s n k e (is_some (lookup (nat_eq k) s.chunks)) h

pub sought-fewer-law : (s : Shelf) (n : ChunkName) (e : ℕ × Chunk) → Contains (sought s n).chunks e → Contains s.chunks e
sought-fewer-law s n e h = sought-fewer s n e (lookup (name_eq n) s.names) h
