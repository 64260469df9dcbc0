-- Chunks that a shelf had.
use Rattle.std.proofs.Common.{◌≡◌, ℕ, Bool, true, false, List, nat_eq, ◌∙◌, refl, subst, inl, inr}
use Rattle.std.specs.Prelude.{Contains, Option, Some, None, is_some, if◌then◌else◌}
use Rattle.std.specs.Option.{option_map_or}
use Rattle.std.specs.Map.{lookup}
use Rattle.trace_types.specs.Operation.{Operation}
use Rattle.ownership_model.specs.State.{State}
use Rattle.op_step.specs.Chunk.{Chunk}
use Rattle.mark_shelf.specs.Shelf.{Shelf, used, sought, name_eq, Notes}
use Rattle.mark_shelf.specs.declared.names.ChunkName.{ChunkName}
use Rattle.run_engine.specs.Memo.{IsAmong, HasSameMarks, IsSearched}

pub IsAmong-found : (chunks : List (ℕ × Chunk)) (c : Chunk) (start : State) (ops : List Operation) → c.start ≡ start → c.ops ≡ ops → (k : ℕ) × Contains chunks (k, c) → IsAmong chunks start ops
IsAmong-found chunks c start ops begins goes h =
    let same : c ≡ record { start = start; ops = ops } = λ i. record { start = begins i; ops = goes i } in
    (h.0, subst (λ (d : Chunk). Contains chunks (h.0, d)) same h.1)

pub HasSameMarks-next : (a b c : Shelf) → HasSameMarks a b → HasSameMarks b c → HasSameMarks a c
HasSameMarks-next a b c h k = record { marks = k.marks ∙ h.marks; most_marks = k.most_marks ∙ h.most_marks; most_chunks = k.most_chunks ∙ h.most_chunks; most_names = k.most_names ∙ h.most_names }

-- a look-up changes no name of a checkpoint, and no room
either : (s a b : Shelf) (t : Bool) → HasSameMarks s a → HasSameMarks s b → HasSameMarks s (if t then a else b)
either s a b true h k = h
either s a b false h k = k

sought-marks : (s : Shelf) (n : ChunkName) (o : Option ℕ) → HasSameMarks s (option_map_or (used s n) o s)
sought-marks s n None = record { marks = refl; most_marks = refl; most_chunks = refl; most_names = refl }
sought-marks s n (Some k) = either s _ _ (is_some (lookup (nat_eq k) s.chunks)) (record { marks = refl; most_marks = refl; most_chunks = refl; most_names = refl }) (record { marks = refl; most_marks = refl; most_chunks = refl; most_names = refl })

pub IsSearched-sought : (s : Shelf) (n : ChunkName) → ((e : ℕ × Chunk) → Contains (sought s n).chunks e → Contains s.chunks e) → IsSearched s (sought s n)
IsSearched-sought s n fewer = record { same_marks = sought-marks s n (lookup (name_eq n) s.names); fewer = fewer }

pub IsSearched-none : (s : Shelf) → IsSearched s s
IsSearched-none s = record { same_marks = record { marks = refl; most_marks = refl; most_chunks = refl; most_names = refl }; fewer = λ e h. h }

pub IsSearched-next : (a b c : Shelf) → IsSearched a b → IsSearched b c → IsSearched a c
IsSearched-next a b c h k = record {
  same_marks = HasSameMarks-next a b c h.same_marks k.same_marks;
  fewer = λ e m. h.fewer e (k.fewer e m);
}

-- nor does a joint that is noted
IsSearched-noted : (s new : Shelf) (joint : Option (ℕ × ℕ)) → Notes s joint new → IsSearched s new
IsSearched-noted s new joint h = elim h [
  | inl is ↦ rw is (record { same_marks = record { marks = refl; most_marks = refl; most_chunks = refl; most_names = refl }; fewer = λ e m. m })
  | inr same ↦ rw same.1 (IsSearched-none s)
]

-- so it is with what a look-up leaves
pub IsSearched-found : (s : Shelf) (n : ChunkName) → ((e : ℕ × Chunk) → Contains (sought s n).chunks e → Contains s.chunks e) → (joint : Option (ℕ × ℕ)) (new : Shelf) → Notes (sought s n) joint new → IsSearched s new
IsSearched-found s n fewer joint new h = IsSearched-next s (sought s n) new (IsSearched-sought s n fewer) (IsSearched-noted (sought s n) new joint h)
