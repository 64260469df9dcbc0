-- Paths between the objects of a graph (graph theory: a path has one edge at least), and how a search of it, and the gathering of what leads
-- somewhere, go on (profile of this project).
use Rattle.std.specs.Prelude.{ℕ, ◌≡◌, ◌+◌, ◌<◌, ◌≤◌, ◌||◌, ◌⊎◌, not, List, [], ◌∷◌, ◌++◌, length, Option, Some, None, Bool, true, false, slice_index, slice_index_or, slice_set, if◌then◌else◌}
use Rattle.std.specs.List.{count_by}
use Rattle.ownership_model.specs.Reach.{has}
use Rattle.retention.specs.declared.graph.Graph.{Graph}
use Rattle.retention.specs.Graph.{size, holds, start_at, IsFieldAt}

-- a field of i holds j
abbrev pub Points : Graph → ℕ → ℕ → Type 0
Points g i j = (p : ℕ) × IsFieldAt g i p × (holds g p ≡ Some j)

-- one edge after the other leads from a to b, past these objects
abbrev pub Chain : (ℕ → ℕ → Type 0) → ℕ → List ℕ → ℕ → Type 0
Chain Edge a [] b = Edge a b
Chain Edge a (c ∷ cs) b = Edge a c × Chain Edge c cs b

abbrev pub Path : (ℕ → ℕ → Type 0) → ℕ → ℕ → Type 0
Path Edge a b = (cs : List ℕ) × Chain Edge a cs b

-- both are in one component
abbrev pub Same : (ℕ → ℕ → Type 0) → ℕ → ℕ → Type 0
Same Edge a b = (a ≡ b) ⊎ (Path Edge a b × Path Edge b a)

-- whether an object is marked
abbrev pub marked : List Bool → ℕ → Bool
marked marks i = slice_index_or marks i false

-- an object more, if there is one and it is not marked; and the marks then
abbrev pub with_member : Option ℕ → List Bool → List ℕ → List ℕ
with_member None marks members = members
with_member (Some i) marks members = if marked marks i then members else members ++ i ∷ []

abbrev pub with_mark : Option ℕ → List Bool → List Bool
with_mark None marks = marks
with_mark (Some i) marks = if marked marks i then marks else slice_set marks i true

-- The order in which a search leaves objects: where u leads to v, some object of the component of u is v or is left after v
pub record IsLeavingOrder (Edge : ℕ → ℕ → Type 0) (objects : ℕ) (order : List ℕ) : Type 0 where
  pub all : (x : ℕ) → x < objects → has x order ≡ true
  pub within : (k : ℕ) → k < length order → slice_index order k < objects
  pub last : (u v k : ℕ) → u < objects → Path Edge u v → k < length order → slice_index order k ≡ v → (w : ℕ) × Same Edge w u × ((j : ℕ) × (k ≤ j) × (j < length order) × (slice_index order j ≡ w))

-- w is on the path, or was left as the k-th or later
abbrev pub IsBehind : List ℕ → List ℕ → ℕ → ℕ → Type 0
IsBehind path order k w = (has w path ≡ true) ⊎ ((j : ℕ) × (k ≤ j) × (j < length order) × (slice_index order j ≡ w))

-- A depth-first search: the objects that it has seen, those on the path from where it began to where it is, and those that it has left
pub record IsSearching (Edge : ℕ → ℕ → Type 0) (objects : ℕ) (seen : List Bool) (path order : List ℕ) : Type 0 where
  pub long : length seen ≡ objects
  pub within : (x : ℕ) → marked seen x ≡ true → x < objects
  pub path_seen : (x : ℕ) → has x path ≡ true → marked seen x ≡ true
  pub order_seen : (x : ℕ) → has x order ≡ true → marked seen x ≡ true
  pub either : (x : ℕ) → marked seen x ≡ true → (has x path || has x order) ≡ true
  pub apart : (x : ℕ) → has x path ≡ true → has x order ≡ false
  pub chain : (i j : ℕ) → i < j → j < length path → Path Edge (slice_index path i) (slice_index path j)
  pub distinct : (i j : ℕ) → i < j → j < length path → slice_index path i ≡ slice_index path j → ⊥
  pub done : (x y : ℕ) → has x order ≡ true → Edge x y → marked seen y ≡ true
  pub led : (u y : ℕ) → has u order ≡ true → has y order ≡ false → Path Edge u y → (w : ℕ) × (has w path ≡ true) × Same Edge w u
  pub last : (u v k : ℕ) → has u order ≡ true → Path Edge u v → k < length order → slice_index order k ≡ v → (w : ℕ) × Same Edge w u × IsBehind path order k w

-- how many fields of each object the search has still to go through
pub record AreLeft (g : Graph) (seen : List Bool) (left : List ℕ) : Type 0 where
  pub long : length left ≡ size g
  pub few : (x : ℕ) → x < size g → start_at g x + slice_index left x ≤ start_at g (x + 1)
  pub passed : (x p y : ℕ) → x < size g → start_at g x ≤ p → p + slice_index left x < start_at g (x + 1) → holds g p ≡ Some y → marked seen y ≡ true

-- Gathered are the first objects, and each that leads to one of them, up to those that were marked before
pub record IsGathered (Edge : ℕ → ℕ → Type 0) (begin : List ℕ) (before : List Bool) (all : List ℕ) (after : List Bool) : Type 0 where
  pub long : length after ≡ length before
  pub first : (z : ℕ) → has z begin ≡ true → has z all ≡ true
  pub leads : (z : ℕ) → has z all ≡ true → (has z begin ≡ true) ⊎ ((marked before z ≡ false) × ((y : ℕ) × (has y begin ≡ true) × Path Edge z y))
  pub closed : (a b : ℕ) → Edge a b → has b all ≡ true → marked after a ≡ true
  pub marks : (z : ℕ) → marked after z ≡ (marked before z || has z all)

-- Of one member, what leads to it by one edge has joined
pub record IsJoined (Edge : ℕ → ℕ → Type 0) (member : ℕ) (members : List ℕ) (before : List Bool) (members' : List ℕ) (after : List Bool) : Type 0 where
  pub long : length after ≡ length before
  pub kept : (i : ℕ) → i < length members → (i < length members') × (slice_index members' i ≡ slice_index members i)
  pub new : (z : ℕ) → has z members' ≡ true → (has z members ≡ true) ⊎ ((marked before z ≡ false) × Edge z member)
  pub all : (a : ℕ) → Edge a member → marked after a ≡ true
  pub marks : (z : ℕ) → marked after z ≡ (marked before z || has z members')
  pub count : count_by not after + length members' ≡ count_by not before + length members

-- The members of a component get its least object; the others keep what they have
pub record IsNamed (members : List ℕ) (before after : List ℕ) : Type 0 where
  pub long : length after ≡ length before
  pub least : ℕ
  pub one : has least members ≡ true
  pub lowest : (z : ℕ) → has z members ≡ true → least ≤ z
  pub here : (z : ℕ) → has z members ≡ true → slice_index after z ≡ least
  pub others : (z : ℕ) → has z members ≡ false → slice_index after z ≡ slice_index before z

-- The components of the marked objects, which are whole components: those of all objects that the search left as the k-th or later
pub record ArePartsFrom (Edge : ℕ → ℕ → Type 0) (objects : ℕ) (order : List ℕ) (k : ℕ) (marks : List Bool) (parts : List ℕ) : Type 0 where
  pub marks_long : length marks ≡ objects
  pub parts_long : length parts ≡ objects
  pub closed : (x y : ℕ) → marked marks x ≡ true → Same Edge x y → marked marks y ≡ true
  pub behind : (j : ℕ) → k ≤ j → j < length order → marked marks (slice_index order j) ≡ true
  pub least : (x : ℕ) → marked marks x ≡ true → (slice_index parts x ≤ x) × Same Edge x (slice_index parts x) × (marked marks (slice_index parts x) ≡ true)
  pub same : (x y : ℕ) → marked marks x ≡ true → marked marks y ≡ true → slice_index parts x ≡ slice_index parts y → Same Edge x y
  pub all : (x y : ℕ) → marked marks x ≡ true → marked marks y ≡ true → Same Edge x y → slice_index parts x ≡ slice_index parts y
