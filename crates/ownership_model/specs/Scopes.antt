-- The scopes of threads: each handle that is held stands in the scope of the label of the operation that made it, in which
-- making stands for declaration. When control leaves a scope, its variables are dropped in reverse order of declaration (Rust
-- Reference, Destructors). That a label is one such scope is a profile of this project.
use Rattle.std.specs.Prelude.{ℕ, ◌+◌, ◌==◌, ◌≤◌, nat_le, List, [], ◌∷◌, Option, Some, None, not, if◌then◌else◌, filter}
use Rattle.trace_types.specs.declared.slots.Scoped.{Scoped}
use Rattle.trace_types.specs.declared.slots.Holding.{Holding}

-- All scopes stand in one list: by label, and within one the handle that was made last comes first. So two such lists are equal
-- where the scopes of each label are.

-- the handles of a label's scope, the last made first: in this order they are dropped
abbrev pub scope_of : ℕ → List Scoped → List ℕ
scope_of t [] = []
scope_of t (s ∷ ss) = if s.label == t then s.handle ∷ scope_of t ss else scope_of t ss

-- a handle that is made enters the scope of the label, before all that were made earlier
abbrev pub entered : ℕ → ℕ → List Scoped → List Scoped
entered t h [] = record { label = t; handle = h } ∷ []
entered t h (s ∷ ss) = if nat_le t s.label then record { label = t; handle = h } ∷ s ∷ ss else s ∷ entered t h ss

-- a handle that is set enters where it was not held; else it keeps its place
abbrev pub kept_or_entered : Option Holding → ℕ → ℕ → List Scoped → List Scoped
kept_or_entered None t h ss = entered t h ss
kept_or_entered (Some x) t h ss = ss

-- a handle that ends leaves its scope
abbrev pub left : ℕ → List Scoped → List Scoped
left h ss = filter (λ s. not (s.handle == h)) ss

-- how often a handle stands in scopes
abbrev pub times_in : ℕ → List Scoped → ℕ
times_in h [] = 0
times_in h (s ∷ ss) = (if s.handle == h then 1 else 0) + times_in h ss

-- the labels never fall, and the first is not below t
abbrev pub AreFrom : ℕ → List Scoped → Type 0
AreFrom t [] = Unit {0}
AreFrom t (s ∷ ss) = (t ≤ s.label) × AreFrom s.label ss

-- how often a handle is to stand there: once where it is held, else never
abbrev pub times_held : Option Holding → ℕ
times_held None = 0
times_held (Some x) = 1
