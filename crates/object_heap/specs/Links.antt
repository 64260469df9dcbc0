-- How a heap holds the scopes of threads: each handle that is held has its label and its neighbours, and each label the handle
-- that was made last.
use Rattle.std.specs.Prelude.{ℕ, zero, suc, ◌≡◌, ◌==◌, ◌≤◌, nat_le, List, [], ◌∷◌, ◌++◌, map, Option, Some, None, if◌then◌else◌}
use Rattle.std.specs.Ordering.{nat_cmp}
use Rattle.std.specs.FinMap.{FinMap, get, insert, remove, entries, len}
use Rattle.trace_types.specs.declared.slots.Scoped.{Scoped}
use Rattle.ownership_model.specs.Scopes.{scope_of, times_in, AreFrom}
use Rattle.object_heap.specs.declared.place.Place.{Place}

-- the first of handles, if there is one
abbrev pub first_of : List ℕ → Option ℕ
first_of [] = None
first_of (h ∷ hs) = Some h

-- the handle that was made before this one, of those still in its scope
abbrev pub earlier_in : ℕ → List Scoped → Option ℕ
earlier_in h [] = None
earlier_in h (s ∷ ss) = if s.handle == h then first_of (scope_of s.label ss) else earlier_in h ss

-- the label in whose scope the handle stands
abbrev pub label_in : ℕ → List Scoped → Option ℕ
label_in h [] = None
label_in h (s ∷ ss) = if s.handle == h then Some s.label else label_in h ss

-- the handles under this one in its scope, those made before it, the last made first
abbrev pub under : ℕ → List Scoped → List ℕ
under h [] = []
under h (s ∷ ss) = if s.handle == h then scope_of s.label ss else under h ss

-- a handle put into a list just before another one, or at its end
abbrev pub put_above : Option ℕ → ℕ → List ℕ → List ℕ
put_above None h xs = xs ++ h ∷ []
put_above (Some b) h [] = h ∷ []
put_above (Some b) h (x ∷ xs) = if x == b then h ∷ x ∷ xs else x ∷ put_above (Some b) h xs

-- a handle enters the scope of the label just above another one that stands there, or at its end
abbrev pub entered_above : ℕ → ℕ → Option ℕ → List Scoped → List Scoped
entered_above t h None [] = record { label = t; handle = h } ∷ []
entered_above t h None (s ∷ ss) = if nat_le s.label t then s ∷ entered_above t h None ss else record { label = t; handle = h } ∷ s ∷ ss
entered_above t h (Some b) [] = record { label = t; handle = h } ∷ []
entered_above t h (Some b) (s ∷ ss) = if s.handle == b then record { label = t; handle = h } ∷ s ∷ ss else s ∷ entered_above t h (Some b) ss

-- the handle that it is to stand above, if there is one, stands in the scope of the label
abbrev pub IsAbove : Option ℕ → ℕ → List Scoped → Type 0
IsAbove None t ss = Unit {0}
IsAbove (Some b) t ss = label_in b ss ≡ Some t

-- the label of a place
abbrev pub label_at : Option Place → Option ℕ
label_at None = None
label_at (Some p) = Some p.label

-- the handle made just before the one that has this place, of those still in the scope
abbrev pub earlier_at : Option Place → Option ℕ
earlier_at None = None
earlier_at (Some p) = p.earlier

-- at most n handles: this one, the one made before it, and so on
abbrev pub walked : ℕ → FinMap nat_cmp Place → Option ℕ → List ℕ
walked n places None = []
walked zero places (Some h) = []
walked (suc n) places (Some h) = h ∷ walked n places (earlier_at (get places h))

-- handles of one label
abbrev pub with_label : ℕ → List ℕ → List Scoped
with_label t hs = map (λ h. record { label = t; handle = h }) hs

-- the scopes of these labels, with the handle made last of each
abbrev pub scopes_in : FinMap nat_cmp Place → List (ℕ × ℕ) → List Scoped
scopes_in places [] = []
scopes_in places (e ∷ es) = with_label e.0 (walked (len places) places (Some e.1)) ++ scopes_in places es

-- all scopes that the two trees hold: by label, and of one label the handle made last first
abbrev pub scopes_at : FinMap nat_cmp Place → FinMap nat_cmp ℕ → List Scoped
scopes_at places last = scopes_in places (entries last)

-- the handles of a scope, the last made first, each with its neighbours; `later` is the one made just after the first
abbrev pub AreChained : FinMap nat_cmp Place → ℕ → Option ℕ → List ℕ → Type 0
AreChained places t later [] = Unit {0}
AreChained places t later (h ∷ hs) = (get places h ≡ Some (record { label = t; earlier = first_of hs; later = later })) × AreChained places t (Some h) hs

-- the trees hold these scopes and nothing else
pub record AreLinked (places : FinMap nat_cmp Place) (last : FinMap nat_cmp ℕ) (ss : List Scoped) : Type 0 where
  pub chains : (t : ℕ) → AreChained places t None (scope_of t ss)
  pub heads : (t : ℕ) → get last t ≡ first_of (scope_of t ss)
  pub only : (h : ℕ) → times_in h ss ≡ 0 → get places h ≡ None
  pub once : (h : ℕ) → times_in h ss ≤ 1
  pub in_order : AreFrom 0 ss

-- For private functions alone: another handle, or none, is now the one made just after h, where h has this place
abbrev pub set_later_at : FinMap nat_cmp Place → ℕ → Option Place → Option ℕ → FinMap nat_cmp Place
set_later_at places h None later = places
set_later_at places h (Some p) later = insert places h (record { label = p.label; earlier = p.earlier; later = later })

-- the same, by the place that h has in the tree
abbrev pub with_later : FinMap nat_cmp Place → ℕ → Option ℕ → FinMap nat_cmp Place
with_later places h later = set_later_at places h (get places h) later

-- another handle, or none, is now the one made just before h, where h has this place
abbrev pub set_earlier_at : FinMap nat_cmp Place → ℕ → Option Place → Option ℕ → FinMap nat_cmp Place
set_earlier_at places h None earlier = places
set_earlier_at places h (Some p) earlier = insert places h (record { label = p.label; earlier = earlier; later = p.later })

-- the same, by the place that h has in the tree
abbrev pub with_earlier : FinMap nat_cmp Place → ℕ → Option ℕ → FinMap nat_cmp Place
with_earlier places h earlier = set_earlier_at places h (get places h) earlier

-- with_later of a handle, if there is one
abbrev pub relinked_later : FinMap nat_cmp Place → Option ℕ → Option ℕ → FinMap nat_cmp Place
relinked_later places None later = places
relinked_later places (Some h) later = with_later places h later

-- with_earlier of a handle, if there is one
abbrev pub relinked_earlier : FinMap nat_cmp Place → Option ℕ → Option ℕ → FinMap nat_cmp Place
relinked_earlier places None earlier = places
relinked_earlier places (Some h) earlier = with_earlier places h earlier

-- the handle made last of each label, once a handle of the label t with these two neighbours has ended: where none was made
-- after it, the one made before it is the last, if there is one
abbrev pub last_without : FinMap nat_cmp ℕ → ℕ → Option ℕ → Option ℕ → FinMap nat_cmp ℕ
last_without last t earlier (Some h) = last
last_without last t (Some h) None = insert last t h
last_without last t None None = remove last t

-- the handle that stands just above one of a list, or at its end; this one, where that is the first
abbrev pub above_of : Option ℕ → Option ℕ → List ℕ → Option ℕ
above_of o later [] = later
above_of None later (x ∷ xs) = above_of None (Some x) xs
above_of (Some b) later (x ∷ xs) = if x == b then later else above_of (Some b) (Some x) xs

-- the handle made last of each label, once h has entered the scope of t under this handle: where there is none, h is the last
abbrev pub last_with : FinMap nat_cmp ℕ → ℕ → ℕ → Option ℕ → FinMap nat_cmp ℕ
last_with last t h None = insert last t h
last_with last t h (Some a) = last
