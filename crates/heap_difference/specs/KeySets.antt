-- Sets of keys (profile of this project).
use Rattle.std.specs.Prelude.{ℕ, ◌≡◌, ◌==◌, List, [], ◌∷◌, Option, Some, None, Bool, true, ◌||◌, min, if◌then◌else◌, flat_map, option_to_list}
use Rattle.std.specs.List.{Contains, list_any}
use Rattle.ownership_model.specs.declared.key.Key.{Key}
use Rattle.ownership_model.specs.declared.key.Key.TheVariants.{Handle, Cell, Object, Scope}
use Rattle.ownership_model.specs.Reach.{has}
use Rattle.ownership_model.specs.Alike.{AreWithin}
use Rattle.heap_difference.specs.declared.key_set.KeySet.{KeySet}
use Rattle.heap_difference.specs.declared.key_set.Lists.{Lists}

-- the set that has no key
abbrev pub nothing : KeySet
nothing = record { handles = []; cells = []; objects = []; labels = [] }

-- whether a key is in the set
abbrev pub is_among : KeySet → Key → Bool
is_among d (Handle h) = has h d.handles
is_among d (Cell c) = has c d.cells
is_among d (Object o) = has o d.objects
is_among d (Scope t) = has t d.labels

-- the set has these keys, and no others
pub record Has (d : KeySet) (keys : List Key) : Type 0 where
  pub all : AreWithin (is_among d) keys
  pub only : (x : Key) → is_among d x ≡ true → Contains keys x

-- the kinds of keys
pub data Kind : Type 0 where
  Handles : Kind
  Cells : Kind
  Objects : Kind
  Labels : Kind

-- the number of a key of this kind
abbrev pub kind_number : Kind → Key → Option ℕ
kind_number Handles (Handle h) = Some h
kind_number Handles (Cell c) = None
kind_number Handles (Object o) = None
kind_number Handles (Scope t) = None
kind_number Cells (Handle h) = None
kind_number Cells (Cell c) = Some c
kind_number Cells (Object o) = None
kind_number Cells (Scope t) = None
kind_number Objects (Handle h) = None
kind_number Objects (Cell c) = None
kind_number Objects (Object o) = Some o
kind_number Objects (Scope t) = None
kind_number Labels (Handle h) = None
kind_number Labels (Cell c) = None
kind_number Labels (Object o) = None
kind_number Labels (Scope t) = Some t

-- the numbers of the keys of one kind, as they come
abbrev pub numbers : Kind → List Key → List ℕ
numbers k keys = flat_map (λ x. option_to_list (kind_number k x)) keys

-- the keys of a list, which may come in any order and more than once, as a set
abbrev pub set_of : List Key → KeySet
set_of keys = record { handles = numbers Handles keys; cells = numbers Cells keys; objects = numbers Objects keys; labels = numbers Labels keys }

-- whether two lists have a number in common
abbrev pub share_one : List ℕ → List ℕ → Bool
share_one xs ys = list_any (λ q. has q ys) xs

-- whether two sets have a key in common
abbrev pub meet : KeySet → KeySet → Bool
meet a b = share_one a.handles b.handles || (share_one a.cells b.cells || (share_one a.objects b.objects || share_one a.labels b.labels))

-- For private functions alone: the set that has the numbers of these lists
abbrev pub set_of_lists : Lists → KeySet
set_of_lists l = record { handles = l.handles.items; cells = l.cells.items; objects = l.objects.items; labels = l.labels.items }

-- For private functions alone: the set that has these handles, and no other key
abbrev pub handles_alone : List ℕ → KeySet
handles_alone hs = record { handles = hs; cells = []; objects = []; labels = [] }

-- For private functions alone: the first number of a list
abbrev pub first_number : List ℕ → Option ℕ
first_number [] = None
first_number (x ∷ xs) = Some x

-- For private functions alone: the lesser of two numbers, or the one that is there
abbrev pub lesser_of : Option ℕ → Option ℕ → Option ℕ
lesser_of None y = y
lesser_of (Some x) None = Some x
lesser_of (Some x) (Some y) = Some (min x y)

-- For private functions alone: a list without its first number, where that is n
abbrev pub without_first : ℕ → List ℕ → List ℕ
without_first n [] = []
without_first n (x ∷ xs) = if x == n then xs else x ∷ xs
