-- What of the end of a trace is drawn, by its graph (profile of this project).
use Rattle.std.specs.Prelude.{ℕ, ◌≡◌, ◌+◌, ◌==◌, ◌&&◌, List, [], ◌∷◌, ◌++◌, codes, flat_map, filter, not, Option, Some, None, Bool, true, false, is_some, slice_index, slice_index_or, if◌then◌else◌, ◌↔◌, length, replicate}
use Rattle.trace_types.specs.Slots.{named_by}
use Rattle.ownership_model.specs.State.{State, strong, weak}
use Rattle.retention_model.specs.declared.place.Place.{Place}
use Rattle.retention_model.specs.declared.place.Held.{Held}
use Rattle.retention_model.specs.Turns.{is_weak_slot}
use Rattle.retention_model.specs.declared.totals.Totals.{Totals}
use Rattle.retention.specs.declared.graph.Graph.{Graph}
use Rattle.retention.specs.declared.cycles.Cycles.{Cycles}
use Rattle.retention.specs.declared.ending.Ending.{Ending}
use Rattle.trace_types.specs.Operation.{Operation}
use Rattle.ownership_model.specs.State.{nothing_held}
use Rattle.ownership_model.specs.Step.{end_from, AreNew}
use Rattle.ownership_model.specs.Reach.{has}
use Rattle.retention_model.specs.Since.{since_from}
use Rattle.retention.specs.declared.named.Named.{Named}
use Rattle.retention.specs.Named.{IsNamedOf}
use Rattle.retention.specs.Graph.{size}
use Rattle.retention.specs.Endings.{IsEndOf}
use Rattle.retention.specs.Ends.{AreTotals}
use Rattle.retention.specs.Pictured.{IsAskedAt, IsShownAt}
use Rattle.retention_text.specs.Pictures.{head_text, root_text, object_text, edge_text}
use Rattle.retention_report.specs.Pictured.{stands_in_shown, names_shown, roots_of, is_root_at, once, is_bold}

-- where a number stands among others, the first of which has this index
abbrev pub number_from : ℕ → List ℕ → ℕ → Option ℕ
number_from i [] o = None
number_from i (x ∷ xs) o = if x == o then Some i else number_from (i + 1) xs o

-- where an object stands among others
abbrev pub index_in : List ℕ → ℕ → Option ℕ
index_in os o = number_from 0 os o

-- the mark there
abbrev pub mark_at : List Bool → Option ℕ → Bool
mark_at marks None = false
mark_at marks (Some i) = slice_index_or marks i false

-- whether an object is there, and marked
abbrev pub is_marked_in : List ℕ → List Bool → ℕ → Bool
is_marked_in os marks o = mark_at marks (index_in os o)

-- one or none, as a list
abbrev pub listed : {A : Type 0} → Option A → List A
listed None = []
listed (Some x) = x ∷ []

-- where those stand that do
abbrev pub indices_in : List ℕ → List ℕ → List ℕ
indices_in os given = flat_map (λ o. listed (index_in os o)) given

-- the first that doesn't
abbrev pub first_absent : List ℕ → List ℕ → Option ℕ
first_absent os [] = None
first_absent os (o ∷ given) = if is_some (index_in os o) then first_absent os given else Some o

-- whether a place is drawn
abbrev pub is_drawn : List ℕ → List Bool → Held → Bool
is_drawn os shown x = stands_in_shown (is_marked_in os shown) x.place && names_shown (is_marked_in os shown) (named_by x.slot)

-- a text, where it is so
abbrev pub if_so : Bool → List ℕ → List ℕ
if_so true text = text
if_so false text = []

-- Roots.

-- whether a root is the one that came last
abbrev pub is_last : Option Place → Place → Bool
is_last None q = false
is_last (Some p) q = is_root_at p q

-- the line of a root, unless it is the one that came last
abbrev pub other_text : Option Place → Option Place → List ℕ
other_text last None = []
other_text last (Some p) = if is_last last p then [] else root_text p

-- the one that came last now
abbrev pub later : Option Place → Option Place → Option Place
later last None = last
later last (Some p) = Some p

-- the roots of the drawn places, one for each place
abbrev pub roots_in : List ℕ → List Bool → List Held → List Place
roots_in os shown hs = flat_map (λ x. roots_of x.place) (filter (is_drawn os shown) hs)

abbrev pub roots_text : Graph → List Bool → List ℕ
roots_text g shown = flat_map root_text (once (roots_in g.objects.items shown g.held.items))

-- Cycles.

abbrev pub cycle_at : Cycles → Option ℕ → Option ℕ
cycle_at c None = None
cycle_at c (Some i) = if slice_index_or c.marks.items i false then Some (slice_index c.parts.items i) else None

abbrev pub are_same : Option ℕ → Option ℕ → Bool
are_same None b = false
are_same (Some a) None = false
are_same (Some a) (Some b) = a == b

-- whether two objects are in one cycle
abbrev pub is_joined : Ending → ℕ → ℕ → Bool
is_joined e o p = are_same (cycle_at e.cycles (index_in e.graph.objects.items o)) (cycle_at e.cycles (index_in e.graph.objects.items p))

-- whether a slot is drawn bold
abbrev pub is_bold_in : Ending → Place → ℕ → Bool
is_bold_in e p o = is_bold (is_joined e) p o

-- Slots.

-- the line of a slot that names this object
abbrev pub edge_if : Ending → Held → Option ℕ → List ℕ
edge_if e x None = []
edge_if e x (Some o) = edge_text x.place o x.since (is_weak_slot x.slot) (is_bold (is_joined e) x.place o)

abbrev pub edge_of : Ending → Held → List ℕ
edge_of e x = edge_if e x (named_by x.slot)

abbrev pub edges_text : Ending → List Bool → List ℕ
edges_text e shown = flat_map (edge_of e) (filter (is_drawn e.graph.objects.items shown) e.graph.held.items)

-- Objects.

abbrev pub object_of : Ending → State → List Bool → ℕ → List ℕ
object_of e m given o =
    object_text o (strong m [] o) (weak m [] o) (is_marked_in e.graph.objects.items e.leaked.items o) (not (is_marked_in e.graph.objects.items e.graph.alive.items o))
    (is_marked_in e.graph.objects.items given o)

abbrev pub objects_text : Ending → State → List Bool → List Bool → List ℕ
objects_text e m shown given = flat_map (object_of e m given) (filter (is_marked_in e.graph.objects.items shown) e.graph.objects.items)

-- the whole
abbrev pub drawn_text : Ending → State → List Bool → List Bool → Totals → List ℕ
drawn_text e m shown given totals = head_text totals ++ roots_text e.graph shown ++ objects_text e m shown given ++ edges_text e shown ++ codes "}\n"

-- what is named at the end of the replay of operations
pub record IsNamedAtEnd (ops : List Operation) (n : Named) : Type 0 where
  pub new : AreNew nothing_held ops
  pub named : IsNamedOf (end_from nothing_held ops) (λ p. since_from nothing_held ops p 0) n

-- which objects are marked as shown, where these were given
abbrev pub AreShownAt : Bool → Ending → List ℕ → List Bool → Type 0
AreShownAt true e given shown = shown ≡ replicate (size e.graph) true
AreShownAt false e given shown = (i : ℕ) → (slice_index_or shown i false ≡ true) ↔ IsShownAt e.graph (IsAskedAt e.graph e.leaked.items given) i

-- the text of what is shown, where objects with these numbers were given
abbrev pub IsDrawnText : Bool → State → Ending → List ℕ → List ℕ → Type 0
IsDrawnText with_all m e os text =
    (shown given : List Bool) × (t : Totals) × (length shown ≡ size e.graph)
    × AreShownAt with_all e (indices_in e.graph.objects.items os) shown
    × ((i : ℕ) → slice_index_or given i false ≡ has i (indices_in e.graph.objects.items os))
    × ((ops : List Operation) → IsEndOf ops e → AreTotals (end_from nothing_held ops) t)
    × (text ≡ drawn_text e m shown given t)
