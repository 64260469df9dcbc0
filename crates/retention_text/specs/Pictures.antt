-- The lines of a picture in DOT (profile of this project; the words of DOT are Graphviz's).
use Rattle.std.specs.Prelude.{ℕ, List, [], ◌++◌, codes, decimal, Some, None, Bool, true, false, if◌then◌else◌}
use Rattle.retention_model.specs.declared.place.Place.{Place}
use Rattle.retention_model.specs.declared.place.Place.TheVariants.{Handle, Cell, Field}
use Rattle.retention_model.specs.declared.totals.Totals.{Totals}
use Rattle.retention_text.specs.Pieces.{totals_text}

-- the lines before the nodes
abbrev pub head_text : Totals → List ℕ
head_text totals =
    codes "digraph heap {\n  graph [rankdir=LR ranksep=0.7 fontname=\"Helvetica\" fontsize=12 label=\"" ++ totals_text totals
    ++ codes "\\nfilled: leaked. bold: in its cycle. dashed: weak, or a husk."
    ++ codes "\\n1/0: strong and weak count. .1 since 2: field 1, since operation 2.\"]\n"
    ++ codes "  node [shape=box style=\"rounded,filled\" fillcolor=\"white\" fontname=\"Helvetica\"]\n"
    ++ codes "  edge [fontname=\"Helvetica\" fontsize=10]\n"

-- the node that a place stands in: `h3`, `c0`, `o5`
abbrev pub node_text : Place → List ℕ
node_text (Handle h i) = codes "  h" ++ decimal h
node_text (Cell c) = codes "  c" ++ decimal c
node_text (Field o i) = codes "  o" ++ decimal o

-- which field it is: `.1 `
abbrev pub index_text : Place → List ℕ
index_text (Handle h None) = []
index_text (Handle h (Some i)) = codes "." ++ decimal i ++ codes " "
index_text (Cell c) = []
index_text (Field o i) = codes "." ++ decimal i ++ codes " "

-- which field a slot is, and since when: ` [label=".1 since 2"`
abbrev pub label_text : Place → (since : ℕ) → List ℕ
label_text place since = codes " [label=\"" ++ index_text place ++ codes "since " ++ decimal since ++ codes "\""

-- how its line is drawn: dashed where it is a Weak, bold where it is in a cycle
abbrev pub line_text : (is_weak is_in_cycle : Bool) → List ℕ
line_text true is_in_cycle = codes " style=dashed color=\"#0072b2\""
line_text false true = codes " penwidth=2.5 color=\"#c0392b\""
line_text false false = []

-- a slot: whose it is, which object it names, and since when
abbrev pub edge_text : Place → (object since : ℕ) → (is_weak is_in_cycle : Bool) → List ℕ
edge_text place object since is_weak is_in_cycle =
    node_text place ++ (codes " -> o" ++ decimal object) ++ label_text place since ++ line_text is_weak is_in_cycle ++ codes "]\n"

-- the number of an object, and how many slots name it: `  o5 [label="#5\n1/0"`
abbrev pub counts_text : (object strong weak : ℕ) → List ℕ
counts_text object strong weak =
    codes "  o" ++ decimal object ++ codes " [label=\"#" ++ decimal object ++ codes "\\n" ++ decimal strong ++ codes "/" ++ decimal weak ++ codes "\""

-- how it is drawn: filled where it leaked, dashed where it is a husk, bold where it was given
abbrev pub look_text : (is_leaked is_husk is_given : Bool) → List ℕ
look_text is_leaked is_husk is_given =
    (if is_leaked then codes " fillcolor=\"#f6b26b\"" else []) ++ (if is_husk then codes " style=\"rounded,dashed\"" else []) ++ (if is_given then codes " penwidth=3" else [])

-- an object, with its counts
abbrev pub object_text : (object strong weak : ℕ) → (is_leaked is_husk is_given : Bool) → List ℕ
object_text object strong weak is_leaked is_husk is_given = counts_text object strong weak ++ look_text is_leaked is_husk is_given ++ codes "]\n"

-- a handle or a cell
abbrev pub root_text : Place → List ℕ
root_text (Handle h i) = codes "  h" ++ decimal h ++ codes " [label=\"handle " ++ decimal h ++ codes "\" shape=plaintext]\n"
root_text (Cell c) = codes "  c" ++ decimal c ++ codes " [label=\"cell " ++ decimal c ++ codes "\" shape=plaintext]\n"
root_text (Field o i) = []
