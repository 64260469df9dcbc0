-- The pieces of a canonical line make the line.
use Rattle.std.proofs.Common.{◌≡◌, ℕ, List, [], ◌∷◌, ◌++◌, Bool, true, false, Option, Some, None, refl, sym, ap, ap₂, ◌∙◌, codes, decimal, append_assoc}
use Rattle.std.specs.List.{AllByRecursion}
use Rattle.json.specs.Print.{quoted}
use Rattle.serde_json.specs.Data.{Data, Members, member, no_members, array, string}
use Rattle.serde_json.specs.Written.{compact_text, items_text, members_text, comma_if}
use Rattle.serde_json.proofs.OnLiterals.{serde_json_on_literals}
use Rattle.trace_types.specs.Members.{Value, members, value_of}
use Rattle.trace_types.specs.Members as table
use Rattle.trace_types.specs.Names.{name_text, name_of_kind}
use Rattle.trace_types.specs.Operation.{Operation}
use Rattle.trace_types.specs.declared.names.OpName.{OpName}
use Rattle.trace_types.specs.declared.names.OpName.TheVariants as name
use Rattle.trace_types.specs.declared.kinds.Field.{Field}
use Rattle.trace_types.specs.declared.kinds.Field.TheVariants.{Held, Null, Me}
use Rattle.trace_types.specs.declared.kinds.Kind.{Kind}
use Rattle.trace_reader.specs.Writing.{natural, number_member, field_data, fields_data, with_value, with_members, names_before, members_before, members_after, members_of, line_of}
use Rattle.trace_reader.specs.LineText.{text_ahead, text_behind, field_text, elements_text, fields_text, value_text, text_if, texts_ahead, text_before, text_after, text_between, line_text}

-- ---- the fields

field_text-is : (field : Field) → compact_text (field_data field) ≡ field_text field
unfolding serde_json_on_literals
field_text-is (Held h) = refl
field_text-is Null = refl
field_text-is Me = refl

elements_text-is : (later : Bool) (fields : List Field) → items_text later (fields_data fields) ≡ elements_text later fields
elements_text-is later [] = refl
elements_text-is later (field ∷ fields) = ap (λ more. comma_if later ++ more) (ap₂ (λ one others. one ++ others) (field_text-is field) (elements_text-is true fields))

fields_text-is : (fields : List Field) → compact_text (array (fields_data fields)) ≡ fields_text fields
fields_text-is fields = ap (λ x. 91 ∷ x) (elements_text-is false fields)

-- ---- the members before `id`

-- a name is quoted as it is
abbrev IsPlain : List ℕ → Type 0
IsPlain name = quoted name ≡ 34 ∷ (name ++ 34 ∷ [])

-- there are members, so that a comma stands before them where others stand before
abbrev AreSome : Members → Type 0
AreSome ms = members_text true ms ≡ 44 ∷ members_text false ms

-- a member in front of others
ahead : (name value : List ℕ) (ms : Members) → IsPlain name → AreSome ms → quoted name ++ 58 ∷ (value ++ members_text true ms) ≡ text_ahead name value ++ members_text false ms
unfolding text_ahead
ahead name value ms plain some =
    ap (λ q. q ++ 58 ∷ (value ++ members_text true ms)) plain
    ∙ ap (λ x. (34 ∷ (name ++ 34 ∷ [])) ++ 58 ∷ (value ++ x)) some
    ∙ ap (λ x. 34 ∷ x) (
    append_assoc name (34 ∷ []) (58 ∷ (value ++ 44 ∷ members_text false ms))
    ∙ sym (append_assoc name (34 ∷ 58 ∷ []) (value ++ 44 ∷ members_text false ms))
    ∙ sym (append_assoc (name ++ 34 ∷ 58 ∷ []) value (44 ∷ members_text false ms))
    ∙ sym (append_assoc ((name ++ 34 ∷ 58 ∷ []) ++ value) (44 ∷ []) (members_text false ms))
    )

some_with : (name : List ℕ) (v : Option Value) (ms : Members) → AreSome ms → AreSome (with_value name v ms)
some_with name None ms some = some
some_with name (Some (table.PerhapsHandle None)) ms some = some
some_with name (Some (table.PerhapsHandle (Some h))) ms some = refl
some_with name (Some (table.Handle h)) ms some = refl
some_with name (Some (table.Cell c)) ms some = refl
some_with name (Some (table.Index i)) ms some = refl
some_with name (Some (table.Fields fields)) ms some = refl
some_with name (Some (table.CyclicFields fields)) ms some = refl

one : (name : List ℕ) (v : Option Value) (ms : Members) → IsPlain name → AreSome ms → members_text false (with_value name v ms) ≡ text_if (text_ahead name) (value_text v) ++ members_text false ms
one name None ms plain some = refl
one name (Some (table.PerhapsHandle None)) ms plain some = refl
one name (Some (table.PerhapsHandle (Some h))) ms plain some = ahead name (decimal h) ms plain some
one name (Some (table.Handle h)) ms plain some = ahead name (decimal h) ms plain some
one name (Some (table.Cell c)) ms plain some = ahead name (decimal c) ms plain some
one name (Some (table.Index i)) ms plain some = ahead name (decimal i) ms plain some
one name (Some (table.Fields fields)) ms plain some = ap (λ x. quoted name ++ 58 ∷ (x ++ members_text true ms)) (fields_text-is fields) ∙ ahead name (fields_text fields) ms plain some
one name (Some (table.CyclicFields fields)) ms plain some = ap (λ x. quoted name ++ 58 ∷ (x ++ members_text true ms)) (fields_text-is fields) ∙ ahead name (fields_text fields) ms plain some

more : (names : List (List ℕ)) (k : Kind) (ms : Members) → AllByRecursion IsPlain names → AreSome ms
    → AreSome (with_members names k ms) × (members_text false (with_members names k ms) ≡ texts_ahead names k ++ members_text false ms)
more [] k ms plain some = (some, refl)
more (name ∷ names) k ms plain some =
    let rest = more names k ms plain.1 some in
    let v = value_of name (members k) in (
      some_with name v (with_members names k ms) rest.0,
      one name v (with_members names k ms) plain.0 rest.0
          ∙ ap (λ x. text_if (text_ahead name) (value_text v) ++ x) rest.1
          ∙ sym (append_assoc (text_if (text_ahead name) (value_text v)) (texts_ahead names k) (members_text false ms)),
    )

are_plain : AllByRecursion IsPlain names_before
unfolding serde_json_on_literals
are_plain = (refl, (refl, (refl, (refl, (refl, (refl, (refl, (refl, (refl, tt)))))))))

before : (k : Kind) (key : List ℕ) (value : Data) (others : Members) → members_text false (members_before k (member key value others)) ≡ text_before k ++ members_text false (member key value others)
before k key value others = (more names_before k (member key value others) are_plain refl).1

-- ---- those after `t`

last : (v : Option Value) → members_text true (with_value (codes "to") v no_members) ≡ text_if (text_behind (codes "to")) (value_text v) ++ codes "}"
unfolding serde_json_on_literals
last None = refl
last (Some (table.PerhapsHandle None)) = refl
last (Some (table.PerhapsHandle (Some h))) = refl
last (Some (table.Handle h)) = refl
last (Some (table.Cell c)) = refl
last (Some (table.Index i)) = refl
last (Some (table.Fields fields)) = ap (λ x. codes ",\"to\":" ++ (x ++ codes "}")) (fields_text-is fields)
last (Some (table.CyclicFields fields)) = ap (λ x. codes ",\"to\":" ++ (x ++ codes "}")) (fields_text-is fields)

after : (k : Kind) → members_text true (members_after k) ≡ text_after k ++ codes "}"
after k = last (value_of (codes "to") (members k))

-- ---- those of every operation

-- an operation's name is quoted as it is
name_is_plain : (n : OpName) → quoted (name_text n) ≡ 34 ∷ (name_text n ++ 34 ∷ [])
unfolding serde_json_on_literals
name_is_plain name.New = refl
name_is_plain name.NewCyclic = refl
name_is_plain name.NewFrom = refl
name_is_plain name.WeakNew = refl
name_is_plain name.Null = refl
name_is_plain name.Clone = refl
name_is_plain name.Drop = refl
name_is_plain name.Downgrade = refl
name_is_plain name.Upgrade = refl
name_is_plain name.TryUnwrap = refl
name_is_plain name.IntoInner = refl
name_is_plain name.GetMut = refl
name_is_plain name.MakeMut = refl
name_is_plain name.Counts = refl
name_is_plain name.PtrEq = refl
name_is_plain name.Set = refl
name_is_plain name.Take = refl
name_is_plain name.Get = refl
name_is_plain name.CellNew = refl
name_is_plain name.CellLoad = refl
name_is_plain name.CellSwap = refl
name_is_plain name.CellCas = refl
name_is_plain name.CellDrop = refl
name_is_plain name.ScopeEnd = refl

op_join : (a b c rest : List ℕ) → a ++ (codes ",\"op\":" ++ ((34 ∷ (b ++ 34 ∷ [])) ++ (codes ",\"t\":" ++ (c ++ rest)))) ≡ (a ++ codes ",\"op\":\"" ++ b ++ codes "\",\"t\":" ++ c) ++ rest
op_join a b c rest =
    ap (λ x. a ++ (codes ",\"op\":\"" ++ x)) (append_assoc b (34 ∷ []) (codes ",\"t\":" ++ (c ++ rest)))
    ∙ sym (append_assoc a (codes ",\"op\":\"") (b ++ (codes "\",\"t\":" ++ (c ++ rest))))
    ∙ sym (append_assoc (a ++ codes ",\"op\":\"") b (codes "\",\"t\":" ++ (c ++ rest)))
    ∙ sym (append_assoc (a ++ codes ",\"op\":\"" ++ b) (codes "\",\"t\":") (c ++ rest))
    ∙ sym (append_assoc (a ++ codes ",\"op\":\"" ++ b ++ codes "\",\"t\":") c rest)

between : (op : Operation) (ms : Members) → members_text false (number_member (codes "id") op.id (member (codes "op") (string (name_text (name_of_kind op.kind))) (number_member (codes "t") op.thread ms))) ≡ text_between op ++ members_text true ms
unfolding serde_json_on_literals
between op ms =
    ap (λ q. codes "\"id\":" ++ (decimal op.id ++ (codes ",\"op\":" ++ (q ++ (codes ",\"t\":" ++ (decimal op.thread ++ members_text true ms)))))) (name_is_plain (name_of_kind op.kind))
    ∙ ap (λ x. codes "\"id\":" ++ x) (op_join (decimal op.id) (name_text (name_of_kind op.kind)) (decimal op.thread) (members_text true ms))

pub line_text_is : (op : Operation) → line_text op ≡ line_of op
unfolding line_text members_of
line_text_is op =
    ap (λ x. 123 ∷ x) (
    append_assoc (text_before op.kind ++ text_between op) (text_after op.kind) (codes "}")
    ∙ append_assoc (text_before op.kind) (text_between op) (text_after op.kind ++ codes "}")
    ∙ ap (λ x. text_before op.kind ++ (text_between op ++ x)) (sym (after op.kind))
    ∙ ap (λ x. text_before op.kind ++ x) (sym (between op (members_after op.kind)))
    ∙ sym (before op.kind (codes "id") (natural op.id) (member (codes "op") (string (name_text (name_of_kind op.kind))) (number_member (codes "t") op.thread (members_after op.kind))))
    )
