-- The canonical line of an operation reads as the operation.
use Rattle.std.proofs.Common.{◌≡◌, ℕ, suc, ◌^◌, ◌≤◌, ◌<◌, List, [], ◌∷◌, ◌++◌, length, Bool, true, false, ◌&&◌, nat_le, if◌then◌else◌, codes, Option, Some, None, Ok, refl, sym, ap, ◌∙◌, arith, append-nil, append_assoc, le-leb, leb-true}
use Rattle.std.specs.List.{list_all}
use Rattle.std.specs.Str.{bytes_eq}
use Rattle.std.specs.Option.{option_map}
use Rattle.json.specs.Tree as tree
use Rattle.json.proofs.Printed.Decimals.{IsNumber-decimal}
use Rattle.serde_json.specs.Data.{Data, number, string, Members, no_members, member}
use Rattle.serde_json.specs.Events.{items_len}
use Rattle.serde_json.specs.Read.{read, of_json, of_items, max_depth}
use Rattle.serde_json.specs.Written.{outline, items_outline, members_outline}
use Rattle.serde_json.proofs.Numbers.{number_of-decimal}
use Rattle.trace_types.specs.Limits.{is_name, is_index, is_field, is_cyclic_field, is_within, are_members, is_kind, is_within_limits}
use Rattle.trace_types.specs.Members.{Member, Value}
use Rattle.trace_types.specs.Members as table
use Rattle.trace_types.specs.Names.{name_of, name_text, name_of_kind}
use Rattle.trace_types.specs.Operation.{Operation}
use Rattle.trace_types.specs.declared.kinds.Field.{Field}
use Rattle.trace_types.specs.declared.kinds.Field.TheVariants.{Held, Null, Me}
use Rattle.trace_types.specs.declared.kinds.Kind.{Kind}
use Rattle.trace_types.specs.declared.kinds.Kind.TheVariants as kind
use Rattle.trace_types.specs.declared.limits.TheConstants.{MAX_NAME, MAX_ID, MAX_THREAD, MAX_FIELDS, MAX_INDEX}
use Rattle.trace_reader.specs.Members.{◌>>=◌, within, field_test, fields_from, number_at, perhaps_handle_at, text_at, fields_at}
use Rattle.trace_reader.specs.Kinds.{one_at, two_at, three_at, field_at, made_at, swap_at}
use Rattle.trace_reader.specs.Reading.{read_op, members_of_op, kind_at}
use Rattle.trace_reader.specs.Writing.{natural, number_member, fields_data, with_value, with_members, members_after, members_of, data_of, line_of, names_before}
use Rattle.trace_reader.proofs.ReadBack.{read-compact_text}

pub both : (a b : Bool) → (a && b) ≡ true → (a ≡ true) × (b ≡ true)
both true b h = (refl, h)
both false b h = absurd cc

name_fits : (n : ℕ) → is_name n ≡ true → n < 2 ^ 64
name_fits n h = let small : n ≤ MAX_NAME = leb-true n MAX_NAME h in omega arith

index_fits : (n : ℕ) → is_index n ≡ true → n < 2 ^ 64
index_fits n h = let small : n ≤ MAX_INDEX = leb-true n MAX_INDEX h in omega arith

natural_back : (n : ℕ) → n < 2 ^ 64 → of_json (outline (natural n)) ≡ Some (natural n)
natural_back n h = ap (option_map number) (number_of-decimal n h)

-- ---- the fields

pub are_cyclic : (fields : List Field) → list_all is_field fields ≡ true → list_all is_cyclic_field fields ≡ true
are_cyclic [] h = refl
are_cyclic (Held n ∷ fields) h = let p = both (is_name n) _ h in rw (p.0, are_cyclic fields p.1)
are_cyclic (Null ∷ fields) h = are_cyclic fields h
are_cyclic (Me ∷ fields) h = absurd cc

fields_fit : (fields : List Field) → list_all is_cyclic_field fields ≡ true → tree.ItemsHaveNumbers (items_outline (fields_data fields))
fields_fit [] h = tt
fields_fit (Held n ∷ fields) h = let p = both (is_name n) _ h in (IsNumber-decimal n (name_fits n p.0), fields_fit fields p.1)
fields_fit (Null ∷ fields) h = (tt, fields_fit fields h)
fields_fit (Me ∷ fields) h = (tt, fields_fit fields h)

fields_back : (fields : List Field) → list_all is_cyclic_field fields ≡ true → of_items (items_outline (fields_data fields)) ≡ Some (fields_data fields)
fields_back [] h = refl
fields_back (Held n ∷ fields) h = let p = both (is_name n) _ h in rw (natural_back n (name_fits n p.0), fields_back fields p.1)
fields_back (Null ∷ fields) h = rw (fields_back fields h)
fields_back (Me ∷ fields) h = rw (fields_back fields h)

fields_depth : (fields : List Field) → tree.items_depth (items_outline (fields_data fields)) ≡ 0
fields_depth [] = refl
fields_depth (Held n ∷ fields) = rw (fields_depth fields)
fields_depth (Null ∷ fields) = rw (fields_depth fields)
fields_depth (Me ∷ fields) = rw (fields_depth fields)

-- ---- the operation's JSON is read as the value

abbrev value_of : ℕ → ℕ → Kind → Data
value_of id t k = data_of (record { id = id; thread = t; kind = k })

-- the value, if there is one, is within its limits
abbrev fits : Option Value → Bool
fits None = true
fits (Some v) = is_within v

fits_if : (b : Bool) (v : Value) (other : Option Value) → is_within v ≡ true → fits other ≡ true → fits (if b then Some v else other) ≡ true
fits_if true v other h k = h
fits_if false v other h k = k

-- so is the member of each name
fits_at : (name : List ℕ) (ms : List Member) → are_members ms ≡ true → fits (table.value_of name ms) ≡ true
fits_at name [] h = refl
fits_at name (m ∷ []) h = fits_if (bytes_eq m.name name) m.value None h refl
fits_at name (m ∷ (n ∷ ms)) h = let p = both (is_within m.value) _ h in fits_if (bytes_eq m.name name) m.value (table.value_of name (n ∷ ms)) p.0 (fits_at name (n ∷ ms) p.1)

-- all numbers of the members are written as numbers
abbrev AreNumbers : Members → Type 0
AreNumbers ms = tree.MembersHaveNumbers (members_outline ms)

number_with : (name : List ℕ) (v : Option Value) (ms : Members) → fits v ≡ true → AreNumbers ms → AreNumbers (with_value name v ms)
number_with name None ms h k = k
number_with name (Some (table.Handle n)) ms h k = (IsNumber-decimal n (name_fits n h), k)
number_with name (Some (table.PerhapsHandle None)) ms h k = k
number_with name (Some (table.PerhapsHandle (Some n))) ms h k = (IsNumber-decimal n (name_fits n h), k)
number_with name (Some (table.Cell n)) ms h k = (IsNumber-decimal n (name_fits n h), k)
number_with name (Some (table.Index n)) ms h k = (IsNumber-decimal n (index_fits n h), k)
number_with name (Some (table.Fields fields)) ms h k = let p = both (nat_le (length fields) MAX_FIELDS) _ h in (fields_fit fields (are_cyclic fields p.1), k)
number_with name (Some (table.CyclicFields fields)) ms h k = let p = both (nat_le (length fields) MAX_FIELDS) _ h in (fields_fit fields p.1, k)

numbers_with : (names : List (List ℕ)) (k : Kind) (ms : Members) → is_kind k ≡ true → AreNumbers ms → AreNumbers (with_members names k ms)
numbers_with [] k ms h numbers = numbers
numbers_with (name ∷ names) k ms h numbers = number_with name (table.value_of name (table.members k)) (with_members names k ms) (fits_at name (table.members k) h) (numbers_with names k ms h numbers)

op_numbers : (id t : ℕ) (k : Kind) → id < 2 ^ 64 → t < 2 ^ 64 → is_kind k ≡ true → tree.HasNumbers (outline (value_of id t k))
unfolding members_of
op_numbers id t k low few h = numbers_with names_before k _ h (IsNumber-decimal id low, (tt, (IsNumber-decimal t few, numbers_with (codes "to" ∷ []) k no_members h tt)))

-- no member has a value deeper than an array of numbers
abbrev AreFlat : Members → Type 0
AreFlat ms = tree.members_depth (members_outline ms) ≤ 1

flat_with : (name : List ℕ) (v : Option Value) (ms : Members) → AreFlat ms → AreFlat (with_value name v ms)
flat_with name None ms h = h
flat_with name (Some (table.Handle n)) ms h = omega (arith, h)
flat_with name (Some (table.PerhapsHandle None)) ms h = h
flat_with name (Some (table.PerhapsHandle (Some n))) ms h = omega (arith, h)
flat_with name (Some (table.Cell n)) ms h = omega (arith, h)
flat_with name (Some (table.Index n)) ms h = omega (arith, h)
flat_with name (Some (table.Fields fields)) ms h = rw (fields_depth fields) (omega (arith, h))
flat_with name (Some (table.CyclicFields fields)) ms h = rw (fields_depth fields) (omega (arith, h))

flats_with : (names : List (List ℕ)) (k : Kind) (ms : Members) → AreFlat ms → AreFlat (with_members names k ms)
flats_with [] k ms h = h
flats_with (name ∷ names) k ms h = flat_with name (table.value_of name (table.members k)) (with_members names k ms) (flats_with names k ms h)

op_depth : (id t : ℕ) (k : Kind) → tree.depth (outline (value_of id t k)) ≤ max_depth
unfolding members_of
op_depth id t k =
    let after = flats_with (codes "to" ∷ []) k no_members (omega arith) in
    let all = flats_with names_before k (number_member (codes "id") id (member (codes "op") (string (name_text (name_of_kind k))) (number_member (codes "t") t (members_after k)))) (omega (arith, after)) in
    omega (arith, all)

op_back : (id t : ℕ) (k : Kind) → id < 2 ^ 64 → t < 2 ^ 64 → is_kind k ≡ true → of_json (outline (value_of id t k)) ≡ Some (value_of id t k)
unfolding members_of
op_back id t (kind.New to fields) low few fits =
    let p = both (is_name to) _ fits in let q = both (nat_le (length fields) MAX_FIELDS) _ p.1 in
    rw (fields_back fields (are_cyclic fields q.1), number_of-decimal id low, number_of-decimal t few, number_of-decimal to (name_fits to p.0))
op_back id t (kind.NewCyclic to fields) low few fits =
    let p = both (is_name to) _ fits in let q = both (nat_le (length fields) MAX_FIELDS) _ p.1 in
    rw (fields_back fields q.1, number_of-decimal id low, number_of-decimal t few, number_of-decimal to (name_fits to p.0))
op_back id t (kind.NewFrom from to) low few fits =
    let p = both (is_name from) _ fits in
    rw (number_of-decimal from (name_fits from p.0), number_of-decimal id low, number_of-decimal t few, number_of-decimal to (name_fits to p.1))
op_back id t (kind.WeakNew to) low few fits = rw (number_of-decimal id low, number_of-decimal t few, number_of-decimal to (name_fits to fits))
op_back id t (kind.Null to) low few fits = rw (number_of-decimal id low, number_of-decimal t few, number_of-decimal to (name_fits to fits))
op_back id t (kind.Clone from to) low few fits =
    let p = both (is_name from) _ fits in
    rw (number_of-decimal from (name_fits from p.0), number_of-decimal id low, number_of-decimal t few, number_of-decimal to (name_fits to p.1))
op_back id t (kind.Drop h) low few fits = rw (number_of-decimal h (name_fits h fits), number_of-decimal id low, number_of-decimal t few)
op_back id t (kind.Downgrade from to) low few fits =
    let p = both (is_name from) _ fits in
    rw (number_of-decimal from (name_fits from p.0), number_of-decimal id low, number_of-decimal t few, number_of-decimal to (name_fits to p.1))
op_back id t (kind.Upgrade from to) low few fits =
    let p = both (is_name from) _ fits in
    rw (number_of-decimal from (name_fits from p.0), number_of-decimal id low, number_of-decimal t few, number_of-decimal to (name_fits to p.1))
op_back id t (kind.TryUnwrap h) low few fits = rw (number_of-decimal h (name_fits h fits), number_of-decimal id low, number_of-decimal t few)
op_back id t (kind.IntoInner h) low few fits = rw (number_of-decimal h (name_fits h fits), number_of-decimal id low, number_of-decimal t few)
op_back id t (kind.GetMut h) low few fits = rw (number_of-decimal h (name_fits h fits), number_of-decimal id low, number_of-decimal t few)
op_back id t (kind.MakeMut h) low few fits = rw (number_of-decimal h (name_fits h fits), number_of-decimal id low, number_of-decimal t few)
op_back id t (kind.Counts h) low few fits = rw (number_of-decimal h (name_fits h fits), number_of-decimal id low, number_of-decimal t few)
op_back id t (kind.PtrEq a b) low few fits =
    let p = both (is_name a) _ fits in
    rw (number_of-decimal a (name_fits a p.0), number_of-decimal b (name_fits b p.1), number_of-decimal id low, number_of-decimal t few)
op_back id t (kind.Set h i from) low few fits =
    let p = both (is_name h) _ fits in let q = both (is_index i) _ p.1 in
    rw (number_of-decimal from (name_fits from q.1), number_of-decimal h (name_fits h p.0), number_of-decimal i (index_fits i q.0), number_of-decimal id low, number_of-decimal t few)
op_back id t (kind.Take h i to) low few fits =
    let p = both (is_name h) _ fits in let q = both (is_index i) _ p.1 in
    rw (number_of-decimal h (name_fits h p.0), number_of-decimal i (index_fits i q.0), number_of-decimal id low, number_of-decimal t few, number_of-decimal to (name_fits to q.1))
op_back id t (kind.Get h i to) low few fits =
    let p = both (is_name h) _ fits in let q = both (is_index i) _ p.1 in
    rw (number_of-decimal h (name_fits h p.0), number_of-decimal i (index_fits i q.0), number_of-decimal id low, number_of-decimal t few, number_of-decimal to (name_fits to q.1))
op_back id t (kind.CellNew c from) low few fits =
    let p = both (is_name c) _ fits in
    rw (number_of-decimal c (name_fits c p.0), number_of-decimal from (name_fits from p.1), number_of-decimal id low, number_of-decimal t few)
op_back id t (kind.CellLoad c to) low few fits =
    let p = both (is_name c) _ fits in
    rw (number_of-decimal c (name_fits c p.0), number_of-decimal id low, number_of-decimal t few, number_of-decimal to (name_fits to p.1))
op_back id t (kind.CellSwap c from (Some to)) low few fits =
    let p = both (is_name c) _ fits in let q = both (is_name from) _ p.1 in
    rw (number_of-decimal c (name_fits c p.0), number_of-decimal from (name_fits from q.0), number_of-decimal id low, number_of-decimal t few, number_of-decimal to (name_fits to q.1))
op_back id t (kind.CellSwap c from None) low few fits =
    let p = both (is_name c) _ fits in let q = both (is_name from) _ p.1 in
    rw (number_of-decimal c (name_fits c p.0), number_of-decimal from (name_fits from q.0), number_of-decimal id low, number_of-decimal t few)
op_back id t (kind.CellCas c expected desired) low few fits =
    let p = both (is_name c) _ fits in let q = both (is_name expected) _ p.1 in
    rw (number_of-decimal c (name_fits c p.0), number_of-decimal desired (name_fits desired q.1), number_of-decimal expected (name_fits expected q.0), number_of-decimal id low, number_of-decimal t few)
op_back id t (kind.CellDrop c) low few fits = rw (number_of-decimal c (name_fits c fits), number_of-decimal id low, number_of-decimal t few)
op_back id t kind.ScopeEnd low few fits = rw (number_of-decimal id low, number_of-decimal t few)

-- what the limits say
pub record Within (op : Operation) : Type 0 where
  pub low : nat_le 1 op.id ≡ true
  pub high : nat_le op.id MAX_ID ≡ true
  pub thread : nat_le op.thread MAX_THREAD ≡ true
  pub kind : is_kind op.kind ≡ true

pub Within-is_within_limits : (op : Operation) → is_within_limits op ≡ true → Within op
Within-is_within_limits op h =
    let a = both (nat_le 1 op.id) _ h in let b = both (nat_le op.id MAX_ID) _ a.1 in let c = both (nat_le op.thread MAX_THREAD) _ b.1 in
    record { low = a.0; high = b.0; thread = c.0; kind = c.1 }

-- the canonical line reads as the operation's value
pub read-line_of : (op : Operation) → is_within_limits op ≡ true → read (line_of op) ≡ Some (data_of op)
read-line_of op h =
    let w = Within-is_within_limits op h in
    let below : op.id ≤ MAX_ID = leb-true _ _ w.high in let small : op.thread ≤ MAX_THREAD = leb-true _ _ w.thread in
    let i : op.id < 2 ^ 64 = omega arith in let t : op.thread < 2 ^ 64 = omega arith in
    read-compact_text _ (op_numbers op.id op.thread op.kind i t w.kind) (op_back op.id op.thread op.kind i t w.kind) (op_depth op.id op.thread op.kind)

-- ---- the value reads as the operation

items_len-fields : (fields : List Field) → items_len (fields_data fields) ≡ length fields
items_len-fields [] = refl
items_len-fields (field ∷ fields) = ap suc (items_len-fields fields)

name_again : (n : ℕ) → is_name n ≡ true → within 0 MAX_NAME (Some n) ≡ Ok n
name_again n h = rw (le-leb 0 n (omega arith), h)

fields_again : (cyclic : Bool) (done fields : List Field) → list_all (field_test cyclic) fields ≡ true → fields_from cyclic done (fields_data fields) ≡ Ok (done ++ fields)
fields_again cyclic done [] h = ap Ok (sym (append-nil done))
fields_again true done (Held n ∷ fields) h =
    let p = both (is_name n) _ h in
    ap (λ r. (r >>= λ m. Ok (Held m)) >>= λ f. fields_from true (done ++ f ∷ []) (fields_data fields)) (name_again n p.0) ∙ fields_again true (done ++ Held n ∷ []) fields p.1 ∙ ap Ok (append_assoc done (Held n ∷ []) fields)
fields_again false done (Held n ∷ fields) h =
    let p = both (is_name n) _ h in
    ap (λ r. (r >>= λ m. Ok (Held m)) >>= λ f. fields_from false (done ++ f ∷ []) (fields_data fields)) (name_again n p.0) ∙ fields_again false (done ++ Held n ∷ []) fields p.1 ∙ ap Ok (append_assoc done (Held n ∷ []) fields)
fields_again true done (Null ∷ fields) h = fields_again true (done ++ Null ∷ []) fields h ∙ ap Ok (append_assoc done (Null ∷ []) fields)
fields_again false done (Null ∷ fields) h = fields_again false (done ++ Null ∷ []) fields h ∙ ap Ok (append_assoc done (Null ∷ []) fields)
fields_again true done (Me ∷ fields) h = fields_again true (done ++ Me ∷ []) fields h ∙ ap Ok (append_assoc done (Me ∷ []) fields)
fields_again false done (Me ∷ fields) h = absurd cc

op_again : (id t : ℕ) (k : Kind) → nat_le 1 id ≡ true → nat_le id MAX_ID ≡ true → nat_le t MAX_THREAD ≡ true → is_kind k ≡ true → members_of_op (value_of id t k) ≡ Ok (record { id = id; thread = t; kind = k })
unfolding members_of members_of_op kind_at number_at text_at perhaps_handle_at fields_at name_of one_at two_at three_at field_at made_at swap_at
op_again id t (kind.New to fields) low high small fits =
    let p = both (is_name to) _ fits in let q = both (nat_le (length fields) MAX_FIELDS) _ p.1 in
    rw (low, high, le-leb 0 t (omega arith), small, le-leb 0 to (omega arith), p.0, items_len-fields fields, q.0, fields_again false [] fields q.1)
op_again id t (kind.NewCyclic to fields) low high small fits =
    let p = both (is_name to) _ fits in let q = both (nat_le (length fields) MAX_FIELDS) _ p.1 in
    rw (low, high, le-leb 0 t (omega arith), small, le-leb 0 to (omega arith), p.0, items_len-fields fields, q.0, fields_again true [] fields q.1)
op_again id t (kind.NewFrom from to) low high small fits =
    let p = both (is_name from) _ fits in
    rw (low, high, le-leb 0 t (omega arith), small, le-leb 0 from (omega arith), p.0, le-leb 0 to (omega arith), p.1)
op_again id t (kind.WeakNew to) low high small fits = rw (low, high, le-leb 0 t (omega arith), small, le-leb 0 to (omega arith), fits)
op_again id t (kind.Null to) low high small fits = rw (low, high, le-leb 0 t (omega arith), small, le-leb 0 to (omega arith), fits)
op_again id t (kind.Clone from to) low high small fits =
    let p = both (is_name from) _ fits in
    rw (low, high, le-leb 0 t (omega arith), small, le-leb 0 from (omega arith), p.0, le-leb 0 to (omega arith), p.1)
op_again id t (kind.Drop h) low high small fits = rw (low, high, le-leb 0 t (omega arith), small, le-leb 0 h (omega arith), fits)
op_again id t (kind.Downgrade from to) low high small fits =
    let p = both (is_name from) _ fits in
    rw (low, high, le-leb 0 t (omega arith), small, le-leb 0 from (omega arith), p.0, le-leb 0 to (omega arith), p.1)
op_again id t (kind.Upgrade from to) low high small fits =
    let p = both (is_name from) _ fits in
    rw (low, high, le-leb 0 t (omega arith), small, le-leb 0 from (omega arith), p.0, le-leb 0 to (omega arith), p.1)
op_again id t (kind.TryUnwrap h) low high small fits = rw (low, high, le-leb 0 t (omega arith), small, le-leb 0 h (omega arith), fits)
op_again id t (kind.IntoInner h) low high small fits = rw (low, high, le-leb 0 t (omega arith), small, le-leb 0 h (omega arith), fits)
op_again id t (kind.GetMut h) low high small fits = rw (low, high, le-leb 0 t (omega arith), small, le-leb 0 h (omega arith), fits)
op_again id t (kind.MakeMut h) low high small fits = rw (low, high, le-leb 0 t (omega arith), small, le-leb 0 h (omega arith), fits)
op_again id t (kind.Counts h) low high small fits = rw (low, high, le-leb 0 t (omega arith), small, le-leb 0 h (omega arith), fits)
op_again id t (kind.PtrEq a b) low high small fits =
    let p = both (is_name a) _ fits in
    rw (low, high, le-leb 0 t (omega arith), small, le-leb 0 a (omega arith), p.0, le-leb 0 b (omega arith), p.1)
op_again id t (kind.Set h i from) low high small fits =
    let p = both (is_name h) _ fits in let q = both (is_index i) _ p.1 in
    rw (low, high, le-leb 0 t (omega arith), small, le-leb 0 h (omega arith), p.0, le-leb 0 i (omega arith), q.0, le-leb 0 from (omega arith), q.1)
op_again id t (kind.Take h i to) low high small fits =
    let p = both (is_name h) _ fits in let q = both (is_index i) _ p.1 in
    rw (low, high, le-leb 0 t (omega arith), small, le-leb 0 h (omega arith), p.0, le-leb 0 i (omega arith), q.0, le-leb 0 to (omega arith), q.1)
op_again id t (kind.Get h i to) low high small fits =
    let p = both (is_name h) _ fits in let q = both (is_index i) _ p.1 in
    rw (low, high, le-leb 0 t (omega arith), small, le-leb 0 h (omega arith), p.0, le-leb 0 i (omega arith), q.0, le-leb 0 to (omega arith), q.1)
op_again id t (kind.CellNew c from) low high small fits =
    let p = both (is_name c) _ fits in
    rw (low, high, le-leb 0 t (omega arith), small, le-leb 0 c (omega arith), p.0, le-leb 0 from (omega arith), p.1)
op_again id t (kind.CellLoad c to) low high small fits =
    let p = both (is_name c) _ fits in
    rw (low, high, le-leb 0 t (omega arith), small, le-leb 0 c (omega arith), p.0, le-leb 0 to (omega arith), p.1)
op_again id t (kind.CellSwap c from (Some to)) low high small fits =
    let p = both (is_name c) _ fits in let q = both (is_name from) _ p.1 in
    rw (low, high, le-leb 0 t (omega arith), small, le-leb 0 c (omega arith), p.0, le-leb 0 from (omega arith), q.0, le-leb 0 to (omega arith), q.1)
op_again id t (kind.CellSwap c from None) low high small fits =
    let p = both (is_name c) _ fits in let q = both (is_name from) _ p.1 in
    rw (low, high, le-leb 0 t (omega arith), small, le-leb 0 c (omega arith), p.0, le-leb 0 from (omega arith), q.0)
op_again id t (kind.CellCas c expected desired) low high small fits =
    let p = both (is_name c) _ fits in let q = both (is_name expected) _ p.1 in
    rw (low, high, le-leb 0 t (omega arith), small, le-leb 0 c (omega arith), p.0, le-leb 0 expected (omega arith), q.0, le-leb 0 desired (omega arith), q.1)
op_again id t (kind.CellDrop c) low high small fits = rw (low, high, le-leb 0 t (omega arith), small, le-leb 0 c (omega arith), fits)
op_again id t kind.ScopeEnd low high small fits = rw (low, high, le-leb 0 t (omega arith), small)

pub read_op-data_of : (op : Operation) → is_within_limits op ≡ true → read_op (data_of op) ≡ Ok op
unfolding read_op
read_op-data_of op h = let w = Within-is_within_limits op h in op_again op.id op.thread op.kind w.low w.high w.thread w.kind
