-- A canonical line is short, and has visible ASCII characters alone.
use Rattle.std.proofs.Common.{◌≡◌, ℕ, suc, ◌+◌, ◌*◌, ◌%◌, ◌^◌, ◌≤◌, ◌<◌, List, [], ◌∷◌, ◌++◌, length, Bool, true, false, ◌&&◌, nat_lt, nat_le, Some, None, refl, ◌∙◌, arith, decimal, lt-ltb, le-leb, leb-true, length-append}
use Rattle.std.proofs.lemmas.List.Folds.{list_all-append}
use Rattle.std.proofs.lemmas.Fmt.{decimal_by_steps, length-decimal-le}
use Rattle.std.specs.List.{list_all}
use Rattle.json.specs.Print.{quoted}
use Rattle.serde_json.specs.Data.{Members, no_members, member, array}
use Rattle.serde_json.specs.Written.{compact_text, items_text, members_text}
use Rattle.serde_json.proofs.OnLiterals.{serde_json_on_literals}
use Rattle.trace_types.specs.Limits.{is_name, is_index, is_cyclic_field, is_kind, is_within_limits}
use Rattle.trace_types.specs.Operation.{Operation}
use Rattle.trace_types.specs.declared.kinds.Field.{Field}
use Rattle.trace_types.specs.declared.kinds.Field.TheVariants.{Held, Null, Me}
use Rattle.trace_types.specs.declared.kinds.Kind.{Kind}
use Rattle.trace_types.specs.declared.kinds.Kind.TheVariants as kind
use Rattle.trace_types.specs.declared.limits.TheConstants.{MAX_NAME, MAX_ID, MAX_THREAD, MAX_FIELDS, MAX_INDEX, MAX_LINE}
use Rattle.trace_reader.specs.Writing.{natural, fields_data, members_of, line_of}
use Rattle.trace_reader.proofs.OpLines.{both, are_cyclic, Within-is_within_limits}

abbrev pub is_visible : ℕ → Bool
is_visible b = nat_le 32 b && nat_lt b 128

abbrev V : List ℕ → Type 0
V xs = list_all is_visible xs ≡ true

V-append : (xs ys : List ℕ) → V xs → V ys → V (xs ++ ys)
V-append xs ys h k = list_all-append is_visible xs ys ∙ rw (h, k)

digit : (n : ℕ) → n < 10 → is_visible (48 + n) ≡ true
digit n h = rw (le-leb 32 (48 + n) (omega arith), lt-ltb (48 + n) 128 (omega arith))

V-decimal : (n : ℕ) → n < 2 ^ 64 → V (decimal n)
V-decimal n h = decimal_by_steps (λ m ds. V ds) (λ m l. rw (digit m l)) (λ m ds l v. V-append ds _ v (rw (digit (m % 10) (omega arith)))) n h

-- a text of visible characters, no longer than n
abbrev Neat : ℕ → List ℕ → Type 0
Neat n xs = V xs × (length xs ≤ n)

Neat-number : (n : ℕ) → n ≤ MAX_ID → Neat 9 (decimal n)
Neat-number n h = (V-decimal n (omega arith), length-decimal-le 9 n (omega arith) (omega arith) (omega arith))

-- how long the quoted name of a member may be
abbrev max_key : ℕ
max_key = 20

-- how long the value of a member may be, with room to spare: that of `fields` is the longest
abbrev max_member : ℕ
max_member = 10 * MAX_FIELDS + 10

-- how many members a line may have
abbrev max_members : ℕ
max_members = 6

-- the parts of the members are neat
abbrev AreNeat : Members → Type 0
AreNeat no_members = Unit {0}
AreNeat (member k d ms) = Neat max_key (quoted k) × Neat max_member (compact_text d) × AreNeat ms

abbrev count : Members → ℕ
count no_members = 0
count (member k d ms) = suc (count ms)

Neat-members : (later : Bool) (ms : Members) → AreNeat ms → Neat ((max_key + max_member + 2) * count ms + 1) (members_text later ms)
Neat-members later no_members h = (refl, omega arith)
Neat-members true (member k d ms) h =
    let r = Neat-members true ms h.2 in (
      V-append (quoted k) _ h.0.0 (V-append (compact_text d) _ h.1.0 r.0),
      omega (arith, r.1, h.0.1, h.1.1, length-append (quoted k) (58 ∷ (compact_text d ++ members_text true ms)), length-append (compact_text d) (members_text true ms)),
    )
Neat-members false (member k d ms) h =
    let r = Neat-members true ms h.2 in (
      V-append (quoted k) _ h.0.0 (V-append (compact_text d) _ h.1.0 r.0),
      omega (arith, r.1, h.0.1, h.1.1, length-append (quoted k) (58 ∷ (compact_text d ++ members_text true ms)), length-append (compact_text d) (members_text true ms)),
    )

Neat-fields : (later : Bool) (fs : List Field) → list_all is_cyclic_field fs ≡ true → Neat (10 * length fs + 1) (items_text later (fields_data fs))
unfolding serde_json_on_literals
Neat-fields later [] h = (refl, omega arith)
Neat-fields true (Held n ∷ fs) h =
    let p = both (is_name n) _ h in let small : n ≤ MAX_NAME = leb-true n MAX_NAME p.0 in let d = Neat-number n (omega arith) in let r = Neat-fields true fs p.1 in
    (V-append (decimal n) _ d.0 r.0, omega (arith, d.1, r.1, length-append (decimal n) (items_text true (fields_data fs))))
Neat-fields false (Held n ∷ fs) h =
    let p = both (is_name n) _ h in let small : n ≤ MAX_NAME = leb-true n MAX_NAME p.0 in let d = Neat-number n (omega arith) in let r = Neat-fields true fs p.1 in
    (V-append (decimal n) _ d.0 r.0, omega (arith, d.1, r.1, length-append (decimal n) (items_text true (fields_data fs))))
Neat-fields true (Null ∷ fs) h = let r = Neat-fields true fs h in (r.0, omega (arith, r.1))
Neat-fields false (Null ∷ fs) h = let r = Neat-fields true fs h in (r.0, omega (arith, r.1))
Neat-fields true (Me ∷ fs) h = let r = Neat-fields true fs h in (r.0, omega (arith, r.1))
Neat-fields false (Me ∷ fs) h = let r = Neat-fields true fs h in (r.0, omega (arith, r.1))

Neat-array : (fs : List Field) → nat_le (length fs) MAX_FIELDS ≡ true → list_all is_cyclic_field fs ≡ true → Neat max_member (compact_text (array (fields_data fs)))
Neat-array fs few h = let r = Neat-fields false fs h in let some : length fs ≤ MAX_FIELDS = leb-true _ _ few in (r.0, omega (arith, r.1))

Neat-natural : (n : ℕ) → n ≤ MAX_ID → Neat max_member (compact_text (natural n))
Neat-natural n h = let d = Neat-number n h in (d.0, omega (arith, d.1))

Neat-handle : (n : ℕ) → is_name n ≡ true → Neat max_member (compact_text (natural n))
Neat-handle n h = let small : n ≤ MAX_NAME = leb-true n MAX_NAME h in Neat-natural n (omega arith)

Neat-index : (n : ℕ) → is_index n ≡ true → Neat max_member (compact_text (natural n))
Neat-index n h = let small : n ≤ MAX_INDEX = leb-true n MAX_INDEX h in Neat-natural n (omega arith)

AreNeat-op : (id t : ℕ) (k : Kind) → id ≤ MAX_ID → t ≤ MAX_THREAD → is_kind k ≡ true → AreNeat (members_of (record { id = id; thread = t; kind = k }))
unfolding members_of serde_json_on_literals
AreNeat-op id t (kind.New to fields) low few fits =
    let p = both (is_name to) _ fits in let q = both (nat_le (length fields) MAX_FIELDS) _ p.1 in
    ((refl, omega arith), Neat-array fields q.0 (are_cyclic fields q.1), ((refl, omega arith), Neat-natural id low, ((refl, omega arith), (refl, omega arith), ((refl, omega arith), Neat-natural t (omega arith), ((refl, omega arith), Neat-handle to p.0, tt)))))
AreNeat-op id t (kind.NewCyclic to fields) low few fits =
    let p = both (is_name to) _ fits in let q = both (nat_le (length fields) MAX_FIELDS) _ p.1 in
    ((refl, omega arith), Neat-array fields q.0 q.1, ((refl, omega arith), Neat-natural id low, ((refl, omega arith), (refl, omega arith), ((refl, omega arith), Neat-natural t (omega arith), ((refl, omega arith), Neat-handle to p.0, tt)))))
AreNeat-op id t (kind.NewFrom from to) low few fits =
    let p = both (is_name from) _ fits in
    ((refl, omega arith), Neat-handle from p.0, ((refl, omega arith), Neat-natural id low, ((refl, omega arith), (refl, omega arith), ((refl, omega arith), Neat-natural t (omega arith), ((refl, omega arith), Neat-handle to p.1, tt)))))
AreNeat-op id t (kind.WeakNew to) low few fits = ((refl, omega arith), Neat-natural id low, ((refl, omega arith), (refl, omega arith), ((refl, omega arith), Neat-natural t (omega arith), ((refl, omega arith), Neat-handle to fits, tt))))
AreNeat-op id t (kind.Null to) low few fits = ((refl, omega arith), Neat-natural id low, ((refl, omega arith), (refl, omega arith), ((refl, omega arith), Neat-natural t (omega arith), ((refl, omega arith), Neat-handle to fits, tt))))
AreNeat-op id t (kind.Clone from to) low few fits =
    let p = both (is_name from) _ fits in
    ((refl, omega arith), Neat-handle from p.0, ((refl, omega arith), Neat-natural id low, ((refl, omega arith), (refl, omega arith), ((refl, omega arith), Neat-natural t (omega arith), ((refl, omega arith), Neat-handle to p.1, tt)))))
AreNeat-op id t (kind.Drop h) low few fits = ((refl, omega arith), Neat-handle h fits, ((refl, omega arith), Neat-natural id low, ((refl, omega arith), (refl, omega arith), ((refl, omega arith), Neat-natural t (omega arith), tt))))
AreNeat-op id t (kind.Downgrade from to) low few fits =
    let p = both (is_name from) _ fits in
    ((refl, omega arith), Neat-handle from p.0, ((refl, omega arith), Neat-natural id low, ((refl, omega arith), (refl, omega arith), ((refl, omega arith), Neat-natural t (omega arith), ((refl, omega arith), Neat-handle to p.1, tt)))))
AreNeat-op id t (kind.Upgrade from to) low few fits =
    let p = both (is_name from) _ fits in
    ((refl, omega arith), Neat-handle from p.0, ((refl, omega arith), Neat-natural id low, ((refl, omega arith), (refl, omega arith), ((refl, omega arith), Neat-natural t (omega arith), ((refl, omega arith), Neat-handle to p.1, tt)))))
AreNeat-op id t (kind.TryUnwrap h) low few fits = ((refl, omega arith), Neat-handle h fits, ((refl, omega arith), Neat-natural id low, ((refl, omega arith), (refl, omega arith), ((refl, omega arith), Neat-natural t (omega arith), tt))))
AreNeat-op id t (kind.IntoInner h) low few fits = ((refl, omega arith), Neat-handle h fits, ((refl, omega arith), Neat-natural id low, ((refl, omega arith), (refl, omega arith), ((refl, omega arith), Neat-natural t (omega arith), tt))))
AreNeat-op id t (kind.GetMut h) low few fits = ((refl, omega arith), Neat-handle h fits, ((refl, omega arith), Neat-natural id low, ((refl, omega arith), (refl, omega arith), ((refl, omega arith), Neat-natural t (omega arith), tt))))
AreNeat-op id t (kind.MakeMut h) low few fits = ((refl, omega arith), Neat-handle h fits, ((refl, omega arith), Neat-natural id low, ((refl, omega arith), (refl, omega arith), ((refl, omega arith), Neat-natural t (omega arith), tt))))
AreNeat-op id t (kind.Counts h) low few fits = ((refl, omega arith), Neat-handle h fits, ((refl, omega arith), Neat-natural id low, ((refl, omega arith), (refl, omega arith), ((refl, omega arith), Neat-natural t (omega arith), tt))))
AreNeat-op id t (kind.PtrEq a b) low few fits =
    let p = both (is_name a) _ fits in
    ((refl, omega arith), Neat-handle a p.0, ((refl, omega arith), Neat-handle b p.1, ((refl, omega arith), Neat-natural id low, ((refl, omega arith), (refl, omega arith), ((refl, omega arith), Neat-natural t (omega arith), tt)))))
AreNeat-op id t (kind.Set h i from) low few fits =
    let p = both (is_name h) _ fits in let q = both (is_index i) _ p.1 in
    ((refl, omega arith), Neat-handle from q.1, ((refl, omega arith), Neat-handle h p.0, ((refl, omega arith), Neat-index i q.0, ((refl, omega arith), Neat-natural id low, ((refl, omega arith), (refl, omega arith), ((refl, omega arith), Neat-natural t (omega arith), tt))))))
AreNeat-op id t (kind.Take h i to) low few fits =
    let p = both (is_name h) _ fits in let q = both (is_index i) _ p.1 in
    ((refl, omega arith), Neat-handle h p.0, ((refl, omega arith), Neat-index i q.0, ((refl, omega arith), Neat-natural id low, ((refl, omega arith), (refl, omega arith), ((refl, omega arith), Neat-natural t (omega arith), ((refl, omega arith), Neat-handle to q.1, tt))))))
AreNeat-op id t (kind.Get h i to) low few fits =
    let p = both (is_name h) _ fits in let q = both (is_index i) _ p.1 in
    ((refl, omega arith), Neat-handle h p.0, ((refl, omega arith), Neat-index i q.0, ((refl, omega arith), Neat-natural id low, ((refl, omega arith), (refl, omega arith), ((refl, omega arith), Neat-natural t (omega arith), ((refl, omega arith), Neat-handle to q.1, tt))))))
AreNeat-op id t (kind.CellNew c from) low few fits =
    let p = both (is_name c) _ fits in
    ((refl, omega arith), Neat-handle c p.0, ((refl, omega arith), Neat-handle from p.1, ((refl, omega arith), Neat-natural id low, ((refl, omega arith), (refl, omega arith), ((refl, omega arith), Neat-natural t (omega arith), tt)))))
AreNeat-op id t (kind.CellLoad c to) low few fits =
    let p = both (is_name c) _ fits in
    ((refl, omega arith), Neat-handle c p.0, ((refl, omega arith), Neat-natural id low, ((refl, omega arith), (refl, omega arith), ((refl, omega arith), Neat-natural t (omega arith), ((refl, omega arith), Neat-handle to p.1, tt)))))
AreNeat-op id t (kind.CellSwap c from (Some to)) low few fits =
    let p = both (is_name c) _ fits in let q = both (is_name from) _ p.1 in
    ((refl, omega arith), Neat-handle c p.0, ((refl, omega arith), Neat-handle from q.0, ((refl, omega arith), Neat-natural id low, ((refl, omega arith), (refl, omega arith), ((refl, omega arith), Neat-natural t (omega arith), ((refl, omega arith), Neat-handle to q.1, tt))))))
AreNeat-op id t (kind.CellSwap c from None) low few fits =
    let p = both (is_name c) _ fits in let q = both (is_name from) _ p.1 in
    ((refl, omega arith), Neat-handle c p.0, ((refl, omega arith), Neat-handle from q.0, ((refl, omega arith), Neat-natural id low, ((refl, omega arith), (refl, omega arith), ((refl, omega arith), Neat-natural t (omega arith), tt)))))
AreNeat-op id t (kind.CellCas c expected desired) low few fits =
    let p = both (is_name c) _ fits in let q = both (is_name expected) _ p.1 in
    ((refl, omega arith), Neat-handle c p.0, ((refl, omega arith), Neat-handle desired q.1, ((refl, omega arith), Neat-handle expected q.0, ((refl, omega arith), Neat-natural id low, ((refl, omega arith), (refl, omega arith), ((refl, omega arith), Neat-natural t (omega arith), tt))))))
AreNeat-op id t (kind.CellDrop c) low few fits = ((refl, omega arith), Neat-handle c fits, ((refl, omega arith), Neat-natural id low, ((refl, omega arith), (refl, omega arith), ((refl, omega arith), Neat-natural t (omega arith), tt))))
AreNeat-op id t kind.ScopeEnd low few fits = ((refl, omega arith), Neat-natural id low, ((refl, omega arith), (refl, omega arith), ((refl, omega arith), Neat-natural t (omega arith), tt)))

few_members : (id t : ℕ) (k : Kind) → count (members_of (record { id = id; thread = t; kind = k })) ≤ max_members
unfolding members_of
few_members id t (kind.New to fields) = omega arith
few_members id t (kind.NewCyclic to fields) = omega arith
few_members id t (kind.NewFrom from to) = omega arith
few_members id t (kind.WeakNew to) = omega arith
few_members id t (kind.Null to) = omega arith
few_members id t (kind.Clone from to) = omega arith
few_members id t (kind.Drop h) = omega arith
few_members id t (kind.Downgrade from to) = omega arith
few_members id t (kind.Upgrade from to) = omega arith
few_members id t (kind.TryUnwrap h) = omega arith
few_members id t (kind.IntoInner h) = omega arith
few_members id t (kind.GetMut h) = omega arith
few_members id t (kind.MakeMut h) = omega arith
few_members id t (kind.Counts h) = omega arith
few_members id t (kind.PtrEq a b) = omega arith
few_members id t (kind.Set h i from) = omega arith
few_members id t (kind.Take h i to) = omega arith
few_members id t (kind.Get h i to) = omega arith
few_members id t (kind.CellNew c from) = omega arith
few_members id t (kind.CellLoad c to) = omega arith
few_members id t (kind.CellSwap c from (Some to)) = omega arith
few_members id t (kind.CellSwap c from None) = omega arith
few_members id t (kind.CellCas c expected desired) = omega arith
few_members id t (kind.CellDrop c) = omega arith
few_members id t kind.ScopeEnd = omega arith

-- the line begins with a brace, is short, and has visible characters alone
pub record IsNeatLine (line : List ℕ) : Type 0 where
  pub rest : List ℕ
  pub begins : line ≡ 123 ∷ rest
  pub short : length line ≤ MAX_LINE
  pub visible : list_all is_visible line ≡ true

pub IsNeatLine-line_of : (op : Operation) → is_within_limits op ≡ true → IsNeatLine (line_of op)
IsNeatLine-line_of op h =
    let w = Within-is_within_limits op h in
    let below : op.id ≤ MAX_ID = leb-true _ _ w.high in let small : op.thread ≤ MAX_THREAD = leb-true _ _ w.thread in
    let n = Neat-members false (members_of op) (AreNeat-op op.id op.thread op.kind below small w.kind) in
    record { rest = members_text false (members_of op); begins = refl; short = omega (arith, n.1, few_members op.id op.thread op.kind); visible = n.0 }
