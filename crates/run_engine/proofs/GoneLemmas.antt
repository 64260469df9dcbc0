-- Checkpoints of a loaded run that are given up.
use Rattle.std.proofs.Common.{◌≡◌, ◌≢◌, ℕ, zero, suc, ◌+◌, ◌-◌, ◌*◌, ◌/◌, ◌%◌, ◌<◌, ◌≤◌, Bool, true, false, cond, not, nat_eq, nat_lt, eq-eqb, List, [], ◌∷◌, ◌++◌, length, set, replicate, refl, ap, sym, subst, ◌∙◌, T, arith, lt-ltb, ltb→lt, le-ltb, zero-add}
use Rattle.std.specs.Prelude.{◌&&◌, None, Some, option_to_list, filter, filter_map, get_or, if◌then◌else◌}
use Rattle.std.specs.Option.{option_map_or}
use Rattle.std.specs.List.{range_with_len}
use Rattle.std.proofs.Math.Facts.{eqb_yes}
use Rattle.std.proofs.lemmas.Bool.{ne_eqb}
use Rattle.std.proofs.lemmas.List.{append-nil, get_or-set_same, get_or-set_other}
use Rattle.std.proofs.lemmas.List.Elements.{filter-append, filter_map-append}
use Rattle.trace_types.specs.Operation.{Operation}
use Rattle.trace_types.specs.Trace.{place_of}
use Rattle.mark_shelf.specs.Shelf.{Shelf}
use Rattle.run_engine.specs.RunView.{RunView}
use Rattle.run_engine.specs.Segments.{without}
use Rattle.run_engine.specs.Marks.{multiples_below, load_marks}
use Rattle.run_engine.specs.GivenUp.{given_up, name_at, names_at, IsTouched}
use Rattle.run_engine.specs.inner.Loaded.{is_given_up, kept_below, loaded_view}
use Rattle.run_engine.proofs.LoadLemmas.{multiples_below-next, range-append}
use Rattle.run_engine.proofs.TouchLemmas.{IsTouched-append}
use Rattle.run_engine.proofs.NameLemmas.{due-name}

abbrev is_multiple : ℕ → Bool
is_multiple p = nat_eq (p % 64) 0

-- positions that are left, where none of them is `at`
stay-all : (f m : ℕ → Bool) (at : ℕ) (ps : List ℕ) → ((p : ℕ) → m p ≡ true → nat_eq p at ≡ false) → without at (filter f (filter m ps)) ≡ filter f (filter m ps)
stay-all f m at [] h = refl
stay-all f m at (p ∷ ps) h =
    elim (m p) as (λ b. m p ≡ b → without at (filter f (cond b (p ∷ filter m ps) (filter m ps))) ≡ filter f (cond b (p ∷ filter m ps) (filter m ps))) [
      | true ↦ λ t. elim (f p) as (λ b. without at (cond b (p ∷ filter f (filter m ps)) (filter f (filter m ps))) ≡ cond b (p ∷ filter f (filter m ps)) (filter f (filter m ps))) [
        | true ↦ ap (λ b. cond (not b) (p ∷ without at (filter f (filter m ps))) (without at (filter f (filter m ps)))) (h p t) ∙ ap (λ qs. p ∷ qs) (stay-all f m at ps h)
        | false ↦ stay-all f m at ps h
      ]
      | false ↦ λ _. stay-all f m at ps h
    ] refl

-- positions that are left, where `at` alone goes
goes-alone : (f g m : ℕ → Bool) (at : ℕ) (ps : List ℕ) → g at ≡ false → ((p : ℕ) → m p ≡ true → p ≢ at → g p ≡ f p) → filter g (filter m ps) ≡ without at (filter f (filter m ps))
goes-alone f g m at [] off same = refl
goes-alone f g m at (p ∷ ps) off same =
    let rest : filter g (filter m ps) ≡ without at (filter f (filter m ps)) = goes-alone f g m at ps off same in
    let left : List ℕ = filter f (filter m ps) in
    elim (m p) as (λ b. m p ≡ b → filter g (cond b (p ∷ filter m ps) (filter m ps)) ≡ without at (filter f (cond b (p ∷ filter m ps) (filter m ps)))) [
      | true ↦ λ t. elim (nat_eq p at) as (λ b. nat_eq p at ≡ b → filter g (p ∷ filter m ps) ≡ without at (filter f (p ∷ filter m ps))) [
        | true ↦ λ e.
            let is : p ≡ at = eqb_yes (subst T (sym e) tt) in
            let drops : g p ≡ false = ap g is ∙ off in
            ap (λ b. cond b (p ∷ filter g (filter m ps)) (filter g (filter m ps))) drops ∙ rest
            ∙ sym (elim (f p) as (λ b. without at (cond b (p ∷ filter f (filter m ps)) (filter f (filter m ps))) ≡ without at (filter f (filter m ps))) [
              | true ↦ ap (λ b. cond (not b) (p ∷ without at (filter f (filter m ps))) (without at (filter f (filter m ps)))) e
              | false ↦ refl
            ])
        | false ↦ λ e.
            let ne : p ≢ at = λ is. let y : nat_eq p at ≡ true = eq-eqb p at is in cc in
            ap (λ b. cond b (p ∷ filter g (filter m ps)) (filter g (filter m ps))) (same p t ne) ∙ ap (λ qs. cond (f p) (p ∷ qs) qs) rest
            ∙ sym (elim (f p) as (λ b. without at (cond b (p ∷ filter f (filter m ps)) (filter f (filter m ps))) ≡ cond b (p ∷ without at (filter f (filter m ps))) (without at (filter f (filter m ps)))) [
              | true ↦ ap (λ b. cond (not b) (p ∷ without at (filter f (filter m ps))) (without at (filter f (filter m ps)))) e
              | false ↦ refl
            ])
      ] refl
      | false ↦ λ _. rest
    ] refl

zero-rest : (p : ℕ) → nat_eq (p % 64) 0 ≡ true → p % 64 ≡ 0
zero-rest p h = eqb_yes (subst T (sym h) tt)

gone-there : (gone : List Bool) (at : ℕ) → 0 < at → at / 64 < length gone → is_given_up (set gone (at / 64) true) at ≡ true
gone-there gone at pos lt = ap (λ b. b && get_or (set gone (at / 64) true) (at / 64) false) (lt-ltb 0 at pos) ∙ get_or-set_same gone (at / 64) true false lt

gone-other : (gone : List Bool) (at p : ℕ) → at % 64 ≡ 0 → p % 64 ≡ 0 → p ≢ at → is_given_up (set gone (at / 64) true) p ≡ is_given_up gone p
gone-other gone at p z y ne =
    let apart : p / 64 ≢ at / 64 = λ e. ne (omega arith) in
    ap (λ b. nat_lt 0 p && b) (get_or-set_other gone (at / 64) (p / 64) true false apart)

kept-set : (gone : List Bool) (n at : ℕ) → at % 64 ≡ 0 → 0 < at → at / 64 < length gone → kept_below (set gone (at / 64) true) n ≡ without at (kept_below gone n)
kept-set gone n at z pos lt =
    goes-alone (λ p. not (is_given_up gone p)) (λ p. not (is_given_up (set gone (at / 64) true) p)) is_multiple at (range_with_len 0 n)
    (ap not (gone-there gone at pos lt)) (λ p t ne. ap not (gone-other gone at p z (zero-rest p t) ne))

kept-other : (gone : List Bool) (n at : ℕ) → nat_eq (at % 64) 0 ≡ false → without at (kept_below gone n) ≡ kept_below gone n
kept-other gone n at f = stay-all (λ p. not (is_given_up gone p)) is_multiple at (range_with_len 0 n)
    (λ p t. ne_eqb p at (λ is. let same : nat_eq (p % 64) 0 ≡ nat_eq (at % 64) 0 = ap (λ q. nat_eq (q % 64) 0) is in cc))

-- the end stays
with-end : (at n : ℕ) (ms : List ℕ) → at < n → without at (ms ++ n ∷ []) ≡ without at ms ++ n ∷ []
with-end at n ms lt = filter-append (λ q. not (nat_eq q at)) ms (n ∷ []) ∙ ap (λ b. without at ms ++ cond (not b) (n ∷ []) []) (ne_eqb n at (λ e. omega arith))

pub given-up-at : (trace : List Operation) (marks : List ℕ) (name place : ℕ) (b : Bool) → place_of name trace ≡ Some place → nat_lt (place + 1) (length trace) ≡ b → given_up trace marks name ≡ cond b (without (place + 1) marks) marks
given-up-at trace marks name place b is inner =
    ap (λ o. option_map_or (λ i. if nat_lt (i + 1) (length trace) then without (i + 1) marks else marks) o marks) is ∙ ap (λ c. cond c (without (place + 1) marks) marks) inner

pub goes : (trace : List Operation) (gone : List Bool) (name place : ℕ) → place_of name trace ≡ Some place → (nat_lt (place + 1) (length trace) && nat_eq ((place + 1) % 64) 0) ≡ true → length trace < 64 * length gone
    → (loaded_view trace (set gone ((place + 1) / 64) true)).marks ≡ given_up trace (loaded_view trace gone).marks name
goes trace gone name place is inner room =
    let n : ℕ = length trace in
    elim (nat_lt (place + 1) (length trace)) as (λ b. nat_lt (place + 1) (length trace) ≡ b → (b && nat_eq ((place + 1) % 64) 0) ≡ true → (loaded_view trace (set gone ((place + 1) / 64) true)).marks ≡ given_up trace (loaded_view trace gone).marks name) [
      | true ↦ λ t m.
          let lt : place + 1 < length trace = ltb→lt (place + 1) (length trace) (subst T (sym t) tt) in
          let z : (place + 1) % 64 ≡ 0 = zero-rest (place + 1) m in
          ap (λ ms. ms ++ length trace ∷ []) (kept-set gone (length trace) (place + 1) z (omega arith) (omega arith))
          ∙ sym (given-up-at trace (loaded_view trace gone).marks name place true is t ∙ with-end (place + 1) (length trace) (kept_below gone (length trace)) lt)
      | false ↦ λ t m. cc
    ] refl inner

pub stays : (trace : List Operation) (gone : List Bool) (name place : ℕ) → place_of name trace ≡ Some place → (nat_lt (place + 1) (length trace) && nat_eq ((place + 1) % 64) 0) ≡ false
    → (loaded_view trace gone).marks ≡ given_up trace (loaded_view trace gone).marks name
stays trace gone name place is inner =
    elim (nat_lt (place + 1) (length trace)) as (λ b. nat_lt (place + 1) (length trace) ≡ b → (b && nat_eq ((place + 1) % 64) 0) ≡ false → (loaded_view trace gone).marks ≡ given_up trace (loaded_view trace gone).marks name) [
      | true ↦ λ t m.
          let lt : place + 1 < length trace = ltb→lt (place + 1) (length trace) (subst T (sym t) tt) in
          sym (given-up-at trace (loaded_view trace gone).marks name place true is t ∙ with-end (place + 1) (length trace) (kept_below gone (length trace)) lt
          ∙ ap (λ ms. ms ++ length trace ∷ []) (kept-other gone (length trace) (place + 1) m))
      | false ↦ λ t m. sym (given-up-at trace (loaded_view trace gone).marks name place false is t)
    ] refl inner

pub nowhere : (trace : List Operation) (gone : List Bool) (name : ℕ) → place_of name trace ≡ None → (loaded_view trace gone).marks ≡ given_up trace (loaded_view trace gone).marks name
nowhere trace gone name is =
    let marks : List ℕ = (loaded_view trace gone).marks in
    sym (ap (λ o. option_map_or (λ i. if nat_lt (i + 1) (length trace) then without (i + 1) marks else marks) o marks) is)

-- where nothing is given up
get-false : (k i : ℕ) → get_or (replicate k false) i false ≡ false
get-false zero i = get-none i
  where
    get-none : (i : ℕ) → get_or [] i false ≡ false
    get-none zero = refl
    get-none (suc i) = refl
get-false (suc k) zero = refl
get-false (suc k) (suc i) = get-false k i

none-gone : (k p : ℕ) → is_given_up (replicate k false) p ≡ false
none-gone k p = elim (nat_lt 0 p) as (λ b. (b && get_or (replicate k false) (p / 64) false) ≡ false) [ true ↦ get-false k (p / 64) | false ↦ refl ]

keep-all : (k : ℕ) (ps : List ℕ) → filter (λ p. not (is_given_up (replicate k false) p)) ps ≡ ps
keep-all k [] = refl
keep-all k (p ∷ ps) = ap (λ b. cond (not b) (p ∷ filter (λ q. not (is_given_up (replicate k false) q)) ps) (filter (λ q. not (is_given_up (replicate k false) q)) ps)) (none-gone k p) ∙ ap (λ qs. p ∷ qs) (keep-all k ps)

names-append : (trace : List Operation) (ms more : List ℕ) → names_at trace (ms ++ more) ≡ names_at trace ms ++ names_at trace more
names-append trace ms more =
    let inner : ℕ → Bool = λ p. nat_lt p (length trace) in
    ap (filter_map (name_at trace)) (filter-append inner ms more) ∙ filter_map-append (name_at trace) (filter inner ms) (filter inner more)

names-zero : (trace : List Operation) → names_at trace (0 ∷ []) ≡ []
names-zero trace = elim (nat_lt 0 (length trace)) as (λ b. filter_map (name_at trace) (cond b (0 ∷ []) []) ≡ []) [ true ↦ refl | false ↦ refl ]

names-first : (trace : List Operation) → names_at trace (multiples_below 64) ≡ []
names-first trace = ap (names_at trace) (multiples_below-next 0 64 refl (omega arith) (omega arith)) ∙ names-zero trace

-- touches of the names up to a position
pub IsTouched-first : (trace : List Operation) (shelf : Shelf) (k : ℕ) → IsTouched (record { trace = trace; marks = load_marks (length trace) }) (loaded_view trace (replicate k false)) shelf shelf (names_at trace (multiples_below 64))
IsTouched-first trace shelf k =
    subst (IsTouched (record { trace = trace; marks = load_marks (length trace) }) (loaded_view trace (replicate k false)) shelf shelf) (sym (names-first trace))
    (record { gone = []; touches = (refl, refl); trace = refl; marks = ap (λ ms. ms ++ length trace ∷ []) (keep-all k (multiples_below (length trace))) })

pub IsTouched-further : (trace : List Operation) (all r s : RunView) (a b c : Shelf) (at name : ℕ) → at < length trace → at % 64 ≡ 0 → name_at trace at ≡ Some name
    → IsTouched all r a b (names_at trace (multiples_below at)) → IsTouched r s b c (name ∷ []) → IsTouched all s a c (names_at trace (multiples_below (at + 64)))
IsTouched-further trace all r s a b c at name lt z is h k =
    let one : names_at trace (at ∷ []) ≡ name ∷ [] = due-name trace at true lt ∙ ap option_to_list is in
    let more : names_at trace (multiples_below (at + 64)) ≡ names_at trace (multiples_below at) ++ name ∷ [] =
    ap (names_at trace) (multiples_below-next at 64 z (omega arith) (omega arith)) ∙ names-append trace (multiples_below at) (at ∷ []) ∙ ap (λ xs. names_at trace (multiples_below at) ++ xs) one in
    subst (IsTouched all s a c) (sym more) (IsTouched-append all r s a b c (names_at trace (multiples_below at)) (name ∷ []) h k)

outer : (m : ℕ → Bool) (n a k : ℕ) → n ≤ a → filter (λ p. nat_lt p n) (filter m (range_with_len a k)) ≡ []
outer m n a zero le = refl
outer m n a (suc k) le =
    elim (m a) as (λ b. filter (λ p. nat_lt p n) (cond b (a ∷ filter m (range_with_len (a + 1) k)) (filter m (range_with_len (a + 1) k))) ≡ []) [
      | true ↦ ap (λ b. cond b (a ∷ filter (λ p. nat_lt p n) (filter m (range_with_len (a + 1) k))) (filter (λ p. nat_lt p n) (filter m (range_with_len (a + 1) k)))) (le-ltb a n le) ∙ outer m n (a + 1) k (omega arith)
      | false ↦ outer m n (a + 1) k (omega arith)
    ]

names-past : (trace : List Operation) (at : ℕ) → length trace ≤ at → names_at trace (multiples_below at) ≡ names_at trace (multiples_below (length trace))
names-past trace at le =
    let n : ℕ = length trace in
    let long : at ≡ length trace + (at - length trace) = omega arith in
    let start : 0 + length trace ≡ length trace = zero-add (length trace) in
    ap (λ k. names_at trace (filter is_multiple (range_with_len 0 k))) long
    ∙ ap (λ ps. names_at trace (filter is_multiple ps)) (range-append 0 (length trace) (at - length trace))
    ∙ ap (names_at trace) (filter-append is_multiple (range_with_len 0 (length trace)) (range_with_len (0 + length trace) (at - length trace)))
    ∙ names-append trace (multiples_below (length trace)) (filter is_multiple (range_with_len (0 + length trace) (at - length trace)))
    ∙ ap (λ ps. names_at trace (multiples_below (length trace)) ++ filter_map (name_at trace) ps) (outer is_multiple (length trace) (0 + length trace) (at - length trace) (omega arith))
    ∙ append-nil (names_at trace (multiples_below (length trace)))

names-loaded : (trace : List Operation) → names_at trace (load_marks (length trace)) ≡ names_at trace (multiples_below (length trace))
names-loaded trace =
    names-append trace (multiples_below (length trace)) (length trace ∷ [])
    ∙ ap (λ b. names_at trace (multiples_below (length trace)) ++ filter_map (name_at trace) (cond b (length trace ∷ []) [])) (le-ltb (length trace) (length trace) (omega arith))
    ∙ append-nil (names_at trace (multiples_below (length trace)))

pub IsTouched-whole : (trace : List Operation) (all r : RunView) (a b : Shelf) (at : ℕ) → length trace ≤ at → IsTouched all r a b (names_at trace (multiples_below at)) → IsTouched all r a b (names_at trace (load_marks (length trace)))
IsTouched-whole trace all r a b at le h = subst (IsTouched all r a b) (names-past trace at le ∙ sym (names-loaded trace)) h
