-- The objects that were given, one after another.
use Rattle.std.proofs.Common.{◌≡◌, ℕ, zero, suc, ◌+◌, ◌<◌, ◌≤◌, List, [], ◌∷◌, ◌++◌, length, get_or, set, take, drop, replicate, refl, sym, ap, ◌∙◌, subst, arith, append-nil, Bool, true, false}
use Rattle.std.specs.Prelude.{Option, Some, None, ◌↔◌, is_some, slice_index_or, if◌then◌else◌}
use Rattle.std.specs.List.{All, AllByRecursion}
use Rattle.std.proofs.lemmas.List.{take_more, drop_more, drop_all}
use Rattle.std.proofs.lemmas.List.Elements.{All-from_recursion}
use Rattle.trace_types.specs.Operation.{Operation}
use Rattle.ownership_model.specs.State.{State, nothing_held}
use Rattle.ownership_model.specs.Step.{end_from}
use Rattle.ownership_model.specs.Reach.{has}
use Rattle.retention_model.specs.declared.totals.Totals.{Totals}
use Rattle.retention.specs.declared.graph.Graph.{Graph}
use Rattle.retention.specs.declared.ending.Ending.{Ending}
use Rattle.retention.specs.Graph.{size}
use Rattle.retention.specs.Pictured.{AreTheMarked, IsAskedAt, IsShownAt}
use Rattle.retention.specs.Endings.{IsEndOf}
use Rattle.retention.specs.Ends.{AreTotals}
use Rattle.retention.proofs.ShownSteps.{shown_more}
use Rattle.retention_report.specs.Drawn.{index_in, indices_in, listed, first_absent, AreShownAt, IsDrawnText, drawn_text}
use Rattle.retention_report.proofs.DrawLemmas.{flat_append, index_found}

pub indices_more : (os given : List ℕ) (i o : ℕ) (before after : List ℕ) → i < length given → o ≡ get_or given i 0 → before ≡ indices_in os (take i given) → after ≡ before ++ listed (index_in os o) → after ≡ indices_in os (take (i + 1) given)
indices_more os given i o before after h is b a =
    a ∙ ap (λ xs. xs ++ listed (index_in os o)) b ∙ ap (λ k. indices_in os (take i given) ++ listed (index_in os k)) is
    ∙ sym (ap (indices_in os) (take_more given i 0 h) ∙ flat_append (λ k. listed (index_in os k)) (take i given) (get_or given i 0 ∷ []) ∙ ap (λ xs. indices_in os (take i given) ++ xs) (append-nil (listed (index_in os (get_or given i 0)))))

one_within : (g : Graph) (o : ℕ) (x : Option ℕ) (rest : List ℕ) → index_in g.objects.items o ≡ x → AllByRecursion (λ i. i < size g) rest → AllByRecursion (λ i. i < size g) (listed x ++ rest)
one_within g o None rest e all = all
one_within g o (Some i) rest e all = ((index_found g.objects.items o i e).0, all)

each_within : (g : Graph) (given : List ℕ) → AllByRecursion (λ i. i < size g) (indices_in g.objects.items given)
each_within g [] = tt
each_within g (o ∷ given) = one_within g o (index_in g.objects.items o) (indices_in g.objects.items given) refl (each_within g given)

pub indices_within : (g : Graph) (given : List ℕ) → All (λ i. i < size g) (indices_in g.objects.items given)
indices_within g given = All-from_recursion (λ i. i < size g) (indices_in g.objects.items given) (each_within g given)

-- the first of some numbers that none of these has
pub absent_next : (os given : List ℕ) (i o : ℕ) → i < length given → o ≡ get_or given i o → is_some (index_in os o) ≡ true → first_absent os (drop (i + 1) given) ≡ first_absent os (drop i given)
absent_next os given i o h is there =
    sym (ap (λ b. if b then first_absent os (drop (i + 1) given) else Some o) there) ∙ sym (ap (first_absent os) (drop_more given i o h ∙ ap (λ k. k ∷ drop (i + 1) given) (sym is)))

pub absent_found : (os given : List ℕ) (i o : ℕ) → i < length given → o ≡ get_or given i o → is_some (index_in os o) ≡ false → first_absent os (drop i given) ≡ Some o
absent_found os given i o h is gone =
    ap (first_absent os) (drop_more given i o h ∙ ap (λ k. k ∷ drop (i + 1) given) (sym is)) ∙ ap (λ b. if b then first_absent os (drop (i + 1) given) else Some o) gone

pub absent_none : (os given : List ℕ) (i : ℕ) → length given ≤ i → first_absent os (drop i given) ≡ None
absent_none os given i past = ap (first_absent os) (drop_all i given past)

-- marks of the first of some numbers, with that of one more
pub none_marked : (n i : ℕ) → slice_index_or (replicate n false) i false ≡ false
none_marked zero i = refl
none_marked (suc n) zero = refl
none_marked (suc n) (suc i) = none_marked n i

pub marks_more : (marks : List Bool) (indices : List ℕ) (k t : ℕ) → k < length indices → t ≡ get_or indices k 0 → t < length marks → ((i : ℕ) → slice_index_or marks i false ≡ has i (take k indices))
    → (i : ℕ) → slice_index_or (set marks t true) i false ≡ has i (take (k + 1) indices)
marks_more marks indices k t h is inside are =
    subst (λ (xs : List ℕ). AreTheMarked xs (set marks t true)) (ap (λ x. take k indices ++ x ∷ []) is ∙ sym (take_more indices k 0 h)) (shown_more (take k indices) marks t inside are)

-- What is marked as shown.

pub all_long : (n : ℕ) (marks : List Bool) → marks ≡ replicate n true → length marks ≡ n
all_long n marks is = ap length is ∙ long n
  where
    long : (k : ℕ) → length (replicate k true) ≡ k
    long zero = refl
    long (suc k) = let more : length (replicate k true) ≡ k = long k in omega (arith, more)

pub shown_all : (with_all : Bool) (e : Ending) (given : List ℕ) (marks : List Bool) → with_all ≡ true → marks ≡ replicate (size e.graph) true → AreShownAt with_all e given marks
shown_all true e given marks option is = is
shown_all false e given marks option is = absurd cc

pub shown_some : (with_all : Bool) (e : Ending) (given : List ℕ) (leaked marks : List Bool) → with_all ≡ false → leaked ≡ e.leaked.items
    → ((i : ℕ) → (slice_index_or marks i false ≡ true) ↔ IsShownAt e.graph (IsAskedAt e.graph leaked given) i) → AreShownAt with_all e given marks
shown_some true e given leaked marks option same is = absurd cc
shown_some false e given leaked marks option same is = subst (λ (ls : List Bool). (i : ℕ) → (slice_index_or marks i false ≡ true) ↔ IsShownAt e.graph (IsAskedAt e.graph ls given) i) same is

-- The whole.

pub drawn_told : (with_all : Bool) (m : State) (e : Ending) (os given_at shown_at : List ℕ) (shown given shown' given' : List Bool) (text old : List ℕ)
    → given_at ≡ indices_in e.graph.objects.items os → shown_at ≡ indices_in e.graph.objects.items os → length shown ≡ size e.graph → AreShownAt with_all e shown_at shown
    → ((i : ℕ) → slice_index_or given i false ≡ has i given_at) → shown' ≡ shown → given' ≡ given → old ≡ []
    → (t : Totals) × ((ops : List Operation) → IsEndOf ops e → AreTotals (end_from nothing_held ops) t) × (text ≡ old ++ drawn_text e m shown' given' t) → IsDrawnText with_all m e os text
drawn_told with_all m e os given_at shown_at shown given shown' given' text old p q long are each r s none it = (
  shown,
  given,
  it.0,
  long,
  subst (λ (xs : List ℕ). AreShownAt with_all e xs shown) q are,
  λ i. each i ∙ ap (has i) p,
  it.1,
  it.2 ∙ ap (λ xs. xs ++ drawn_text e m shown' given' it.0) none ∙ ap (λ ss. drawn_text e m ss given' it.0) r ∙ ap (λ gs. drawn_text e m shown gs it.0) s,
)
