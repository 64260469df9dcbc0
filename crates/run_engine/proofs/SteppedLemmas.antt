-- How many operations are stepped at least.
use Rattle.std.proofs.Common.{◌≡◌, ℕ, ◌+◌, ◌-◌, ◌<◌, ◌≤◌, List, [], ◌∷◌, ◌++◌, length, take, drop, refl, ap, sym, subst, ◌∙◌, arith, length-append}
use Rattle.std.specs.Prelude.{Contains, slice_range, ◌||◌}
use mathlib.Core.Logic.{⊎_elim, inl, inr}
use Rattle.std.proofs.lemmas.Bool.{cases_lt}
use Rattle.trace_types.specs.Operation.{Operation}
use Rattle.ownership_model.specs.State.{State, nothing_held}
use Rattle.ownership_model.specs.Step.{end_from}
use Rattle.op_step.specs.Meter.{raised}
use Rattle.op_step.specs.Chunk.{Chunk}
use Rattle.run_engine.specs.Memo.{IsAmong, AreSome}
use Rattle.run_engine.specs.Bounds.{AgreesAt}
use Rattle.std.specs.List.{AllByRecursion}
use Rattle.ownership_model.specs.Alike.{AreWithin}
use Rattle.ownership_model.specs.Near.{is_object_of, AreNear, AreBlindFrom}
use Rattle.ownership_model.specs.Footprint.{footprints_from, moved_from}
use Rattle.run_engine.specs.Steps.{IsOldStretch, IsUntouchedStretch, IsKnown, AreTaken, IsCovered, AreRising, HaveStepped, EditedReplay, MustStep, AreStepped}
use Rattle.run_engine.proofs.ListingLemmas.{take-shorter}

AllByRecursion-prefix : (P : ℕ → Type 0) (a b : List ℕ) → AllByRecursion P (a ++ b) → AllByRecursion P a
AllByRecursion-prefix P [] b h = tt
AllByRecursion-prefix P (x ∷ a) b h = (h.0, AllByRecursion-prefix P a b h.1)

AllByRecursion-back : (P : ℕ → Type 0) (a b : List ℕ) → AllByRecursion P (a ++ b) → AllByRecursion P b
AllByRecursion-back P [] b h = h
AllByRecursion-back P (x ∷ a) b h = AllByRecursion-back P a b h.1

AllByRecursion-map : (P Q : ℕ → Type 0) → ((p : ℕ) → P p → Q p) → (ps : List ℕ) → AllByRecursion P ps → AllByRecursion Q ps
AllByRecursion-map P Q f [] h = tt
AllByRecursion-map P Q f (p ∷ ps) h = (f p h.0, AllByRecursion-map P Q f ps h.1)

-- rising numbers are no more than fit
rising-few : (ps : List ℕ) (from to : ℕ) → from ≤ to → AreRising from to ps → from + length ps ≤ to
rising-few [] from to le h = omega arith
rising-few (p ∷ ps) from to le h =
    let first : from ≤ p = h.0 in
    let below : p < to = h.1 in
    let rest : p + 1 + length ps ≤ to = rising-few ps (p + 1) to (omega arith) h.2 in
    omega arith

-- rising numbers on either side of a place
record IsSplit (from at to : ℕ) (ps : List ℕ) : Type 0 where
  prefix : List ℕ
  back : List ℕ
  whole : ps ≡ prefix ++ back
  before : AreRising from at prefix
  behind : AreRising at to back

split : (ps : List ℕ) (from at to : ℕ) → AreRising from to ps → IsSplit from at to ps
split [] from at to h = record { prefix = []; back = []; whole = refl; before = tt; behind = tt }
split (p ∷ ps) from at to h = ⊎_elim
    (λ (lt : p < at).
    let rest : IsSplit (p + 1) at to ps = split ps (p + 1) at to h.2 in
    record { prefix = p ∷ rest.prefix; back = rest.back; whole = ap (λ qs. p ∷ qs) rest.whole; before = (h.0, lt, rest.before); behind = rest.behind })
    (λ (le : at ≤ p). record { prefix = []; back = p ∷ ps; whole = refl; before = tt; behind = (le, h.1, h.2) })
    (cases_lt p at)

-- each of the numbers is below another place
narrowed : (ps : List ℕ) (from to x : ℕ) → AreRising from to ps → AllByRecursion (λ p. p < x) ps → AreRising from x ps
narrowed [] from to x h k = tt
narrowed (p ∷ ps) from to x h k = (h.0, k.0, narrowed ps (p + 1) to x h.2 k.1)

none-covered : (old ops : List Operation) (marks : List ℕ) (chunks : List (ℕ × Chunk)) (at len : ℕ) (ps : List ℕ) → IsKnown old marks chunks (end_from nothing_held (take at ops)) (drop at ops) len
    → AreRising at (at + len) ps → AllByRecursion (λ p. IsCovered old ops marks chunks p → ⊥) ps → length ps ≡ 0
none-covered old ops marks chunks at len [] stretch h bare = refl
none-covered old ops marks chunks at len (p ∷ ps) stretch h bare = absurd (bare.0 (record { at = at; len = len; from_there = h.0; before_end = h.1; stretch = stretch }))

pub HaveStepped-none : (old ops : List Operation) (marks : List ℕ) (chunks : List (ℕ × Chunk)) (r before : ℕ) → HaveStepped old ops marks chunks r r before before
HaveStepped-none old ops marks chunks r before ps h bare = let few : r + length ps ≤ r = rising-few ps r r (omega arith) h in omega arith

-- a stretch that is untouched beside a part of the operations is so beside all from there on
wider-untouched : (old : List Operation) (marks : List ℕ) (start heap : State) (ops : List Operation) (at to len : ℕ) → heap ≡ start → len ≤ to - at
    → IsUntouchedStretch old marks heap (slice_range ops at to) len → IsUntouchedStretch old marks start (drop at ops) len
wider-untouched old marks start heap ops at to len is le h =
    let same : take len (slice_range ops at to) ≡ take len (drop at ops) = take-shorter len (to - at) (drop at ops) le in
    let m : State = end_from nothing_held (take h.at old) in
    record {
      at = h.at;
      place = h.place;
      ops_are = h.ops_are ∙ same;
      keys = h.keys;
      objects = h.objects;
      loose = h.loose;
      near = subst (AreNear h.keys h.objects h.loose m) is h.near;
      blind = subst (AreBlindFrom h.objects h.loose m) same h.blind;
      within = subst (λ os. AreWithin (λ x. is_object_of h.objects x || h.keys x) (footprints_from m os ++ moved_from m os)) same h.within;
    }

-- what is known of a part of the operations is known of all from there on, and to whoever has more chunks
wider : (old : List Operation) (marks : List ℕ) (some chunks : List (ℕ × Chunk)) (start heap : State) (ops : List Operation) (at to len : ℕ) → heap ≡ start → len ≤ to - at
    → AreSome some chunks → IsKnown old marks some heap (slice_range ops at to) len → IsKnown old marks chunks start (drop at ops) len
wider old marks some chunks start heap ops at to len is le all known = ⊎_elim
    (⊎_elim
    (λ (h : IsOldStretch old marks heap (slice_range ops at to) len). inl (inl (record { place = h.place; start_is = sym is ∙ h.start_is; ops_are = h.ops_are ∙ take-shorter len (to - at) (drop at ops) le })))
    (λ (h : IsUntouchedStretch old marks heap (slice_range ops at to) len). inl (inr (wider-untouched old marks start heap ops at to len is le h))))
    (λ (h : IsAmong some heap (take len (slice_range ops at to))).
    let same : record { start = heap; ops = take len (slice_range ops at to) } ≡ record { start = start; ops = take len (drop at ops) } = λ i. record { start = is i; ops = take-shorter len (to - at) (drop at ops) le i } in
    inr (h.0, all (h.0, record { start = start; ops = take len (drop at ops) }) (subst (λ (d : Chunk). Contains some (h.0, d)) same h.1)))
    known

pub HaveStepped-next : (old ops : List Operation) (marks : List ℕ) (some chunks : List (ℕ × Chunk)) (heap : State) (r at to len before count counted : ℕ) → heap ≡ end_from nothing_held (take at ops) → len ≤ to - at
    → AreSome some chunks → AreTaken old marks some heap (slice_range ops at to) len count counted → HaveStepped old ops marks chunks r at before count → HaveStepped old ops marks chunks r (at + len) before counted
HaveStepped-next old ops marks some chunks heap r at to len before count counted is le all taken h ps rising bare =
    let parts : IsSplit r at (at + len) ps = split ps r at (at + len) rising in
    let both : AllByRecursion (λ p. IsCovered old ops marks chunks p → ⊥) (parts.prefix ++ parts.back) = subst (AllByRecursion (λ p. IsCovered old ops marks chunks p → ⊥)) parts.whole bare in
    let first : raised before (length parts.prefix) ≤ count = h parts.prefix parts.before (AllByRecursion-prefix (λ p. IsCovered old ops marks chunks p → ⊥) parts.prefix parts.back both) in
    let few : at + length parts.back ≤ at + len = rising-few parts.back at (at + len) (omega arith) parts.behind in
    let long : length ps ≡ length parts.prefix + length parts.back = ap length parts.whole ∙ length-append parts.prefix parts.back in
    ⊎_elim
    (λ (t : IsKnown old marks some heap (slice_range ops at to) len × (counted ≡ count)).
    let none : length parts.back ≡ 0 = none-covered old ops marks chunks at len parts.back (wider old marks some chunks (end_from nothing_held (take at ops)) heap ops at to len is le all t.0) parts.behind (AllByRecursion-back (λ p. IsCovered old ops marks chunks p → ⊥) parts.prefix parts.back both) in
    let same : counted ≡ count = t.1 in
    omega arith)
    (λ (e : counted ≡ raised count len). omega arith)
    taken

pub AreStepped-stop : (x : EditedReplay) (r to q before after : ℕ) → to ≡ q - x.base + x.edited → Contains x.marks q → x.base ≤ q → AgreesAt x.old x.ops x.base x.edited q
    → HaveStepped x.old x.ops x.marks x.chunks r to before after → AreStepped x r before after
AreStepped-stop x r to q before after there mark behind agrees h ps rising must =
    h ps (narrowed ps r (length x.ops) to rising (AllByRecursion-map (MustStep x) (λ p. p < to) (λ p m. let lt : p < q - x.base + x.edited = m.early q mark behind agrees in omega arith) ps must))
    (AllByRecursion-map (MustStep x) (λ p. IsCovered x.old x.ops x.marks x.chunks p → ⊥) (λ p m. m.bare) ps must)

pub AreStepped-end : (x : EditedReplay) (r to before after : ℕ) → to ≡ length x.ops → HaveStepped x.old x.ops x.marks x.chunks r to before after → AreStepped x r before after
AreStepped-end x r to before after there h ps rising must =
    h ps (subst (λ n. AreRising r n ps) (sym there) rising) (AllByRecursion-map (MustStep x) (λ p. IsCovered x.old x.ops x.marks x.chunks p → ⊥) (λ p m. m.bare) ps must)
