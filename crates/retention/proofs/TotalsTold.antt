-- How many objects leaked, how many cycles they form and how many husks are left, by the numbers of a graph.
use Rattle.std.proofs.Common.{◌≡◌, ℕ, suc, ◌+◌, ◌<◌, ◌≤◌, ◌≢◌, List, [], ◌∷◌, length, get_or, map, refl, sym, ap, ◌∙◌, subst, arith, Bool, true, false, inl, inr, cond}
use Rattle.std.specs.Prelude.{Option, Some, None, ◌⊎◌, ◌==◌, ◌&&◌, not, filter, count_by, is_some, slice_index, slice_index_or, if◌then◌else◌}
use Rattle.std.proofs.lemmas.Bool.Decides.{nat_tests}
use Rattle.std.proofs.lemmas.List.Sums.{length-filter, sum_by-cons}
use Rattle.std.specs.FinMap.{get, keys, contains_key-keys}
use Rattle.trace_types.specs.declared.slots.Entry.{Entry}
use Rattle.trace_types.specs.declared.slots.Entry.TheVariants.{Alive, Husk}
use Rattle.trace_types.specs.Operation.{Operation}
use Rattle.ownership_model.specs.State.{nothing_held, is_alive}
use Rattle.ownership_model.specs.Step.{end_from}
use Rattle.ownership_model.specs.Release.{is_husk}
use Rattle.ownership_model.specs.Leaks.{IsLeaked}
use Rattle.ownership_model.specs.Reach.{has}
use Rattle.ownership_model.proofs.Searching.{has_as_any}
use Rattle.retention_model.specs.Since.{since_from}
use Rattle.retention_model.specs.declared.totals.Totals.{Totals}
use Rattle.retention_model.specs.Cycles as state
use Rattle.retention_model.specs.Cycles.{IsInCycle, AreInOneCycle}
use Rattle.retention_model.proofs.StayLemmas as model
use Rattle.retention.specs.declared.ending.Ending.{Ending}
use Rattle.retention.specs.Layout.{upto}
use Rattle.retention.specs.Graph.{size, object_at}
use Rattle.retention.specs.Walked.{Keeps}
use Rattle.retention.specs.Components.{AreTogether, IsCyclic}
use Rattle.retention.specs.Dating.{is_marked}
use Rattle.retention.specs.Retaining.{AreApart}
use Rattle.retention.specs.Endings.{IsEnding, IsEndOf}
use Rattle.retention.specs.Ends.{AreAll, IsLeastInCycle, AreTotals}
use Rattle.retention.proofs.JoinSteps.{has_kept, kept_has, has_upto, upto_has}
use Rattle.retention.proofs.DatingLemmas.{same_or_not}
use Rattle.retention.proofs.GraphLaws.{object_index, keeps_told}
use Rattle.retention.proofs.CycleLaws.{leaked_keeper}
use Rattle.retention.proofs.AccountLemmas.{rising_apart, has_map, map_has, index_has, objects_count}
use Rattle.std.proofs.lemmas.List.FromFn.{length-range_with_len, get_or-range_with_len}
use Rattle.retention.proofs.SinceTold.{alive_key}
use Rattle.retention.proofs.AccountsTold.{leaked_told, cyclic_told}

-- two lists that are told alike
count_bools : (f : Bool → Bool) (t : ℕ → Bool) (bs : List Bool) (ys : List ℕ) → length bs ≡ length ys → ((j : ℕ) → j < length bs → f (get_or bs j false) ≡ t (get_or ys j 0)) → count_by f bs ≡ count_by t ys
count_bools f t [] [] e h = refl
count_bools f t [] (y ∷ ys) e h = absurd (omega (arith, e))
count_bools f t (b ∷ bs) [] e h = absurd (omega (arith, e))
count_bools f t (b ∷ bs) (y ∷ ys) e h =
    let n : length bs ≡ length ys = omega (arith, e) in
    let rest : count_by f bs ≡ count_by t ys = count_bools f t bs ys n (λ j l. h (suc j) (omega (arith, l))) in
    sum_by-cons (λ z. cond (f z) 1 0) b bs ∙ ap (λ k. cond (f b) 1 0 + k) rest ∙ ap (λ x. cond x 1 0 + count_by t ys) (h 0 (omega arith)) ∙ sym (sum_by-cons (λ z. cond (t z) 1 0) y ys)

pub same_bool : (a b : Bool) → (a ≡ true → b ≡ true) → (b ≡ true → a ≡ true) → a ≡ b
same_bool true b f g = sym (f refl)
same_bool false true f g = g refl
same_bool false false f g = refl

husk_dead : (e : Option Entry) → is_some e ≡ true → not (is_alive e) ≡ is_husk e
husk_dead None there = absurd cc
husk_dead (Some (Alive fields)) there = refl
husk_dead (Some Husk) there = refl

apart_filter : (test : ℕ → Bool) (xs : List ℕ) → AreApart xs → AreApart (filter test xs)
apart_filter test [] apart = tt
apart_filter test (x ∷ xs) apart = by_test (test x) (apart_filter test xs apart.1)
  where
    not_in : (b : Bool) → has x (filter test xs) ≡ b → b ≡ false
    not_in true h = absurd (let in_all : has x xs ≡ true = (kept_has test xs x h).1 in let out : has x xs ≡ false = apart.0 in cc)
    not_in false h = refl

    by_test : (b : Bool) → AreApart (filter test xs) → AreApart (if b then x ∷ filter test xs else filter test xs)
    by_test true rest = (not_in (has x (filter test xs)) refl, rest)
    by_test false rest = rest

upto_apart : (n : ℕ) → AreApart (upto n)
upto_apart n =
    rising_apart (upto n)
    (λ i j less there. let long : length (upto n) ≡ n = length-range_with_len 0 n in omega (arith, get_or-range_with_len 0 n i 0 (omega (arith, less, there, long)), get_or-range_with_len 0 n j 0 (omega (arith, there, long)), less))

and_both : (a b : Bool) → (a && b) ≡ true → (a ≡ true) × (b ≡ true)
and_both true b h = (refl, h)
and_both false b h = absurd cc

both_and : (a b : Bool) → a ≡ true → b ≡ true → (a && b) ≡ true
both_and true b p q = q
both_and false b p q = absurd cc

number : (a b : ℕ) → (a == b) ≡ true → a ≡ b
number a b e = grind (arith, nat_tests, e)

test : (a b : ℕ) → a ≡ b → (a == b) ≡ true
test a b e = grind (arith, nat_tests, e)

module _ (ops : List Operation) (e : Ending) (of : IsEndOf ops e) (ending : IsEnding e) where
  leaks_told : (t : ℕ) → t ≡ count_by (λ b. b) e.leaked.items → (os : List ℕ) × AreAll (end_from nothing_held ops) (IsLeaked (end_from nothing_held ops)) os × (t ≡ length os)
  leaks_told t is = (
    filter (model.leaks (end_from nothing_held ops)) (keys (end_from nothing_held ops).objects),
    (model.leaks (end_from nothing_held ops), λ o. (model.told_leaked (end_from nothing_held ops) o, model.leaked_told (end_from nothing_held ops) o), refl),
    is ∙ count_bools (λ b. b) (model.leaks (end_from nothing_held ops)) e.leaked.items e.graph.objects.items ending.long
        (λ j less. same_bool (is_marked e.leaked.items j) (model.is_leaked (end_from nothing_held ops) (object_at e.graph j))
        (λ marked. model.leaked_told (end_from nothing_held ops) (object_at e.graph j) ((leaked_told ops e of ending j (omega (arith, less, ending.long))).0 marked))
        (λ leaks. (leaked_told ops e of ending j (omega (arith, less, ending.long))).1 (model.told_leaked (end_from nothing_held ops) (object_at e.graph j) leaks)))
        ∙ sym (length-filter (model.leaks (end_from nothing_held ops)) e.graph.objects.items) ∙ ap (λ ks. length (filter (model.leaks (end_from nothing_held ops)) ks)) of.1.objects,
  )

  pub there : (i : ℕ) → i < size e.graph → is_some (get (end_from nothing_held ops).objects (object_at e.graph i)) ≡ true
  there i within =
      contains_key-keys (end_from nothing_held ops).objects (object_at e.graph i) ∙ has_as_any (object_at e.graph i) (keys (end_from nothing_held ops).objects)
      ∙ subst (λ ks. has (object_at e.graph i) ks ≡ true) of.1.objects (index_has e.graph.objects.items i within)

  husks_told : (t : ℕ) → t ≡ count_by not e.graph.alive.items → (os : List ℕ) × AreAll (end_from nothing_held ops) (λ o. is_husk (get (end_from nothing_held ops).objects o) ≡ true) os × (t ≡ length os)
  husks_told t is = (
    filter (λ o. is_husk (get (end_from nothing_held ops).objects o)) (keys (end_from nothing_held ops).objects),
    ((λ o. is_husk (get (end_from nothing_held ops).objects o)), λ o. ((λ h. h), (λ h. h)), refl),
    is ∙ count_bools not (λ o. is_husk (get (end_from nothing_held ops).objects o)) e.graph.alive.items e.graph.objects.items e.graph.laid.alive_long
        (λ j less. ap not (of.1.alive j (omega (arith, less, e.graph.laid.alive_long))) ∙ husk_dead (get (end_from nothing_held ops).objects (object_at e.graph j)) (there j (omega (arith, less, e.graph.laid.alive_long))))
        ∙ sym (length-filter (λ o. is_husk (get (end_from nothing_held ops).objects o)) e.graph.objects.items) ∙ ap (λ ks. length (filter (λ o. is_husk (get (end_from nothing_held ops).objects o)) ks)) of.1.objects,
  )

  -- which objects stand for cycles
  abbrev pub stands : ℕ → Bool
  stands i = slice_index_or e.cycles.marks.items i false && (slice_index e.cycles.parts.items i == i)

  pub least_is : (i : ℕ) → i < size e.graph → stands i ≡ true → IsLeastInCycle (end_from nothing_held ops) (object_at e.graph i)
  least_is i within h =
      let each = and_both (slice_index_or e.cycles.marks.items i false) (slice_index e.cycles.parts.items i == i) h in
      let own : slice_index e.cycles.parts.items i ≡ i = number (slice_index e.cycles.parts.items i) i each.1 in
      ((cyclic_told ops e of ending i within).0 ((ending.cycles.marked i within).0 each.0), λ p one. lower own p one)
    where
      rises : (a b : ℕ) → a ≤ b → b < size e.graph → object_at e.graph a ≤ object_at e.graph b
      rises a b le less = by_place (same_or_not a b)
        where
          by_place : (a ≡ b) ⊎ (a ≢ b) → object_at e.graph a ≤ object_at e.graph b
          by_place (inl same) = omega (arith, ap (object_at e.graph) same)
          by_place (inr other) = let step : object_at e.graph a < object_at e.graph b = e.graph.laid.rising a b (omega (arith, le, other)) less in omega (arith, step)

      lower : slice_index e.cycles.parts.items i ≡ i → (p : ℕ) → AreInOneCycle (end_from nothing_held ops) (object_at e.graph i) p → object_at e.graph i ≤ p
      lower own p one =
          let j = object_index (end_from nothing_held ops) (λ q. since_from nothing_held ops q 0) e.graph of.1 p (alive_key (end_from nothing_held ops) p one.1.alive) in
          let out : Keeps e.graph i j.0 = (keeps_told (end_from nothing_held ops) (λ q. since_from nothing_held ops q 0) e.graph of.1 i j.0 within j.1).1 (subst (λ x. state.Keeps (end_from nothing_held ops) (object_at e.graph i) x) (sym j.2) one.2) in
          let back : Keeps e.graph j.0 i = (keeps_told (end_from nothing_held ops) (λ q. since_from nothing_held ops q 0) e.graph of.1 j.0 i j.1 within).1 (subst (λ x. state.Keeps (end_from nothing_held ops) x (object_at e.graph i)) (sym j.2) one.3) in
          let same : slice_index e.cycles.parts.items i ≡ slice_index e.cycles.parts.items j.0 = ending.cycles.parts.all i j.0 within j.1 (inr (out, back)) in
          let low : slice_index e.cycles.parts.items j.0 ≤ j.0 = (ending.cycles.parts.least j.0 j.1).0 in
          subst (λ x. object_at e.graph i ≤ x) j.2 (rises i j.0 (omega (arith, own, same, low)) j.1)

  pub is_least : (o : ℕ) → IsLeastInCycle (end_from nothing_held ops) o → (i : ℕ) × (i < size e.graph) × (object_at e.graph i ≡ o) × (stands i ≡ true)
  is_least o it =
      let i = object_index (end_from nothing_held ops) (λ q. since_from nothing_held ops q 0) e.graph of.1 o (alive_key (end_from nothing_held ops) o it.0.0.alive) in
      let cyclic : IsCyclic e.graph e.leaked.items i.0 = (cyclic_told ops e of ending i.0 i.1).1 (subst (λ k. IsInCycle (end_from nothing_held ops) k) (sym i.2) it.0) in (
        i.0,
        i.1,
        i.2,
        both_and (slice_index_or e.cycles.marks.items i.0 false) (slice_index e.cycles.parts.items i.0 == i.0) ((ending.cycles.marked i.0 i.1).1 cyclic)
            (test (slice_index e.cycles.parts.items i.0) i.0 (by_part i.0 i.1 i.2 cyclic (same_or_not (slice_index e.cycles.parts.items i.0) i.0))),
      )
    where
      by_part : (i : ℕ) → i < size e.graph → object_at e.graph i ≡ o → IsCyclic e.graph e.leaked.items i → (slice_index e.cycles.parts.items i ≡ i) ⊎ (slice_index e.cycles.parts.items i ≢ i) → slice_index e.cycles.parts.items i ≡ i
      by_part i within named cyclic (inl same) = same
      by_part i within named cyclic (inr other) = absurd (never (slice_index e.cycles.parts.items i) (ending.cycles.parts.least i within).0 other (ending.cycles.parts.least i within).1)
        where
          never : (k : ℕ) → k ≤ i → k ≢ i → AreTogether e.graph i k → ⊥
          never k le apart (inl same) = apart (sym same)
          never k le apart (inr both) =
              let there_k : k < size e.graph = omega (arith, le, within) in
              let out : state.Keeps (end_from nothing_held ops) o (object_at e.graph k) =
              subst (λ x. state.Keeps (end_from nothing_held ops) x (object_at e.graph k)) named ((keeps_told (end_from nothing_held ops) (λ q. since_from nothing_held ops q 0) e.graph of.1 i k within there_k).0 both.0) in
              let back : state.Keeps (end_from nothing_held ops) (object_at e.graph k) o =
              subst (λ x. state.Keeps (end_from nothing_held ops) (object_at e.graph k) x) named ((keeps_told (end_from nothing_held ops) (λ q. since_from nothing_held ops q 0) e.graph of.1 k i there_k within).0 both.1) in
              let gone = leaked_keeper (end_from nothing_held ops) (object_at e.graph k) o it.0.0 back in
              let no_less : o ≤ object_at e.graph k = it.1 (object_at e.graph k) (it.0.0, gone, out, back) in
              let less : object_at e.graph k < object_at e.graph i = e.graph.laid.rising k i (omega (arith, le, apart)) within in
              omega (arith, no_less, less, named)

  abbrev is_one : ℕ → Bool
  is_one o = has o (map (object_at e.graph) (filter stands (upto (size e.graph))))

  cycles_told : (t : ℕ) → t ≡ length e.cycles.least.items → (os : List ℕ) × AreAll (end_from nothing_held ops) (IsLeastInCycle (end_from nothing_held ops)) os × (t ≡ length os)
  cycles_told t is =
      let all : e.cycles.least.items ≡ filter stands (upto (size e.graph)) = ending.cycles.least in
      let within : (i : ℕ) → has i (filter stands (upto (size e.graph))) ≡ true → i < size e.graph = λ i h. upto_has (size e.graph) i (kept_has stands (upto (size e.graph)) i h).1 in (
        filter is_one (keys (end_from nothing_held ops).objects),
        (is_one, λ o. (one_is o, is_in o), refl),
        is ∙ ap length all ∙ sym (objects_count e.graph (filter stands (upto (size e.graph))) within (apart_filter stands (upto (size e.graph)) (upto_apart (size e.graph))))
            ∙ ap (λ ks. length (filter is_one ks)) of.1.objects,
      )
    where
      one_is : (o : ℕ) → has o (map (object_at e.graph) (filter stands (upto (size e.graph)))) ≡ true → IsLeastInCycle (end_from nothing_held ops) o
      one_is o h =
          let i = map_has (object_at e.graph) o (filter stands (upto (size e.graph))) h in
          let kept = kept_has stands (upto (size e.graph)) i.0 i.1 in
          subst (λ x. IsLeastInCycle (end_from nothing_held ops) x) i.2 (least_is i.0 (upto_has (size e.graph) i.0 kept.1) kept.0)

      is_in : (o : ℕ) → IsLeastInCycle (end_from nothing_held ops) o → has o (map (object_at e.graph) (filter stands (upto (size e.graph)))) ≡ true
      is_in o it =
          let i = is_least o it in
          subst (λ x. has x (map (object_at e.graph) (filter stands (upto (size e.graph)))) ≡ true) i.2
          (has_map (object_at e.graph) i.0 (filter stands (upto (size e.graph))) (has_kept stands (upto (size e.graph)) i.0 (has_upto (size e.graph) i.0 i.1) i.3))

  pub totals_told : (t : Totals) → t.leaks ≡ count_by (λ b. b) e.leaked.items → t.cycles ≡ length e.cycles.least.items → t.husks ≡ count_by not e.graph.alive.items → AreTotals (end_from nothing_held ops) t
  totals_told t leaks cycles husks = record {
    leaks = leaks_told t.leaks leaks;
    cycles = cycles_told t.cycles cycles;
    husks = husks_told t.husks husks;
  }
