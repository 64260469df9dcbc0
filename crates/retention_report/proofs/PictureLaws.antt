-- What is drawn by the graph at the end of a trace is its picture.
use Rattle.std.proofs.Common.{◌≡◌, ℕ, zero, suc, ◌<◌, inl, inr, List, [], ◌∷◌, ◌++◌, length, replicate, refl, sym, ap, ◌∙◌, subst, arith, Bool, true, false}
use Rattle.std.specs.Prelude.{Option, Some, None, flat_map, filter, ◌==◌, ◌||◌, ◌↔◌, not, is_some, codes, slice_index, slice_index_or, if◌then◌else◌}
use Rattle.std.specs.FinMap.{get, keys}
use Rattle.ownership_model.proofs.Searching.{either, or_left}
use Rattle.trace_types.specs.Operation.{Operation}
use Rattle.ownership_model.specs.State.{State, nothing_held, is_alive, strong, weak}
use Rattle.ownership_model.specs.Step.{end_from}
use Rattle.ownership_model.specs.Release.{is_husk}
use Rattle.ownership_model.specs.Leaks.{IsLeaked}
use Rattle.ownership_model.specs.Reach.{has}
use Rattle.retention_model.specs.declared.place.Place.{Place}
use Rattle.retention_model.specs.declared.totals.Totals.{Totals}
use Rattle.retention_model.specs.Since.{since_from}
use Rattle.retention_model.specs.Cycles.{AreInOneCycle}
use Rattle.retention_model.specs.Shown.{IsOfInterest, IsShown}
use Rattle.retention.specs.declared.ending.Ending.{Ending}
use Rattle.retention.specs.Graph.{size, object_at}
use Rattle.retention.specs.Walked.{Keeps}
use Rattle.retention.specs.Components.{AreTogether, IsCyclic}
use Rattle.retention.specs.Pictured.{IsAskedAt}
use Rattle.retention.specs.Endings.{IsEnding, IsEndOf}
use Rattle.retention.proofs.WalkSteps.{number_same, same_number}
use Rattle.retention.specs.declared.graph.Graph.{Graph}
use Rattle.retention.specs.Paths.{Points}
use Rattle.retention.proofs.PathLemmas.{path_trans}
use Rattle.retention.proofs.GraphPaths.{keeps_path, path_keeps}
use Rattle.retention.proofs.GraphLaws.{keeps_told}
use Rattle.retention.proofs.CycleLaws.{leaked_keeper}
use Rattle.retention_report.proofs.LeakedTold.{alive_key, leaked_told}
use Rattle.retention_text.specs.Pictures.{head_text, object_text}
use Rattle.retention_report.specs.Explained.{missing_text}
use Rattle.retention_report.specs.Pictured.{Asked, Shows, Sorts, object_line, picture_text, first_gone, IsPictureOf}
use Rattle.retention_report.specs.Drawn.{listed, index_in, mark_at, is_marked_in, indices_in, first_absent, object_of, is_joined, cycle_at, are_same, objects_text, drawn_text, AreShownAt, IsDrawnText}
use Rattle.retention_report.proofs.DrawLemmas.{index_found}
use Rattle.retention_report.proofs.ShownTold.{there, there_key, index_of_key, husk_there, husk_not, shown_told, told_shown, shown_there, interest_told, given_told}
use Rattle.retention_report.proofs.PictureTold.{same_kept, edges_same, roots_same}

around : (g : Graph) (a b : ℕ) → Keeps g a b → Keeps g b a → Keeps g a a
around g a b there back = path_keeps g a a (path_trans (Points g) a b a (keeps_path g a b there) (keeps_path g b a back))

all_true : (n i : ℕ) → i < n → slice_index_or (replicate n true) i false ≡ true
all_true zero i h = absurd (omega (arith, h))
all_true (suc n) zero h = refl
all_true (suc n) (suc i) h = all_true n i (omega (arith, h))

same_parts : (a r s o p d f z : List ℕ) → r ≡ s → o ≡ p → d ≡ f → a ++ r ++ o ++ d ++ z ≡ a ++ s ++ p ++ f ++ z
same_parts a r s o p d f z x y w = ap (λ q. a ++ q ++ o ++ d ++ z) x ∙ ap (λ q. a ++ s ++ q ++ d ++ z) y ∙ ap (λ q. a ++ s ++ p ++ q ++ z) w

same_bool : (a b : Bool) → (a ≡ true → b ≡ true) → (b ≡ true → a ≡ true) → a ≡ b
same_bool true b f g = sym (f refl)
same_bool false true f g = g refl
same_bool false false f g = refl

-- where a mark is, by the number
marked_index : (os : List ℕ) (marks : List Bool) (o : ℕ) (x : Option ℕ) → index_in os o ≡ x → mark_at marks x ≡ true → (i : ℕ) × (index_in os o ≡ Some i) × (slice_index_or marks i false ≡ true)
marked_index os marks o None e h = absurd cc
marked_index os marks o (Some i) e h = (i, e, h)

mark_of : (os : List ℕ) (marks : List Bool) (o i : ℕ) → index_in os o ≡ Some i → is_marked_in os marks o ≡ slice_index_or marks i false
mark_of os marks o i e = ap (mark_at marks) e

both_some : (a b : ℕ) → a ≡ b → are_same (Some a) (Some b) ≡ true
both_some a b e = ap (λ k. a == k) (sym e) ∙ same_number a

-- two that are the same are there
same_some : (x y : Option ℕ) → are_same x y ≡ true → (a : ℕ) × (x ≡ Some a) × (y ≡ Some a)
same_some None y h = absurd cc
same_some (Some a) None h = absurd cc
same_some (Some a) (Some b) h = (a, refl, ap Some (sym (number_same a b h)))

module _ (ops : List Operation) (e : Ending) (of : IsEndOf ops e) (ending : IsEnding e) where
  abbrev m : State
  m = end_from nothing_held ops

  abbrev since : Place → ℕ
  since p = since_from nothing_held ops p 0

  abbrev os_of : List ℕ
  os_of = e.graph.objects.items

  -- what marks tell of the objects that have them, and of no others
  marks_told : (marks : List Bool) (P : ℕ → Type 0) → ((i : ℕ) → i < size e.graph → (slice_index_or marks i false ≡ true) ↔ P (object_at e.graph i)) → ((o : ℕ) → P o → has o (keys m.objects) ≡ true)
      → (o : ℕ) → (is_marked_in os_of marks o ≡ true) ↔ P o
  marks_told marks P each key o = (
    λ h. let it = marked_index os_of marks o (index_in os_of o) refl h in let found = index_found os_of o it.0 it.1 in subst P found.1 ((each it.0 found.0).0 it.2),
    λ h. let it = index_of_key m since e.graph of.1 o (key o h) in mark_of os_of marks o it.0 it.3 ∙ (each it.0 it.1).1 (subst P (sym it.2) h),
  )

  leaked_each : (o : ℕ) → (is_marked_in os_of e.leaked.items o ≡ true) ↔ IsLeaked m o
  leaked_each = marks_told e.leaked.items (IsLeaked m) (leaked_told ops e of ending) (λ o l. alive_key m o l.alive)

  -- Cycles.

  cycle_some : (x : Option ℕ) (c : ℕ) → cycle_at e.cycles x ≡ Some c → (i : ℕ) × (x ≡ Some i) × (slice_index_or e.cycles.marks.items i false ≡ true) × (slice_index e.cycles.parts.items i ≡ c)
  cycle_some None c h = absurd cc
  cycle_some (Some i) c h = by (slice_index_or e.cycles.marks.items i false) refl h
    where
      by : (b : Bool) → slice_index_or e.cycles.marks.items i false ≡ b → (if b then Some (slice_index e.cycles.parts.items i) else None) ≡ Some c
          → (j : ℕ) × (Some i ≡ Some j) × (slice_index_or e.cycles.marks.items j false ≡ true) × (slice_index e.cycles.parts.items j ≡ c)
      by true q h = (i, refl, q, let s : Some (slice_index e.cycles.parts.items i) ≡ Some c = h in cc)
      by false q h = absurd cc

  some_cycle : (i : ℕ) → slice_index_or e.cycles.marks.items i false ≡ true → cycle_at e.cycles (Some i) ≡ Some (slice_index e.cycles.parts.items i)
  some_cycle i h = ap (λ b. if b then Some (slice_index e.cycles.parts.items i) else None) h

  to_each : (i j : ℕ) → IsCyclic e.graph e.leaked.items i → AreTogether e.graph i j → Keeps e.graph i j × Keeps e.graph j i
  to_each i j c (inl s) = subst (λ k. Keeps e.graph i k × Keeps e.graph k i) s (c.1, c.1)
  to_each i j c (inr it) = it

  joined_two : (i j : ℕ) → i < size e.graph → j < size e.graph → slice_index_or e.cycles.marks.items i false ≡ true → slice_index e.cycles.parts.items i ≡ slice_index e.cycles.parts.items j → AreInOneCycle m (object_at e.graph i) (object_at e.graph j)
  joined_two i j h k marked same =
      let cyclic = (ending.cycles.marked i h).0 marked in
      let both = to_each i j cyclic (ending.cycles.parts.same i j h k same) in
      let back = (keeps_told m since e.graph of.1 j i k h).0 both.1 in
      let leaked = (leaked_told ops e of ending i h).0 cyclic.0 in
      (leaked, leaked_keeper m (object_at e.graph j) (object_at e.graph i) leaked back, (keeps_told m since e.graph of.1 i j h k).0 both.0, back)

  two_joined : (i j : ℕ) → i < size e.graph → j < size e.graph → AreInOneCycle m (object_at e.graph i) (object_at e.graph j)
      → (slice_index_or e.cycles.marks.items i false ≡ true) × (slice_index_or e.cycles.marks.items j false ≡ true) × (slice_index e.cycles.parts.items i ≡ slice_index e.cycles.parts.items j)
  two_joined i j h k c =
      let there : Keeps e.graph i j = (keeps_told m since e.graph of.1 i j h k).1 c.2 in
      let back : Keeps e.graph j i = (keeps_told m since e.graph of.1 j i k h).1 c.3 in
      let same = ending.cycles.parts.all i j h k (inr (there, back)) in
      (self i j h k c.0 there back, self j i k h c.1 back there, same)
    where
      self : (a b : ℕ) → a < size e.graph → b < size e.graph → IsLeaked m (object_at e.graph a) → Keeps e.graph a b → Keeps e.graph b a → slice_index_or e.cycles.marks.items a false ≡ true
      self a b ha hb leaked there back =
          (ending.cycles.marked a ha).1 ((leaked_told ops e of ending a ha).1 leaked, around e.graph a b there back)

  joined_each : (o p : ℕ) → (is_joined e o p ≡ true) ↔ AreInOneCycle m o p
  joined_each o p = (to, back)
    where
      to : is_joined e o p ≡ true → AreInOneCycle m o p
      to h =
          let it = same_some (cycle_at e.cycles (index_in os_of o)) (cycle_at e.cycles (index_in os_of p)) h in
          let one = cycle_some (index_in os_of o) it.0 it.1 in
          let two = cycle_some (index_in os_of p) it.0 it.2 in
          let i = index_found os_of o one.0 one.1 in
          let j = index_found os_of p two.0 two.1 in
          subst (λ x. AreInOneCycle m x p) i.1 (subst (λ x. AreInOneCycle m (object_at e.graph one.0) x) j.1 (joined_two one.0 two.0 i.0 j.0 one.2 (one.3 ∙ sym two.3)))

      back : AreInOneCycle m o p → is_joined e o p ≡ true
      back c =
          let i = index_of_key m since e.graph of.1 o (alive_key m o c.0.alive) in
          let j = index_of_key m since e.graph of.1 p (alive_key m p c.1.alive) in
          let all = two_joined i.0 j.0 i.1 j.1 (subst (λ x. AreInOneCycle m x (object_at e.graph j.0)) (sym i.2) (subst (λ x. AreInOneCycle m o x) (sym j.2) c)) in
          ap (λ x. are_same (cycle_at e.cycles x) (cycle_at e.cycles (index_in os_of p))) i.3 ∙ ap (λ x. are_same (cycle_at e.cycles (Some i.0)) (cycle_at e.cycles x)) j.3
          ∙ ap (λ x. are_same x (cycle_at e.cycles (Some j.0))) (some_cycle i.0 all.0) ∙ ap (λ x. are_same (Some (slice_index e.cycles.parts.items i.0)) x) (some_cycle j.0 all.1)
          ∙ both_some (slice_index e.cycles.parts.items i.0) (slice_index e.cycles.parts.items j.0) all.2

  sorts : Sorts m (is_marked_in os_of e.leaked.items) (is_joined e)
  sorts = record { each_leaked = leaked_each; each_joined = joined_each }

  -- What was given, and what is shown.

  is_there : (o : ℕ) → is_some (index_in os_of o) ≡ is_some (get m.objects o)
  is_there o = same_bool (is_some (index_in os_of o)) (is_some (get m.objects o))
      (λ h. let it = some_there (index_in os_of o) h in let found = index_found os_of o it.0 it.1 in ap (λ k. is_some (get m.objects k)) (sym found.1) ∙ there m since e.graph of.1 it.0 found.0)
      (λ h. let it = index_of_key m since e.graph of.1 o (there_key m.objects o ∙ h) in ap is_some it.3)
    where
      some_there : (x : Option ℕ) → is_some x ≡ true → (i : ℕ) × (x ≡ Some i)
      some_there None h = absurd cc
      some_there (Some i) h = (i, refl)

  pub gone_told : (os : List ℕ) → first_absent os_of os ≡ first_gone m os
  gone_told [] = refl
  gone_told (o ∷ os) = ap (λ b. if b then first_absent os_of os else Some o) (is_there o) ∙ ap (λ x. if is_some (get m.objects o) then x else Some o) (gone_told os)

  there_next : (x : ℕ) (os : List ℕ) (o : ℕ) (b : Bool) → is_some (get m.objects x) ≡ b → (if b then first_gone m os else Some x) ≡ None → ((x == o) || has o os) ≡ true → (first_gone m os ≡ None → has o os ≡ true → has o (keys m.objects) ≡ true) → has o (keys m.objects) ≡ true
  there_next x os o true s n h rest = either (has o (keys m.objects) ≡ true) (x == o) (has o os) h (λ q. there_key m.objects o ∙ ap (λ k. is_some (get m.objects k)) (sym (number_same x o q)) ∙ s) (rest n)
  there_next x os o false s n h rest = absurd cc

  all_there : (os : List ℕ) → first_gone m os ≡ None → (o : ℕ) → has o os ≡ true → has o (keys m.objects) ≡ true
  all_there [] n o h = absurd cc
  all_there (x ∷ os) n o h = there_next x os o (is_some (get m.objects x)) refl n h (λ r g. all_there os r o g)

  within_next : (os : List ℕ) (o i : ℕ) (x : Option ℕ) → index_in os_of o ≡ x → has i (listed x ++ indices_in os_of os) ≡ true → (has i (indices_in os_of os) ≡ true → i < size e.graph) → i < size e.graph
  within_next os o i None q h rest = rest h
  within_next os o i (Some j) q h rest = either (i < size e.graph) (j == i) (has i (indices_in os_of os)) h (λ s. subst (λ k. k < size e.graph) (number_same j i s) (index_found os_of o j q).0) rest

  given_within : (os : List ℕ) (i : ℕ) → has i (indices_in os_of os) ≡ true → i < size e.graph
  given_within [] i h = absurd cc
  given_within (o ∷ os) i h = within_next os o i (index_in os_of o) refl h (given_within os i)

  interest_there : (o : ℕ) → IsOfInterest m o → has o (keys m.objects) ≡ true
  interest_there o (inl l) = alive_key m o l.alive
  interest_there o (inr h) = there_key m.objects o ∙ husk_there (get m.objects o) h

  asked_within : (os : List ℕ) (i : ℕ) → IsAskedAt e.graph e.leaked.items (indices_in os_of os) i → first_gone m os ≡ None → i < size e.graph
  asked_within [] i a n = a.0
  asked_within (o ∷ os) i a n = by (index_in os_of o) refl a
    where
      by : (x : Option ℕ) → index_in os_of o ≡ x → IsAskedAt e.graph e.leaked.items (listed x ++ indices_in os_of os) i → i < size e.graph
      by None q a = absurd (let it = index_of_key m since e.graph of.1 o (all_there (o ∷ os) n o (or_left (o == o) (has o os) (same_number o))) in let never : None ≡ Some it.0 = sym q ∙ it.3 in cc)
      by (Some j) q a = given_within (o ∷ os) i (ap (λ x. has i (listed x ++ indices_in os_of os)) q ∙ a)

  asked_told : (os : List ℕ) → first_gone m os ≡ None → (i : ℕ) → i < size e.graph → IsAskedAt e.graph e.leaked.items (indices_in os_of os) i ↔ Asked m os (object_at e.graph i)
  asked_told [] n i h = interest_told m since e.graph of.1 e.leaked.items (leaked_told ops e of ending) i h
  asked_told (o ∷ os) n i h = by (index_in os_of o) refl
    where
      by : (x : Option ℕ) → index_in os_of o ≡ x → IsAskedAt e.graph e.leaked.items (listed x ++ indices_in os_of os) i ↔ (has (object_at e.graph i) (o ∷ os) ≡ true)
      by None q = absurd (let it = index_of_key m since e.graph of.1 o (all_there (o ∷ os) n o (or_left (o == o) (has o os) (same_number o))) in let never : None ≡ Some it.0 = sym q ∙ it.3 in cc)
      by (Some j) q =
          let same : has i (j ∷ indices_in os_of os) ≡ has (object_at e.graph i) (o ∷ os) = ap (λ x. has i (listed x ++ indices_in os_of os)) (sym q) ∙ given_told m since e.graph of.1 (o ∷ os) i h in
          ((λ a. sym same ∙ a), (λ a. same ∙ a))

  asked_there : (os : List ℕ) → first_gone m os ≡ None → (o : ℕ) → Asked m os o → has o (keys m.objects) ≡ true
  asked_there [] n o a = interest_there o a
  asked_there (x ∷ os) n o a = all_there (x ∷ os) n o a

  shows : (with_all : Bool) (os : List ℕ) (shown : List Bool) → first_gone m os ≡ None → length shown ≡ size e.graph → AreShownAt with_all e (indices_in os_of os) shown → Shows with_all m os (is_marked_in os_of shown)
  shows true os shown n long are = λ p. same_bool (is_marked_in os_of shown p) (is_some (get m.objects p))
      (λ h. let it = marked_index os_of shown p (index_in os_of p) refl h in sym (is_there p) ∙ ap is_some it.1)
      (λ h. let it = index_of_key m since e.graph of.1 p (there_key m.objects p ∙ h) in
      mark_of os_of shown p it.0 it.3 ∙ ap (λ xs. slice_index_or xs it.0 false) are ∙ all_true (size e.graph) it.0 it.1)
  shows false os shown n long are =
      marks_told shown (IsShown m (Asked m os)) (λ i h. (
        λ k. shown_told m since e.graph of.1 (IsAskedAt e.graph e.leaked.items (indices_in os_of os)) (Asked m os) (λ j a. asked_within os j a n) (asked_told os n) (asked_there os n) i h ((are i).0 k),
        λ s. (are i).1 (told_shown m since e.graph of.1 (IsAskedAt e.graph e.leaked.items (indices_in os_of os)) (Asked m os) (λ j a. asked_within os j a n) (asked_told os n) (asked_there os n) i h s),
      )) (shown_there m since e.graph of.1 (IsAskedAt e.graph e.leaked.items (indices_in os_of os)) (Asked m os) (λ j a. asked_within os j a n) (asked_told os n) (asked_there os n))

  -- Objects.

  line_same : (os : List ℕ) (given : List Bool) → ((i : ℕ) → slice_index_or given i false ≡ has i (indices_in os_of os)) → (k : ℕ → Bool) (o : ℕ) → has o (keys m.objects) ≡ true
      → object_of e m given o ≡ object_line ops m k (is_marked_in os_of e.leaked.items) (is_joined e) os o
  line_same os given are k o h =
      let it = index_of_key m since e.graph of.1 o h in
      let living : is_marked_in os_of e.graph.alive.items o ≡ is_alive (get m.objects o) = mark_of os_of e.graph.alive.items o it.0 it.3 ∙ of.1.alive it.0 it.1 ∙ ap (λ x. is_alive (get m.objects x)) it.2 in
      let husk : not (is_marked_in os_of e.graph.alive.items o) ≡ is_husk (get m.objects o) = ap not living ∙ sym (husk_not (get m.objects o) (sym (there_key m.objects o) ∙ h)) in
      let out : is_marked_in os_of given o ≡ has o os = mark_of os_of given o it.0 it.3 ∙ are it.0 ∙ given_told m since e.graph of.1 os it.0 it.1 ∙ ap (λ x. has x os) it.2 in
      ap (λ b. object_text o (strong m [] o) (weak m [] o) (is_marked_in os_of e.leaked.items o) b (is_marked_in os_of given o)) husk
      ∙ ap (λ b. object_text o (strong m [] o) (weak m [] o) (is_marked_in os_of e.leaked.items o) (is_husk (get m.objects o)) b) out

  objects_same : (os : List ℕ) (shown given : List Bool) → ((i : ℕ) → slice_index_or given i false ≡ has i (indices_in os_of os))
      → objects_text e m shown given ≡ flat_map (object_line ops m (is_marked_in os_of shown) (is_marked_in os_of e.leaked.items) (is_joined e) os) (filter (is_marked_in os_of shown) (keys m.objects))
  objects_same os shown given are =
      ap (λ xs. flat_map (object_of e m given) (filter (is_marked_in os_of shown) xs)) of.1.objects
      ∙ same_kept (object_of e m given) (object_line ops m (is_marked_in os_of shown) (is_marked_in os_of e.leaked.items) (is_joined e) os) (is_marked_in os_of shown) (keys m.objects) (line_same os given are (is_marked_in os_of shown))

  text_same : (os : List ℕ) (shown given : List Bool) (t : Totals) → ((i : ℕ) → slice_index_or given i false ≡ has i (indices_in os_of os))
      → drawn_text e m shown given t ≡ picture_text ops m (is_marked_in os_of shown) (is_marked_in os_of e.leaked.items) (is_joined e) t os
  text_same os shown given t are =
      same_parts (head_text t) _ _ _ _ _ _ (codes "}\n") (roots_same ops e shown (is_marked_in os_of e.leaked.items) of.1) (objects_same os shown given are) (edges_same ops e shown (is_marked_in os_of e.leaked.items) of.1)

  -- The whole.

  pub pictured : (with_all : Bool) (os text : List ℕ) (is_missing : Bool) → first_absent os_of os ≡ None → is_missing ≡ false → IsDrawnText with_all m e os text → IsPictureOf with_all ops m os (first_gone m os) text is_missing
  pictured with_all os text is_missing n f it =
      let none : first_gone m os ≡ None = sym (gone_told os) ∙ n in
      subst (λ x. IsPictureOf with_all ops m os x text is_missing) (sym none) (
        (is_marked_in os_of it.0, is_marked_in os_of e.leaked.items, is_joined e, it.2, shows with_all os it.0 none it.3 it.4, sorts, it.6 ops of, it.7 ∙ text_same os it.0 it.1 it.2 it.5),
        f,
      )

  pub missing : (with_all : Bool) (os text : List ℕ) (o : ℕ) (is_missing : Bool) → first_absent os_of os ≡ Some o → text ≡ missing_text o → is_missing ≡ true → IsPictureOf with_all ops m os (first_gone m os) text is_missing
  missing with_all os text o is_missing n t f = subst (λ x. IsPictureOf with_all ops m os x text is_missing) (sym (sym (gone_told os) ∙ n)) (t, f)
