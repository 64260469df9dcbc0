-- Stretches of an old replay are taken over where what they touched is alike; and what neither of two replays touches stays alike.
use Rattle.std.proofs.Common.{◌≡◌, ℕ, ◌+◌, List, [], ◌∷◌, ◌++◌, take, drop, refl, ap, ◌∙◌, sym, subst, Bool, true, false}
use Rattle.std.specs.Prelude.{Option, if◌then◌else◌, filter, not, IsTrue}
use Rattle.std.specs.List.{AllByRecursion}
use Rattle.std.proofs.Math.Seq.{take-add}
use Rattle.std.proofs.lemmas.List.Elements.{filter_agree}
use Rattle.std.specs.Cmp.{nat_cmp_total}
use Rattle.std.specs.FinMap.{get, same_map, nat_cmp-IsAntisymmetric}
use Rattle.trace_types.specs.Operation.{Operation}
use Rattle.trace_types.specs.Trace.{has_distinct_numbers}
use Rattle.ownership_model.specs.State.{State, nothing_held, IsSound}
use Rattle.ownership_model.specs.Scopes.{scope_of, AreFrom}
use Rattle.ownership_model.specs.Step.{outcomes_from, end_from, AreUnused}
use Rattle.ownership_model.specs.declared.key.Key.{Key}
use Rattle.ownership_model.specs.declared.key.Key.TheVariants.{Handle, Cell, Object, Scope}
use Rattle.ownership_model.specs.Alike.{AreWithin, AreAlike, IsKeptOutside, AreCountsKeptOutside}
use Rattle.ownership_model.specs.Footprint.{footprints_from, moved_from}
use Rattle.ownership_model.specs.FootprintLaws.{ReplaysAlike, IsMixed, IsTakenOver, StretchesAreTaken, beside, PartsStayAlike}
use Rattle.ownership_model.proofs.ReplayLemmas.{appends_hold, nothing_sound, nothing_taken}
use Rattle.ownership_model.proofs.ScopeMaps.{same_scopes}
use Rattle.ownership_model.proofs.ScopeMoves.{filter_skip, filter_keeps}
use Rattle.ownership_model.proofs.AlikeSteps.{run_alike}
use Rattle.ownership_model.proofs.OutsideLemmas.{run_kept}
use Rattle.ownership_model.proofs.JoinedLemmas.{replays}

-- operations whose footprints are alike do alike, as the law says it
pub replay_alike : (k : Key → Bool) (m n : State) (ops : List Operation) → AreAlike k m n → AreWithin k (footprints_from m ops) → ReplaysAlike k m n ops
replay_alike k m n ops a c =
    let r = run_alike k ops m n c a in
    record { outcomes = r.outcomes; alike = r.alike; weights = r.moves; scopes = r.scopes; footprints = r.keys; moved = r.moved }

-- what stands at one place of the end
mixed : {X : Type 0} (b : Bool) (inside outside end there : Option X) → (b ≡ true → inside ≡ end) → (b ≡ false → end ≡ outside) → there ≡ (if b then inside else outside) → end ≡ there
mixed true inside outside end there p q e = sym (p refl) ∙ sym e
mixed false inside outside end there p q e = q refl ∙ sym e

-- a stretch that was replayed from the old state, behind the new one
module _ (k : Key → Bool) (old new : State) (ops : List Operation) (sound : IsSound new []) (distinct : IsTrue (has_distinct_numbers ops)) (unused : AreUnused new ops)
    (alike : AreAlike k old new) (within : AreWithin k (footprints_from old ops)) where
  -- both replays do alike
  same : ReplaysAlike k old new ops
  same = replay_alike k old new ops alike within

  -- outside the set the new state stays
  kept : IsKeptOutside k new (end_from new ops) × (AreWithin k (moved_from new ops) → AreCountsKeptOutside k new (end_from new ops))
  kept = run_kept k ops new sound (replays new ops sound distinct unused).0 (subst (AreWithin k) (run_alike k ops old new within alike).keys within)

  -- so the end is known at each key, and in each scope
  is_end : (x : State) (r : ReplaysAlike k old new ops) → IsMixed k (end_from old ops) new x → AreFrom 0 x.scopes
      → ((t : ℕ) → scope_of t x.scopes ≡ r.scopes.entered t ++ filter r.scopes.stays (scope_of t new.scopes)) → end_from new ops ≡ x
  is_end x r mix order enter =
      let end : State = end_from new ops in
      let end_sound : IsSound end [] = (replays new ops sound distinct unused).1 in
      let handles : end.handles ≡ x.handles = same_map nat_cmp_total nat_cmp-IsAntisymmetric end.handles x.handles
      (λ h. mixed (k (Handle h)) (get (end_from old ops).handles h) (get new.handles h) (get end.handles h) (get x.handles h) (r.alike.handles h) (kept.0.handles h) (mix.handles h)) in
      let cells : end.cells ≡ x.cells = same_map nat_cmp_total nat_cmp-IsAntisymmetric end.cells x.cells
      (λ c. mixed (k (Cell c)) (get (end_from old ops).cells c) (get new.cells c) (get end.cells c) (get x.cells c) (r.alike.cells c) (kept.0.cells c) (mix.cells c)) in
      let objects : end.objects ≡ x.objects = same_map nat_cmp_total nat_cmp-IsAntisymmetric end.objects x.objects
      (λ o. mixed (k (Object o)) (get (end_from old ops).objects o) (get new.objects o) (get end.objects o) (get x.objects o) (r.alike.entries o) (kept.0.entries o) (mix.objects o)) in
      let scopes : end.scopes ≡ x.scopes = same_scopes 0 0 end.scopes x.scopes end_sound.scopes.in_order order (λ t. r.scopes.second t ∙ sym (enter t)) in
      λ i. record { handles = handles i; cells = cells i; objects = objects i; scopes = scopes i }

  -- all that is known of a stretch that is taken over
  pub taken_over : IsTakenOver k old new ops
  taken_over = record {
    alike = same;
    kept = kept.0;
    counts = λ v. kept.1 (subst (AreWithin k) (run_alike k ops old new within alike).moved v);
    end = λ x. is_end x same;
  }

-- what stands before, and behind, is a replay from nothing
pub stretches_taken : StretchesAreTaken
stretches_taken k old before at len distinct distinct_too alike within =
    let ops : List Operation = take len (drop at old) in
    let m : State = end_from nothing_held (take at old) in
    let n : State = end_from nothing_held before in
    let whole : IsSound n [] = (replays nothing_held before nothing_sound (appends_hold.distinct_front before ops distinct_too) (nothing_taken before)).1 in
    let apart : IsTrue (has_distinct_numbers ops) = appends_hold.distinct_rest before ops distinct_too in
    let unused : AreUnused n ops = appends_hold.unused_rest nothing_held before ops nothing_sound distinct_too (nothing_taken (before ++ ops)) in
    let t : IsTakenOver k m n ops = taken_over k m n ops whole apart unused alike within in
    let end : end_from nothing_held (before ++ ops) ≡ end_from n ops = appends_hold.end nothing_held before ops in
    let old_end : end_from nothing_held (take (at + len) old) ≡ end_from m ops = ap (end_from nothing_held) (take-add at len old) ∙ appends_hold.end nothing_held (take at old) ops in (
      t,
      appends_hold.outcomes nothing_held before ops ∙ ap (λ xs. outcomes_from nothing_held before ++ xs) (sym t.alike.outcomes),
      end,
      subst (λ (x : State). AreAlike k x (end_from nothing_held (before ++ ops))) (sym old_end) (subst (λ (x : State). AreAlike k (end_from m ops) x) (sym end) t.alike.alike),
    )

-- ---- what stays alike
module _ (k j : Key → Bool) (less : (x : Key) → j x ≡ true → k x ≡ true) where
  twice : (b : Bool) → not (not b) ≡ b
  twice true = refl
  twice false = refl

  -- where all of a scope is in the part, the handles of the part are all of it
  all_kept : (hs : List ℕ) → AllByRecursion (λ h. j (Handle h) ≡ true) hs → filter (λ h. j (Handle h)) hs ≡ hs
  all_kept [] c = refl
  all_kept (h ∷ hs) c = filter_keeps (λ h. j (Handle h)) h hs c.0 ∙ ap (λ xs. h ∷ xs) (all_kept hs c.1)

  -- of a scope, the handles that stay alike
  still : (m later : State) (t : ℕ) → IsKeptOutside (beside j) m later → filter (λ h. j (Handle h)) (scope_of t later.scopes) ≡ filter (λ h. j (Handle h)) (filter (λ h. k (Handle h)) (scope_of t m.scopes))
  still m later t p =
      sym (filter_agree (λ h. not (not (j (Handle h)))) (λ h. j (Handle h)) (λ h. twice (j (Handle h))) (scope_of t later.scopes))
      ∙ p.within_scopes t
      ∙ filter_agree (λ h. not (not (j (Handle h)))) (λ h. j (Handle h)) (λ h. twice (j (Handle h))) (scope_of t m.scopes)
      ∙ sym (filter_skip (λ h. j (Handle h)) (λ h. k (Handle h)) (λ h. less (Handle h)) (scope_of t m.scopes))

  -- what is alike before, and kept on both sides, is alike behind
  pub part_alike : (m n later_m later_n : State) → AreAlike k m n → IsKeptOutside (beside j) m later_m → AreCountsKeptOutside (beside j) m later_m → IsKeptOutside (beside j) n later_n → AreCountsKeptOutside (beside j) n later_n
      → ((t : ℕ) → j (Scope t) ≡ true → AllByRecursion (λ h. j (Handle h) ≡ true) (scope_of t later_m.scopes) × AllByRecursion (λ h. j (Handle h) ≡ true) (scope_of t later_n.scopes))
      → AreAlike j later_m later_n
  part_alike m n later_m later_n a p v q w whole =
      let parts : (t : ℕ) → filter (λ h. j (Handle h)) (scope_of t later_m.scopes) ≡ filter (λ h. j (Handle h)) (scope_of t later_n.scopes) =
      λ t. still m later_m t p ∙ ap (filter (λ h. j (Handle h))) (a.within_scopes t) ∙ sym (still n later_n t q) in
      record {
        handles = λ h c. p.handles h (ap not c) ∙ a.handles h (less (Handle h) c) ∙ sym (q.handles h (ap not c));
        cells = λ e c. p.cells e (ap not c) ∙ a.cells e (less (Cell e) c) ∙ sym (q.cells e (ap not c));
        entries = λ o c. p.entries o (ap not c) ∙ a.entries o (less (Object o) c) ∙ sym (q.entries o (ap not c));
        strongs = λ o c. v.strongs o (ap not c) ∙ a.strongs o (less (Object o) c) ∙ sym (w.strongs o (ap not c));
        weaks = λ o c. v.weaks o (ap not c) ∙ a.weaks o (less (Object o) c) ∙ sym (w.weaks o (ap not c));
        scopes = λ t c. sym (all_kept (scope_of t later_m.scopes) (whole t c).0) ∙ parts t ∙ all_kept (scope_of t later_n.scopes) (whole t c).1;
        within_scopes = parts;
      }

-- so it is for two replays, which keep what they neither touch nor move
pub parts_alike : PartsStayAlike
parts_alike k j m n ops more less a sound distinct unused c v sound_too distinct_too unused_too d w whole =
    let p = run_kept (beside j) ops m sound (replays m ops sound distinct unused).0 c in
    let q = run_kept (beside j) more n sound_too (replays n more sound_too distinct_too unused_too).0 d in
    part_alike k j less m n (end_from m ops) (end_from n more) a p.0 (p.1 v) q.0 (q.1 w) whole
