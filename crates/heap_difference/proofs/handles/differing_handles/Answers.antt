use Rattle.std.proofs.Common.{◌≡◌, ◌+◌, ◌∙◌, sym, subst, take, get_or, List, ℕ, Bool, false}
use Rattle.std.specs.Ordering.{nat_cmp}
use Rattle.std.specs.BTreeSet.{contains}
use Rattle.std.proofs.lemmas.List.{take_all}
use Rattle.heap_difference.proofs.Tests.{clash}
use Rattle.heap_difference.proofs.SiftLemmas.{AreLeft, left_same, left_start, left_less, left_stays, left_found, removed_less}
use Rattle.std.proofs.lemmas.Result.{IfOk-weaker}
use Rattle.heap_difference.specs.Sifts.{IsSifted}
use Rattle.heap_difference.specs.Differences.{less, AreHandlesFound}
use Rattle.heap_difference.proofs.handles.differing_handles.Goals.{then-stands_alike, else-stands_alike}
use Rattle.heap_difference.proofs.handles.differing_handles.Goals as goal

pub loop-handle-init : goal.loop-handle-init
loop-handle-init c = left_start c.args.handles.now c.args.old.now c.args.new.now (λ q. contains nat_cmp c.in_ok-differing.differing q) c.in_ok-differing.ensures c.requires

pub loop-handle-preserved : goal.loop-handle-preserved
loop-handle-preserved c = elim c.if-stands_alike.branch [
  | then-stands_alike w ↦
      let xs : List ℕ = c.as_slice-handle-items.result.now in
      let i : ℕ = c.loop-handle.handle-index in
      let j : ℕ → Bool = λ q. contains nat_cmp c.loop-handle.differing q in
      subst (λ s. AreLeft c.args.handles.now (take (i + 1) xs) c.args.old.now c.args.new.now (λ q. contains nat_cmp s q)) (sym w.differing-is)
      (left_same c.args.handles.now c.args.old.now c.args.new.now (take (i + 1) xs) (less j (get_or xs i 0)) (λ q. contains nat_cmp w.remove.new.self q)
      (removed_less j (λ q. contains nat_cmp w.remove.new.self q) (get_or xs i 0) (λ q. w.remove.ensures.updates.0 q))
      (left_less c.args.handles.now c.args.old.now c.args.new.now j xs i 0 c.loop-handle-test.true (c.stands_alike.ensures.0 w.if-stands_alike.true) c.loop-handle.invariant))
  | else-stands_alike w ↦
      let xs : List ℕ = c.as_slice-handle-items.result.now in
      let i : ℕ = c.loop-handle.handle-index in
      subst (λ s. AreLeft c.args.handles.now (take (i + 1) xs) c.args.old.now c.args.new.now (λ q. contains nat_cmp s q)) (sym w.differing-is)
      (left_stays c.args.handles.now c.args.old.now c.args.new.now (λ q. contains nat_cmp c.loop-handle.differing q) xs i 0 c.loop-handle-test.true
      (λ s. clash c.stands_alike.result (c.stands_alike.ensures.1 s) w.if-stands_alike.false) c.loop-handle.invariant)
]

pub returns : goal.returns
returns c =
    let all : List ℕ = c.args.handles.now in
    let k : ℕ → Bool = λ q. contains nat_cmp c.loop-handle.differing q in
    IfOk-weaker c.those_in.result (IsSifted (λ q. k q ≡ false) all) (AreHandlesFound all c.args.old.now c.args.new.now)
    (λ rest. left_found all c.args.old.now c.args.new.now k rest
    (subst (λ (xs : List ℕ). AreLeft all xs c.args.old.now c.args.new.now k)
    (take_all c.loop-handle.handle-index c.as_slice-handle-items.result.now c.loop-handle-test.false ∙ c.as_slice-handle-items.ensures) c.loop-handle.invariant))
    c.those_in.ensures
