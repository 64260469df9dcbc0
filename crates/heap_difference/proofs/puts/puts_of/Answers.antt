use Rattle.std.proofs.Common.{◌≡◌, ◌+◌, ◌++◌, ◌∷◌, [], ◌∙◌, sym, subst, take, get_or, List, ℕ, Bool}
use Rattle.std.specs.Prelude.{Option}
use Rattle.std.specs.Ordering.{nat_cmp}
use Rattle.std.specs.BTreeSet.{contains}
use Rattle.std.proofs.lemmas.List.{take_all}
use Rattle.object_heap.specs.declared.put.Put.{Put}
use Rattle.heap_difference.specs.Puts.{IsPutOf}
use Rattle.heap_difference.proofs.SiftLemmas.{removed_less}
use Rattle.heap_difference.proofs.PuttingLemmas.{ArePutting, put_start, put_pass, put_next, put_all_of}
use Rattle.heap_difference.proofs.puts.puts_of.Goals.{in-Some+in_ok-push, in_default}
use Rattle.heap_difference.proofs.puts.puts_of.Goals as goal

pub loop-handle-init : goal.loop-handle-init
loop-handle-init c = rw c.new-puts.ensures.items (put_start c.args.handles.now c.args.heap.now (λ g. contains nat_cmp c.in_ok-left.left g) c.in_ok-left.ensures)

pub loop-handle-preserved : goal.loop-handle-preserved
loop-handle-preserved c =
    let all : List ℕ = c.args.handles.now in
    let xs : List ℕ = c.as_slice-handle-items.result.now in
    let i : ℕ = c.loop-handle.handle-index in
    let k : ℕ → Bool = λ g. contains nat_cmp c.loop-handle.left g in
    elim c.match-put.branch [
      | in-Some+in_ok-push w ↦
          let pushed : c.match-put.puts.items ≡ c.loop-handle.puts.items ++ w.in-Some.put ∷ [] = cc (w.puts-is, w.in_ok-push.ensures.items) in
          subst (λ s. ArePutting all (take (i + 1) xs) c.args.heap.now (λ g. contains nat_cmp s g) c.match-put.puts.items) (sym w.left-is)
          (subst (λ (ps : List Put). ArePutting all (take (i + 1) xs) c.args.heap.now (λ g. contains nat_cmp w.remove.new.self g) ps) (sym pushed)
          (put_next all c.args.heap.now (λ g. contains nat_cmp w.remove.new.self g) k c.loop-handle.puts.items xs i 0 w.in-Some.put c.loop-handle-test.true
          (subst (λ (o : Option Put). IsPutOf k c.args.heap.now (get_or xs i 0) o) w.in-Some.is c.in_ok-put.ensures)
          (removed_less k (λ g. contains nat_cmp w.remove.new.self g) (get_or xs i 0) (λ g. w.remove.ensures.updates.0 g))
          c.loop-handle.invariant))
      | in_default w ↦
          let same : c.match-put.puts.items ≡ c.loop-handle.puts.items = cc (w.puts-is) in
          subst (λ s. ArePutting all (take (i + 1) xs) c.args.heap.now (λ g. contains nat_cmp s g) c.match-put.puts.items) (sym w.left-is)
          (subst (λ (ps : List Put). ArePutting all (take (i + 1) xs) c.args.heap.now k ps) (sym same)
          (put_pass all c.args.heap.now k c.loop-handle.puts.items xs i 0 c.loop-handle-test.true
          (subst (λ (o : Option Put). IsPutOf k c.args.heap.now (get_or xs i 0) o) w.in_default.is c.in_ok-put.ensures)
          c.loop-handle.invariant))
    ]

pub returns : goal.returns
returns c =
    let all : List ℕ = c.args.handles.now in
    put_all_of all c.args.heap.now (λ g. contains nat_cmp c.loop-handle.left g) c.loop-handle.puts.items
    (subst (λ (xs : List ℕ). ArePutting all xs c.args.heap.now (λ g. contains nat_cmp c.loop-handle.left g) c.loop-handle.puts.items)
    (take_all c.loop-handle.handle-index c.as_slice-handle-items.result.now c.loop-handle-test.false ∙ c.as_slice-handle-items.ensures) c.loop-handle.invariant)
