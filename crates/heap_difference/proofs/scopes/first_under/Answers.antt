use Rattle.std.proofs.Common.{◌≡◌, ◌∷◌, ap, ◌∙◌, sym, arith, length, List, ℕ, Bool}
use Rattle.std.specs.Prelude.{Option, filter, not}
use Rattle.std.specs.Ordering.{nat_cmp}
use Rattle.std.specs.BTreeSet.{contains}
use Rattle.trace_types.specs.declared.slots.Scoped.{Scoped}
use Rattle.object_heap.specs.Links.{under}
use Rattle.heap_difference.proofs.Tests.{not_true, filter_drops}
use Rattle.heap_difference.proofs.ScopeLemmas.{from_here, from_earlier}
use Rattle.heap_difference.proofs.FoundLemmas.{once_sound}
use Rattle.heap_difference.proofs.scopes.first_under.Goals as goal

pub loop-at-init : goal.loop-at-init
loop-at-init c =
    sym (ap (filter (λ g. not (contains nat_cmp c.args.set.now g)))
    (from_earlier c.args.handle c.args.heap.now.scopes c.earlier-at.result (once_sound c.args.heap.now c.show_sound.ensures.sound) c.earlier-at.ensures))

pub loop-at-smaller : goal.loop-at-smaller
loop-at-smaller c =
    let ss : List Scoped = c.args.heap.now.scopes in
    let behind : length (from_here ss c.earlier-at-in-Some.result) ≡ length (under c.in-Some.next ss) =
    ap length (from_earlier c.in-Some.next ss c.earlier-at-in-Some.result (once_sound c.args.heap.now c.show_sound.ensures.sound) c.earlier-at-in-Some.ensures) in
    let here : length (from_here ss c.loop-at.at) ≡ length (c.in-Some.next ∷ under c.in-Some.next ss) = ap (λ (o : Option ℕ). length (from_here ss o)) c.in-Some.is in
    omega (arith, behind, here)

pub loop-at-preserved : goal.loop-at-preserved
loop-at-preserved c =
    let ss : List Scoped = c.args.heap.now.scopes in
    let out : ℕ → Bool = λ g. not (contains nat_cmp c.args.set.now g) in
    let next : ℕ = c.in-Some.next in
    c.loop-at.invariant
    ∙ ap (λ (o : Option ℕ). filter out (from_here ss o)) c.in-Some.is
    ∙ filter_drops out next (under next ss) (not_true (contains nat_cmp c.args.set.now next) (sym c.contains.ensures ∙ c.if-not-contains.false))
    ∙ sym (ap (filter out) (from_earlier next ss c.earlier-at-in-Some.result (once_sound c.args.heap.now c.show_sound.ensures.sound) c.earlier-at-in-Some.ensures))
