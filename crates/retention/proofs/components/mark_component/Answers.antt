use Rattle.std.proofs.Common.{◌≡◌, ◌<◌, length, set, sym, subst, arith, true, false}
use Rattle.std.specs.Prelude.{◌==◌}
use Rattle.ownership_model.specs.Reach.{has}
use Rattle.ownership_model.proofs.Searching.{or_left}
use Rattle.retention.specs.Paths.{Points, IsGathered, IsNamed}
use Rattle.retention.proofs.WalkSteps.{same_number}
use Rattle.retention.proofs.PathLemmas.{at_has}
use Rattle.retention.proofs.components.mark_component.Goals as goal

pub name_part-requires-clause-some : goal.name_part-requires-clause-some
name_part-requires-clause-some c =
    let first : has c.args.last c.gather.new.members.items ≡ true =
    c.in_ok-gather.ensures.gathered.first c.args.last (subst (λ xs. has c.args.last xs ≡ true) (sym c.in_ok-members.ensures) (or_left (c.args.last == c.args.last) false (same_number c.args.last))) in
    let it = at_has c.gather.new.members.items c.args.last first in
    let l : it.0 < length c.gather.new.members.items = it.1 in
    subst (λ xs. 0 < length xs) (sym c.deref.ensures.value) (omega (arith, l))

pub returns : goal.returns
returns c = (
  c.gather.new.members.items,
  subst (λ xs. IsGathered (Points c.args.graph.now) xs (set c.args.marks.now.items c.args.last true) c.gather.new.members.items c.gather.new.marks.items) c.in_ok-members.ensures c.in_ok-gather.ensures.gathered,
  subst (λ xs. IsNamed xs c.args.parts.now.items c.name_part.new.parts.items) c.deref.ensures.value c.name_part.ensures,
)
