use Rattle.std.proofs.Common.{List, ℕ, sym, subst}
use Rattle.agreement.specs.Joining.{IsJoined}
use Rattle.agreement.proofs.IslandLemmas.{agree_but_island}
use Rattle.agreement.proofs.among.island_near.Goals as goal

pub returns : goal.returns
returns c =
    let joined : IsJoined c.args.new.now c.args.old.now c.args.suspects.now c.as_slice-island.result.now =
    subst (λ (xs : List ℕ). IsJoined c.args.new.now c.args.old.now c.args.suspects.now xs) (sym c.as_slice-island.ensures.value) (rw c.in-Some.is at c.in_ok-apart.ensures) in
    agree_but_island c.args.new.now c.args.old.now c.args.suspects.now c.as_slice-island.result.now c.requires.roots c.requires.outside joined
    c.remains_at.ensures.sound.0 c.remains_at.ensures.sound.1 (c.in_ok-is_island.ensures c.if-not-branch.false) c.in_ok-remains.remains c.in_ok-remains.ensures.remains
