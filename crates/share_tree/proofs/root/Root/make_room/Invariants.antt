use Rattle.std.proofs.Common.{◌≡◌, ℕ, ◌-◌}
use Rattle.share_tree.specs.Levels.{root_at, height_of}
use Rattle.share_tree.proofs.root.Root.make_room.Given as goal

abbrev pub invariant-loop-alloc : goal.invariant-loop-alloc
invariant-loop-alloc g l = (q : ℕ) → root_at l.self q ≡ root_at l.initial.self q

abbrev pub decreases-loop-alloc : goal.decreases-loop-alloc
decreases-loop-alloc g l = 8 - height_of l.self
