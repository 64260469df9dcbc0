use Rattle.std.proofs.Common.{◌≡◌, drop}
use Rattle.ownership_model.specs.View.{repeated, repeated_in}
use Rattle.ownership_model.proofs.plain.names.repeated.Given as goal

-- the first that repeats one before, among those that are left, is the first of all
abbrev pub invariant-loop-h : goal.invariant-loop-h
invariant-loop-h l = repeated_in l.before.items (drop l.h-index l.h-items) ≡ repeated l.fn.kind
