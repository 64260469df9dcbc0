use Rattle.std.proofs.Common.{◌≡◌, take, true}
use Rattle.std.specs.List.{AllByRecursion}
use Rattle.heap_difference.specs.Alikes.{is_alike, is_loose}
use Rattle.heap_difference.proofs.alikes.Alikes.cover.Given as goal

abbrev pub invariant-loop-field : goal.invariant-loop-field
invariant-loop-field l = AllByRecursion (λ f. is_alike l.self.shifts.items f.object ≡ true → is_loose l.self.fields.items f.object f.index ≡ true) (take l.field-index l.other.fields.items)
