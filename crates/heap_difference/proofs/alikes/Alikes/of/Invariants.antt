use Rattle.std.proofs.Common.{◌≡◌, ℕ, take, true}
use Rattle.ownership_model.specs.Reach.{has}
use Rattle.heap_difference.specs.Alikes.{AreAlikes, is_alike, may_be_alike, DoFieldsDiffer}
use Rattle.heap_difference.proofs.alikes.Alikes.of.Given as goal

abbrev pub invariant-loop-object : goal.invariant-loop-object
invariant-loop-object l = record {
  alikes : AreAlikes l.alikes.shifts.items l.alikes.fields.items l.old l.new;
  within : (o : ℕ) → is_alike l.alikes.shifts.items o ≡ true → has o (take l.object-index l.objects) ≡ true;
  all : (o : ℕ) → has o (take l.object-index l.objects) ≡ true → may_be_alike l.old l.new o ≡ true → is_alike l.alikes.shifts.items o ≡ true;
  differ : DoFieldsDiffer l.alikes.fields.items l.old;
}
