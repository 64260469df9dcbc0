-- The laws, each as the contract of its function in `laws` has it. For the layers above: their proofs cite a law by its name here.
use Rattle.std.proofs.Common.{◌≡◌, ap}
use Rattle.std.specs.Ordering.{nat_cmp}
use Rattle.std.specs.FinMap.{get-empty}
use Rattle.retention_model.specs.declared.place.Place.TheVariants.{Handle, Cell, Field}
use Rattle.retention_model.specs.Places.{held_at, field_at}
use Rattle.retention_model.specs.Laws.{SinceIsFold, NothingStands, OthersStay, ReachedByWays, RetainedFalls, LastLossTells, SomeSlotWasLost}
use Rattle.retention_model.proofs.LookedLemmas.{carried_stays}
use Rattle.retention_model.proofs.WayLemmas.{reached_by_ways}
use Rattle.retention_model.proofs.RetainedLemmas.{retained_falls}
use Rattle.retention_model.proofs.SinceLemmas.{since_holds}
use Rattle.retention_model.proofs.LossLemmas.{leaked_since_loss, some_lost}

pub since_fold : SinceIsFold
since_fold start ops p s old holds never = since_holds p s start ops old holds never

pub nothing : NothingStands
nothing (Handle h i) = ap (λ x. held_at x i) (get-empty nat_cmp h)
nothing (Cell c) = get-empty nat_cmp c
nothing (Field o i) = ap (λ x. field_at x i) (get-empty nat_cmp o)

pub others : OthersStay
others m id plan p unseen = carried_stays p m id plan unseen

pub ways : ReachedByWays
ways m o = reached_by_ways m o

pub retained : RetainedFalls
retained m n o x alive less = retained_falls m n o alive less x

pub last_loss : LastLossTells
last_loss ops new o id it last = leaked_since_loss ops new o it id last

pub some_loss : SomeSlotWasLost
some_loss ops new o it none = some_lost ops new o it none
