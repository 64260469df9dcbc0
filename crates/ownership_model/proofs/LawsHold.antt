-- The laws, each as the contract of its function in `laws` or `reach_laws` has it. For the layers above: their proofs cite a law by
-- its name here.
use Rattle.std.proofs.Common.{arith}
use Rattle.ownership_model.specs.Laws.{AgreementHolds, AgreementStays, PatchesHold, SoundnessHolds, ReleasesInTurn, CascadeHolds, BoundsHold, AppendsHold, TouchedHolds, ScopesHold}
use Rattle.ownership_model.specs.Before.{OldTracesReplayAsBefore}
use Rattle.ownership_model.specs.FootprintLaws.{FootprintsHold, StretchesAreTaken, PartsStayAlike}
use Rattle.ownership_model.specs.Sets.{SetsAreNamed, SetsAreTouched}
use Rattle.ownership_model.specs.NearLaws.{NearHolds, PlacesKeepArcs, BlindHolds}
use Rattle.ownership_model.specs.ReachLaws.{ReachIsLeast, NamedAreReached, LeakedAreUnreached, HoldersHold}
use Rattle.ownership_model.proofs.ReleaseLemmas.{release-nil, release-cons, work_drops}
use Rattle.ownership_model.proofs.DropLemmas.{sound-drop_first, sound-release}
use Rattle.ownership_model.proofs.CascadeLemmas.{course, freed_exactly}
use Rattle.ownership_model.proofs.LeastLemmas.{kept_roots, kept_scopes, destroyed}
use Rattle.ownership_model.proofs.CarryLemmas.{row_carriable, step_sound}
use Rattle.ownership_model.proofs.JoinedLemmas as joined
use Rattle.ownership_model.proofs.StayLemmas.{still_agree}
use Rattle.ownership_model.proofs.PatchLemmas.{get-patched}
use Rattle.ownership_model.proofs.RemainsLemmas.{is_patched, patched_both, patched_less, still_there}
use Rattle.ownership_model.proofs.LaterLemmas.{stops_later}
use Rattle.ownership_model.proofs.ReplayLemmas.{appends_hold, nothing_sound, nothing_taken, distinct_new}
use Rattle.ownership_model.proofs.TouchedLemmas.{end_outside}
use Rattle.ownership_model.proofs.AlikeLemmas.{release_alike, taken-nil, taken-cons}
use Rattle.ownership_model.proofs.AlikeSteps.{step_alike}
use Rattle.ownership_model.proofs.OutsideLemmas.{step_kept, run_kept}
use Rattle.ownership_model.proofs.PlaceLemmas.{places_kept}
use Rattle.ownership_model.proofs.TakenLemmas.{replay_alike, stretches_taken, parts_alike}
use Rattle.ownership_model.proofs.NearSteps.{near_holds}
use Rattle.ownership_model.proofs.BlindLemmas.{blind_holds}
use Rattle.ownership_model.proofs.SetLemmas.{sets_named, sets_touched}
use Rattle.ownership_model.proofs.FitLemmas.{bounds_hold}
use Rattle.ownership_model.proofs.BeforeLemmas.{as_before}
use Rattle.ownership_model.proofs.ScopeLemmas.{changed_scoped}
use Rattle.ownership_model.proofs.ScopeMaps.{own_entered, other_entered, each_left, same_scopes}
use Rattle.ownership_model.proofs.LeakLemmas.{reach_holds, unreached}
use Rattle.ownership_model.proofs.HoldingLemmas.{hold}
use Rattle.ownership_model.proofs.RootLemmas.{named_reached}

pub agreement : AgreementHolds
agreement = joined.agreement_holds

pub agreement_stays : AgreementStays
agreement_stays = still_agree

pub patches : PatchesHold
patches = record { object = get-patched; only = is_patched; both = patched_both; less = patched_less; there = still_there; later = stops_later }

pub soundness : SoundnessHolds
soundness = record {
  start = nothing_sound;
  unused = nothing_taken;
  are_new = distinct_new;
  rows = row_carriable;
  steps = step_sound;
  replays = joined.replays;
}

pub in_turn : ReleasesInTurn
in_turn = record { none = release-nil; first = release-cons; sound = sound-drop_first; less = λ m x rest. omega (arith, work_drops m x rest) }

pub cascade : CascadeHolds
cascade = record {
  sound = sound-release;
  cascades = λ m pending sound. record {
    handles = (kept_roots m pending).0;
    cells = (kept_roots m pending).1;
    scopes = kept_scopes m pending;
    destroyed = destroyed m pending sound;
    courses = λ o. course m pending o sound;
    freed = λ o. freed_exactly m pending o sound;
  };
}

pub bounds : BoundsHold
bounds = bounds_hold

pub appends : AppendsHold
appends = appends_hold

pub touched : TouchedHolds
touched = λ m ops. end_outside ops m

pub footprints : FootprintsHold
footprints = record {
  none_taken = taken-nil;
  first_taken = taken-cons;
  drops = λ k m n p a c. let e = release_alike k m n p c a in record { events = e.events; alike = e.alike; weights = e.moves; taken = e.taken };
  steps = λ k m n op a c.
      let d = step_alike k m n op c a in
      record { outcome = d.steps.outcome; alike = d.steps.alike; weights = d.steps.moves; scopes = d.steps.scopes; footprint = d.keys; moved = d.moved };
  replays = replay_alike;
  kept_by_step = step_kept;
  kept_by_replay = λ k m ops sound distinct unused. run_kept k ops m sound (joined.replays m ops sound distinct unused).0;
}

pub taken_over : StretchesAreTaken
taken_over = stretches_taken

pub parts_stay : PartsStayAlike
parts_stay = parts_alike

pub near : NearHolds
near = near_holds

pub blind : BlindHolds
blind = blind_holds

pub places : PlacesKeepArcs
places = places_kept

pub sets : SetsAreNamed
sets = sets_named

pub touched_sets : SetsAreTouched
touched_sets = sets_touched

pub old_traces : OldTracesReplayAsBefore
old_traces = as_before

pub scopes : ScopesHold
scopes = record {
  enters = own_entered;
  others = other_entered;
  leaves = each_left;
  equal = λ m n pending rest sound sound_too same. same_scopes 0 0 m.scopes n.scopes sound.scopes.in_order sound_too.scopes.in_order same;
  changes = λ m changes. changed_scoped changes m;
}

pub reach : ReachIsLeast
reach = reach_holds

pub named : NamedAreReached
named = named_reached

pub leaked : LeakedAreUnreached
leaked = unreached

pub holders : HoldersHold
holders = hold
