use Rattle.heap_difference.specs.declared.key_set.KeySet.{KeySet}
use Rattle.heap_difference.proofs.FoundLemmas.{is_found}
use Rattle.heap_difference.proofs.finding.found.Goals as goal

pub returns : goal.returns
returns c =
    let d : KeySet = record { handles = c.in_ok-handles.handles; cells = c.in_ok-cells.cells; objects = c.in_ok-objects.objects; labels = c.in_ok-labels.labels } in
    is_found c.args.among.now c.args.old.now c.args.new.now d c.show_sound.ensures.sound c.show_sound-2.ensures.sound c.requires
    c.in_ok-handles.ensures c.in_ok-cells.ensures c.in_ok-objects.ensures c.in_ok-labels.ensures
