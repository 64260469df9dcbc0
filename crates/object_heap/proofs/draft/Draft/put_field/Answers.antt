use Rattle.std.proofs.Common.{refl}
use Rattle.trace_types.specs.declared.slots.Change.TheVariants.{SetField}
use Rattle.object_heap.specs.declared.put.FieldPut.{FieldPut}
use Rattle.object_heap.specs.Counted.{drafted}
use Rattle.object_heap.specs.Laid.{with_field_put}
use Rattle.object_heap.proofs.GainLemmas.{on_ok}
use Rattle.object_heap.proofs.LayLemmas.{made}
use Rattle.object_heap.proofs.draft.Draft.put_field.Goals as goal

pub returns : goal.returns
returns c =
    let old = c.args.self.now in
    let f : FieldPut = c.args.field.now in
    on_ok c.set_field.result c.set_field.ensures (λ r.
    made old c.set_field.new.self (SetField f.object f.index f.slot) (with_field_put f (drafted old)) refl c.requires.bounded tt c.requires.can r)
