use Rattle.std.proofs.Common.{◌∙◌, ap, subst, take, arith}
use Rattle.std.proofs.Math.Seq.{take-length}
use Rattle.std.specs.Prelude.{flat_map}
use Rattle.heap_difference.specs.Filters.{HasPutIn}
use Rattle.heap_difference.proofs.FilterLemmas.{field_keys, all_fields, put_part_at}
use Rattle.heap_difference.proofs.filter.Filter.put_fields.Goals as goal

pub loop-field-preserved : goal.loop-field-preserved
loop-field-preserved c = put_part_at field_keys c.args.self.now c.loop-field.self c.put_field.new.self c.args.fields.now c.loop-field.field-index _ c.loop-field-test.true c.loop-field.invariant c.put_field.ensures

pub returns : goal.returns
returns c =
    subst (λ ks. HasPutIn c.args.self.now c.loop-field.self ks)
    (ap (λ n. flat_map field_keys (take n c.args.fields.now)) (omega (arith, c.loop-field-test.false, c.loop-field.auto.field-index-end)) ∙ ap (flat_map field_keys) (take-length c.args.fields.now) ∙ all_fields c.args.fields.now)
    c.loop-field.invariant
