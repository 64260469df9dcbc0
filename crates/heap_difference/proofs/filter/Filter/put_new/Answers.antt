use Rattle.std.proofs.Common.{◌∷◌, [], map, subst, sym}
use Rattle.std.proofs.lemmas.List.{append-nil}
use Rattle.ownership_model.specs.View.{held_fields}
use Rattle.heap_difference.specs.Filters.{HasPutIn}
use Rattle.ownership_model.specs.declared.key.Key.TheVariants as key
use Rattle.heap_difference.proofs.FilterLemmas.{put_on}
use Rattle.heap_difference.proofs.filter.Filter.put_new.Goals as goal

pub returns : goal.returns
returns c =
    subst (λ ks. HasPutIn c.args.self.now c.put_fields.new.self (key.Handle c.args.to ∷ ks)) (sym (append-nil (map key.Handle (held_fields c.args.fields.now))))
    (put_on c.args.self.now c.put.new.self c.put_fields.new.self (key.Handle c.args.to ∷ []) (map key.Handle (held_fields c.args.fields.now)) c.put.ensures c.put_fields.ensures)
