use Rattle.std.proofs.Common.{map, subst, sym}
use Rattle.std.proofs.lemmas.List.{map-append}
use Rattle.ownership_model.specs.declared.key.Key.TheVariants as key
use Rattle.ownership_model.specs.Touched.{event_object, counted}
use Rattle.heap_difference.specs.Filters.{HasPutIn}
use Rattle.heap_difference.proofs.FilterLemmas.{put_on}
use Rattle.heap_difference.proofs.filter.Filter.put_outcome.Goals as goal

pub returns : goal.returns
returns c =
    let x = c.args.outcome.now in
    subst (λ ks. HasPutIn c.args.self.now c.put_counted.new.self ks) (sym (map-append key.Object (map event_object x.events) (counted x.counts)))
    (put_on c.args.self.now c.put_events.new.self c.put_counted.new.self (map key.Object (map event_object x.events)) (map key.Object (counted x.counts)) (rw c.as_slice.ensures at c.put_events.ensures) c.put_counted.ensures)
