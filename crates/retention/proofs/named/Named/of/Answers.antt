use Rattle.std.proofs.Common.{◌≡◌, ◌<◌, ◌+◌, ◌++◌, ℕ, length, get_or, map, take, sym, ap, ◌∙◌, subst}
use Rattle.std.proofs.lemmas.List.{length-map}
use Rattle.std.specs.FinMap.{get}
use Rattle.ownership_model.specs.State.{is_alive}
use Rattle.retention.specs.Layout.{IsRising, AreStarts}
use Rattle.retention.specs.HeldPlaces.{held_among, field_places_of}
use Rattle.retention.proofs.MadeLemmas.{keys_rising}
use Rattle.retention.proofs.named.Named.of.Goals as goal

pub push_all_fields-requires : goal.push_all_fields-requires
push_all_fields-requires c = record { told = (c.args.heap.now, c.requires) }

pub invariant_of-result : goal.invariant_of-result
invariant_of-result c = record {
  listed = record {
    rising = subst (λ xs. IsRising xs) (sym c.in_ok-objects.ensures) (keys_rising c.args.heap.now.objects);
    alive_long = ap length c.in_ok-alive.ensures ∙ length-map c.deref.result.now (λ o. is_alive (get c.args.heap.now.objects o)) ∙ ap length c.deref.ensures.value;
    are_starts = subst (λ os. AreStarts (length os) (length c.push_all_fields.new.held.items) c.in_ok-starts.starts.items) c.deref-2.ensures.value c.in_ok-starts.ensures.starts;
  };
}

pub returns : goal.returns
returns c = λ since tells. record {
  objects = c.in_ok-objects.ensures;
  alive = c.in_ok-alive.ensures ∙ ap (map (λ o. is_alive (get c.args.heap.now.objects o))) c.deref.ensures.value;
  held =
      subst (λ os. c.push_all_fields.new.held.items ≡ c.in_ok-held.held.items ++ held_among c.args.heap.now since (field_places_of c.args.heap.now os)) c.deref-2.ensures.value (c.in_ok-starts.ensures.held c.args.heap.now since tells)
      ∙ ap (λ hs. hs ++ held_among c.args.heap.now since (field_places_of c.args.heap.now c.in_ok-objects.objects.items)) (c.in_ok-held.ensures since tells);
  starts = λ i h.
      subst (λ os. (j : ℕ) → j < length os + 1 → get_or c.in_ok-starts.starts.items j 0 ≡ length c.in_ok-held.held.items + length (held_among c.args.heap.now since (field_places_of c.args.heap.now (take j os)))) c.deref-2.ensures.value (c.in_ok-starts.ensures.each c.args.heap.now since tells) i h
      ∙ ap (λ hs. length hs + length (held_among c.args.heap.now since (field_places_of c.args.heap.now (take i c.in_ok-objects.objects.items)))) (c.in_ok-held.ensures since tells);
}
