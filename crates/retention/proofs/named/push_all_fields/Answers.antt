use Rattle.std.proofs.Common.{◌≡◌, ◌<◌, ◌≤◌, ◌+◌, ◌++◌, [], ◌∷◌, length, get_or, take, sym, ap, ◌∙◌, subst, arith, refl, length-append}
use Rattle.std.specs.FinMap.{get}
use Rattle.retention_model.specs.Places.{object_places}
use Rattle.retention.specs.HeldPlaces.{held_among, field_places_of}
use Rattle.retention.proofs.MadeLemmas.{held_more, starts_more, each_more}
use Rattle.retention.proofs.named.push_all_fields.Goals as goal

pub loop-object-preserved : goal.loop-object-preserved
loop-object-preserved c =
    let count : c.len.result ≡ length c.loop-object.held.items = omega (arith, c.len.ensures, c.loop-object.held.ok.0) in
    let grown : c.push_fields.new.held.items ≡ c.loop-object.held.items ++ held_among c.requires.told.0 c.requires.told.1.0 (object_places (get_or c.args.objects.now c.loop-object.object-index 0) (get c.requires.told.0.objects (get_or c.args.objects.now c.loop-object.object-index 0))) =
    c.in_ok-push_fields.ensures c.requires.told.0 c.requires.told.1.0 c.requires.told.1.1 in
    let longer : length c.loop-object.held.items ≤ length c.push_fields.new.held.items =
    (let all : length c.push_fields.new.held.items ≡ length c.loop-object.held.items + length (held_among c.requires.told.0 c.requires.told.1.0 (object_places (get_or c.args.objects.now c.loop-object.object-index 0) (get c.requires.told.0.objects (get_or c.args.objects.now c.loop-object.object-index 0)))) = ap length grown ∙ length-append c.loop-object.held.items (held_among c.requires.told.0 c.requires.told.1.0 (object_places (get_or c.args.objects.now c.loop-object.object-index 0) (get c.requires.told.0.objects (get_or c.args.objects.now c.loop-object.object-index 0)))) in omega (arith, all)) in
    record {
      long = ap length c.in_ok-push.ensures.items ∙ length-append c.loop-object.starts.items (c.len.result ∷ []) ∙ ap (λ n. n + 1) c.loop-object.invariant.long;
      held = λ m since tells.
          held_more m since (λ o. object_places o (get m.objects o)) c.args.objects.now c.loop-object.object-index (get_or c.args.objects.now c.loop-object.object-index 0) c.args.held.now.items c.loop-object.held.items c.push_fields.new.held.items
          c.loop-object-test.true refl (c.loop-object.invariant.held m since tells) (c.in_ok-push_fields.ensures m since tells);
      rising = λ i h.
          subst (λ xs. (i + 1 < c.loop-object.object-index + 1 → get_or xs i 0 ≤ get_or xs (i + 1) 0) × (get_or xs i 0 ≤ length c.push_fields.new.held.items)) (sym c.in_ok-push.ensures.items)
          (starts_more c.loop-object.starts.items c.loop-object.object-index c.len.result (length c.loop-object.held.items) (length c.push_fields.new.held.items) c.loop-object.invariant.long count longer c.loop-object.invariant.rising i h);
      each = λ m since tells i h.
          subst (λ xs. get_or xs i 0 ≡ length c.args.held.now.items + length (held_among m since (field_places_of m (take i c.args.objects.now)))) (sym c.in_ok-push.ensures.items)
          (each_more m since c.args.objects.now c.args.held.now.items c.loop-object.held.items c.loop-object.starts.items c.loop-object.object-index c.len.result c.loop-object.invariant.long count
          (c.loop-object.invariant.held m since tells) (c.loop-object.invariant.each m since tells) i h);
    }

pub returns-clause-each : goal.returns-clause-each
returns-clause-each c = λ m since tells i h.
    let count : c.len-2.result ≡ length c.loop-object.held.items = omega (arith, c.len-2.ensures, c.loop-object.held.ok.0) in
    let end : c.loop-object.object-index ≡ length c.args.objects.now = omega (arith, c.loop-object-test.false, c.loop-object.auto.object-index-end) in
    subst (λ xs. get_or xs i 0 ≡ length c.args.held.now.items + length (held_among m since (field_places_of m (take i c.args.objects.now)))) (sym c.in_ok-push-2.ensures.items)
    (each_more m since c.args.objects.now c.args.held.now.items c.loop-object.held.items c.loop-object.starts.items c.loop-object.object-index c.len-2.result c.loop-object.invariant.long count
    (c.loop-object.invariant.held m since tells) (c.loop-object.invariant.each m since tells) i (omega (arith, h, end)))
