use Rattle.std.proofs.Common.{◌≡◌, ◌∙◌, ap, sym, true, false, Bool}
use Rattle.std.specs.Prelude.{◌||◌, flat_map}
use Rattle.std.specs.List.{list_any}
use Rattle.heap_difference.specs.KeySets.{is_among, set_of, meet}
use Rattle.heap_difference.specs.Naming.{op_keys, outcome_keys}
use Rattle.heap_difference.proofs.NamingLemmas.{meet_all}
use Rattle.heap_difference.proofs.key_set.KeySet.touches_all.Goals as goal

pub returns-then-touches : goal.returns-then-touches
returns-then-touches c =
    let d = c.args.self.now in
    let named : Bool = list_any (is_among d) (flat_map op_keys c.args.ops.now) || list_any (is_among d) (flat_map outcome_keys c.args.outcomes.now) in
    let here : meet d (set_of c.args.told.now) ≡ true = sym c.touches.ensures ∙ c.if-touches.true in
    sym (ap (λ t. t || named) here) ∙ meet_all d c.args.told.now c.args.ops.now c.args.outcomes.now

pub returns-then-touches_names : goal.returns-then-touches_names
returns-then-touches_names c =
    let d = c.args.self.now in
    let in_ops : Bool = list_any (is_among d) (flat_map op_keys c.args.ops.now) in
    let in_outcomes : Bool = list_any (is_among d) (flat_map outcome_keys c.args.outcomes.now) in
    let none : meet d (set_of c.args.told.now) ≡ false = sym c.touches.ensures ∙ c.if-touches.false in
    let here : in_ops ≡ true = sym c.touches_names.ensures ∙ c.if-touches_names.true in
    sym (ap (λ t. t || (in_ops || in_outcomes)) none ∙ ap (λ t. t || in_outcomes) here) ∙ meet_all d c.args.told.now c.args.ops.now c.args.outcomes.now

pub returns : goal.returns
returns c =
    let d = c.args.self.now in
    let in_ops : Bool = list_any (is_among d) (flat_map op_keys c.args.ops.now) in
    let in_outcomes : Bool = list_any (is_among d) (flat_map outcome_keys c.args.outcomes.now) in
    let none : meet d (set_of c.args.told.now) ≡ false = sym c.touches.ensures ∙ c.if-touches.false in
    let none_too : in_ops ≡ false = sym c.touches_names.ensures ∙ c.if-touches_names.false in
    c.touches_outcomes.ensures
    ∙ sym (ap (λ t. t || (in_ops || in_outcomes)) none ∙ ap (λ t. t || in_outcomes) none_too)
    ∙ meet_all d c.args.told.now c.args.ops.now c.args.outcomes.now
