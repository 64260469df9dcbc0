use Rattle.std.proofs.Common.{◌≡◌, length, false, arith, ap, ◌∙◌, sym}
use Rattle.ownership_model.specs.Reach.{has}
use Rattle.heap_difference.proofs.KeyLemmas.{none_has, below_first, above_last}
use Rattle.heap_difference.proofs.numbers.Numbers.has.Goals.{then-len-eq0-via-then-len-eq0, then-len-eq0-via-else-len-eq0+then-number-index, then-len-eq0-via-else-len-eq0+else-number-index+then-number-index-2}
use Rattle.heap_difference.proofs.numbers.Numbers.has.Goals as goal

pub returns-then-len-eq0 : goal.returns-then-len-eq0
returns-then-len-eq0 c =
    let long : c.len-len.result ≡ length c.self.inside.items.items = c.len-len.ensures ∙ c.self.inside.items.ok.0 in
    let out : false ≡ has c.args.number c.self.inside.items.items = elim c.then-len-eq0.branch [
      | then-len-eq0-via-then-len-eq0 w ↦ none_has c.args.number c.self.inside.items.items (sym long ∙ w.if-len-eq0.true)
      | then-len-eq0-via-else-len-eq0+then-number-index w ↦ below_first c.args.number w.index.result.now c.self.inside.items.items c.self.invariant w.index.ensures w.if-number-index.true
      | then-len-eq0-via-else-len-eq0+else-number-index+then-number-index-2 w ↦
          above_last c.args.number w.index-else-number-index.result.now c.self.inside.items.items _ c.self.invariant
          (omega (arith, long, w.if-len-eq0.false)) w.index-else-number-index.ensures w.if-number-index-2.true
    ] in
    out ∙ ap (has c.args.number) c.self.view_is
