use Rattle.std.proofs.Common.{sym, refl, subst}
use Rattle.ownership_model.specs.declared.key.Key.{Key}
use Rattle.heap_difference.specs.declared.holders.Holders.{Holders}
use Rattle.heap_difference.specs.Holders.{IsOneCounted}
use Rattle.heap_difference.proofs.HolderLemmas.{met_now}
use Rattle.heap_difference.proofs.holders.Holders.count_once.Goals as goal

pub returns : goal.returns
returns c =
    let after : Holders = record c.count_off-2.new.self { recent = c.put.new.self } in
    subst (λ (x : Key). IsOneCounted x c.args.from.now c.args.self.now after) (sym c.in-Handle.is)
    (met_now c.in-Handle.handle c.args.from.now c.args.self.now c.count_off-2.new.self after c.in_ok-count_off.ensures refl refl refl c.put.ensures.only)
