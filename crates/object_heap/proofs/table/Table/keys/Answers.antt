use Rattle.std.proofs.Common.{◌≡◌, ℕ, List, subst}
use Rattle.std.specs.Prelude.{IfOk}
use Rattle.object_heap.proofs.TableLemmas.{keys_found}
use Rattle.object_heap.proofs.table.Table.keys.Goals as goal

pub returns : goal.returns
returns c = subst (λ (ks : List ℕ). IfOk c.keys.result (λ v. v.items ≡ ks)) (keys_found c.self.inside.kept c.args.self.now c.self.view_is c.self.invariant c.requires) c.keys.ensures
