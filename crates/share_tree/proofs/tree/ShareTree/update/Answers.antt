use Rattle.std.proofs.Common.{ap, sym, subst, ◌∙◌, arith, ◌≡◌, ◌<◌, ◌^◌, IfSome, false, unwrap_or}
use Rattle.std.specs.FinMap as map
use Rattle.std.specs.Option.{option_map}
use Rattle.share_tree.specs.Levels.{root_at}
use Rattle.share_tree.specs.Updates.{set_at}
use Rattle.share_tree.proofs.MapLemmas.{get-map_of, map_of-set_at, len-set_at}
use Rattle.share_tree.proofs.tree.ShareTree.update.Goals as goal

pub update-requires : goal.update-requires
update-requires g c =
    let below : c.args.key < 2 ^ 32 = omega arith in
    let f = root_at c.self.inside.root in
    let there : map.get c.args.self.now c.args.key ≡ f c.args.key = ap (λ m. map.get m c.args.key) (sym c.self.view_is) ∙ get-map_of f c.args.key below in
    subst (λ o. IfSome o (g.F.Update.can c.args.how.now)) there c.requires

pub invariant_of-self-2 : goal.invariant_of-self-2
invariant_of-self-2 g c =
    let below : c.args.key < 2 ^ 32 = omega arith in
    let f = root_at c.self.inside.root in
    let to = g.F.Update.to c.args.how.now in
    c.self.invariant ∙ sym (ap map.len (map_of-set_at to f (root_at c.update.new.self) c.args.key below c.in_ok-answer.ensures.ok) ∙ len-set_at to _ c.args.key)

pub returns-clause-answer : goal.returns-clause-answer
returns-clause-answer g c =
    let below : c.args.key < 2 ^ 32 = omega arith in
    let f = root_at c.self.inside.root in
    let there : map.get c.args.self.now c.args.key ≡ f c.args.key = ap (λ m. map.get m c.args.key) (sym c.self.view_is) ∙ get-map_of f c.args.key below in
    c.in_ok-answer.ensures.answer ∙ ap (λ z. unwrap_or (option_map (g.F.Update.answer c.args.how.now) z) false) (sym there)

pub returns-clause-ok : goal.returns-clause-ok
returns-clause-ok g c =
    let below : c.args.key < 2 ^ 32 = omega arith in
    let f = root_at c.self.inside.root in
    let to = g.F.Update.to c.args.how.now in
    map_of-set_at to f (root_at c.update.new.self) c.args.key below c.in_ok-answer.ensures.ok
    ∙ ap (λ m. set_at m c.args.key (option_map to (map.get m c.args.key))) c.self.view_is
