use Rattle.std.proofs.Common.{◌≡◌, ℕ, ◌<◌, ◌≤◌, List, length, slice_index, ap, sym, subst, ◌∙◌, arith}
use Rattle.std.specs.Prelude.{slice_index_or}
use Rattle.retention.specs.Graph.{size}
use Rattle.retention.specs.Components.{AreParts, size_of}
use Rattle.retention.proofs.AccountLemmas.{size_within}
use Rattle.retention.proofs.account.in_cycle.Goals as goal

pub own_way-requires : goal.own_way-requires
own_way-requires c = record {
  fresh = c.requires.own;
  parts = subst (λ (xs : List ℕ). AreParts c.args.end.now.graph xs) (sym c.parts-parts.ensures) c.requires.ending.cycles.parts;
  within = c.requires.there;
  cyclic = c.requires.cyclic.1;
}

pub bounds-parts-index : goal.bounds-parts-index
bounds-parts-index c = omega (arith, c.requires.there, ap length c.parts-parts.ensures, c.requires.ending.cycles.parts.long)

pub size-size-requires : goal.size-size-requires
size-size-requires c =
    let cycles = c.args.end.now.cycles in
    let is : slice_index_or c.parts-parts.result.now c.args.index 0 ≡ slice_index cycles.parts.items c.args.index = ap (λ xs. slice_index xs c.args.index) c.parts-parts.ensures in
    let less : slice_index cycles.parts.items c.args.index < length cycles.sizes.items = size_within c.args.end.now.graph c.args.end.now.leaked.items cycles c.requires.ending.cycles c.args.index c.requires.there in
    omega (arith, is, less, cycles.sizes.ok.0)

pub returns-clause-why : goal.returns-clause-why
returns-clause-why c =
    let cycles = c.args.end.now.cycles in
    let is : slice_index_or c.parts-parts.result.now c.args.index 0 ≡ slice_index cycles.parts.items c.args.index = ap (λ xs. slice_index xs c.args.index) c.parts-parts.ensures in
    let least : slice_index cycles.parts.items c.args.index ≤ c.args.index = (c.requires.ending.cycles.parts.least c.args.index c.requires.there).0 in
    let there : slice_index_or c.parts-parts.result.now c.args.index 0 < size c.args.end.now.graph = omega (arith, is, least, c.requires.there) in
    λ came. (
      c.requires.cyclic,
      c.unwrap_or-since.ensures,
      c.in_ok-way.ensures.told,
      c.size-size.ensures ∙ c.requires.ending.cycles.sizes (slice_index_or c.parts-parts.result.now c.args.index 0) there ∙ ap (size_of cycles.parts.items) is,
    )
