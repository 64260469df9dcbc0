use Rattle.std.proofs.Common.{◌≡◌, ◌<◌, ◌≤◌, ◌+◌, length, get_or, sym, ap, ◌∙◌, subst, arith}
use Rattle.std.specs.Prelude.{Some}
use Rattle.std.proofs.lemmas.List.{get_or_read}
use Rattle.retention.specs.Graph.{size, places, start_at, IsFieldAt}
use Rattle.retention.proofs.GraphPaths.{no_field, source_is, source_of}
use Rattle.retention.proofs.graph.Graph.source.Goals as goal

pub returns-then-place-index-clause-field : goal.returns-then-place-index-clause-field
returns-then-place-index-clause-field c = λ i f.
    let long : length c.args.self.now.starts.items ≡ size c.args.self.now + 1 = c.args.self.now.laid.are_starts.long in
    let first : c.index.result.now ≡ start_at c.args.self.now 0 = get_or_read c.args.self.now.starts.items 0 c.index.result.now (omega (arith, long)) c.index.ensures 0 in
    absurd (no_field c.args.self.now i c.args.place (subst (λ x. c.args.place < x) first c.if-place-index.true) f)

pub returns-else-place-index-clause-own : goal.returns-else-place-index-clause-own
returns-else-place-index-clause-own c =
    let long : length c.args.self.now.starts.items ≡ size c.args.self.now + 1 = c.args.self.now.laid.are_starts.long in
    let first : c.index.result.now ≡ start_at c.args.self.now 0 = get_or_read c.args.self.now.starts.items 0 c.index.result.now (omega (arith, long)) c.index.ensures 0 in
    let sources : length c.args.self.now.sources.items ≡ places c.args.self.now = c.args.self.now.laid.are_sources.long in
    let own : c.index-else-place-index.result.now ≡ get_or c.args.self.now.sources.items c.args.place 0 =
    get_or_read c.args.self.now.sources.items c.args.place c.index-else-place-index.result.now (omega (arith, sources, c.requires)) c.index-else-place-index.ensures 0 in
    subst (λ i. (i < size c.args.self.now) × IsFieldAt c.args.self.now i c.args.place) (sym own) (source_of c.args.self.now c.args.place (subst (λ x. x ≤ c.args.place) first c.if-place-index.false) c.requires)

pub returns-else-place-index-clause-field : goal.returns-else-place-index-clause-field
returns-else-place-index-clause-field c = λ i f.
    let sources : length c.args.self.now.sources.items ≡ places c.args.self.now = c.args.self.now.laid.are_sources.long in
    let own : c.index-else-place-index.result.now ≡ get_or c.args.self.now.sources.items c.args.place 0 =
    get_or_read c.args.self.now.sources.items c.args.place c.index-else-place-index.result.now (omega (arith, sources, c.requires)) c.index-else-place-index.ensures 0 in
    ap Some (own ∙ source_is c.args.self.now i c.args.place f)
