use Rattle.std.proofs.Common.{◌≡◌, ◌-◌, length, get_or, subst, refl, sym, ap, ◌∙◌, arith}
use Rattle.retention.specs.Layout.{IsRising, AreSources, AreHolders}
use Rattle.retention.specs.Targets.{AreTargets}
use Rattle.retention.specs.HeldPlaces.{held_among, root_places_of}
use Rattle.retention.proofs.LayoutLemmas.{all_laid}
use Rattle.retention.proofs.MadeLemmas.{made}
use Rattle.retention.proofs.graph.Graph.of.Goals as goal

pub targets_of-requires : goal.targets_of-requires
targets_of-requires c = subst (λ xs. IsRising xs) (sym c.deref-2.ensures.value) c.args.named.listed.rising

pub invariant_of-result : goal.invariant_of-result
invariant_of-result c = record {
  laid = all_laid c.args.named.objects.items c.args.named.alive.items (length c.args.named.held.items) c.in_ok-targets.targets.items c.in_ok-sources.sources.items c.args.named.starts.items c.in_ok-holders.holders.items
      c.args.named.listed.rising c.args.named.listed.alive_long
      (c.in_ok-targets.ensures.long ∙ ap length c.deref-3.ensures.value)
      c.args.named.listed.are_starts
      (subst (λ ss. AreSources (length ss - 1) (get_or ss (length ss - 1) 0) ss c.in_ok-sources.sources.items) c.deref.ensures.value c.in_ok-sources.ensures)
      (subst (λ ts. AreHolders (length c.args.named.objects.items) ts c.in_ok-holders.holders.items) c.deref-4.ensures.value
      (subst (λ n. AreHolders n c.deref-4.result.now c.in_ok-holders.holders.items) (let n : c.len.result ≡ length c.args.named.objects.items = omega (arith, c.len.ensures, c.args.named.objects.ok.0) in n) c.in_ok-holders.ensures));
}

pub returns : goal.returns
returns c = λ m since is.
    made m since _ (held_among m since (root_places_of m)) is.objects is.alive refl is.held is.starts
    (subst (λ os. AreTargets os c.args.named.held.items c.in_ok-targets.targets.items) c.deref-2.ensures.value (subst (λ hs. AreTargets c.deref-2.result.now hs c.in_ok-targets.targets.items) c.deref-3.ensures.value c.in_ok-targets.ensures))
