use Rattle.std.proofs.Common.{◌≡◌, ◌++◌, rules}
use Rattle.agreement.proofs.SuspectLemmas.{all_suspects}
use Rattle.agreement.proofs.suspects.Suspects.of_both.Goals as goal

pub returns : goal.returns
returns c =
    let both : c.extend_from_slice.new.self.items ≡ c.in_ok-objects.objects.items ++ c.in_ok-objects-2.field-0.items = search rules in
    all_suspects c.args.new.now c.args.old.now c.in_ok-objects.objects.items c.in_ok-objects-2.field-0.items c.extend_from_slice.new.self.items c.in_ok-objects.ensures c.in_ok-objects-2.ensures both
