use Rattle.std.proofs.Common.{◌∙◌, sym}
use Rattle.heap_difference.proofs.Tests.{not_true}
use Rattle.heap_difference.proofs.NamingLemmas.{no_names}
use Rattle.heap_difference.proofs.key_set.KeySet.touches_names.Goals as goal

pub returns-else-not-has_objects_alone : goal.returns-else-not-has_objects_alone
returns-else-not-has_objects_alone c =
    let alone = c.has_objects_alone.ensures.0 c.if-not-has_objects_alone.false in
    not_true c.has_objects_alone.result c.if-not-has_objects_alone.false ∙ sym (no_names c.args.self.now alone.0 alone.1.0 alone.1.1 c.args.ops.now)
