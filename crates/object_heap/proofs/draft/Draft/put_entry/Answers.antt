use Rattle.std.proofs.Common.{sym, ◌∙◌}
use Rattle.std.specs.Option.{option_copied}
use Rattle.object_heap.specs.Counted.{drafted}
use Rattle.object_heap.proofs.LayLemmas.{stayed, entry_again}
use Rattle.object_heap.proofs.draft.Draft.put_entry.Goals as goal

pub returns-then-same_entry : goal.returns-then-same_entry
returns-then-same_entry c =
    let old = c.args.self.now in
    stayed old _ (entry_again (drafted old) c.args.object (option_copied c.args.entry) (sym c.get.ensures ∙ c.same_entry.ensures.0 c.if-same_entry.true)) c.requires.counted c.requires.bounded
