use Rattle.std.proofs.Common.{rules}
use Rattle.std.specs.Option.{option_copied}
use Rattle.leak_report.proofs.HolderLemmas.{no_value_more}
use Rattle.leak_report.proofs.holders.push_entry_holders.Goals as goal

pub returns-in-Some-Husk-clause-value : goal.returns-in-Some-Husk-clause-value
returns-in-Some-Husk-clause-value c = no_value_more c.args.object (option_copied c.args.entry) c.args.leaks.now.items (search rules)

pub returns-in-Some-Husk-2-clause-value : goal.returns-in-Some-Husk-2-clause-value
returns-in-Some-Husk-2-clause-value c = no_value_more c.args.object (option_copied c.args.entry) c.args.leaks.now.items (search rules)
