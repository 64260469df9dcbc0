use Rattle.retention.proofs.LookLemmas.{none_dated}
use Rattle.retention.proofs.dates.Dates.new.Goals as goal

pub returns : goal.returns
returns c = none_dated (record { alloc = c.args.alloc; handles = c.new.result; cells = c.new-2.result; objects = c.new-3.result }) c.new.ensures.empty c.new-2.ensures.empty c.new-3.ensures.empty
