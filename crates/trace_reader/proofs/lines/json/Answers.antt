use Rattle.std.proofs.Common.{false, IsTrue}
use Rattle.trace_reader.proofs.Json.{json_of-read, json_of-refused}
use Rattle.trace_reader.proofs.lines.json.Goals as goal

pub returns-in-Ok-clause-ok : goal.returns-in-Ok-clause-ok
returns-in-Ok-clause-ok c = json_of-read _ _ c.in-Ok.ensures.ok.0 c.in-Ok.ensures.ok.1

pub returns-else-is_memory-clause-fault : goal.returns-else-is_memory-clause-fault
returns-else-is_memory-clause-fault c = λ _. json_of-refused _ (c.in-Err.ensures.err (λ h. let bad : IsTrue false = c.if-is_memory.ensures.1 h in cc))
