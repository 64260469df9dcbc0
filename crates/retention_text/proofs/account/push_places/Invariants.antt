use Rattle.std.proofs.Common.{◌≡◌, ◌++◌, take, flat_map, string_bytes}
use Rattle.retention_text.specs.Pieces.{held_text}
use Rattle.retention_text.proofs.account.push_places.Given as goal

abbrev pub invariant-loop-held : goal.invariant-loop-held
invariant-loop-held l = string_bytes l.text ≡ string_bytes l.initial.text ++ flat_map (held_text l.label) (take l.held-index l.places)
