use Rattle.std.proofs.Common.{take}
use Rattle.std.specs.List.{AllZip}
use Rattle.command_words.specs.Named.{IsObject}
use Rattle.command_words.proofs.Objects.{read}
use Rattle.command_words.proofs.matches.numbers.Given as goal

abbrev pub invariant-loop-text : goal.invariant-loop-text
invariant-loop-text l = AllZip IsObject (read (take l.text-index l.texts)) l.objects.items
