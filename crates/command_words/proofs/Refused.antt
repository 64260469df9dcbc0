-- Why words are refused.
use Rattle.std.proofs.Common.{◌≡◌, List, true, sym, subst}
use Rattle.clap.specs.Words.{App, Text}
use Rattle.clap.specs.Takes.{takes}
use Rattle.clap.specs.declared.error.kind.ErrorKind.{ErrorKind}
use Rattle.clap.specs.declared.error.kind.ErrorKind.TheVariants.{OutOfMemory}
use Rattle.command_words.specs.Named.{scope_app, are_taken, IsRefused, IsFaultOf}
use Rattle.command_words.specs.declared.WordsFault.{WordsFault}
use Rattle.command_words.specs.declared.WordsFault.TheVariants.{Usage, Memory}

by_fault : (words : List Text) (fault : WordsFault) (kind : ErrorKind) → IsFaultOf fault kind → (are_taken words ≡ true → kind ≡ OutOfMemory) → IsRefused words fault
by_fault words (Usage error) kind told passes = λ taken. absurd (told (passes taken))
by_fault words Memory kind told passes = tt

-- what clap refuses is refused
pub refused : (app : App) → app ≡ scope_app → (words : List Text) (fault : WordsFault) (kind : ErrorKind) → IsFaultOf fault kind
    → (takes app words ≡ true → kind ≡ OutOfMemory) → IsRefused words fault
unfolding are_taken
refused app is words fault kind told passes = by_fault words fault kind told (λ taken. passes (subst (λ a. takes a words ≡ true) (sym is) taken))
