-- What clap knows of a command without options of its own kind is that it is plain: then it has no option that its subcommands share.
use Rattle.std.proofs.Common.{◌≡◌, ◌&&◌, Bool, true, false, not, refl}
use Rattle.clap.specs.Simple.{has_plain_fields}
use Rattle.clap.specs.declared.builder.command.Command.{Command, Command-F}

left : (a b : Bool) → (a && b) ≡ true → a ≡ true
left true b e = refl
left false b e = absurd cc

right : (a b : Bool) → (a && b) ≡ true → b ≡ true
right true b e = e
right false b e = absurd cc

off : (a : Bool) → not a ≡ true → a ≡ false
off true e = absurd cc
off false e = refl

third : (a b c d : Bool) → (a && (b && (c && d))) ≡ true → c ≡ true
third a b c d e = left c d (right b (c && d) (right a (b && (c && d)) e))

pub no_globals : (f : Command-F Command) → has_plain_fields f ≡ true → f.has_globals ≡ false
no_globals f e = off f.has_globals (third _ _ (not f.has_globals) _ e)

-- whether it has options that its subcommands share
abbrev pub has_globals : Command-F Command → Bool
has_globals f = f.has_globals
