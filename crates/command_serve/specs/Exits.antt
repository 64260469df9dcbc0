-- The exit statuses of the program (profile of this project).
use Rattle.std.specs.Prelude.{ℕ}
use Rattle.command_serve.specs.declared.exits.Exit.{Exit}
use Rattle.command_serve.specs.declared.exits.Exit.TheVariants.{Fine, Trace, Usage, Device, Memory}

-- the status of an exit
abbrev pub status_of : Exit → ℕ
status_of Fine = 0
status_of Trace = 1
status_of Usage = 2
status_of Device = 3
status_of Memory = 4
