-- What each command writes for an input.
use Rattle.std.specs.Prelude.{ℕ, List}
use Rattle.command_words.specs.declared.Command.{Command}
use Rattle.command_words.specs.declared.Command.TheVariants.{Replay, Script, Whatif, Race, Explain, Picture}
use Rattle.command_serve.specs.declared.due.Due.{Due}
use Rattle.command_serve.specs.Replay.{IsReplayDue}
use Rattle.command_serve.specs.Script.{IsScriptDue}
use Rattle.command_serve.specs.Whatif.{IsWhatifDue}
use Rattle.command_serve.specs.Explain.{IsExplainDue}
use Rattle.command_serve.specs.Picture.{IsPictureDue}
use Rattle.command_race.specs.Race.{IsRaceDue}

-- this is due by the command for an input that is not too long
abbrev pub IsDueBy : Command → List ℕ → Due → Type 0
IsDueBy Replay = IsReplayDue
IsDueBy Script = IsScriptDue
IsDueBy Whatif = IsWhatifDue
IsDueBy (Race workers) = IsRaceDue
IsDueBy (Explain objects with_lives) = IsExplainDue objects with_lives
IsDueBy (Picture objects with_all) = IsPictureDue objects with_all
