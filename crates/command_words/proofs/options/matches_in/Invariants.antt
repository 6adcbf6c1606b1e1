use Rattle.std.proofs.Common.{◌≡◌, take}
use Rattle.clap.specs.Walk.{texts}
use Rattle.clap.specs.Simple.{app_of}
use Rattle.command_words.specs.Reading.{app_with}
use Rattle.command_words.proofs.options.matches_in.Given as goal

abbrev pub invariant-loop-name : goal.invariant-loop-name
invariant-loop-name l = app_of l.command ≡ app_with (texts (take l.name-index l.names))
