-- How many handles a call makes.
use Rattle.std.specs.Prelude.{ℕ}
use Rattle.seq_model.specs.declared.calls.Call.{Call}
use Rattle.seq_model.specs.declared.calls.Call.TheVariants.{NewObject, NewArray, UnmapParameterArray}
use Rattle.seq_model.specs.declared.calls.Reply.{Reply}
use Rattle.seq_model.specs.declared.calls.Reply.TheVariants as reply

-- how many handles a call that was answered so makes
abbrev pub handles_made : Call → Reply → ℕ
handles_made (NewObject _ _) (reply.Made _) = 1
handles_made (NewArray _ _ _ _ _) (reply.Made _) = 1
handles_made (UnmapParameterArray _ _ _ _) (reply.Made _) = 1
handles_made _ _ = 0
