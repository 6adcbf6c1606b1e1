-- What each command reads, makes and writes, and how it ends.
use Rattle.std.specs.Prelude.{◌≡◌, ◌⊎◌, ⊤, ℕ, List, [], Option, Some, None, Bool}
use Rattle.command_words.specs.declared.commands.Command.{Command}
use Rattle.command_words.specs.declared.commands.Command.TheVariants.{Solo, Run, Make, Demo, Describe, Wire, Check, Ring}
use Rattle.report_text.specs.Reports.{report}
use Rattle.report_text.specs.declared.prints.Print.TheVariants.{Summary}
use Rattle.seq_model.specs.Histories.{History}
use Rattle.table_text.specs.Tables.{description}
use Rattle.trace_make.specs.Made.{made}
use Rattle.anari_replay.specs.Input.{HasTrace, IsReplay, IsReplayOf}

-- the statuses with which a command may end; words are refused that give none, or one that is not done here
abbrev pub IsEnding : Option Command → ℕ → Type 0
IsEnding None status = (status ≡ 2) ⊎ (status ≡ 3)
IsEnding (Some (Solo print)) status = (status ≡ 0) ⊎ (status ≡ 3) ⊎ (status ≡ 4) ⊎ (status ≡ 5) ⊎ (status ≡ 6)
IsEnding (Some (Make recipe)) status = (status ≡ 0) ⊎ (status ≡ 3) ⊎ (status ≡ 5)
IsEnding (Some (Demo recipe)) status = (status ≡ 0) ⊎ (status ≡ 3) ⊎ (status ≡ 5)
IsEnding (Some Describe) status = (status ≡ 0) ⊎ (status ≡ 3) ⊎ (status ≡ 5)
IsEnding (Some (Run print workers)) status = (status ≡ 2) ⊎ (status ≡ 3)
IsEnding (Some Wire) status = (status ≡ 2) ⊎ (status ≡ 3)
IsEnding (Some Check) status = (status ≡ 2) ⊎ (status ≡ 3)
IsEnding (Some (Ring slots pictures readers)) status = (status ≡ 2) ⊎ (status ≡ 3)

-- there is a command that is done here, and where it reads it finds a trace
abbrev pub FindsTrace : Option Command → Option (List ℕ) → Type 0
FindsTrace (Some (Solo print)) left = HasTrace left
FindsTrace (Some (Make recipe)) left = ⊤
FindsTrace (Some (Demo recipe)) left = ⊤
FindsTrace (Some Describe) left = ⊤
FindsTrace command left = ⊥

-- every command but `solo` reads nothing
abbrev pub ReadsNothing : Option Command → Type 0
ReadsNothing (Some (Solo print)) = ⊥
ReadsNothing command = ⊤

-- every command but a replay makes no calls on a device
abbrev pub MakesNothing : Option Command → Type 0
MakesNothing (Some (Solo print)) = ⊥
MakesNothing (Some (Demo recipe)) = ⊥
MakesNothing command = ⊤

-- the history of a command that was done whole: a replay's is what one thread makes of the trace that was read, or that is made
abbrev pub IsHistoryOf : Option Command → Option (List ℕ) → Option (List ℕ) → Bool → History → Type 0
IsHistoryOf (Some (Solo print)) old new ended history = IsReplay old new ended history
IsHistoryOf (Some (Demo recipe)) old new ended history = IsReplayOf (made recipe.seed recipe.callers recipe.frames) history
IsHistoryOf command old new ended history = history ≡ []

-- what a command writes: a replay what is asked for of its history and its builds, of a made trace the summary; the trace that is made; the tables
abbrev pub output_of : Option Command → History → ℕ → List ℕ
output_of (Some (Solo print)) history builds = report print history builds
output_of (Some (Make recipe)) history builds = made recipe.seed recipe.callers recipe.frames
output_of (Some (Demo recipe)) history builds = report Summary history builds
output_of (Some Describe) history builds = description
output_of command history builds = []
