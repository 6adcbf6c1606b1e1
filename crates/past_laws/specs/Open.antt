-- Histories that a call may follow.
use Rattle.std.specs.Prelude.{◌≡◌, ℕ, true}
use Rattle.seq_model.specs.Extensions.{let_follow}
use Rattle.seq_model.specs.Histories.{History}
use Rattle.seq_model.specs.declared.calls.Call.{Call}
use Rattle.seq_model.specs.declared.calls.Entry.TheVariants.{Called}
use Rattle.seq_model.specs.declared.calls.Reply.{Reply}

-- a call may follow: the device is not closed, and no flight left without being stopped
abbrev pub IsOpen : History → Type 0
IsOpen history = (actor : ℕ) (call : Call) (r : Reply) → let_follow history (Called actor call r) ≡ true
