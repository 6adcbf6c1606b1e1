-- Captured arrays: where they are made, and where their memory goes back.
use Rattle.std.specs.Prelude.{ℕ, ◌==◌, Bool, false}
use Rattle.dev_types.specs.declared.handles.Origin.TheVariants.{Captured}
use Rattle.dev_types.specs.declared.notices.Notice.{Notice}
use Rattle.dev_types.specs.declared.notices.Notice.TheVariants.{Deleted}
use Rattle.seq_model.specs.declared.calls.Call.TheVariants.{NewArray}
use Rattle.seq_model.specs.declared.calls.Entry.{Entry}
use Rattle.seq_model.specs.declared.calls.Entry.TheVariants.{Called}
use Rattle.seq_model.specs.declared.calls.Reply.TheVariants as reply

-- the entry made array h, whose memory goes back to the application by its deleter
abbrev pub is_capturing : ℕ → Entry → Bool
is_capturing h (Called _ (NewArray _ _ _ (Captured _) _) (reply.Made made)) = made == h
is_capturing h _ = false

-- the notice runs the deleter of array h
abbrev pub is_deleting : ℕ → Notice → Bool
is_deleting h (Deleted freed _ _) = freed == h
is_deleting h _ = false
