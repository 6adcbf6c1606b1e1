-- The images of a history.
use Rattle.std.specs.Prelude.{◌≡◌, ◌*◌, ⊤, length}
use Rattle.seq_model.specs.declared.calls.Call.TheVariants.{MapFrame}
use Rattle.seq_model.specs.declared.calls.Entry.{Entry}
use Rattle.seq_model.specs.declared.calls.Entry.TheVariants.{Called}
use Rattle.seq_model.specs.declared.calls.Reply.TheVariants.{Mapped}

-- the rows of the channel that an entry maps are a whole frame, four bytes a pixel
abbrev pub HasWholeRows : Entry → Type 0
HasWholeRows (Called _ (MapFrame _ _) (Mapped width height _ rows)) = length rows ≡ 4 * width * height
HasWholeRows _ = ⊤
