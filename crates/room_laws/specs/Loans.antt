-- What an entry does to how many loans are out.
use Rattle.std.specs.Prelude.{ℕ}
use Rattle.seq_model.specs.declared.calls.Call.TheVariants.{MapArray, MapFrame, MapParameterArray, UnmapArray, UnmapFrame, UnmapParameterArray}
use Rattle.seq_model.specs.declared.calls.Entry.{Entry}
use Rattle.seq_model.specs.declared.calls.Entry.TheVariants.{Called}
use Rattle.seq_model.specs.declared.calls.Reply.TheVariants as reply

-- how many loans it makes: one, of an array, of a new array for a parameter, or of a channel
abbrev pub lends : Entry → ℕ
lends (Called _ (MapArray _) (reply.Lent _)) = 1
lends (Called _ (MapParameterArray _ _ _ _) (reply.Lent _)) = 1
lends (Called _ (MapFrame _ _) (reply.Mapped _ _ _ _)) = 1
lends e = 0

-- how many loans end with it
abbrev pub takes_back : Entry → ℕ
takes_back (Called _ (UnmapArray _ _ _) reply.Done) = 1
takes_back (Called _ (UnmapParameterArray _ _ _ _) (reply.Made _)) = 1
takes_back (Called _ (UnmapFrame _ _) reply.Done) = 1
takes_back e = 0
