-- Which objects an entry changes.
use Rattle.std.specs.Prelude.{ℕ, ◌==◌, Bool, false}
use Rattle.seq_model.specs.State.{State}
use Rattle.seq_model.specs.declared.calls.Call.TheVariants.{SetParameter, UnsetParameter, UnsetAll, Commit, MapArray, UnmapArray, MapParameterArray, UnmapParameterArray, RenderFrame, DiscardFrame, MapFrame, UnmapFrame}
use Rattle.seq_model.specs.declared.calls.Entry.{Entry}
use Rattle.seq_model.specs.declared.calls.Entry.TheVariants.{Called, Finished, Left}
use Rattle.seq_model.specs.declared.calls.Reply.TheVariants as reply
use Rattle.device_laws.specs.Showings.{is_flight, showing_at}

-- whether the entry changes object h of a state: a call that had its way changes the object that it names, and a note the frame of its flight;
-- retain and release act through the public count alone
abbrev pub changes : State → Entry → ℕ → Bool
changes s (Called _ (SetParameter k _ _) reply.Done) h = k == h
changes s (Called _ (UnsetParameter k _) reply.Done) h = k == h
changes s (Called _ (UnsetAll k) reply.Done) h = k == h
changes s (Called _ (Commit k) reply.Done) h = k == h
changes s (Called _ (MapArray k) (reply.Lent _)) h = k == h
changes s (Called _ (UnmapArray k _ _) reply.Done) h = k == h
changes s (Called _ (MapParameterArray k _ _ _) (reply.Lent _)) h = k == h
changes s (Called _ (UnmapParameterArray k _ _ _) (reply.Made _)) h = k == h
changes s (Called _ (RenderFrame k) reply.Done) h = k == h
changes s (Called _ (DiscardFrame k) reply.Done) h = k == h
changes s (Called _ (MapFrame k _) (reply.Mapped _ _ _ _)) h = k == h
changes s (Called _ (UnmapFrame k _) reply.Done) h = k == h
changes s (Finished t) h = is_flight t (showing_at s h).phase
changes s (Left t) h = is_flight t (showing_at s h).phase
changes s e h = false
