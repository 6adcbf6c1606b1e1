-- What an entry makes of what a frame shows, and of its mapped channels (ANARI 1.0 Specification, Frame).
use Rattle.std.specs.Prelude.{ℕ, ◌==◌, not, Bool, false, List, [], ◌∷◌, ◌++◌, if◌then◌else◌}
use Rattle.std.specs.List.{filter}
use Rattle.std.specs.Option.{option_map_or}
use Rattle.dev_types.specs.declared.handles.Channel.{Channel}
use Rattle.seq_model.specs.State.{Object, Phase, Empty, Flight, Done, State, object_at, ticket_in}
use Rattle.seq_model.specs.declared.calls.Call.TheVariants.{DiscardFrame, MapFrame, RenderFrame, UnmapFrame}
use Rattle.seq_model.specs.declared.calls.Entry.{Entry}
use Rattle.seq_model.specs.declared.calls.Entry.TheVariants.{Called, Finished, Left}
use Rattle.seq_model.specs.declared.calls.Reply.TheVariants as reply

-- what an object has to show, and its mapped channels, each with the place of the entry that lent it
pub record Showing : Type 0 where
  pub phase : Phase
  pub channels : List (Channel × ℕ)

-- nothing to show, and nothing mapped
abbrev pub nothing_shown : Showing
nothing_shown = record { phase = Empty; channels = [] }

-- that of an object, and of the object with a handle; what is not there shows nothing
abbrev pub showing_of : Object → Showing
showing_of o = record { phase = o.phase; channels = o.channels }

abbrev pub showing_at : State → ℕ → Showing
showing_at s h = option_map_or showing_of (object_at s h) nothing_shown

-- a phase is a flight with this ticket
abbrev pub is_flight : ℕ → Phase → Bool
is_flight t phase = option_map_or (λ u. u == t) (ticket_in phase) false

-- with another phase, and with other channels
abbrev pub with_phase : Phase → Showing → Showing
with_phase phase s = record s { phase = phase }

abbrev pub with_channels : (List (Channel × ℕ) → List (Channel × ℕ)) → Showing → Showing
with_channels change s = record s { channels = change s.channels }

-- the flight with this ticket ends in another phase
abbrev pub flight_ends : ℕ → Phase → Showing → Showing
flight_ends t phase s = if is_flight t s.phase then with_phase phase s else s

-- what the entry at a place makes of what object h shows, where it is there after it: a render begins a flight, a discard leaves nothing to
-- show, a note ends a flight, and a mapped channel is lent until it comes back
abbrev pub showing_after : ℕ → Entry → ℕ → Showing → Showing
showing_after place (Called _ (RenderFrame f) reply.Done) h s = if f == h then with_phase (Flight place) s else s
showing_after place (Called _ (DiscardFrame f) reply.Done) h s = if f == h then with_phase Empty s else s
showing_after place (Called _ (MapFrame f c) (reply.Mapped _ _ _ _)) h s = if f == h then with_channels (λ ms. ms ++ (c, place) ∷ []) s else s
showing_after place (Called _ (UnmapFrame f number) reply.Done) h s =
    if f == h then with_channels (λ ms. filter (λ m. not (m.1 == number)) ms) s else s
showing_after place (Finished t) h s = flight_ends t (Done t) s
showing_after place (Left t) h s = flight_ends t Empty s
showing_after place e h s = s
