-- What is known of what a frame has to show.
use Rattle.std.specs.Prelude.{◌≡◌, false, slice_index_or}
use Rattle.dev_types.specs.Channels.{number_of_channel}
use Rattle.dev_types.specs.declared.handles.Channel.{Channel}
use Rattle.seq_model.specs.Histories.{History}
use Rattle.seq_model.specs.Pictures.{has_channel, tiles_at}
use Rattle.seq_model.specs.State.{Phase, Empty, Flight, Done}
use Rattle.call_answers.specs.declared.shown.Shown.{Shown}
use Rattle.call_answers.specs.declared.shown.Shown.TheVariants as shown

-- what a frame has to show, without what is known of the render
abbrev pub phase_of : Shown → Phase
phase_of shown.Nothing = Empty
phase_of (shown.Flight t _) = Flight t
phase_of (shown.Picture t _) = Done t

-- a flight has the tiles of its render, and a picture the channels that its frame asked for
abbrev pub IsKnown : History → Shown → Type 0
IsKnown seen shown.Nothing = Unit {0}
IsKnown seen (shown.Flight t tiles) = tiles ≡ tiles_at seen t
IsKnown seen (shown.Picture t asked) = (c : Channel) → slice_index_or asked (number_of_channel c) false ≡ has_channel seen t c
