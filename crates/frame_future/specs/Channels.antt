-- The four channels of a frame (ANARI 1.0 Specification, Frame: channels).
use Rattle.std.specs.Prelude.{ℕ, Bool, false, List, Option, None}
use Rattle.std.specs.List.{slice_get}
use Rattle.std.specs.Option.{unwrap_or}
use Rattle.dev_types.specs.Channels.{number_of_channel}
use Rattle.dev_types.specs.declared.handles.Channel.{Channel}

-- whether the channel is among those that were asked for, by their places
abbrev pub is_asked : List Bool → Channel → Bool
is_asked channels c = unwrap_or (slice_get channels (number_of_channel c)) false

-- the number of the loan of a channel, where the loans are told by their places; none where the channel is not mapped
abbrev pub loan_of : List (Option ℕ) → Channel → Option ℕ
loan_of loans c = unwrap_or (slice_get loans (number_of_channel c)) None
