-- The channels of a frame by number.
use Rattle.std.specs.Prelude.{ℕ}
use Rattle.dev_types.specs.declared.handles.Channel.{Channel}
use Rattle.dev_types.specs.declared.handles.Channel.TheVariants.{Color, PrimitiveId, ObjectId, InstanceId}

-- the number of a channel among the four, from 0
abbrev pub number_of_channel : Channel → ℕ
number_of_channel Color = 0
number_of_channel PrimitiveId = 1
number_of_channel ObjectId = 2
number_of_channel InstanceId = 3
