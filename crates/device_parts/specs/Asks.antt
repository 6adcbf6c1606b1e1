-- What a render and a map that were answered do to the flights and pictures.
use Rattle.std.specs.Prelude.{◌≡◌, ℕ, None, Option, Some}
use Rattle.dev_types.specs.declared.handles.Channel.{Channel}
use Rattle.flight_books.specs.Kept.{with_future}
use Rattle.seq_model.specs.declared.calls.Reply.{Reply}
use Rattle.seq_model.specs.declared.calls.Reply.TheVariants as reply
use Rattle.device_laws.specs.FramesStand.{without_pictures}
use Rattle.device_parts.specs.AllParts.{Inside}
use Rattle.device_parts.specs.Begins.{HasBegun}
use Rattle.device_parts.specs.Maps.{HasMapped}
use Rattle.frame_future.specs.Mapped.{Mapped}

-- where it is done its flight began; else they stay, but for the pictures of what died
abbrev pub HasRendered : ℕ → Reply → Inside → Inside → Type 0
HasRendered frame reply.Done old new = HasBegun frame old new
HasRendered frame r old new =
    new.flights ≡ with_future old.flights (without_pictures old.flights.future new.objects.departed)

-- where a channel was mapped it is lent; else the flights and pictures stay likewise
abbrev pub HasMappedOrStayed : ℕ → Channel → Option Mapped → Inside → Inside → Type 0
HasMappedOrStayed h channel (Some loan) old new = HasMapped h channel loan old new
HasMappedOrStayed h channel None old new =
    new.flights ≡ with_future old.flights (without_pictures old.flights.future new.objects.departed)
