use Rattle.std.proofs.Common.{◌≡◌, take}
use Rattle.flight_books.specs.Kept.{with_future}
use Rattle.device_laws.specs.FramesStand.{without_pictures}
use Rattle.device_parts.proofs.burials.forget_pictures.Given as goal

abbrev pub invariant-loop-h : goal.invariant-loop-h
invariant-loop-h g l = l.flights ≡ with_future l.fn.flights (without_pictures l.fn.flights.future (take l.h-index l.dead))
