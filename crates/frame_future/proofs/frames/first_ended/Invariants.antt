use Rattle.std.proofs.Common.{◌≡◌, length, drop, vec_capacity}
use Rattle.frame_future.specs.Ends.{AreAlike, StayOpen}
use Rattle.frame_future.proofs.frames.first_ended.Given as goal

abbrev pub invariant-loop-place : goal.invariant-loop-place
invariant-loop-place l =
    (length l.flights.items ≡ length l.fn.flights.items) × (vec_capacity l.flights ≡ vec_capacity l.fn.flights) × (drop l.place l.flights.items ≡ drop l.place l.fn.flights.items)
    × StayOpen l.after l.place l.fn.flights.items l.flights.items × AreAlike l.fn.flights.items l.flights.items
