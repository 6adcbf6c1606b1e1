use Rattle.std.proofs.Common.{◌≡◌, ◌<◌, ◌++◌, [], ◌∷◌, None, Some, false, not, refl, map, length, length-append, arith, ap, sym, subst, ◌∙◌}
use Rattle.std.specs.List.{AllByRecursion, filter, find}
use Rattle.std.specs.Option.{is_some}
use Rattle.frame_future.specs.Flights.{Flying, begun, is_stopped}
use Rattle.frame_future.specs.Future.{Future, flight_of, is_flight_of, is_picture_of, IsKept}
use Rattle.frame_future.proofs.Finds.{begun_found, phase_flight}
use Rattle.frame_future.proofs.Kept.{kept-begin}
use Rattle.frame_future.proofs.frames.Frames.begin.Goals as goal

pub invariant_of-self-2 : goal.invariant_of-self-2
invariant_of-self-2 c =
    let s = c.self.inside in
    let f : Flying = begun c.args.ticket c.args.frame c.args.channels c.args.claims c.args.seat in
    let none = subst (λ (v : Future). flight_of v c.args.frame ≡ None) (sym c.self.view_is) c.requires.landed in
    let later = subst (λ (v : Future). AllByRecursion (λ t. t < c.args.ticket) (map (λ (h : Flying). h.ticket) v.flights)) (sym c.self.view_is) c.requires.later.flights in
    let flights : c.push_reserved.new.self.items ≡ s.flights.items ++ f ∷ [] = c.push_reserved.ensures.items ∙ (λ i. c.reserve.ensures.flights i ++ c.new.ensures i ∷ []) in
    let pictures : c.drop_pictures.new.pictures.items ≡ filter (λ p. not (is_picture_of c.args.frame p)) s.pictures.items
    = c.drop_pictures.ensures.kept ∙ ap (filter (λ p. not (is_picture_of c.args.frame p))) c.reserve.ensures.pictures in
    let more = ap length flights ∙ length-append s.flights.items (f ∷ []) in
    let fewer = c.drop_pictures.ensures.count in
    let same = ap length c.reserve.ensures.pictures in (
      subst IsKept (λ i. record { flights = sym flights i; pictures = sym pictures i }) (kept-begin s.flights.items s.pictures.items f none later c.self.invariant.0),
      omega (arith, more, fewer, same, c.in-Ok.ensures.places, c.drop_pictures.ensures.capacity),
    )

pub returns-clause-phase : goal.returns-clause-phase
returns-clause-phase c =
    let s = c.self.inside in
    let f : Flying = begun c.args.ticket c.args.frame c.args.channels c.args.claims c.args.seat in
    let none = subst (λ (v : Future). flight_of v c.args.frame ≡ None) (sym c.self.view_is) c.requires.landed in
    let flights : c.push_reserved.new.self.items ≡ s.flights.items ++ f ∷ [] = c.push_reserved.ensures.items ∙ (λ i. c.reserve.ensures.flights i ++ c.new.ensures i ∷ []) in
    let going : is_stopped f ≡ false = ap is_some c.requires.new.going in
    let new : Future = record { flights = c.push_reserved.new.self.items; pictures = c.drop_pictures.new.pictures.items } in
    phase_flight new c.args.frame f (subst (λ xs. find (is_flight_of c.args.frame) xs ≡ Some f) (sym flights) (begun_found s.flights.items f c.args.frame none refl going))
