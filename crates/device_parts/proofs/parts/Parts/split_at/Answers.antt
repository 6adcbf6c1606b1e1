use Rattle.std.proofs.Common.{◌≡◌, ◌<◌, Some, get_or, length, sym, subst}
use Rattle.std.specs.List.{slice_get}
use Rattle.flight_books.specs.declared.kept.Cargo.{Cargo}
use Rattle.frame_future.specs.Future.{AreHome, IsHandout}
use Rattle.device_parts.specs.AllParts.{Inside}
use Rattle.device_parts.specs.Standing.{IsStanding}
use Rattle.device_parts.specs.Works.{MovesAt}
use Rattle.device_parts.specs.declared.loads.Load.{Load}
use Rattle.device_parts.proofs.WorkFacts.{handed_touched, kept_at_place, may_ask, moved_parts_at, moved_stands_at, moves_at}
use Rattle.device_parts.proofs.parts.Parts.split_at.Goals as goal

pub hand_out_of-requires : goal.hand_out_of-requires
hand_out_of-requires c =
    let old : Inside = record { objects = c.self.inside.objects; flights = c.self.inside.flights; worlds = c.self.inside.worlds; history = c.self.inside.journal.items; room = c.self.inside.journal.room; builds = c.self.inside.builds } in
    let d : Cargo Load = c.index-cargo-place.result in
    let k : Cargo Load = get_or c.cargo.result.now c.args.place d in
    let at : slice_get old.flights.cargo c.args.place ≡ Some k = kept_at_place old.flights.cargo c.cargo.result.now c.args.place d c.cargo.ensures
    (subst (λ (i : Inside). c.args.place < length i.flights.cargo) (sym c.self.view_is) c.requires.within) in
    let home : AreHome old.flights.future = subst (λ (i : Inside). AreHome i.flights.future) (sym c.self.view_is) c.requires.home in
    may_ask old c.frames.result.now c.frames.ensures.books c.frames.ensures.value c.are_kept.ensures c.args.place k at home

pub invariant_of-self : goal.invariant_of-self
invariant_of-self c =
    let old : Inside = record { objects = c.self.inside.objects; flights = c.self.inside.flights; worlds = c.self.inside.worlds; history = c.self.inside.journal.items; room = c.self.inside.journal.room; builds = c.self.inside.builds } in
    let d : Cargo Load = c.index-cargo-place.result in
    let k : Cargo Load = get_or c.cargo.result.now c.args.place d in
    let at : slice_get old.flights.cargo c.args.place ≡ Some k = kept_at_place old.flights.cargo c.cargo.result.now c.args.place d c.cargo.ensures
    (subst (λ (i : Inside). c.args.place < length i.flights.cargo) (sym c.self.view_is) c.requires.within) in
    let home : AreHome old.flights.future = subst (λ (i : Inside). AreHome i.flights.future) (sym c.self.view_is) c.requires.home in
    moved_parts_at old c.frames.result.now c.frames.ensures.books c.frames.ensures.value c.are_kept.ensures c.args.place k at (λ f g. IsHandout f g c.hand_out_of.result) c.hand_out_of.new.self c.hand_out_of.ensures.handed (λ f g is. handed_touched f g c.hand_out_of.result is) c.self.invariant

pub returns-clause-splits : goal.returns-clause-splits
returns-clause-splits c =
    let old : Inside = record { objects = c.self.inside.objects; flights = c.self.inside.flights; worlds = c.self.inside.worlds; history = c.self.inside.journal.items; room = c.self.inside.journal.room; builds = c.self.inside.builds } in
    let d : Cargo Load = c.index-cargo-place.result in
    let k : Cargo Load = get_or c.cargo.result.now c.args.place d in
    let at : slice_get old.flights.cargo c.args.place ≡ Some k = kept_at_place old.flights.cargo c.cargo.result.now c.args.place d c.cargo.ensures
    (subst (λ (i : Inside). c.args.place < length i.flights.cargo) (sym c.self.view_is) c.requires.within) in
    let home : AreHome old.flights.future = subst (λ (i : Inside). AreHome i.flights.future) (sym c.self.view_is) c.requires.home in
    subst (λ (before : Inside). MovesAt c.args.place (λ f g. IsHandout f g c.hand_out_of.result) before (record { objects = c.self.inside.objects; flights = c.hand_out_of.new.self; worlds = c.self.inside.worlds; history = c.self.inside.journal.items; room = c.self.inside.journal.room; builds = c.self.inside.builds })) c.self.view_is
    (moves_at old c.frames.result.now c.frames.ensures.books c.frames.ensures.value c.are_kept.ensures c.args.place k at (λ f g. IsHandout f g c.hand_out_of.result) c.hand_out_of.new.self c.hand_out_of.ensures.handed)

pub returns-clause-stands : goal.returns-clause-stands
returns-clause-stands c = λ stands.
    let old : Inside = record { objects = c.self.inside.objects; flights = c.self.inside.flights; worlds = c.self.inside.worlds; history = c.self.inside.journal.items; room = c.self.inside.journal.room; builds = c.self.inside.builds } in
    let d : Cargo Load = c.index-cargo-place.result in
    let k : Cargo Load = get_or c.cargo.result.now c.args.place d in
    let at : slice_get old.flights.cargo c.args.place ≡ Some k = kept_at_place old.flights.cargo c.cargo.result.now c.args.place d c.cargo.ensures
    (subst (λ (i : Inside). c.args.place < length i.flights.cargo) (sym c.self.view_is) c.requires.within) in
    let home : AreHome old.flights.future = subst (λ (i : Inside). AreHome i.flights.future) (sym c.self.view_is) c.requires.home in
    moved_stands_at old c.frames.result.now c.frames.ensures.books c.frames.ensures.value c.are_kept.ensures c.args.place k at (λ f g. IsHandout f g c.hand_out_of.result) c.hand_out_of.new.self c.hand_out_of.ensures.handed (λ f g is. handed_touched f g c.hand_out_of.result is) (subst IsStanding (sym c.self.view_is) stands)
