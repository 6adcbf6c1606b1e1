use Rattle.std.proofs.Common.{◌≡◌, ◌<◌, Some, get_or, length, sym, subst}
use Rattle.std.specs.List.{slice_get}
use Rattle.flight_books.specs.declared.kept.Cargo.{Cargo}
use Rattle.frame_future.specs.Future.{AreHome, IsCount}
use Rattle.device_parts.specs.AllParts.{Inside}
use Rattle.device_parts.specs.Standing.{IsStanding}
use Rattle.device_parts.specs.Works.{MovesAt}
use Rattle.device_parts.specs.declared.loads.Load.{Load}
use Rattle.device_parts.proofs.WorkFacts.{counted_touched, kept_at_place, may_ask, moved_parts_at, moved_stands_at, moves_at}
use Rattle.device_parts.proofs.parts.Parts.look_at.Goals as goal

pub claimed-requires : goal.claimed-requires
claimed-requires c =
    let old : Inside = record { objects = c.self.inside.objects; flights = c.self.inside.flights; worlds = c.self.inside.worlds; history = c.self.inside.journal.items; room = c.self.inside.journal.room; builds = c.self.inside.builds } in
    let d : Cargo Load = c.index-cargo-place.result in
    let k : Cargo Load = get_or c.cargo.result.now c.args.place d in
    let at : slice_get old.flights.cargo c.args.place ≡ Some k = kept_at_place old.flights.cargo c.cargo.result.now c.args.place d c.cargo.ensures
    (subst (λ (i : Inside). c.args.place < length i.flights.cargo) (sym c.self.view_is) c.requires.within) in
    let home : AreHome old.flights.future = subst (λ (i : Inside). AreHome i.flights.future) (sym c.self.view_is) c.requires.home in
    may_ask old c.frames.result.now c.frames.ensures.books c.frames.ensures.value c.are_kept.ensures c.args.place k at home

pub invariant_of-self : goal.invariant_of-self
invariant_of-self c =
    let old : Inside = record { objects = c.self.inside.objects; flights = c.self.inside.flights; worlds = c.self.inside.worlds; history = c.self.inside.journal.items; room = c.self.inside.journal.room; builds = c.self.inside.builds } in
    let d : Cargo Load = c.index-cargo-place.result in
    let k : Cargo Load = get_or c.cargo.result.now c.args.place d in
    let at : slice_get old.flights.cargo c.args.place ≡ Some k = kept_at_place old.flights.cargo c.cargo.result.now c.args.place d c.cargo.ensures
    (subst (λ (i : Inside). c.args.place < length i.flights.cargo) (sym c.self.view_is) c.requires.within) in
    let home : AreHome old.flights.future = subst (λ (i : Inside). AreHome i.flights.future) (sym c.self.view_is) c.requires.home in
    moved_parts_at old c.frames.result.now c.frames.ensures.books c.frames.ensures.value c.are_kept.ensures c.args.place k at (λ f g. IsCount f g c.claimed.result) c.claimed.new.self c.claimed.ensures.counted (λ f g is. counted_touched f g c.claimed.result is) c.self.invariant

pub returns-clause-looks : goal.returns-clause-looks
returns-clause-looks c =
    let old : Inside = record { objects = c.self.inside.objects; flights = c.self.inside.flights; worlds = c.self.inside.worlds; history = c.self.inside.journal.items; room = c.self.inside.journal.room; builds = c.self.inside.builds } in
    let d : Cargo Load = c.index-cargo-place.result in
    let k : Cargo Load = get_or c.cargo.result.now c.args.place d in
    let at : slice_get old.flights.cargo c.args.place ≡ Some k = kept_at_place old.flights.cargo c.cargo.result.now c.args.place d c.cargo.ensures
    (subst (λ (i : Inside). c.args.place < length i.flights.cargo) (sym c.self.view_is) c.requires.within) in
    let home : AreHome old.flights.future = subst (λ (i : Inside). AreHome i.flights.future) (sym c.self.view_is) c.requires.home in
    subst (λ (before : Inside). MovesAt c.args.place (λ f g. IsCount f g c.claimed.result) before (record { objects = c.self.inside.objects; flights = c.claimed.new.self; worlds = c.self.inside.worlds; history = c.self.inside.journal.items; room = c.self.inside.journal.room; builds = c.self.inside.builds })) c.self.view_is
    (moves_at old c.frames.result.now c.frames.ensures.books c.frames.ensures.value c.are_kept.ensures c.args.place k at (λ f g. IsCount f g c.claimed.result) c.claimed.new.self c.claimed.ensures.counted)

pub returns-clause-stands : goal.returns-clause-stands
returns-clause-stands c = λ stands.
    let old : Inside = record { objects = c.self.inside.objects; flights = c.self.inside.flights; worlds = c.self.inside.worlds; history = c.self.inside.journal.items; room = c.self.inside.journal.room; builds = c.self.inside.builds } in
    let d : Cargo Load = c.index-cargo-place.result in
    let k : Cargo Load = get_or c.cargo.result.now c.args.place d in
    let at : slice_get old.flights.cargo c.args.place ≡ Some k = kept_at_place old.flights.cargo c.cargo.result.now c.args.place d c.cargo.ensures
    (subst (λ (i : Inside). c.args.place < length i.flights.cargo) (sym c.self.view_is) c.requires.within) in
    let home : AreHome old.flights.future = subst (λ (i : Inside). AreHome i.flights.future) (sym c.self.view_is) c.requires.home in
    moved_stands_at old c.frames.result.now c.frames.ensures.books c.frames.ensures.value c.are_kept.ensures c.args.place k at (λ f g. IsCount f g c.claimed.result) c.claimed.new.self c.claimed.ensures.counted (λ f g is. counted_touched f g c.claimed.result is) (subst IsStanding (sym c.self.view_is) stands)
