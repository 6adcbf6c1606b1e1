use Rattle.std.proofs.Common.{◌≡◌, ◌<◌, Some, get_or, length, sym, subst}
use Rattle.std.specs.Prelude.{IfSome}
use Rattle.std.specs.List.{slice_get}
use Rattle.flight_books.specs.declared.kept.Cargo.{Cargo}
use Rattle.frame_future.specs.Future.{AreHome}
use Rattle.device_parts.specs.AllParts.{Inside}
use Rattle.device_parts.specs.declared.loads.Load.{Load}
use Rattle.device_parts.proofs.WorkFacts.{kept_at_place, scene_there}
use Rattle.device_parts.proofs.parts.Parts.scene_at.Goals as goal

pub unreachable-requires : goal.unreachable-requires
unreachable-requires c =
    let old : Inside = record { objects = c.self.inside.objects; flights = c.self.inside.flights; worlds = c.self.inside.worlds; history = c.self.inside.journal.items; room = c.self.inside.journal.room; builds = c.self.inside.builds } in
    let d : Cargo Load = c.index-cargo-place.result in
    let k : Cargo Load = get_or c.cargo.result.now c.args.place d in
    let at : slice_get old.flights.cargo c.args.place ≡ Some k = kept_at_place old.flights.cargo c.cargo.result.now c.args.place d c.cargo.ensures
    (subst (λ (i : Inside). c.args.place < length i.flights.cargo) (sym c.self.view_is) c.requires.within) in
    let home : AreHome old.flights.future = subst (λ (i : Inside). AreHome i.flights.future) (sym c.self.view_is) c.requires.home in
    scene_there old c.self.invariant home c.args.place k at c.in-None.is

pub returns : goal.returns
returns c =
    let old : Inside = record { objects = c.self.inside.objects; flights = c.self.inside.flights; worlds = c.self.inside.worlds; history = c.self.inside.journal.items; room = c.self.inside.journal.room; builds = c.self.inside.builds } in
    let d : Cargo Load = c.index-cargo-place.result in
    let k : Cargo Load = get_or c.cargo.result.now c.args.place d in
    let at : slice_get old.flights.cargo c.args.place ≡ Some k = kept_at_place old.flights.cargo c.cargo.result.now c.args.place d c.cargo.ensures
    (subst (λ (i : Inside). c.args.place < length i.flights.cargo) (sym c.self.view_is) c.requires.within) in
    let home : AreHome old.flights.future = subst (λ (i : Inside). AreHome i.flights.future) (sym c.self.view_is) c.requires.home in
    subst (λ (i : Inside). IfSome (slice_get i.flights.cargo c.args.place) (λ x. x.kept.scene ≡ Some c.in-Some.scene)) c.self.view_is
    (subst (λ o. IfSome o (λ (x : Cargo Load). x.kept.scene ≡ Some c.in-Some.scene)) (sym at) c.in-Some.is)
