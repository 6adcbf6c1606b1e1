use Rattle.std.proofs.Common.{◌∙◌, ◌<◌, List, Ok, ap, get_or, length, sym, subst}
use Rattle.flight_books.specs.Kept.{AreBooks}
use Rattle.flight_books.specs.declared.kept.Cargo.{Cargo}
use Rattle.device_parts.specs.AllParts.{AreParts, Inside}
use Rattle.device_parts.specs.declared.loads.Load.{Load}
use Rattle.device_parts.proofs.WorkFacts.{all_claimed, has_seat_of, kept_at_place, no_memory, no_room, no_seat, scene_within}
use Rattle.device_parts.proofs.parts.Parts.ask_at.Goals as goal

pub tiles-requires : goal.tiles-requires
tiles-requires c =
    let old : Inside = c.args.self.now in
    let mid : Inside = c.look_at-claimed.new.self in
    let m = c.look_at-claimed.ensures.looks in
    let p : AreParts mid = subst AreParts c.self.view_is c.self.invariant in
    let books : AreBooks mid.flights = subst (λ (i : Inside). AreBooks i.flights) c.self.view_is c.frames-books.ensures.books in
    let within : c.args.place < length mid.flights.cargo = subst (λ (cs : List (Cargo Load)). c.args.place < length cs) (sym m.cargo) c.requires.within in
    scene_within old mid c.args.place c.look_at-claimed.result m p books c.look_at-claimed.ensures.home within c.scene_at.result.now c.scene_at.ensures

pub returns-then-claimed-tiles-clause-asked : goal.returns-then-claimed-tiles-clause-asked
returns-then-claimed-tiles-clause-asked c =
    let old : Inside = c.args.self.now in
    let mid : Inside = c.look_at-claimed.new.self in
    let m = c.look_at-claimed.ensures.looks in
    let p : AreParts mid = subst AreParts c.self.view_is c.self.invariant in
    let books : AreBooks mid.flights = subst (λ (i : Inside). AreBooks i.flights) c.self.view_is c.frames-books.ensures.books in
    let within : c.args.place < length mid.flights.cargo = subst (λ (cs : List (Cargo Load)). c.args.place < length cs) (sym m.cargo) c.requires.within in
    all_claimed old mid c.args.place c.look_at-claimed.result m p books c.look_at-claimed.ensures.home within c.scene_at.result.now c.scene_at.ensures c.tiles.result c.tiles.ensures c.if-claimed-tiles.true

pub returns-in-Err-clause-asked : goal.returns-in-Err-clause-asked
returns-in-Err-clause-asked c =
    let old : Inside = c.args.self.now in
    let mid : Inside = c.look_at-claimed.new.self in
    let m = c.look_at-claimed.ensures.looks in
    let p : AreParts mid = subst AreParts c.self.view_is c.self.invariant in
    let books : AreBooks mid.flights = subst (λ (i : Inside). AreBooks i.flights) c.self.view_is c.frames-books.ensures.books in
    let within : c.args.place < length mid.flights.cargo = subst (λ (cs : List (Cargo Load)). c.args.place < length cs) (sym m.cargo) c.requires.within in
    no_memory old mid c.args.place c.look_at-claimed.result m p books c.look_at-claimed.ensures.home within c.scene_at-2.result.now c.scene_at-2.ensures c.in-Err.none

pub returns-in-Ok-Some-clause-asked : goal.returns-in-Ok-Some-clause-asked
returns-in-Ok-Some-clause-asked c =
    let old : Inside = c.args.self.now in
    let mid : Inside = c.look_at-claimed.new.self in
    let m = c.look_at-claimed.ensures.looks in
    let p : AreParts mid = subst AreParts c.self.view_is c.self.invariant in
    let books : AreBooks mid.flights = subst (λ (i : Inside). AreBooks i.flights) c.self.view_is c.frames-books.ensures.books in
    let within : c.args.place < length mid.flights.cargo = subst (λ (cs : List (Cargo Load)). c.args.place < length cs) (sym m.cargo) c.requires.within in
    let k : Cargo Load = get_or c.cargo.result.now c.args.place c.index-cargo-place.result in
    has_seat_of old mid c.args.place c.look_at-claimed.result m p books c.look_at-claimed.ensures.home within c.scene_at-2.result.now c.scene_at-2.ensures c.split_at.new.self c.split_at.result c.split_at.ensures.splits
    c.in-Ok-Some.claims c.in-Ok-Some.seat c.into_work.result c.in-Ok.scene k (c.in-Ok-Some.is ∙ ap Ok c.in-Ok-Some.field-0-is) c.into_work.ensures.claims c.into_work.ensures.seat c.into_work.ensures.scene c.in-Ok.ensures
    (kept_at_place mid.flights.cargo c.cargo.result.now c.args.place c.index-cargo-place.result (c.cargo.ensures ∙ ap (λ (i : Inside). i.flights.cargo) c.self.view_is) within)

pub returns-in-Ok-None-clause-asked : goal.returns-in-Ok-None-clause-asked
returns-in-Ok-None-clause-asked c =
    let old : Inside = c.args.self.now in
    let mid : Inside = c.look_at-claimed.new.self in
    let m = c.look_at-claimed.ensures.looks in
    let p : AreParts mid = subst AreParts c.self.view_is c.self.invariant in
    let books : AreBooks mid.flights = subst (λ (i : Inside). AreBooks i.flights) c.self.view_is c.frames-books.ensures.books in
    let within : c.args.place < length mid.flights.cargo = subst (λ (cs : List (Cargo Load)). c.args.place < length cs) (sym m.cargo) c.requires.within in
    no_seat old mid c.args.place c.look_at-claimed.result m p books c.look_at-claimed.ensures.home within c.scene_at-2.result.now c.scene_at-2.ensures c.split_at.new.self c.split_at.result c.split_at.ensures.splits (c.in-Ok-None.is ∙ ap Ok c.in-Ok-None.field-0-is)

pub returns-in-Err-split_at-clause-asked : goal.returns-in-Err-split_at-clause-asked
returns-in-Err-split_at-clause-asked c =
    let old : Inside = c.args.self.now in
    let mid : Inside = c.look_at-claimed.new.self in
    let m = c.look_at-claimed.ensures.looks in
    let p : AreParts mid = subst AreParts c.self.view_is c.self.invariant in
    let books : AreBooks mid.flights = subst (λ (i : Inside). AreBooks i.flights) c.self.view_is c.frames-books.ensures.books in
    let within : c.args.place < length mid.flights.cargo = subst (λ (cs : List (Cargo Load)). c.args.place < length cs) (sym m.cargo) c.requires.within in
    no_room old mid c.args.place c.look_at-claimed.result m p books c.look_at-claimed.ensures.home within c.scene_at-2.result.now c.scene_at-2.ensures c.split_at.new.self c.split_at.result c.split_at.ensures.splits c.in-Err-split_at.none c.in-Err-split_at.is
