use Rattle.std.proofs.Common.{refl, sym, subst}
use Rattle.device_parts.specs.AllParts.{Inside}
use Rattle.device_parts.specs.Lends.{HasReturned, IsLentFlight}
use Rattle.device_parts.specs.Standing.{IsStanding}
use Rattle.device_parts.proofs.LendFacts.{has_returned, lent_is_found, may_keep, may_return, returned_home, returned_parts, returned_stands}
use Rattle.device_parts.proofs.parts.Parts.return_flight.Goals as goal

pub lent_ticket-ticket-requires : goal.lent_ticket-ticket-requires
lent_ticket-ticket-requires c =
    let old : Inside = record { objects = c.self.inside.objects; flights = c.self.inside.flights; worlds = c.self.inside.worlds; history = c.self.inside.journal.items; room = c.self.inside.journal.room; builds = c.self.inside.builds } in
    let r : IsLentFlight old c.args.work = subst (λ (i : Inside). IsLentFlight i c.args.work) (sym c.self.view_is) c.requires in
    lent_is_found old c.self.invariant c.frames-books.ensures.books c.args.work r

pub put_back-requires : goal.put_back-requires
put_back-requires c =
    let old : Inside = record { objects = c.self.inside.objects; flights = c.self.inside.flights; worlds = c.self.inside.worlds; history = c.self.inside.journal.items; room = c.self.inside.journal.room; builds = c.self.inside.builds } in
    let r : IsLentFlight old c.args.work = subst (λ (i : Inside). IsLentFlight i c.args.work) (sym c.self.view_is) c.requires in
    may_return old c.self.invariant c.frames-books.ensures.books c.args.work r c.lent_ticket-ticket.result c.lent_ticket-ticket.ensures

pub put_scene-requires : goal.put_scene-requires
put_scene-requires c =
    let old : Inside = record { objects = c.self.inside.objects; flights = c.self.inside.flights; worlds = c.self.inside.worlds; history = c.self.inside.journal.items; room = c.self.inside.journal.room; builds = c.self.inside.builds } in
    let r : IsLentFlight old c.args.work = subst (λ (i : Inside). IsLentFlight i c.args.work) (sym c.self.view_is) c.requires in
    may_keep old c.self.invariant c.frames-books.ensures.books c.args.work r c.lent_ticket-ticket.result c.lent_ticket-ticket.ensures c.put_back.new.self c.put_back.ensures

pub invariant_of-self : goal.invariant_of-self
invariant_of-self c =
    let old : Inside = record { objects = c.self.inside.objects; flights = c.self.inside.flights; worlds = c.self.inside.worlds; history = c.self.inside.journal.items; room = c.self.inside.journal.room; builds = c.self.inside.builds } in
    let r : IsLentFlight old c.args.work = subst (λ (i : Inside). IsLentFlight i c.args.work) (sym c.self.view_is) c.requires in
    returned_parts old c.self.invariant c.frames-books.ensures.books c.args.work r c.lent_ticket-ticket.result c.lent_ticket-ticket.ensures c.put_back.new.self c.put_back.ensures c.put_scene.new.flights (record { prepared = c.args.work.prepared; view = record { camera = c.args.work.camera; lighting = c.args.work.lighting; size = c.args.work.size } }) refl c.put_scene.ensures

pub returns-clause-returned : goal.returns-clause-returned
returns-clause-returned c =
    let old : Inside = record { objects = c.self.inside.objects; flights = c.self.inside.flights; worlds = c.self.inside.worlds; history = c.self.inside.journal.items; room = c.self.inside.journal.room; builds = c.self.inside.builds } in
    let r : IsLentFlight old c.args.work = subst (λ (i : Inside). IsLentFlight i c.args.work) (sym c.self.view_is) c.requires in
    subst (λ (before : Inside). HasReturned before (record { objects = c.self.inside.objects; flights = c.put_scene.new.flights; worlds = c.self.inside.worlds; history = c.self.inside.journal.items; room = c.self.inside.journal.room; builds = c.self.inside.builds }) c.args.work) c.self.view_is
    (has_returned old c.self.invariant c.frames-books.ensures.books c.args.work r c.lent_ticket-ticket.result c.lent_ticket-ticket.ensures c.put_back.new.self c.put_back.ensures c.put_scene.new.flights (record { prepared = c.args.work.prepared; view = record { camera = c.args.work.camera; lighting = c.args.work.lighting; size = c.args.work.size } }) refl c.put_scene.ensures)

pub returns-clause-home : goal.returns-clause-home
returns-clause-home c =
    let old : Inside = record { objects = c.self.inside.objects; flights = c.self.inside.flights; worlds = c.self.inside.worlds; history = c.self.inside.journal.items; room = c.self.inside.journal.room; builds = c.self.inside.builds } in
    let r : IsLentFlight old c.args.work = subst (λ (i : Inside). IsLentFlight i c.args.work) (sym c.self.view_is) c.requires in
    returned_home old c.self.invariant c.frames-books.ensures.books c.args.work r c.lent_ticket-ticket.result c.lent_ticket-ticket.ensures c.put_back.new.self c.put_back.ensures c.put_scene.new.flights (record { prepared = c.args.work.prepared; view = record { camera = c.args.work.camera; lighting = c.args.work.lighting; size = c.args.work.size } }) refl c.put_scene.ensures

pub returns-clause-stands : goal.returns-clause-stands
returns-clause-stands c = λ stands.
    let old : Inside = record { objects = c.self.inside.objects; flights = c.self.inside.flights; worlds = c.self.inside.worlds; history = c.self.inside.journal.items; room = c.self.inside.journal.room; builds = c.self.inside.builds } in
    let r : IsLentFlight old c.args.work = subst (λ (i : Inside). IsLentFlight i c.args.work) (sym c.self.view_is) c.requires in
    returned_stands old c.self.invariant c.frames-books.ensures.books c.args.work r c.lent_ticket-ticket.result c.lent_ticket-ticket.ensures c.put_back.new.self c.put_back.ensures c.put_scene.new.flights (record { prepared = c.args.work.prepared; view = record { camera = c.args.work.camera; lighting = c.args.work.lighting; size = c.args.work.size } }) refl c.put_scene.ensures (subst IsStanding (sym c.self.view_is) stands)
