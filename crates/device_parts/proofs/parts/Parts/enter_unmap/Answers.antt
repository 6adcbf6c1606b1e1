use Rattle.std.proofs.Math.Nat.{le_refl}
use Rattle.std.proofs.Common.{◌≡◌, ◌∙◌, ℕ, true, ◌+◌, ◌<◌, ◌++◌, ◌∷◌, [], None, Some, length, refl, sym, ap, subst}
use Rattle.std.specs.Prelude.{slice_index_or}
use Rattle.std.specs.List.{filter_map}
use Rattle.std.specs.Map.{keys_of}
use Rattle.flight_books.specs.Kept.{Books, with_future}
use Rattle.frame_future.specs.Flights.{Flying}
use Rattle.frame_future.specs.Future.{IsKept, loan_ended}
use Rattle.kept_worlds.proofs.LastFacts.{stay_known}
use Rattle.kept_worlds.specs.KeptMaps.{reach_at}
use Rattle.kept_worlds.specs.LastKept.{is_there}
use Rattle.object_store.specs.Gathers.{IsLeft, buried}
use Rattle.object_store.specs.Kept.{CountsItsObjects, Stored}
use Rattle.object_steps.specs.Objects.{Objects}
use Rattle.object_steps.proofs.Rested.{ranked}
use Rattle.seq_model.specs.Legal.{Legal}
use Rattle.seq_model.specs.Refusals.{mapped_at, refusal}
use Rattle.seq_model.specs.Soundness.{IsRanked}
use Rattle.seq_model.specs.Steps.{after}
use Rattle.seq_model.specs.Told.{end_of_object, gone}
use Rattle.seq_model.specs.declared.calls.Call.TheVariants.{UnmapFrame}
use Rattle.seq_model.specs.declared.calls.Entry.TheVariants.{Called}
use Rattle.seq_model.specs.declared.calls.Reply.TheVariants as reply
use Rattle.device_laws.specs.FramesStand.{without_pictures}
use Rattle.device_laws.specs.Lent.{loan_in}
use Rattle.device_laws.proofs.FramesStandFacts.{fewer_kept}
use Rattle.device_parts.specs.AllParts.{Inside}
use Rattle.device_parts.specs.Calls.{HasEntered}
use Rattle.device_parts.specs.Standing.{IsStanding}
use Rattle.device_parts.specs.declared.loads.Load.{Load}
use Rattle.device_parts.proofs.CalledFacts.{called_enters, called_leaves, called_parts}
use Rattle.device_parts.proofs.UnmapFacts.{lent_channel, moved, same_flights, unmap_aboard, unmap_flies, unmap_follows, unmap_stands, unmap_tells}
use Rattle.device_parts.proofs.parts.Parts.enter_unmap.Goals as goal

pub unreachable-requires : goal.unreachable-requires
unreachable-requires c =
    let old : Inside = record { objects = c.self.inside.objects; flights = c.self.inside.flights; worlds = c.self.inside.worlds; history = c.self.inside.journal.items; room = c.self.inside.journal.room; builds = c.self.inside.builds } in
    let lent = lent_channel old c.args.h c.args.number c.self.invariant (subst IsStanding (sym c.self.view_is) c.requires.stands)
    (subst (λ (i : Inside). refusal (after i.history) (UnmapFrame c.args.h c.args.number) ≡ None) (sym c.self.view_is) c.requires.out) in
    c.in_default.ensures.none lent.0 (subst (λ (i : Inside). loan_in (mapped_at (after i.history) c.args.h) lent.0 ≡ Some c.args.number) c.self.view_is lent.1)

pub bury-requires-clause-ranked : goal.bury-requires-clause-ranked
bury-requires-clause-ranked c =
    let old : Inside = record { objects = c.self.inside.objects; flights = c.self.inside.flights; worlds = c.self.inside.worlds; history = c.self.inside.journal.items; room = c.self.inside.journal.room; builds = c.self.inside.builds } in
    let legal = subst (λ (i : Inside). Legal (i.history ++ Called c.args.actor (UnmapFrame c.args.h c.args.number) reply.Done ∷ [])) (sym c.self.view_is) c.requires.legal in
    let next : Stored = moved old c.args.actor c.args.h c.args.number c.self.invariant legal in
    let moves : c.unmap_channel.new.self.stored ≡ next = ap (λ (o : Objects). o.stored) c.unmap_channel.ensures in
    subst (λ (s : Stored). IsRanked s.state.objects) (sym moves) (ranked old.history (Called c.args.actor (UnmapFrame c.args.h c.args.number) reply.Done) next (unmap_follows old c.args.actor c.args.h c.args.number c.self.invariant legal))

pub invariant_of-self : goal.invariant_of-self
invariant_of-self c =
    let old : Inside = record { objects = c.self.inside.objects; flights = c.self.inside.flights; worlds = c.self.inside.worlds; history = c.self.inside.journal.items; room = c.self.inside.journal.room; builds = c.self.inside.builds } in
    let new : Inside = record { objects = c.bury.new.objects; flights = c.bury.new.flights; worlds = c.bury.new.worlds; history = c.push_reserved.new.self.items; room = c.push_reserved.new.self.room; builds = c.self.inside.builds } in
    let legal = subst (λ (i : Inside). Legal (i.history ++ Called c.args.actor (UnmapFrame c.args.h c.args.number) reply.Done ∷ [])) (sym c.self.view_is) c.requires.legal in
    let next : Stored = moved old c.args.actor c.args.h c.args.number c.self.invariant legal in
    let moves : c.unmap_channel.new.self.stored ≡ next = ap (λ (o : Objects). o.stored) c.unmap_channel.ensures in
    let channel = c.in-Some.channel in
    let flights : c.bury.new.flights ≡ with_future old.flights (without_pictures (loan_ended old.flights.future c.args.h channel) c.bury.new.objects.departed) =
    c.bury.ensures.flights ∙ ap (λ (b : Books Load). with_future b (without_pictures b.future c.bury.new.objects.departed)) c.end_loan.ensures in
    called_parts old new c.args.actor (UnmapFrame c.args.h c.args.number) reply.Done next old.worlds c.self.invariant
    (unmap_follows old c.args.actor c.args.h c.args.number c.self.invariant legal) refl (unmap_tells old c.args.actor c.args.h c.args.number c.self.invariant legal)
    (subst CountsItsObjects (c.store.ensures ∙ moves) c.counts_its_objects.ensures)
    (subst CountsItsObjects c.store-2.ensures c.counts_its_objects-2.ensures)
    (subst (λ s. IsLeft s c.bury.new.objects.stored) moves c.bury.ensures.left)
    (c.bury.ensures.state ∙ ap buried moves)
    (c.bury.ensures.departed ∙ ap (λ (s : Stored). keys_of (gone s.state c.bury.new.objects.stored.state)) moves)
    c.push_reserved.ensures.items
    (unmap_flies old c.args.actor c.args.h c.args.number c.self.invariant legal new channel c.push_reserved.ensures.items flights)
    (unmap_aboard old c.args.actor c.args.h c.args.number c.self.invariant legal new channel c.push_reserved.ensures.items flights)
    (ap (λ (b : Books Load). b.cargo) flights) (ap (λ (b : Books Load). b.over) flights)
    (stay_known old.history (Called c.args.actor (UnmapFrame c.args.h c.args.number) reply.Done) (is_there old.history) (reach_at old.worlds) refl (λ objects. refl) c.self.invariant.kept)
    c.self.invariant.shown
    c.bury.ensures.forgotten c.bury.ensures.known refl c.push_reserved.ensures.room
    (subst IsStanding (sym c.self.view_is) c.requires.stands) (subst (λ (i : Inside). length i.history + length i.flights.future.flights + 1 < i.room) (sym c.self.view_is) c.requires.place) (le_refl old.objects.stored.places)

pub returns-clause-entered : goal.returns-clause-entered
returns-clause-entered c =
    let old : Inside = record { objects = c.self.inside.objects; flights = c.self.inside.flights; worlds = c.self.inside.worlds; history = c.self.inside.journal.items; room = c.self.inside.journal.room; builds = c.self.inside.builds } in
    let new : Inside = record { objects = c.bury.new.objects; flights = c.bury.new.flights; worlds = c.bury.new.worlds; history = c.push_reserved.new.self.items; room = c.push_reserved.new.self.room; builds = c.self.inside.builds } in
    let legal = subst (λ (i : Inside). Legal (i.history ++ Called c.args.actor (UnmapFrame c.args.h c.args.number) reply.Done ∷ [])) (sym c.self.view_is) c.requires.legal in
    let next : Stored = moved old c.args.actor c.args.h c.args.number c.self.invariant legal in
    let moves : c.unmap_channel.new.self.stored ≡ next = ap (λ (o : Objects). o.stored) c.unmap_channel.ensures in
    let channel = c.in-Some.channel in
    let flights : c.bury.new.flights ≡ with_future old.flights (without_pictures (loan_ended old.flights.future c.args.h channel) c.bury.new.objects.departed) =
    c.bury.ensures.flights ∙ ap (λ (b : Books Load). with_future b (without_pictures b.future c.bury.new.objects.departed)) c.end_loan.ensures in
    let notices = c.bury.ensures.notices ∙ ap (λ (s : Stored). filter_map end_of_object (gone s.state c.bury.new.objects.stored.state)) moves in
    subst (λ (before : Inside). HasEntered c.args.actor (UnmapFrame c.args.h c.args.number) reply.Done before new) c.self.view_is
    (called_enters old new c.args.actor (UnmapFrame c.args.h c.args.number) reply.Done next old.worlds c.self.invariant
    (unmap_follows old c.args.actor c.args.h c.args.number c.self.invariant legal) refl (unmap_tells old c.args.actor c.args.h c.args.number c.self.invariant legal)
    (subst CountsItsObjects (c.store.ensures ∙ moves) c.counts_its_objects.ensures)
    (subst CountsItsObjects c.store-2.ensures c.counts_its_objects-2.ensures)
    (subst (λ s. IsLeft s c.bury.new.objects.stored) moves c.bury.ensures.left)
    (c.bury.ensures.state ∙ ap buried moves)
    (c.bury.ensures.departed ∙ ap (λ (s : Stored). keys_of (gone s.state c.bury.new.objects.stored.state)) moves)
    c.push_reserved.ensures.items
    (unmap_flies old c.args.actor c.args.h c.args.number c.self.invariant legal new channel c.push_reserved.ensures.items flights)
    (unmap_aboard old c.args.actor c.args.h c.args.number c.self.invariant legal new channel c.push_reserved.ensures.items flights)
    (ap (λ (b : Books Load). b.cargo) flights) (ap (λ (b : Books Load). b.over) flights)
    (stay_known old.history (Called c.args.actor (UnmapFrame c.args.h c.args.number) reply.Done) (is_there old.history) (reach_at old.worlds) refl (λ objects. refl) c.self.invariant.kept)
    c.self.invariant.shown
    c.bury.ensures.forgotten c.bury.ensures.known refl c.push_reserved.ensures.room
    notices)

pub returns-clause-stands : goal.returns-clause-stands
returns-clause-stands c =
    let old : Inside = record { objects = c.self.inside.objects; flights = c.self.inside.flights; worlds = c.self.inside.worlds; history = c.self.inside.journal.items; room = c.self.inside.journal.room; builds = c.self.inside.builds } in
    let new : Inside = record { objects = c.bury.new.objects; flights = c.bury.new.flights; worlds = c.bury.new.worlds; history = c.push_reserved.new.self.items; room = c.push_reserved.new.self.room; builds = c.self.inside.builds } in
    let legal = subst (λ (i : Inside). Legal (i.history ++ Called c.args.actor (UnmapFrame c.args.h c.args.number) reply.Done ∷ [])) (sym c.self.view_is) c.requires.legal in
    let next : Stored = moved old c.args.actor c.args.h c.args.number c.self.invariant legal in
    let moves : c.unmap_channel.new.self.stored ≡ next = ap (λ (o : Objects). o.stored) c.unmap_channel.ensures in
    let channel = c.in-Some.channel in
    let flights : c.bury.new.flights ≡ with_future old.flights (without_pictures (loan_ended old.flights.future c.args.h channel) c.bury.new.objects.departed) =
    c.bury.ensures.flights ∙ ap (λ (b : Books Load). with_future b (without_pictures b.future c.bury.new.objects.departed)) c.end_loan.ensures in
    unmap_stands old c.args.actor c.args.h c.args.number c.self.invariant legal new channel c.push_reserved.ensures.items flights
    (subst IsKept c.frames.ensures.value c.are_kept.ensures)
    (subst (λ (i : Inside). refusal (after i.history) (UnmapFrame c.args.h c.args.number) ≡ None) (sym c.self.view_is) c.requires.out)
    (subst (λ (i : Inside). loan_in (mapped_at (after i.history) c.args.h) channel ≡ Some c.args.number) (sym c.self.view_is) c.in-Some.ensures.some)
    (called_leaves old new c.args.actor (UnmapFrame c.args.h c.args.number) reply.Done next old.worlds c.self.invariant
    (unmap_follows old c.args.actor c.args.h c.args.number c.self.invariant legal) refl (unmap_tells old c.args.actor c.args.h c.args.number c.self.invariant legal)
    (subst CountsItsObjects (c.store.ensures ∙ moves) c.counts_its_objects.ensures)
    (subst CountsItsObjects c.store-2.ensures c.counts_its_objects-2.ensures)
    (subst (λ s. IsLeft s c.bury.new.objects.stored) moves c.bury.ensures.left)
    (c.bury.ensures.state ∙ ap buried moves)
    (c.bury.ensures.departed ∙ ap (λ (s : Stored). keys_of (gone s.state c.bury.new.objects.stored.state)) moves)
    c.push_reserved.ensures.items
    (unmap_flies old c.args.actor c.args.h c.args.number c.self.invariant legal new channel c.push_reserved.ensures.items flights)
    (unmap_aboard old c.args.actor c.args.h c.args.number c.self.invariant legal new channel c.push_reserved.ensures.items flights)
    (ap (λ (b : Books Load). b.cargo) flights) (ap (λ (b : Books Load). b.over) flights)
    (stay_known old.history (Called c.args.actor (UnmapFrame c.args.h c.args.number) reply.Done) (is_there old.history) (reach_at old.worlds) refl (λ objects. refl) c.self.invariant.kept)
    c.self.invariant.shown
    c.bury.ensures.forgotten c.bury.ensures.known refl c.push_reserved.ensures.room)
    (subst IsStanding (sym c.self.view_is) c.requires.stands)

pub returns-clause-home : goal.returns-clause-home
returns-clause-home c =
    let channel = c.in-Some.channel in
    let flights = c.bury.ensures.flights ∙ ap (λ (b : Books Load). with_future b (without_pictures b.future c.bury.new.objects.departed)) c.end_loan.ensures in
    let frames = ap (λ (b : Books Load). b.future.flights) flights ∙ (fewer_kept (loan_ended c.self.inside.flights.future c.args.h channel) c.bury.new.objects.departed).0
    ∙ same_flights c.self.inside.flights.future c.args.h channel ∙ ap (λ (i : Inside). i.flights.future.flights) c.self.view_is in
    subst (λ fs. (k : ℕ) (d : Flying) → k < length fs → (slice_index_or fs k d).home ≡ true) (sym frames) c.requires.home
