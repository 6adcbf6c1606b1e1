use Rattle.std.proofs.Common.{◌≡◌, ◌∙◌, ℕ, false, true, ◌+◌, ◌<◌, ◌++◌, ◌∷◌, [], length, refl, sym, ap, subst}
use Rattle.std.specs.Prelude.{slice_index_or}
use Rattle.frame_future.specs.Flights.{Flying}
use Rattle.device_laws.proofs.FramesStandFacts.{fewer_kept}
use Rattle.std.specs.List.{filter_map}
use Rattle.std.specs.Map.{keys_of}
use Rattle.flight_books.specs.Kept.{Books}
use Rattle.frame_future.specs.Future.{IsKept}
use Rattle.kept_worlds.proofs.LastFacts.{stay_known}
use Rattle.kept_worlds.specs.KeptMaps.{reach_at}
use Rattle.kept_worlds.specs.LastKept.{is_there}
use Rattle.object_store.specs.Gathers.{IsLeft, buried}
use Rattle.object_store.specs.Kept.{CountsItsObjects, Stored}
use Rattle.object_steps.specs.Objects.{Objects}
use Rattle.object_steps.proofs.Rested.{ranked}
use Rattle.seq_model.specs.Legal.{Legal}
use Rattle.seq_model.specs.Soundness.{IsRanked}
use Rattle.seq_model.specs.Told.{end_of_object, gone}
use Rattle.seq_model.specs.declared.calls.Call.TheVariants.{DiscardFrame}
use Rattle.seq_model.specs.declared.calls.Entry.TheVariants.{Called}
use Rattle.seq_model.specs.declared.calls.Reply.TheVariants as reply
use Rattle.device_parts.specs.AllParts.{Inside}
use Rattle.device_parts.specs.Calls.{HasEntered}
use Rattle.device_parts.specs.Standing.{IsStanding}
use Rattle.device_parts.specs.declared.loads.Load.{Load}
use Rattle.device_parts.proofs.CalledFacts.{called_enters, called_leaves, called_parts}
use Rattle.device_parts.proofs.DiscardFacts.{discard_aboard, discard_flies, discard_follows, discard_stands, discard_tells, moved}
use Rattle.device_parts.proofs.RoomFacts.{stop_place}
use Rattle.device_parts.proofs.parts.Parts.enter_discard.Goals as goal

pub bury-requires-clause-ranked : goal.bury-requires-clause-ranked
bury-requires-clause-ranked c =
    let old : Inside = record { objects = c.self.inside.objects; flights = c.self.inside.flights; worlds = c.self.inside.worlds; history = c.self.inside.journal.items; room = c.self.inside.journal.room; builds = c.self.inside.builds } in
    let legal = subst (λ (i : Inside). Legal (i.history ++ Called c.args.actor (DiscardFrame c.args.h) reply.Done ∷ [])) (sym c.self.view_is) c.requires.legal in
    let next : Stored = moved old c.args.actor c.args.h c.discard.new.self.stored.places c.self.invariant legal in
    let moves : c.discard.new.self.stored ≡ next = ap (λ (o : Objects). o.stored) c.in-Ok.ensures.ok in
    subst (λ (s : Stored). IsRanked s.state.objects) (sym moves) (ranked old.history (Called c.args.actor (DiscardFrame c.args.h) reply.Done) next (discard_follows old c.args.actor c.args.h c.discard.new.self.stored.places c.self.invariant legal))

pub unreachable-requires : goal.unreachable-requires
unreachable-requires c =
    let old : Inside = record { objects = c.self.inside.objects; flights = c.self.inside.flights; worlds = c.self.inside.worlds; history = c.self.inside.journal.items; room = c.self.inside.journal.room; builds = c.self.inside.builds } in
    let wrong : false ≡ true = c.in_default.ensures.had_room (stop_place old c.self.invariant (subst IsKept c.frames.ensures.value c.are_kept.ensures)) in
    absurd cc

pub invariant_of-self : goal.invariant_of-self
invariant_of-self c =
    let old : Inside = record { objects = c.self.inside.objects; flights = c.self.inside.flights; worlds = c.self.inside.worlds; history = c.self.inside.journal.items; room = c.self.inside.journal.room; builds = c.self.inside.builds } in
    let new : Inside = record { objects = c.bury.new.objects; flights = c.bury.new.flights; worlds = c.bury.new.worlds; history = c.push_reserved.new.self.items; room = c.push_reserved.new.self.room; builds = c.self.inside.builds } in
    let legal = subst (λ (i : Inside). Legal (i.history ++ Called c.args.actor (DiscardFrame c.args.h) reply.Done ∷ [])) (sym c.self.view_is) c.requires.legal in
    let next : Stored = moved old c.args.actor c.args.h c.discard.new.self.stored.places c.self.invariant legal in
    let moves : c.discard.new.self.stored ≡ next = ap (λ (o : Objects). o.stored) c.in-Ok.ensures.ok in
    let kept = subst IsKept c.frames.ensures.value c.are_kept.ensures in
    let left = ap (λ (b : Books Load). b.future) c.bury.ensures.flights in
    called_parts old new c.args.actor (DiscardFrame c.args.h) reply.Done next old.worlds c.self.invariant
    (discard_follows old c.args.actor c.args.h c.discard.new.self.stored.places c.self.invariant legal) refl (discard_tells old c.args.actor c.args.h c.discard.new.self.stored.places c.self.invariant legal)
    (subst CountsItsObjects (c.store-2.ensures ∙ moves) c.counts_its_objects-2.ensures)
    (subst CountsItsObjects c.store-3.ensures c.counts_its_objects-3.ensures)
    (subst (λ s. IsLeft s c.bury.new.objects.stored) moves c.bury.ensures.left)
    (c.bury.ensures.state ∙ ap buried moves)
    (c.bury.ensures.departed ∙ ap (λ (s : Stored). keys_of (gone s.state c.bury.new.objects.stored.state)) moves)
    c.push_reserved.ensures.items
    (discard_flies old c.args.actor c.args.h c.discard.new.self.stored.places c.self.invariant legal new c.discard-2.new.self.future c.push_reserved.ensures.items kept c.discard-2.ensures.discarded left)
    (discard_aboard old c.args.actor c.args.h c.discard.new.self.stored.places c.self.invariant legal new c.discard-2.new.self.future c.push_reserved.ensures.items kept c.discard-2.ensures.discarded left)
    (ap (λ (b : Books Load). b.cargo) c.bury.ensures.flights ∙ c.discard-2.ensures.cargo) (ap (λ (b : Books Load). b.over) c.bury.ensures.flights ∙ c.discard-2.ensures.over)
    (stay_known old.history (Called c.args.actor (DiscardFrame c.args.h) reply.Done) (is_there old.history) (reach_at old.worlds) refl (λ objects. refl) c.self.invariant.kept)
    c.self.invariant.shown
    c.bury.ensures.forgotten c.bury.ensures.known refl c.push_reserved.ensures.room
    (subst IsStanding (sym c.self.view_is) c.requires.stands) (subst (λ (i : Inside). length i.history + length i.flights.future.flights + 1 < i.room) (sym c.self.view_is) c.requires.place)
    c.discard.ensures.grows

pub returns-clause-entered : goal.returns-clause-entered
returns-clause-entered c =
    let old : Inside = record { objects = c.self.inside.objects; flights = c.self.inside.flights; worlds = c.self.inside.worlds; history = c.self.inside.journal.items; room = c.self.inside.journal.room; builds = c.self.inside.builds } in
    let new : Inside = record { objects = c.bury.new.objects; flights = c.bury.new.flights; worlds = c.bury.new.worlds; history = c.push_reserved.new.self.items; room = c.push_reserved.new.self.room; builds = c.self.inside.builds } in
    let legal = subst (λ (i : Inside). Legal (i.history ++ Called c.args.actor (DiscardFrame c.args.h) reply.Done ∷ [])) (sym c.self.view_is) c.requires.legal in
    let next : Stored = moved old c.args.actor c.args.h c.discard.new.self.stored.places c.self.invariant legal in
    let moves : c.discard.new.self.stored ≡ next = ap (λ (o : Objects). o.stored) c.in-Ok.ensures.ok in
    let kept = subst IsKept c.frames.ensures.value c.are_kept.ensures in
    let left = ap (λ (b : Books Load). b.future) c.bury.ensures.flights in
    let notices = c.bury.ensures.notices ∙ ap (λ (s : Stored). filter_map end_of_object (gone s.state c.bury.new.objects.stored.state)) moves in
    subst (λ (before : Inside). HasEntered c.args.actor (DiscardFrame c.args.h) reply.Done before new) c.self.view_is
    (called_enters old new c.args.actor (DiscardFrame c.args.h) reply.Done next old.worlds c.self.invariant
    (discard_follows old c.args.actor c.args.h c.discard.new.self.stored.places c.self.invariant legal) refl (discard_tells old c.args.actor c.args.h c.discard.new.self.stored.places c.self.invariant legal)
    (subst CountsItsObjects (c.store-2.ensures ∙ moves) c.counts_its_objects-2.ensures)
    (subst CountsItsObjects c.store-3.ensures c.counts_its_objects-3.ensures)
    (subst (λ s. IsLeft s c.bury.new.objects.stored) moves c.bury.ensures.left)
    (c.bury.ensures.state ∙ ap buried moves)
    (c.bury.ensures.departed ∙ ap (λ (s : Stored). keys_of (gone s.state c.bury.new.objects.stored.state)) moves)
    c.push_reserved.ensures.items
    (discard_flies old c.args.actor c.args.h c.discard.new.self.stored.places c.self.invariant legal new c.discard-2.new.self.future c.push_reserved.ensures.items kept c.discard-2.ensures.discarded left)
    (discard_aboard old c.args.actor c.args.h c.discard.new.self.stored.places c.self.invariant legal new c.discard-2.new.self.future c.push_reserved.ensures.items kept c.discard-2.ensures.discarded left)
    (ap (λ (b : Books Load). b.cargo) c.bury.ensures.flights ∙ c.discard-2.ensures.cargo) (ap (λ (b : Books Load). b.over) c.bury.ensures.flights ∙ c.discard-2.ensures.over)
    (stay_known old.history (Called c.args.actor (DiscardFrame c.args.h) reply.Done) (is_there old.history) (reach_at old.worlds) refl (λ objects. refl) c.self.invariant.kept)
    c.self.invariant.shown
    c.bury.ensures.forgotten c.bury.ensures.known refl c.push_reserved.ensures.room
    notices)

pub returns-clause-stands : goal.returns-clause-stands
returns-clause-stands c =
    let old : Inside = record { objects = c.self.inside.objects; flights = c.self.inside.flights; worlds = c.self.inside.worlds; history = c.self.inside.journal.items; room = c.self.inside.journal.room; builds = c.self.inside.builds } in
    let new : Inside = record { objects = c.bury.new.objects; flights = c.bury.new.flights; worlds = c.bury.new.worlds; history = c.push_reserved.new.self.items; room = c.push_reserved.new.self.room; builds = c.self.inside.builds } in
    let legal = subst (λ (i : Inside). Legal (i.history ++ Called c.args.actor (DiscardFrame c.args.h) reply.Done ∷ [])) (sym c.self.view_is) c.requires.legal in
    let next : Stored = moved old c.args.actor c.args.h c.discard.new.self.stored.places c.self.invariant legal in
    let moves : c.discard.new.self.stored ≡ next = ap (λ (o : Objects). o.stored) c.in-Ok.ensures.ok in
    let kept = subst IsKept c.frames.ensures.value c.are_kept.ensures in
    let left = ap (λ (b : Books Load). b.future) c.bury.ensures.flights in
    discard_stands old c.args.actor c.args.h c.discard.new.self.stored.places c.self.invariant legal new c.discard-2.new.self.future c.push_reserved.ensures.items kept c.discard-2.ensures.discarded left
    (called_leaves old new c.args.actor (DiscardFrame c.args.h) reply.Done next old.worlds c.self.invariant
    (discard_follows old c.args.actor c.args.h c.discard.new.self.stored.places c.self.invariant legal) refl (discard_tells old c.args.actor c.args.h c.discard.new.self.stored.places c.self.invariant legal)
    (subst CountsItsObjects (c.store-2.ensures ∙ moves) c.counts_its_objects-2.ensures)
    (subst CountsItsObjects c.store-3.ensures c.counts_its_objects-3.ensures)
    (subst (λ s. IsLeft s c.bury.new.objects.stored) moves c.bury.ensures.left)
    (c.bury.ensures.state ∙ ap buried moves)
    (c.bury.ensures.departed ∙ ap (λ (s : Stored). keys_of (gone s.state c.bury.new.objects.stored.state)) moves)
    c.push_reserved.ensures.items
    (discard_flies old c.args.actor c.args.h c.discard.new.self.stored.places c.self.invariant legal new c.discard-2.new.self.future c.push_reserved.ensures.items kept c.discard-2.ensures.discarded left)
    (discard_aboard old c.args.actor c.args.h c.discard.new.self.stored.places c.self.invariant legal new c.discard-2.new.self.future c.push_reserved.ensures.items kept c.discard-2.ensures.discarded left)
    (ap (λ (b : Books Load). b.cargo) c.bury.ensures.flights ∙ c.discard-2.ensures.cargo) (ap (λ (b : Books Load). b.over) c.bury.ensures.flights ∙ c.discard-2.ensures.over)
    (stay_known old.history (Called c.args.actor (DiscardFrame c.args.h) reply.Done) (is_there old.history) (reach_at old.worlds) refl (λ objects. refl) c.self.invariant.kept)
    c.self.invariant.shown
    c.bury.ensures.forgotten c.bury.ensures.known refl c.push_reserved.ensures.room)
    (subst IsStanding (sym c.self.view_is) c.requires.stands)

pub returns-clause-home : goal.returns-clause-home
returns-clause-home c =
    let flights = ap (λ (b : Books Load). b.future.flights) c.bury.ensures.flights ∙ (fewer_kept c.discard-2.new.self.future c.bury.new.objects.departed).0 in
    subst (λ fs. (k : ℕ) (d : Flying) → k < length fs → (slice_index_or fs k d).home ≡ true) (sym flights) c.discard-2.ensures.home
