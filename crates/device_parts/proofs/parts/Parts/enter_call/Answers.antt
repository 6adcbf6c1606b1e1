use Rattle.std.proofs.Common.{◌≡◌, ◌∙◌, ℕ, true, ◌+◌, ◌<◌, ◌++◌, ◌∷◌, [], length, refl, sym, ap, subst}
use Rattle.std.specs.Prelude.{slice_index_or}
use Rattle.frame_future.specs.Flights.{Flying}
use Rattle.device_laws.proofs.FramesStandFacts.{fewer_kept}
use Rattle.std.specs.List.{filter_map}
use Rattle.std.specs.Map.{keys_of}
use Rattle.flight_books.specs.Kept.{Books}
use Rattle.kept_worlds.specs.LastKept.{is_there}
use Rattle.object_store.specs.Gathers.{IsLeft, buried}
use Rattle.object_store.specs.Kept.{CountsItsObjects, Stored}
use Rattle.object_steps.specs.Carrying.{CanCarry, carried}
use Rattle.object_steps.specs.Objects.{Objects}
use Rattle.object_steps.proofs.Rested.{ranked}
use Rattle.object_steps.proofs.Tellables.{effect_tellable}
use Rattle.seq_model.specs.Legal.{Legal}
use Rattle.seq_model.specs.Soundness.{IsRanked}
use Rattle.seq_model.specs.Told.{end_of_object, gone}
use Rattle.seq_model.specs.declared.calls.Entry.TheVariants.{Called}
use Rattle.device_laws.specs.Replies.{AreTold}
use Rattle.device_parts.specs.AllParts.{Inside, shown_by}
use Rattle.device_parts.specs.Calls.{HasEntered}
use Rattle.device_parts.specs.Standing.{IsStanding}
use Rattle.device_parts.specs.declared.loads.Load.{Load}
use Rattle.device_parts.proofs.CalledFacts.{called_enters, called_leaves, called_parts, moved, moved_aboard, moved_flown, moved_follows, moved_places, moved_stands, no_render}
use Rattle.device_parts.proofs.parts.Parts.enter_call.Goals as goal

pub bury-requires-clause-ranked : goal.bury-requires-clause-ranked
bury-requires-clause-ranked c =
    let old : Inside = record { objects = c.self.inside.objects; flights = c.self.inside.flights; worlds = c.self.inside.worlds; history = c.self.inside.journal.items; room = c.self.inside.journal.room; builds = c.self.inside.builds } in
    let e = Called c.args.actor c.args.call c.args.reply in
    let can = subst (λ (i : Inside). CanCarry i.objects.stored c.args.call c.args.reply) (sym c.self.view_is) c.requires.can in
    let legal = subst (λ (i : Inside). Legal (i.history ++ e ∷ [])) (sym c.self.view_is) c.requires.legal in
    let counted_old = subst CountsItsObjects c.store.ensures c.counts_its_objects.ensures in
    let place : c.entries-place.result + 1 ≡ length old.history + 1 = ap (λ n. n + 1) (c.entries-place.ensures.count ∙ ap (λ (i : Inside). length i.history) (sym c.self.view_is)) in
    let next : Stored = moved old c.args.actor c.args.call c.args.reply c.self.invariant c.requires.of_objects in
    let moves : c.carry_out.new.self.stored ≡ next = ap (λ (o : Objects). o.stored) c.in-Ok.ensures.ok ∙ ap (λ n. carried n c.args.call c.args.reply old.objects.stored) place in
    subst (λ (s : Stored). IsRanked s.state.objects) (sym moves) (ranked old.history e next (moved_follows old c.args.actor c.args.call c.args.reply c.self.invariant c.requires.of_objects counted_old can legal))

pub invariant_of-self-2 : goal.invariant_of-self-2
invariant_of-self-2 c =
    let old : Inside = record { objects = c.self.inside.objects; flights = c.self.inside.flights; worlds = c.self.inside.worlds; history = c.self.inside.journal.items; room = c.self.inside.journal.room; builds = c.self.inside.builds } in
    let new : Inside = record { objects = c.bury.new.objects; flights = c.bury.new.flights; worlds = c.bury.new.worlds; history = c.push_reserved.new.self.items; room = c.push_reserved.new.self.room; builds = c.self.inside.builds } in
    let e = Called c.args.actor c.args.call c.args.reply in
    let can = subst (λ (i : Inside). CanCarry i.objects.stored c.args.call c.args.reply) (sym c.self.view_is) c.requires.can in
    let legal = subst (λ (i : Inside). Legal (i.history ++ e ∷ [])) (sym c.self.view_is) c.requires.legal in
    let counted_old = subst CountsItsObjects c.store.ensures c.counts_its_objects.ensures in
    let place : c.entries-place.result + 1 ≡ length old.history + 1 = ap (λ n. n + 1) (c.entries-place.ensures.count ∙ ap (λ (i : Inside). length i.history) (sym c.self.view_is)) in
    let next : Stored = moved old c.args.actor c.args.call c.args.reply c.self.invariant c.requires.of_objects in
    let moves : c.carry_out.new.self.stored ≡ next = ap (λ (o : Objects). o.stored) c.in-Ok.ensures.ok ∙ ap (λ n. carried n c.args.call c.args.reply old.objects.stored) place in
    called_parts old new c.args.actor c.args.call c.args.reply next c.touch.new.worlds c.self.invariant
    (moved_follows old c.args.actor c.args.call c.args.reply c.self.invariant c.requires.of_objects counted_old can legal)
    (no_render c.args.actor c.args.call c.args.reply c.requires.of_objects)
    (effect_tellable (length old.history + 1) c.args.call c.args.reply old.objects.stored can)
    (subst CountsItsObjects (c.store-2.ensures ∙ moves) c.counts_its_objects-2.ensures)
    (subst CountsItsObjects c.store-3.ensures c.counts_its_objects-3.ensures)
    (subst (λ s. IsLeft s c.bury.new.objects.stored) moves c.bury.ensures.left)
    (c.bury.ensures.state ∙ ap buried moves)
    (c.bury.ensures.departed ∙ ap (λ (s : Stored). keys_of (gone s.state c.bury.new.objects.stored.state)) moves)
    c.push_reserved.ensures.items
    (moved_flown old c.args.actor c.args.call c.args.reply c.self.invariant c.requires.of_objects new legal c.bury.ensures.flights)
    (moved_aboard old c.args.actor c.args.call c.args.reply c.self.invariant c.requires.of_objects new c.bury.ensures.flights)
    (ap (λ (b : Books Load). b.cargo) c.bury.ensures.flights) (ap (λ (b : Books Load). b.over) c.bury.ensures.flights)
    (c.touch.ensures.known old.history c.args.actor (is_there old.history) c.self.invariant.kept)
    (c.touch.ensures.shown shown_by old.history c.self.invariant.shown)
    c.bury.ensures.forgotten c.bury.ensures.known refl c.push_reserved.ensures.room
    (subst IsStanding (sym c.self.view_is) c.requires.stands) (subst (λ (i : Inside). length i.history + length i.flights.future.flights + 1 < i.room) (sym c.self.view_is) c.requires.place) (moved_places old c.args.actor c.args.call c.args.reply c.self.invariant c.requires.of_objects)

pub returns-clause-entered : goal.returns-clause-entered
returns-clause-entered c =
    let old : Inside = record { objects = c.self.inside.objects; flights = c.self.inside.flights; worlds = c.self.inside.worlds; history = c.self.inside.journal.items; room = c.self.inside.journal.room; builds = c.self.inside.builds } in
    let new : Inside = record { objects = c.bury.new.objects; flights = c.bury.new.flights; worlds = c.bury.new.worlds; history = c.push_reserved.new.self.items; room = c.push_reserved.new.self.room; builds = c.self.inside.builds } in
    let e = Called c.args.actor c.args.call c.args.reply in
    let can = subst (λ (i : Inside). CanCarry i.objects.stored c.args.call c.args.reply) (sym c.self.view_is) c.requires.can in
    let legal = subst (λ (i : Inside). Legal (i.history ++ e ∷ [])) (sym c.self.view_is) c.requires.legal in
    let counted_old = subst CountsItsObjects c.store.ensures c.counts_its_objects.ensures in
    let place : c.entries-place.result + 1 ≡ length old.history + 1 = ap (λ n. n + 1) (c.entries-place.ensures.count ∙ ap (λ (i : Inside). length i.history) (sym c.self.view_is)) in
    let next : Stored = moved old c.args.actor c.args.call c.args.reply c.self.invariant c.requires.of_objects in
    let moves : c.carry_out.new.self.stored ≡ next = ap (λ (o : Objects). o.stored) c.in-Ok.ensures.ok ∙ ap (λ n. carried n c.args.call c.args.reply old.objects.stored) place in
    let notices = c.bury.ensures.notices ∙ ap (λ (s : Stored). filter_map end_of_object (gone s.state c.bury.new.objects.stored.state)) moves in
    subst (λ (before : Inside). HasEntered c.args.actor c.args.call c.args.reply before new) c.self.view_is
    (called_enters old new c.args.actor c.args.call c.args.reply next c.touch.new.worlds c.self.invariant
    (moved_follows old c.args.actor c.args.call c.args.reply c.self.invariant c.requires.of_objects counted_old can legal)
    (no_render c.args.actor c.args.call c.args.reply c.requires.of_objects)
    (effect_tellable (length old.history + 1) c.args.call c.args.reply old.objects.stored can)
    (subst CountsItsObjects (c.store-2.ensures ∙ moves) c.counts_its_objects-2.ensures)
    (subst CountsItsObjects c.store-3.ensures c.counts_its_objects-3.ensures)
    (subst (λ s. IsLeft s c.bury.new.objects.stored) moves c.bury.ensures.left)
    (c.bury.ensures.state ∙ ap buried moves)
    (c.bury.ensures.departed ∙ ap (λ (s : Stored). keys_of (gone s.state c.bury.new.objects.stored.state)) moves)
    c.push_reserved.ensures.items
    (moved_flown old c.args.actor c.args.call c.args.reply c.self.invariant c.requires.of_objects new legal c.bury.ensures.flights)
    (moved_aboard old c.args.actor c.args.call c.args.reply c.self.invariant c.requires.of_objects new c.bury.ensures.flights)
    (ap (λ (b : Books Load). b.cargo) c.bury.ensures.flights) (ap (λ (b : Books Load). b.over) c.bury.ensures.flights)
    (c.touch.ensures.known old.history c.args.actor (is_there old.history) c.self.invariant.kept)
    (c.touch.ensures.shown shown_by old.history c.self.invariant.shown)
    c.bury.ensures.forgotten c.bury.ensures.known refl c.push_reserved.ensures.room
    notices)

pub returns-clause-stands : goal.returns-clause-stands
returns-clause-stands c =
    let old : Inside = record { objects = c.self.inside.objects; flights = c.self.inside.flights; worlds = c.self.inside.worlds; history = c.self.inside.journal.items; room = c.self.inside.journal.room; builds = c.self.inside.builds } in
    let new : Inside = record { objects = c.bury.new.objects; flights = c.bury.new.flights; worlds = c.bury.new.worlds; history = c.push_reserved.new.self.items; room = c.push_reserved.new.self.room; builds = c.self.inside.builds } in
    let e = Called c.args.actor c.args.call c.args.reply in
    let can = subst (λ (i : Inside). CanCarry i.objects.stored c.args.call c.args.reply) (sym c.self.view_is) c.requires.can in
    let legal = subst (λ (i : Inside). Legal (i.history ++ e ∷ [])) (sym c.self.view_is) c.requires.legal in
    let counted_old = subst CountsItsObjects c.store.ensures c.counts_its_objects.ensures in
    let place : c.entries-place.result + 1 ≡ length old.history + 1 = ap (λ n. n + 1) (c.entries-place.ensures.count ∙ ap (λ (i : Inside). length i.history) (sym c.self.view_is)) in
    let next : Stored = moved old c.args.actor c.args.call c.args.reply c.self.invariant c.requires.of_objects in
    let moves : c.carry_out.new.self.stored ≡ next = ap (λ (o : Objects). o.stored) c.in-Ok.ensures.ok ∙ ap (λ n. carried n c.args.call c.args.reply old.objects.stored) place in
    moved_stands old c.args.actor c.args.call c.args.reply c.self.invariant c.requires.of_objects new c.push_reserved.ensures.items c.bury.ensures.flights
    (called_leaves old new c.args.actor c.args.call c.args.reply next c.touch.new.worlds c.self.invariant
    (moved_follows old c.args.actor c.args.call c.args.reply c.self.invariant c.requires.of_objects counted_old can legal)
    (no_render c.args.actor c.args.call c.args.reply c.requires.of_objects)
    (effect_tellable (length old.history + 1) c.args.call c.args.reply old.objects.stored can)
    (subst CountsItsObjects (c.store-2.ensures ∙ moves) c.counts_its_objects-2.ensures)
    (subst CountsItsObjects c.store-3.ensures c.counts_its_objects-3.ensures)
    (subst (λ s. IsLeft s c.bury.new.objects.stored) moves c.bury.ensures.left)
    (c.bury.ensures.state ∙ ap buried moves)
    (c.bury.ensures.departed ∙ ap (λ (s : Stored). keys_of (gone s.state c.bury.new.objects.stored.state)) moves)
    c.push_reserved.ensures.items
    (moved_flown old c.args.actor c.args.call c.args.reply c.self.invariant c.requires.of_objects new legal c.bury.ensures.flights)
    (moved_aboard old c.args.actor c.args.call c.args.reply c.self.invariant c.requires.of_objects new c.bury.ensures.flights)
    (ap (λ (b : Books Load). b.cargo) c.bury.ensures.flights) (ap (λ (b : Books Load). b.over) c.bury.ensures.flights)
    (c.touch.ensures.known old.history c.args.actor (is_there old.history) c.self.invariant.kept)
    (c.touch.ensures.shown shown_by old.history c.self.invariant.shown)
    c.bury.ensures.forgotten c.bury.ensures.known refl c.push_reserved.ensures.room)
    (subst (λ (i : Inside). AreTold (i.history ++ e ∷ []) i.flights.future.flights) (sym c.self.view_is) c.requires.tells)
    (subst IsStanding (sym c.self.view_is) c.requires.stands)

pub returns-clause-home : goal.returns-clause-home
returns-clause-home c = λ home.
    let flights = ap (λ (b : Books Load). b.future.flights) c.bury.ensures.flights ∙ (fewer_kept c.self.inside.flights.future c.bury.new.objects.departed).0
    ∙ ap (λ (i : Inside). i.flights.future.flights) c.self.view_is in
    subst (λ fs. (k : ℕ) (d : Flying) → k < length fs → (slice_index_or fs k d).home ≡ true) (sym flights) home
