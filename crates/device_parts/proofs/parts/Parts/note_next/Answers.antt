use Rattle.std.proofs.Common.{◌≡◌, ◌∙◌, ℕ, ◌+◌, ◌<◌, ◌≤◌, true, [], ◌∷◌, ◌++◌, length, map, refl, sym, ap, subst, None}
use Rattle.std.specs.Prelude.{slice_index_or}
use Rattle.std.specs.List.{AllByRecursion, filter_map}
use Rattle.std.specs.Map.{keys_of}
use Rattle.std.proofs.lemmas.List.{append-nil}
use Rattle.dev_types.specs.Counting.{times}
use Rattle.flight_books.specs.Kept.{Books}
use Rattle.flight_books.specs.Sweeps.{note}
use Rattle.frame_future.specs.Flights.{Flying}
use Rattle.frame_future.specs.Future.{Future, Rising}
use Rattle.object_store.specs.Gathers.{IsLeft, buried}
use Rattle.object_store.specs.Kept.{CountsItsObjects, number_at}
use Rattle.object_steps.specs.Objects.{Objects}
use Rattle.object_steps.proofs.Rested.{ranked}
use Rattle.seq_model.specs.Soundness.{IsRanked}
use Rattle.seq_model.specs.Steps.{after, next_place}
use Rattle.seq_model.specs.Told.{end_of_object, gone}
use Rattle.device_laws.specs.Over.{AllOver}
use Rattle.device_laws.proofs.OverFacts.{note_over}
use Rattle.device_laws.specs.Flown.{Flown, runs_of}
use Rattle.device_parts.specs.AllParts.{AreAboard, AreParts, Inside, IsLoaded}
use Rattle.device_parts.specs.Holds.{held_less, with_holds}
use Rattle.device_parts.specs.Notes.{HasNoted, HasNotedNothing}
use Rattle.device_parts.specs.declared.loads.Load.{Load}
use Rattle.device_parts.proofs.AboardFacts.{aboard_none}
use Rattle.device_parts.proofs.NotedFacts.{IsEnding, ending, follows, holds_it, moved, noted, noted_fewer, noted_parts, noted_stands, noted_told, own_frame}
use Rattle.device_laws.proofs.FramesStandFacts.{fewer_kept, looked_stands}
use Rattle.device_laws.proofs.ReplyFacts.{seen_told}
use Rattle.device_parts.specs.Standing.{IsStanding}
use Rattle.device_parts.proofs.SeenFacts.{none_seen, seen_count}
use Rattle.device_parts.proofs.parts.Parts.note_next.Goals as goal

-- where no flight ended, all holds as before
unended : (old : Inside) (flights : Books Load) → AreParts old → runs_of flights.future.flights ≡ runs_of old.flights.future.flights → length flights.future.flights ≡ length old.flights.future.flights
    → flights.cargo ≡ old.flights.cargo → flights.over ≡ old.flights.over → AreAboard flights.future.flights old.flights.cargo → AreParts (record old { flights = flights })
unended old flights p runs count cargo over aboard = record {
  rest = p.rest;
  flown = subst (Flown old.history) (sym runs) p.flown;
  loaded = subst (AllByRecursion (IsLoaded old.history)) (sym cargo) p.loaded;
  aboard = subst (AreAboard flights.future.flights) (sym cargo) aboard;
  lets = p.lets;
  kept = p.kept;
  shown = p.shown;
  built = p.built;
  over = subst (AllOver old.history) (sym over) p.over;
  places = subst (λ n. length old.history + n < old.room) (sym count) p.places;
  stops = subst (λ n. n < old.objects.stored.places) (sym count) p.stops;
}

pub invariant_of-self : goal.invariant_of-self
invariant_of-self c =
    let old : Inside = record { objects = c.self.inside.objects; flights = c.self.inside.flights; worlds = c.self.inside.worlds; history = c.self.inside.journal.items; room = c.self.inside.journal.room; builds = c.self.inside.builds } in
    let runs = none_seen c.args.after old.flights.future c.next_ended.new.self.future c.in-None.ensures.seen in
    unended old c.next_ended.new.self c.self.invariant runs (seen_count old.flights.future c.next_ended.new.self.future runs) c.in-None.ensures.cargo (c.in-None.ensures.over ∙ append-nil old.flights.over)
    (aboard_none c.args.after old.flights c.next_ended.new.self.future (subst (λ (s : Future). Rising (map (λ f. f.ticket) s.flights)) c.frames.ensures.value c.are_kept.ensures.rising) c.frames.ensures.books
    c.self.invariant.aboard c.in-None.ensures.seen)

pub end_flight-requires : goal.end_flight-requires
end_flight-requires c =
    let old : Inside = record { objects = c.self.inside.objects; flights = c.self.inside.flights; worlds = c.self.inside.worlds; history = c.self.inside.journal.items; room = c.self.inside.journal.room; builds = c.self.inside.builds } in
    let e = c.in-Some.over.ended in
    let cargo = c.in-Some.over.cargo in
    let left = c.next_ended.new.self.future.flights in
    let x : IsEnding old e cargo left = ending old c.args.after c.frames.result.now c.next_ended.new.self.future e cargo c.self.invariant c.frames.ensures.value c.are_kept.ensures.rising c.frames.ensures.books c.in-Some.ensures.seen c.in-Some.ensures.cargo.0 in
    record { own = own_frame old e cargo left x }

pub unhold_all-requires : goal.unhold_all-requires
unhold_all-requires c =
    let old : Inside = record { objects = c.self.inside.objects; flights = c.self.inside.flights; worlds = c.self.inside.worlds; history = c.self.inside.journal.items; room = c.self.inside.journal.room; builds = c.self.inside.builds } in
    let e = c.in-Some.over.ended in
    let cargo = c.in-Some.over.cargo in
    let left = c.next_ended.new.self.future.flights in
    let x : IsEnding old e cargo left = ending old c.args.after c.frames.result.now c.next_ended.new.self.future e cargo c.self.invariant c.frames.ensures.value c.are_kept.ensures.rising c.frames.ensures.books c.in-Some.ensures.seen c.in-Some.ensures.cargo.0 in
    record {
      held = λ h. subst (λ (o : Objects). times h c.as_slice.result.now ≤ number_at o.stored.holds h) (sym (c.end_flight.ensures (next_place (after old.history))))
          (subst (λ reach. times h reach ≤ number_at old.objects.stored.holds h) (sym c.as_slice.ensures.value) (holds_it old e cargo left x h));
    }

pub bury-requires-clause-ranked : goal.bury-requires-clause-ranked
bury-requires-clause-ranked c =
    let old : Inside = record { objects = c.self.inside.objects; flights = c.self.inside.flights; worlds = c.self.inside.worlds; history = c.self.inside.journal.items; room = c.self.inside.journal.room; builds = c.self.inside.builds } in
    let e = c.in-Some.over.ended in
    let cargo = c.in-Some.over.cargo in
    let left = c.next_ended.new.self.future.flights in
    let x : IsEnding old e cargo left = ending old c.args.after c.frames.result.now c.next_ended.new.self.future e cargo c.self.invariant c.frames.ensures.value c.are_kept.ensures.rising c.frames.ensures.books c.in-Some.ensures.seen c.in-Some.ensures.cargo.0 in
    let moves : c.unhold_all.new.objects ≡ moved old e cargo left x = c.unhold_all.ensures ∙ ap (λ reach. with_holds c.end_flight.new.objects (held_less reach c.end_flight.new.objects.stored.holds)) c.as_slice.ensures.value
    ∙ ap (λ (o : Objects). with_holds o (held_less cargo.kept.reach.items o.stored.holds)) (c.end_flight.ensures (next_place (after old.history))) in
    subst (λ (o : Objects). IsRanked o.stored.state.objects) (sym moves) (ranked old.history (note e.left e.ticket) (moved old e cargo left x).stored (follows old e cargo left x))

pub bury-requires-clause-none : goal.bury-requires-clause-none
bury-requires-clause-none c =
    let old : Inside = record { objects = c.self.inside.objects; flights = c.self.inside.flights; worlds = c.self.inside.worlds; history = c.self.inside.journal.items; room = c.self.inside.journal.room; builds = c.self.inside.builds } in
    let e = c.in-Some.over.ended in
    let cargo = c.in-Some.over.cargo in
    let left = c.next_ended.new.self.future.flights in
    let x : IsEnding old e cargo left = ending old c.args.after c.frames.result.now c.next_ended.new.self.future e cargo c.self.invariant c.frames.ensures.value c.are_kept.ensures.rising c.frames.ensures.books c.in-Some.ensures.seen c.in-Some.ensures.cargo.0 in
    let moves : c.unhold_all.new.objects ≡ moved old e cargo left x = c.unhold_all.ensures ∙ ap (λ reach. with_holds c.end_flight.new.objects (held_less reach c.end_flight.new.objects.stored.holds)) c.as_slice.ensures.value
    ∙ ap (λ (o : Objects). with_holds o (held_less cargo.kept.reach.items o.stored.holds)) (c.end_flight.ensures (next_place (after old.history))) in
    ap (λ (o : Objects). o.dead) moves ∙ ap (λ (i : Inside). i.objects.dead) c.self.view_is ∙ c.requires.all_told

pub invariant_of-self-2 : goal.invariant_of-self-2
invariant_of-self-2 c =
    let old : Inside = record { objects = c.self.inside.objects; flights = c.self.inside.flights; worlds = c.self.inside.worlds; history = c.self.inside.journal.items; room = c.self.inside.journal.room; builds = c.self.inside.builds } in
    let e = c.in-Some.over.ended in
    let cargo = c.in-Some.over.cargo in
    let left = c.next_ended.new.self.future.flights in
    let x : IsEnding old e cargo left = ending old c.args.after c.frames.result.now c.next_ended.new.self.future e cargo c.self.invariant c.frames.ensures.value c.are_kept.ensures.rising c.frames.ensures.books c.in-Some.ensures.seen c.in-Some.ensures.cargo.0 in
    let moves : c.unhold_all.new.objects ≡ moved old e cargo left x = c.unhold_all.ensures ∙ ap (λ reach. with_holds c.end_flight.new.objects (held_less reach c.end_flight.new.objects.stored.holds)) c.as_slice.ensures.value
    ∙ ap (λ (o : Objects). with_holds o (held_less cargo.kept.reach.items o.stored.holds)) (c.end_flight.ensures (next_place (after old.history))) in
    noted_parts old (record { objects = c.bury.new.objects; flights = c.bury.new.flights; worlds = c.bury.new.worlds; history = c.push_reserved.new.self.items; room = c.push_reserved.new.self.room; builds = c.self.inside.builds }) e cargo left x
    (subst CountsItsObjects (c.store.ensures ∙ ap (λ (o : Objects). o.stored) moves) c.counts_its_objects.ensures)
    (subst CountsItsObjects c.store-2.ensures c.counts_its_objects-2.ensures)
    (subst (λ (o : Objects). IsLeft o.stored c.bury.new.objects.stored) moves c.bury.ensures.left)
    (c.bury.ensures.state ∙ ap (λ (o : Objects). buried o.stored) moves)
    (c.bury.ensures.departed ∙ ap (λ (o : Objects). keys_of (gone o.stored.state c.bury.new.objects.stored.state)) moves)
    (c.push_reserved.ensures.items ∙ ap (λ n. old.history ++ n ∷ []) c.note_of.ensures)
    (ap (λ (b : Books Load). b.future.flights) c.bury.ensures.flights ∙ (fewer_kept c.next_ended.new.self.future c.bury.new.objects.departed).0)
    (ap (λ (b : Books Load). b.cargo) c.bury.ensures.flights ∙ c.in-Some.ensures.cargo.1)
    (subst (AllOver (old.history ++ note e.left e.ticket ∷ [])) (sym (ap (λ (b : Books Load). b.over) c.bury.ensures.flights ∙ c.in-Some.ensures.over))
    (note_over old.history c.args.after old.flights.future c.next_ended.new.self.future e old.flights.over (noted old e cargo left x).legal c.in-Some.ensures.seen c.self.invariant.over))
    c.bury.ensures.forgotten c.bury.ensures.known refl c.push_reserved.ensures.room

pub returns-clause-home : goal.returns-clause-home
returns-clause-home c =
    let flights = ap (λ (b : Books Load). b.future.flights) c.bury.ensures.flights ∙ (fewer_kept c.next_ended.new.self.future c.bury.new.objects.departed).0 in
    subst (λ fs. (k : ℕ) (d : Flying) → k < length fs → (slice_index_or fs k d).home ≡ true) (sym flights) c.next_ended.ensures.home

pub returns-clause-noted : goal.returns-clause-noted
returns-clause-noted c =
    let old : Inside = record { objects = c.self.inside.objects; flights = c.self.inside.flights; worlds = c.self.inside.worlds; history = c.self.inside.journal.items; room = c.self.inside.journal.room; builds = c.self.inside.builds } in
    let e = c.in-Some.over.ended in
    let cargo = c.in-Some.over.cargo in
    let left = c.next_ended.new.self.future.flights in
    let x : IsEnding old e cargo left = ending old c.args.after c.frames.result.now c.next_ended.new.self.future e cargo c.self.invariant c.frames.ensures.value c.are_kept.ensures.rising c.frames.ensures.books c.in-Some.ensures.seen c.in-Some.ensures.cargo.0 in
    let moves : c.unhold_all.new.objects ≡ moved old e cargo left x = c.unhold_all.ensures ∙ ap (λ reach. with_holds c.end_flight.new.objects (held_less reach c.end_flight.new.objects.stored.holds)) c.as_slice.ensures.value
    ∙ ap (λ (o : Objects). with_holds o (held_less cargo.kept.reach.items o.stored.holds)) (c.end_flight.ensures (next_place (after old.history))) in
    let notices = c.bury.ensures.notices ∙ ap (λ (o : Objects). filter_map end_of_object (gone o.stored.state c.bury.new.objects.stored.state)) moves in
    let left_ = subst (λ (o : Objects). IsLeft o.stored c.bury.new.objects.stored) moves c.bury.ensures.left in
    let buried_ = c.bury.ensures.state ∙ ap (λ (o : Objects). buried o.stored) moves in
    subst
    (λ (before : Inside). HasNoted c.args.after before (record { objects = c.bury.new.objects; flights = c.bury.new.flights; worlds = c.bury.new.worlds; history = c.push_reserved.new.self.items; room = c.push_reserved.new.self.room; builds = c.self.inside.builds }) e.ticket)
    c.self.view_is
    (record {
      ended = e;
      ticket = refl;
      looked = c.next_ended.new.self.future;
      seen = c.in-Some.ensures.seen;
      grown = c.push_reserved.ensures.items ∙ ap (λ n. old.history ++ n ∷ []) c.note_of.ensures;
      left = ap (λ (b : Books Load). b.future) c.bury.ensures.flights;
      cargo = ap (λ (b : Books Load). b.cargo) c.bury.ensures.flights ∙ c.in-Some.ensures.cargo.1;
      over = ap (λ (b : Books Load). b.over) c.bury.ensures.flights ∙ c.in-Some.ensures.over;
      told = noted_told old (record { objects = c.bury.new.objects; flights = c.bury.new.flights; worlds = c.bury.new.worlds; history = c.push_reserved.new.self.items; room = c.push_reserved.new.self.room; builds = c.self.inside.builds }) e cargo left x
          (subst CountsItsObjects (c.store.ensures ∙ ap (λ (o : Objects). o.stored) moves) c.counts_its_objects.ensures)
          (subst CountsItsObjects c.store-2.ensures c.counts_its_objects-2.ensures)
          (subst (λ (o : Objects). IsLeft o.stored c.bury.new.objects.stored) moves c.bury.ensures.left)
          (c.bury.ensures.state ∙ ap (λ (o : Objects). buried o.stored) moves)
          (c.bury.ensures.departed ∙ ap (λ (o : Objects). keys_of (gone o.stored.state c.bury.new.objects.stored.state)) moves)
          (c.push_reserved.ensures.items ∙ ap (λ n. old.history ++ n ∷ []) c.note_of.ensures)
          (ap (λ (b : Books Load). b.future.flights) c.bury.ensures.flights ∙ (fewer_kept c.next_ended.new.self.future c.bury.new.objects.departed).0)
          (ap (λ (b : Books Load). b.cargo) c.bury.ensures.flights ∙ c.in-Some.ensures.cargo.1)
          (subst (AllOver (old.history ++ note e.left e.ticket ∷ [])) (sym (ap (λ (b : Books Load). b.over) c.bury.ensures.flights ∙ c.in-Some.ensures.over))
          (note_over old.history c.args.after old.flights.future c.next_ended.new.self.future e old.flights.over (noted old e cargo left x).legal c.in-Some.ensures.seen c.self.invariant.over))
          c.bury.ensures.forgotten c.bury.ensures.known refl c.push_reserved.ensures.room
          notices;
      fewer = noted_fewer old (record { objects = c.bury.new.objects; flights = c.bury.new.flights; worlds = c.bury.new.worlds; history = c.push_reserved.new.self.items; room = c.push_reserved.new.self.room; builds = c.self.inside.builds }) e cargo left x
          (subst CountsItsObjects (c.store.ensures ∙ ap (λ (o : Objects). o.stored) moves) c.counts_its_objects.ensures)
          (subst CountsItsObjects c.store-2.ensures c.counts_its_objects-2.ensures)
          (subst (λ (o : Objects). IsLeft o.stored c.bury.new.objects.stored) moves c.bury.ensures.left)
          (c.bury.ensures.state ∙ ap (λ (o : Objects). buried o.stored) moves)
          (c.bury.ensures.departed ∙ ap (λ (o : Objects). keys_of (gone o.stored.state c.bury.new.objects.stored.state)) moves)
          (c.push_reserved.ensures.items ∙ ap (λ n. old.history ++ n ∷ []) c.note_of.ensures)
          (ap (λ (b : Books Load). b.future.flights) c.bury.ensures.flights ∙ (fewer_kept c.next_ended.new.self.future c.bury.new.objects.departed).0)
          (ap (λ (b : Books Load). b.cargo) c.bury.ensures.flights ∙ c.in-Some.ensures.cargo.1)
          (subst (AllOver (old.history ++ note e.left e.ticket ∷ [])) (sym (ap (λ (b : Books Load). b.over) c.bury.ensures.flights ∙ c.in-Some.ensures.over))
          (note_over old.history c.args.after old.flights.future c.next_ended.new.self.future e old.flights.over (noted old e cargo left x).legal c.in-Some.ensures.seen c.self.invariant.over))
          c.bury.ensures.forgotten c.bury.ensures.known refl c.push_reserved.ensures.room
          notices;
      room = c.push_reserved.ensures.room;
    })

pub returns-in-None-clause-noted : goal.returns-in-None-clause-noted
returns-in-None-clause-noted c =
    subst
    (λ (before : Inside). HasNotedNothing c.args.after before (record { objects = c.self.inside.objects; flights = c.next_ended.new.self; worlds = c.self.inside.worlds; history = c.self.inside.journal.items; room = c.self.inside.journal.room; builds = c.self.inside.builds }))
    c.self.view_is
    (record {
      seen = c.in-None.ensures.seen;
      cargo = c.in-None.ensures.cargo;
      over = c.in-None.ensures.over ∙ append-nil c.self.inside.flights.over;
      rest = refl;
    })

pub returns-clause-stands : goal.returns-clause-stands
returns-clause-stands c =
    let old : Inside = record { objects = c.self.inside.objects; flights = c.self.inside.flights; worlds = c.self.inside.worlds; history = c.self.inside.journal.items; room = c.self.inside.journal.room; builds = c.self.inside.builds } in
    let e = c.in-Some.over.ended in
    let cargo = c.in-Some.over.cargo in
    let left = c.next_ended.new.self.future.flights in
    let x : IsEnding old e cargo left = ending old c.args.after c.frames.result.now c.next_ended.new.self.future e cargo c.self.invariant c.frames.ensures.value c.are_kept.ensures.rising c.frames.ensures.books c.in-Some.ensures.seen c.in-Some.ensures.cargo.0 in
    let moves : c.unhold_all.new.objects ≡ moved old e cargo left x = c.unhold_all.ensures ∙ ap (λ reach. with_holds c.end_flight.new.objects (held_less reach c.end_flight.new.objects.stored.holds)) c.as_slice.ensures.value
    ∙ ap (λ (o : Objects). with_holds o (held_less cargo.kept.reach.items o.stored.holds)) (c.end_flight.ensures (next_place (after old.history))) in
    λ stands. noted_stands old (record { objects = c.bury.new.objects; flights = c.bury.new.flights; worlds = c.bury.new.worlds; history = c.push_reserved.new.self.items; room = c.push_reserved.new.self.room; builds = c.self.inside.builds }) e cargo left x
    (subst CountsItsObjects (c.store.ensures ∙ ap (λ (o : Objects). o.stored) moves) c.counts_its_objects.ensures)
    (subst CountsItsObjects c.store-2.ensures c.counts_its_objects-2.ensures)
    (subst (λ (o : Objects). IsLeft o.stored c.bury.new.objects.stored) moves c.bury.ensures.left)
    (c.bury.ensures.state ∙ ap (λ (o : Objects). buried o.stored) moves)
    (c.bury.ensures.departed ∙ ap (λ (o : Objects). keys_of (gone o.stored.state c.bury.new.objects.stored.state)) moves)
    (c.push_reserved.ensures.items ∙ ap (λ n. old.history ++ n ∷ []) c.note_of.ensures)
    (ap (λ (b : Books Load). b.future.flights) c.bury.ensures.flights ∙ (fewer_kept c.next_ended.new.self.future c.bury.new.objects.departed).0)
    (ap (λ (b : Books Load). b.cargo) c.bury.ensures.flights ∙ c.in-Some.ensures.cargo.1)
    (subst (AllOver (old.history ++ note e.left e.ticket ∷ [])) (sym (ap (λ (b : Books Load). b.over) c.bury.ensures.flights ∙ c.in-Some.ensures.over))
    (note_over old.history c.args.after old.flights.future c.next_ended.new.self.future e old.flights.over (noted old e cargo left x).legal c.in-Some.ensures.seen c.self.invariant.over))
    c.bury.ensures.forgotten c.bury.ensures.known refl c.push_reserved.ensures.room
    c.args.after c.next_ended.new.self.future c.in-Some.ensures.seen (ap (λ (b : Books Load). b.future) c.bury.ensures.flights) (subst IsStanding (sym c.self.view_is) stands)

pub returns-in-None-clause-stands : goal.returns-in-None-clause-stands
returns-in-None-clause-stands c = λ stands.
    let before : IsStanding (record { objects = c.self.inside.objects; flights = c.self.inside.flights; worlds = c.self.inside.worlds; history = c.self.inside.journal.items; room = c.self.inside.journal.room; builds = c.self.inside.builds }) = subst IsStanding (sym c.self.view_is) stands in
    record {
      frames = looked_stands c.self.inside.journal.items c.args.after c.self.inside.flights.future c.next_ended.new.self.future c.in-None.ensures.seen before.frames;
      told = seen_told c.self.inside.journal.items c.args.after c.self.inside.flights.future c.next_ended.new.self.future None c.in-None.ensures.seen before.told;
    }
