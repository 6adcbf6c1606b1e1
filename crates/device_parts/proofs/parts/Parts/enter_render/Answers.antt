use Rattle.std.proofs.Common.{◌≡◌, ◌∙◌, ℕ, ◌+◌, ◌≤◌, ◌<◌, ◌^◌, ◌++◌, ◌∷◌, [], All, Some, Bool, true, false, arith, cond, length, refl, subst, sym, ap}
use mir.Val.{bool_byte}
use Rattle.std.specs.Prelude.{slice_index_or}
use Rattle.frame_future.specs.Flights.{Flying, begun}
use Rattle.device_laws.proofs.FramesStandFacts.{fewer_kept}
use Rattle.device_parts.proofs.RenderSteps.{home_more}
use Rattle.std.specs.List.{filter_map}
use Rattle.std.specs.Map.{keys_of}
use Rattle.flight_books.specs.Kept.{Books, with_future}
use Rattle.flight_books.specs.declared.kept.Cargo.{Cargo}
use Rattle.frame_future.specs.Future.{IsLater, flight_of, is_mapped}
use Rattle.kind_tables.specs.Scenes.{scene}
use Rattle.kind_tables.specs.Walks.{visited, walk}
use Rattle.object_store.specs.Gathers.{IsLeft, buried}
use Rattle.object_store.specs.Kept.{CountsItsObjects, Stored, number_at}
use Rattle.object_steps.specs.Objects.{Objects}
use Rattle.object_steps.proofs.Rested.{ranked}
use Rattle.past_laws.specs.Worlds.{render_of}
use Rattle.picture_model.specs.Limits.{IsSceneWithin}
use Rattle.past_laws.proofs.WorldFacts.{builds_within}
use Rattle.scene_read.specs.Starts.{all_seen}
use Rattle.seq_model.specs.Legal.{Legal}
use Rattle.seq_model.specs.Soundness.{IsRanked}
use Rattle.seq_model.specs.State.{State, scene_objects}
use Rattle.seq_model.specs.Steps.{after}
use Rattle.seq_model.specs.Told.{end_of_object, gone}
use Rattle.seq_model.specs.declared.calls.Call.TheVariants.{RenderFrame}
use Rattle.seq_model.specs.declared.calls.Reply.TheVariants as reply
use Rattle.device_laws.specs.FramesStand.{without_pictures}
use Rattle.device_parts.specs.AllParts.{Inside, scene_of_load, scene_prepared}
use Rattle.device_parts.specs.Begins.{HasBegun, IsTakeoff}
use Rattle.device_parts.specs.Calls.{HasEntered}
use Rattle.device_parts.specs.Renders.{HasEachOnce, IsGranted, IsWanted, wants_build}
use Rattle.device_parts.specs.Standing.{IsStanding}
use Rattle.device_parts.specs.declared.loads.Load.{Load}
use Rattle.device_parts.proofs.BeginFacts.{landed, later, unmapped}
use Rattle.device_parts.proofs.RenderedFacts.{follows_now, frame_there, granted_now, held_now, moved_now, reach_held, rendered_begins, rendered_enters, rendered_parts, rendered_stands}
use Rattle.device_parts.proofs.parts.Parts.enter_render.Goals as goal

as_number : (b : Bool) → bool_byte b ≡ cond b 1 0
as_number true = refl
as_number false = refl

at_most_one : (b : Bool) → bool_byte b ≤ 1
at_most_one true = omega arith
at_most_one false = omega arith

pub load_of-requires-clause-granted : goal.load_of-requires-clause-granted
load_of-requires-clause-granted c =
    let old : Inside = record { objects = c.self.inside.objects; flights = c.self.inside.flights; worlds = c.self.inside.worlds; history = c.self.inside.journal.items; room = c.self.inside.journal.room; builds = c.self.inside.builds } in
    let actor = c.args.actor in
    let f = c.args.frame in
    let p = c.self.invariant in
    let legal : Legal (old.history ++ render_of actor f ∷ []) = subst (λ (i : Inside). Legal (i.history ++ render_of actor f ∷ [])) (sym c.self.view_is) c.requires.legal in
    let seen : all_seen (scene_objects old.objects.stored.state) c.args.visits.now ≡ walk (scene_objects old.objects.stored.state) f =
    subst (λ (i : Inside). all_seen (scene_objects i.objects.stored.state) c.args.visits.now ≡ walk (scene_objects i.objects.stored.state) f) (sym c.self.view_is) c.requires.seen in
    subst (λ (s : Stored). IsGranted (scene_objects s.state) f c.args.visits.now) (sym c.store-store.ensures) (granted_now old actor f p legal c.args.visits.now seen)

pub begin_kept-requires-clause-landed : goal.begin_kept-requires-clause-landed
begin_kept-requires-clause-landed c =
    let old : Inside = record { objects = c.self.inside.objects; flights = c.self.inside.flights; worlds = c.self.inside.worlds; history = c.self.inside.journal.items; room = c.self.inside.journal.room; builds = c.self.inside.builds } in
    let actor = c.args.actor in
    let f = c.args.frame in
    let p = c.self.invariant in
    let legal : Legal (old.history ++ render_of actor f ∷ []) = subst (λ (i : Inside). Legal (i.history ++ render_of actor f ∷ [])) (sym c.self.view_is) c.requires.legal in
    let place : c.entries-place.result + 1 ≡ length old.history + 1 = ap (λ n. n + 1) (c.entries-place.ensures.count ∙ ap (λ (i : Inside). length i.history) (sym c.self.view_is)) in
    let stands : IsStanding old = subst IsStanding (sym c.self.view_is) c.requires.stands in
    let load : Load = record { reach = c.in_ok-reach.field-0.reach; scene = Some c.in_ok-reach.field-0.scene } in
    let t = c.in_ok-takeoff.takeoff in
    let counted_old : CountsItsObjects old.objects.stored = subst CountsItsObjects c.store-store.ensures c.counts_its_objects.ensures in
    let takes : IsTakeoff (scene_objects old.objects.stored.state) (length old.history + 1) f load t =
    subst (λ n. IsTakeoff (scene_objects old.objects.stored.state) n f load t) place (subst (λ (s : Stored). IsTakeoff (scene_objects s.state) (c.entries-place.result + 1) f load t) c.store-store.ensures c.in_ok-takeoff.ensures) in
    let once : HasEachOnce (visited (walk (scene_objects old.objects.stored.state) f)) load.reach.items =
    subst (λ (s : Stored). HasEachOnce (visited (walk (scene_objects s.state) f)) load.reach.items) c.store-store.ensures c.in_ok-reach.ensures.reach in
    let shown : scene_prepared c.in_ok-reach.field-0.scene ≡ scene (scene_objects old.objects.stored.state) f = c.in_ok-reach.ensures.scene ∙ ap (λ (s : Stored). scene (scene_objects s.state) f) c.store-store.ensures in
    let shows : scene_of_load load ≡ Some (scene (scene_objects old.objects.stored.state) f) = ap Some shown in
    let within : IsSceneWithin (scene (scene_objects old.objects.stored.state) f) = subst IsSceneWithin shown c.in_ok-reach.ensures.within in
    ap (flight_of old.flights.future) (ap (λ (x : Cargo Load). x.frame) takes.cargo) ∙ landed old.history old.flights.future actor f legal p.flown stands.frames.stands

pub begin_kept-requires-clause-unmapped : goal.begin_kept-requires-clause-unmapped
begin_kept-requires-clause-unmapped c =
    let old : Inside = record { objects = c.self.inside.objects; flights = c.self.inside.flights; worlds = c.self.inside.worlds; history = c.self.inside.journal.items; room = c.self.inside.journal.room; builds = c.self.inside.builds } in
    let actor = c.args.actor in
    let f = c.args.frame in
    let p = c.self.invariant in
    let legal : Legal (old.history ++ render_of actor f ∷ []) = subst (λ (i : Inside). Legal (i.history ++ render_of actor f ∷ [])) (sym c.self.view_is) c.requires.legal in
    let place : c.entries-place.result + 1 ≡ length old.history + 1 = ap (λ n. n + 1) (c.entries-place.ensures.count ∙ ap (λ (i : Inside). length i.history) (sym c.self.view_is)) in
    let stands : IsStanding old = subst IsStanding (sym c.self.view_is) c.requires.stands in
    let load : Load = record { reach = c.in_ok-reach.field-0.reach; scene = Some c.in_ok-reach.field-0.scene } in
    let t = c.in_ok-takeoff.takeoff in
    let counted_old : CountsItsObjects old.objects.stored = subst CountsItsObjects c.store-store.ensures c.counts_its_objects.ensures in
    let takes : IsTakeoff (scene_objects old.objects.stored.state) (length old.history + 1) f load t =
    subst (λ n. IsTakeoff (scene_objects old.objects.stored.state) n f load t) place (subst (λ (s : Stored). IsTakeoff (scene_objects s.state) (c.entries-place.result + 1) f load t) c.store-store.ensures c.in_ok-takeoff.ensures) in
    let once : HasEachOnce (visited (walk (scene_objects old.objects.stored.state) f)) load.reach.items =
    subst (λ (s : Stored). HasEachOnce (visited (walk (scene_objects s.state) f)) load.reach.items) c.store-store.ensures c.in_ok-reach.ensures.reach in
    let shown : scene_prepared c.in_ok-reach.field-0.scene ≡ scene (scene_objects old.objects.stored.state) f = c.in_ok-reach.ensures.scene ∙ ap (λ (s : Stored). scene (scene_objects s.state) f) c.store-store.ensures in
    let shows : scene_of_load load ≡ Some (scene (scene_objects old.objects.stored.state) f) = ap Some shown in
    let within : IsSceneWithin (scene (scene_objects old.objects.stored.state) f) = subst IsSceneWithin shown c.in_ok-reach.ensures.within in
    ap (is_mapped old.flights.future) (ap (λ (x : Cargo Load). x.frame) takes.cargo) ∙ unmapped old.history old.flights.future actor f legal p.flown stands.frames.lent

pub begin_kept-requires-clause-later : goal.begin_kept-requires-clause-later
begin_kept-requires-clause-later c =
    let old : Inside = record { objects = c.self.inside.objects; flights = c.self.inside.flights; worlds = c.self.inside.worlds; history = c.self.inside.journal.items; room = c.self.inside.journal.room; builds = c.self.inside.builds } in
    let actor = c.args.actor in
    let f = c.args.frame in
    let p = c.self.invariant in
    let legal : Legal (old.history ++ render_of actor f ∷ []) = subst (λ (i : Inside). Legal (i.history ++ render_of actor f ∷ [])) (sym c.self.view_is) c.requires.legal in
    let place : c.entries-place.result + 1 ≡ length old.history + 1 = ap (λ n. n + 1) (c.entries-place.ensures.count ∙ ap (λ (i : Inside). length i.history) (sym c.self.view_is)) in
    let stands : IsStanding old = subst IsStanding (sym c.self.view_is) c.requires.stands in
    let load : Load = record { reach = c.in_ok-reach.field-0.reach; scene = Some c.in_ok-reach.field-0.scene } in
    let t = c.in_ok-takeoff.takeoff in
    let counted_old : CountsItsObjects old.objects.stored = subst CountsItsObjects c.store-store.ensures c.counts_its_objects.ensures in
    let takes : IsTakeoff (scene_objects old.objects.stored.state) (length old.history + 1) f load t =
    subst (λ n. IsTakeoff (scene_objects old.objects.stored.state) n f load t) place (subst (λ (s : Stored). IsTakeoff (scene_objects s.state) (c.entries-place.result + 1) f load t) c.store-store.ensures c.in_ok-takeoff.ensures) in
    let once : HasEachOnce (visited (walk (scene_objects old.objects.stored.state) f)) load.reach.items =
    subst (λ (s : Stored). HasEachOnce (visited (walk (scene_objects s.state) f)) load.reach.items) c.store-store.ensures c.in_ok-reach.ensures.reach in
    let shown : scene_prepared c.in_ok-reach.field-0.scene ≡ scene (scene_objects old.objects.stored.state) f = c.in_ok-reach.ensures.scene ∙ ap (λ (s : Stored). scene (scene_objects s.state) f) c.store-store.ensures in
    let shows : scene_of_load load ≡ Some (scene (scene_objects old.objects.stored.state) f) = ap Some shown in
    let within : IsSceneWithin (scene (scene_objects old.objects.stored.state) f) = subst IsSceneWithin shown c.in_ok-reach.ensures.within in
    subst (IsLater old.flights.future) (sym (ap (λ (x : Cargo Load). x.ticket) takes.cargo)) (later old.history old.flights.future actor f legal p.flown stands.frames.stands)

pub show-requires : goal.show-requires
show-requires c =
    let old : Inside = record { objects = c.self.inside.objects; flights = c.self.inside.flights; worlds = c.self.inside.worlds; history = c.self.inside.journal.items; room = c.self.inside.journal.room; builds = c.self.inside.builds } in
    let actor = c.args.actor in
    let f = c.args.frame in
    let p = c.self.invariant in
    let legal : Legal (old.history ++ render_of actor f ∷ []) = subst (λ (i : Inside). Legal (i.history ++ render_of actor f ∷ [])) (sym c.self.view_is) c.requires.legal in
    let seen : all_seen (scene_objects old.objects.stored.state) c.args.visits.now ≡ walk (scene_objects old.objects.stored.state) f =
    subst (λ (i : Inside). all_seen (scene_objects i.objects.stored.state) c.args.visits.now ≡ walk (scene_objects i.objects.stored.state) f) (sym c.self.view_is) c.requires.seen in
    frame_there old actor f p legal c.args.visits.now seen

pub hold_reach-requires-clause-flies : goal.hold_reach-requires-clause-flies
hold_reach-requires-clause-flies c =
    let old : Inside = record { objects = c.self.inside.objects; flights = c.self.inside.flights; worlds = c.self.inside.worlds; history = c.self.inside.journal.items; room = c.self.inside.journal.room; builds = c.self.inside.builds } in
    let actor = c.args.actor in
    let f = c.args.frame in
    let p = c.self.invariant in
    let legal : Legal (old.history ++ render_of actor f ∷ []) = subst (λ (i : Inside). Legal (i.history ++ render_of actor f ∷ [])) (sym c.self.view_is) c.requires.legal in
    let place : c.entries-place.result + 1 ≡ length old.history + 1 = ap (λ n. n + 1) (c.entries-place.ensures.count ∙ ap (λ (i : Inside). length i.history) (sym c.self.view_is)) in
    let load : Load = record { reach = c.in_ok-reach.field-0.reach; scene = Some c.in_ok-reach.field-0.scene } in
    let t = c.in_ok-takeoff.takeoff in
    let counted_old : CountsItsObjects old.objects.stored = subst CountsItsObjects c.store-store.ensures c.counts_its_objects.ensures in
    let takes : IsTakeoff (scene_objects old.objects.stored.state) (length old.history + 1) f load t =
    subst (λ n. IsTakeoff (scene_objects old.objects.stored.state) n f load t) place (subst (λ (s : Stored). IsTakeoff (scene_objects s.state) (c.entries-place.result + 1) f load t) c.store-store.ensures c.in_ok-takeoff.ensures) in
    let once : HasEachOnce (visited (walk (scene_objects old.objects.stored.state) f)) load.reach.items =
    subst (λ (s : Stored). HasEachOnce (visited (walk (scene_objects s.state) f)) load.reach.items) c.store-store.ensures c.in_ok-reach.ensures.reach in
    let shown : scene_prepared c.in_ok-reach.field-0.scene ≡ scene (scene_objects old.objects.stored.state) f = c.in_ok-reach.ensures.scene ∙ ap (λ (s : Stored). scene (scene_objects s.state) f) c.store-store.ensures in
    let shows : scene_of_load load ≡ Some (scene (scene_objects old.objects.stored.state) f) = ap Some shown in
    let within : IsSceneWithin (scene (scene_objects old.objects.stored.state) f) = subst IsSceneWithin shown c.in_ok-reach.ensures.within in
    let cargo : c.begin_kept.new.flights.cargo ≡ old.flights.cargo ++ t.cargo ∷ [] = ap (λ (b : Books Load). b.cargo) c.in_ok-begin_kept.ensures.begun in
    let few : All (λ h. number_at old.objects.stored.holds h + length load.reach.items ≤ 2 ^ 40) load.reach.items =
    subst (λ (s : Stored). All (λ h. number_at s.holds h + length load.reach.items ≤ 2 ^ 40) load.reach.items) c.store-store.ensures
    (subst (λ reach. All (λ h. number_at c.store-store.result.now.holds h + length reach ≤ 2 ^ 40) reach) c.as_slice.ensures.value (c.can_be_held.ensures c.if-not-can_be_held.false)) in
    let held = reach_held old actor f p legal counted_old load t takes once shows within (c.entries-place.result + 1) c.begin_kept.new.flights.cargo c.show.new.self place cargo c.show.ensures few in
    held.0

pub hold_reach-requires-clause-there : goal.hold_reach-requires-clause-there
hold_reach-requires-clause-there c =
    let old : Inside = record { objects = c.self.inside.objects; flights = c.self.inside.flights; worlds = c.self.inside.worlds; history = c.self.inside.journal.items; room = c.self.inside.journal.room; builds = c.self.inside.builds } in
    let actor = c.args.actor in
    let f = c.args.frame in
    let p = c.self.invariant in
    let legal : Legal (old.history ++ render_of actor f ∷ []) = subst (λ (i : Inside). Legal (i.history ++ render_of actor f ∷ [])) (sym c.self.view_is) c.requires.legal in
    let place : c.entries-place.result + 1 ≡ length old.history + 1 = ap (λ n. n + 1) (c.entries-place.ensures.count ∙ ap (λ (i : Inside). length i.history) (sym c.self.view_is)) in
    let load : Load = record { reach = c.in_ok-reach.field-0.reach; scene = Some c.in_ok-reach.field-0.scene } in
    let t = c.in_ok-takeoff.takeoff in
    let counted_old : CountsItsObjects old.objects.stored = subst CountsItsObjects c.store-store.ensures c.counts_its_objects.ensures in
    let takes : IsTakeoff (scene_objects old.objects.stored.state) (length old.history + 1) f load t =
    subst (λ n. IsTakeoff (scene_objects old.objects.stored.state) n f load t) place (subst (λ (s : Stored). IsTakeoff (scene_objects s.state) (c.entries-place.result + 1) f load t) c.store-store.ensures c.in_ok-takeoff.ensures) in
    let once : HasEachOnce (visited (walk (scene_objects old.objects.stored.state) f)) load.reach.items =
    subst (λ (s : Stored). HasEachOnce (visited (walk (scene_objects s.state) f)) load.reach.items) c.store-store.ensures c.in_ok-reach.ensures.reach in
    let shown : scene_prepared c.in_ok-reach.field-0.scene ≡ scene (scene_objects old.objects.stored.state) f = c.in_ok-reach.ensures.scene ∙ ap (λ (s : Stored). scene (scene_objects s.state) f) c.store-store.ensures in
    let shows : scene_of_load load ≡ Some (scene (scene_objects old.objects.stored.state) f) = ap Some shown in
    let within : IsSceneWithin (scene (scene_objects old.objects.stored.state) f) = subst IsSceneWithin shown c.in_ok-reach.ensures.within in
    let cargo : c.begin_kept.new.flights.cargo ≡ old.flights.cargo ++ t.cargo ∷ [] = ap (λ (b : Books Load). b.cargo) c.in_ok-begin_kept.ensures.begun in
    let few : All (λ h. number_at old.objects.stored.holds h + length load.reach.items ≤ 2 ^ 40) load.reach.items =
    subst (λ (s : Stored). All (λ h. number_at s.holds h + length load.reach.items ≤ 2 ^ 40) load.reach.items) c.store-store.ensures
    (subst (λ reach. All (λ h. number_at c.store-store.result.now.holds h + length reach ≤ 2 ^ 40) reach) c.as_slice.ensures.value (c.can_be_held.ensures c.if-not-can_be_held.false)) in
    let held = reach_held old actor f p legal counted_old load t takes once shows within (c.entries-place.result + 1) c.begin_kept.new.flights.cargo c.show.new.self place cargo c.show.ensures few in
    held.1

pub hold_reach-requires-clause-few : goal.hold_reach-requires-clause-few
hold_reach-requires-clause-few c =
    let old : Inside = record { objects = c.self.inside.objects; flights = c.self.inside.flights; worlds = c.self.inside.worlds; history = c.self.inside.journal.items; room = c.self.inside.journal.room; builds = c.self.inside.builds } in
    let actor = c.args.actor in
    let f = c.args.frame in
    let p = c.self.invariant in
    let legal : Legal (old.history ++ render_of actor f ∷ []) = subst (λ (i : Inside). Legal (i.history ++ render_of actor f ∷ [])) (sym c.self.view_is) c.requires.legal in
    let place : c.entries-place.result + 1 ≡ length old.history + 1 = ap (λ n. n + 1) (c.entries-place.ensures.count ∙ ap (λ (i : Inside). length i.history) (sym c.self.view_is)) in
    let load : Load = record { reach = c.in_ok-reach.field-0.reach; scene = Some c.in_ok-reach.field-0.scene } in
    let t = c.in_ok-takeoff.takeoff in
    let counted_old : CountsItsObjects old.objects.stored = subst CountsItsObjects c.store-store.ensures c.counts_its_objects.ensures in
    let takes : IsTakeoff (scene_objects old.objects.stored.state) (length old.history + 1) f load t =
    subst (λ n. IsTakeoff (scene_objects old.objects.stored.state) n f load t) place (subst (λ (s : Stored). IsTakeoff (scene_objects s.state) (c.entries-place.result + 1) f load t) c.store-store.ensures c.in_ok-takeoff.ensures) in
    let once : HasEachOnce (visited (walk (scene_objects old.objects.stored.state) f)) load.reach.items =
    subst (λ (s : Stored). HasEachOnce (visited (walk (scene_objects s.state) f)) load.reach.items) c.store-store.ensures c.in_ok-reach.ensures.reach in
    let shown : scene_prepared c.in_ok-reach.field-0.scene ≡ scene (scene_objects old.objects.stored.state) f = c.in_ok-reach.ensures.scene ∙ ap (λ (s : Stored). scene (scene_objects s.state) f) c.store-store.ensures in
    let shows : scene_of_load load ≡ Some (scene (scene_objects old.objects.stored.state) f) = ap Some shown in
    let within : IsSceneWithin (scene (scene_objects old.objects.stored.state) f) = subst IsSceneWithin shown c.in_ok-reach.ensures.within in
    let cargo : c.begin_kept.new.flights.cargo ≡ old.flights.cargo ++ t.cargo ∷ [] = ap (λ (b : Books Load). b.cargo) c.in_ok-begin_kept.ensures.begun in
    let few : All (λ h. number_at old.objects.stored.holds h + length load.reach.items ≤ 2 ^ 40) load.reach.items =
    subst (λ (s : Stored). All (λ h. number_at s.holds h + length load.reach.items ≤ 2 ^ 40) load.reach.items) c.store-store.ensures
    (subst (λ reach. All (λ h. number_at c.store-store.result.now.holds h + length reach ≤ 2 ^ 40) reach) c.as_slice.ensures.value (c.can_be_held.ensures c.if-not-can_be_held.false)) in
    let held = reach_held old actor f p legal counted_old load t takes once shows within (c.entries-place.result + 1) c.begin_kept.new.flights.cargo c.show.new.self place cargo c.show.ensures few in
    held.2

pub overflow_add-self : goal.overflow_add-self
overflow_add-self c =
    let most = builds_within c.self.inside.journal.items in
    let counted = c.self.invariant.built in
    let fits = c.entries-place.ensures.fits in
    let count : c.entries-place.result ≡ length c.self.inside.journal.items = c.entries-place.ensures.count ∙ ap (λ (i : Inside). length i.history) (sym c.self.view_is) in
    let one : c.from.result ≤ 1 = subst (λ n. n ≤ 1) (sym c.from.ensures) (at_most_one c.is_some-built.result) in
    omega (arith, most, counted, fits, count, one)

pub bury-requires-clause-ranked : goal.bury-requires-clause-ranked
bury-requires-clause-ranked c =
    let old : Inside = record { objects = c.self.inside.objects; flights = c.self.inside.flights; worlds = c.self.inside.worlds; history = c.self.inside.journal.items; room = c.self.inside.journal.room; builds = c.self.inside.builds } in
    let actor = c.args.actor in
    let f = c.args.frame in
    let p = c.self.invariant in
    let legal : Legal (old.history ++ render_of actor f ∷ []) = subst (λ (i : Inside). Legal (i.history ++ render_of actor f ∷ [])) (sym c.self.view_is) c.requires.legal in
    let place : c.entries-place.result + 1 ≡ length old.history + 1 = ap (λ n. n + 1) (c.entries-place.ensures.count ∙ ap (λ (i : Inside). length i.history) (sym c.self.view_is)) in
    let load : Load = record { reach = c.in_ok-reach.field-0.reach; scene = Some c.in_ok-reach.field-0.scene } in
    let t = c.in_ok-takeoff.takeoff in
    let counted_old : CountsItsObjects old.objects.stored = subst CountsItsObjects c.store-store.ensures c.counts_its_objects.ensures in
    let takes : IsTakeoff (scene_objects old.objects.stored.state) (length old.history + 1) f load t =
    subst (λ n. IsTakeoff (scene_objects old.objects.stored.state) n f load t) place (subst (λ (s : Stored). IsTakeoff (scene_objects s.state) (c.entries-place.result + 1) f load t) c.store-store.ensures c.in_ok-takeoff.ensures) in
    let once : HasEachOnce (visited (walk (scene_objects old.objects.stored.state) f)) load.reach.items =
    subst (λ (s : Stored). HasEachOnce (visited (walk (scene_objects s.state) f)) load.reach.items) c.store-store.ensures c.in_ok-reach.ensures.reach in
    let shown : scene_prepared c.in_ok-reach.field-0.scene ≡ scene (scene_objects old.objects.stored.state) f = c.in_ok-reach.ensures.scene ∙ ap (λ (s : Stored). scene (scene_objects s.state) f) c.store-store.ensures in
    let shows : scene_of_load load ≡ Some (scene (scene_objects old.objects.stored.state) f) = ap Some shown in
    let within : IsSceneWithin (scene (scene_objects old.objects.stored.state) f) = subst IsSceneWithin shown c.in_ok-reach.ensures.within in
    let cargo : c.begin_kept.new.flights.cargo ≡ old.flights.cargo ++ t.cargo ∷ [] = ap (λ (b : Books Load). b.cargo) c.in_ok-begin_kept.ensures.begun in
    let holds : c.hold_reach.new.objects ≡ record old.objects { stored = moved_now old actor f p legal counted_old load t takes once shows within } =
    held_now old actor f p legal counted_old load t takes once shows within (c.entries-place.result + 1) c.begin_kept.new.flights.cargo c.show.new.self c.hold_reach.new.objects place cargo c.show.ensures c.hold_reach.ensures in
    let moves : c.hold_reach.new.objects.stored ≡ moved_now old actor f p legal counted_old load t takes once shows within = ap (λ (o : Objects). o.stored) holds in
    subst (λ (s : Stored). IsRanked s.state.objects) (sym moves) (ranked old.history (render_of actor f) (moved_now old actor f p legal counted_old load t takes once shows within) (follows_now old actor f p legal counted_old load t takes once shows within))

pub bury-requires-clause-none : goal.bury-requires-clause-none
bury-requires-clause-none c =
    let old : Inside = record { objects = c.self.inside.objects; flights = c.self.inside.flights; worlds = c.self.inside.worlds; history = c.self.inside.journal.items; room = c.self.inside.journal.room; builds = c.self.inside.builds } in
    let actor = c.args.actor in
    let f = c.args.frame in
    let p = c.self.invariant in
    let legal : Legal (old.history ++ render_of actor f ∷ []) = subst (λ (i : Inside). Legal (i.history ++ render_of actor f ∷ [])) (sym c.self.view_is) c.requires.legal in
    let place : c.entries-place.result + 1 ≡ length old.history + 1 = ap (λ n. n + 1) (c.entries-place.ensures.count ∙ ap (λ (i : Inside). length i.history) (sym c.self.view_is)) in
    let load : Load = record { reach = c.in_ok-reach.field-0.reach; scene = Some c.in_ok-reach.field-0.scene } in
    let t = c.in_ok-takeoff.takeoff in
    let counted_old : CountsItsObjects old.objects.stored = subst CountsItsObjects c.store-store.ensures c.counts_its_objects.ensures in
    let takes : IsTakeoff (scene_objects old.objects.stored.state) (length old.history + 1) f load t =
    subst (λ n. IsTakeoff (scene_objects old.objects.stored.state) n f load t) place (subst (λ (s : Stored). IsTakeoff (scene_objects s.state) (c.entries-place.result + 1) f load t) c.store-store.ensures c.in_ok-takeoff.ensures) in
    let once : HasEachOnce (visited (walk (scene_objects old.objects.stored.state) f)) load.reach.items =
    subst (λ (s : Stored). HasEachOnce (visited (walk (scene_objects s.state) f)) load.reach.items) c.store-store.ensures c.in_ok-reach.ensures.reach in
    let shown : scene_prepared c.in_ok-reach.field-0.scene ≡ scene (scene_objects old.objects.stored.state) f = c.in_ok-reach.ensures.scene ∙ ap (λ (s : Stored). scene (scene_objects s.state) f) c.store-store.ensures in
    let shows : scene_of_load load ≡ Some (scene (scene_objects old.objects.stored.state) f) = ap Some shown in
    let within : IsSceneWithin (scene (scene_objects old.objects.stored.state) f) = subst IsSceneWithin shown c.in_ok-reach.ensures.within in
    let cargo : c.begin_kept.new.flights.cargo ≡ old.flights.cargo ++ t.cargo ∷ [] = ap (λ (b : Books Load). b.cargo) c.in_ok-begin_kept.ensures.begun in
    let holds : c.hold_reach.new.objects ≡ record old.objects { stored = moved_now old actor f p legal counted_old load t takes once shows within } =
    held_now old actor f p legal counted_old load t takes once shows within (c.entries-place.result + 1) c.begin_kept.new.flights.cargo c.show.new.self c.hold_reach.new.objects place cargo c.show.ensures c.hold_reach.ensures in
    let moves : c.hold_reach.new.objects.stored ≡ moved_now old actor f p legal counted_old load t takes once shows within = ap (λ (o : Objects). o.stored) holds in
    ap (λ (o : Objects). o.dead) holds ∙ ap (λ (i : Inside). i.objects.dead) c.self.view_is ∙ c.requires.all_told

pub invariant_of-self-2 : goal.invariant_of-self-2
invariant_of-self-2 c =
    let old : Inside = record { objects = c.self.inside.objects; flights = c.self.inside.flights; worlds = c.self.inside.worlds; history = c.self.inside.journal.items; room = c.self.inside.journal.room; builds = c.self.inside.builds } in
    let actor = c.args.actor in
    let f = c.args.frame in
    let p = c.self.invariant in
    let legal : Legal (old.history ++ render_of actor f ∷ []) = subst (λ (i : Inside). Legal (i.history ++ render_of actor f ∷ [])) (sym c.self.view_is) c.requires.legal in
    let place : c.entries-place.result + 1 ≡ length old.history + 1 = ap (λ n. n + 1) (c.entries-place.ensures.count ∙ ap (λ (i : Inside). length i.history) (sym c.self.view_is)) in
    let stands : IsStanding old = subst IsStanding (sym c.self.view_is) c.requires.stands in
    let load : Load = record { reach = c.in_ok-reach.field-0.reach; scene = Some c.in_ok-reach.field-0.scene } in
    let t = c.in_ok-takeoff.takeoff in
    let counted_old : CountsItsObjects old.objects.stored = subst CountsItsObjects c.store-store.ensures c.counts_its_objects.ensures in
    let takes : IsTakeoff (scene_objects old.objects.stored.state) (length old.history + 1) f load t =
    subst (λ n. IsTakeoff (scene_objects old.objects.stored.state) n f load t) place (subst (λ (s : Stored). IsTakeoff (scene_objects s.state) (c.entries-place.result + 1) f load t) c.store-store.ensures c.in_ok-takeoff.ensures) in
    let once : HasEachOnce (visited (walk (scene_objects old.objects.stored.state) f)) load.reach.items =
    subst (λ (s : Stored). HasEachOnce (visited (walk (scene_objects s.state) f)) load.reach.items) c.store-store.ensures c.in_ok-reach.ensures.reach in
    let shown : scene_prepared c.in_ok-reach.field-0.scene ≡ scene (scene_objects old.objects.stored.state) f = c.in_ok-reach.ensures.scene ∙ ap (λ (s : Stored). scene (scene_objects s.state) f) c.store-store.ensures in
    let shows : scene_of_load load ≡ Some (scene (scene_objects old.objects.stored.state) f) = ap Some shown in
    let within : IsSceneWithin (scene (scene_objects old.objects.stored.state) f) = subst IsSceneWithin shown c.in_ok-reach.ensures.within in
    let cargo : c.begin_kept.new.flights.cargo ≡ old.flights.cargo ++ t.cargo ∷ [] = ap (λ (b : Books Load). b.cargo) c.in_ok-begin_kept.ensures.begun in
    let holds : c.hold_reach.new.objects ≡ record old.objects { stored = moved_now old actor f p legal counted_old load t takes once shows within } =
    held_now old actor f p legal counted_old load t takes once shows within (c.entries-place.result + 1) c.begin_kept.new.flights.cargo c.show.new.self c.hold_reach.new.objects place cargo c.show.ensures c.hold_reach.ensures in
    let moves : c.hold_reach.new.objects.stored ≡ moved_now old actor f p legal counted_old load t takes once shows within = ap (λ (o : Objects). o.stored) holds in
    let wanted : IsWanted (scene_objects old.objects.stored.state) old.worlds f c.in_ok-reach.field-0.build = subst (λ (s : Stored). IsWanted (scene_objects s.state) old.worlds f c.in_ok-reach.field-0.build) c.store-store.ensures c.in_ok-reach.ensures.build in
    let wanted_after : IsWanted (scene_objects (after old.history).state) old.worlds f c.in_ok-reach.field-0.build = subst (λ (s : State). IsWanted (scene_objects s) old.worlds f c.in_ok-reach.field-0.build) p.rest.state wanted in
    let exactly : c.is_some-built.result ≡ wants_build (scene_objects old.objects.stored.state) old.worlds f = c.is_some-built.ensures ∙ wanted.exactly in
    let counts : old.builds + c.from.result ≡ old.builds + cond c.is_some-built.result 1 0 = ap (λ n. old.builds + n) (c.from.ensures ∙ as_number c.is_some-built.result) in
    let begun = c.in_ok-begin_kept.ensures.begun in
    let flown = λ (is : c.bury.new.flights ≡ with_future c.begin_kept.new.flights (without_pictures c.begin_kept.new.flights.future c.bury.new.objects.departed)).
    is ∙ ap (λ (b : Books Load). with_future b (without_pictures b.future c.bury.new.objects.departed)) begun in
    rendered_parts old actor f p legal counted_old load t takes once shows within
    (record { objects = c.bury.new.objects; flights = c.bury.new.flights; worlds = c.bury.new.worlds; history = c.push_reserved.new.self.items; room = c.push_reserved.new.self.room; builds = c.self.inside.builds + c.from.result }) c.begin_kept.new.worlds c.is_some-built.result
    (subst CountsItsObjects (c.store.ensures ∙ moves) c.counts_its_objects-2.ensures)
    (subst CountsItsObjects c.store-2.ensures c.counts_its_objects-3.ensures)
    (subst (λ s. IsLeft s c.bury.new.objects.stored) moves c.bury.ensures.left)
    (c.bury.ensures.state ∙ ap buried moves)
    (c.bury.ensures.departed ∙ ap (λ (s : Stored). keys_of (gone s.state c.bury.new.objects.stored.state)) moves)
    c.push_reserved.ensures.items (flown c.bury.ensures.flights)
    (c.in_ok-begin_kept.ensures.known old.history actor f p.rest.legal wanted_after p.kept)
    (c.in_ok-begin_kept.ensures.shown old.history f wanted_after p.shown)
    c.bury.ensures.forgotten c.bury.ensures.known counts exactly c.push_reserved.ensures.room
    stands (subst (λ (i : Inside). length i.history + length i.flights.future.flights + 2 < i.room) (sym c.self.view_is) c.requires.places)
    (subst (λ (i : Inside). length i.flights.future.flights + 1 < i.objects.stored.places) (sym c.self.view_is) c.requires.stop_place)

pub returns-clause-entered : goal.returns-clause-entered
returns-clause-entered c =
    let old : Inside = record { objects = c.self.inside.objects; flights = c.self.inside.flights; worlds = c.self.inside.worlds; history = c.self.inside.journal.items; room = c.self.inside.journal.room; builds = c.self.inside.builds } in
    let actor = c.args.actor in
    let f = c.args.frame in
    let p = c.self.invariant in
    let legal : Legal (old.history ++ render_of actor f ∷ []) = subst (λ (i : Inside). Legal (i.history ++ render_of actor f ∷ [])) (sym c.self.view_is) c.requires.legal in
    let place : c.entries-place.result + 1 ≡ length old.history + 1 = ap (λ n. n + 1) (c.entries-place.ensures.count ∙ ap (λ (i : Inside). length i.history) (sym c.self.view_is)) in
    let load : Load = record { reach = c.in_ok-reach.field-0.reach; scene = Some c.in_ok-reach.field-0.scene } in
    let t = c.in_ok-takeoff.takeoff in
    let counted_old : CountsItsObjects old.objects.stored = subst CountsItsObjects c.store-store.ensures c.counts_its_objects.ensures in
    let takes : IsTakeoff (scene_objects old.objects.stored.state) (length old.history + 1) f load t =
    subst (λ n. IsTakeoff (scene_objects old.objects.stored.state) n f load t) place (subst (λ (s : Stored). IsTakeoff (scene_objects s.state) (c.entries-place.result + 1) f load t) c.store-store.ensures c.in_ok-takeoff.ensures) in
    let once : HasEachOnce (visited (walk (scene_objects old.objects.stored.state) f)) load.reach.items =
    subst (λ (s : Stored). HasEachOnce (visited (walk (scene_objects s.state) f)) load.reach.items) c.store-store.ensures c.in_ok-reach.ensures.reach in
    let shown : scene_prepared c.in_ok-reach.field-0.scene ≡ scene (scene_objects old.objects.stored.state) f = c.in_ok-reach.ensures.scene ∙ ap (λ (s : Stored). scene (scene_objects s.state) f) c.store-store.ensures in
    let shows : scene_of_load load ≡ Some (scene (scene_objects old.objects.stored.state) f) = ap Some shown in
    let within : IsSceneWithin (scene (scene_objects old.objects.stored.state) f) = subst IsSceneWithin shown c.in_ok-reach.ensures.within in
    let cargo : c.begin_kept.new.flights.cargo ≡ old.flights.cargo ++ t.cargo ∷ [] = ap (λ (b : Books Load). b.cargo) c.in_ok-begin_kept.ensures.begun in
    let holds : c.hold_reach.new.objects ≡ record old.objects { stored = moved_now old actor f p legal counted_old load t takes once shows within } =
    held_now old actor f p legal counted_old load t takes once shows within (c.entries-place.result + 1) c.begin_kept.new.flights.cargo c.show.new.self c.hold_reach.new.objects place cargo c.show.ensures c.hold_reach.ensures in
    let moves : c.hold_reach.new.objects.stored ≡ moved_now old actor f p legal counted_old load t takes once shows within = ap (λ (o : Objects). o.stored) holds in
    let wanted : IsWanted (scene_objects old.objects.stored.state) old.worlds f c.in_ok-reach.field-0.build = subst (λ (s : Stored). IsWanted (scene_objects s.state) old.worlds f c.in_ok-reach.field-0.build) c.store-store.ensures c.in_ok-reach.ensures.build in
    let wanted_after : IsWanted (scene_objects (after old.history).state) old.worlds f c.in_ok-reach.field-0.build = subst (λ (s : State). IsWanted (scene_objects s) old.worlds f c.in_ok-reach.field-0.build) p.rest.state wanted in
    let exactly : c.is_some-built.result ≡ wants_build (scene_objects old.objects.stored.state) old.worlds f = c.is_some-built.ensures ∙ wanted.exactly in
    let counts : old.builds + c.from.result ≡ old.builds + cond c.is_some-built.result 1 0 = ap (λ n. old.builds + n) (c.from.ensures ∙ as_number c.is_some-built.result) in
    let begun = c.in_ok-begin_kept.ensures.begun in
    let flown = λ (is : c.bury.new.flights ≡ with_future c.begin_kept.new.flights (without_pictures c.begin_kept.new.flights.future c.bury.new.objects.departed)).
    is ∙ ap (λ (b : Books Load). with_future b (without_pictures b.future c.bury.new.objects.departed)) begun in
    subst (λ (before : Inside). HasEntered actor (RenderFrame f) reply.Done before (record { objects = c.bury.new.objects; flights = c.bury.new.flights; worlds = c.bury.new.worlds; history = c.push_reserved.new.self.items; room = c.push_reserved.new.self.room; builds = c.self.inside.builds + c.from.result })) c.self.view_is
    (rendered_enters old actor f p legal counted_old load t takes once shows within
    (record { objects = c.bury.new.objects; flights = c.bury.new.flights; worlds = c.bury.new.worlds; history = c.push_reserved.new.self.items; room = c.push_reserved.new.self.room; builds = c.self.inside.builds + c.from.result }) c.begin_kept.new.worlds c.is_some-built.result
    (subst CountsItsObjects (c.store.ensures ∙ moves) c.counts_its_objects-2.ensures)
    (subst CountsItsObjects c.store-2.ensures c.counts_its_objects-3.ensures)
    (subst (λ s. IsLeft s c.bury.new.objects.stored) moves c.bury.ensures.left)
    (c.bury.ensures.state ∙ ap buried moves)
    (c.bury.ensures.departed ∙ ap (λ (s : Stored). keys_of (gone s.state c.bury.new.objects.stored.state)) moves)
    c.push_reserved.ensures.items (flown c.bury.ensures.flights)
    (c.in_ok-begin_kept.ensures.known old.history actor f p.rest.legal wanted_after p.kept)
    (c.in_ok-begin_kept.ensures.shown old.history f wanted_after p.shown)
    c.bury.ensures.forgotten c.bury.ensures.known counts exactly c.push_reserved.ensures.room
    (c.bury.ensures.notices ∙ ap (λ (s : Stored). filter_map end_of_object (gone s.state c.bury.new.objects.stored.state)) moves))

pub returns-clause-begun : goal.returns-clause-begun
returns-clause-begun c =
    let old : Inside = record { objects = c.self.inside.objects; flights = c.self.inside.flights; worlds = c.self.inside.worlds; history = c.self.inside.journal.items; room = c.self.inside.journal.room; builds = c.self.inside.builds } in
    let actor = c.args.actor in
    let f = c.args.frame in
    let p = c.self.invariant in
    let legal : Legal (old.history ++ render_of actor f ∷ []) = subst (λ (i : Inside). Legal (i.history ++ render_of actor f ∷ [])) (sym c.self.view_is) c.requires.legal in
    let place : c.entries-place.result + 1 ≡ length old.history + 1 = ap (λ n. n + 1) (c.entries-place.ensures.count ∙ ap (λ (i : Inside). length i.history) (sym c.self.view_is)) in
    let load : Load = record { reach = c.in_ok-reach.field-0.reach; scene = Some c.in_ok-reach.field-0.scene } in
    let t = c.in_ok-takeoff.takeoff in
    let counted_old : CountsItsObjects old.objects.stored = subst CountsItsObjects c.store-store.ensures c.counts_its_objects.ensures in
    let takes : IsTakeoff (scene_objects old.objects.stored.state) (length old.history + 1) f load t =
    subst (λ n. IsTakeoff (scene_objects old.objects.stored.state) n f load t) place (subst (λ (s : Stored). IsTakeoff (scene_objects s.state) (c.entries-place.result + 1) f load t) c.store-store.ensures c.in_ok-takeoff.ensures) in
    let once : HasEachOnce (visited (walk (scene_objects old.objects.stored.state) f)) load.reach.items =
    subst (λ (s : Stored). HasEachOnce (visited (walk (scene_objects s.state) f)) load.reach.items) c.store-store.ensures c.in_ok-reach.ensures.reach in
    let shown : scene_prepared c.in_ok-reach.field-0.scene ≡ scene (scene_objects old.objects.stored.state) f = c.in_ok-reach.ensures.scene ∙ ap (λ (s : Stored). scene (scene_objects s.state) f) c.store-store.ensures in
    let shows : scene_of_load load ≡ Some (scene (scene_objects old.objects.stored.state) f) = ap Some shown in
    let within : IsSceneWithin (scene (scene_objects old.objects.stored.state) f) = subst IsSceneWithin shown c.in_ok-reach.ensures.within in
    let cargo : c.begin_kept.new.flights.cargo ≡ old.flights.cargo ++ t.cargo ∷ [] = ap (λ (b : Books Load). b.cargo) c.in_ok-begin_kept.ensures.begun in
    let holds : c.hold_reach.new.objects ≡ record old.objects { stored = moved_now old actor f p legal counted_old load t takes once shows within } =
    held_now old actor f p legal counted_old load t takes once shows within (c.entries-place.result + 1) c.begin_kept.new.flights.cargo c.show.new.self c.hold_reach.new.objects place cargo c.show.ensures c.hold_reach.ensures in
    let moves : c.hold_reach.new.objects.stored ≡ moved_now old actor f p legal counted_old load t takes once shows within = ap (λ (o : Objects). o.stored) holds in
    let wanted : IsWanted (scene_objects old.objects.stored.state) old.worlds f c.in_ok-reach.field-0.build = subst (λ (s : Stored). IsWanted (scene_objects s.state) old.worlds f c.in_ok-reach.field-0.build) c.store-store.ensures c.in_ok-reach.ensures.build in
    let wanted_after : IsWanted (scene_objects (after old.history).state) old.worlds f c.in_ok-reach.field-0.build = subst (λ (s : State). IsWanted (scene_objects s) old.worlds f c.in_ok-reach.field-0.build) p.rest.state wanted in
    let exactly : c.is_some-built.result ≡ wants_build (scene_objects old.objects.stored.state) old.worlds f = c.is_some-built.ensures ∙ wanted.exactly in
    let counts : old.builds + c.from.result ≡ old.builds + cond c.is_some-built.result 1 0 = ap (λ n. old.builds + n) (c.from.ensures ∙ as_number c.is_some-built.result) in
    let begun = c.in_ok-begin_kept.ensures.begun in
    let flown = λ (is : c.bury.new.flights ≡ with_future c.begin_kept.new.flights (without_pictures c.begin_kept.new.flights.future c.bury.new.objects.departed)).
    is ∙ ap (λ (b : Books Load). with_future b (without_pictures b.future c.bury.new.objects.departed)) begun in
    subst (λ (before : Inside). HasBegun f before (record { objects = c.bury.new.objects; flights = c.bury.new.flights; worlds = c.bury.new.worlds; history = c.push_reserved.new.self.items; room = c.push_reserved.new.self.room; builds = c.self.inside.builds + c.from.result })) c.self.view_is
    (rendered_begins old actor f p legal counted_old load t takes once shows within
    (record { objects = c.bury.new.objects; flights = c.bury.new.flights; worlds = c.bury.new.worlds; history = c.push_reserved.new.self.items; room = c.push_reserved.new.self.room; builds = c.self.inside.builds + c.from.result }) c.begin_kept.new.worlds c.is_some-built.result
    (subst CountsItsObjects (c.store.ensures ∙ moves) c.counts_its_objects-2.ensures)
    (subst CountsItsObjects c.store-2.ensures c.counts_its_objects-3.ensures)
    (subst (λ s. IsLeft s c.bury.new.objects.stored) moves c.bury.ensures.left)
    (c.bury.ensures.state ∙ ap buried moves)
    (c.bury.ensures.departed ∙ ap (λ (s : Stored). keys_of (gone s.state c.bury.new.objects.stored.state)) moves)
    c.push_reserved.ensures.items (flown c.bury.ensures.flights)
    (c.in_ok-begin_kept.ensures.known old.history actor f p.rest.legal wanted_after p.kept)
    (c.in_ok-begin_kept.ensures.shown old.history f wanted_after p.shown)
    c.bury.ensures.forgotten c.bury.ensures.known counts exactly c.push_reserved.ensures.room)

pub returns-clause-stands : goal.returns-clause-stands
returns-clause-stands c =
    let old : Inside = record { objects = c.self.inside.objects; flights = c.self.inside.flights; worlds = c.self.inside.worlds; history = c.self.inside.journal.items; room = c.self.inside.journal.room; builds = c.self.inside.builds } in
    let actor = c.args.actor in
    let f = c.args.frame in
    let p = c.self.invariant in
    let legal : Legal (old.history ++ render_of actor f ∷ []) = subst (λ (i : Inside). Legal (i.history ++ render_of actor f ∷ [])) (sym c.self.view_is) c.requires.legal in
    let place : c.entries-place.result + 1 ≡ length old.history + 1 = ap (λ n. n + 1) (c.entries-place.ensures.count ∙ ap (λ (i : Inside). length i.history) (sym c.self.view_is)) in
    let stands : IsStanding old = subst IsStanding (sym c.self.view_is) c.requires.stands in
    let load : Load = record { reach = c.in_ok-reach.field-0.reach; scene = Some c.in_ok-reach.field-0.scene } in
    let t = c.in_ok-takeoff.takeoff in
    let counted_old : CountsItsObjects old.objects.stored = subst CountsItsObjects c.store-store.ensures c.counts_its_objects.ensures in
    let takes : IsTakeoff (scene_objects old.objects.stored.state) (length old.history + 1) f load t =
    subst (λ n. IsTakeoff (scene_objects old.objects.stored.state) n f load t) place (subst (λ (s : Stored). IsTakeoff (scene_objects s.state) (c.entries-place.result + 1) f load t) c.store-store.ensures c.in_ok-takeoff.ensures) in
    let once : HasEachOnce (visited (walk (scene_objects old.objects.stored.state) f)) load.reach.items =
    subst (λ (s : Stored). HasEachOnce (visited (walk (scene_objects s.state) f)) load.reach.items) c.store-store.ensures c.in_ok-reach.ensures.reach in
    let shown : scene_prepared c.in_ok-reach.field-0.scene ≡ scene (scene_objects old.objects.stored.state) f = c.in_ok-reach.ensures.scene ∙ ap (λ (s : Stored). scene (scene_objects s.state) f) c.store-store.ensures in
    let shows : scene_of_load load ≡ Some (scene (scene_objects old.objects.stored.state) f) = ap Some shown in
    let within : IsSceneWithin (scene (scene_objects old.objects.stored.state) f) = subst IsSceneWithin shown c.in_ok-reach.ensures.within in
    let cargo : c.begin_kept.new.flights.cargo ≡ old.flights.cargo ++ t.cargo ∷ [] = ap (λ (b : Books Load). b.cargo) c.in_ok-begin_kept.ensures.begun in
    let holds : c.hold_reach.new.objects ≡ record old.objects { stored = moved_now old actor f p legal counted_old load t takes once shows within } =
    held_now old actor f p legal counted_old load t takes once shows within (c.entries-place.result + 1) c.begin_kept.new.flights.cargo c.show.new.self c.hold_reach.new.objects place cargo c.show.ensures c.hold_reach.ensures in
    let moves : c.hold_reach.new.objects.stored ≡ moved_now old actor f p legal counted_old load t takes once shows within = ap (λ (o : Objects). o.stored) holds in
    let wanted : IsWanted (scene_objects old.objects.stored.state) old.worlds f c.in_ok-reach.field-0.build = subst (λ (s : Stored). IsWanted (scene_objects s.state) old.worlds f c.in_ok-reach.field-0.build) c.store-store.ensures c.in_ok-reach.ensures.build in
    let wanted_after : IsWanted (scene_objects (after old.history).state) old.worlds f c.in_ok-reach.field-0.build = subst (λ (s : State). IsWanted (scene_objects s) old.worlds f c.in_ok-reach.field-0.build) p.rest.state wanted in
    let exactly : c.is_some-built.result ≡ wants_build (scene_objects old.objects.stored.state) old.worlds f = c.is_some-built.ensures ∙ wanted.exactly in
    let counts : old.builds + c.from.result ≡ old.builds + cond c.is_some-built.result 1 0 = ap (λ n. old.builds + n) (c.from.ensures ∙ as_number c.is_some-built.result) in
    let begun = c.in_ok-begin_kept.ensures.begun in
    let flown = λ (is : c.bury.new.flights ≡ with_future c.begin_kept.new.flights (without_pictures c.begin_kept.new.flights.future c.bury.new.objects.departed)).
    is ∙ ap (λ (b : Books Load). with_future b (without_pictures b.future c.bury.new.objects.departed)) begun in
    rendered_stands old actor f p legal counted_old load t takes once shows within
    (record { objects = c.bury.new.objects; flights = c.bury.new.flights; worlds = c.bury.new.worlds; history = c.push_reserved.new.self.items; room = c.push_reserved.new.self.room; builds = c.self.inside.builds + c.from.result }) c.begin_kept.new.worlds c.is_some-built.result
    (subst CountsItsObjects (c.store.ensures ∙ moves) c.counts_its_objects-2.ensures)
    (subst CountsItsObjects c.store-2.ensures c.counts_its_objects-3.ensures)
    (subst (λ s. IsLeft s c.bury.new.objects.stored) moves c.bury.ensures.left)
    (c.bury.ensures.state ∙ ap buried moves)
    (c.bury.ensures.departed ∙ ap (λ (s : Stored). keys_of (gone s.state c.bury.new.objects.stored.state)) moves)
    c.push_reserved.ensures.items (flown c.bury.ensures.flights)
    (c.in_ok-begin_kept.ensures.known old.history actor f p.rest.legal wanted_after p.kept)
    (c.in_ok-begin_kept.ensures.shown old.history f wanted_after p.shown)
    c.bury.ensures.forgotten c.bury.ensures.known counts exactly c.push_reserved.ensures.room
    stands

pub returns-clause-home : goal.returns-clause-home
returns-clause-home c = λ home.
    let t = c.in_ok-takeoff.takeoff in
    let flight : Flying = begun t.cargo.ticket t.cargo.frame t.channels t.claims t.seat in
    let flights : c.bury.new.flights.future.flights ≡ c.self.inside.flights.future.flights ++ flight ∷ [] =
    ap (λ (b : Books Load). b.future.flights) c.bury.ensures.flights ∙ (fewer_kept c.begin_kept.new.flights.future c.bury.new.objects.departed).0 ∙ ap (λ (b : Books Load). b.future.flights) c.in_ok-begin_kept.ensures.begun in
    let before : (k : ℕ) (d : Flying) → k < length c.self.inside.flights.future.flights → (slice_index_or c.self.inside.flights.future.flights k d).home ≡ true =
    subst (λ (i : Inside). (k : ℕ) (d : Flying) → k < length i.flights.future.flights → (slice_index_or i.flights.future.flights k d).home ≡ true) (sym c.self.view_is) home in
    subst (λ fs. (k : ℕ) (d : Flying) → k < length fs → (slice_index_or fs k d).home ≡ true) (sym flights) (home_more c.self.inside.flights.future.flights flight refl before)
