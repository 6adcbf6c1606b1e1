-- What always holds of the parts of a device holds once a channel of a frame is mapped.
use Rattle.std.proofs.Math.Nat.{le_refl}
use Rattle.std.proofs.Common.{◌≡◌, ◌∙◌, ℕ, ◌+◌, ◌<◌, ◌≤◌, Bool, List, [], ◌∷◌, ◌++◌, Option, None, Some, length, refl, sym, ap, subst, arith}
use Rattle.std.specs.Prelude.{Err, IfOk, Ok, Result}
use Rattle.std.specs.List.{filter_map}
use Rattle.std.specs.Map.{keys_of}
use Rattle.std.specs.Option.{IsSome, MatchOption, option_map, option_map_or, option_or}
use Rattle.dev_types.specs.declared.handles.Channel.{Channel}
use Rattle.flight_books.specs.Kept.{Books, with_future}
use Rattle.frame_future.specs.Future.{Finished, IsKept, is_picture_of, lent_as, loan_from, phase_by, refusal_of_map, shown_by, with_picture}
use Rattle.frame_future.specs.Mapped.{Mapped}
use Rattle.frame_future.specs.Pixels.{picture_of}
use Rattle.fx_math.specs.declared.scene.Scene.{Scene}
use Rattle.kept_worlds.proofs.LastFacts.{stay_known}
use Rattle.kept_worlds.specs.KeptMaps.{kept_at, reach_at}
use Rattle.kept_worlds.specs.LastKept.{AreKept, is_there}
use Rattle.kind_tables.specs.Ranges.{type_of_channel}
use Rattle.object_store.specs.Ends.{notice_of}
use Rattle.object_store.specs.Gathers.{IsLeft, buried}
use Rattle.object_store.specs.Kept.{CountsItsObjects, Stored}
use Rattle.object_steps.specs.Objects.{tellable}
use Rattle.object_steps.specs.Resting.{Follows, reaches}
use Rattle.object_steps.proofs.ReachLaws.{reaches_of_a_call, references_stay}
use Rattle.object_steps.proofs.Rested.{ranked}
use Rattle.object_steps.proofs.Tellables.{plain_tellable}
use Rattle.past_laws.proofs.Follows.{one_call_more}
use Rattle.picture_model.specs.Pictures.{picture}
use Rattle.seq_model.specs.Answers.{IsAnswer, IsLike, answer, granted, mapped_picture}
use Rattle.seq_model.specs.Histories.{History}
use Rattle.seq_model.specs.Legal.{Legal}
use Rattle.seq_model.specs.Pictures.{picture_at, plane_of, scene_at}
use Rattle.seq_model.specs.Refusals.{phase_at, refusal}
use Rattle.seq_model.specs.Soundness.{IsRanked}
use Rattle.seq_model.specs.State.{Done, Empty, Object, State, changed_at, object_at}
use Rattle.seq_model.specs.Steps.{Past, after, change, effect, map_channel, next_place, step}
use Rattle.seq_model.specs.Told.{end_of_object, gone}
use Rattle.seq_model.specs.declared.calls.Call.{Call}
use Rattle.seq_model.specs.declared.calls.Call.TheVariants.{MapFrame}
use Rattle.seq_model.specs.declared.calls.Entry.{Entry}
use Rattle.seq_model.specs.declared.calls.Entry.TheVariants.{Called}
use Rattle.seq_model.specs.declared.calls.Reply.{Reply}
use Rattle.seq_model.specs.declared.calls.Reply.TheVariants as reply
use Rattle.seq_model.proofs.Afters.{seen_is_history}
use Rattle.seq_model.proofs.Changes.{keys_of_changed}
use Rattle.tile_claims.specs.Parts.{scene_of}
use Rattle.device_laws.specs.Flown.{Flown, runs_of}
use Rattle.device_laws.specs.FramesStand.{FramesStand, LeavesBut, without_pictures}
use Rattle.device_laws.specs.Renders.{ShowsRender}
use Rattle.device_laws.specs.Replies.{AreTold}
use Rattle.device_laws.specs.Standing.{phase_as}
use Rattle.device_laws.proofs.FlyFacts.{call_flown}
use Rattle.device_laws.proofs.FramesStandFacts.{fewer_kept}
use Rattle.device_laws.proofs.GrantFacts.{map_starts}
use Rattle.device_laws.proofs.LoanFacts.{map_kept}
use Rattle.device_laws.proofs.ReplyFacts.{quiet_told}
use Rattle.device_laws.proofs.StandingFacts.{found, phases_agree}
use Rattle.device_parts.specs.AllParts.{AreParts, Inside}
use Rattle.device_parts.specs.Calls.{HasEntered}
use Rattle.device_parts.specs.Deaths.{all_but_those, unless_dead}
use Rattle.device_parts.specs.Maps.{HasMapped, told_of}
use Rattle.device_parts.specs.Standing.{IsStanding}
use Rattle.device_parts.specs.declared.loads.Load.{Load}
use Rattle.device_parts.proofs.AboardFacts.{same_aboard}
use Rattle.device_parts.proofs.CalledFacts.{called_enters, called_leaves, called_parts}
use Rattle.device_parts.proofs.KeptFacts.{there_as}
use Rattle.device_parts.proofs.UndoFacts.{grounded}

-- the answer to a map of a frame that is done
at_phase : (past : Past) (h : ℕ) (c : Channel) (t : ℕ) → refusal past (MapFrame h c) ≡ None → phase_at past h ≡ Done t
    → answer past (MapFrame h c) ≡ Some (reply.Mapped (scene_at past.seen t).width (scene_at past.seen t).height (type_of_channel c) (picture_at past.seen t c))
unfolding answer
at_phase past h c t none done = ap (λ x. option_or (option_map reply.Denied x) (granted past (MapFrame h c))) none ∙ ap (mapped_picture past c) done

-- by the scene of the picture's key
by_key : (s : Scene) (history : History) (t : ℕ) (c : Channel) → s ≡ scene_at history t
    → reply.Mapped (scene_at history t).width (scene_at history t).height (type_of_channel c) (picture_at history t c) ≡ reply.Mapped s.width s.height (type_of_channel c) (picture s (plane_of c))
unfolding picture_at
by_key s history t c same = ap (λ (x : Scene). reply.Mapped x.width x.height (type_of_channel c) (picture x (plane_of c))) (sym same)

-- a frame that is done is there
done_is_there : (past : Past) (h t : ℕ) → phase_at past h ≡ Done t → IsSome (object_at past.state h)
done_is_there past h t done = by (object_at past.state h) done
  where
    by : (o : Option Object) → option_map_or (λ o. o.phase) o Empty ≡ Done t → IsSome o
    by None is = absurd cc
    by (Some o) is = refl

-- an answer is one that may be given
is_answer : (past : Past) (h width height : ℕ) (c : Channel) (rows : List ℕ) → answer past (MapFrame h c) ≡ Some (reply.Mapped width height (type_of_channel c) rows)
    → IsAnswer past (MapFrame h c) (reply.Mapped width height (type_of_channel c) rows)
unfolding IsAnswer
is_answer past h width height c rows is =
    subst (λ o. MatchOption o ⊥ (λ a. IsLike a (reply.Mapped width height (type_of_channel c) rows))) (sym is) refl

-- a map to which no refusal applies
module _ (old : Inside) (h : ℕ) (c : Channel) (p : AreParts old) (stands : IsStanding old) (none : refusal (after old.history) (MapFrame h c) ≡ None) where
  pub map_grants : refusal_of_map old.flights.future h c ≡ None
  map_grants = (map_starts old.history old.flights.future p.flown stands.frames h c none).0

  phase_is : (f : Finished) → shown_by old.flights.future h ≡ Some f → phase_at (after old.history) h ≡ Done f.ticket
  phase_is f shown =
      phases_agree old.history old.flights.future p.flown stands.frames.stands h
      ∙ ap (λ x. phase_as (phase_by x (shown_by old.flights.future h))) (grounded old.flights.future h c map_grants)
      ∙ ap (λ x. phase_as (phase_by None x)) shown

  pub map_finds : IsSome (object_at old.objects.stored.state h)
  map_finds = by (shown_by old.flights.future h) refl (map_starts old.history old.flights.future p.flown stands.frames h c none).1
    where
      by : (o : Option Finished) → shown_by old.flights.future h ≡ o → IsSome o → IsSome (object_at old.objects.stored.state h)
      by None gone some = absurd cc
      by (Some f) shown some = subst (λ (s : State). IsSome (object_at s h)) (sym p.rest.state) (done_is_there (after old.history) h f.ticket (phase_is f shown))

  module _ (f : Finished) (shown : shown_by old.flights.future h ≡ Some f) where
    shows : ShowsRender old.history f.ticket f.key f.channels
    shows = (found (λ (p : Finished). ShowsRender old.history p.ticket p.key p.channels) (is_picture_of h) old.flights.future.pictures f stands.frames.shows.pictures shown).0

    -- what is lent, and the reply that tells of it
    abbrev pub loan : Mapped
    loan = loan_from f c (length old.history + 1)

    pub map_answers : answer (after old.history) (MapFrame h c) ≡ Some (told_of loan)
    map_answers =
        at_phase (after old.history) h c f.ticket none (phase_is f shown)
        ∙ ap (λ (seen : History). Some (reply.Mapped (scene_at seen f.ticket).width (scene_at seen f.ticket).height (type_of_channel c) (picture_at seen f.ticket c))) (seen_is_history old.history)
        ∙ ap (λ r. Some r) (by_key (scene_of f.key) old.history f.ticket c shows.scene)

    module _ (actor : ℕ) where
      abbrev pub entry : Entry
      entry = Called actor (MapFrame h c) (told_of loan)

      map_legal : Legal (old.history ++ entry ∷ [])
      map_legal =
          one_call_more old.history actor (MapFrame h c) (told_of loan) p.rest.legal (stands.frames.open_ actor (MapFrame h c) (told_of loan))
          (is_answer (after old.history) h f.key.w f.key.h c (picture_of f.key c) map_answers) refl tt

      abbrev pub lends : Object → Object
      lends = map_channel c (length old.history + 1)

      abbrev pub moved : Stored
      moved = record old.objects.stored { state = changed_at h lends old.objects.stored.state }

      effect_is : change (next_place (after old.history)) entry (after old.history).state ≡ changed_at h lends (after old.history).state
      unfolding change effect
      effect_is = ap (λ (history : History). changed_at h (map_channel c (length history + 1)) (after old.history).state) (seen_is_history old.history)

      map_follows : Follows moved old.history entry
      map_follows = record {
        legal = map_legal;
        state = ap (changed_at h lends) p.rest.state ∙ sym effect_is;
        public = λ k there. p.rest.public k (there_as moved.state.objects old.objects.stored.state.objects k (keys_of_changed h lends old.objects.stored.state) there) ∙ sym (references_stay old.history entry k map_legal tt);
        holds = λ k.
            p.rest.holds k ∙ ap (λ (s : State). reaches (after old.history).reached s k) p.rest.state
            ∙ sym (reaches_of_a_call old.history k actor (MapFrame h c) (told_of loan) refl)
            ∙ ap (λ (s : State). reaches (step (after old.history) entry).reached s k) (effect_is ∙ ap (changed_at h lends) (sym p.rest.state));
      }

      map_tells : tellable moved.state ≡ tellable old.objects.stored.state + 0
      map_tells = let as_before = plain_tellable h lends old.objects.stored.state (λ o. refl) in omega (arith, as_before)

      pub map_ranked : IsRanked moved.state.objects
      map_ranked = ranked old.history entry moved map_follows

      -- the channel was mapped, the call entered, and what nothing holds any more is gone
      module _ (new : Inside) (flights : Books Load) (counted_moved : CountsItsObjects moved) (counted : CountsItsObjects new.objects.stored)
          (is_left : IsLeft moved new.objects.stored) (is_buried : new.objects.stored.state ≡ buried moved)
          (departed : new.objects.departed ≡ keys_of (gone moved.state new.objects.stored.state))
          (grown : new.history ≡ old.history ++ entry ∷ [])
          (lent : flights ≡ with_future old.flights (with_picture old.flights.future (lent_as f c (length old.history + 1))))
          (left : new.flights ≡ with_future flights (without_pictures flights.future new.objects.departed))
          (forgotten : (w : ℕ) → kept_at new.worlds w ≡ unless_dead new.objects.departed w (kept_at old.worlds w))
          (known : (history : History) (there : ℕ → Bool) → AreKept there history (reach_at old.worlds) → AreKept (all_but_those new.objects.departed there) history (reach_at new.worlds))
          (same : new.builds ≡ old.builds) (room : new.room ≡ old.room) where
        flights_are : new.flights ≡ with_future old.flights (without_pictures (with_picture old.flights.future (lent_as f c (length old.history + 1))) new.objects.departed)
        flights_are = left ∙ ap (λ (b : Books Load). with_future b (without_pictures b.future new.objects.departed)) lent

        pub map_flights : new.flights.future.flights ≡ old.flights.future.flights
        map_flights =
            ap (λ (b : Books Load). b.future.flights) flights_are
            ∙ (fewer_kept (with_picture old.flights.future (lent_as f c (length old.history + 1))) new.objects.departed).0

        flies : Flown (old.history ++ entry ∷ []) (runs_of new.flights.future.flights)
        flies = subst (λ fs. Flown (old.history ++ entry ∷ []) (runs_of fs)) (sym map_flights)
            (subst (λ fs. Flown (old.history ++ entry ∷ []) (runs_of fs)) (fewer_kept old.flights.future []).0 (call_flown old.history entry old.flights.future [] map_legal refl p.flown))

        touched : AreKept (is_there old.history) (old.history ++ entry ∷ []) (reach_at old.worlds)
        touched = stay_known old.history entry (is_there old.history) (reach_at old.worlds) refl (λ objects. refl) p.kept

        leaves : LeavesBut old.history entry new.objects.departed
        leaves = called_leaves old new actor (MapFrame h c) (told_of loan) moved old.worlds p map_follows refl map_tells counted_moved counted is_left is_buried departed grown
            flies (same_aboard old p new.flights.future.flights map_flights) (ap (λ (b : Books Load). b.cargo) flights_are) (ap (λ (b : Books Load). b.over) flights_are)
            touched p.shown forgotten known same room

        pub map_parts : length old.history + length old.flights.future.flights + 1 < old.room → AreParts new
        map_parts place = called_parts old new actor (MapFrame h c) (told_of loan) moved old.worlds p map_follows refl map_tells counted_moved counted is_left is_buried departed grown
            flies (same_aboard old p new.flights.future.flights map_flights) (ap (λ (b : Books Load). b.cargo) flights_are) (ap (λ (b : Books Load). b.over) flights_are)
            touched p.shown forgotten known same room stands place (le_refl old.objects.stored.places)

        pub map_enters : filter_map notice_of new.objects.dead ≡ filter_map end_of_object (gone moved.state new.objects.stored.state) → HasEntered actor (MapFrame h c) (told_of loan) old new
        map_enters notices = called_enters old new actor (MapFrame h c) (told_of loan) moved old.worlds p map_follows refl map_tells counted_moved counted is_left is_buried departed grown
            flies (same_aboard old p new.flights.future.flights map_flights) (ap (λ (b : Books Load). b.cargo) flights_are) (ap (λ (b : Books Load). b.over) flights_are)
            touched p.shown forgotten known same room notices

        pub map_stands : IsKept old.flights.future → IsStanding new
        map_stands kept = record {
          frames = subst (λ history. FramesStand history new.flights.future) (sym grown) (subst (λ (b : Books Load). FramesStand (old.history ++ entry ∷ []) b.future) (sym flights_are)
              (map_kept old.history actor h c f.key.w f.key.h (type_of_channel c) (picture_of f.key c) old.flights.future f new.objects.departed map_legal kept shown p.flown leaves stands.frames));
          told = subst (λ history. AreTold history new.flights.future.flights) (sym grown)
              (subst (AreTold (old.history ++ entry ∷ [])) (sym map_flights) (quiet_told old.history entry old.flights.future.flights refl stands.told));
        }

-- room that was made before a channel was mapped changes nothing of it
pub entered_before : {E : Type 0} (r : Result (Reply × Mapped) E) (actor room : ℕ) (call : Call) (old new : Inside) → old.room ≤ room
    → IfOk r (λ m. HasEntered actor call m.0 (record old { room = room }) new) → IfOk r (λ m. HasEntered actor call m.0 old new)
entered_before (Err e) actor room call old new grows is = tt
entered_before (Ok m) actor room call old new grows is =
    record { grown = is.grown; told = is.told; fewer = is.fewer; room = (let more : room ≤ new.room = is.room in omega (arith, grows, more)) }

pub mapped_before : {E : Type 0} (r : Result (Reply × Mapped) E) (h room : ℕ) (c : Channel) (old new : Inside)
    → IfOk r (λ m. HasMapped h c m.1 (record old { room = room }) new) → IfOk r (λ m. HasMapped h c m.1 old new)
mapped_before (Err e) h room c old new is = tt
mapped_before (Ok m) h room c old new is = record { flights = is.flights; lent = is.lent; left = is.left }
