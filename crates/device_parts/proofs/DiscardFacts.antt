-- What always holds of the parts of a device holds once a frame is discarded.
use Rattle.std.proofs.Common.{◌≡◌, ◌∙◌, ℕ, ◌+◌, List, [], ◌∷◌, ◌++◌, length, refl, sym, ap, subst, arith}
use Rattle.std.specs.List.{filter_map}
use Rattle.std.specs.Map.{keys_of}
use Rattle.std.specs.Option.{option_map_or}
use Rattle.frame_future.specs.Future.{Future, IsDiscarded, IsKept, flight_of}
use Rattle.object_store.specs.Kept.{Stored}
use Rattle.object_steps.specs.Objects.{tellable}
use Rattle.object_steps.specs.Resting.{Follows, reaches}
use Rattle.object_steps.proofs.ReachLaws.{reaches_of_a_call, references_stay}
use Rattle.object_steps.proofs.Tellables.{plain_tellable}
use Rattle.seq_model.specs.Legal.{Legal}
use Rattle.seq_model.specs.State.{Empty, Object, State, changed_at, object_at}
use Rattle.seq_model.specs.Steps.{after, change, discard, effect, set_phase, step}
use Rattle.seq_model.specs.Told.{end_of_object}
use Rattle.seq_model.specs.declared.calls.Call.TheVariants.{DiscardFrame}
use Rattle.seq_model.specs.declared.calls.Entry.{Entry}
use Rattle.seq_model.specs.declared.calls.Entry.TheVariants.{Called}
use Rattle.seq_model.specs.declared.calls.Reply.TheVariants as reply
use Rattle.seq_model.proofs.Came.{stop_objects}
use Rattle.seq_model.proofs.Changes.{keys_of_changed}
use Rattle.device_laws.specs.Flown.{Flown, runs_of}
use Rattle.device_laws.specs.FramesStand.{FramesStand, LeavesBut, without_pictures}
use Rattle.device_laws.proofs.CallFacts.{discard_kept}
use Rattle.device_laws.proofs.FlyFacts.{discard_flown}
use Rattle.device_laws.proofs.FramesStandFacts.{fewer_kept}
use Rattle.device_laws.specs.Replies.{AreTold}
use Rattle.device_laws.proofs.ReplyFacts.{discarded_told, quiet_told}
use Rattle.device_parts.specs.AllParts.{AreAboard, AreParts, Inside}
use Rattle.device_parts.specs.Standing.{IsStanding}
use Rattle.device_parts.proofs.AboardFacts.{aboard_discarded}
use Rattle.device_parts.proofs.KeptFacts.{there_as}

-- a discard leaves which objects there are, and of whose ends the client is to be told
objects_are : (h : ℕ) (s : State) → (discard h s).objects ≡ (changed_at h (set_phase Empty) s).objects
unfolding discard
objects_are h s = stop_objects (option_map_or (λ o. o.phase) (object_at s h) Empty) (changed_at h (set_phase Empty) s)

same_keys : (h : ℕ) (s : State) → keys_of (discard h s).objects ≡ keys_of s.objects
same_keys h s = ap (λ (es : List (ℕ × Object)). keys_of es) (objects_are h s) ∙ keys_of_changed h (set_phase Empty) s

same_tellable : (h : ℕ) (s : State) → tellable (discard h s) ≡ tellable s
same_tellable h s = ap (λ (es : List (ℕ × Object)). length (filter_map end_of_object es)) (objects_are h s) ∙ plain_tellable h (set_phase Empty) s (λ o. refl)

module _ (old : Inside) (actor h room : ℕ) (p : AreParts old) (legal : Legal (old.history ++ Called actor (DiscardFrame h) reply.Done ∷ [])) where
  abbrev pub entry : Entry
  entry = Called actor (DiscardFrame h) reply.Done

  abbrev pub moved : Stored
  moved = record old.objects.stored { state = discard h old.objects.stored.state; places = room }

  pub discard_follows : Follows moved old.history entry
  unfolding change effect
  discard_follows = record {
    legal = legal;
    state = ap (discard h) p.rest.state;
    public = λ k there. p.rest.public k (there_as moved.state.objects old.objects.stored.state.objects k (same_keys h old.objects.stored.state) there) ∙ sym (references_stay old.history entry k legal tt);
    holds = λ k.
        p.rest.holds k ∙ ap (λ (s : State). reaches (after old.history).reached s k) p.rest.state
        ∙ sym (reaches_of_a_call old.history k actor (DiscardFrame h) reply.Done refl)
        ∙ ap (λ (s : State). reaches (step (after old.history) entry).reached (discard h s) k) (sym p.rest.state);
  }

  pub discard_tells : tellable moved.state ≡ tellable old.objects.stored.state + 0
  discard_tells = let as_before = same_tellable h old.objects.stored.state in omega (arith, as_before)

  module _ (new : Inside) (mid : Future) (grown : new.history ≡ old.history ++ entry ∷ []) (kept : IsKept old.flights.future)
      (discarded : IsDiscarded h old.flights.future mid (flight_of old.flights.future h)) (flights : new.flights.future ≡ without_pictures mid new.objects.departed) where
    pub discard_flies : Flown (old.history ++ entry ∷ []) (runs_of new.flights.future.flights)
    discard_flies = subst (λ (s : Future). Flown (old.history ++ entry ∷ []) (runs_of s.flights)) (sym flights)
        (discard_flown old.history actor h old.flights.future mid new.objects.departed legal kept discarded p.flown)

    pub discard_aboard : AreAboard new.flights.future.flights old.flights.cargo
    discard_aboard = subst (λ fs. AreAboard fs old.flights.cargo) (sym (ap (λ (s : Future). s.flights) flights ∙ (fewer_kept mid new.objects.departed).0))
        (aboard_discarded h old.flights.future mid old.flights.cargo discarded p.aboard)

    pub discard_stands : LeavesBut old.history entry new.objects.departed → IsStanding old → IsStanding new
    discard_stands left stands = record {
      frames = subst (λ history. FramesStand history new.flights.future) (sym grown) (subst (FramesStand (old.history ++ entry ∷ [])) (sym flights)
          (discard_kept old.history actor h old.flights.future mid new.objects.departed kept discarded p.flown left stands.frames));
      told = subst (λ history. AreTold history new.flights.future.flights) (sym grown)
          (subst (AreTold (old.history ++ entry ∷ [])) (sym (ap (λ (s : Future). s.flights) flights ∙ (fewer_kept mid new.objects.departed).0))
          (quiet_told old.history entry mid.flights refl (discarded_told old.history h old.flights.future mid discarded stands.told)));
    }
