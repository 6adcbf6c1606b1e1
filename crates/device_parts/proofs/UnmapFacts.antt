-- What always holds of the parts of a device holds once the loan of a frame's channel ends.
use Rattle.std.proofs.Common.{◌≡◌, ◌∙◌, ℕ, ◌+◌, true, [], ◌∷◌, ◌++◌, Option, None, Some, refl, sym, ap, subst, arith}
use Rattle.std.proofs.lemmas.Bool.{eqb-true}
use Rattle.std.specs.Option.{option_map_or}
use Rattle.dev_types.specs.declared.handles.Channel.{Channel}
use Rattle.flight_books.specs.Kept.{Books, with_future}
use Rattle.frame_future.specs.Channels.{loan_of}
use Rattle.frame_future.specs.Future.{Finished, Future, IsKept, given_back, is_picture_of, loan_ended, shown_by, with_picture}
use Rattle.object_store.specs.Kept.{Stored}
use Rattle.object_steps.specs.Objects.{tellable}
use Rattle.object_steps.specs.Resting.{Follows, reaches}
use Rattle.object_steps.proofs.ReachLaws.{reaches_of_a_call, references_stay}
use Rattle.object_steps.proofs.Tellables.{plain_tellable}
use Rattle.seq_model.specs.Legal.{Legal}
use Rattle.seq_model.specs.Refusals.{mapped_at, refusal}
use Rattle.seq_model.specs.State.{State, changed_at}
use Rattle.seq_model.specs.Steps.{after, change, effect, step, unmap_channel}
use Rattle.seq_model.specs.declared.calls.Call.TheVariants.{UnmapFrame}
use Rattle.seq_model.specs.declared.calls.Entry.{Entry}
use Rattle.seq_model.specs.declared.calls.Entry.TheVariants.{Called}
use Rattle.seq_model.specs.declared.calls.Reply.TheVariants as reply
use Rattle.seq_model.proofs.Changes.{keys_of_changed}
use Rattle.device_laws.specs.Flown.{Flown, runs_of}
use Rattle.device_laws.specs.FramesStand.{FramesStand, LeavesBut, without_pictures}
use Rattle.device_laws.specs.Lent.{IsLent, loan_in}
use Rattle.device_laws.proofs.FlyFacts.{call_flown}
use Rattle.device_laws.proofs.FramesStandFacts.{fewer_kept}
use Rattle.device_laws.proofs.GrantFacts.{unmap_starts}
use Rattle.device_laws.proofs.LoanFacts.{unmap_kept}
use Rattle.device_laws.proofs.StandingFacts.{found}
use Rattle.device_laws.specs.Replies.{AreTold}
use Rattle.device_laws.proofs.ReplyFacts.{quiet_told}
use Rattle.device_parts.specs.AllParts.{AreAboard, AreParts, Inside}
use Rattle.device_parts.specs.Standing.{IsStanding}
use Rattle.device_parts.proofs.AboardFacts.{same_aboard}
use Rattle.device_parts.specs.declared.loads.Load.{Load}
use Rattle.device_parts.proofs.KeptFacts.{there_as}

-- the end of a loan leaves which flights there are
pub same_flights : (s : Future) (h : ℕ) (c : Channel) → (loan_ended s h c).flights ≡ s.flights
same_flights s h c = by (shown_by s h)
  where
    by : (o : Option Finished) → (option_map_or (λ p. with_picture s (given_back p c)) o s).flights ≡ s.flights
    by None = refl
    by (Some p) = refl

module _ (old : Inside) (actor h number : ℕ) (p : AreParts old) (legal : Legal (old.history ++ Called actor (UnmapFrame h number) reply.Done ∷ [])) where
  abbrev pub entry : Entry
  entry = Called actor (UnmapFrame h number) reply.Done

  abbrev pub moved : Stored
  moved = record old.objects.stored { state = changed_at h (unmap_channel number) old.objects.stored.state }

  pub unmap_follows : Follows moved old.history entry
  unfolding change effect
  unmap_follows = record {
    legal = legal;
    state = ap (changed_at h (unmap_channel number)) p.rest.state;
    public = λ k there. p.rest.public k (there_as moved.state.objects old.objects.stored.state.objects k (keys_of_changed h (unmap_channel number) old.objects.stored.state) there) ∙ sym (references_stay old.history entry k legal tt);
    holds = λ k.
        p.rest.holds k ∙ ap (λ (s : State). reaches (after old.history).reached s k) p.rest.state
        ∙ sym (reaches_of_a_call old.history k actor (UnmapFrame h number) reply.Done refl)
        ∙ ap (λ (s : State). reaches (step (after old.history) entry).reached (changed_at h (unmap_channel number) s) k) (sym p.rest.state);
  }

  pub unmap_tells : tellable moved.state ≡ tellable old.objects.stored.state + 0
  unmap_tells = let as_before = plain_tellable h (unmap_channel number) old.objects.stored.state (λ o. refl) in omega (arith, as_before)

  module _ (new : Inside) (c : Channel) (grown : new.history ≡ old.history ++ entry ∷ [])
      (flights : new.flights ≡ with_future old.flights (without_pictures (loan_ended old.flights.future h c) new.objects.departed)) where
    frames_are : new.flights.future.flights ≡ old.flights.future.flights
    frames_are = ap (λ (b : Books Load). b.future.flights) flights ∙ (fewer_kept (loan_ended old.flights.future h c) new.objects.departed).0 ∙ same_flights old.flights.future h c

    pub unmap_flies : Flown (old.history ++ entry ∷ []) (runs_of new.flights.future.flights)
    unmap_flies = subst (λ fs. Flown (old.history ++ entry ∷ []) (runs_of fs)) (sym frames_are)
        (subst (λ fs. Flown (old.history ++ entry ∷ []) (runs_of fs)) (fewer_kept old.flights.future []).0 (call_flown old.history entry old.flights.future [] legal refl p.flown))

    pub unmap_aboard : AreAboard new.flights.future.flights old.flights.cargo
    unmap_aboard = same_aboard old p new.flights.future.flights frames_are

    pub unmap_stands : IsKept old.flights.future → refusal (after old.history) (UnmapFrame h number) ≡ None → loan_in (mapped_at (after old.history) h) c ≡ Some number
        → LeavesBut old.history entry new.objects.departed → IsStanding old → IsStanding new
    unmap_stands kept out lent left stands =
        let starts = unmap_starts old.history old.flights.future p.flown stands.frames h number p.rest.legal out in
        let shown : shown_by old.flights.future h ≡ Some starts.0 = starts.2 in
        let mine : IsLent old.history starts.0 = (found (IsLent old.history) (is_picture_of h) old.flights.future.pictures starts.0 stands.frames.lent shown).0 in
        let frame : starts.0.frame ≡ h = picture_frame h starts.0 (found (IsLent old.history) (is_picture_of h) old.flights.future.pictures starts.0 stands.frames.lent shown).1 in
        let is_out : loan_of starts.0.loans c ≡ Some number = mine.loans c ∙ ap (λ f. loan_in (mapped_at (after old.history) f) c) frame ∙ lent in
        record {
          frames = subst (λ history. FramesStand history new.flights.future) (sym grown) (subst (λ (b : Books Load). FramesStand (old.history ++ entry ∷ []) b.future) (sym flights)
              (unmap_kept old.history actor h number c old.flights.future starts.0 new.objects.departed p.rest.legal kept shown is_out p.flown left stands.frames));
          told = subst (λ history. AreTold history new.flights.future.flights) (sym grown)
              (subst (AreTold (old.history ++ entry ∷ [])) (sym frames_are) (quiet_told old.history entry old.flights.future.flights refl stands.told));
        }
      where
        picture_frame : (h : ℕ) (p : Finished) → is_picture_of h p ≡ true → p.frame ≡ h
        picture_frame h p is = eqb-true p.frame h is

-- where a loan is out, it is that of a channel
pub lent_channel : (old : Inside) (h number : ℕ) → AreParts old → IsStanding old → refusal (after old.history) (UnmapFrame h number) ≡ None → (c : Channel) × (loan_in (mapped_at (after old.history) h) c ≡ Some number)
lent_channel old h number p stands out =
    let starts = unmap_starts old.history old.flights.future p.flown stands.frames h number p.rest.legal out in
    let both = found (IsLent old.history) (is_picture_of h) old.flights.future.pictures starts.0 stands.frames.lent starts.2 in
    (starts.1, ap (λ f. loan_in (mapped_at (after old.history) f) starts.1) (sym (eqb-true starts.0.frame h both.1)) ∙ sym (both.0.loans starts.1) ∙ starts.3)
