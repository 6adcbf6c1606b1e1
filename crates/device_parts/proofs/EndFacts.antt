-- The end of a flight changes its frame alone.
use Rattle.std.proofs.Common.{◌≡◌, ◌∙◌, ◌⊎◌, inl, inr, ℕ, true, false, cond, List, Option, Some, None, refl, sym, ap, subst}
use Rattle.std.specs.Map.{keys_of}
use Rattle.std.specs.Option.{option_map, option_map_or}
use Rattle.std.proofs.lemmas.Bool.{cases_Bool, cases_eq}
use Rattle.handle_table.specs.HandleMaps.{RiseWithin}
use Rattle.object_store.specs.Parts.{at, keyed}
use Rattle.object_store.proofs.Keyed.{at_keyed, keys_keyed, rises, same_by_looks}
use Rattle.seq_model.proofs.Changes.{changed_here, keys_of_changed, others_unchanged}
use Rattle.seq_model.proofs.Keys.{RisesWithin}
use Rattle.seq_model.specs.State.{Done, Empty, Object, Phase, State, changed_at, is_in_flight}
use Rattle.seq_model.specs.Steps.{change, end_flight, end_flights, set_phase}
use Rattle.seq_model.specs.declared.calls.Entry.{Entry}
use Rattle.seq_model.specs.declared.calls.Entry.TheVariants.{Finished, Left}
use Rattle.frame_future.specs.declared.phase.Ended.{Ended}
use Rattle.flight_books.specs.Sweeps.{note_of_end}
use Rattle.object_steps.specs.Objects.{Objects, with_state}
use Rattle.std.specs.List.{filter}
use Rattle.std.specs.Prelude.{◌==◌, not}
use Rattle.device_laws.specs.Showings.{is_flight, showing_at, showing_of, nothing_shown}
use Rattle.device_parts.specs.Ends.{IsOwn}

module _ (s : State) (t frame : ℕ) (phase : Phase) (rising : RiseWithin 1 s.next s.objects) (own : IsOwn s t frame) where
  up : RisesWithin 1 s.next (keys_of s.objects)
  up = rises 1 s.next s.objects rising

  abbrev ended : List (ℕ × Object)
  ended = keyed (λ _ o. cond (is_in_flight t o) (set_phase phase o) o) s.objects

  ended_up : RisesWithin 1 s.next (keys_of ended)
  ended_up = subst (λ ks. RisesWithin 1 s.next ks) (sym (keys_keyed (λ _ o. cond (is_in_flight t o) (set_phase phase o) o) s.objects)) up

  ended_at : (k : ℕ) → at k ended ≡ option_map (λ o. cond (is_in_flight t o) (set_phase phase o) o) (at k s.objects)
  ended_at k = at_keyed (λ _ o. cond (is_in_flight t o) (set_phase phase o) o) k s.objects

  -- an object that is not in flight stays
  stays : (k : ℕ) → is_flight t (showing_at s k).phase ≡ false → option_map (λ o. cond (is_in_flight t o) (set_phase phase o) o) (at k s.objects) ≡ at k s.objects
  stays k idle = by (at k s.objects) idle
    where
      by : (o : Option Object) → is_flight t (option_map_or showing_of o nothing_shown).phase ≡ false → option_map (λ o. cond (is_in_flight t o) (set_phase phase o) o) o ≡ o
      by None idle = refl
      by (Some o) idle = ap (λ b. Some (cond b (set_phase phase o) o)) idle

  elsewhere : (k : ℕ) → (k ≡ frame → ⊥) → is_flight t (showing_at s k).phase ≡ false
  elsewhere k apart = by (cases_Bool (is_flight t (showing_at s k).phase))
    where
      by : (is_flight t (showing_at s k).phase ≡ true) ⊎ (is_flight t (showing_at s k).phase ≡ false) → is_flight t (showing_at s k).phase ≡ false
      by (inl flies) = absurd (apart (own k flies))
      by (inr idle) = idle

  -- where the frame is not in flight, nothing ends
  pub nothing_ends : is_flight t (showing_at s frame).phase ≡ false → end_flights t phase s ≡ s
  unfolding end_flights end_flight
  nothing_ends idle = ap (λ (os : List (ℕ × Object)). record s { objects = os })
      (same_by_looks 1 s.next ended s.objects ended_up up (λ k. ended_at k ∙ stays k (by k (cases_eq k frame))))
    where
      by : (k : ℕ) → (k ≡ frame) ⊎ (k ≡ frame → ⊥) → is_flight t (showing_at s k).phase ≡ false
      by k (inl same) = subst (λ h. is_flight t (showing_at s h).phase ≡ false) (sym same) idle
      by k (inr apart) = elsewhere k apart

  changes : (o : Option Object) → is_flight t (option_map_or showing_of o nothing_shown).phase ≡ true →
      option_map (λ o. cond (is_in_flight t o) (set_phase phase o) o) o ≡ option_map (set_phase phase) o
  changes None flies = refl
  changes (Some o) flies = ap (λ b. Some (cond b (set_phase phase o) o)) flies

  -- else the frame alone changes
  pub its_frame_ends : is_flight t (showing_at s frame).phase ≡ true → end_flights t phase s ≡ changed_at frame (set_phase phase) s
  unfolding end_flights end_flight
  its_frame_ends flies = ap (λ (os : List (ℕ × Object)). record s { objects = os })
      (same_by_looks 1 s.next ended (changed_at frame (set_phase phase) s).objects ended_up
      (subst (λ ks. RisesWithin 1 s.next ks) (sym (keys_of_changed frame (set_phase phase) s)) up) (λ k. ended_at k ∙ by k (cases_eq k frame)))
    where
      by : (k : ℕ) → (k ≡ frame) ⊎ (k ≡ frame → ⊥) → option_map (λ o. cond (is_in_flight t o) (set_phase phase o) o) (at k s.objects) ≡ at k (changed_at frame (set_phase phase) s).objects
      by k (inl same) = subst (λ h. option_map (λ o. cond (is_in_flight t o) (set_phase phase o) o) (at h s.objects) ≡ at h (changed_at frame (set_phase phase) s).objects) (sym same)
          (changes (at frame s.objects) flies ∙ sym (changed_here frame (set_phase phase) s))
      by k (inr apart) = stays k (elsewhere k apart) ∙ sym (others_unchanged frame k (set_phase phase) s apart)

-- the note of a flight that was stopped, and of one that was not, as acts on the objects
pub stopped_end : (old mid new : Objects) (e : Ended) (place : ℕ) → e.left ≡ true → mid ≡ with_state old (end_flights e.ticket Empty old.stored.state)
    → new ≡ with_state mid (record mid.stored.state { stopped = filter (λ u. not (u == e.ticket)) mid.stored.state.stopped })
    → new ≡ with_state old (change place (note_of_end e) old.stored.state)
unfolding change end_flights
stopped_end old mid new e place left first then_ =
    then_ ∙ ap (λ (m : Objects). with_state m (record m.stored.state { stopped = filter (λ u. not (u == e.ticket)) m.stored.state.stopped })) first
    ∙ ap (λ (n : Entry). with_state old (change place n old.stored.state)) (sym (ap (λ b. cond b (Left e.ticket) (Finished e.ticket)) left))

pub finished_end : (old new : Objects) (e : Ended) (place : ℕ) → e.left ≡ false → new ≡ with_state old (end_flights e.ticket (Done e.ticket) old.stored.state)
    → new ≡ with_state old (change place (note_of_end e) old.stored.state)
unfolding change
finished_end old new e place left first =
    first ∙ ap (λ (n : Entry). with_state old (change place n old.stored.state)) (sym (ap (λ b. cond b (Left e.ticket) (Finished e.ticket)) left))
