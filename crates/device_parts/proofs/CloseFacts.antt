-- The close of a device in which no flight is left.
use Rattle.std.proofs.Common.{◌≡◌, ◌∙◌, ◌||◌, ◌++◌, ◌∷◌, ℕ, true, false, List, [], refl, sym, ap}
use Rattle.std.proofs.lemmas.Bool.{eq-eqb}
use Rattle.std.proofs.lemmas.List.{append_assoc}
use Rattle.std.specs.List.{filter_map}
use Rattle.dev_types.specs.declared.notices.Notice.{Notice}
use Rattle.frame_future.specs.Flights.{Flying}
use Rattle.seq_model.proofs.Prefixes.{extension_is_legal}
use Rattle.seq_model.proofs.Tellings.{told_more}
use Rattle.seq_model.specs.Builds.{builds}
use Rattle.seq_model.specs.Legal.{Legal}
use Rattle.seq_model.specs.Life.{has}
use Rattle.seq_model.specs.State.{State, flights}
use Rattle.seq_model.specs.Steps.{after}
use Rattle.seq_model.specs.Told.{end_of_object, told, told_by}
use Rattle.seq_model.specs.declared.calls.Entry.TheVariants.{Closed}
use Rattle.device_laws.specs.Flown.{runs_of, tickets_in}
use Rattle.device_parts.specs.AllParts.{AreParts, Inside}
use Rattle.device_parts.proofs.EntryFacts.{same_builds}

-- a list that has nothing is empty
none_had : (ts : List ℕ) → ((t : ℕ) → has t ts ≡ false) → ts ≡ []
none_had [] none = refl
none_had (t ∷ ts) none = let first : true ≡ false = sym (ap (λ b. b || has t ts) (eq-eqb t t refl)) ∙ none t in absurd cc

module _ (i : Inside) (p : AreParts i) (landed : i.flights.future.flights ≡ []) where
  no_flights : flights (after i.history).state ≡ []
  no_flights = none_had (flights (after i.history).state) (λ t. p.flown.tickets t ∙ ap (λ (fs : List Flying). has t (tickets_in (runs_of fs))) landed)

  pub close_legal : Legal (i.history ++ Closed ∷ [])
  close_legal = extension_is_legal i.history Closed p.rest.legal (record { placed = (refl, no_flights); rising = tt }) (p.lets Closed refl)

  pub close_builds : i.builds ≡ builds (i.history ++ Closed ∷ [])
  close_builds = p.built ∙ sym (same_builds i.history Closed refl)

  -- with the close the ends of all objects are told
  pub close_told : told (i.history ++ Closed ∷ []) ≡ told i.history ++ filter_map end_of_object i.objects.stored.state.objects
  unfolding told_by
  close_told = told_more i.history Closed ∙ ap (λ (s : State). told i.history ++ filter_map end_of_object s.objects) (sym p.rest.state)

  pub close_tells : (old new before : List Notice) → new ≡ old ++ filter_map end_of_object i.objects.stored.state.objects → old ≡ before ++ told i.history → new ≡ before ++ told (i.history ++ Closed ∷ [])
  close_tells old new before tells is =
      tells ∙ ap (λ ns. ns ++ filter_map end_of_object i.objects.stored.state.objects) is
      ∙ append_assoc before (told i.history) (filter_map end_of_object i.objects.stored.state.objects) ∙ ap (λ ns. before ++ ns) (sym close_told)
