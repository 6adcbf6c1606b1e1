-- The end of a flight leaves of how many ends the client is to be told.
use Rattle.std.proofs.Common.{◌≡◌, ℕ, Bool, true, false, cond, List, [], ◌∷◌, length, map, ap, ap₂, refl}
use Rattle.std.specs.List.{cons_option, filter_map}
use Rattle.object_steps.specs.Objects.{tellable}
use Rattle.flight_books.specs.Sweeps.{note}
use Rattle.seq_model.specs.State.{Done, Empty, Object, Phase, State, is_in_flight}
use Rattle.seq_model.specs.Steps.{change, end_flight, end_flights, set_phase}
use Rattle.seq_model.specs.Told.{end_of_object}

module _ (t : ℕ) (phase : Phase) where
  abbrev ends : List (ℕ × Object) → List (ℕ × Object)
  ends es = map (λ e. (e.0, cond (is_in_flight t e.1) (set_phase phase e.1) e.1)) es

  same_end : (e : ℕ × Object) → end_of_object (e.0, cond (is_in_flight t e.1) (set_phase phase e.1) e.1) ≡ end_of_object e
  same_end e = by (is_in_flight t e.1)
    where
      by : (b : Bool) → end_of_object (e.0, cond b (set_phase phase e.1) e.1) ≡ end_of_object e
      by true = refl
      by false = refl

  same_ends : (es : List (ℕ × Object)) → filter_map end_of_object (ends es) ≡ filter_map end_of_object es
  same_ends [] = refl
  same_ends (e ∷ es) = ap₂ (λ o os. cons_option o os) (same_end e) (same_ends es)

-- the end of a flight leaves of whose ends the client is to be told
pub noted_tellable : (place : ℕ) (stopped : Bool) (t : ℕ) (s : State) → tellable (change place (note stopped t) s) ≡ tellable s
unfolding change end_flights end_flight
noted_tellable place true t s = ap length (same_ends t Empty s.objects)
noted_tellable place false t s = ap length (same_ends t (Done t) s.objects)
