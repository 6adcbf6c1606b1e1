-- Flights that are stopped without a word in the history.
use Rattle.std.proofs.Common.{◌≡◌, ◌∙◌, ◌+◌, ◌<◌, Bool, true, false, List, [], ◌∷◌, Some, length, refl, sym, ap, subst}
use Rattle.std.specs.List.{AllByRecursion}
use Rattle.flight_books.specs.Kept.{Books}
use Rattle.flight_books.specs.Stops.{AreHalted, HaltsBy, StopsAll}
use Rattle.flight_books.specs.declared.kept.Cargo.{Cargo}
use Rattle.frame_future.specs.Flights.{Flying, is_stopped}
use Rattle.seq_model.specs.Histories.{History, frame_at}
use Rattle.seq_model.specs.Life.{has}
use Rattle.device_laws.specs.Flown.{IsRun, runs_of, tickets_in}
use Rattle.device_laws.specs.Over.{AllOver}
use Rattle.device_parts.specs.AllParts.{AreAboard, AreParts, Inside, IsLoaded, scene_at_home}
use Rattle.device_parts.specs.declared.loads.Load.{Load}

-- a flight when all are stopped is the same but for what its first seat saw
record IsHalt (f g : Flying) : Type 0 where
  ticket : g.ticket ≡ f.ticket
  frame : g.frame ≡ f.frame
  scene : scene_at_home g ≡ scene_at_home f

halted : (f g : Flying) → HaltsBy (is_stopped f) f g → IsHalt f g
halted f g halts = by (is_stopped f) halts
  where
    by : (b : Bool) → HaltsBy b f g → IsHalt f g
    by true same = record { ticket = ap (λ (h : Flying). h.ticket) same; frame = ap (λ (h : Flying). h.frame) same; scene = ap scene_at_home same }
    by false stop = record { ticket = ap (λ (h : Flying). h.ticket) stop.now; frame = ap (λ (h : Flying). h.frame) stop.now; scene = ap scene_at_home stop.now }

halted_tickets : (fs gs : List Flying) → AreHalted fs gs → tickets_in (runs_of gs) ≡ tickets_in (runs_of fs)
halted_tickets [] [] halts = refl
halted_tickets [] (g ∷ gs) halts = absurd halts
halted_tickets (f ∷ fs) [] halts = absurd halts
halted_tickets (f ∷ fs) (g ∷ gs) halts = λ i. (halted f g halts.0).ticket i ∷ halted_tickets fs gs halts.1 i

halted_runs : (history : History) (fs gs : List Flying) → AreHalted fs gs → AllByRecursion (λ g. is_stopped g ≡ true) gs → AllByRecursion (IsRun history) (runs_of fs) → AllByRecursion (IsRun history) (runs_of gs)
halted_runs history [] [] halts stopped all = tt
halted_runs history [] (g ∷ gs) halts stopped all = absurd halts
halted_runs history (f ∷ fs) [] halts stopped all = absurd halts
halted_runs history (f ∷ fs) (g ∷ gs) halts stopped all =
    let one = halted f g halts.0 in
    (record { frame = ap (frame_at history) one.ticket ∙ all.0.frame ∙ ap Some (sym one.frame); stopped = λ told. stopped.0 }, halted_runs history fs gs halts.1 stopped.1 all.1)

halted_aboard : (fs gs : List Flying) (cs : List (Cargo Load)) → AreHalted fs gs → AreAboard fs cs → AreAboard gs cs
halted_aboard [] [] cs halts on = on
halted_aboard [] (g ∷ gs) cs halts on = absurd halts
halted_aboard (f ∷ fs) [] cs halts on = absurd halts
halted_aboard (f ∷ fs) (g ∷ gs) [] halts on = absurd on
halted_aboard (f ∷ fs) (g ∷ gs) (c ∷ cs) halts on = (on.0 ∙ sym (halted f g halts.0).scene, halted_aboard fs gs cs halts.1 on.1)

-- all that holds of the parts holds once all flights are stopped
pub stopped_parts : (old : Inside) (flights : Books Load) → AreParts old → StopsAll old.flights flights → AreParts (record old { flights = flights })
stopped_parts old flights p stops = record {
  rest = p.rest;
  flown = record {
    tickets = λ t. p.flown.tickets t ∙ ap (has t) (sym (halted_tickets old.flights.future.flights flights.future.flights stops.flights));
    each = halted_runs old.history old.flights.future.flights flights.future.flights stops.flights stops.stopped p.flown.each;
  };
  loaded = subst (AllByRecursion (IsLoaded old.history)) (sym stops.cargo) p.loaded;
  aboard = subst (AreAboard flights.future.flights) (sym stops.cargo) (halted_aboard old.flights.future.flights flights.future.flights old.flights.cargo stops.flights p.aboard);
  lets = p.lets;
  kept = p.kept;
  shown = p.shown;
  built = p.built;
  over = subst (AllOver old.history) (sym stops.over) p.over;
  places = subst (λ n. length old.history + n < old.room) (sym stops.count) p.places;
  stops = subst (λ n. n < old.objects.stored.places) (sym stops.count) p.stops;
}
