-- What always holds of the parts of a device holds once one entry more was made, and what nothing holds any more is gone.
use Rattle.std.proofs.Common.{◌≡◌, ◌∙◌, ℕ, ◌+◌, ◌<◌, ◌≤◌, ◌&&◌, Bool, true, false, not, cond, List, [], ◌∷◌, ◌++◌, Option, Some, None, length, length-append, refl, sym, ap, subst, arith}
use Rattle.std.specs.Prelude.{IfSome}
use Rattle.std.specs.List.{AllByRecursion}
use Rattle.std.specs.Map.{keys_of}
use Rattle.std.specs.Option.{MatchOption, is_some, option_and_then, option_map, option_map_or, unwrap_or}
use Rattle.flight_books.specs.Kept.{is_of, without}
use Rattle.flight_books.specs.declared.kept.Cargo.{Cargo}
use Rattle.fx_math.specs.declared.scene.Scene.{Scene}
use Rattle.picture_model.specs.Limits.{IsSceneWithin}
use Rattle.object_store.specs.Kept.{CountsItsObjects, Stored}
use Rattle.object_store.specs.Gathers.{IsLeft, buried}
use Rattle.object_store.proofs.DeadSteps.{has_key}
use Rattle.object_steps.specs.Resting.{Follows, IsAtRest}
use Rattle.object_steps.proofs.Rested.{rests}
use Rattle.seq_model.specs.Histories.{History, rendered}
use Rattle.seq_model.specs.Builds.{builds}
use Rattle.seq_model.specs.Life.{has}
use Rattle.seq_model.specs.Pictures.{scene_at}
use Rattle.seq_model.specs.State.{Object, State, object_at, scene_objects}
use Rattle.seq_model.specs.Steps.{Past, after, change, is_reached_by, next_place}
use Rattle.seq_model.specs.Told.{gone}
use Rattle.seq_model.specs.declared.calls.Entry.{Entry}
use Rattle.seq_model.specs.declared.calls.Entry.TheVariants.{Closed}
use Rattle.seq_model.proofs.Afters.{after_more}
use Rattle.seq_model.proofs.Changes.{entry_changes}
use Rattle.seq_model.proofs.Reached.{reach_early, step_reached}
use Rattle.past_laws.specs.Worlds.{Use, last_use, wants_build, world_of}
use Rattle.past_laws.proofs.WorldFacts.{builds_more}
use Rattle.device_laws.proofs.FlightFacts.{still_there}
use Rattle.device_laws.proofs.RenderFacts.{scene_early}
use Rattle.device_laws.specs.FramesStand.{LeavesBut}
use Rattle.device_laws.specs.Flown.{Flown, LetsNotes, runs_of}
use Rattle.device_laws.specs.Over.{AllOver}
use Rattle.kept_worlds.proofs.BirthFacts.{was_there}
use Rattle.kept_worlds.proofs.LastFacts.{nothing_gone}
use Rattle.kept_worlds.proofs.NowFacts.{shown_over}
use Rattle.kept_worlds.specs.KeptMaps.{Kept, Worlds, kept_at, reach_at, shown_at}
use Rattle.kept_worlds.specs.LastKept.{AreKept, AreShown, is_there, kept_by}
use Rattle.world_laws.specs.Alike.{shown_of}
use Rattle.world_snapshot.specs.Worlds.{World}
use Rattle.device_parts.specs.AllParts.{AreAboard, AreParts, Inside, IsLoaded, scene_of_load, shown_by}
use Rattle.device_parts.specs.Deaths.{all_but_those, unless_dead}
use Rattle.device_parts.specs.declared.loads.Load.{Load}
use Rattle.device_parts.proofs.KeptFacts.{but_those, left_of}

-- what was reached before an entry was reached after it
reached_early : (history : History) (e : Entry) (t h : ℕ) → t ≤ length history → is_reached_by (after (history ++ e ∷ [])).reached t h ≡ is_reached_by (after history).reached t h
unfolding is_reached_by
reached_early history e t h early =
    let apart : t ≡ length history + 1 → ⊥ = λ same. let is = same in omega (arith, is, early) in
    ap (λ (past : Past). is_reached_by past.reached t h) (after_more history e)
    ∙ ap (λ reached. is_reached_by reached t h) (step_reached history e)
    ∙ ap (λ o. has h (unwrap_or o [])) (reach_early (length history + 1) t (rendered e) (after history).state (after history).reached apart)

-- what is kept with a flight is still what its render reached and showed
pub loaded_later : (history : History) (e : Entry) (c : Cargo Load) → IsLoaded history c → IsLoaded (history ++ e ∷ []) c
loaded_later history e c l = record {
  early = let longer = length-append history (e ∷ []) in let was = l.early in omega (arith, was, longer);
  reach = λ h. l.reach h ∙ ap (λ r. cond r 1 0) (sym (reached_early history e c.ticket h l.early));
  scene = by (scene_of_load c.kept) l.scene;
  within = subst IsSceneWithin (sym stays) l.within;
}
  where
    stays : scene_at (history ++ e ∷ []) c.ticket ≡ scene_at history c.ticket
    stays = scene_early history (e ∷ []) c.ticket l.early

    by : (o : Option Scene) → IfSome o (λ s. s ≡ scene_at history c.ticket) → IfSome o (λ s. s ≡ scene_at (history ++ e ∷ []) c.ticket)
    by None is = tt
    by (Some s) is = is ∙ sym stays

every : (P Q : Cargo Load → Type 0) → ((c : Cargo Load) → P c → Q c) → (cs : List (Cargo Load)) → AllByRecursion P cs → AllByRecursion Q cs
every P Q later [] all = tt
every P Q later (c ∷ cs) all = (later c all.0, every P Q later cs all.1)

-- so is what is kept with all flights, and with all others
pub all_loaded : (history : History) (e : Entry) (cs : List (Cargo Load)) → AllByRecursion (IsLoaded history) cs → AllByRecursion (IsLoaded (history ++ e ∷ [])) cs
all_loaded history e cs all = every (IsLoaded history) (IsLoaded (history ++ e ∷ [])) (loaded_later history e) cs all

others_of : (P : Cargo Load → Type 0) → (t : ℕ) (cs : List (Cargo Load)) → AllByRecursion P cs → AllByRecursion P (without t cs)
others_of P t [] all = tt
others_of P t (c ∷ cs) all = by (is_of t c) all.1 (others_of P t cs all.1)
  where
    by : (b : Bool) → AllByRecursion P cs → AllByRecursion P (without t cs) → AllByRecursion P (cond b cs (c ∷ without t cs))
    by true same rest = same
    by false same rest = (all.0, rest)

pub others_loaded : (history : History) (e : Entry) (t : ℕ) (cs : List (Cargo Load)) → AllByRecursion (IsLoaded history) cs → AllByRecursion (IsLoaded (history ++ e ∷ [])) (without t cs)
others_loaded history e t cs all = others_of (IsLoaded (history ++ e ∷ [])) t cs (all_loaded history e cs all)

-- an object that was there is there after the change of an entry, but for the close
pub stays_there : (history : History) (e : Entry) (w : ℕ) → (e ≡ Closed → ⊥) → is_there history w ≡ true → is_some (object_at (change (next_place (after history)) e (after history).state) w) ≡ true
stays_there history e w going was = by (object_at (after history).state w) refl was
  where
    by : (o : Option Object) → object_at (after history).state w ≡ o → is_some o ≡ true → is_some (object_at (change (next_place (after history)) e (after history).state) w) ≡ true
    by None none is = absurd cc
    by (Some o) some is =
        still_there (next_place (after history)) e (after history).state (change (next_place (after history)) e (after history).state)
        (entry_changes (next_place (after history)) e (after history).state) going w o some

-- an entry that renders nothing prepares no world
pub same_builds : (history : History) (e : Entry) → rendered e ≡ None → builds (history ++ e ∷ []) ≡ builds history
same_builds history e quiet =
    builds_more history e
    ∙ ap (λ o. builds history + cond (option_map_or (λ w. wants_build (last_use history w)) (option_and_then (world_of (after history).state) o) false) 1 0) quiet
    ∙ plus_none (builds history)
  where
    plus_none : (n : ℕ) → n + 0 ≡ n
    plus_none n = omega arith

-- what an entry leaves, once what nothing holds any more is gone
module _ (history : History) (e : Entry) (moved left : Stored) (dead : List ℕ) (going : e ≡ Closed → ⊥)
    (follows : Follows moved history e) (counted_moved : CountsItsObjects moved) (counted : CountsItsObjects left)
    (is_left : IsLeft moved left) (is_buried : left.state ≡ buried moved) (dies : dead ≡ keys_of (gone moved.state left.state)) where
  pub rests_after : IsAtRest left (history ++ e ∷ [])
  rests_after = rests history e moved follows left counted_moved counted is_left is_buried

  -- of the objects that were there, those are left that did not die
  pub leaves : LeavesBut history e dead
  leaves w was =
      let here : has w (keys_of moved.state.objects) ≡ true =
      has_key w moved.state.objects ∙ ap (λ (s : State). is_some (object_at s w)) follows.state ∙ stays_there history e w going was in
      ap (λ ks. not (has w ks)) dies
      ∙ left_of moved.state.objects left.state.objects w here
      ∙ ap (λ (s : State). is_some (object_at s w)) rests_after.state

module _ (old new : Inside) (e : Entry) (moved : Stored) (mid : Worlds World) (p : AreParts old) (going : e ≡ Closed → ⊥)
    (follows : Follows moved old.history e) (counted_moved : CountsItsObjects moved) (counted : CountsItsObjects new.objects.stored)
    (is_left : IsLeft moved new.objects.stored) (is_buried : new.objects.stored.state ≡ buried moved)
    (departed : new.objects.departed ≡ keys_of (gone moved.state new.objects.stored.state))
    (grown : new.history ≡ old.history ++ e ∷ [])
    (flown : Flown (old.history ++ e ∷ []) (runs_of new.flights.future.flights))
    (loaded : AllByRecursion (IsLoaded (old.history ++ e ∷ [])) new.flights.cargo)
    (aboard : AreAboard new.flights.future.flights new.flights.cargo)
    (over : AllOver (old.history ++ e ∷ []) new.flights.over)
    (lets : LetsNotes (old.history ++ e ∷ []))
    (touched : AreKept (is_there old.history) (old.history ++ e ∷ []) (reach_at mid))
    (shows : AreShown old.history (shown_at shown_by mid))
    (forgotten : (w : ℕ) → kept_at new.worlds w ≡ unless_dead new.objects.departed w (kept_at mid w))
    (known : (history : History) (there : ℕ → Bool) → AreKept there history (reach_at mid) → AreKept (all_but_those new.objects.departed there) history (reach_at new.worlds))
    (built : new.builds ≡ builds (old.history ++ e ∷ []))
    (places : length new.history + length new.flights.future.flights < new.room)
    (stops : length new.flights.future.flights < new.objects.stored.places) where
  leaves_all : LeavesBut old.history e new.objects.departed
  leaves_all = leaves old.history e moved new.objects.stored new.objects.departed going follows counted_moved counted is_left is_buried departed

  -- a world that comes was never rendered
  comes : (w : ℕ) (now : Bool) → is_there old.history w ≡ false → is_there (old.history ++ e ∷ []) w ≡ now → kept_by now (last_use (old.history ++ e ∷ []) w) ≡ None
  comes w false was is = nothing_gone (last_use (old.history ++ e ∷ []) w)
  comes w true was is = by (last_use (old.history ++ e ∷ []) w) refl
    where
      by : (u : Option Use) → last_use (old.history ++ e ∷ []) w ≡ u → kept_by true u ≡ None
      by None none = refl
      by (Some u) some = let wrong : true ≡ false = sym (was_there old.history e w u p.rest.legal some is) ∙ was in absurd cc

  kept_after : AreKept (is_there (old.history ++ e ∷ [])) (old.history ++ e ∷ []) (reach_at new.worlds)
  kept_after w =
      known (old.history ++ e ∷ []) (is_there old.history) touched w
      ∙ ap (λ t. kept_by t (last_use (old.history ++ e ∷ []) w)) (but_those new.objects.departed (is_there old.history) w)
      ∙ by (is_there old.history w) refl
    where
      by : (b : Bool) → is_there old.history w ≡ b → kept_by (not (has w new.objects.departed) && b) (last_use (old.history ++ e ∷ []) w) ≡ kept_by (is_there (old.history ++ e ∷ []) w) (last_use (old.history ++ e ∷ []) w)
      by true was = ap (λ t. kept_by t (last_use (old.history ++ e ∷ []) w)) (and_true (not (has w new.objects.departed)) ∙ leaves_all w was)
        where
          and_true : (b : Bool) → (b && true) ≡ b
          and_true true = refl
          and_true false = refl
      by false was =
          ap (λ t. kept_by t (last_use (old.history ++ e ∷ []) w)) (and_false (not (has w new.objects.departed))) ∙ nothing_gone (last_use (old.history ++ e ∷ []) w)
          ∙ sym (comes w (is_there (old.history ++ e ∷ []) w) was refl)
        where
          and_false : (b : Bool) → (b && false) ≡ false
          and_false true = refl
          and_false false = refl

  shown_still : AreShown old.history (shown_at shown_by new.worlds)
  shown_still w = subst (λ k. MatchOption (option_map (λ k. shown_by k.value) k) (Unit {0}) (λ kept. kept ≡ shown_of (scene_objects (after old.history).state) w)) (sym (forgotten w))
      (by (has w new.objects.departed))
    where
      by : (b : Bool) → MatchOption (option_map (λ k. shown_by k.value) (cond b None (kept_at mid w))) (Unit {0}) (λ kept. kept ≡ shown_of (scene_objects (after old.history).state) w)
      by true = tt
      by false = shows w

  both : (w : ℕ) → is_some (shown_at shown_by new.worlds w) ≡ true → is_some (reach_at new.worlds w) ≡ true
  both w = by (kept_at new.worlds w)
    where
      by : (o : Option (Kept World)) → is_some (option_map (λ k. shown_by k.value) o) ≡ true → is_some (option_map (λ k. k.reach) o) ≡ true
      by None some = some
      by (Some k) some = refl

  pub parts_after : AreParts new
  parts_after = record {
    rest = subst (IsAtRest new.objects.stored) (sym grown)
        (rests_after old.history e moved new.objects.stored new.objects.departed going follows counted_moved counted is_left is_buried departed);
    flown = subst (λ h. Flown h (runs_of new.flights.future.flights)) (sym grown) flown;
    loaded = subst (λ h. AllByRecursion (IsLoaded h) new.flights.cargo) (sym grown) loaded;
    aboard = aboard;
    lets = subst LetsNotes (sym grown) lets;
    kept = subst (λ h. AreKept (is_there h) h (reach_at new.worlds)) (sym grown) kept_after;
    shown = subst (λ h. AreShown h (shown_at shown_by new.worlds)) (sym grown)
        (shown_over old.history e (reach_at new.worlds) (shown_at shown_by new.worlds) follows.legal kept_after both shown_still);
    built = built ∙ ap builds (sym grown);
    over = subst (λ h. AllOver h new.flights.over) (sym grown) over;
    places = places;
    stops = stops;
  }
