use Rattle.std.proofs.Common.{◌≡◌, ◌∙◌, ◌+◌, ◌<◌, [], length, refl, sym, ap, subst, arith}
use Rattle.seq_model.specs.declared.calls.Entry.{Entry}
use Rattle.std.specs.List.{AllByRecursion}
use Rattle.frame_future.specs.Future.{Future}
use Rattle.kept_worlds.specs.KeptMaps.{Worlds, shown_at}
use Rattle.kept_worlds.specs.LastKept.{AreShown, is_there}
use Rattle.object_store.specs.Kept.{Stored}
use Rattle.object_steps.specs.Objects.{Objects}
use Rattle.object_steps.specs.Resting.{IsAtRest}
use Rattle.object_steps.proofs.Starts.{rests_first}
use Rattle.seq_model.specs.Builds.{builds}
use Rattle.seq_model.specs.Extensions.{let_follow, let_follow_from}
use Rattle.world_snapshot.specs.Worlds.{World}
use Rattle.device_laws.specs.FramesStand.{FramesStand}
use Rattle.device_laws.proofs.FramesStandFacts.{frames_first}
use Rattle.device_laws.specs.Over.{AllOver}
use Rattle.device_laws.proofs.OverFacts.{none_over}
use Rattle.device_laws.specs.Replies.{AreTold}
use Rattle.device_laws.specs.Flown.{Flown, LetsNotes, runs_of}
use Rattle.device_laws.proofs.StandingFacts.{first_flown}
use Rattle.device_parts.specs.AllParts.{AreAboard, AreParts, IsLoaded, shown_by}
use Rattle.device_parts.proofs.parts.Parts.new.Goals as goal

lets_first : LetsNotes []
unfolding let_follow let_follow_from
lets_first note quiet = refl

built_first : 0 ≡ builds []
unfolding builds
built_first = refl

pub invariant_of-result : goal.invariant_of-result
invariant_of-result c =
    let same = ap (λ (o : Objects). o.stored) c.make_places.ensures.places in
    let rest : IsAtRest c.make_places.new.self.stored [] = rests_first c.make_places.new.self.stored
    (ap (λ (s : Stored). s.state) same ∙ c.new-objects.ensures.state) (ap (λ (s : Stored). s.public) same ∙ c.new-objects.ensures.public) (ap (λ (s : Stored). s.holds) same ∙ c.new-objects.ensures.holds) in
    let history : [] ≡ c.in_ok-journal.journal.items = sym c.in_ok-journal.ensures.items in
    subst (λ h. AreParts (record { objects = c.make_places.new.self; flights = c.new-2.result; worlds = c.new-3.result; history = h; room = c.in_ok-journal.journal.room; builds = 0 })) history
    (record {
      rest = rest;
      flown = subst (λ (s : Future). Flown [] (runs_of s.flights)) (sym c.new-2.ensures.future) first_flown;
      loaded = subst (AllByRecursion (IsLoaded [])) (sym c.new-2.ensures.cargo) tt;
      aboard = subst (λ (s : Future). AreAboard s.flights c.new-2.result.cargo) (sym c.new-2.ensures.future) (subst (AreAboard []) (sym c.new-2.ensures.cargo) tt);
      lets = lets_first;
      kept = c.new-3.ensures.known (is_there []);
      shown = subst (λ (w : Worlds World). AreShown [] (shown_at shown_by w)) (sym c.new-3.ensures.empty) (λ _. tt);
      built = built_first;
      over = subst (AllOver []) (sym c.new-2.ensures.over) none_over;
      places = subst (λ (s : Future). length {A = Entry} [] + length s.flights < c.in_ok-journal.journal.room) (sym c.new-2.ensures.future)
          (let one = c.in_ok-journal.ensures.room in omega (arith, one));
      stops = subst (λ (s : Future). length s.flights < c.make_places.new.self.stored.places) (sym c.new-2.ensures.future)
          (let room = c.in_ok-make_places.ensures.room in omega (arith, room));
    })

pub returns-clause-stands : goal.returns-clause-stands
returns-clause-stands c = record {
  frames = subst (λ h. FramesStand h c.new-2.result.future) (sym c.in_ok-journal.ensures.items) (subst (FramesStand []) (sym c.new-2.ensures.future) frames_first);
  told = subst (λ (s : Future). AreTold c.in_ok-journal.journal.items s.flights) (sym c.new-2.ensures.future) tt;
}
