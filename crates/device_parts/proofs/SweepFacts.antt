-- Sweeps, note by note.
use Rattle.std.proofs.Common.{◌≡◌, ◌∙◌, ℕ, ◌+◌, ◌<◌, List, [], ◌∷◌, ◌++◌, Option, Some, None, length, length-append, refl, sym, ap, ap₂, subst, arith}
use Rattle.std.proofs.lemmas.List.{append-nil}
use Rattle.std.specs.List.{AllByRecursion, filter_map}
use Rattle.flight_books.specs.Kept.{without}
use Rattle.flight_books.specs.Sweeps.{IsSwept, IsUnderWay, note, note_of_end}
use Rattle.flight_books.proofs.SweepLaws.{begins, fewer, goes_on, is_over}
use Rattle.frame_future.specs.Future.{AreHome, Finished, Future}
use Rattle.frame_future.specs.Reads.{AreSeen, ended_by, pictures_of}
use Rattle.frame_future.specs.declared.phase.Ended.{Ended}
use Rattle.object_steps.specs.Objects.{tellable}
use Rattle.object_store.specs.Ends.{notice_of}
use Rattle.seq_model.proofs.Tellings.{told_more}
use Rattle.seq_model.specs.Told.{told}
use Rattle.device_parts.specs.AllParts.{Inside}
use Rattle.device_parts.specs.Deaths.{all_told}
use Rattle.device_parts.specs.Notes.{HasNoted, HasNotedNothing}
use Rattle.device_parts.specs.Sweeps.{HasSwept, showing}
use Rattle.device_laws.proofs.FramesStandFacts.{fewer_kept}
use Rattle.device_parts.proofs.SeenFacts.{none_seen, seen_count}

-- a look at flights sees the same whatever pictures there are
seen_with : (last : ℕ) (old new : Future) (result : Option Ended) (pictures : List Finished) → (s : AreSeen last old new result)
    → AreSeen last (record old { pictures = pictures }) (record new { pictures = pictures ++ pictures_of (ended_by s.seen s.reads) }) result
seen_with last old new result pictures s = record {
  passed = s.passed;
  seen = s.seen;
  behind = s.behind;
  reads = s.reads;
  there = s.there;
  below = s.below;
  above = s.above;
  read = s.read;
  flights = s.flights;
  pictures = refl;
  over = s.over;
  was = s.was;
}

-- a sweep under way
pub record IsSweeping (old now : Inside) (last : ℕ) : Type 0 where
  pub pictures : List Finished
  pub under_way : IsUnderWay old.flights (showing pictures now.flights) old.history now.history last
  pub home : AreHome now.flights.future
  pub dead : now.objects.dead ≡ []
  pub room : now.room ≡ old.room

pub sweeping_begins : (old : Inside) → AreHome old.flights.future → old.objects.dead ≡ [] → AllByRecursion (λ f. 0 < f.ticket) old.flights.future.flights → IsSweeping old old 0
sweeping_begins old home dead above = record {
  pictures = old.flights.future.pictures;
  under_way = begins old.flights old.history above;
  home = home;
  dead = dead;
  room = refl;
}

module _ (old now mid : Inside) (last t : ℕ) (s : IsSweeping old now last) (noted : HasNoted last now mid t) where
  flights_are : mid.flights.future.flights ≡ noted.looked.flights
  flights_are = ap (λ (f : Future). f.flights) noted.left ∙ (fewer_kept noted.looked mid.objects.departed).0

  pub sweeping_fewer : length mid.flights.future.flights + 1 ≡ length now.flights.future.flights
  sweeping_fewer = let one = fewer last now.flights.future noted.looked noted.ended noted.seen in let same = ap length flights_are in omega (arith, one, same)

  abbrev sight : List Finished
  sight = s.pictures ++ pictures_of (ended_by noted.seen.seen noted.seen.reads)

  seen_now : AreSeen last (showing s.pictures now.flights).future (showing sight mid.flights).future (Some noted.ended)
  seen_now = subst (λ fs. AreSeen last (showing s.pictures now.flights).future (record { flights = fs; pictures = sight }) (Some noted.ended)) (sym flights_are)
      (seen_with last now.flights.future noted.looked (Some noted.ended) s.pictures noted.seen)

  pub sweeping_on : AreHome mid.flights.future → IsSweeping old (all_told mid) t
  sweeping_on home = record {
    pictures = sight;
    under_way = subst (λ h. IsUnderWay old.flights (showing sight mid.flights) old.history h t) (sym (noted.grown ∙ ap (λ u. now.history ++ note noted.ended.left u ∷ []) (sym noted.ticket)))
        (subst (λ u. IsUnderWay old.flights (showing sight mid.flights) old.history (now.history ++ note_of_end noted.ended ∷ []) u) noted.ticket
        (goes_on old.flights (showing s.pictures now.flights) (showing sight mid.flights) old.history now.history last noted.ended s.under_way seen_now
        (noted.cargo ∙ ap (λ u. without u now.flights.cargo) (sym noted.ticket)) noted.over));
    home = home;
    dead = refl;
    room = noted.room ∙ s.room;
  }

pub sweeping_over : (old now new : Inside) (last : ℕ) → IsSweeping old now last → HasNotedNothing last now new → HasSwept old new
sweeping_over old now new last s nothing =
    let seen = seen_with last now.flights.future new.flights.future None s.pictures nothing.seen in
    let sight : List Finished = s.pictures ++ pictures_of (ended_by nothing.seen.seen nothing.seen.reads) in
    let history = ap (λ (i : Inside). i.history) nothing.rest in
    record {
      pictures = sight;
      flights = subst (λ h. IsSwept old.flights (showing sight new.flights) old.history h) (sym history)
          (is_over old.flights (showing s.pictures now.flights) (showing sight new.flights) old.history now.history last s.under_way seen nothing.cargo (nothing.over ∙ sym (append-nil now.flights.over)));
      room = ap (λ (i : Inside). i.room) nothing.rest ∙ s.room;
    }

-- with a note the client is told what the note tells
pub noted_tells : (now mid : Inside) (last t : ℕ) → HasNoted last now mid t → told now.history ++ filter_map notice_of mid.objects.dead ≡ told mid.history
noted_tells now mid last t noted =
    ap (λ ns. told now.history ++ ns) noted.told ∙ sym (told_more now.history (note noted.ended.left t)) ∙ ap told (sym noted.grown)

-- the note takes the place of its flight
pub one_noted : (now mid : Inside) (last t : ℕ) → HasNoted last now mid t → length mid.history + length mid.flights.future.flights ≡ length now.history + length now.flights.future.flights
one_noted now mid last t noted =
    let one = fewer last now.flights.future noted.looked noted.ended noted.seen in
    let same = ap (λ (f : Future). length f.flights) noted.left ∙ ap length (fewer_kept noted.looked mid.objects.departed).0 in
    let longer = ap length noted.grown ∙ length-append now.history (note noted.ended.left t ∷ []) in
    omega (arith, one, same, longer)

pub none_noted : (now new : Inside) (last : ℕ) → HasNotedNothing last now new → length new.history + length new.flights.future.flights ≡ length now.history + length now.flights.future.flights
none_noted now new last nothing =
    ap₂ (λ m n. m + n) (ap (λ (i : Inside). length i.history) nothing.rest)
    (seen_count now.flights.future new.flights.future (none_seen last now.flights.future new.flights.future nothing.seen))

-- where none was noted, nobody less is to be told of
pub none_to_tell : (now new : Inside) (last : ℕ) → HasNotedNothing last now new → tellable new.objects.stored.state ≡ tellable now.objects.stored.state
none_to_tell now new last nothing = ap (λ (i : Inside). tellable i.objects.stored.state) nothing.rest
