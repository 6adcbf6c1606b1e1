use Rattle.std.proofs.Common.{◌≡◌, ◌∙◌, ℕ, true, ◌+◌, ◌<◌, ◌++◌, ◌∷◌, [], None, Some, length, refl, sym, ap, subst}
use Rattle.std.specs.Prelude.{slice_index_or}
use Rattle.std.specs.List.{filter_map}
use Rattle.std.specs.Map.{keys_of}
use Rattle.frame_future.specs.Flights.{Flying}
use Rattle.frame_future.specs.Future.{IsKept, loan_from}
use Rattle.object_store.specs.Gathers.{IsLeft, buried}
use Rattle.object_store.specs.Kept.{CountsItsObjects, Stored}
use Rattle.object_steps.specs.Objects.{Objects}
use Rattle.seq_model.specs.Answers.{answer}
use Rattle.seq_model.specs.Refusals.{refusal}
use Rattle.seq_model.specs.Soundness.{IsRanked}
use Rattle.seq_model.specs.State.{changed_at}
use Rattle.seq_model.specs.Steps.{after, map_channel}
use Rattle.seq_model.specs.Told.{end_of_object, gone}
use Rattle.seq_model.specs.declared.calls.Call.TheVariants.{MapFrame}
use Rattle.seq_model.specs.declared.calls.Entry.TheVariants.{Called}
use Rattle.seq_model.specs.declared.calls.Reply.{Reply}
use Rattle.device_parts.specs.AllParts.{Inside}
use Rattle.device_parts.specs.Calls.{HasEntered}
use Rattle.device_parts.specs.Maps.{HasLent, HasMapped, told_of}
use Rattle.device_parts.specs.Standing.{IsStanding}
use Rattle.device_parts.proofs.MapFacts.{map_answers, map_enters, map_finds, map_flights, map_grants, map_parts, map_ranked, map_stands, moved}
use Rattle.device_parts.proofs.parts.Parts.enter_map.Goals as goal

pub map_channel-requires-clause-granted : goal.map_channel-requires-clause-granted
map_channel-requires-clause-granted c =
    let old : Inside = record { objects = c.self.inside.objects; flights = c.self.inside.flights; worlds = c.self.inside.worlds; history = c.self.inside.journal.items; room = c.self.inside.journal.room; builds = c.self.inside.builds } in
    let h = c.args.h in
    let channel = c.args.channel in
    let p = c.self.invariant in
    let stands : IsStanding old = subst IsStanding (sym c.self.view_is) c.requires.stands in
    let none : refusal (after old.history) (MapFrame h channel) ≡ None = subst (λ (i : Inside). refusal (after i.history) (MapFrame h channel) ≡ None) (sym c.self.view_is) c.requires.granted in
    map_grants old h channel p stands none

pub map_channel-requires-clause-there : goal.map_channel-requires-clause-there
map_channel-requires-clause-there c =
    let old : Inside = record { objects = c.self.inside.objects; flights = c.self.inside.flights; worlds = c.self.inside.worlds; history = c.self.inside.journal.items; room = c.self.inside.journal.room; builds = c.self.inside.builds } in
    let h = c.args.h in
    let channel = c.args.channel in
    let p = c.self.invariant in
    let stands : IsStanding old = subst IsStanding (sym c.self.view_is) c.requires.stands in
    let none : refusal (after old.history) (MapFrame h channel) ≡ None = subst (λ (i : Inside). refusal (after i.history) (MapFrame h channel) ≡ None) (sym c.self.view_is) c.requires.granted in
    map_finds old h channel p stands none

pub bury-requires-clause-ranked : goal.bury-requires-clause-ranked
bury-requires-clause-ranked c =
    let old : Inside = record { objects = c.self.inside.objects; flights = c.self.inside.flights; worlds = c.self.inside.worlds; history = c.self.inside.journal.items; room = c.self.inside.journal.room; builds = c.self.inside.builds } in
    let h = c.args.h in
    let channel = c.args.channel in
    let p = c.self.invariant in
    let stands : IsStanding old = subst IsStanding (sym c.self.view_is) c.requires.stands in
    let none : refusal (after old.history) (MapFrame h channel) ≡ None = subst (λ (i : Inside). refusal (after i.history) (MapFrame h channel) ≡ None) (sym c.self.view_is) c.requires.granted in
    let actor = c.args.actor in
    let m = c.in_ok-loan.field-0 in
    let place : c.entries-number.result + 1 ≡ length old.history + 1 = ap (λ n. n + 1) (c.entries-number.ensures.count ∙ ap (λ (i : Inside). length i.history) (sym c.self.view_is)) in
    let lent : HasLent h channel (length old.history + 1) m.loan old.flights c.map_channel.new.flights = subst (λ n. HasLent h channel n m.loan old.flights c.map_channel.new.flights) place c.in_ok-loan.ensures.lent in
    let f = lent.picture in
    let next : Stored = moved old h channel p stands none f lent.shown actor in
    let moves : c.map_channel.new.objects.stored ≡ next = ap (λ (o : Objects). o.stored) c.in_ok-loan.ensures.objects ∙ ap (λ n. record old.objects.stored { state = changed_at h (map_channel channel n) old.objects.stored.state }) place in
    subst (λ (s : Stored). IsRanked s.state.objects) (sym moves) (map_ranked old h channel p stands none f lent.shown actor)

pub invariant_of-self-2 : goal.invariant_of-self-2
invariant_of-self-2 c =
    let old : Inside = record { objects = c.self.inside.objects; flights = c.self.inside.flights; worlds = c.self.inside.worlds; history = c.self.inside.journal.items; room = c.self.inside.journal.room; builds = c.self.inside.builds } in
    let h = c.args.h in
    let channel = c.args.channel in
    let p = c.self.invariant in
    let stands : IsStanding old = subst IsStanding (sym c.self.view_is) c.requires.stands in
    let none : refusal (after old.history) (MapFrame h channel) ≡ None = subst (λ (i : Inside). refusal (after i.history) (MapFrame h channel) ≡ None) (sym c.self.view_is) c.requires.granted in
    let actor = c.args.actor in
    let m = c.in_ok-loan.field-0 in
    let place : c.entries-number.result + 1 ≡ length old.history + 1 = ap (λ n. n + 1) (c.entries-number.ensures.count ∙ ap (λ (i : Inside). length i.history) (sym c.self.view_is)) in
    let lent : HasLent h channel (length old.history + 1) m.loan old.flights c.map_channel.new.flights = subst (λ n. HasLent h channel n m.loan old.flights c.map_channel.new.flights) place c.in_ok-loan.ensures.lent in
    let f = lent.picture in
    let next : Stored = moved old h channel p stands none f lent.shown actor in
    let moves : c.map_channel.new.objects.stored ≡ next = ap (λ (o : Objects). o.stored) c.in_ok-loan.ensures.objects ∙ ap (λ n. record old.objects.stored { state = changed_at h (map_channel channel n) old.objects.stored.state }) place in
    let new : Inside = record { objects = c.bury.new.objects; flights = c.bury.new.flights; worlds = c.bury.new.worlds; history = c.push_reserved.new.self.items; room = c.push_reserved.new.self.room; builds = c.self.inside.builds } in
    let told : (r : Reply) → r ≡ told_of m.loan → r ≡ told_of (loan_from f channel (length old.history + 1)) = λ r is. is ∙ ap told_of lent.loan_is in
    let grown : c.push_reserved.new.self.items ≡ old.history ++ Called actor (MapFrame h channel) (told_of (loan_from f channel (length old.history + 1))) ∷ [] =
    c.push_reserved.ensures.items ∙ ap (λ r. old.history ++ Called actor (MapFrame h channel) r ∷ []) (told m.entered c.in_ok-loan.ensures.entered) in
    map_parts old h channel p stands none f lent.shown actor new c.map_channel.new.flights
    (subst CountsItsObjects (c.store.ensures ∙ moves) c.counts_its_objects.ensures)
    (subst CountsItsObjects c.store-2.ensures c.counts_its_objects-2.ensures)
    (subst (λ s. IsLeft s c.bury.new.objects.stored) moves c.bury.ensures.left)
    (c.bury.ensures.state ∙ ap buried moves)
    (c.bury.ensures.departed ∙ ap (λ (s : Stored). keys_of (gone s.state c.bury.new.objects.stored.state)) moves)
    grown lent.flights c.bury.ensures.flights
    c.bury.ensures.forgotten c.bury.ensures.known refl c.push_reserved.ensures.room
    (subst (λ (i : Inside). length i.history + length i.flights.future.flights + 1 < i.room) (sym c.self.view_is) c.requires.place)

pub returns-clause-entered : goal.returns-clause-entered
returns-clause-entered c =
    let old : Inside = record { objects = c.self.inside.objects; flights = c.self.inside.flights; worlds = c.self.inside.worlds; history = c.self.inside.journal.items; room = c.self.inside.journal.room; builds = c.self.inside.builds } in
    let h = c.args.h in
    let channel = c.args.channel in
    let p = c.self.invariant in
    let stands : IsStanding old = subst IsStanding (sym c.self.view_is) c.requires.stands in
    let none : refusal (after old.history) (MapFrame h channel) ≡ None = subst (λ (i : Inside). refusal (after i.history) (MapFrame h channel) ≡ None) (sym c.self.view_is) c.requires.granted in
    let actor = c.args.actor in
    let m = c.in_ok-loan.field-0 in
    let place : c.entries-number.result + 1 ≡ length old.history + 1 = ap (λ n. n + 1) (c.entries-number.ensures.count ∙ ap (λ (i : Inside). length i.history) (sym c.self.view_is)) in
    let lent : HasLent h channel (length old.history + 1) m.loan old.flights c.map_channel.new.flights = subst (λ n. HasLent h channel n m.loan old.flights c.map_channel.new.flights) place c.in_ok-loan.ensures.lent in
    let f = lent.picture in
    let next : Stored = moved old h channel p stands none f lent.shown actor in
    let moves : c.map_channel.new.objects.stored ≡ next = ap (λ (o : Objects). o.stored) c.in_ok-loan.ensures.objects ∙ ap (λ n. record old.objects.stored { state = changed_at h (map_channel channel n) old.objects.stored.state }) place in
    let new : Inside = record { objects = c.bury.new.objects; flights = c.bury.new.flights; worlds = c.bury.new.worlds; history = c.push_reserved.new.self.items; room = c.push_reserved.new.self.room; builds = c.self.inside.builds } in
    let told : (r : Reply) → r ≡ told_of m.loan → r ≡ told_of (loan_from f channel (length old.history + 1)) = λ r is. is ∙ ap told_of lent.loan_is in
    let grown : c.push_reserved.new.self.items ≡ old.history ++ Called actor (MapFrame h channel) (told_of (loan_from f channel (length old.history + 1))) ∷ [] =
    c.push_reserved.ensures.items ∙ ap (λ r. old.history ++ Called actor (MapFrame h channel) r ∷ []) (told m.entered c.in_ok-loan.ensures.entered) in
    let notices = c.bury.ensures.notices ∙ ap (λ (s : Stored). filter_map end_of_object (gone s.state c.bury.new.objects.stored.state)) moves in
    subst (λ (before : Inside). HasEntered actor (MapFrame h channel) m.answer before new) c.self.view_is
    (subst (λ r. HasEntered actor (MapFrame h channel) r old new) (sym (told m.answer c.in_ok-loan.ensures.answer))
    (map_enters old h channel p stands none f lent.shown actor new c.map_channel.new.flights
    (subst CountsItsObjects (c.store.ensures ∙ moves) c.counts_its_objects.ensures)
    (subst CountsItsObjects c.store-2.ensures c.counts_its_objects-2.ensures)
    (subst (λ s. IsLeft s c.bury.new.objects.stored) moves c.bury.ensures.left)
    (c.bury.ensures.state ∙ ap buried moves)
    (c.bury.ensures.departed ∙ ap (λ (s : Stored). keys_of (gone s.state c.bury.new.objects.stored.state)) moves)
    grown lent.flights c.bury.ensures.flights
    c.bury.ensures.forgotten c.bury.ensures.known refl c.push_reserved.ensures.room
    notices))

pub returns-clause-answered : goal.returns-clause-answered
returns-clause-answered c =
    let old : Inside = record { objects = c.self.inside.objects; flights = c.self.inside.flights; worlds = c.self.inside.worlds; history = c.self.inside.journal.items; room = c.self.inside.journal.room; builds = c.self.inside.builds } in
    let h = c.args.h in
    let channel = c.args.channel in
    let p = c.self.invariant in
    let stands : IsStanding old = subst IsStanding (sym c.self.view_is) c.requires.stands in
    let none : refusal (after old.history) (MapFrame h channel) ≡ None = subst (λ (i : Inside). refusal (after i.history) (MapFrame h channel) ≡ None) (sym c.self.view_is) c.requires.granted in
    let actor = c.args.actor in
    let m = c.in_ok-loan.field-0 in
    let place : c.entries-number.result + 1 ≡ length old.history + 1 = ap (λ n. n + 1) (c.entries-number.ensures.count ∙ ap (λ (i : Inside). length i.history) (sym c.self.view_is)) in
    let lent : HasLent h channel (length old.history + 1) m.loan old.flights c.map_channel.new.flights = subst (λ n. HasLent h channel n m.loan old.flights c.map_channel.new.flights) place c.in_ok-loan.ensures.lent in
    let f = lent.picture in
    let next : Stored = moved old h channel p stands none f lent.shown actor in
    let moves : c.map_channel.new.objects.stored ≡ next = ap (λ (o : Objects). o.stored) c.in_ok-loan.ensures.objects ∙ ap (λ n. record old.objects.stored { state = changed_at h (map_channel channel n) old.objects.stored.state }) place in
    let told : (r : Reply) → r ≡ told_of m.loan → r ≡ told_of (loan_from f channel (length old.history + 1)) = λ r is. is ∙ ap told_of lent.loan_is in
    subst (λ (i : Inside). answer (after i.history) (MapFrame h channel) ≡ Some m.answer) c.self.view_is
    (map_answers old h channel p stands none f lent.shown ∙ ap (λ r. Some r) (sym (told m.answer c.in_ok-loan.ensures.answer)))

pub returns-clause-mapped : goal.returns-clause-mapped
returns-clause-mapped c =
    let old : Inside = record { objects = c.self.inside.objects; flights = c.self.inside.flights; worlds = c.self.inside.worlds; history = c.self.inside.journal.items; room = c.self.inside.journal.room; builds = c.self.inside.builds } in
    let h = c.args.h in
    let channel = c.args.channel in
    let p = c.self.invariant in
    let stands : IsStanding old = subst IsStanding (sym c.self.view_is) c.requires.stands in
    let none : refusal (after old.history) (MapFrame h channel) ≡ None = subst (λ (i : Inside). refusal (after i.history) (MapFrame h channel) ≡ None) (sym c.self.view_is) c.requires.granted in
    let actor = c.args.actor in
    let m = c.in_ok-loan.field-0 in
    let place : c.entries-number.result + 1 ≡ length old.history + 1 = ap (λ n. n + 1) (c.entries-number.ensures.count ∙ ap (λ (i : Inside). length i.history) (sym c.self.view_is)) in
    let lent : HasLent h channel (length old.history + 1) m.loan old.flights c.map_channel.new.flights = subst (λ n. HasLent h channel n m.loan old.flights c.map_channel.new.flights) place c.in_ok-loan.ensures.lent in
    let f = lent.picture in
    let next : Stored = moved old h channel p stands none f lent.shown actor in
    let moves : c.map_channel.new.objects.stored ≡ next = ap (λ (o : Objects). o.stored) c.in_ok-loan.ensures.objects ∙ ap (λ n. record old.objects.stored { state = changed_at h (map_channel channel n) old.objects.stored.state }) place in
    let new : Inside = record { objects = c.bury.new.objects; flights = c.bury.new.flights; worlds = c.bury.new.worlds; history = c.push_reserved.new.self.items; room = c.push_reserved.new.self.room; builds = c.self.inside.builds } in
    let told : (r : Reply) → r ≡ told_of m.loan → r ≡ told_of (loan_from f channel (length old.history + 1)) = λ r is. is ∙ ap told_of lent.loan_is in
    let grown : c.push_reserved.new.self.items ≡ old.history ++ Called actor (MapFrame h channel) (told_of (loan_from f channel (length old.history + 1))) ∷ [] =
    c.push_reserved.ensures.items ∙ ap (λ r. old.history ++ Called actor (MapFrame h channel) r ∷ []) (told m.entered c.in_ok-loan.ensures.entered) in
    subst (λ (before : Inside). HasMapped h channel m.loan before new) c.self.view_is (record { flights = c.map_channel.new.flights; lent = lent; left = c.bury.ensures.flights })

pub returns-clause-stands : goal.returns-clause-stands
returns-clause-stands c =
    let old : Inside = record { objects = c.self.inside.objects; flights = c.self.inside.flights; worlds = c.self.inside.worlds; history = c.self.inside.journal.items; room = c.self.inside.journal.room; builds = c.self.inside.builds } in
    let h = c.args.h in
    let channel = c.args.channel in
    let p = c.self.invariant in
    let stands : IsStanding old = subst IsStanding (sym c.self.view_is) c.requires.stands in
    let none : refusal (after old.history) (MapFrame h channel) ≡ None = subst (λ (i : Inside). refusal (after i.history) (MapFrame h channel) ≡ None) (sym c.self.view_is) c.requires.granted in
    let actor = c.args.actor in
    let m = c.in_ok-loan.field-0 in
    let place : c.entries-number.result + 1 ≡ length old.history + 1 = ap (λ n. n + 1) (c.entries-number.ensures.count ∙ ap (λ (i : Inside). length i.history) (sym c.self.view_is)) in
    let lent : HasLent h channel (length old.history + 1) m.loan old.flights c.map_channel.new.flights = subst (λ n. HasLent h channel n m.loan old.flights c.map_channel.new.flights) place c.in_ok-loan.ensures.lent in
    let f = lent.picture in
    let next : Stored = moved old h channel p stands none f lent.shown actor in
    let moves : c.map_channel.new.objects.stored ≡ next = ap (λ (o : Objects). o.stored) c.in_ok-loan.ensures.objects ∙ ap (λ n. record old.objects.stored { state = changed_at h (map_channel channel n) old.objects.stored.state }) place in
    let new : Inside = record { objects = c.bury.new.objects; flights = c.bury.new.flights; worlds = c.bury.new.worlds; history = c.push_reserved.new.self.items; room = c.push_reserved.new.self.room; builds = c.self.inside.builds } in
    let told : (r : Reply) → r ≡ told_of m.loan → r ≡ told_of (loan_from f channel (length old.history + 1)) = λ r is. is ∙ ap told_of lent.loan_is in
    let grown : c.push_reserved.new.self.items ≡ old.history ++ Called actor (MapFrame h channel) (told_of (loan_from f channel (length old.history + 1))) ∷ [] =
    c.push_reserved.ensures.items ∙ ap (λ r. old.history ++ Called actor (MapFrame h channel) r ∷ []) (told m.entered c.in_ok-loan.ensures.entered) in
    map_stands old h channel p stands none f lent.shown actor new c.map_channel.new.flights
    (subst CountsItsObjects (c.store.ensures ∙ moves) c.counts_its_objects.ensures)
    (subst CountsItsObjects c.store-2.ensures c.counts_its_objects-2.ensures)
    (subst (λ s. IsLeft s c.bury.new.objects.stored) moves c.bury.ensures.left)
    (c.bury.ensures.state ∙ ap buried moves)
    (c.bury.ensures.departed ∙ ap (λ (s : Stored). keys_of (gone s.state c.bury.new.objects.stored.state)) moves)
    grown lent.flights c.bury.ensures.flights
    c.bury.ensures.forgotten c.bury.ensures.known refl c.push_reserved.ensures.room
    (subst IsKept c.frames.ensures.value c.are_kept.ensures)

pub returns-clause-home : goal.returns-clause-home
returns-clause-home c =
    let old : Inside = record { objects = c.self.inside.objects; flights = c.self.inside.flights; worlds = c.self.inside.worlds; history = c.self.inside.journal.items; room = c.self.inside.journal.room; builds = c.self.inside.builds } in
    let h = c.args.h in
    let channel = c.args.channel in
    let p = c.self.invariant in
    let stands : IsStanding old = subst IsStanding (sym c.self.view_is) c.requires.stands in
    let none : refusal (after old.history) (MapFrame h channel) ≡ None = subst (λ (i : Inside). refusal (after i.history) (MapFrame h channel) ≡ None) (sym c.self.view_is) c.requires.granted in
    let actor = c.args.actor in
    let m = c.in_ok-loan.field-0 in
    let place : c.entries-number.result + 1 ≡ length old.history + 1 = ap (λ n. n + 1) (c.entries-number.ensures.count ∙ ap (λ (i : Inside). length i.history) (sym c.self.view_is)) in
    let lent : HasLent h channel (length old.history + 1) m.loan old.flights c.map_channel.new.flights = subst (λ n. HasLent h channel n m.loan old.flights c.map_channel.new.flights) place c.in_ok-loan.ensures.lent in
    let f = lent.picture in
    let next : Stored = moved old h channel p stands none f lent.shown actor in
    let moves : c.map_channel.new.objects.stored ≡ next = ap (λ (o : Objects). o.stored) c.in_ok-loan.ensures.objects ∙ ap (λ n. record old.objects.stored { state = changed_at h (map_channel channel n) old.objects.stored.state }) place in
    let new : Inside = record { objects = c.bury.new.objects; flights = c.bury.new.flights; worlds = c.bury.new.worlds; history = c.push_reserved.new.self.items; room = c.push_reserved.new.self.room; builds = c.self.inside.builds } in
    let told : (r : Reply) → r ≡ told_of m.loan → r ≡ told_of (loan_from f channel (length old.history + 1)) = λ r is. is ∙ ap told_of lent.loan_is in
    let grown : c.push_reserved.new.self.items ≡ old.history ++ Called actor (MapFrame h channel) (told_of (loan_from f channel (length old.history + 1))) ∷ [] =
    c.push_reserved.ensures.items ∙ ap (λ r. old.history ++ Called actor (MapFrame h channel) r ∷ []) (told m.entered c.in_ok-loan.ensures.entered) in
    subst (λ fs. (k : ℕ) (d : Flying) → k < length fs → (slice_index_or fs k d).home ≡ true)
    (sym (map_flights old h channel p stands none f lent.shown actor new c.map_channel.new.flights
    (subst CountsItsObjects (c.store.ensures ∙ moves) c.counts_its_objects.ensures)
    (subst CountsItsObjects c.store-2.ensures c.counts_its_objects-2.ensures)
    (subst (λ s. IsLeft s c.bury.new.objects.stored) moves c.bury.ensures.left)
    (c.bury.ensures.state ∙ ap buried moves)
    (c.bury.ensures.departed ∙ ap (λ (s : Stored). keys_of (gone s.state c.bury.new.objects.stored.state)) moves)
    grown lent.flights c.bury.ensures.flights
    c.bury.ensures.forgotten c.bury.ensures.known refl c.push_reserved.ensures.room
    ∙ ap (λ (i : Inside). i.flights.future.flights) c.self.view_is)) c.requires.home
