-- A call that is entered, and a note, step by step.
use Rattle.std.proofs.Common.{◌*◌, cond, Bool, true, false, ◌≡◌, ◌∙◌, ◌≤◌, ◌<◌, ◌+◌, ◌-◌, ◌^◌, ℕ, true, List, ◌++◌, ◌∷◌, [], Option, Some, None, length, vec_capacity, refl, sym, ap, subst, arith}
use Rattle.std.specs.List.{filter_map}
use Rattle.std.specs.Option.{IsSomeAnd, option_and_then, option_map, option_or, unwrap_or}
use Rattle.std.proofs.lemmas.List.{length-append, length-map}
use Rattle.seq_model.proofs.Handles.{IsRising, changed_rises, rises}
use Rattle.seq_model.specs.Answers.{answer, granted}
use Rattle.seq_model.specs.Histories.{frame_at, rendered, is_making, is_releasing, is_retaining}
use Rattle.seq_model.specs.Life.{is_root, live, has}
use Rattle.seq_model.specs.Legal.{Legal, is_content_sound, is_flying}
use Rattle.seq_model.specs.Pictures.{scene_at}
use Rattle.seq_model.specs.State.{State, flights, Object, Flight, changed_at}
use Rattle.seq_model.specs.Steps.{is_reached, Past, after, change, effect, next_place, step, with_reach, end_flights, set_phase}
use Rattle.seq_model.specs.Told.{end_of_object, gone, removed, status_at, told_by}
use Rattle.seq_model.specs.declared.calls.Call.{Call}
use Rattle.seq_model.specs.declared.calls.Call.TheVariants.{NewObject, NewArray, RenderFrame, Retain, UnmapParameterArray}
use Rattle.seq_model.specs.declared.calls.Entry.{Entry}
use Rattle.seq_model.specs.declared.calls.Entry.TheVariants.{Called, Finished, Left}
use Rattle.seq_model.specs.declared.calls.Reply.{Reply}
use Rattle.seq_model.specs.declared.calls.Reply.TheVariants as reply
use Rattle.picture_model.specs.Limits.{IsSceneWithin}
use Rattle.plain_journal.proofs.Entering.{countable}
use Rattle.past_laws.proofs.Sizes.{effect_stops, few_flights, next_moves, few_keys}
use Rattle.plain_journal.proofs.Legality.{called_is_legal}
use Rattle.plain_journal.proofs.RendersKept.{other_keeps_renders, rendered_is_known}
use Rattle.plain_journal.proofs.WholeFacts.{past_steps, whole_next}
use Rattle.plain_journal.specs.Booked.{IsCalled, IsMarked, IsSame, IsRendered, IsNoted, HasSpace}
use Rattle.plain_journal.specs.Counting.{IsCountable}
use Rattle.past_laws.specs.Making.{handles_made}
use Rattle.plain_objects.specs.Counts.{count_at}
use Rattle.plain_journal.specs.Kept.{KnowsRenders, Shows, render_with}
use Rattle.plain_journal.specs.Unseen.{IsUnseen}
use Rattle.past_laws.specs.Open.{IsOpen}
use Rattle.plain_journal.specs.Uses.{FitsWorld}
use Rattle.plain_journal.specs.Whole.{IsEntered, IsStepped, IsWhole, changed_in_past, past_in, swept_by}
use Rattle.past_laws.specs.Worlds.{KnowsWorlds, render_of, world_of}
use Rattle.plain_journal.specs.declared.books.Books.{Books}
use Rattle.plain_journal.specs.declared.renders.Render.{Render}
use Rattle.seq_model.specs.Builds.{is_touching}
use Rattle.past_laws.proofs.FlightFacts.{finished_frees, left_frees}
use Rattle.past_laws.proofs.WorldFacts.{knows_still}
use Rattle.plain_journal.specs.Ready.{IsReady}
use Rattle.past_laws.specs.Prepared.{reach_of, world_reach}
use Rattle.plain_journal.specs.declared.prepared.Prepared.{Prepared}
use Rattle.std.specs.Map.{keys_of}
use Rattle.dev_types.specs.declared.refusals.Refused.{Refused}
use Rattle.seq_model.specs.Refusals.{refusal}
use Rattle.seq_model.specs.Endings.{reply_to}

-- what is known of a device is unseen, and its renders are within the limits
pub was_unseen : (stage : State) (old : Books) → IsWhole stage old → IsUnseen old.journal.items
was_unseen stage old whole = record { legal = whole.kept.legal; unseen = whole.kept.unseen }

pub scenes_within : (stage : State) (old : Books) → IsWhole stage old → (t f : ℕ) → frame_at old.journal.items t ≡ Some f → IsSceneWithin (scene_at old.journal.items t)
scenes_within stage old whole t f found = by (render_with t old.renders.items) (whole.kept.shown.kept t f found)
  where
    by : (r : Option Render) → IsSomeAnd r (Shows old.journal.items t) → IsSceneWithin (scene_at old.journal.items t)
    by None shows = absurd shows
    by (Some r) shows = subst IsSceneWithin shows.scene shows.within

-- other marks change nothing
entered_marked : (stage : State) (old : Books) (e : Entry) (new final : Books) → IsEntered stage old e new → IsMarked new final → IsEntered stage old e final
entered_marked stage old e new final entered marked = record {
  journal = ap (λ j. j.items) marked.journal ∙ entered.journal;
  reached = ap (λ rs. rs.items) marked.reached ∙ entered.reached;
  counted = λ h. omega (arith, entered.counted h, ap (λ hs. count_at hs.items h) marked.held);
  handles = ap (λ hs. length hs.items + 1) marked.held ∙ entered.handles;
  renders = subst (λ j. KnowsRenders j final.renders.items) (sym (ap (λ j. j.items) marked.journal)) (subst (KnowsRenders new.journal.items) (sym (ap (λ rs. rs.items) marked.renders)) entered.renders);
  worlds = subst (λ j. KnowsWorlds j final.worlds) (sym (ap (λ j. j.items) marked.journal)) (subst (KnowsWorlds new.journal.items) (sym marked.worlds) entered.worlds);
  marks = omega (arith, marked.marks, entered.marks, ap (λ hs. length hs.items) marked.held);
  room = omega (arith, entered.room, ap (λ j. length j.items) marked.journal, ap (λ j. vec_capacity j) marked.journal);
}

-- the objects and the books after an entry that is no close
pub stepped : (stage : State) (old : Books) (e : Entry) (new final : Books) (left : State) → IsWhole stage old → IsEntered stage old e new → IsMarked new final →
    IsUnseen (old.journal.items ++ e ∷ []) → left ≡ swept_by new (changed_in_past stage old e) →
    (removed (past_in stage old) e ≡ gone (changed_in_past stage old e) (step (past_in stage old) e).state) → IsStepped stage old e left final
unfolding told_by
stepped stage old e new final left whole entered marked unseen is ends =
    let done : IsEntered stage old e final = entered_marked stage old e new final entered marked in
    let same : left ≡ swept_by final (changed_in_past stage old e) = is ∙ swept_alike in
    let past : past_in left final ≡ step (past_in stage old) e =
    ap (λ s. past_in s final) same ∙ past_steps stage old e final whole done unseen.legal in
    record {
      past = past;
      whole = subst (λ s. IsWhole s final) (sym same) (whole_next stage old e final whole done unseen);
      told = ap (λ gone. status_at e ++ filter_map end_of_object gone) (ap (λ p. gone (changed_in_past stage old e) p.state) past ∙ sym ends);
    }
  where
    swept_alike : swept_by new (changed_in_past stage old e) ≡ swept_by final (changed_in_past stage old e)
    swept_alike =
        let s : State = changed_in_past stage old e in
        ap (λ hs. record s { objects = live (is_root (count_at hs.items) (is_reached new.reached.items s)) s.objects }) (sym marked.held)
        ∙ ap (λ rs. record s { objects = live (is_root (count_at final.held.items) (is_reached rs.items s)) s.objects }) (sym marked.reached)

-- a call that is no render comes with no world
no_world : (s : State) (actor : ℕ) (c : Call) (r : Reply) → rendered (Called actor c r) ≡ None → FitsWorld s c r None []
no_world s actor (RenderFrame f) reply.Done none = absurd cc
no_world s actor (RenderFrame f) _ none = tt
no_world s actor (Retain h) r none = tt
no_world s actor _ r none = tt

one_handle : (c : Call) (r : Reply) → handles_made c r ≤ 1
one_handle (NewObject t subtype) (reply.Made h) = omega arith
one_handle (NewObject t subtype) _ = omega arith
one_handle (NewArray elem count stride origin bytes) (reply.Made h) = omega arith
one_handle (NewArray elem count stride origin bytes) _ = omega arith
one_handle (UnmapParameterArray h name number bytes) (reply.Made made) = omega arith
one_handle (UnmapParameterArray h name number bytes) _ = omega arith
one_handle (Retain h) r = omega arith
one_handle _ r = omega arith

-- the room that a call owes
called_room : (stage : State) (old : Books) (actor : ℕ) (c : Call) (r : Reply) (new : Books) (capacity : ℕ) → IsWhole stage old → Legal (old.journal.items ++ Called actor c r ∷ []) →
    length new.journal.items ≡ length old.journal.items + 1 → length old.journal.items + (stage.next + length stage.stopped + 3) ≤ capacity →
    length new.journal.items + length (flights (changed_in_past stage old (Called actor c r))) + 1 ≤ capacity
unfolding change
called_room stage old actor c r new capacity whole legal one room =
    let past : Past = past_in stage old in
    let changed : State = effect (next_place past) c r stage in
    let rising : IsRising stage = subst (λ (p : Past). IsRising p.state) (sym whole.kept.led) (rises old.journal.items) in
    let rises_on : IsRising changed = (changed_rises past (Called actor c r) rising).0 in
    let next : changed.next ≡ stage.next + handles_made c r = next_of in
    omega (arith, few_flights changed rises_on, effect_stops (next_place past) c r stage, next, one_handle c r, one, room)
  where
    next_of : (effect (next_place (past_in stage old)) c r stage).next ≡ stage.next + handles_made c r
    next_of =
        let P : Past → Type 0 = λ p. (change (next_place p) (Called actor c r) p.state).next ≡ p.state.next + handles_made c r in
        subst P (sym whole.kept.led) (next_moves old.journal.items actor c r legal)

same_reach : (place : ℕ) (x : Option ℕ) (s : State) (reached : List (ℕ × List ℕ)) → x ≡ None → with_reach place x s reached ≡ reached
unfolding with_reach
same_reach place x s reached none = ap (λ x. with_reach place x s reached) none

-- the books with a call that renders nothing
pub call_entered : (stage : State) (old room new : Books) (actor : ℕ) (c : Call) (r : Reply) → IsWhole stage old → IsSame old room → IsCalled actor c r room new →
    Legal (old.journal.items ++ Called actor c r ∷ []) → rendered (Called actor c r) ≡ None → length old.journal.items < 2 ^ 64 - 1 →
    length old.journal.items + (stage.next + length stage.stopped + 3) ≤ vec_capacity room.journal → IsEntered stage old (Called actor c r) new
call_entered stage old room new actor c r whole same called legal none short space =
    let e : Entry = Called actor c r in
    let journal : new.journal.items ≡ old.journal.items ++ e ∷ [] = called.journal ∙ ap (λ j. j ++ e ∷ []) same.journal in
    let renders : new.renders.items ≡ old.renders.items = called.renders ∙ same.renders in
    let one : length new.journal.items ≡ length old.journal.items + 1 = ap length journal ∙ length-append old.journal.items (e ∷ []) in
    record {
      journal = journal;
      reached = called.reached ∙ same.reached ∙ sym (same_reach (next_place (past_in stage old)) (rendered e) stage old.reached.items none);
      counted = λ h. omega (arith, called.moved h, ap (λ hs. count_at hs h) same.held);
      handles = omega (arith, called.handles, ap length same.held, whole.kept.handles, next_of);
      renders = subst (λ j. KnowsRenders j new.renders.items) (sym journal) (subst (KnowsRenders (old.journal.items ++ e ∷ [])) (sym renders) (other_keeps_renders old.journal.items e old.renders.items none whole.kept.shown));
      worlds = subst (λ j. KnowsWorlds j new.worlds) (sym journal)
          (called.worlds old.journal.items short (no_world (after old.journal.items).state actor c r none) (same.worlds old.journal.items whole.worlds));
      marks = omega (arith, called.marks, called.handles, ap length same.marks, ap length same.held, whole.marks);
      room = called_room_of one;
    }
  where
    next_of : (changed_in_past stage old (Called actor c r)).next ≡ stage.next + handles_made c r
    next_of =
        let P : Past → Type 0 = λ p. (change (next_place p) (Called actor c r) p.state).next ≡ p.state.next + handles_made c r in
        subst P (sym whole.kept.led) (next_moves old.journal.items actor c r legal)

    called_room_of : length new.journal.items ≡ length old.journal.items + 1 → length new.journal.items + length (flights (changed_in_past stage old (Called actor c r))) + 1 ≤ vec_capacity new.journal
    called_room_of one = called_room stage old actor c r new (vec_capacity new.journal) whole legal one (omega (arith, space, called.space))

-- a call that renders nothing, entered and swept
pub call_stepped : (stage : State) (old room new final : Books) (actor : ℕ) (c : Call) (r : Reply) (mid left : State) → IsWhole stage old → IsOpen old.journal.items →
    answer (past_in stage old) c ≡ Some r → is_content_sound (past_in stage old) c ≡ true → rendered (Called actor c r) ≡ None → IsSame old room → IsCalled actor c r room new → IsMarked new final →
    length old.journal.items < 2 ^ 64 - 1 → length old.journal.items + (stage.next + length stage.stopped + 3) ≤ vec_capacity room.journal →
    mid ≡ effect (length old.journal.items + 1) c r stage → left ≡ swept_by new mid → IsStepped stage old (Called actor c r) left final
unfolding change
call_stepped stage old room new final actor c r mid left whole open_ answered sound none same called marked short space changed is =
    let unseen : IsUnseen (old.journal.items ++ Called actor c r ∷ []) =
    called_is_legal (past_in stage old) whole.kept.led (was_unseen stage old whole) open_ (scenes_within stage old whole) actor c r answered sound in
    stepped stage old (Called actor c r) new final left whole
    (call_entered stage old room new actor c r whole same called unseen.legal none short space) marked unseen (is ∙ ap (swept_by new) changed) refl

with_one : (place f : ℕ) (s : State) (reached : List (ℕ × List ℕ)) → with_reach place (Some f) s reached ≡ reached ++ (place, reach_of s f) ∷ []
unfolding with_reach
with_one place f s reached = refl

-- the books with a render that was done
pub render_entered : (stage : State) (old room new : Books) (actor f : ℕ) (p : Prepared) → IsWhole stage old → IsSame old room → IsRendered actor f p room new → IsReady stage f p →
    Legal (old.journal.items ++ render_of actor f ∷ []) → length old.journal.items < 2 ^ 64 - 1 →
    length old.journal.items + (stage.next + length stage.stopped + 3) ≤ vec_capacity room.journal → IsEntered stage old (render_of actor f) new
unfolding change effect
render_entered stage old room new actor f p whole same done ready legal short space =
    let e : Entry = render_of actor f in
    let journal : new.journal.items ≡ old.journal.items ++ e ∷ [] = done.journal ∙ ap (λ j. j ++ e ∷ []) same.journal in
    let place : length room.journal.items + 1 ≡ length old.journal.items + 1 = ap (λ j. length j + 1) same.journal in
    let shown : Render = record { ticket = length room.journal.items + 1; scene = p.scene; channels = p.channels } in
    let held : new.held.items ≡ old.held.items = done.held ∙ same.held in
    let one : length new.journal.items ≡ length old.journal.items + 1 = ap length journal ∙ length-append old.journal.items (e ∷ []) in
    record {
      journal = journal;
      reached =
          done.reached ∙ ap (λ rs. rs ++ (length room.journal.items + 1, p.reach.items) ∷ []) same.reached
          ∙ ap (λ n. old.reached.items ++ (n, p.reach.items) ∷ []) place ∙ ap (λ hs. old.reached.items ++ (length old.journal.items + 1, hs) ∷ []) ready.reach
          ∙ sym (with_one (length old.journal.items + 1) f stage old.reached.items);
      counted = λ h. omega (arith, ap (λ hs. count_at hs h) held);
      handles = omega (arith, ap length held, whole.kept.handles);
      renders = subst (λ j. KnowsRenders j new.renders.items) (sym journal)
          (subst (KnowsRenders (old.journal.items ++ e ∷ [])) (sym (done.renders ∙ ap (λ rs. rs ++ shown ∷ []) same.renders))
          (rendered_is_known (past_in stage old) actor f old.renders.items shown whole.kept.led whole.kept.shown place ready.scene ready.channels ready.within));
      worlds = subst (λ j. KnowsWorlds j new.worlds) (sym journal)
          (done.worlds old.journal.items short (subst (λ (q : Past). option_map (λ w. (w.0, w.1.items)) p.world ≡ world_reach q.state f) whole.kept.led ready.world) (same.worlds old.journal.items whole.worlds));
      marks = omega (arith, ap length done.marks, ap length same.marks, ap length held, whole.marks);
      room = called_room stage old actor (RenderFrame f) reply.Done new (vec_capacity new.journal) whole legal one (omega (arith, space, done.space));
    }

-- a render that was done, entered and swept
pub render_stepped : (stage : State) (old room new final : Books) (actor f : ℕ) (p : Prepared) (mid left : State) → IsWhole stage old → IsOpen old.journal.items →
    answer (past_in stage old) (RenderFrame f) ≡ Some reply.Done → IsReady stage f p → IsSame old room → IsRendered actor f p room new → IsMarked new final →
    length old.journal.items < 2 ^ 64 - 1 → length old.journal.items + (stage.next + length stage.stopped + 3) ≤ vec_capacity room.journal →
    mid ≡ effect (length old.journal.items + 1) (RenderFrame f) reply.Done stage → left ≡ swept_by new mid → IsStepped stage old (render_of actor f) left final
unfolding change
render_stepped stage old room new final actor f p mid left whole open_ answered ready same done marked short space changed is =
    let unseen : IsUnseen (old.journal.items ++ render_of actor f ∷ []) =
    called_is_legal (past_in stage old) whole.kept.led (was_unseen stage old whole) open_ (scenes_within stage old whole) actor (RenderFrame f) reply.Done answered refl in
    stepped stage old (render_of actor f) new final left whole
    (render_entered stage old room new actor f p whole same done ready unseen.legal short space) marked unseen (is ∙ ap (swept_by new) changed) refl

-- an entry that is no call, makes, holds and renders nothing, touches nothing, and ends a flight
pub record IsNote (stage : State) (old : Books) (e : Entry) : Type 0 where
  pub rendered : rendered e ≡ None
  pub touches : (objects : List ℕ) → is_touching objects e ≡ false
  pub making : (h : ℕ) → is_making h e ≡ false
  pub retaining : (h : ℕ) → is_retaining h e ≡ false
  pub releasing : (h : ℕ) → is_releasing h e ≡ false
  pub next : (changed_in_past stage old e).next ≡ stage.next
  pub frees : length (flights (changed_in_past stage old e)) + 1 ≤ length (flights stage)

no_count : (b : Bool) → b ≡ false → 0 + cond b 1 0 ≡ 0
no_count true none = absurd cc
no_count false none = refl

-- the books with a note
pub note_entered : (stage : State) (old new : Books) (e : Entry) → IsWhole stage old → IsNoted e old new → IsNote stage old e → IsEntered stage old e new
note_entered stage old new e whole noted note =
    let one : length new.journal.items ≡ length old.journal.items + 1 = ap length noted.journal ∙ length-append old.journal.items (e ∷ []) in
    record {
      journal = noted.journal;
      reached = noted.reached ∙ sym (same_reach (next_place (past_in stage old)) (rendered e) stage old.reached.items note.rendered);
      counted = λ h. omega (arith, ap (λ hs. count_at hs h) noted.held, no_count (is_making h e) (note.making h), no_count (is_retaining h e) (note.retaining h), no_count (is_releasing h e) (note.releasing h));
      handles = omega (arith, ap length noted.held, whole.kept.handles, note.next);
      renders = subst (λ j. KnowsRenders j new.renders.items) (sym noted.journal)
          (subst (KnowsRenders (old.journal.items ++ e ∷ [])) (sym noted.renders) (other_keeps_renders old.journal.items e old.renders.items note.rendered whole.kept.shown));
      worlds = subst (λ j. KnowsWorlds j new.worlds) (sym noted.journal)
          (subst (KnowsWorlds (old.journal.items ++ e ∷ [])) (sym noted.worlds)
          (knows_still old.journal.items e old.worlds (ap (option_and_then (world_of (after old.journal.items).state)) note.rendered) note.touches whole.worlds));
      marks = omega (arith, ap length noted.marks, ap length noted.held, whole.marks);
      room = omega (arith, one, note.frees, noted.space, whole.room);
    }

-- a note, entered and swept
pub note_stepped : (stage : State) (old new final : Books) (e : Entry) (mid left : State) → IsWhole stage old → IsNoted e old new → IsNote stage old e → IsMarked new final →
    IsUnseen (old.journal.items ++ e ∷ []) → mid ≡ changed_in_past stage old e → left ≡ swept_by new mid →
    (removed (past_in stage old) e ≡ gone (changed_in_past stage old e) (step (past_in stage old) e).state) → IsStepped stage old e left final
note_stepped stage old new final e mid left whole noted note marked unseen changed is ends =
    stepped stage old e new final left whole (note_entered stage old new e whole noted note) marked unseen (is ∙ ap (swept_by new) changed) ends

-- the two notes
pub finish_is_note : (stage : State) (old : Books) (t : ℕ) → is_flying stage t ≡ true → IsNote stage old (Finished t)
unfolding change end_flights
finish_is_note stage old t flies = record {
  rendered = refl;
  touches = λ objects. refl;
  making = λ h. refl;
  retaining = λ h. refl;
  releasing = λ h. refl;
  next = refl;
  frees = finished_frees (next_place (past_in stage old)) t stage flies;
}

pub leave_is_note : (stage : State) (old : Books) (t : ℕ) → has t (flights stage) ≡ true → IsNote stage old (Left t)
unfolding change end_flights
leave_is_note stage old t there = record {
  rendered = refl;
  touches = λ objects. refl;
  making = λ h. refl;
  retaining = λ h. refl;
  releasing = λ h. refl;
  next = refl;
  frees = left_frees (next_place (past_in stage old)) t stage there;
}

-- no more objects than handles
few_objects : (s : State) → IsRising s → length s.objects + 1 ≤ s.next
few_objects s rising = omega (arith, few_keys 1 s.next (keys_of s.objects) rising, length-map s.objects (λ (e : ℕ × Object). e.0))

module _ (stage : State) (old : Books) (actor : ℕ) (c : Call) (r : Reply) (whole : IsWhole stage old) (open_ : IsOpen old.journal.items)
    (answered : answer (past_in stage old) c ≡ Some r) (sound : is_content_sound (past_in stage old) c ≡ true) where
  legal_with : IsUnseen (old.journal.items ++ Called actor c r ∷ [])
  legal_with = called_is_legal (past_in stage old) whole.kept.led (was_unseen stage old whole) open_ (scenes_within stage old whole) actor c r answered sound

  next_with : (effect (length old.journal.items + 1) c r stage).next ≡ stage.next + handles_made c r
  unfolding change
  next_with =
      let P : Past → Type 0 = λ p. (change (next_place p) (Called actor c r) p.state).next ≡ p.state.next + handles_made c r in
      subst P (sym whole.kept.led) (next_moves old.journal.items actor c r legal_with.legal)

  -- what the books are asked before the call is entered
  pub call_countable : (room : Books) → IsSame old room → HasSpace room → length old.journal.items < 2 ^ 64 - 1 → IsCountable room.held.items (vec_capacity room.held) c r
  call_countable room same space short =
      countable old.journal.items actor c r room.held.items (vec_capacity room.held) legal_with.legal
      (λ h. ap (λ hs. count_at hs h) same.held ∙ whole.kept.counted h)
      (ap (λ hs. length hs + 1) same.held ∙ whole.kept.handles ∙ ap (λ (p : Past). p.state.next) whole.kept.led) space.held short

  -- no more objects than there were handles
  pub call_fits : (mid : State) → mid ≡ effect (length old.journal.items + 1) c r stage → length mid.objects ≤ stage.next
  unfolding change
  call_fits mid is =
      let rising : IsRising stage = subst (λ (p : Past). IsRising p.state) (sym whole.kept.led) (rises old.journal.items) in
      let rises_on : IsRising (effect (length old.journal.items + 1) c r stage) = (changed_rises (past_in stage old) (Called actor c r) rising).0 in
      omega (arith, ap (λ (s : State). length s.objects) is, few_objects (effect (length old.journal.items + 1) c r stage) rises_on, next_with, one_handle c r)

  -- two marks for each handle
  pub call_marks : (room new : Books) (mid : State) → IsSame old room → IsCalled actor c r room new → mid ≡ effect (length old.journal.items + 1) c r stage → length new.marks.items ≡ 2 * (mid.next - 1)
  call_marks room new mid same called is =
      omega (arith, called.marks, ap length same.marks, whole.marks, whole.kept.handles, ap (λ (s : State). s.next) is, next_with)

-- what is told of a call
pub call_told : (stage mid left : State) (old final : Books) (actor : ℕ) (c : Call) (r : Reply) → mid ≡ effect (length old.journal.items + 1) c r stage → IsStepped stage old (Called actor c r) left final →
    status_at (Called actor c r) ++ filter_map end_of_object (gone mid left) ≡ told_by (past_in stage old) (Called actor c r)
unfolding change
call_told stage mid left old final actor c r is done = ap (λ s. status_at (Called actor c r) ++ filter_map end_of_object (gone s left)) is ∙ done.told

-- a render that was done is no refused one
pub render_is_granted : (past : Past) (f : ℕ) → answer past (RenderFrame f) ≡ Some reply.Done → refusal past (RenderFrame f) ≡ None
unfolding answer
render_is_granted past f answered = by (refusal past (RenderFrame f)) answered
  where
    by : (x : Option Refused) → option_or (option_map reply.Denied x) (granted past (RenderFrame f)) ≡ Some reply.Done → x ≡ None
    by None is = refl
    by (Some refused) is = absurd cc

pub rendered_is : (actor f : ℕ) (c : Call) (r : Reply) → rendered (Called actor c r) ≡ Some f → (c ≡ RenderFrame f) × (r ≡ reply.Done)
rendered_is actor f (RenderFrame h) reply.Done is = let same : h ≡ f = cc in (ap RenderFrame same, refl)
rendered_is actor f (RenderFrame h) _ is = absurd cc
rendered_is actor f (Retain h) r is = absurd cc
rendered_is actor f _ r is = absurd cc

-- two marks for each handle, where a render was entered
pub render_marks : (stage : State) (old room new : Books) (actor f : ℕ) (p : Prepared) → IsWhole stage old → IsSame old room → IsRendered actor f p room new → length new.marks.items ≡ 2 * (stage.next - 1)
render_marks stage old room new actor f p whole same done = omega (arith, ap length done.marks, ap length same.marks, whole.marks, whole.kept.handles)

-- a frame that shows its flight, and the entry of a render
pub show_is_effect : (place n h : ℕ) (s mid : State) → mid ≡ changed_at h (set_phase (Flight place)) s → place ≡ n → mid ≡ effect n (RenderFrame h) reply.Done s
unfolding effect
show_is_effect place n h s mid is same = is ∙ ap (λ p. changed_at h (set_phase (Flight p)) s) same

pub render_entry : (past : Past) (actor f : ℕ) (c : Call) (r : Reply) → answer past c ≡ Some r → (c ≡ RenderFrame f) × (r ≡ reply.Done) → render_of actor f ≡ Called actor c (reply_to past c)
render_entry past actor f c r answered is =
    ap (λ c. Called actor c reply.Done) (sym is.0) ∙ ap (Called actor c) (sym (ap (λ x. unwrap_or x reply.Done) answered ∙ is.1))
