-- The renders that are kept, as a history grows.
use Rattle.std.proofs.Common.{ℕ, ◌+◌, ◌≡◌, ◌<◌, ◌≤◌, ◌∙◌, ◌⊎◌, inl, inr, Bool, false, List, [], ◌∷◌, ◌++◌, Option, Some, None, refl, sym, ap, subst, length, arith}
use Rattle.std.specs.Prelude.{All, cond, ◌==◌}
use Rattle.std.specs.Option.{IsSomeAnd, is_some, option_and_then, option_or, unwrap_or}
use Rattle.std.proofs.lemmas.Bool.{cases_lt, eq-eqb, ne_eqb}
use Rattle.std.proofs.lemmas.List.{length_push}
use Rattle.std.proofs.lemmas.List.Elements.{All-head, All-push, All-tail, All-weaker}
use Rattle.std.proofs.lemmas.List.Folds.{find-append}
use Rattle.dev_types.specs.declared.handles.Channel.{Channel}
use Rattle.fx_math.specs.declared.scene.Scene.{Scene}
use Rattle.kind_tables.specs.Scenes.{scene}
use Rattle.kind_tables.specs.SceneObjects.{value_named}
use Rattle.dev_types.specs.Words.{name_of_channel}
use Rattle.picture_model.specs.Limits.{IsSceneWithin}
use Rattle.seq_model.proofs.Afters.{frame_early, frame_last, frame_within, state_early, state_next}
use Rattle.seq_model.specs.Histories.{History, frame_at, rendered}
use Rattle.seq_model.specs.Pictures.{has_channel, scene_at, state_before}
use Rattle.seq_model.specs.State.{State, object_at, scene_objects}
use Rattle.seq_model.specs.Steps.{Past, after}
use Rattle.seq_model.specs.declared.calls.Entry.{Entry}
use Rattle.plain_journal.specs.Kept.{KnowsRenders, Shows, render_with}
use Rattle.past_laws.specs.Prepared.{AreAsked}
use Rattle.past_laws.specs.Worlds.{render_of}
use Rattle.plain_journal.specs.declared.renders.Render.{Render}

-- the scene of a frame, and whether it asks for a channel, in a state
abbrev scene_of : State → Option ℕ → Scene
scene_of s f = scene (scene_objects s) (unwrap_or f 0)

abbrev asks : State → Channel → Option ℕ → Bool
asks s c f = is_some (option_and_then (λ o. value_named (name_of_channel c) o.committed) (option_and_then (object_at s) f))

scene_is : (history : History) (t : ℕ) (s : State) (f : Option ℕ) → state_before history t ≡ s → frame_at history t ≡ f → scene_at history t ≡ scene_of s f
unfolding scene_at
scene_is history t s f stands frame = ap (λ s. scene_of s (frame_at history t)) stands ∙ ap (scene_of s) frame

channel_is : (history : History) (t : ℕ) (s : State) (f : Option ℕ) (c : Channel) → state_before history t ≡ s → frame_at history t ≡ f → has_channel history t c ≡ asks s c f
unfolding has_channel
channel_is history t s f c stands frame = ap (λ s. asks s c (frame_at history t)) stands ∙ ap (asks s c) frame

-- a render that was there shows the same after more entries
shows_still : (history further : History) (t : ℕ) (r : Render) → t ≤ length history → Shows history t r → Shows (history ++ further) t r
shows_still history further t r early shows =
    let stands : state_before (history ++ further) t ≡ state_before history t = state_early history further t (omega (arith, early)) in
    let frame : frame_at (history ++ further) t ≡ frame_at history t = frame_early history further t early in
    record {
      scene = shows.scene ∙ scene_is history t _ _ refl refl ∙ sym (scene_is (history ++ further) t _ _ stands frame);
      channels = λ c. shows.channels c ∙ channel_is history t _ _ c refl refl ∙ sym (channel_is (history ++ further) t _ _ c stands frame);
      within = shows.within;
    }

shown_still : (history further : History) (t : ℕ) (found : Option Render) → t ≤ length history → IsSomeAnd found (Shows history t) → IsSomeAnd found (Shows (history ++ further) t)
shown_still history further t (Some r) early shows = shows_still history further t r early shows
shown_still history further t None early shows = absurd shows

-- the new render shows what stands
shows_new : (past : Past) (actor f : ℕ) (r : Render) → past ≡ after past.seen → r.scene ≡ scene (scene_objects past.state) f → AreAsked past.state f r.channels →
    IsSceneWithin r.scene → Shows (past.seen ++ render_of actor f ∷ []) (length past.seen + 1) r
shows_new past actor f r led is asked within =
    let stands : state_before (past.seen ++ render_of actor f ∷ []) (length past.seen + 1) ≡ past.state =
    state_early past.seen (render_of actor f ∷ []) (length past.seen + 1) (omega arith) ∙ state_next past.seen ∙ sym (ap (λ (p : Past). p.state) led) in
    let frame : frame_at (past.seen ++ render_of actor f ∷ []) (length past.seen + 1) ≡ Some f = frame_last past.seen (render_of actor f) in
    record {
      scene = is ∙ sym (scene_is (past.seen ++ render_of actor f ∷ []) (length past.seen + 1) past.state (Some f) stands frame);
      channels = λ c. asked c ∙ sym (channel_is (past.seen ++ render_of actor f ∷ []) (length past.seen + 1) past.state (Some f) c stands frame);
      within = within;
    }

-- none of the earlier renders has the next ticket
not_yet : (n : ℕ) (renders : List Render) → All (λ r. r.ticket ≤ n) renders → render_with (n + 1) renders ≡ None
not_yet n [] all = refl
not_yet n (r ∷ renders) all =
    let early : r.ticket ≤ n = All-head (λ (r : Render). r.ticket ≤ n) r renders all in
    let other : (r.ticket == n + 1) ≡ false = ne_eqb r.ticket (n + 1) (λ same. absurd (omega (arith, early, same))) in
    ap (λ b. cond b (Some r) (render_with (n + 1) renders)) other ∙ not_yet n renders (All-tail (λ (r : Render). r.ticket ≤ n) r renders all)

-- what was found is found still
found_still : (P : Render → Type 0) (t : ℕ) (renders further : List Render) → IsSomeAnd (render_with t renders) P → IsSomeAnd (render_with t (renders ++ further)) P
found_still P t renders further found =
    subst (λ x. IsSomeAnd x P) (sym (find-append (λ r. r.ticket == t) renders further)) (by (render_with t renders) found)
  where
    by : (x : Option Render) → IsSomeAnd x P → IsSomeAnd (option_or x (render_with t further)) P
    by (Some r) there = there
    by None there = absurd there

-- and the new one too
found_new : (P : Render → Type 0) (n : ℕ) (renders : List Render) (r : Render) → All (λ r. r.ticket ≤ n) renders → r.ticket ≡ n + 1 → P r → IsSomeAnd (render_with (n + 1) (renders ++ r ∷ [])) P
found_new P n renders r early ticket holds =
    subst (λ x. IsSomeAnd x P)
    (sym (find-append (λ r. r.ticket == n + 1) renders (r ∷ []) ∙ ap (λ x. option_or x (render_with (n + 1) (r ∷ []))) (not_yet n renders early) ∙
    ap (λ b. option_or None (cond b (Some r) None)) (eq-eqb r.ticket (n + 1) ticket)))
    holds

-- the renders that happened
happened_still : (history : History) (e : Entry) (renders : List Render) → All (λ r. r.ticket ≤ length history) renders → All (λ r. r.ticket ≤ length (history ++ e ∷ [])) renders
happened_still history e renders =
    let more : length (history ++ e ∷ []) ≡ length history + 1 = length_push history e in
    All-weaker (λ (r : Render). r.ticket ≤ length history) (λ (r : Render). r.ticket ≤ length (history ++ e ∷ [])) (λ r less. omega (arith, less, more)) renders

-- the place of a render is an earlier one, or the next
sort_place : (history : History) (e : Entry) (t f : ℕ) → frame_at (history ++ e ∷ []) t ≡ Some f → (t ≤ length history) ⊎ (t ≡ length history + 1)
sort_place history e t f found = by (cases_lt (length history) t)
  where
    within : t ≤ length (history ++ e ∷ [])
    within = (frame_within (history ++ e ∷ []) t f found).1

    by : (length history < t) ⊎ (t ≤ length history) → (t ≤ length history) ⊎ (t ≡ length history + 1)
    by (inl late) = let more : length (history ++ e ∷ []) ≡ length history + 1 = length_push history e in let less = within in inr (omega (arith, late, less, more))
    by (inr early) = inl early

-- an entry that renders nothing leaves the renders as they are kept
pub other_keeps_renders : (history : History) (e : Entry) (renders : List Render) → rendered e ≡ None → KnowsRenders history renders → KnowsRenders (history ++ e ∷ []) renders
other_keeps_renders history e renders other knows = record {
  kept = λ t f found. by t f found (sort_place history e t f found);
  happened = happened_still history e renders knows.happened;
}
  where
    by : (t f : ℕ) → frame_at (history ++ e ∷ []) t ≡ Some f → (t ≤ length history) ⊎ (t ≡ length history + 1) → IsSomeAnd (render_with t renders) (Shows (history ++ e ∷ []) t)
    by t f found (inl early) =
        shown_still history (e ∷ []) t (render_with t renders) early (knows.kept t f (sym (frame_early history (e ∷ []) t early) ∙ found))
    by t f found (inr last) =
        let none : None ≡ Some f = sym (ap (frame_at (history ++ e ∷ [])) last ∙ frame_last history e ∙ other) ∙ found in absurd cc

-- a render that is done is kept with its scene and its channels
pub rendered_is_known : (past : Past) (actor f : ℕ) (renders : List Render) (r : Render) → past ≡ after past.seen → KnowsRenders past.seen renders →
    r.ticket ≡ length past.seen + 1 → r.scene ≡ scene (scene_objects past.state) f → AreAsked past.state f r.channels → IsSceneWithin r.scene →
    KnowsRenders (past.seen ++ render_of actor f ∷ []) (renders ++ r ∷ [])
rendered_is_known past actor f renders r led knows ticket is asked within = record {
  kept = λ t g found. by t g found (sort_place past.seen (render_of actor f) t g found);
  happened =
      All-push (λ (r : Render). r.ticket ≤ length (past.seen ++ render_of actor f ∷ [])) renders r
      (happened_still past.seen (render_of actor f) renders knows.happened)
      (let more : length (past.seen ++ render_of actor f ∷ []) ≡ length past.seen + 1 = length_push past.seen (render_of actor f) in omega (arith, ticket, more));
}
  where
    by : (t g : ℕ) → frame_at (past.seen ++ render_of actor f ∷ []) t ≡ Some g → (t ≤ length past.seen) ⊎ (t ≡ length past.seen + 1) →
        IsSomeAnd (render_with t (renders ++ r ∷ [])) (Shows (past.seen ++ render_of actor f ∷ []) t)
    by t g found (inl early) =
        found_still (Shows (past.seen ++ render_of actor f ∷ []) t) t renders (r ∷ [])
        (shown_still past.seen (render_of actor f ∷ []) t (render_with t renders) early (knows.kept t g (sym (frame_early past.seen (render_of actor f ∷ []) t early) ∙ found)))
    by t g found (inr last) =
        subst (λ t. IsSomeAnd (render_with t (renders ++ r ∷ [])) (Shows (past.seen ++ render_of actor f ∷ []) t)) (sym last)
        (found_new (Shows (past.seen ++ render_of actor f ∷ []) (length past.seen + 1)) (length past.seen) renders r knows.happened ticket
        (shows_new past actor f r led is asked within))
