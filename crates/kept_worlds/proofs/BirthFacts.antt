-- A world that comes was never rendered, so the worlds that are kept stay the right ones over births and deaths.
use Rattle.std.proofs.Common.{ℕ, ◌+◌, ◌-◌, ◌≡◌, ◌<◌, ◌≤◌, ◌⊎◌, inl, inr, ◌∙◌, Bool, true, false, List, [], ◌∷◌, ◌++◌, Option, Some, None, length, length-append, refl, sym, ap, subst, arith}
use Rattle.std.specs.List.{range_with_len}
use Rattle.std.specs.Option.{is_some, option_map}
use Rattle.std.proofs.lemmas.Bool.{cases_lt}
use Rattle.past_laws.specs.Worlds.{Use, last_use, use_at, world_of}
use Rattle.seq_model.proofs.Afters.{frame_within, state_early}
use Rattle.seq_model.proofs.Came.{gone_for_good}
use Rattle.seq_model.proofs.Handles.{next_grows, rises}
use Rattle.seq_model.proofs.Keys.{at_within}
use Rattle.seq_model.proofs.Prefixes.{prefix_is_legal}
use Rattle.seq_model.proofs.SoundHistories.{legal_is_sound}
use Rattle.seq_model.specs.Builds.{is_render_of, last_render}
use Rattle.seq_model.specs.Histories.{History, before, frame_at}
use Rattle.seq_model.specs.Legal.{Legal}
use Rattle.seq_model.specs.Pictures.{state_before}
use Rattle.seq_model.specs.State.{Object, object_at}
use Rattle.seq_model.specs.Steps.{after}
use Rattle.seq_model.specs.declared.calls.Entry.{Entry}
use Rattle.world_laws.proofs.LastRenders.{frame_of_world, last_passes, split_at, world_of_render, world_there}
use Rattle.kept_worlds.proofs.LastFacts.{nothing_gone}
use Rattle.kept_worlds.specs.LastKept.{AreKept, is_there, kept_by}

world_below : (history : History) (f w : ℕ) → Legal history → world_of (after history).state f ≡ Some w → w < (after history).state.next
world_below history f w legal world =
    let there : (q : Object) × (object_at (after history).state w ≡ Some q) = world_there (after history).state f w (legal_is_sound history legal) world in
    (at_within w 1 (after history).state.next (after history).state.objects there.0 (rises history) there.1).1

world_before : (history : History) (p f w : ℕ) → Legal history → world_of (state_before history p) f ≡ Some w → w < (after history).state.next
unfolding state_before
world_before history p f w legal world =
    let parts : (rest : History) × (before history p ++ rest ≡ history) = split_at history p in
    let less : w < (after (before history p)).state.next = world_below (before history p) f w (prefix_is_legal (before history p) parts.0 (subst Legal (sym parts.1) legal)) world in
    let grows : (after (before history p)).state.next ≤ (after history).state.next =
    subst (λ h. (after (before history p)).state.next ≤ (after h).state.next) parts.1 (next_grows (before history p) parts.0) in
    omega (arith, less, grows)

-- a handle that an entry may make was never rendered as a world, not by this entry either
never_rendered : (history : History) (e : Entry) (w : ℕ) → Legal history → (after history).state.next ≤ w → last_use (history ++ e ∷ []) w ≡ None
never_rendered history e w legal new = by (last_render (history ++ e ∷ []) w (length (history ++ e ∷ []) + 1)) refl
  where
    by : (x : Option ℕ) → last_render (history ++ e ∷ []) w (length (history ++ e ∷ []) + 1) ≡ x → option_map (use_at (history ++ e ∷ []) w) x ≡ None
    by None none = refl
    by (Some p) some =
        let is : is_render_of (history ++ e ∷ []) w p ≡ true =
        last_passes (is_render_of (history ++ e ∷ []) w) (range_with_len 1 (length (history ++ e ∷ []) + 1 - 1)) None p (λ q none. absurd cc) some in
        let frame : (f : ℕ) × ((frame_at (history ++ e ∷ []) p ≡ Some f) × (world_of (state_before (history ++ e ∷ []) p) f ≡ Some w)) =
        frame_of_world (history ++ e ∷ []) p w (world_of_render (history ++ e ∷ []) w p is) in
        let within : (0 < p) × (p ≤ length (history ++ e ∷ [])) = frame_within (history ++ e ∷ []) p frame.0 frame.1.0 in
        let early : state_before (history ++ e ∷ []) p ≡ state_before history p = state_early history (e ∷ []) p (omega (arith, within.1, length-append history (e ∷ []))) in
        let less : w < (after history).state.next = world_before history p frame.0 w legal (subst (λ s. world_of s frame.0 ≡ Some w) early frame.1.1) in
        absurd (omega (arith, less, new))

not_there : (x : Option Object) → is_some x ≡ false → x ≡ None
not_there None is = refl
not_there (Some o) is = absurd cc

-- what comes has a handle that was not used
born : (history : History) (e : Entry) (w : ℕ) → is_there history w ≡ false → is_there (history ++ e ∷ []) w ≡ true → (after history).state.next ≤ w
born history e w was now = of (cases_lt w (after history).state.next)
  where
    of : (w < (after history).state.next) ⊎ ((after history).state.next ≤ w) → (after history).state.next ≤ w
    of (inr new) = new
    of (inl old) =
        let gone : object_at (after (history ++ e ∷ [])).state w ≡ None = gone_for_good history (e ∷ []) w old (not_there (object_at (after history).state w) was) in
        let wrong : true ≡ false = sym now ∙ ap is_some gone in absurd cc

-- a world that is there and was rendered was there before
pub was_there : (history : History) (e : Entry) (w : ℕ) (u : Use) → Legal history → last_use (history ++ e ∷ []) w ≡ Some u → is_there (history ++ e ∷ []) w ≡ true → is_there history w ≡ true
was_there history e w u legal last now = by (is_there history w) refl
  where
    by : (b : Bool) → is_there history w ≡ b → b ≡ true
    by true was = refl
    by false was = let wrong : None ≡ Some u = sym (never_rendered history e w legal (born history e w was now)) ∙ last in absurd cc

-- births and deaths of an entry
pub kept_over : (history : History) (e : Entry) (reaches : ℕ → Option (List ℕ)) → Legal history → AreKept (is_there history) (history ++ e ∷ []) reaches →
    ((w : ℕ) → is_there history w ≡ true → is_there (history ++ e ∷ []) w ≡ false → reaches w ≡ None) → AreKept (is_there (history ++ e ∷ [])) (history ++ e ∷ []) reaches
kept_over history e reaches legal kept dropped = λ w. by w (is_there history w) refl (is_there (history ++ e ∷ []) w) refl
  where
    by : (w : ℕ) (b : Bool) → is_there history w ≡ b → (c : Bool) → is_there (history ++ e ∷ []) w ≡ c → reaches w ≡ kept_by (is_there (history ++ e ∷ []) w) (last_use (history ++ e ∷ []) w)
    by w true was true now = kept w ∙ ap (λ t. kept_by t (last_use (history ++ e ∷ []) w)) (was ∙ sym now)
    by w false was false now = kept w ∙ ap (λ t. kept_by t (last_use (history ++ e ∷ []) w)) (was ∙ sym now)
    by w true was false now = dropped w was now ∙ sym (ap (λ t. kept_by t (last_use (history ++ e ∷ []) w)) now ∙ nothing_gone (last_use (history ++ e ∷ []) w))
    by w false was true now =
        let none : last_use (history ++ e ∷ []) w ≡ None = never_rendered history e w legal (born history e w was now) in
        kept w ∙ ap (kept_by (is_there history w)) none ∙ sym (ap (kept_by (is_there (history ++ e ∷ []) w)) none)
