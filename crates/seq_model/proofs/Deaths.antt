-- What an entry of a legal history leaves is closed under naming, and is all that holds itself up from the roots.
use Rattle.std.proofs.Common.{ℕ, ◌≡◌, ◌∙◌, true, List, [], ◌∷◌, ◌++◌, Some, sym, ap, subst}
use Rattle.std.specs.Option.{IsSomeAnd}
use Rattle.seq_model.proofs.Afters.{after_more, seen_is_history}
use Rattle.seq_model.proofs.Came.{swept_was}
use Rattle.seq_model.proofs.Handles.{IsRising, changed_rises, rises, root_of, step_state, swept_objects, live_keeps}
use Rattle.seq_model.proofs.Keys.{at}
use Rattle.seq_model.proofs.Prefixes.{in_place, prefix_is_legal}
use Rattle.seq_model.proofs.Ranked.{closed, supported_lives}
use Rattle.seq_model.proofs.SoundHistories.{changed_is_sound, legal_is_sound, sound_is_ranked}
use Rattle.seq_model.specs.Deaths.{HoldsItself, changed_by, lives_itself}
use Rattle.seq_model.specs.Histories.{History, public}
use Rattle.seq_model.specs.Legal.{Legal}
use Rattle.seq_model.specs.Life.{has, is_root, live, names_of}
use Rattle.seq_model.specs.Soundness.{AllSound}
use Rattle.seq_model.specs.State.{Object, State, object_at}
use Rattle.seq_model.specs.Steps.{Past, after, is_reached, step, swept}
use Rattle.seq_model.specs.declared.calls.Entry.{Entry}

pub rises_by : (history : History) (e : Entry) → IsRising (changed_by history e)
rises_by history e = (changed_rises (after history) e (rises history)).0

changed_sound : (history : History) (e : Entry) → Legal (history ++ e ∷ []) → AllSound (changed_by history e)
changed_sound history e legal = changed_is_sound history e (in_place history e [] legal) (legal_is_sound history (prefix_is_legal history (e ∷ []) legal))

-- the objects that an entry leaves
left : (history : History) (e : Entry) → (after (history ++ e ∷ [])).state.objects ≡ live (lives_itself history e) (changed_by history e).objects
left history e =
    ap (λ (past : Past). past.state.objects) (after_more history e) ∙ ap (λ (s : State). s.objects) (step_state (after history) e)
    ∙ swept_live (step (after history) e) (changed_by history e)
    ∙ ap (λ (past : Past). live (is_root (public past.seen) (is_reached past.reached (changed_by history e))) (changed_by history e).objects) (sym (after_more history e))
    ∙ ap (λ (seen : History). live (is_root (public seen) (is_reached (after (history ++ e ∷ [])).reached (changed_by history e))) (changed_by history e).objects) (seen_is_history (history ++ e ∷ []))
  where
    swept_live : (past : Past) (s : State) → (swept past.seen past.reached s).objects ≡ live (is_root (public past.seen) (is_reached past.reached s)) s.objects
    swept_live past s = swept_objects past s ∙ sym (live_keeps (root_of past s) s.objects)

pub left_at : (history : History) (e : Entry) (h : ℕ) → object_at (after (history ++ e ∷ [])).state h ≡ at h (live (lives_itself history e) (changed_by history e).objects)
left_at history e h = ap (at h) (left history e)

stood : (history : History) (e : Entry) (h : ℕ) (o : Object) → object_at (after (history ++ e ∷ [])).state h ≡ Some o → object_at (changed_by history e) h ≡ Some o
stood history e h o found =
    (swept_was (step (after history) e) (changed_by history e) h o (rises_by history e)
    (ap (λ s. object_at s h) (sym (step_state (after history) e)) ∙ ap (λ (past : Past). object_at past.state h) (sym (after_more history e)) ∙ found)).0

pub what_is_named_lives : (history : History) (e : Entry) (h k : ℕ) (o p : Object) → Legal (history ++ e ∷ []) →
    object_at (after (history ++ e ∷ [])).state h ≡ Some o → has k (names_of o) ≡ true → object_at (changed_by history e) k ≡ Some p → object_at (after (history ++ e ∷ [])).state k ≡ Some p
what_is_named_lives history e h k o p legal found names there =
    left_at history e k
    ∙ closed (lives_itself history e) 1 (changed_by history e).next (changed_by history e).objects (rises_by history e) (sound_is_ranked (changed_by history e) (changed_sound history e legal))
    h k o p (sym (left_at history e h) ∙ found) names there

pub what_holds_itself_lives : (history : History) (e : Entry) (members : List ℕ) → Legal (history ++ e ∷ []) → HoldsItself history e members →
    (h : ℕ) → has h members ≡ true → IsSomeAnd (object_at (changed_by history e) h) (λ o. object_at (after (history ++ e ∷ [])).state h ≡ Some o)
what_holds_itself_lives history e members legal holds h member =
    let one : (o : Object) × (at h (live (lives_itself history e) (changed_by history e).objects) ≡ Some o) =
    supported_lives (lives_itself history e) 1 (changed_by history e).next (changed_by history e).objects (rises_by history e) (sound_is_ranked (changed_by history e) (changed_sound history e legal)) (λ k. has k members ≡ true) holds h member in
    let now : object_at (after (history ++ e ∷ [])).state h ≡ Some one.0 = left_at history e h ∙ one.1 in
    subst (λ x. IsSomeAnd x (λ o. object_at (after (history ++ e ∷ [])).state h ≡ Some o)) (sym (stood history e h one.0 now)) now
