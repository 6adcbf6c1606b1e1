-- What an entry leaves: what lives by the numbers that a device keeps.
use Rattle.std.proofs.Common.{ℕ, zero, suc, ◌≡◌, ◌∙◌, Bool, List, [], ◌∷◌, ◌++◌, All, Some, refl, sym, ap}
use Rattle.std.specs.Prelude.{cond, ◌||◌}
use Rattle.std.specs.List.{filter}
use Rattle.std.proofs.lemmas.List.Elements.{All-head, All-tail, All-weaker}
use Rattle.past_laws.proofs.Burials.{kept_are_live}
use Rattle.past_laws.specs.HeldUp.{IsHeldUp}
use Rattle.seq_model.proofs.Afters.{after_more, seen_is_history}
use Rattle.seq_model.proofs.Deaths.{rises_by}
use Rattle.seq_model.proofs.Handles.{step_state}
use Rattle.seq_model.proofs.Keys.{all_from_at}
use Rattle.seq_model.proofs.Prefixes.{in_place, prefix_is_legal}
use Rattle.seq_model.proofs.SoundHistories.{changed_is_sound, legal_is_sound, sound_is_ranked}
use Rattle.seq_model.specs.Deaths.{changed_by, lives_itself}
use Rattle.seq_model.specs.Histories.{History, public}
use Rattle.seq_model.specs.Legal.{Legal}
use Rattle.seq_model.specs.Life.{grown, is_named_by, is_root, live}
use Rattle.seq_model.specs.State.{Object, State, object_at}
use Rattle.seq_model.specs.Steps.{Past, after, is_reached, step, swept}
use Rattle.seq_model.specs.declared.calls.Entry.{Entry}

-- tests that agree on all entries choose the same, and the same lives by them
same_filter : {X : Type 0} (p q : X → Bool) (xs : List X) → All (λ x. p x ≡ q x) xs → filter p xs ≡ filter q xs
same_filter p q [] same = refl
same_filter {X} p q (x ∷ xs) same =
    ap (λ t. cond t (x ∷ filter p xs) (filter p xs)) (All-head (λ (y : X). p y ≡ q y) x xs same)
    ∙ ap (λ rest. cond (q x) (x ∷ rest) rest) (same_filter p q xs (All-tail (λ (y : X). p y ≡ q y) x xs same))

module _ (p q : ℕ × Object → Bool) (objects : List (ℕ × Object)) (same : All (λ e. p e ≡ q e) objects) where
  same_grown : (n : ℕ) → grown p objects n ≡ grown q objects n
  unfolding grown
  same_grown zero = same_filter p q objects same
  same_grown (suc n) =
      ap (λ holders. filter (λ e. p e || is_named_by holders e.0) objects) (same_grown n)
      ∙ same_filter (λ e. p e || is_named_by (grown q objects n) e.0) (λ e. q e || is_named_by (grown q objects n) e.0) objects
      (All-weaker (λ e. p e ≡ q e) (λ e. (p e || is_named_by (grown q objects n) e.0) ≡ (q e || is_named_by (grown q objects n) e.0))
      (λ e is. ap (λ b. b || is_named_by (grown q objects n) e.0) is) objects same)

  same_live : live p objects ≡ live q objects
  unfolding live
  same_live = same_grown 10

-- the state that an entry leaves
swept_is : (past : Past) (s : State) → swept past.seen past.reached s ≡ record s { objects = live (is_root (public past.seen) (is_reached past.reached s)) s.objects }
unfolding swept
swept_is past s = refl

leaves : (history : History) (e : Entry) → (after (history ++ e ∷ [])).state ≡ record (changed_by history e) { objects = live (lives_itself history e) (changed_by history e).objects }
leaves history e =
    ap (λ (past : Past). past.state) (after_more history e) ∙ step_state (after history) e
    ∙ swept_is (step (after history) e) (changed_by history e)
    ∙ ap (λ (past : Past). record (changed_by history e) { objects = live (is_root (public past.seen) (is_reached past.reached (changed_by history e))) (changed_by history e).objects }) (sym (after_more history e))
    ∙ ap (λ (seen : History). record (changed_by history e) { objects = live (is_root (public seen) (is_reached (after (history ++ e ∷ [])).reached (changed_by history e))) (changed_by history e).objects })
    (seen_is_history (history ++ e ∷ []))

same_root : (held public : ℕ → ℕ) (is_read reached : ℕ → Bool) (h : ℕ) (o : Object) → held h ≡ public h → is_read h ≡ reached h → is_root held is_read (h, o) ≡ is_root public reached (h, o)
unfolding is_root
same_root held public is_read reached h o first second = rw first (rw second refl)

pub buried_is_after : (history : History) (e : Entry) (held : ℕ → ℕ) (is_read : ℕ → Bool) →
    ((h : ℕ) (o : Object) → object_at (changed_by history e) h ≡ Some o → (held h ≡ public (history ++ e ∷ []) h) × (is_read h ≡ is_reached (after (history ++ e ∷ [])).reached (changed_by history e) h)) →
    record (changed_by history e) { objects = live (is_root held is_read) (changed_by history e).objects } ≡ (after (history ++ e ∷ [])).state
buried_is_after history e held is_read same =
    ap (λ es. record (changed_by history e) { objects = es })
    (same_live (is_root held is_read) (lives_itself history e) (changed_by history e).objects
    (all_from_at (λ (x : ℕ × Object). is_root held is_read x ≡ lives_itself history e x) 1 (changed_by history e).next (changed_by history e).objects (rises_by history e)
    (λ h o there. same_root held (public (history ++ e ∷ [])) is_read (is_reached (after (history ++ e ∷ [])).reached (changed_by history e)) h o (same h o there).0 (same h o there).1)))
    ∙ sym (leaves history e)

pub kept_is_after : (history : History) (e : Entry) (keep : ℕ × Object → Bool) → Legal (history ++ e ∷ []) → IsHeldUp (lives_itself history e) keep (changed_by history e).objects →
    record (changed_by history e) { objects = filter keep (changed_by history e).objects } ≡ (after (history ++ e ∷ [])).state
kept_is_after history e keep legal up =
    ap (λ es. record (changed_by history e) { objects = es })
    (kept_are_live (lives_itself history e) keep 1 (changed_by history e).next (changed_by history e).objects (rises_by history e)
    (sound_is_ranked (changed_by history e) (changed_is_sound history e (in_place history e [] legal) (legal_is_sound history (prefix_is_legal history (e ∷ []) legal)))) up)
    ∙ sym (leaves history e)
