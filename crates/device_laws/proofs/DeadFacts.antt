-- What goes with an entry is all that it does not leave.
use Rattle.std.proofs.Common.{ℕ, ◌==◌, ◌≡◌, ◌∙◌, not, Bool, true, false, List, [], ◌∷◌, ◌++◌, Option, None, Some, refl, sym, ap, arith}
use Rattle.std.specs.Prelude.{cond, ◌&&◌, ◌||◌}
use Rattle.std.specs.BTreeMap.{is_at}
use Rattle.std.specs.List.{filter, list_any}
use Rattle.std.specs.Map.{keys_of}
use Rattle.std.specs.Option.{is_some}
use Rattle.std.specs.Ordering.{nat_cmp}
use Rattle.std.proofs.lemmas.Bool.{eqb-true}
use Rattle.std.proofs.lemmas.Bool.Decides.{nat_tests}
use Rattle.std.proofs.lemmas.Map.Made.{is_some-lookup}
use Rattle.std.proofs.lemmas.Map.Views.{any-filter_same}
use Rattle.seq_model.proofs.Changes.{entry_changes}
use Rattle.seq_model.specs.Deaths.{changed_by}
use Rattle.seq_model.specs.Histories.{History}
use Rattle.seq_model.specs.Life.{has}
use Rattle.seq_model.specs.State.{Object, State, object_at}
use Rattle.seq_model.specs.Steps.{after, next_place}
use Rattle.seq_model.specs.Told.{gone}
use Rattle.seq_model.specs.declared.calls.Entry.{Entry}
use Rattle.seq_model.specs.declared.calls.Entry.TheVariants.{Closed}
use Rattle.device_laws.proofs.FlightFacts.{still_there}
use Rattle.device_laws.specs.FramesStand.{LeavesBut}

-- handles of objects that are there
same_test : (h k : ℕ) → (k == h) ≡ is_at (nat_cmp h) k
same_test h k = grind (arith, nat_tests)

same_any : (h : ℕ) (ks : List ℕ) → has h ks ≡ list_any (is_at (nat_cmp h)) ks
same_any h [] = refl
same_any h (k ∷ ks) = ap (λ b. b || has h ks) (same_test h k) ∙ ap (λ b. is_at (nat_cmp h) k || b) (same_any h ks)

is_there : (s : State) (h : ℕ) → has h (keys_of s.objects) ≡ is_some (object_at s h)
is_there s h = same_any h (keys_of s.objects) ∙ sym (is_some-lookup (is_at (nat_cmp h)) s.objects)

-- handles of those that pass a test of their handle
keys_filtered : {X : Type 0} (q : ℕ → Bool) (es : List (ℕ × X)) → keys_of (filter (λ e. q e.0) es) ≡ filter q (keys_of es)
keys_filtered q [] = refl
keys_filtered {X} q (e ∷ es) = by (q e.0) (keys_filtered q es)
  where
    by : (b : Bool) → keys_of (filter (λ e. q e.0) es) ≡ filter q (keys_of es) →
        keys_of (cond b (e ∷ filter (λ e. q e.0) es) (filter (λ e. q e.0) es)) ≡ cond b (e.0 ∷ filter q (keys_of es)) (filter q (keys_of es))
    by true rest = ap (λ ks. e.0 ∷ ks) rest
    by false rest = rest

gone_are : (old new : State) (h : ℕ) → has h (keys_of (gone old new)) ≡ (not (is_some (object_at new h)) && is_some (object_at old h))
gone_are old new h =
    ap (has h) (keys_filtered (λ k. not (has k (keys_of new.objects))) old.objects)
    ∙ any-filter_same (λ k. k == h) (λ k. not (has k (keys_of new.objects))) (not (has h (keys_of new.objects)))
    (λ k is. ap (λ j. not (has j (keys_of new.objects))) (eqb-true k h is)) (keys_of old.objects)
    ∙ ap (λ b. not b && has h (keys_of old.objects)) (is_there new h)
    ∙ ap (λ b. not (is_some (object_at new h)) && b) (is_there old h)

pub leaves_but : (history : History) (e : Entry) → (e ≡ Closed → ⊥) → LeavesBut history e (keys_of (gone (changed_by history e) (after (history ++ e ∷ [])).state))
leaves_but history e going h there =
    ap not (gone_are (changed_by history e) (after (history ++ e ∷ [])).state h)
    ∙ by (object_at (after history).state h) refl there
  where
    twice : (b : Bool) → not (not b && true) ≡ b
    twice true = refl
    twice false = refl

    by : (x : Option Object) → object_at (after history).state h ≡ x → is_some x ≡ true →
        not (not (is_some (object_at (after (history ++ e ∷ [])).state h)) && is_some (object_at (changed_by history e) h)) ≡ is_some (object_at (after (history ++ e ∷ [])).state h)
    by None none is = absurd cc
    by (Some o) some is =
        ap (λ b. not (not (is_some (object_at (after (history ++ e ∷ [])).state h)) && b))
        (still_there (next_place (after history)) e (after history).state (changed_by history e) (entry_changes (next_place (after history)) e (after history).state) going h o some)
        ∙ twice (is_some (object_at (after (history ++ e ∷ [])).state h))
