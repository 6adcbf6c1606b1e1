-- What a flight reached is what the walk of the state before its render visits, and stays so.
use Rattle.std.proofs.Common.{ℕ, ◌+◌, ◌≡◌, ◌<◌, ◌≤◌, ◌∙◌, ◌⊎◌, inl, inr, false, List, [], ◌∷◌, ◌++◌, Option, Some, None, refl, sym, ap, subst, length, arith, length-append}
use Rattle.std.specs.Map.{keys_of}
use Rattle.std.specs.Option.{option_or}
use Rattle.std.specs.BTreeMap.{is_at}
use Rattle.std.specs.Ordering.{nat_cmp}
use Rattle.std.proofs.lemmas.Bool.{cases_eq, cases_lt}
use Rattle.kind_tables.specs.Walks.{visited, walk}
use Rattle.seq_model.proofs.Afters.{after_more, frame_early, frame_last, frame_late, frame_within, grows_by, seen_is_history, state_early, state_next}
use Rattle.seq_model.proofs.Keys.{RisesWithin, at, at_append, key_here, key_is_other, nothing_outside, rises_to_higher, rises_with_next}
use Rattle.seq_model.specs.Histories.{History, frame_at, rendered}
use Rattle.seq_model.specs.Pictures.{state_before}
use Rattle.seq_model.specs.State.{State, scene_objects}
use Rattle.seq_model.specs.Steps.{Past, after, step, with_reach}
use Rattle.seq_model.specs.declared.calls.Entry.{Entry}

-- what the walk of a frame visits
abbrev pub reach_of : State → ℕ → List ℕ
reach_of s f = visited (walk (scene_objects s) f)

-- what is carried is what the walks visit
pub record Carries (history : History) (reached : List (ℕ × List ℕ)) : Type 0 where
  pub within : RisesWithin 1 (length history + 1) (keys_of reached)
  pub right : (t f : ℕ) → frame_at history t ≡ Some f → at t reached ≡ Some (reach_of (state_before history t) f)
  pub nothing : (t : ℕ) → frame_at history t ≡ None → at t reached ≡ None

-- one more render
pub reach_early : (place t : ℕ) (r : Option ℕ) (s : State) (reached : List (ℕ × List ℕ)) → (t ≡ place → ⊥) → at t (with_reach place r s reached) ≡ at t reached
unfolding with_reach
reach_early place t None s reached apart = refl
reach_early place t (Some f) s reached apart =
    let other : is_at (nat_cmp t) place ≡ false = key_is_other t place apart in
    let last : at t ((place, reach_of s f) ∷ []) ≡ None = rw other refl in
    at_append t reached ((place, reach_of s f) ∷ []) ∙ ap (option_or (at t reached)) last ∙ none (at t reached)
  where
    none : (x : Option (List ℕ)) → option_or x None ≡ x
    none None = refl
    none (Some x) = refl

pub reach_here : (place f : ℕ) (s : State) (reached : List (ℕ × List ℕ)) → at place reached ≡ None → at place (with_reach place (Some f) s reached) ≡ Some (reach_of s f)
unfolding with_reach
reach_here place f s reached none =
    let last : at place ((place, reach_of s f) ∷ []) ≡ Some (reach_of s f) = rw (key_here place) refl in
    at_append place reached ((place, reach_of s f) ∷ []) ∙ ap (λ x. option_or x (at place ((place, reach_of s f) ∷ []))) none ∙ last

no_reach : (place : ℕ) (r : Option ℕ) (s : State) (reached : List (ℕ × List ℕ)) → r ≡ None → with_reach place r s reached ≡ reached
unfolding with_reach
no_reach place None s reached none = refl
no_reach place (Some f) s reached none = absurd cc

reach_within : (place : ℕ) (r : Option ℕ) (s : State) (reached : List (ℕ × List ℕ)) → RisesWithin 1 place (keys_of reached) → RisesWithin 1 (place + 1) (keys_of (with_reach place r s reached))
unfolding with_reach
reach_within place None s reached within = rises_to_higher 1 place (place + 1) (keys_of reached) (omega arith) within
reach_within place (Some f) s reached within = subst (RisesWithin 1 (place + 1)) (sym (keys reached)) (rises_with_next 1 place (keys_of reached) within)
  where
    keys : (es : List (ℕ × List ℕ)) → keys_of (es ++ (place, reach_of s f) ∷ []) ≡ keys_of es ++ place ∷ []
    keys [] = refl
    keys (e ∷ es) = ap (λ ks. e.0 ∷ ks) (keys es)

carries_none : Carries [] []
carries_none = record {
  within = omega arith;
  right = λ t f found. let within : (0 < t) × (t ≤ length {A = Entry} []) = frame_within [] t f found in absurd (omega (arith, within.0, within.1));
  nothing = λ t none. refl;
}

carries_more : (history : History) (e : Entry) (reached : List (ℕ × List ℕ)) → Carries history reached →
    Carries (history ++ e ∷ []) (with_reach (length history + 1) (rendered e) (after history).state reached)
carries_more history e reached carries = record { within = within; right = right; nothing = nothing }
  where
    longer : length (history ++ e ∷ []) ≡ length history + 1
    longer = length-append history (e ∷ [])

    within : RisesWithin 1 (length (history ++ e ∷ []) + 1) (keys_of (with_reach (length history + 1) (rendered e) (after history).state reached))
    within =
        subst (λ n. RisesWithin 1 (n + 1) (keys_of (with_reach (length history + 1) (rendered e) (after history).state reached))) (sym longer)
        (reach_within (length history + 1) (rendered e) (after history).state reached carries.within)

    fresh : at (length history + 1) reached ≡ None
    fresh = nothing_outside (length history + 1) 1 (length history + 1) reached carries.within (λ low high. omega (arith, high))

    at_last : (f : ℕ) → rendered e ≡ Some f → at (length history + 1) (with_reach (length history + 1) (rendered e) (after history).state reached) ≡ Some (reach_of (state_before (history ++ e ∷ []) (length history + 1)) f)
    at_last f is =
        let first : at (length history + 1) (with_reach (length history + 1) (rendered e) (after history).state reached) ≡ Some (reach_of (after history).state f) =
        ap (λ r. at (length history + 1) (with_reach (length history + 1) r (after history).state reached)) is ∙ reach_here (length history + 1) f (after history).state reached fresh in
        first ∙ ap (λ s. Some (reach_of s f)) (sym (state_early history (e ∷ []) (length history + 1) (omega arith) ∙ state_next history))

    right : (t f : ℕ) → frame_at (history ++ e ∷ []) t ≡ Some f → at t (with_reach (length history + 1) (rendered e) (after history).state reached) ≡ Some (reach_of (state_before (history ++ e ∷ []) t) f)
    right t f found = by (cases_lt t (length history + 1))
      where
        by : (t < length history + 1) ⊎ (length history + 1 ≤ t) → at t (with_reach (length history + 1) (rendered e) (after history).state reached) ≡ Some (reach_of (state_before (history ++ e ∷ []) t) f)
        by (inl less) =
            reach_early (length history + 1) t (rendered e) (after history).state reached (λ same. omega (arith, less, same))
            ∙ carries.right t f (sym (frame_early history (e ∷ []) t (omega (arith, less))) ∙ found)
            ∙ ap (λ s. Some (reach_of s f)) (sym (state_early history (e ∷ []) t (omega (arith, less))))
        by (inr more) =
            let inside : (0 < t) × (t ≤ length (history ++ e ∷ [])) = frame_within (history ++ e ∷ []) t f found in
            let last : t ≡ length history + 1 = omega (arith, more, inside.1, longer) in
            subst (λ t. at t (with_reach (length history + 1) (rendered e) (after history).state reached) ≡ Some (reach_of (state_before (history ++ e ∷ []) t) f)) (sym last)
            (at_last f (sym (frame_last history e) ∙ subst (λ t. frame_at (history ++ e ∷ []) t ≡ Some f) last found))

    nothing : (t : ℕ) → frame_at (history ++ e ∷ []) t ≡ None → at t (with_reach (length history + 1) (rendered e) (after history).state reached) ≡ None
    nothing t none = by (cases_eq t (length history + 1))
      where
        by : (t ≡ length history + 1) ⊎ (t ≡ length history + 1 → ⊥) → at t (with_reach (length history + 1) (rendered e) (after history).state reached) ≡ None
        by (inl last) =
            let idle : rendered e ≡ None = sym (frame_last history e) ∙ subst (λ t. frame_at (history ++ e ∷ []) t ≡ None) last none in
            ap (at t) (no_reach (length history + 1) (rendered e) (after history).state reached idle) ∙ ap (λ t. at t reached) last ∙ fresh
        by (inr apart) = reach_early (length history + 1) t (rendered e) (after history).state reached apart ∙ old (cases_lt t (length history + 1))
          where
            old : (t < length history + 1) ⊎ (length history + 1 ≤ t) → at t reached ≡ None
            old (inl less) = carries.nothing t (sym (frame_early history (e ∷ []) t (omega (arith, less))) ∙ none)
            old (inr more) = carries.nothing t (frame_late history t (omega (arith, more)))

pub step_reached : (history : History) (e : Entry) → (step (after history) e).reached ≡ with_reach (length history + 1) (rendered e) (after history).state (after history).reached
unfolding step
step_reached history e = ap (λ (h : History). with_reach (length h + 1) (rendered e) (after history).state (after history).reached) (seen_is_history history)

carries_start : Carries [] (after []).reached
unfolding after
carries_start = carries_none

pub carries : (history : History) → Carries history (after history).reached
carries history = grows_by (λ history. Carries history (after history).reached) carries_start more history
  where
    more : (history : History) (e : Entry) → Carries history (after history).reached → Carries (history ++ e ∷ []) (after (history ++ e ∷ [])).reached
    more history e now =
        subst (λ (past : Past). Carries (history ++ e ∷ []) past.reached) (sym (after_more history e))
        (subst (Carries (history ++ e ∷ [])) (sym (step_reached history e)) (carries_more history e (after history).reached now))

-- the carried entry is right, and is there just for the renders
pub reach_is_the_walk : (history : History) (t f : ℕ) → frame_at history t ≡ Some f → at t (after history).reached ≡ Some (visited (walk (scene_objects (state_before history t)) f))
reach_is_the_walk history t f found = (carries history).right t f found

pub reach_of_no_render : (history : History) (t : ℕ) → frame_at history t ≡ None → at t (after history).reached ≡ None
reach_of_no_render history t none = (carries history).nothing t none

-- and does not change later
pub reach_stays : (history further : History) (t : ℕ) → t ≤ length history → at t (after (history ++ further)).reached ≡ at t (after history).reached
reach_stays history further t early = by (frame_at history t) refl
  where
    by : (x : Option ℕ) → frame_at history t ≡ x → at t (after (history ++ further)).reached ≡ at t (after history).reached
    by None is = reach_of_no_render (history ++ further) t (frame_early history further t early ∙ is) ∙ sym (reach_of_no_render history t is)
    by (Some f) is =
        reach_is_the_walk (history ++ further) t f (frame_early history further t early ∙ is)
        ∙ ap (λ s. Some (reach_of s f)) (state_early history further t (omega (arith, early)))
        ∙ sym (reach_is_the_walk history t f is)
