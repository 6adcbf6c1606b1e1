-- Each captured array is told once: not before it is gone, and at the latest with the close.
use Rattle.std.proofs.Common.{ℕ, ◌+◌, ◌==◌, ◌≡◌, ◌<◌, ◌≤◌, ◌∙◌, ◌⊎◌, inl, inr, Bool, true, false, not, List, [], ◌∷◌, ◌++◌, Option, Some, None, refl, sym, ap, subst, append_assoc, arith}
use Rattle.std.specs.Prelude.{cond, count_by, ◌&&◌, fold}
use Rattle.std.specs.List.{filter_map, list_any}
use Rattle.std.specs.Map.{keys_of}
use Rattle.std.specs.Option.{is_some, option_map, option_or, option_to_list}
use Rattle.std.specs.BTreeMap.{is_at}
use Rattle.std.specs.Ordering.{nat_cmp}
use Rattle.std.proofs.lemmas.Bool.{cases_eq, cases_lt, cond-true, cond-false, eq-eqb, eqb-true, ne_eqb, and_parts}
use Rattle.std.proofs.lemmas.List.{append-nil}
use Rattle.std.proofs.lemmas.List.Sums.{sum_by-append, sum_by-cons, sum_by_push}
use Rattle.std.proofs.lemmas.Map.Entries.{option_filter}
use Rattle.std.proofs.lemmas.Map.Made.{is_some-lookup}
use Rattle.dev_types.specs.Refusals.{status_of}
use Rattle.dev_types.specs.declared.handles.Origin.{Origin}
use Rattle.dev_types.specs.declared.handles.Origin.TheVariants.{Captured, Shared, Managed}
use Rattle.dev_types.specs.declared.notices.Notice.{Notice}
use Rattle.dev_types.specs.declared.notices.Notice.TheVariants.{Told}
use Rattle.seq_model.proofs.Afters.{after_more, grows_by}
use Rattle.seq_model.proofs.Came.{stop_objects, end_is, stays_gone}
use Rattle.seq_model.proofs.Changes.{AreLike, Change, Quiet, Making, Rendering, Discarding, Finishing, Leaving, Closing, IsQuiet, captures, changed_here, entry_changes, is_captured, is_captured_array, others_unchanged}
use Rattle.seq_model.proofs.Creations.{made_handle}
use Rattle.seq_model.proofs.Handles.{IsRising, changed_rises, changed, lives, rises, root_of, step_rises, step_state, swept_next, swept_objects}
use Rattle.seq_model.proofs.Keys.{RisesWithin, at, at_append, at_filter, at_map, at_within, key_here, key_is, key_is_other, nothing_outside, rises_filtered}
use Rattle.seq_model.proofs.Prefixes.{prefix_is_legal}
use Rattle.seq_model.specs.Ends.{is_capturing, is_deleting}
use Rattle.seq_model.specs.Histories.{History}
use Rattle.seq_model.specs.Legal.{Legal}
use Rattle.seq_model.specs.Life.{has}
use Rattle.seq_model.specs.State.{ArrayState, Object, Phase, Empty, Flight, Done, State, changed_at, object_at, with_object}
use Rattle.seq_model.specs.Steps.{Past, after, change, discard, end_flight, end_flights, next_place, set_phase, start, step}
use Rattle.seq_model.specs.Told.{end_of_array, end_of_object, gone, removed, source_of, status_at, told, told_by, told_from}
use Rattle.seq_model.specs.declared.calls.Call.TheVariants.{NewArray}
use Rattle.seq_model.specs.declared.calls.Entry.{Entry}
use Rattle.seq_model.specs.declared.calls.Entry.TheVariants.{Called, Finished, Left, Closed}
use Rattle.seq_model.specs.declared.calls.Reply.TheVariants as reply

-- how many deleters of h run
abbrev deleted : ℕ → List Notice → ℕ
deleted h notices = count_by (is_deleting h) notices

-- 1 for a captured array, 0 for anything else
abbrev weight : Option Object → ℕ
weight None = 0
weight (Some o) = cond (is_captured o) 1 0

-- the ends of some objects
ended : ℕ → Option Notice → ℕ
ended h None = 0
ended h (Some notice) = cond (is_deleting h notice) 1 0

deleted_with : (h : ℕ) (f : ℕ × Object → Option Notice) (e : ℕ × Object) (es : List (ℕ × Object)) (x : Option Notice) → f e ≡ x →
    deleted h (filter_map f (e ∷ es)) ≡ ended h x + deleted h (filter_map f es)
unfolding ended
deleted_with h f e es None is = rw is (let none : deleted h (filter_map f es) ≡ 0 + deleted h (filter_map f es) = omega arith in none)
deleted_with h f e es (Some notice) is = rw is (sum_by-cons (λ x. cond (is_deleting h x) 1 0) notice (filter_map f es))

ends_here : (h : ℕ) (e : ℕ × Object) → e.0 ≡ h → ended h (end_of_object e) ≡ weight (Some e.1)
unfolding ended
ends_here h e same = by e.1.array refl
  where
    of : (a : ArrayState) (origin : Origin) → a.origin ≡ origin → ended h (end_of_array e.0 a.block.bytes origin) ≡ cond (is_captured_array (Some a)) 1 0
    of a (Captured user) is = rw is (cond-true (e.0 == h) 1 0 (eq-eqb e.0 h same))
    of a (Shared user) is = rw is refl
    of a Managed is = rw is refl

    by : (x : Option ArrayState) → e.1.array ≡ x → ended h (end_of_object e) ≡ cond (is_captured_array e.1.array) 1 0
    by None is = rw is refl
    by (Some a) is = rw is (of a a.origin refl)

ends_elsewhere : (h : ℕ) (e : ℕ × Object) → (e.0 ≡ h → ⊥) → ended h (end_of_object e) ≡ 0
unfolding ended
ends_elsewhere h e apart = by e.1.array refl
  where
    of : (a : ArrayState) (origin : Origin) → ended h (end_of_array e.0 a.block.bytes origin) ≡ 0
    of a (Captured user) = cond-false (e.0 == h) 1 0 (ne_eqb e.0 h apart)
    of a (Shared user) = refl
    of a Managed = refl

    by : (x : Option ArrayState) → e.1.array ≡ x → ended h (end_of_object e) ≡ 0
    by None is = rw is refl
    by (Some a) is = rw is (of a a.origin)

deleted_of_ends : (h low high : ℕ) (es : List (ℕ × Object)) → RisesWithin low high (keys_of es) → deleted h (filter_map end_of_object es) ≡ weight (at h es)
deleted_of_ends h low high [] rising = refl
deleted_of_ends h low high (e ∷ es) rising =
    deleted_with h end_of_object e es (end_of_object e) refl ∙ by (is_at (nat_cmp h) e.0) refl (deleted_of_ends h (e.0 + 1) high es rising.1)
  where
    by : (t : Bool) → is_at (nat_cmp h) e.0 ≡ t → deleted h (filter_map end_of_object es) ≡ weight (at h es) →
        ended h (end_of_object e) + deleted h (filter_map end_of_object es) ≡ weight (cond t (Some e.1) (at h es))
    by true is rest =
        let key : h ≡ e.0 = key_is h e.0 is in
        let none : at h es ≡ None = nothing_outside h (e.0 + 1) high es rising.1 (λ low _. omega (arith, low, key)) in
        let nothing : deleted h (filter_map end_of_object es) ≡ 0 = rest ∙ ap weight none in
        let here : ended h (end_of_object e) ≡ weight (Some e.1) = ends_here h e (sym key) in
        let total : ended h (end_of_object e) + deleted h (filter_map end_of_object es) ≡ ended h (end_of_object e) = omega (arith, nothing) in
        total ∙ here
    by false is rest =
        let elsewhere : ended h (end_of_object e) ≡ 0 = ends_elsewhere h e (λ same. other (sym same)) in
        let total : ended h (end_of_object e) + deleted h (filter_map end_of_object es) ≡ deleted h (filter_map end_of_object es) = omega (arith, elsewhere) in
        total ∙ rest
      where
        other : h ≡ e.0 → ⊥
        other same = let here : is_at (nat_cmp h) e.0 ≡ true = subst (λ k. is_at (nat_cmp h) k ≡ true) same (key_here h) in absurd cc

-- a status is no end
no_end_in_status : (h : ℕ) (e : Entry) → deleted h (status_at e) ≡ 0
no_end_in_status h (Called actor call (reply.Denied refused)) = by (status_of refused (source_of call))
  where
    by : (x : Option _) → deleted h (option_to_list (option_map Told x)) ≡ 0
    by None = refl
    by (Some status) = refl
no_end_in_status h (Called actor call _) = refl
no_end_in_status h (Finished t) = refl
no_end_in_status h (Left t) = refl
no_end_in_status h Closed = refl

-- what of the old objects is gone, and what is left
key_test : (h k : ℕ) → is_at (nat_cmp h) k ≡ (k == h)
key_test h k = by (cases_eq k h)
  where
    by : (k ≡ h) ⊎ (k ≡ h → ⊥) → is_at (nat_cmp h) k ≡ (k == h)
    by (inl same) = subst (λ k. is_at (nat_cmp h) k ≡ true) (sym same) (key_here h) ∙ sym (eq-eqb k h same)
    by (inr apart) = key_is_other h k (λ same. apart (sym same)) ∙ sym (ne_eqb k h apart)

is_there : (h : ℕ) (es : List (ℕ × Object)) → has h (keys_of es) ≡ is_some (at h es)
is_there h es = ap (λ (test : ℕ → Bool). list_any test (keys_of es)) (λ i k. sym (key_test h k) i) ∙ sym (is_some-lookup (is_at (nat_cmp h)) es)

at_gone : (h : ℕ) (old new : State) → IsRising old → at h (gone old new) ≡ option_filter (λ o. not (is_some (object_at new h))) (object_at old h)
at_gone h old new rising =
    at_filter (λ entry. not (has entry.0 (keys_of new.objects))) h 1 old.next old.objects rising
    ∙ ap (λ t. option_filter (λ o. not t) (object_at old h)) (is_there h new.objects)

parts : (p : Object → Bool) (x y : Option Object) → y ≡ option_filter p x → weight (option_filter (λ o. not (is_some y)) x) + weight y ≡ weight x
parts p None y is = subst (λ y. weight (option_filter (λ o. not (is_some y)) None) + weight y ≡ 0) (sym is) refl
parts p (Some o) y is = by (p o) refl
  where
    by : (t : Bool) → p o ≡ t → weight (option_filter (λ o. not (is_some y)) (Some o)) + weight y ≡ weight (Some o)
    by true test =
        let there : y ≡ Some o = is ∙ ap (λ t. cond t (Some o) None) test in
        subst (λ y. weight (option_filter (λ o. not (is_some y)) (Some o)) + weight y ≡ weight (Some o)) (sym there) (let none : 0 + weight (Some o) ≡ weight (Some o) = omega arith in none)
    by false test =
        let none : y ≡ None = is ∙ ap (λ t. cond t (Some o) None) test in
        subst (λ y. weight (option_filter (λ o. not (is_some y)) (Some o)) + weight y ≡ weight (Some o)) (sym none) (let none : weight (Some o) + 0 ≡ weight (Some o) = omega arith in none)

at_step : (past : Past) (e : Entry) (h : ℕ) → IsRising past.state →
    object_at (step past e).state h ≡ option_filter (λ o. lives (root_of (step past e) (changed past e)) (changed past e).objects (h, o)) (object_at (changed past e) h)
at_step past e h rising =
    ap (λ s. object_at s h) (step_state past e) ∙ ap (at h) (swept_objects (step past e) (changed past e))
    ∙ at_filter (lives (root_of (step past e) (changed past e)) (changed past e).objects) h 1 (changed past e).next (changed past e).objects (changed_rises past e rising).0

-- what a step tells and what it leaves
told_and_left : (past : Past) (e : Entry) (h : ℕ) → IsRising past.state →
    deleted h (filter_map end_of_object (gone (changed past e) (step past e).state)) + weight (object_at (step past e).state h) ≡ weight (object_at (changed past e) h)
told_and_left past e h rising =
    ap (λ n. n + weight (object_at (step past e).state h))
    (deleted_of_ends h 1 (changed past e).next (gone (changed past e) (step past e).state) (rises_filtered (λ entry. not (has entry.0 (keys_of (step past e).state.objects))) 1 (changed past e).next (changed past e).objects (changed_rises past e rising).0)
    ∙ ap weight (at_gone h (changed past e) (step past e).state (changed_rises past e rising).0))
    ∙ parts (λ o. lives (root_of (step past e) (changed past e)) (changed past e).objects (h, o)) (object_at (changed past e) h) (object_at (step past e).state h) (at_step past e h rising)

-- what a change makes of the weight at a handle
like_weight : (x y : Option Object) → AreLike x y → weight y ≡ weight x
like_weight None None like = refl
like_weight (Some o) (Some p) like = ap (λ t. cond t 1 0) like.captured
like_weight None (Some p) like = absurd like
like_weight (Some o) None like = absurd like

mapped_weight : (f : Object → Object) → ((o : Object) → is_captured (f o) ≡ is_captured o) → (x : Option Object) → weight (option_map f x) ≡ weight x
mapped_weight f same None = refl
mapped_weight f same (Some o) = ap (λ t. cond t 1 0) (same o)

set_weight : (k h : ℕ) (phase : Phase) (s : State) → weight (object_at (changed_at k (set_phase phase) s) h) ≡ weight (object_at s h)
set_weight k h phase s = by (cases_eq h k)
  where
    by : (h ≡ k) ⊎ (h ≡ k → ⊥) → weight (object_at (changed_at k (set_phase phase) s) h) ≡ weight (object_at s h)
    by (inl same) =
        subst (λ h. weight (object_at (changed_at k (set_phase phase) s) h) ≡ weight (object_at s h)) (sym same)
        (ap weight (changed_here k (set_phase phase) s) ∙ mapped_weight (set_phase phase) (λ o. refl) (object_at s k))
    by (inr apart) = ap weight (others_unchanged k h (set_phase phase) s apart)

discard_weight : (k h : ℕ) (s : State) → weight (object_at (discard k s) h) ≡ weight (object_at s h)
unfolding discard
discard_weight k h s = ap (λ es. weight (at h es)) (stop_objects _ (changed_at k (set_phase Empty) s)) ∙ set_weight k h Empty s

end_captured : (u : ℕ) (phase : Phase) (o : Object) → is_captured (end_flight u phase o) ≡ is_captured o
end_captured u phase o = by (end_is u phase o)
  where
    by : (end_flight u phase o ≡ o) ⊎ ((o.phase ≡ Flight u) × (end_flight u phase o ≡ set_phase phase o)) → is_captured (end_flight u phase o) ≡ is_captured o
    by (inl same) = ap is_captured same
    by (inr ended) = ap is_captured ended.1

end_weight : (u h : ℕ) (phase : Phase) (s : State) → weight (object_at (end_flights u phase s) h) ≡ weight (object_at s h)
unfolding end_flights
end_weight u h phase s = ap weight (at_map (end_flight u phase) h s.objects) ∙ mapped_weight (end_flight u phase) (end_captured u phase) (object_at s h)

-- 1 where the entry makes the captured array h, as the next handle is h
abbrev newly : State → Entry → ℕ → ℕ
newly s e h = cond (captures e && (s.next == h)) 1 0

not_newly : (s : State) (e : Entry) (h n m : ℕ) → captures e ≡ false → n ≡ m → n ≡ m + newly s e h
not_newly s e h n m takes same = rw takes (omega (arith, same))

made_weight : (e : Entry) (s u : State) (o : Object) (h : ℕ) → captures e ≡ is_captured o → IsQuiet s u → IsRising u → weight (object_at (with_object o u) h) ≡ weight (object_at s h) + newly s e h
made_weight e s u o h takes quiet rising = by (cases_eq h u.next)
  where
    both : object_at (with_object o u) h ≡ option_or (object_at u h) (at h ((u.next, o) ∷ []))
    both = at_append h u.objects ((u.next, o) ∷ [])

    same_weight : weight (object_at u h) ≡ weight (object_at s h)
    same_weight = like_weight (object_at s h) (object_at u h) (quiet.like h)

    beside : (x : Option Object) → option_or x None ≡ x
    beside None = refl
    beside (Some x) = refl

    by : (h ≡ u.next) ⊎ (h ≡ u.next → ⊥) → weight (object_at (with_object o u) h) ≡ weight (object_at s h) + newly s e h
    by (inl same) =
        let none : object_at u h ≡ None = nothing_outside h 1 u.next u.objects rising (λ _ high. omega (arith, high, same)) in
        let last : at h ((u.next, o) ∷ []) ≡ Some o = ap (λ t. cond t (Some o) None) (subst (λ k. is_at (nat_cmp h) k ≡ true) same (key_here h)) in
        let now : weight (object_at (with_object o u) h) ≡ cond (is_captured o) 1 0 = ap weight (both ∙ ap (λ x. option_or x (at h ((u.next, o) ∷ []))) none ∙ last) in
        let before : weight (object_at s h) ≡ 0 = sym same_weight ∙ ap weight none in
        let test : (s.next == h) ≡ true = eq-eqb s.next h (sym quiet.next ∙ sym same) in
        let tested : newly s e h ≡ cond {A = ℕ} (captures e && true) 1 0 = ap (λ t. cond (captures e && t) 1 0) test in
        let taken : cond {A = ℕ} (captures e && true) 1 0 ≡ cond {A = ℕ} (is_captured o && true) 1 0 = ap (λ t. cond (t && true) 1 0) takes in
        let new : newly s e h ≡ cond (is_captured o) 1 0 = tested ∙ taken ∙ of (is_captured o) in
        omega (arith, now, before, new)
      where
        of : (t : Bool) → cond {A = ℕ} (t && true) 1 0 ≡ cond {A = ℕ} t 1 0
        of true = refl
        of false = refl
    by (inr apart) =
        let last : at h ((u.next, o) ∷ []) ≡ None = ap (λ t. cond t (Some o) None) (key_is_other h u.next apart) in
        let now : weight (object_at (with_object o u) h) ≡ weight (object_at s h) = ap weight (both ∙ ap (option_or (object_at u h)) last ∙ beside (object_at u h)) ∙ same_weight in
        let test : (s.next == h) ≡ false = ne_eqb s.next h (λ same. apart (sym same ∙ sym quiet.next)) in
        let new : newly s e h ≡ 0 = ap (λ t. cond (captures e && t) 1 0) test ∙ of (captures e) in
        omega (arith, now, new)
      where
        of : (t : Bool) → cond {A = ℕ} (t && false) 1 0 ≡ 0
        of true = refl
        of false = refl

is_closing : Entry → Bool
is_closing Closed = true
is_closing _ = false

quiet_rises : (s u : State) → IsQuiet s u → IsRising s → IsRising u
quiet_rises s u quiet rising = subst (λ ks. RisesWithin 1 u.next ks) (sym quiet.keys) (subst (λ n. RisesWithin 1 n (keys_of s.objects)) (sym quiet.next) rising)

change_weight : (place : ℕ) (e : Entry) (s t : State) (h : ℕ) → Change place e s t → is_closing e ≡ false → IsRising s → weight (object_at t h) ≡ weight (object_at s h) + newly s e h
unfolding is_closing
change_weight place e s t h (Quiet shows takes quiet) open_ rising = not_newly s e h (weight (object_at t h)) (weight (object_at s h)) takes (like_weight (object_at s h) (object_at t h) (quiet.like h))
change_weight place e s t h (Making o u shows takes phase quiet is) open_ rising =
    ap (λ t. weight (object_at t h)) is ∙ made_weight e s u o h takes quiet (quiet_rises s u quiet rising)
change_weight place e s t h (Rendering k shows takes is) open_ rising =
    not_newly s e h (weight (object_at t h)) (weight (object_at s h)) takes (ap (λ t. weight (object_at t h)) is ∙ set_weight k h (Flight place) s)
change_weight place e s t h (Discarding k shows takes is) open_ rising =
    not_newly s e h (weight (object_at t h)) (weight (object_at s h)) takes (ap (λ t. weight (object_at t h)) is ∙ discard_weight k h s)
change_weight place e s t h (Finishing u entry is) open_ rising =
    not_newly s e h (weight (object_at t h)) (weight (object_at s h)) (ap captures entry) (ap (λ t. weight (object_at t h)) is ∙ end_weight u h (Done u) s)
change_weight place e s t h (Leaving u entry is) open_ rising =
    not_newly s e h (weight (object_at t h)) (weight (object_at s h)) (ap captures entry) (ap (λ t. weight (object_at t h)) is ∙ end_weight u h Empty s)
change_weight place e s t h (Closing entry is) open_ rising = let closing : true ≡ false = sym (ap is_closing entry) ∙ open_ in absurd cc

-- what is told of the entries but the close
removed_is : (past : Past) (e : Entry) → is_closing e ≡ false → removed past e ≡ gone (changed past e) (step past e).state
unfolding is_closing
removed_is past (Called actor call r) open_ = refl
removed_is past (Finished t) open_ = refl
removed_is past (Left t) open_ = refl
removed_is past Closed open_ = absurd cc

nothing_after_close : (past : Past) (h : ℕ) → IsRising past.state → object_at (step past Closed).state h ≡ None
unfolding change
nothing_after_close past h rising = at_step past Closed h rising

deleted_by : (past : Past) (e : Entry) (h : ℕ) → deleted h (told_by past e) ≡ deleted h (filter_map end_of_object (removed past e))
unfolding told_by
deleted_by past e h =
    let both : deleted h (status_at e ++ filter_map end_of_object (removed past e)) ≡ deleted h (status_at e) + deleted h (filter_map end_of_object (removed past e)) =
    sum_by-append (λ x. cond (is_deleting h x) 1 0) (status_at e) (filter_map end_of_object (removed past e)) in
    omega (arith, both, no_end_in_status h e)

open_step_told : (past : Past) (e : Entry) (h : ℕ) → is_closing e ≡ false → IsRising past.state →
    deleted h (told_by past e) + weight (object_at (step past e).state h) ≡ weight (object_at past.state h) + newly past.state e h
open_step_told past e h open_ rising =
    ap (λ n. n + weight (object_at (step past e).state h)) (deleted_by past e h ∙ ap (λ es. deleted h (filter_map end_of_object es)) (removed_is past e open_))
    ∙ told_and_left past e h rising
    ∙ change_weight (next_place past) e past.state (changed past e) h (entry_changes (next_place past) e past.state) open_ rising

close_told : (past : Past) (h : ℕ) → IsRising past.state → deleted h (told_by past Closed) ≡ weight (object_at past.state h)
close_told past h rising = deleted_by past Closed h ∙ deleted_of_ends h 1 past.state.next past.state.objects rising

step_told : (past : Past) (e : Entry) (h : ℕ) → IsRising past.state →
    deleted h (told_by past e) + weight (object_at (step past e).state h) ≡ weight (object_at past.state h) + newly past.state e h
unfolding is_closing
step_told past (Called actor call r) h rising = open_step_told past (Called actor call r) h refl rising
step_told past (Finished t) h rising = open_step_told past (Finished t) h refl rising
step_told past (Left t) h rising = open_step_told past (Left t) h refl rising
step_told past Closed h rising =
    let none : weight (object_at (step past Closed).state h) ≡ 0 = ap weight (nothing_after_close past h rising) in
    omega (arith, none, close_told past h rising)

-- what is told of a longer history
told_from_more : (past : Past) (rest : History) (e : Entry) → told_from past (rest ++ e ∷ []) ≡ told_from past rest ++ told_by (fold step past rest) e
unfolding told_from
told_from_more past [] e = append-nil (told_by past e)
told_from_more past (x ∷ rest) e =
    ap (λ notices. told_by past x ++ notices) (told_from_more (step past x) rest e) ∙ sym (append_assoc (told_by past x) (told_from (step past x) rest) (told_by (fold step (step past x) rest) e))

pub told_more : (history : History) (e : Entry) → told (history ++ e ∷ []) ≡ told history ++ told_by (after history) e
unfolding told after
told_more history e = told_from_more start history e

deleted_more : (history : History) (e : Entry) (h : ℕ) → deleted h (told (history ++ e ∷ [])) ≡ deleted h (told history) + deleted h (told_by (after history) e)
deleted_more history e h = ap (deleted h) (told_more history e) ∙ sum_by-append (λ x. cond (is_deleting h x) 1 0) (told history) (told_by (after history) e)

-- a captured array is there or was told
abbrev total : History → ℕ → ℕ
total history h = deleted h (told history) + weight (object_at (after history).state h)

total_more : (history : History) (e : Entry) (h : ℕ) → total (history ++ e ∷ []) h ≡ total history h + newly (after history).state e h
total_more history e h =
    let more : deleted h (told (history ++ e ∷ [])) ≡ deleted h (told history) + deleted h (told_by (after history) e) = deleted_more history e h in
    let now : weight (object_at (after (history ++ e ∷ [])).state h) ≡ weight (object_at (step (after history) e).state h) = ap (λ (past : Past). weight (object_at past.state h)) (after_more history e) in
    let one : deleted h (told_by (after history) e) + weight (object_at (step (after history) e).state h) ≡ weight (object_at (after history).state h) + newly (after history).state e h =
    step_told (after history) e h (rises history) in
    omega (arith, more, now, one)

total_first : (h : ℕ) → total [] h ≡ 0
unfolding told told_from after
total_first h = refl

-- a capture takes a handle
capture_takes : (place : ℕ) (e : Entry) (s t : State) → Change place e s t → captures e ≡ true → s.next + 1 ≤ t.next
capture_takes place e s t (Quiet shows takes quiet) captured = absurd cc
capture_takes place e s t (Making o u shows takes phase quiet is) captured =
    let next : t.next ≡ u.next + 1 = ap (λ (t : State). t.next) is in omega (arith, next, quiet.next)
capture_takes place e s t (Rendering h shows takes is) captured = absurd cc
capture_takes place e s t (Discarding h shows takes is) captured = absurd cc
capture_takes place e s t (Finishing u entry is) captured = let none : false ≡ true = sym (ap captures entry) ∙ captured in absurd cc
capture_takes place e s t (Leaving u entry is) captured = let none : false ≡ true = sym (ap captures entry) ∙ captured in absurd cc
capture_takes place e s t (Closing entry is) captured = let none : false ≡ true = sym (ap captures entry) ∙ captured in absurd cc

step_takes : (past : Past) (e : Entry) → captures e ≡ true → past.state.next + 1 ≤ (step past e).state.next
step_takes past e captured =
    let more : past.state.next + 1 ≤ (changed past e).next = capture_takes (next_place past) e past.state (changed past e) (entry_changes (next_place past) e past.state) captured in
    let same : (step past e).state.next ≡ (changed past e).next = ap (λ (s : State). s.next) (step_state past e) ∙ (swept_next (step past e) (changed past e)).0 in
    omega (arith, more, same)

abbrev IsBounded : ℕ → History → Type 0
IsBounded h history = (total history h ≤ 1) × ((after history).state.next ≤ h → total history h ≡ 0)

bounded_more : (h : ℕ) (history : History) (e : Entry) → IsBounded h history → IsBounded h (history ++ e ∷ [])
bounded_more h history e now = by (captures e && ((after history).state.next == h)) refl
  where
    grown_total : total (history ++ e ∷ []) h ≡ total history h + newly (after history).state e h
    grown_total = total_more history e h

    next_is : (after (history ++ e ∷ [])).state.next ≡ (step (after history) e).state.next
    next_is = ap (λ (past : Past). past.state.next) (after_more history e)

    next_up : (after history).state.next ≤ (step (after history) e).state.next
    next_up = (step_rises (after history) e (rises history)).1

    by : (t : Bool) → (captures e && ((after history).state.next == h)) ≡ t → IsBounded h (history ++ e ∷ [])
    by true is =
        let both : (captures e ≡ true) × (((after history).state.next == h) ≡ true) = and_parts (captures e) ((after history).state.next == h) is in
        let here : (after history).state.next ≡ h = eqb-true (after history).state.next h both.1 in
        let none : total history h ≡ 0 = now.1 (omega (arith, here)) in
        let one : newly (after history).state e h ≡ 1 = ap (λ t. cond {A = ℕ} t 1 0) is in
        let up : (after history).state.next + 1 ≤ (step (after history) e).state.next = step_takes (after history) e both.0 in
        (omega (arith, grown_total, none, one), λ low. absurd (omega (arith, low, next_is, up, here)))
    by false is =
        let none : newly (after history).state e h ≡ 0 = ap (λ t. cond {A = ℕ} t 1 0) is in (
          omega (arith, grown_total, none, now.0),
          λ low. let nothing : total history h ≡ 0 = now.1 (omega (arith, low, next_is, next_up)) in omega (arith, grown_total, none, nothing),
        )

bounded : (h : ℕ) (history : History) → IsBounded h history
bounded h history = grows_by (IsBounded h) (omega (arith, total_first h), λ low. total_first h) (bounded_more h) history

pub told_at_most_once : (history : History) (h : ℕ) → count_by (is_deleting h) (told history) ≤ 1
told_at_most_once history h = omega (arith, (bounded h history).0)

-- what was told is gone, and its handle was used
abbrev IsGone : ℕ → History → Type 0
IsGone h history = 0 < deleted h (told history) → (h < (after history).state.next) × (object_at (after history).state h ≡ None)

some_weight : (x : Option Object) → 0 < weight x → (o : Object) × (x ≡ Some o)
some_weight None more = absurd (omega (arith, more))
some_weight (Some o) more = (o, refl)

gone_now : (x y : Option Object) → 0 < weight (option_filter (λ o. not (is_some y)) x) → ((o : Object) × (x ≡ Some o)) × (y ≡ None)
gone_now None y more = absurd (omega (arith, more))
gone_now (Some o) None more = ((o, refl), refl)
gone_now (Some o) (Some p) more = absurd (omega (arith, more))

told_now_is_gone : (past : Past) (e : Entry) (h : ℕ) → IsRising past.state → is_closing e ≡ false → 0 < deleted h (told_by past e) →
    (h < (step past e).state.next) × (object_at (step past e).state h ≡ None)
told_now_is_gone past e h rising open_ more =
    let is : deleted h (told_by past e) ≡ weight (option_filter (λ o. not (is_some (object_at (step past e).state h))) (object_at (changed past e) h)) =
    deleted_by past e h ∙ ap (λ es. deleted h (filter_map end_of_object es)) (removed_is past e open_)
    ∙ deleted_of_ends h 1 (changed past e).next (gone (changed past e) (step past e).state) (rises_filtered (λ entry. not (has entry.0 (keys_of (step past e).state.objects))) 1 (changed past e).next (changed past e).objects (changed_rises past e rising).0)
    ∙ ap weight (at_gone h (changed past e) (step past e).state (changed_rises past e rising).0) in
    let both : ((o : Object) × (object_at (changed past e) h ≡ Some o)) × (object_at (step past e).state h ≡ None) =
    gone_now (object_at (changed past e) h) (object_at (step past e).state h) (omega (arith, more, is)) in
    let within : (1 ≤ h) × (h < (changed past e).next) = at_within h 1 (changed past e).next (changed past e).objects both.0.0 (changed_rises past e rising).0 both.0.1 in
    let same : (step past e).state.next ≡ (changed past e).next = ap (λ (s : State). s.next) (step_state past e) ∙ (swept_next (step past e) (changed past e)).0 in
    (omega (arith, within.1, same), both.1)

told_gone : (past : Past) (e : Entry) (h : ℕ) → IsRising past.state → 0 < deleted h (told_by past e) → (h < (step past e).state.next) × (object_at (step past e).state h ≡ None)
unfolding is_closing
told_gone past (Called actor call r) h rising more = told_now_is_gone past (Called actor call r) h rising refl more
told_gone past (Finished t) h rising more = told_now_is_gone past (Finished t) h rising refl more
told_gone past (Left t) h rising more = told_now_is_gone past (Left t) h rising refl more
told_gone past Closed h rising more =
    let one : (o : Object) × (object_at past.state h ≡ Some o) = some_weight (object_at past.state h) (omega (arith, more, close_told past h rising)) in
    let within : (1 ≤ h) × (h < past.state.next) = at_within h 1 past.state.next past.state.objects one.0 rising one.1 in
    (omega (arith, within.1, (step_rises past Closed rising).1), nothing_after_close past h rising)

gone_more : (h : ℕ) (history : History) (e : Entry) → IsGone h history → IsGone h (history ++ e ∷ [])
gone_more h history e now more =
    subst (λ (past : Past). (h < past.state.next) × (object_at past.state h ≡ None)) (sym (after_more history e))
    (by (cases_lt 0 (deleted h (told history))))
  where
    by : (0 < deleted h (told history)) ⊎ (deleted h (told history) ≤ 0) → (h < (step (after history) e).state.next) × (object_at (step (after history) e).state h ≡ None)
    by (inl early) =
        let was : (h < (after history).state.next) × (object_at (after history).state h ≡ None) = now early in
        (omega (arith, was.0, (step_rises (after history) e (rises history)).1), stays_gone (after history) e h (rises history) was.0 was.1)
    by (inr none) = told_gone (after history) e h (rises history) (omega (arith, more, none, deleted_more history e h))

pub told_is_gone : (history : History) (h : ℕ) → 0 < count_by (is_deleting h) (told history) → object_at (after history).state h ≡ None
told_is_gone history h more = (grows_by (IsGone h) (λ none. absurd (omega (arith, none, total_first h))) (gone_more h) history more).1

-- in a legal history a capture is told by its reply
newly_is : (history : History) (e : Entry) (h : ℕ) → Legal (history ++ e ∷ []) → newly (after history).state e h ≡ cond (is_capturing h e) 1 0
newly_is history (Called actor (NewArray elem count stride (Captured user) bytes) (reply.Made made)) h legal =
    ap (λ n. cond {A = ℕ} (n == h) 1 0) (sym (made_handle history actor made (NewArray elem count stride (Captured user) bytes) legal).0)
newly_is history (Called actor (NewArray elem count stride (Shared user) bytes) (reply.Made made)) h legal = refl
newly_is history (Called actor (NewArray elem count stride Managed bytes) (reply.Made made)) h legal = refl
newly_is history (Called actor (NewArray elem count stride (Captured user) bytes) _) h legal = refl
newly_is history (Called actor (NewArray elem count stride (Shared user) bytes) _) h legal = refl
newly_is history (Called actor (NewArray elem count stride Managed bytes) _) h legal = refl
newly_is history (Called actor _ r) h legal = refl
newly_is history (Finished t) h legal = refl
newly_is history (Left t) h legal = refl
newly_is history Closed h legal = refl

all_told : (h : ℕ) (history : History) → Legal history → total history h ≡ count_by (is_capturing h) history
all_told h history = grows_by (λ history. Legal history → total history h ≡ count_by (is_capturing h) history) (λ legal. total_first h) more history
  where
    more : (history : History) (e : Entry) → (Legal history → total history h ≡ count_by (is_capturing h) history) →
        Legal (history ++ e ∷ []) → total (history ++ e ∷ []) h ≡ count_by (is_capturing h) (history ++ e ∷ [])
    more history e now legal =
        let before : total history h ≡ count_by (is_capturing h) history = now (prefix_is_legal history (e ∷ []) legal) in
        let count : count_by (is_capturing h) (history ++ e ∷ []) ≡ count_by (is_capturing h) history + cond (is_capturing h e) 1 0 =
        sum_by_push (λ x. cond (is_capturing h x) 1 0) history e in
        let new : newly (after history).state e h ≡ cond (is_capturing h e) 1 0 = newly_is history e h legal in
        omega (arith, before, count, new, total_more history e h)

pub closed_tells_all : (history : History) (h : ℕ) → Legal (history ++ Closed ∷ []) →
    count_by (is_deleting h) (told (history ++ Closed ∷ [])) ≡ count_by (is_capturing h) (history ++ Closed ∷ [])
closed_tells_all history h legal =
    let none : weight (object_at (after (history ++ Closed ∷ [])).state h) ≡ 0 =
    ap weight (ap (λ (past : Past). object_at past.state h) (after_more history Closed) ∙ nothing_after_close (after history) h (rises history)) in
    let all : total (history ++ Closed ∷ []) h ≡ count_by (is_capturing h) (history ++ Closed ∷ []) = all_told h (history ++ Closed ∷ []) legal in
    omega (arith, none, all)
