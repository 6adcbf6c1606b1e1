-- A mapped channel of a frame stands once, and the numbers of loans rise.
use Rattle.std.proofs.Common.{ℕ, ◌+◌, ◌==◌, ◌≡◌, ◌<◌, ◌≤◌, ◌∙◌, Bool, true, false, not, List, [], ◌∷◌, ◌++◌, All, Option, Some, None, map, refl, sym, ap, subst, length, arith}
use Rattle.std.specs.Prelude.{cond, count_by}
use Rattle.std.specs.List.{filter, list_any}
use Rattle.std.specs.List.Sorted.{IsStrictlyIncreasing}
use Rattle.std.specs.Option.{option_and_then, option_map, option_map_or, unwrap_or}
use Rattle.std.specs.Str.{bytes_eq}
use Rattle.std.proofs.lemmas.Bool.{cond-false, cond-true, or_parts}
use Rattle.std.proofs.lemmas.List.Sums.{sum_by-append, sum_by-cons}
use Rattle.std.proofs.lemmas.Map.Keys.{IsStrictlyIncreasing-from_sorted}
use Rattle.std.proofs.lemmas.Slice.Eq.{bytes_eq-Decides}
use Rattle.dev_types.specs.Words.{name_of_channel}
use Rattle.dev_types.specs.declared.data_types.DataType.TheVariants as ty
use Rattle.dev_types.specs.declared.handles.Channel.{Channel}
use Rattle.dev_types.specs.declared.handles.Origin.TheVariants.{Managed}
use Rattle.dev_types.specs.declared.refusals.Refused.TheVariants.{ChannelMapped}
use Rattle.dev_types.specs.declared.values.Value.TheVariants as value
use Rattle.kind_tables.specs.Kinds.{kind_of}
use Rattle.kind_tables.specs.declared.kinds.Kind.{Kind}
use Rattle.kind_tables.specs.declared.kinds.Kind.TheVariants.{Array}
use Rattle.seq_model.proofs.Came.{swept_was}
use Rattle.seq_model.proofs.Granted.{AllNone, all_none, does_not_apply, given}
use Rattle.seq_model.proofs.Handles.{changed_rises, changed, keys_below, rises, sorted, step_state}
use Rattle.seq_model.proofs.Keys.{RisesWithin}
use Rattle.seq_model.proofs.Loans.{Each, channel_numbers, each_changed, each_discarded, each_ended, each_new, loans_are_earlier, parameter_numbers}
use Rattle.seq_model.proofs.Prefixes.{legal_by}
use Rattle.seq_model.proofs.Sweeps.{place_after}
use Rattle.seq_model.specs.Histories.{History}
use Rattle.seq_model.specs.Legal.{IsInPlace, Legal}
use Rattle.seq_model.specs.Refusals.{is_same_channel, mapped_at, refusal, refusals_of, refusals_of_map_frame}
use Rattle.seq_model.specs.State.{Object, ParameterLoan, Empty, Flight, Done, State, changed_at, content_of_loan, object_at, parameter_loan, with_object}
use Rattle.seq_model.specs.Steps.{Past, after, change, change_array, commit, effect, end_flights, end_parameter_loan, fresh, fresh_array, holding, lend_parameter, lent, map_channel, next_place, set_phase, set_staged, step, take_in, unmap_channel, unmap_parameter}
use Rattle.seq_model.specs.declared.calls.Call.{Call}
use Rattle.seq_model.specs.declared.calls.Call.TheVariants.{NewObject, NewArray, SetParameter, UnsetParameter, UnsetAll, Commit, MapArray, UnmapArray, MapParameterArray, UnmapParameterArray, RenderFrame, DiscardFrame, MapFrame, UnmapFrame}
use Rattle.seq_model.specs.declared.calls.Entry.{Entry}
use Rattle.seq_model.specs.declared.calls.Entry.TheVariants.{Called, Finished, Left, Closed}
use Rattle.seq_model.specs.declared.calls.Reply.{Reply}
use Rattle.seq_model.specs.declared.calls.Reply.TheVariants as reply
use Rattle.kind_tables.specs.SceneObjects.{with_value, without_value}

-- how often a channel is mapped
abbrev pub times_mapped : Channel → List (Channel × ℕ) → ℕ
times_mapped c ms = count_by (λ m. is_same_channel m.0 c) ms

abbrev pub AreOnce : ℕ → Object → Type 0
AreOnce h o = (c : Channel) → times_mapped c o.channels ≤ 1

-- what is not mapped is mapped 0 times
never_mapped : (c : Channel) (ms : List (Channel × ℕ)) → list_any (λ m. is_same_channel m.0 c) ms ≡ false → times_mapped c ms ≡ 0
never_mapped c [] none = refl
never_mapped c (m ∷ ms) none =
    let both : (is_same_channel m.0 c ≡ false) × (list_any (λ m. is_same_channel m.0 c) ms ≡ false) = or_parts (is_same_channel m.0 c) (list_any (λ m. is_same_channel m.0 c) ms) none in
    let first : cond {A = ℕ} (is_same_channel m.0 c) 1 0 ≡ 0 = cond-false (is_same_channel m.0 c) 1 0 both.0 in
    omega (arith, sum_by-cons (λ (m : Channel × ℕ). cond (is_same_channel m.0 c) 1 0) m ms, first, never_mapped c ms both.1)

fewer_mapped : (c : Channel) (p : Channel × ℕ → Bool) (ms : List (Channel × ℕ)) → times_mapped c (filter p ms) ≤ times_mapped c ms
fewer_mapped c p [] = omega arith
fewer_mapped c p (m ∷ ms) = by (p m) (fewer_mapped c p ms)
  where
    all : times_mapped c (m ∷ ms) ≡ cond {A = ℕ} (is_same_channel m.0 c) 1 0 + times_mapped c ms
    all = sum_by-cons (λ (m : Channel × ℕ). cond (is_same_channel m.0 c) 1 0) m ms

    by : (t : Bool) → times_mapped c (filter p ms) ≤ times_mapped c ms → times_mapped c (cond t (m ∷ filter p ms) (filter p ms)) ≤ times_mapped c (m ∷ ms)
    by true rest = omega (arith, all, rest, sum_by-cons (λ (m : Channel × ℕ). cond (is_same_channel m.0 c) 1 0) m (filter p ms))
    by false rest = omega (arith, all, rest)

-- the test whether an entry is of a channel
abbrev of_channel : Channel → Channel × ℕ → Bool
of_channel c m = is_same_channel m.0 c

-- channels that are the same to one are the same to each other
same_channels : (c d : Channel) → is_same_channel c d ≡ true → of_channel c ≡ of_channel d
same_channels c d same = ap {B = Channel × ℕ → Bool} (λ (name : List ℕ) (m : Channel × ℕ). bytes_eq (name_of_channel m.0) name) ((bytes_eq-Decides (name_of_channel c) (name_of_channel d)).0 same)

one_more : (c : Channel) (place : ℕ) (ms : List (Channel × ℕ)) → ((d : Channel) → times_mapped d ms ≤ 1) → list_any (λ m. is_same_channel m.0 c) ms ≡ false → (d : Channel) → times_mapped d (ms ++ (c, place) ∷ []) ≤ 1
one_more c place ms once free d = by (is_same_channel c d) refl
  where
    all : times_mapped d (ms ++ (c, place) ∷ []) ≡ times_mapped d ms + times_mapped d ((c, place) ∷ [])
    all = sum_by-append (λ (m : Channel × ℕ). cond (is_same_channel m.0 d) 1 0) ms ((c, place) ∷ [])

    last : times_mapped d ((c, place) ∷ []) ≡ cond {A = ℕ} (is_same_channel c d) 1 0 + 0
    last = sum_by-cons (λ (m : Channel × ℕ). cond (is_same_channel m.0 d) 1 0) (c, place) []

    by : (t : Bool) → is_same_channel c d ≡ t → times_mapped d (ms ++ (c, place) ∷ []) ≤ 1
    by true is =
        let none : times_mapped d ms ≡ 0 = never_mapped d ms (ap (λ (test : Channel × ℕ → Bool). list_any test ms) (sym (same_channels c d is)) ∙ free) in
        let one : cond {A = ℕ} (is_same_channel c d) 1 0 ≡ 1 = cond-true (is_same_channel c d) 1 0 is in
        omega (arith, all, last, none, one)
    by false is =
        let nothing : cond {A = ℕ} (is_same_channel c d) 1 0 ≡ 0 = cond-false (is_same_channel c d) 1 0 is in
        omega (arith, all, last, nothing, once d)

-- a channel that is lent was free
was_free : (past : Past) (h : ℕ) (c : Channel) (o : Object) → refusal past (MapFrame h c) ≡ None → object_at past.state h ≡ Some o → list_any (λ m. is_same_channel m.0 c) o.channels ≡ false
unfolding refusal refusals_of
was_free past h c o none found =
    let facts : AllNone (refusals_of_map_frame past h c) = all_none (refusals_of_map_frame past h c) none in
    let free : list_any (λ m. is_same_channel m.0 c) (mapped_at past h) ≡ false = does_not_apply (list_any (λ m. is_same_channel m.0 c) (mapped_at past h)) ChannelMapped facts.1.1.1.1.1.0 in
    sym (ap (λ x. list_any (λ m. is_same_channel m.0 c) (option_map_or (λ (o : Object). o.channels) x [])) found) ∙ free

-- no other change maps a channel
abbrev Keeps : (Object → Object) → Type 0
Keeps f = (o : Object) → (f o).channels ≡ o.channels

kept_once : (h : ℕ) (f : Object → Object) (s : State) → Keeps f → Each AreOnce s → Each AreOnce (changed_at h f s)
kept_once h f s keeps all = each_changed AreOnce AreOnce (λ k o once. once) h f s (λ o once c. subst (λ ms. times_mapped c ms ≤ 1) (sym (keeps o)) (once c)) all

new_once : (o : Object) (s : State) → o.channels ≡ [] → Each AreOnce s → Each AreOnce (with_object o s)
new_once o s none all = each_new AreOnce AreOnce (λ k o once. once) o s (λ k c. subst (λ ms. times_mapped c ms ≤ 1) (sym none) (omega arith)) all

taken_once : (h : ℕ) (name bytes : List ℕ) (s : State) (x : Option ParameterLoan) → Each AreOnce s → Each AreOnce (option_map_or (λ loan. take_in h name bytes loan s) x s)
unfolding take_in
taken_once h name bytes s None all = all
taken_once h name bytes s (Some loan) all =
    new_once (fresh (Array loan.elem) (Some (record { block = content_of_loan loan bytes; origin = Managed; loan = None })))
    (changed_at h (set_staged (with_value name (value.Object ty.Array1D s.next))) (changed_at h (end_parameter_loan loan.number) s)) refl
    (kept_once h (set_staged (with_value name (value.Object ty.Array1D s.next))) (changed_at h (end_parameter_loan loan.number) s) (λ o. refl)
    (kept_once h (end_parameter_loan loan.number) s (λ o. refl) all))

made_once : (s : State) (x : Option Kind) → Each AreOnce s → Each AreOnce (unwrap_or (option_map (λ kind. with_object (fresh kind None) s) x) s)
made_once s None all = all
made_once s (Some kind) all = new_once (fresh kind None) s refl all

mapped_once : (past : Past) (place h : ℕ) (c : Channel) → refusal past (MapFrame h c) ≡ None → Each AreOnce past.state → Each AreOnce (changed_at h (map_channel c place) past.state)
mapped_once past place h c none all =
    each_changed Free AreOnce (λ k o now. now.1) h (map_channel c place) past.state (λ o now. one_more c place o.channels now.1 (now.0 refl)) free
  where
    -- an object other than the frame need not be free
    Free : ℕ → Object → Type 0
    Free k o = (k ≡ h → list_any (λ m. is_same_channel m.0 c) o.channels ≡ false) × AreOnce k o

    free : Each Free past.state
    free k o found = (λ same. was_free past h c o none (subst (λ k. object_at past.state k ≡ Some o) same found), all k o found)

call_once : (past : Past) (place actor : ℕ) (call : Call) (r : Reply) → IsInPlace past [] (Called actor call r) → Each AreOnce past.state → Each AreOnce (effect place call r past.state)
unfolding effect unmap_parameter
call_once past place actor (NewObject t subtype) (reply.Made made) placed all = made_once past.state (kind_of t subtype) all
call_once past place actor (NewArray elem count stride origin bytes) (reply.Made made) placed all = new_once (fresh_array elem count stride origin bytes) past.state refl all
call_once past place actor (SetParameter h name v) reply.Done placed all = kept_once h (set_staged (with_value name v)) past.state (λ o. refl) all
call_once past place actor (UnsetParameter h name) reply.Done placed all = kept_once h (set_staged (without_value name)) past.state (λ o. refl) all
call_once past place actor (UnsetAll h) reply.Done placed all = kept_once h (set_staged (λ _. [])) past.state (λ o. refl) all
call_once past place actor (Commit h) reply.Done placed all = kept_once h commit past.state (λ o. refl) all
call_once past place actor (MapArray h) (reply.Lent number) placed all = kept_once h (change_array (lent place)) past.state (λ o. refl) all
call_once past place actor (UnmapArray h number bytes) reply.Done placed all = kept_once h (change_array (holding bytes)) past.state (λ o. refl) all
call_once past place actor (MapParameterArray h name elem count) (reply.Lent number) placed all =
    kept_once h (lend_parameter (record { number = place; name = name; elem = elem; count = count })) past.state (λ o. refl) all
call_once past place actor (UnmapParameterArray h name number bytes) (reply.Made made) placed all =
    taken_once h name bytes past.state (option_and_then (λ o. parameter_loan number o.parameter_loans) (object_at past.state h)) all
call_once past place actor (RenderFrame h) reply.Done placed all = kept_once h (set_phase (Flight place)) past.state (λ o. refl) all
call_once past place actor (DiscardFrame h) reply.Done placed all = each_discarded AreOnce AreOnce (λ k o once. once) h past.state (λ o once. once) all
call_once past place actor (MapFrame h c) (reply.Mapped width height kind rows) placed all =
    mapped_once past place h c (given past (MapFrame h c) (reply.Mapped width height kind rows) placed.0 (λ refused is. cc)).0 all
call_once past place actor (UnmapFrame h number) reply.Done placed all =
    each_changed AreOnce AreOnce (λ k o once. once) h (unmap_channel number) past.state
    (λ o once c. (let less : times_mapped c (filter (λ m. not (m.1 == number)) o.channels) ≤ times_mapped c o.channels = fewer_mapped c (λ m. not (m.1 == number)) o.channels in omega (arith, less, once c))) all
call_once past place actor _ _ placed all = all

entry_once : (past : Past) (place : ℕ) (e : Entry) → IsInPlace past [] e → Each AreOnce past.state → Each AreOnce (change place e past.state)
unfolding change end_flights
entry_once past place (Called actor call r) placed all = call_once past place actor call r placed all
entry_once past place (Finished u) placed all = each_ended AreOnce AreOnce (λ k o once. once) u (Done u) past.state.stopped past.state (λ k o once. once) all
entry_once past place (Left u) placed all = each_ended AreOnce AreOnce (λ k o once. once) u Empty (filter (λ v. not (v == u)) past.state.stopped) past.state (λ k o once. once) all
entry_once past place Closed placed all = λ k p found. absurd (let none : None ≡ Some p = found in cc)

once_first : Each AreOnce (after []).state
unfolding after
once_first k o found = absurd cc

pub channels_stand_once : (history : History) (h : ℕ) (o : Object) (c : Channel) → Legal history → object_at (after history).state h ≡ Some o → count_by (λ m. is_same_channel m.0 c) o.channels ≤ 1
channels_stand_once history h o c legal found = legal_by (λ past. Each AreOnce past.state) once_first more history legal h o found c
  where
    more : (history : History) (e : Entry) → Legal (history ++ e ∷ []) → IsInPlace (after history) [] e → Each AreOnce (after history).state → Each AreOnce (step (after history) e).state
    more history e legal placed all k o found =
        entry_once (after history) (next_place (after history)) e placed all k o
        (swept_was (step (after history) e) (changed (after history) e) k o (changed_rises (after history) e (rises history)).0
        (ap (λ s. object_at s k) (sym (step_state (after history) e)) ∙ found)).0

-- the numbers of loans in std's words
in_order : (place : ℕ) (ns : List ℕ) → RisesWithin 1 place ns → IsStrictlyIncreasing ns × All (λ n. n < place) ns
in_order place ns rising = (IsStrictlyIncreasing-from_sorted ns (sorted 1 place ns rising), keys_below 1 place ns rising)

pub parameter_numbers_rise : (history : History) (h : ℕ) (o : Object) → object_at (after history).state h ≡ Some o →
    IsStrictlyIncreasing (map (λ loan. loan.number) o.parameter_loans) × All (λ n. n < next_place (after history)) (map (λ loan. loan.number) o.parameter_loans)
parameter_numbers_rise history h o found =
    subst (λ place. IsStrictlyIncreasing (parameter_numbers o) × All (λ n. n < place) (parameter_numbers o)) (sym (place_after history))
    (in_order (length history + 1) (parameter_numbers o) (loans_are_earlier history h o found).parameters)

pub channel_numbers_rise : (history : History) (h : ℕ) (o : Object) → object_at (after history).state h ≡ Some o →
    IsStrictlyIncreasing (map (λ m. m.1) o.channels) × All (λ n. n < next_place (after history)) (map (λ m. m.1) o.channels)
channel_numbers_rise history h o found =
    subst (λ place. IsStrictlyIncreasing (channel_numbers o) × All (λ n. n < place) (channel_numbers o)) (sym (place_after history))
    (in_order (length history + 1) (channel_numbers o) (loans_are_earlier history h o found).channels)
