-- Every legal history leads to a sound state.
use Rattle.std.proofs.Common.{ℕ, zero, suc, ◌+◌, ◌==◌, ◌≡◌, ◌∙◌, Bool, true, false, not, List, [], ◌∷◌, ◌++◌, Option, Some, None, refl, sym, ap, subst, length, arith}
use Rattle.std.specs.Prelude.{cond}
use Rattle.std.specs.BTreeMap.{is_at}
use Rattle.std.specs.Cmp.Lexicographic.{slice_cmp}
use Rattle.std.specs.List.{filter, list_any}
use Rattle.std.specs.Map.{set_value}
use Rattle.std.specs.Option.{IsSomeAnd, MatchOption, option_and_then, option_map, option_map_or, option_or, unwrap_or}
use Rattle.std.specs.Ordering.{nat_cmp}
use Rattle.std.proofs.lemmas.List.Elements.{All-nil}
use Rattle.dev_types.specs.declared.data_types.DataType.{DataType}
use Rattle.dev_types.specs.declared.data_types.DataType.TheVariants as ty
use Rattle.dev_types.specs.declared.values.Value.{Value}
use Rattle.dev_types.specs.declared.values.Value.TheVariants as value
use Rattle.kind_tables.specs.Kinds.{kind_of}
use Rattle.kind_tables.specs.Rows.{row_of}
use Rattle.kind_tables.specs.SceneObjects.{object_in, with_value, without_value}
use Rattle.kind_tables.specs.declared.kinds.Kind.{Kind}
use Rattle.kind_tables.specs.declared.kinds.Kind.TheVariants.{Array}
use Rattle.kind_tables.specs.declared.rows.Row.{Row}
use Rattle.seq_model.proofs.Changes.{changed_here, keys_of_changed}
use Rattle.seq_model.proofs.Creations.{kind_is_there, loan_of_parameter}
use Rattle.seq_model.proofs.Granted.{given}
use Rattle.seq_model.proofs.Handles.{IsRising, changed_rises, changed, rises, rises_as, root_of, step_state}
use Rattle.seq_model.proofs.Keys.{at, at_append, key_here, nothing_outside}
use Rattle.seq_model.proofs.Loans.{Each, Earlier, loans_are_earlier}
use Rattle.seq_model.proofs.Prefixes.{legal_by}
use Rattle.seq_model.proofs.Ranked.{closed}
use Rattle.seq_model.proofs.Sound.{KeepsAt, all_sound, changed_keeps, changed_sound, ended_sound, names_are_lower, new_sound, sound_at, sound_kept}
use Rattle.seq_model.proofs.SoundCalls.{committed_sound, content_is_sound, found_fits, lent_sound, named_loan, new_array_sound, new_object_sound, restaged, returned_sound, same_values, taken_array, taken_array_sound, with_loan_sound, without_loan_sound}
use Rattle.seq_model.proofs.SoundSteps.{all_with_value, all_without, loan_fits, set_fits}
use Rattle.seq_model.proofs.Came.{swept_was}
use Rattle.seq_model.specs.Histories.{History}
use Rattle.seq_model.specs.Legal.{IsInPlace, Legal, are_elements_sound, content_of_parameter, is_content_sound}
use Rattle.seq_model.specs.Life.{has, names_of}
use Rattle.seq_model.specs.Refusals.{is_parameter_loan_out, is_parameter_out, refusal}
use Rattle.seq_model.specs.Soundness.{AllSound, Fits, IsRanked, IsSound, LoanFits, NamesFitting}
use Rattle.kind_tables.specs.Typed.{Takes}
use Rattle.seq_model.specs.State.{Object, ParameterLoan, Phase, Empty, Flight, Done, State, changed_at, content_of_loan, object_at, parameter_loan, with_object}
use Rattle.seq_model.specs.Steps.{Past, after, change, change_array, commit, discard, effect, end_flights, end_parameter_loan, fresh, fresh_array, holding, lend_parameter, lent, map_channel, next_place, set_phase, set_staged, step, stop, swept, take_in, unmap_channel, unmap_parameter}
use Rattle.seq_model.specs.declared.calls.Call.{Call}
use Rattle.seq_model.specs.declared.calls.Call.TheVariants.{NewObject, NewArray, SetParameter, UnsetParameter, UnsetAll, Commit, MapArray, UnmapArray, MapParameterArray, UnmapParameterArray, RenderFrame, DiscardFrame, MapFrame, UnmapFrame}
use Rattle.seq_model.specs.declared.calls.Entry.{Entry}
use Rattle.seq_model.specs.declared.calls.Entry.TheVariants.{Called, Finished, Left, Closed}
use Rattle.seq_model.specs.declared.calls.Reply.{Reply}
use Rattle.seq_model.specs.declared.calls.Reply.TheVariants as reply

-- a change of an object that is there, and a new object after it or before it
set_value_early : (h : ℕ) (es fs : List (ℕ × Object)) (o w : Object) → at h es ≡ Some o → set_value (is_at (nat_cmp h)) (es ++ fs) w ≡ set_value (is_at (nat_cmp h)) es w ++ fs
set_value_early h [] fs o w found = absurd cc
set_value_early h (e ∷ es) fs o w found = by (is_at (nat_cmp h) e.0) refl (λ x. set_value_early h es fs o w x)
  where
    by : (t : Bool) → is_at (nat_cmp h) e.0 ≡ t → (at h es ≡ Some o → set_value (is_at (nat_cmp h)) (es ++ fs) w ≡ set_value (is_at (nat_cmp h)) es w ++ fs) →
        cond t ((e.0, w) ∷ (es ++ fs)) (e ∷ set_value (is_at (nat_cmp h)) (es ++ fs) w) ≡ cond t ((e.0, w) ∷ es) (e ∷ set_value (is_at (nat_cmp h)) es w) ++ fs
    by true is rest = refl
    by false is rest = let there : at h es ≡ Some o = rw is at found in ap (λ xs. e ∷ xs) (rest there)

pub there_with : (a : Object) (s : State) (h : ℕ) (o : Object) → object_at s h ≡ Some o → object_at (with_object a s) h ≡ Some o
there_with a s h o found = at_append h s.objects ((s.next, a) ∷ []) ∙ ap (λ x. option_or x (at h ((s.next, a) ∷ []))) found

changed_then_new : (a : Object) (h : ℕ) (f : Object → Object) (s : State) (o : Object) → object_at s h ≡ Some o → with_object a (changed_at h f s) ≡ changed_at h f (with_object a s)
changed_then_new a h f s o found =
    ap (λ x. with_object a (record s { objects = unwrap_or (option_map (λ o. set_value (is_at (nat_cmp h)) s.objects (f o)) x) s.objects })) found
    ∙ ap (λ es. record { objects = es; stopped = s.stopped; next = s.next + 1 }) (sym (set_value_early h s.objects ((s.next, a) ∷ []) o (f o) found))
    ∙ sym (ap (λ x. record (with_object a s) { objects = unwrap_or (option_map (λ o. set_value (is_at (nat_cmp h)) (with_object a s).objects (f o)) x) (with_object a s).objects }) (there_with a s h o found))

-- the new array is there under the next handle
pub new_is_there : (a : Object) (s : State) → IsRising s → object_at (with_object a s) s.next ≡ Some a
new_is_there a s rising =
    at_append s.next s.objects ((s.next, a) ∷ []) ∙ ap (λ x. option_or x (at s.next ((s.next, a) ∷ []))) (nothing_outside s.next 1 s.next s.objects rising (λ low high. omega (arith, high)))
    ∙ ap (λ t. cond t (Some a) None) (key_here s.next)

-- and fits the parameter that its loan was for
new_array_fits : (s : State) (kind : Kind) (name : List ℕ) (loan : ParameterLoan) (bytes : List ℕ) (k : ℕ) → loan.name ≡ name → LoanFits kind loan → object_at s k ≡ Some (taken_array loan bytes) →
    Fits s kind name (value.Object ty.Array1D k)
unfolding taken_array
new_array_fits s kind name loan bytes k named fits there = record { typed = typed (row_of kind name) row; named = by k there }
  where
    row : IsSomeAnd (row_of kind name) (λ row. (row.ty ≡ ty.Array1D) × (row.elem ≡ Some loan.elem))
    row = subst (λ n. IsSomeAnd (row_of kind n) (λ row. (row.ty ≡ ty.Array1D) × (row.elem ≡ Some loan.elem))) named fits.1

    typed : (x : Option Row) → IsSomeAnd x (λ row. (row.ty ≡ ty.Array1D) × (row.elem ≡ Some loan.elem)) → MatchOption x (Unit {0}) (λ row. ty.Array1D ≡ row.ty)
    typed None is = tt
    typed (Some r) is = sym is.0

    takes : (x : Option Row) → IsSomeAnd x (λ row. (row.ty ≡ ty.Array1D) × (row.elem ≡ Some loan.elem)) → IsSomeAnd x (λ row. Takes row (Array loan.elem))
    takes None is = is
    takes (Some r) is = (sym is.0, subst (λ x. MatchOption x (Unit {0}) (λ elem. Array loan.elem ≡ Array elem)) (sym is.1) refl)

    by : (k : ℕ) → object_at s k ≡ Some (taken_array loan bytes) → MatchOption (object_in (value.Object ty.Array1D k)) (Unit {0}) (NamesFitting s kind name)
    by zero there = tt
    by (suc k) there = subst (λ x. IsSomeAnd x (λ o. IsSomeAnd (row_of kind name) (λ row. Takes row o.kind))) (sym there) (takes (row_of kind name) row)

taken_sound : (past : Past) (h : ℕ) (name bytes : List ℕ) (loan : ParameterLoan) (o : Object) → IsRising past.state → AllSound past.state → object_at past.state h ≡ Some o →
    LoanFits o.kind loan → loan.name ≡ name → are_elements_sound past (content_of_loan loan bytes) ≡ true → AllSound (take_in h name bytes loan past.state)
unfolding take_in taken_array
taken_sound past h name bytes loan o rising all found fits named content =
    subst AllSound (sym (changed_then_new (taken_array loan bytes) h (set_staged (with_value name (value.Object ty.Array1D past.state.next))) first (end_parameter_loan loan.number o) first_there))
    (changed_sound h (set_staged (with_value name (value.Object ty.Array1D past.state.next))) second (λ p. refl) stays second_sound)
  where
    first : State
    first = changed_at h (end_parameter_loan loan.number) past.state

    first_there : object_at first h ≡ Some (end_parameter_loan loan.number o)
    first_there = changed_here h (end_parameter_loan loan.number) past.state ∙ ap (option_map (end_parameter_loan loan.number)) found

    first_sound : AllSound first
    first_sound = changed_sound h (end_parameter_loan loan.number) past.state (λ p. refl) (λ p was sound. without_loan_sound past.state p loan.number sound) all

    first_rising : IsRising first
    first_rising = (rises_as past.state first (keys_of_changed h (end_parameter_loan loan.number) past.state) refl rising).0

    second : State
    second = with_object (taken_array loan bytes) first

    second_sound : AllSound second
    second_sound = new_sound (taken_array loan bytes) first (sound_kept past.state first (taken_array loan bytes) (λ k is. changed_keeps h (end_parameter_loan loan.number) past.state (λ p. refl) k) (taken_array_sound past loan bytes fits.0 content)) first_sound

    stays : (p : Object) → object_at second h ≡ Some p → IsSound second p → IsSound second (set_staged (with_value name (value.Object ty.Array1D past.state.next)) p)
    stays p there sound =
        let same : Some (end_parameter_loan loan.number o) ≡ Some p = sym (there_with (taken_array loan bytes) first h (end_parameter_loan loan.number o) first_there) ∙ there in
        let value_is : end_parameter_loan loan.number o ≡ p = cc in
        let kind : o.kind ≡ p.kind = ap (λ (x : Object). x.kind) value_is in
        restaged second p (with_value name (value.Object ty.Array1D past.state.next))
        (all_with_value (λ (entry : List ℕ × Value). Fits second p.kind entry.0 entry.1) name (value.Object ty.Array1D past.state.next) p.staged sound.staged
        (new_array_fits second p.kind name loan bytes past.state.next named (subst (λ k. LoanFits k loan) kind fits) (new_is_there (taken_array loan bytes) first first_rising))) sound

unmapped_sound : (past : Past) (place h number : ℕ) (name bytes : List ℕ) → IsRising past.state → Each (Earlier place) past.state → AllSound past.state →
    refusal past (UnmapParameterArray h name number bytes) ≡ None → is_content_sound past (UnmapParameterArray h name number bytes) ≡ true → AllSound (unmap_parameter h name number bytes past.state)
unfolding unmap_parameter
unmapped_sound past place h number name bytes rising earlier all none content =
    subst (λ x. AllSound (option_map_or (λ loan. take_in h name bytes loan past.state) x past.state)) (sym loan_is)
    (taken_sound past h name bytes loan.0 there.0 rising all there.1 fits loan.2 sound_content)
  where
    there : (o : Object) × (object_at past.state h ≡ Some o) × (list_any (is_parameter_out name number (length bytes)) o.parameter_loans ≡ true)
    there = loan_of_parameter past h number name bytes none

    loan : (loan : ParameterLoan) × (parameter_loan number there.0.parameter_loans ≡ Some loan) × (loan.name ≡ name)
    loan = named_loan 1 place number (length bytes) name there.0.parameter_loans (earlier h there.0 there.1).parameters there.2

    loan_is : option_and_then (λ (o : Object). parameter_loan number o.parameter_loans) (object_at past.state h) ≡ Some loan.0
    loan_is = ap (option_and_then (λ (o : Object). parameter_loan number o.parameter_loans)) there.1 ∙ loan.1

    fits : LoanFits there.0.kind loan.0
    fits = found_fits (LoanFits there.0.kind) (λ loan. loan.number == number) there.0.parameter_loans loan.0 (sound_at past.state h there.0 all there.1).loans loan.1

    out : is_parameter_loan_out past.state h name number (length bytes) ≡ true
    out = ap (λ x. option_map_or (λ (o : Object). list_any (is_parameter_out name number (length bytes)) o.parameter_loans) x false) there.1 ∙ there.2

    sound_content : are_elements_sound past (content_of_loan loan.0 bytes) ≡ true
    sound_content = content_is_sound (is_parameter_loan_out past.state h name number (length bytes)) (content_of_parameter past h number bytes) past (content_of_loan loan.0 bytes) out content
        (ap (option_map (λ loan. content_of_loan loan bytes)) loan_is)

stop_sound : (phase : Phase) (s : State) → AllSound s → AllSound (stop phase s)
stop_sound Empty s all = all
stop_sound (Done t) s all = all
stop_sound (Flight t) s all = all_sound (stop (Flight t) s) (λ h o found. sound_kept s (stop (Flight t) s) o (λ k is p there. same p (object_at s k) there) (sound_at s h o all found))
  where
    same : (p : Object) (x : Option Object) → x ≡ Some p → IsSomeAnd x (λ q. q.kind ≡ p.kind)
    same p x is = subst (λ x. IsSomeAnd x (λ q. q.kind ≡ p.kind)) (sym is) refl

set_phase_sound : (h : ℕ) (phase : Phase) (s : State) → AllSound s → AllSound (changed_at h (set_phase phase) s)
set_phase_sound h phase s all = changed_sound h (set_phase phase) s (λ o. refl) (λ o was sound. same_values s o (set_phase phase o) refl refl refl refl refl sound) all

made_sound : (past : Past) (t : DataType) (subtype : List ℕ) → AllSound past.state → refusal past (NewObject t subtype) ≡ None →
    AllSound (unwrap_or (option_map (λ kind. with_object (fresh kind None) past.state) (kind_of t subtype)) past.state)
made_sound past t subtype all none =
    let kind : (kind : Kind) × (kind_of t subtype ≡ Some kind) = kind_is_there past t subtype none in
    subst (λ x. AllSound (unwrap_or (option_map (λ kind. with_object (fresh kind None) past.state) x) past.state)) (sym kind.1)
    (new_sound (fresh kind.0 None) past.state (new_object_sound past.state t subtype kind.0 kind.1) all)

call_sound : (past : Past) (place earlier_than actor : ℕ) (call : Call) (r : Reply) → IsInPlace past [] (Called actor call r) → IsRising past.state → Each (Earlier earlier_than) past.state → AllSound past.state →
    AllSound (effect place call r past.state)
unfolding effect discard
call_sound past place n actor (NewObject t subtype) (reply.Made made) placed rising earlier all = made_sound past t subtype all (given past (NewObject t subtype) (reply.Made made) placed.0 (λ refused is. cc)).0
call_sound past place n actor (NewArray elem count stride origin bytes) (reply.Made made) placed rising earlier all =
    new_sound (fresh_array elem count stride origin bytes) past.state
    (new_array_sound past elem count stride origin bytes (given past (NewArray elem count stride origin bytes) (reply.Made made) placed.0 (λ refused is. cc)).0) all
call_sound past place n actor (SetParameter h name v) reply.Done placed rising earlier all =
    changed_sound h (set_staged (with_value name v)) past.state (λ o. refl)
    (λ o was sound. restaged past.state o (with_value name v)
    (all_with_value (λ (entry : List ℕ × Value). Fits past.state o.kind entry.0 entry.1) name v o.staged sound.staged
    (set_fits past h name v o (given past (SetParameter h name v) reply.Done placed.0 (λ refused is. cc)).0 all was)) sound) all
call_sound past place n actor (UnsetParameter h name) reply.Done placed rising earlier all =
    changed_sound h (set_staged (without_value name)) past.state (λ o. refl)
    (λ o was sound. restaged past.state o (without_value name) (all_without (λ (entry : List ℕ × Value). Fits past.state o.kind entry.0 entry.1) (is_at (slice_cmp nat_cmp name)) o.staged sound.staged) sound) all
call_sound past place n actor (UnsetAll h) reply.Done placed rising earlier all =
    changed_sound h (set_staged (λ _. [])) past.state (λ o. refl) (λ o was sound. restaged past.state o (λ _. []) (All-nil (λ (entry : List ℕ × Value). Fits past.state o.kind entry.0 entry.1)) sound) all
call_sound past place n actor (Commit h) reply.Done placed rising earlier all = changed_sound h commit past.state (λ o. refl) (λ o was sound. committed_sound past.state o sound) all
call_sound past place n actor (MapArray h) (reply.Lent number) placed rising earlier all =
    changed_sound h (change_array (lent place)) past.state (λ o. refl) (λ o was sound. lent_sound past.state o place sound) all
call_sound past place n actor (UnmapArray h number bytes) reply.Done placed rising earlier all =
    changed_sound h (change_array (holding bytes)) past.state (λ o. refl)
    (λ o was sound. returned_sound past h number bytes o (given past (UnmapArray h number bytes) reply.Done placed.0 (λ refused is. cc)).0 placed.1 was sound) all
call_sound past place n actor (MapParameterArray h name elem count) (reply.Lent number) placed rising earlier all =
    changed_sound h (lend_parameter (record { number = place; name = name; elem = elem; count = count })) past.state (λ o. refl)
    (λ o was sound. with_loan_sound past.state o (record { number = place; name = name; elem = elem; count = count })
    (loan_fits past h name elem count place o (given past (MapParameterArray h name elem count) (reply.Lent number) placed.0 (λ refused is. cc)).0 was) sound) all
call_sound past place n actor (UnmapParameterArray h name number bytes) (reply.Made made) placed rising earlier all =
    unmapped_sound past n h number name bytes rising earlier all (given past (UnmapParameterArray h name number bytes) (reply.Made made) placed.0 (λ refused is. cc)).0 placed.1
call_sound past place n actor (RenderFrame h) reply.Done placed rising earlier all = set_phase_sound h (Flight place) past.state all
call_sound past place n actor (DiscardFrame h) reply.Done placed rising earlier all =
    stop_sound (option_map_or (λ o. o.phase) (object_at past.state h) Empty) (changed_at h (set_phase Empty) past.state) (set_phase_sound h Empty past.state all)
call_sound past place n actor (MapFrame h channel) (reply.Mapped width height kind rows) placed rising earlier all =
    changed_sound h (map_channel channel place) past.state (λ o. refl) (λ o was sound. same_values past.state o (map_channel channel place o) refl refl refl refl refl sound) all
call_sound past place n actor (UnmapFrame h number) reply.Done placed rising earlier all =
    changed_sound h (unmap_channel number) past.state (λ o. refl) (λ o was sound. same_values past.state o (unmap_channel number o) refl refl refl refl refl sound) all
call_sound past place n actor _ _ placed rising earlier all = all

entry_sound : (past : Past) (place n : ℕ) (e : Entry) → IsInPlace past [] e → IsRising past.state → Each (Earlier n) past.state → AllSound past.state → AllSound (change place e past.state)
unfolding change end_flights
entry_sound past place n (Called actor call r) placed rising earlier all = call_sound past place n actor call r placed rising earlier all
entry_sound past place n (Finished u) placed rising earlier all = ended_sound u (Done u) past.state.stopped past.state all
entry_sound past place n (Left u) placed rising earlier all = ended_sound u Empty (filter (λ v. not (v == u)) past.state.stopped) past.state all
entry_sound past place n Closed placed rising earlier all = λ h. tt

-- a sound state is ranked, so that the sweep leaves it sound
pub sound_is_ranked : (s : State) → AllSound s → IsRanked s.objects
sound_is_ranked s all h o found k names = names_are_lower s o k (sound_at s h o all found) names

pub sweep_sound : (past : Past) (s : State) → IsRising s → AllSound s → AllSound (swept past.seen past.reached s)
unfolding swept
sweep_sound past s rising all = all_sound (swept past.seen past.reached s) each
  where
    each : (h : ℕ) (o : Object) → object_at (swept past.seen past.reached s) h ≡ Some o → IsSound (swept past.seen past.reached s) o
    each h o found = sound_kept s (swept past.seen past.reached s) o keeps (sound_at s h o all was)
      where
        was : object_at s h ≡ Some o
        was = (swept_was past s h o rising found).0

        keeps : (k : ℕ) → has k (names_of o) ≡ true → KeepsAt s (swept past.seen past.reached s) k
        keeps k names p there =
            subst (λ x. IsSomeAnd x (λ q. q.kind ≡ p.kind))
            (sym (closed (root_of past s) 1 s.next s.objects rising (sound_is_ranked s all) h k o p found names there)) refl

pub changed_is_sound : (history : History) (e : Entry) → IsInPlace (after history) [] e → AllSound (after history).state → AllSound (changed (after history) e)
changed_is_sound history e placed all = entry_sound (after history) (next_place (after history)) (length history + 1) e placed (rises history) (loans_are_earlier history) all

sound_first : AllSound (after []).state
unfolding after
sound_first h = tt

pub legal_is_sound : (history : History) → Legal history → AllSound (after history).state
legal_is_sound history legal = legal_by (λ past. AllSound past.state) sound_first more history legal
  where
    more : (history : History) (e : Entry) → Legal (history ++ e ∷ []) → IsInPlace (after history) [] e → AllSound (after history).state → AllSound (step (after history) e).state
    more history e legal placed all =
        subst AllSound (sym (step_state (after history) e))
        (sweep_sound (step (after history) e) (changed (after history) e)
        (changed_rises (after history) e (rises history)).0
        (changed_is_sound history e placed all))
