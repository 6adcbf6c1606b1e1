-- What is lent of an object was lent by the entries at the places of its loans.
use Rattle.std.proofs.Common.{ℕ, ◌+◌, ◌==◌, ◌≡◌, ◌<◌, ◌≤◌, ◌∙◌, ◌⊎◌, inl, inr, Bool, true, not, List, [], ◌∷◌, ◌++◌, All, IsTrue, Option, Some, None, refl, sym, ap, subst, length}
use Rattle.std.specs.Prelude.{◌&&◌}
use Rattle.std.specs.List.{filter}
use Rattle.std.specs.Option.{IsSomeAnd, MatchOption, option_and_then, option_map, option_map_or, unwrap_or}
use Rattle.std.specs.Str.{bytes_eq}
use Rattle.std.proofs.lemmas.Bool.{and_from, cases_lt, eq-eqb}
use Rattle.std.proofs.lemmas.List.Elements.{All-nil, All-filter, All-push, All-weaker}
use Rattle.std.proofs.lemmas.Slice.Eq.{bytes_eq-Decides}
use Rattle.dev_types.specs.DataTypes.{type_number}
use Rattle.dev_types.specs.Words.{name_of_channel}
use Rattle.dev_types.specs.declared.data_types.DataType.{DataType}
use Rattle.dev_types.specs.declared.data_types.DataType.TheVariants as ty
use Rattle.dev_types.specs.declared.handles.Channel.{Channel}
use Rattle.dev_types.specs.declared.handles.Origin.TheVariants.{Managed}
use Rattle.dev_types.specs.declared.values.Value.TheVariants as value
use Rattle.kind_tables.specs.Kinds.{is_same_type, kind_of}
use Rattle.kind_tables.specs.declared.kinds.Kind.{Kind}
use Rattle.kind_tables.specs.declared.kinds.Kind.TheVariants.{Array}
use Rattle.seq_model.proofs.Afters.{after_more, entry_early, entry_last, entry_late, grows_by}
use Rattle.seq_model.proofs.Came.{swept_was}
use Rattle.seq_model.proofs.Handles.{changed_rises, changed, rises, step_state}
use Rattle.seq_model.proofs.Loans.{Each, each_changed, each_discarded, each_ended, each_new}
use Rattle.seq_model.proofs.Sweeps.{place_after}
use Rattle.seq_model.specs.Histories.{History}
use Rattle.seq_model.specs.Lending.{IsAt, WasLent, lends_array, lends_channel, lends_parameter}
use Rattle.seq_model.specs.State.{ArrayState, Object, ParameterLoan, Empty, Flight, Done, State, array_loan, changed_at, content_of_loan, object_at, parameter_loan, with_object}
use Rattle.seq_model.specs.Steps.{Past, after, change, change_array, commit, effect, end_flights, end_parameter_loan, fresh, fresh_array, holding, lend_parameter, lent, map_channel, set_phase, set_staged, step, take_in, unmap_channel, unmap_parameter}
use Rattle.seq_model.specs.declared.calls.Call.{Call}
use Rattle.seq_model.specs.declared.calls.Call.TheVariants.{NewObject, NewArray, SetParameter, UnsetParameter, UnsetAll, Commit, MapArray, UnmapArray, MapParameterArray, UnmapParameterArray, RenderFrame, DiscardFrame, MapFrame, UnmapFrame}
use Rattle.seq_model.specs.declared.calls.Entry.{Entry}
use Rattle.seq_model.specs.declared.calls.Entry.TheVariants.{Called, Finished, Left, Closed}
use Rattle.seq_model.specs.declared.calls.Reply.{Reply}
use Rattle.seq_model.specs.declared.calls.Reply.TheVariants as reply
use Rattle.kind_tables.specs.SceneObjects.{with_value, without_value}

-- an entry stays at its place
stays_at : (history further : History) (place : ℕ) (does : Entry → Bool) → IsAt history place does → IsAt (history ++ further) place does
stays_at history further place does is = by (cases_lt (length history) place)
  where
    by : (length history < place) ⊎ (place ≤ length history) → IsAt (history ++ further) place does
    by (inl late) = absurd (subst (λ x. IsSomeAnd x (λ e. IsTrue (does e))) (entry_late history place late) is)
    by (inr early) = subst (λ x. IsSomeAnd x (λ e. IsTrue (does e))) (sym (entry_early history further place early)) is

stands_last : (history : History) (e : Entry) (does : Entry → Bool) → does e ≡ true → IsAt (history ++ e ∷ []) (length history + 1) does
stands_last history e does is = subst (λ x. IsSomeAnd x (λ e. IsTrue (does e))) (sym (entry_last history e)) is

lent_longer : (history further : History) (h : ℕ) (o : Object) → WasLent history h o → WasLent (history ++ further) h o
lent_longer history further h o was = record {
  array = by (array_loan o) was.array;
  parameters = All-weaker (λ (loan : ParameterLoan). IsAt history loan.number (lends_parameter h loan)) (λ (loan : ParameterLoan). IsAt (history ++ further) loan.number (lends_parameter h loan))
      (λ loan is. stays_at history further loan.number (lends_parameter h loan) is) o.parameter_loans was.parameters;
  channels = All-weaker (λ (m : Channel × ℕ). IsAt history m.1 (lends_channel h m.0)) (λ (m : Channel × ℕ). IsAt (history ++ further) m.1 (lends_channel h m.0))
      (λ m is. stays_at history further m.1 (lends_channel h m.0) is) o.channels was.channels;
}
  where
    by : (x : Option ℕ) → MatchOption x (Unit {0}) (λ place. IsAt history place (lends_array h)) → MatchOption x (Unit {0}) (λ place. IsAt (history ++ further) place (lends_array h))
    by None is = tt
    by (Some place) is = stays_at history further place (lends_array h) is

same_lent : (history : History) (h : ℕ) (o p : Object) → p.array ≡ o.array → p.parameter_loans ≡ o.parameter_loans → p.channels ≡ o.channels → WasLent history h o → WasLent history h p
same_lent history h o p array parameters channels was = record {
  array = subst (λ a. MatchOption (option_and_then (λ (x : ArrayState). x.loan) a) (Unit {0}) (λ place. IsAt history place (lends_array h))) (sym array) was.array;
  parameters = subst (All (λ (loan : ParameterLoan). IsAt history loan.number (lends_parameter h loan))) (sym parameters) was.parameters;
  channels = subst (All (λ (m : Channel × ℕ). IsAt history m.1 (lends_channel h m.0))) (sym channels) was.channels;
}

fresh_lent : (history : History) (h : ℕ) (kind : Kind) (array : Option ArrayState) → option_and_then (λ (a : ArrayState). a.loan) array ≡ None → WasLent history h (fresh kind array)
fresh_lent history h kind array none = record {
  array = subst (λ x. MatchOption x (Unit {0}) (λ place. IsAt history place (lends_array h))) (sym none) tt;
  parameters = All-nil (λ (loan : ParameterLoan). IsAt history loan.number (lends_parameter h loan));
  channels = All-nil (λ (m : Channel × ℕ). IsAt history m.1 (lends_channel h m.0));
}

same_bytes : (bytes : List ℕ) → bytes_eq bytes bytes ≡ true
same_bytes bytes = (bytes_eq-Decides bytes bytes).1 refl

-- what each loan is lent by
array_is_lent : (history : History) (actor h number : ℕ) (o : Object) → WasLent (history ++ Called actor (MapArray h) (reply.Lent number) ∷ []) h o →
    WasLent (history ++ Called actor (MapArray h) (reply.Lent number) ∷ []) h (change_array (lent (length history + 1)) o)
array_is_lent history actor h number o was = record { array = by o.array; parameters = was.parameters; channels = was.channels }
  where
    by : (x : Option ArrayState) → MatchOption (option_and_then (λ (a : ArrayState). a.loan) (option_map (lent (length history + 1)) x)) (Unit {0}) (λ place. IsAt (history ++ Called actor (MapArray h) (reply.Lent number) ∷ []) place (lends_array h))
    by None = tt
    by (Some a) = stands_last history (Called actor (MapArray h) (reply.Lent number)) (lends_array h) (eq-eqb h h refl)

array_is_back : (history : History) (h : ℕ) (bytes : List ℕ) (o : Object) → WasLent history h o → WasLent history h (change_array (holding bytes) o)
array_is_back history h bytes o was = record { array = by o.array; parameters = was.parameters; channels = was.channels }
  where
    by : (x : Option ArrayState) → MatchOption (option_and_then (λ (a : ArrayState). a.loan) (option_map (holding bytes) x)) (Unit {0}) (λ place. IsAt history place (lends_array h))
    by None = tt
    by (Some a) = tt

parameter_is_lent : (history : History) (actor h : ℕ) (name : List ℕ) (elem : DataType) (count number : ℕ) (o : Object) →
    WasLent (history ++ Called actor (MapParameterArray h name elem count) (reply.Lent number) ∷ []) h o →
    WasLent (history ++ Called actor (MapParameterArray h name elem count) (reply.Lent number) ∷ []) h (lend_parameter (record { number = length history + 1; name = name; elem = elem; count = count }) o)
parameter_is_lent history actor h name elem count number o was = record {
  array = was.array;
  parameters = All-push (λ (loan : ParameterLoan). IsAt (history ++ Called actor (MapParameterArray h name elem count) (reply.Lent number) ∷ []) loan.number (lends_parameter h loan)) o.parameter_loans
      (record { number = length history + 1; name = name; elem = elem; count = count }) was.parameters
      (stands_last history (Called actor (MapParameterArray h name elem count) (reply.Lent number)) (lends_parameter h (record { number = length history + 1; name = name; elem = elem; count = count })) says);
  channels = was.channels;
}
  where
    says : ((h == h) && bytes_eq name name && is_same_type elem elem && (count == count)) ≡ true
    says =
        and_from ((h == h) && bytes_eq name name && is_same_type elem elem) (count == count)
        (and_from ((h == h) && bytes_eq name name) (is_same_type elem elem) (and_from (h == h) (bytes_eq name name) (eq-eqb h h refl) (same_bytes name)) (eq-eqb (type_number elem) (type_number elem) refl))
        (eq-eqb count count refl)

channel_is_lent : (history : History) (actor h : ℕ) (channel : Channel) (width height : ℕ) (kind : DataType) (rows : List ℕ) (o : Object) →
    WasLent (history ++ Called actor (MapFrame h channel) (reply.Mapped width height kind rows) ∷ []) h o →
    WasLent (history ++ Called actor (MapFrame h channel) (reply.Mapped width height kind rows) ∷ []) h (map_channel channel (length history + 1) o)
channel_is_lent history actor h channel width height kind rows o was = record {
  array = was.array;
  parameters = was.parameters;
  channels = All-push (λ (m : Channel × ℕ). IsAt (history ++ Called actor (MapFrame h channel) (reply.Mapped width height kind rows) ∷ []) m.1 (lends_channel h m.0)) o.channels (channel, length history + 1) was.channels
      (stands_last history (Called actor (MapFrame h channel) (reply.Mapped width height kind rows)) (lends_channel h channel)
      (and_from (h == h) (bytes_eq (name_of_channel channel) (name_of_channel channel)) (eq-eqb h h refl) (same_bytes (name_of_channel channel))));
}

taken_lent : (history : History) (h : ℕ) (name bytes : List ℕ) (s : State) (x : Option ParameterLoan) → Each (WasLent history) s → Each (WasLent history) (option_map_or (λ loan. take_in h name bytes loan s) x s)
unfolding take_in
taken_lent history h name bytes s None all = all
taken_lent history h name bytes s (Some loan) all =
    each_new (WasLent history) (WasLent history) (λ k o was. was)
    (fresh (Array loan.elem) (Some (record { block = content_of_loan loan bytes; origin = Managed; loan = None })))
    (changed_at h (set_staged (with_value name (value.Object ty.Array1D s.next))) (changed_at h (end_parameter_loan loan.number) s))
    (λ k. fresh_lent history k (Array loan.elem) (Some (record { block = content_of_loan loan bytes; origin = Managed; loan = None })) refl)
    (each_changed (WasLent history) (WasLent history) (λ k o was. was) h (set_staged (with_value name (value.Object ty.Array1D s.next))) (changed_at h (end_parameter_loan loan.number) s)
    (λ o was. same_lent history h o (set_staged (with_value name (value.Object ty.Array1D s.next)) o) refl refl refl was)
    (each_changed (WasLent history) (WasLent history) (λ k o was. was) h (end_parameter_loan loan.number) s
    (λ o was. record { array = was.array; parameters = All-filter (λ l. not (l.number == loan.number)) (λ (l : ParameterLoan). IsAt history l.number (lends_parameter h l)) o.parameter_loans was.parameters; channels = was.channels }) all))

made_lent : (history : History) (s : State) (x : Option Kind) → Each (WasLent history) s → Each (WasLent history) (unwrap_or (option_map (λ kind. with_object (fresh kind None) s) x) s)
made_lent history s None all = all
made_lent history s (Some kind) all = each_new (WasLent history) (WasLent history) (λ k o was. was) (fresh kind None) s (λ k. fresh_lent history k kind None refl) all

-- one more call
call_lent : (history : History) (actor : ℕ) (call : Call) (r : Reply) (s : State) → Each (WasLent (history ++ Called actor call r ∷ [])) s → Each (WasLent (history ++ Called actor call r ∷ [])) (effect (length history + 1) call r s)
unfolding effect unmap_parameter
call_lent history actor (NewObject t subtype) (reply.Made made) s all = made_lent (history ++ Called actor (NewObject t subtype) (reply.Made made) ∷ []) s (kind_of t subtype) all
call_lent history actor (NewArray elem count stride origin bytes) (reply.Made made) s all =
    let now = WasLent (history ++ Called actor (NewArray elem count stride origin bytes) (reply.Made made) ∷ []) in
    each_new now now (λ k o was. was) (fresh_array elem count stride origin bytes) s
    (λ k. record {
      array = tt;
      parameters = All-nil (λ (loan : ParameterLoan). IsAt (history ++ Called actor (NewArray elem count stride origin bytes) (reply.Made made) ∷ []) loan.number (lends_parameter k loan));
      channels = All-nil (λ (m : Channel × ℕ). IsAt (history ++ Called actor (NewArray elem count stride origin bytes) (reply.Made made) ∷ []) m.1 (lends_channel k m.0));
    }) all
call_lent history actor (SetParameter h name v) reply.Done s all =
    let longer : History = history ++ Called actor (SetParameter h name v) reply.Done ∷ [] in
    each_changed (WasLent longer) (WasLent longer) (λ k o was. was) h (set_staged (with_value name v)) s (λ o was. same_lent longer h o (set_staged (with_value name v) o) refl refl refl was) all
call_lent history actor (UnsetParameter h name) reply.Done s all =
    let longer : History = history ++ Called actor (UnsetParameter h name) reply.Done ∷ [] in
    each_changed (WasLent longer) (WasLent longer) (λ k o was. was) h (set_staged (without_value name)) s (λ o was. same_lent longer h o (set_staged (without_value name) o) refl refl refl was) all
call_lent history actor (UnsetAll h) reply.Done s all =
    let longer : History = history ++ Called actor (UnsetAll h) reply.Done ∷ [] in
    each_changed (WasLent longer) (WasLent longer) (λ k o was. was) h (set_staged (λ _. [])) s (λ o was. same_lent longer h o (set_staged (λ _. []) o) refl refl refl was) all
call_lent history actor (Commit h) reply.Done s all =
    let longer : History = history ++ Called actor (Commit h) reply.Done ∷ [] in
    each_changed (WasLent longer) (WasLent longer) (λ k o was. was) h commit s (λ o was. same_lent longer h o (commit o) refl refl refl was) all
call_lent history actor (MapArray h) (reply.Lent number) s all =
    let longer : History = history ++ Called actor (MapArray h) (reply.Lent number) ∷ [] in
    each_changed (WasLent longer) (WasLent longer) (λ k o was. was) h (change_array (lent (length history + 1))) s (λ o was. array_is_lent history actor h number o was) all
call_lent history actor (UnmapArray h number bytes) reply.Done s all =
    let longer : History = history ++ Called actor (UnmapArray h number bytes) reply.Done ∷ [] in
    each_changed (WasLent longer) (WasLent longer) (λ k o was. was) h (change_array (holding bytes)) s (λ o was. array_is_back longer h bytes o was) all
call_lent history actor (MapParameterArray h name elem count) (reply.Lent number) s all =
    let longer : History = history ++ Called actor (MapParameterArray h name elem count) (reply.Lent number) ∷ [] in
    each_changed (WasLent longer) (WasLent longer) (λ k o was. was) h (lend_parameter (record { number = length history + 1; name = name; elem = elem; count = count })) s
    (λ o was. parameter_is_lent history actor h name elem count number o was) all
call_lent history actor (UnmapParameterArray h name number bytes) (reply.Made made) s all =
    taken_lent (history ++ Called actor (UnmapParameterArray h name number bytes) (reply.Made made) ∷ []) h name bytes s (option_and_then (λ o. parameter_loan number o.parameter_loans) (object_at s h)) all
call_lent history actor (RenderFrame h) reply.Done s all =
    let longer : History = history ++ Called actor (RenderFrame h) reply.Done ∷ [] in
    each_changed (WasLent longer) (WasLent longer) (λ k o was. was) h (set_phase (Flight (length history + 1))) s (λ o was. same_lent longer h o (set_phase (Flight (length history + 1)) o) refl refl refl was) all
call_lent history actor (DiscardFrame h) reply.Done s all =
    let longer : History = history ++ Called actor (DiscardFrame h) reply.Done ∷ [] in
    each_discarded (WasLent longer) (WasLent longer) (λ k o was. was) h s (λ o was. same_lent longer h o (set_phase Empty o) refl refl refl was) all
call_lent history actor (MapFrame h channel) (reply.Mapped width height kind rows) s all =
    let longer : History = history ++ Called actor (MapFrame h channel) (reply.Mapped width height kind rows) ∷ [] in
    each_changed (WasLent longer) (WasLent longer) (λ k o was. was) h (map_channel channel (length history + 1)) s (λ o was. channel_is_lent history actor h channel width height kind rows o was) all
call_lent history actor (UnmapFrame h number) reply.Done s all =
    let longer : History = history ++ Called actor (UnmapFrame h number) reply.Done ∷ [] in
    each_changed (WasLent longer) (WasLent longer) (λ k o was. was) h (unmap_channel number) s
    (λ o was. record { array = was.array; parameters = was.parameters; channels = All-filter (λ m. not (m.1 == number)) (λ (m : Channel × ℕ). IsAt longer m.1 (lends_channel h m.0)) o.channels was.channels }) all
call_lent history actor _ _ s all = all

entry_lent : (history : History) (e : Entry) (s : State) → Each (WasLent (history ++ e ∷ [])) s → Each (WasLent (history ++ e ∷ [])) (change (length history + 1) e s)
unfolding change end_flights
entry_lent history (Called actor call r) s all = call_lent history actor call r s all
entry_lent history (Finished u) s all =
    each_ended (WasLent (history ++ Finished u ∷ [])) (WasLent (history ++ Finished u ∷ [])) (λ k o was. was) u (Done u) s.stopped s (λ k o was. same_lent (history ++ Finished u ∷ []) k o (set_phase (Done u) o) refl refl refl was) all
entry_lent history (Left u) s all =
    each_ended (WasLent (history ++ Left u ∷ [])) (WasLent (history ++ Left u ∷ [])) (λ k o was. was) u Empty (filter (λ v. not (v == u)) s.stopped) s (λ k o was. same_lent (history ++ Left u ∷ []) k o (set_phase Empty o) refl refl refl was) all
entry_lent history Closed s all = λ k p found. absurd (let none : None ≡ Some p = found in cc)

lent_first : Each (WasLent []) (after []).state
unfolding after
lent_first k o found = absurd cc

pub loans_were_lent : (history : History) (h : ℕ) (o : Object) → object_at (after history).state h ≡ Some o → WasLent history h o
loans_were_lent history = grows_by (λ history. Each (WasLent history) (after history).state) lent_first more history
  where
    more : (history : History) (e : Entry) → Each (WasLent history) (after history).state → Each (WasLent (history ++ e ∷ [])) (after (history ++ e ∷ [])).state
    more history e now =
        subst (λ (past : Past). Each (WasLent (history ++ e ∷ [])) past.state) (sym (after_more history e))
        (λ k o found. entry_lent history e (after history).state (λ h p there. lent_longer history (e ∷ []) h p (now h p there)) k o
        (subst (λ n. object_at (change n e (after history).state) k ≡ Some o) (place_after history)
        (swept_was (step (after history) e) (changed (after history) e) k o (changed_rises (after history) e (rises history)).0
        (ap (λ s. object_at s k) (sym (step_state (after history) e)) ∙ found)).0))
