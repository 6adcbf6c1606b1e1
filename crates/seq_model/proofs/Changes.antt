-- What an entry may do to a state, sorted by what the laws tell apart.
use Rattle.std.proofs.Common.{ℕ, ◌==◌, ◌≡◌, ◌∙◌, ◌⊎◌, inl, inr, not, subst, Bool, true, false, List, [], Option, Some, None, refl, sym, ap}
use Rattle.std.specs.BTreeMap.{is_at}
use Rattle.std.specs.List.{filter}
use Rattle.std.specs.Map.{keys_of, set_value}
use Rattle.std.specs.Option.{option_and_then, option_map, option_map_or, unwrap_or}
use Rattle.std.specs.Ordering.{nat_cmp}
use Rattle.std.proofs.lemmas.Bool.{cases_eq}
use Rattle.std.proofs.lemmas.Map.{keys-set_value}
use Rattle.dev_types.specs.declared.data_types.DataType.TheVariants as ty
use Rattle.dev_types.specs.declared.handles.Origin.{Origin}
use Rattle.dev_types.specs.declared.handles.Origin.TheVariants.{Captured}
use Rattle.dev_types.specs.declared.values.Value.{Value}
use Rattle.dev_types.specs.declared.values.Value.TheVariants as value
use Rattle.kind_tables.specs.Kinds.{kind_of}
use Rattle.kind_tables.specs.declared.kinds.Kind.{Kind}
use Rattle.seq_model.proofs.Keys.{at, at_changed, at_unchanged}
use Rattle.seq_model.specs.Histories.{rendered}
use Rattle.seq_model.specs.State.{ArrayState, Object, ParameterLoan, Empty, Flight, Done, State, changed_at, object_at, parameter_loan, with_object}
use Rattle.seq_model.specs.Steps.{change, change_array, commit, discard, effect, end_flights, end_parameter_loan, fresh, fresh_array, holding, lend_parameter, lent, map_channel, set_phase, set_staged, take_in, unmap_channel, unmap_parameter}
use Rattle.seq_model.specs.declared.calls.Call.{Call}
use Rattle.seq_model.specs.declared.calls.Call.TheVariants.{NewObject, NewArray, SetParameter, UnsetParameter, UnsetAll, Commit, MapArray, UnmapArray, MapParameterArray, UnmapParameterArray, RenderFrame, DiscardFrame, MapFrame, UnmapFrame}
use Rattle.seq_model.specs.declared.calls.Entry.{Entry}
use Rattle.seq_model.specs.declared.calls.Entry.TheVariants.{Called, Finished, Left, Closed}
use Rattle.seq_model.specs.declared.calls.Reply.{Reply}
use Rattle.seq_model.specs.declared.calls.Reply.TheVariants as reply
use Rattle.kind_tables.specs.SceneObjects.{with_value, without_value}

-- the array's memory is the application's, and goes back to it by a deleter
abbrev pub is_captured_origin : Origin → Bool
is_captured_origin (Captured _) = true
is_captured_origin _ = false

abbrev pub is_captured_array : Option ArrayState → Bool
is_captured_array None = false
is_captured_array (Some a) = is_captured_origin a.origin

abbrev pub is_captured : Object → Bool
is_captured o = is_captured_array o.array

-- two values of an object that differ in nothing that the laws on life and flights look at
pub record IsLike (o p : Object) : Type 0 where
  pub kind : p.kind ≡ o.kind
  pub phase : p.phase ≡ o.phase
  pub captured : is_captured p ≡ is_captured o

abbrev pub AreLike : Option Object → Option Object → Type 0
AreLike None None = Unit {0}
AreLike (Some o) (Some p) = IsLike o p
AreLike _ _ = ⊥

-- a change that makes, removes, renders and discards nothing
pub record IsQuiet (s t : State) : Type 0 where
  pub keys : keys_of t.objects ≡ keys_of s.objects
  pub next : t.next ≡ s.next
  pub stopped : t.stopped ≡ s.stopped
  pub like : (h : ℕ) → AreLike (object_at s h) (object_at t h)

like_itself : (o : Option Object) → AreLike o o
like_itself None = tt
like_itself (Some o) = record { kind = refl; phase = refl; captured = refl }

like_both : (o p q : Option Object) → AreLike o p → AreLike p q → AreLike o q
like_both None None None first second = tt
like_both (Some o) (Some p) (Some q) first second =
    record { kind = second.kind ∙ first.kind; phase = second.phase ∙ first.phase; captured = second.captured ∙ first.captured }
like_both None None (Some q) first second = second
like_both None (Some p) q first second = absurd first
like_both (Some o) None q first second = absurd first
like_both (Some o) (Some p) None first second = absurd second

pub stays_quiet : (s : State) → IsQuiet s s
stays_quiet s = record { keys = refl; next = refl; stopped = refl; like = λ h. like_itself (object_at s h) }

pub both_quiet : (s t u : State) → IsQuiet s t → IsQuiet t u → IsQuiet s u
both_quiet s t u first second = record {
  keys = second.keys ∙ first.keys;
  next = second.next ∙ first.next;
  stopped = second.stopped ∙ first.stopped;
  like = λ h. like_both (object_at s h) (object_at t h) (object_at u h) (first.like h) (second.like h);
}

-- an object that is changed, and the others
pub keys_of_changed : (h : ℕ) (f : Object → Object) (s : State) → keys_of (changed_at h f s).objects ≡ keys_of s.objects
keys_of_changed h f s = by (object_at s h)
  where
    by : (o : Option Object) → keys_of (unwrap_or (option_map (λ o. set_value (is_at (nat_cmp h)) s.objects (f o)) o) s.objects) ≡ keys_of s.objects
    by None = refl
    by (Some o) = keys-set_value (is_at (nat_cmp h)) s.objects (f o)

pub changed_here : (h : ℕ) (f : Object → Object) (s : State) → object_at (changed_at h f s) h ≡ option_map f (object_at s h)
changed_here h f s = by (object_at s h) refl
  where
    by : (o : Option Object) → object_at s h ≡ o → at h (unwrap_or (option_map (λ o. set_value (is_at (nat_cmp h)) s.objects (f o)) o) s.objects) ≡ option_map f o
    by None found = found
    by (Some o) found = at_changed h s.objects o (f o) found

pub others_unchanged : (h k : ℕ) (f : Object → Object) (s : State) → (k ≡ h → ⊥) → object_at (changed_at h f s) k ≡ object_at s k
others_unchanged h k f s apart = by (object_at s h)
  where
    by : (o : Option Object) → at k (unwrap_or (option_map (λ o. set_value (is_at (nat_cmp h)) s.objects (f o)) o) s.objects) ≡ object_at s k
    by None = refl
    by (Some o) = at_unchanged h k s.objects (f o) apart

changed_like : (f : Object → Object) → ((o : Object) → IsLike o (f o)) → (o p : Option Object) → p ≡ option_map f o → AreLike o p
changed_like f like None p is = subst (AreLike None) (sym is) tt
changed_like f like (Some o) p is = subst (AreLike (Some o)) (sym is) (like o)

pub changes_quietly : (h : ℕ) (f : Object → Object) (s : State) → ((o : Object) → IsLike o (f o)) → IsQuiet s (changed_at h f s)
changes_quietly h f s like = record {
  keys = keys_of_changed h f s;
  next = refl;
  stopped = refl;
  like = λ k. by k (cases_eq k h);
}
  where
    by : (k : ℕ) → (k ≡ h) ⊎ (k ≡ h → ⊥) → AreLike (object_at s k) (object_at (changed_at h f s) k)
    by k (inl same) = subst (λ k. AreLike (object_at s k) (object_at (changed_at h f s) k)) (sym same) (changed_like f like (object_at s h) (object_at (changed_at h f s) h) (changed_here h f s))
    by k (inr apart) = subst (AreLike (object_at s k)) (sym (others_unchanged h k f s apart)) (like_itself (object_at s k))

staged_like : (f : List (List ℕ × Value) → List (List ℕ × Value)) (o : Object) → IsLike o (set_staged f o)
staged_like f o = record { kind = refl; phase = refl; captured = refl }

array_like : (f : ArrayState → ArrayState) → ((a : ArrayState) → (f a).origin ≡ a.origin) → (o : Object) → IsLike o (change_array f o)
array_like f same o = record { kind = refl; phase = refl; captured = by o.array }
  where
    by : (a : Option ArrayState) → is_captured_array (option_map f a) ≡ is_captured_array a
    by None = refl
    by (Some a) = ap is_captured_origin (same a)

-- the entry makes an array whose memory goes back by a deleter
abbrev pub captures : Entry → Bool
captures (Called _ (NewArray _ _ _ origin _) (reply.Made _)) = is_captured_origin origin
captures _ = false

-- the sorts of changes
pub data Change (place : ℕ) (e : Entry) (s t : State) : Type 0 where
  Quiet : rendered e ≡ None → captures e ≡ false → IsQuiet s t → Change place e s t
  Making : (o : Object) (u : State) → rendered e ≡ None → captures e ≡ is_captured o → o.phase ≡ Empty → IsQuiet s u → t ≡ with_object o u → Change place e s t
  Rendering : (h : ℕ) → rendered e ≡ Some h → captures e ≡ false → t ≡ changed_at h (set_phase (Flight place)) s → Change place e s t
  Discarding : (h : ℕ) → rendered e ≡ None → captures e ≡ false → t ≡ discard h s → Change place e s t
  Finishing : (u : ℕ) → e ≡ Finished u → t ≡ end_flights u (Done u) s → Change place e s t
  Leaving : (u : ℕ) → e ≡ Left u → t ≡ record (end_flights u Empty s) { stopped = filter (λ v. not (v == u)) s.stopped } → Change place e s t
  Closing : e ≡ Closed → t ≡ record s { objects = [] } → Change place e s t

taken_in : (place : ℕ) (actor : ℕ) (h : ℕ) (name : List ℕ) (number : ℕ) (bytes : List ℕ) (made : ℕ) (s : State) (loan : Option ParameterLoan) →
    Change place (Called actor (UnmapParameterArray h name number bytes) (reply.Made made)) s (option_map_or (λ loan. take_in h name bytes loan s) loan s)
unfolding take_in
taken_in place actor h name number bytes made s None = Quiet refl refl (stays_quiet s)
taken_in place actor h name number bytes made s (Some loan) =
    let first : State = changed_at h (end_parameter_loan loan.number) s in
    let second : State = changed_at h (set_staged (with_value name (value.Object ty.Array1D s.next))) first in
    Making _ second refl refl refl
    (both_quiet s first second
    (changes_quietly h (end_parameter_loan loan.number) s (λ o. record { kind = refl; phase = refl; captured = refl }))
    (changes_quietly h (set_staged (with_value name (value.Object ty.Array1D s.next))) first (staged_like (with_value name (value.Object ty.Array1D s.next)))))
    refl

made_of_kind : (place : ℕ) (e : Entry) (s : State) (kind : Option Kind) → rendered e ≡ None → captures e ≡ false →
    Change place e s (unwrap_or (option_map (λ kind. with_object (fresh kind None) s) kind) s)
made_of_kind place e s None shows takes = Quiet shows takes (stays_quiet s)
made_of_kind place e s (Some kind) shows takes = Making (fresh kind None) s shows takes refl (stays_quiet s) refl

call_changes : (place actor : ℕ) (call : Call) (r : Reply) (s : State) → Change place (Called actor call r) s (effect place call r s)
unfolding effect unmap_parameter
call_changes place actor (NewObject t subtype) (reply.Made made) s = made_of_kind place (Called actor (NewObject t subtype) (reply.Made made)) s (kind_of t subtype) refl refl
call_changes place actor (NewArray elem count stride origin bytes) (reply.Made made) s = Making (fresh_array elem count stride origin bytes) s refl refl refl (stays_quiet s) refl
call_changes place actor (SetParameter h name v) reply.Done s = Quiet refl refl (changes_quietly h (set_staged (with_value name v)) s (staged_like (with_value name v)))
call_changes place actor (UnsetParameter h name) reply.Done s = Quiet refl refl (changes_quietly h (set_staged (without_value name)) s (staged_like (without_value name)))
call_changes place actor (UnsetAll h) reply.Done s = Quiet refl refl (changes_quietly h (set_staged (λ _. [])) s (staged_like (λ _. [])))
call_changes place actor (Commit h) reply.Done s = Quiet refl refl (changes_quietly h commit s (λ o. record { kind = refl; phase = refl; captured = refl }))
call_changes place actor (MapArray h) (reply.Lent number) s = Quiet refl refl (changes_quietly h (change_array (lent place)) s (array_like (lent place) (λ a. refl)))
call_changes place actor (UnmapArray h number bytes) reply.Done s = Quiet refl refl (changes_quietly h (change_array (holding bytes)) s (array_like (holding bytes) (λ a. refl)))
call_changes place actor (MapParameterArray h name elem count) (reply.Lent number) s =
    Quiet refl refl (changes_quietly h (lend_parameter (record { number = place; name = name; elem = elem; count = count })) s (λ o. record { kind = refl; phase = refl; captured = refl }))
call_changes place actor (UnmapParameterArray h name number bytes) (reply.Made made) s =
    taken_in place actor h name number bytes made s (option_and_then (λ o. parameter_loan number o.parameter_loans) (object_at s h))
call_changes place actor (RenderFrame h) reply.Done s = Rendering h refl refl refl
call_changes place actor (DiscardFrame h) reply.Done s = Discarding h refl refl refl
call_changes place actor (MapFrame h channel) (reply.Mapped width height kind rows) s = Quiet refl refl (changes_quietly h (map_channel channel place) s (λ o. record { kind = refl; phase = refl; captured = refl }))
call_changes place actor (UnmapFrame h number) reply.Done s = Quiet refl refl (changes_quietly h (unmap_channel number) s (λ o. record { kind = refl; phase = refl; captured = refl }))
call_changes place actor _ _ s = Quiet refl refl (stays_quiet s)

pub entry_changes : (place : ℕ) (e : Entry) (s : State) → Change place e s (change place e s)
unfolding change
entry_changes place (Called actor call r) s = call_changes place actor call r s
entry_changes place (Finished u) s = Finishing u refl refl
entry_changes place (Left u) s = Leaving u refl refl
entry_changes place Closed s = Closing refl refl
