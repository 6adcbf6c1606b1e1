-- What replies have to do with changes.
use Rattle.std.proofs.Common.{◌≡◌, ◌⊎◌, inl, inr, ℕ, Bool, true, false, [], List, Option, Some, None, Ok, Err, OnOk, length, refl, ap}
use Rattle.std.specs.declared.result.Result.{Result}
use Rattle.std.specs.Option.{option_and_then, option_map_or}
use Rattle.std.proofs.lemmas.Bool.{and_parts, eqb-true}
use Rattle.dev_types.specs.declared.data_types.DataType.{DataType}
use Rattle.dev_types.specs.declared.data_types.DataType.TheVariants as ty
use Rattle.dev_types.specs.declared.answers.ParamInfo.{ParamInfo}
use Rattle.dev_types.specs.declared.refusals.Refused.{Refused}
use Rattle.dev_types.specs.declared.values.Value.{Value}
use Rattle.seq_model.specs.Refusals.{is_array_loan_out, is_array_out}
use Rattle.seq_model.specs.State.{ArrayState, State, object_at}
use Rattle.seq_model.specs.Steps.{effect}
use Rattle.seq_model.specs.declared.calls.Call.{Call}
use Rattle.seq_model.specs.declared.calls.Call.TheVariants as call
use Rattle.seq_model.specs.declared.calls.Reply.{Reply}
use Rattle.seq_model.specs.declared.calls.Reply.TheVariants as reply
use Rattle.plain_objects.specs.Shown.{HasLength}

-- the content that comes back is as long as the one that was lent
pub length_of_array : (s : State) (h number len : ℕ) → is_array_loan_out s h number len ≡ true → HasLength (option_and_then (λ o. o.array) (object_at s h)) len
length_of_array s h number len out = by (option_and_then (λ o. o.array) (object_at s h)) out
  where
    by : (array : Option ArrayState) → option_map_or (is_array_out number len) array false ≡ true → HasLength array len
    by None out = tt
    by (Some a) out = eqb-true (length a.block.bytes) len (and_parts _ _ out).1

-- which handle was made, which number a loan has and what a picture shows does not matter
pub made_alike : (place h : ℕ) (c : Call) (s : State) → effect 0 c (reply.Made 0) s ≡ effect place c (reply.Made h) s
unfolding effect
made_alike place h (call.NewObject t subtype) s = refl
made_alike place h (call.NewArray elem count stride origin bytes) s = refl
made_alike place h (call.UnmapParameterArray k name number bytes) s = refl
made_alike place h _ s = refl

pub lent_alike : (place n : ℕ) (c : Call) (s : State) → effect place c (reply.Lent place) s ≡ effect place c (reply.Lent n) s
unfolding effect
lent_alike place n (call.MapArray h) s = refl
lent_alike place n (call.MapParameterArray h name elem count) s = refl
lent_alike place n _ s = refl

pub mapped_alike : (place w h : ℕ) (t : DataType) (rows : List ℕ) (c : Call) (s : State) → effect place c (reply.Mapped 0 0 ty.Uint32 []) s ≡ effect place c (reply.Mapped w h t rows) s
unfolding effect
mapped_alike place w h t rows (call.MapFrame f channel) s = refl
mapped_alike place w h t rows _ s = refl

-- the reply changes nothing
abbrev pub is_idle : Reply → Bool
is_idle reply.Ready = true
is_idle (reply.NotReady _ _) = true
is_idle (reply.Val _) = true
is_idle (reply.Listed _) = true
is_idle (reply.Info _) = true
is_idle (reply.Denied _) = true
is_idle _ = false

pub idle_by : (r : Reply) →
    (r ≡ reply.Ready) ⊎ (((given : ℕ) × (of : ℕ) × (r ≡ reply.NotReady given of)) ⊎ (((v : Value) × (r ≡ reply.Val v)) ⊎ (((names : List (List ℕ)) × (r ≡ reply.Listed names))
    ⊎ (((info : ParamInfo) × (r ≡ reply.Info info)) ⊎ ((refused : Refused) × (r ≡ reply.Denied refused)))))) → is_idle r ≡ true
idle_by r (inl is) = ap is_idle is
idle_by r (inr (inl (given, of, is))) = ap is_idle is
idle_by r (inr (inr (inl (v, is)))) = ap is_idle is
idle_by r (inr (inr (inr (inl (names, is))))) = ap is_idle is
idle_by r (inr (inr (inr (inr (inl (info, is)))))) = ap is_idle is
idle_by r (inr (inr (inr (inr (inr (refused, is)))))) = ap is_idle is

pub idle_keeps : (place : ℕ) (c : Call) (r : Reply) (s : State) → is_idle r ≡ true → s ≡ effect place c r s
unfolding effect
idle_keeps place (call.Retain h) reply.Ready s idle = refl
idle_keeps place _ reply.Ready s idle = refl
idle_keeps place (call.Retain h) (reply.NotReady given of) s idle = refl
idle_keeps place _ (reply.NotReady given of) s idle = refl
idle_keeps place (call.Retain h) (reply.Val v) s idle = refl
idle_keeps place _ (reply.Val v) s idle = refl
idle_keeps place (call.Retain h) (reply.Listed names) s idle = refl
idle_keeps place _ (reply.Listed names) s idle = refl
idle_keeps place (call.Retain h) (reply.Info info) s idle = refl
idle_keeps place _ (reply.Info info) s idle = refl
idle_keeps place (call.Retain h) (reply.Denied refused) s idle = refl
idle_keeps place _ (reply.Denied refused) s idle = refl
idle_keeps place c reply.Done s idle = absurd cc
idle_keeps place c (reply.Made h) s idle = absurd cc
idle_keeps place c (reply.Lent n) s idle = absurd cc
idle_keeps place c (reply.Mapped w h t rows) s idle = absurd cc

-- what follows where a call was done
pub then_ok : {T E A B : Type 0} (r : Result T E) → (A → B) → OnOk r A → OnOk r B
then_ok (Ok x) f a = f a
then_ok (Err e) f a = a
