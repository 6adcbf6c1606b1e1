-- How calls with which no loan goes are answered.
use Rattle.std.proofs.Common.{◌≡◌, ◌∙◌, ◌+◌, inl, inr, Result, Ok, Err, ℕ, length, Bool, true, false, List, Option, Some, None, refl, sym, ap, subst, if◌then◌else◌}
use Rattle.std.specs.Prelude.{IfErr, IfOk}
use Rattle.std.specs.Option.{option_and_then, option_map, option_or}
use Rattle.answered_calls.specs.Tells.{with_given}
use Rattle.dev_types.specs.declared.answers.ParamInfo.{ParamInfo}
use Rattle.dev_types.specs.declared.answers.Ready.{Ready}
use Rattle.dev_types.specs.declared.data_types.DataType.{DataType}
use Rattle.dev_types.specs.declared.handles.Origin.{Origin}
use Rattle.dev_types.specs.declared.refusals.Refused.{Refused}
use Rattle.dev_types.specs.declared.refusals.Refused.TheVariants.{InFlight}
use Rattle.dev_types.specs.declared.values.Value.{Value}
use Rattle.device_core.specs.Stepping.{IsAwake}
use Rattle.device_parts.proofs.MakeFacts.{joined_again}
use Rattle.device_parts.specs.Makes.{Hands, array_of, frame_left, frame_of, joined}
use Rattle.device_parts.specs.declared.handed.Handed.{Handed}
use Rattle.device_parts.specs.declared.handed.Handed.TheVariants as hand
use Rattle.kind_tables.specs.Kinds.{kind_of, subtypes_of}
use Rattle.kind_tables.specs.Rows.{parameters_of, row_of}
use Rattle.kind_tables.specs.declared.kinds.Kind.{Kind}
use Rattle.kind_tables.specs.declared.rows.Row.{Row}
use Rattle.object_steps.specs.Applying.{tells_of_flights}
use Rattle.object_steps.specs.Carrying.{handed}
use Rattle.object_steps.specs.declared.array_loans.ArrayLoan.TheVariants as loan
use Rattle.seq_model.specs.Answers.{answer, granted, info_of, property_of, readiness}
use Rattle.seq_model.specs.Contents.{entered}
use Rattle.seq_model.specs.Histories.{History}
use Rattle.seq_model.specs.Pictures.{tiles_at}
use Rattle.seq_model.specs.Refusals.{phase_at, refusal}
use Rattle.seq_model.specs.State.{Done, Empty, Flight, Phase, State}
use Rattle.seq_model.specs.Steps.{Past, after}
use Rattle.seq_model.specs.declared.calls.Call.{Call}
use Rattle.seq_model.specs.declared.calls.Call.TheVariants.{FrameReady, GetProperty, MapArray, MapFrame, MapParameterArray, NewArray, NewObject, ObjectInfo, ParameterInfo, Subtypes, UnmapArray, UnmapFrame, UnmapParameterArray}
use Rattle.seq_model.specs.declared.calls.Reply.{Reply}
use Rattle.seq_model.specs.declared.calls.Reply.TheVariants as reply
use Rattle.device_calls.specs.Holds.{IsReplied, told_with}
use Rattle.device_calls.specs.Passes.{DevicePass, HasCalled, HasDeclined}
use Rattle.device_calls.specs.Replies.{HasMade, IsDone, IsLoanless, IsReadiness, IsRefused, ready_in, reply_of_ready, told_ready}

-- what is done or refused is loanless
pub done_loanless : (call : Call) → IsDone call → IsLoanless call
done_loanless (MapArray h) is = absurd is
done_loanless (UnmapArray h number bytes) is = absurd is
done_loanless (MapParameterArray h name elem count) is = absurd is
done_loanless (UnmapParameterArray h name number bytes) is = absurd is
done_loanless (MapFrame h channel) is = absurd is
done_loanless (UnmapFrame h number) is = absurd is
done_loanless (FrameReady h wait) is = absurd is
done_loanless call is = tt

-- what is done or refused does not wait
pub done_awake : (call : Call) → IsDone call → (past : Past) → IsAwake past call
done_awake (FrameReady h wait) is past = absurd is
done_awake call is past = tt

-- nothing goes with such a call
pub loanless_hands : (call : Call) → IsLoanless call → Hands call hand.Nothing
loanless_hands (UnmapArray h number bytes) is = absurd is
loanless_hands (UnmapParameterArray h name number bytes) is = absurd is
loanless_hands call is = (refl, tt)

-- it is entered as it was made
pub loanless_entered : (past : Past) (call : Call) → IsLoanless call → entered past call ≡ call
unfolding entered
loanless_entered past (UnmapArray h number bytes) is = absurd is
loanless_entered past (UnmapParameterArray h name number bytes) is = absurd is
loanless_entered past call is = refl

-- and nothing comes of it
none_handed : (place : ℕ) (call : Call) (r : Reply) (s : State) → IsLoanless call → handed place call r s loan.Nothing ≡ loan.Nothing
none_handed place call (reply.Denied refused) s is = refl
none_handed place (MapArray h) r s is = absurd is
none_handed place (MapParameterArray h name elem count) r s is = absurd is
none_handed place call r s is = refl

pub none_left : (r : Reply) → frame_left r None ≡ None
none_left (reply.Denied refused) = refl
none_left r = refl

frame_none : (call : Call) (with : Handed) (r : Reply) (out : Handed) (before : History) → IsLoanless call → with ≡ hand.Nothing → IsReplied call with r out before → frame_of out ≡ None
frame_none (MapFrame h channel) with r out before is none replied = absurd is
frame_none call with r out before is none replied = replied.frame ∙ ap (λ w. frame_left r (frame_of w)) none ∙ none_left r

pub comes_of_none : (call : Call) (r : Reply) (out : Handed) (before : History) → IsLoanless call → IsReplied call hand.Nothing r out before → out ≡ hand.Nothing
comes_of_none call r out before is replied =
    let array : array_of out ≡ loan.Nothing =
    replied.array ∙ ap (λ k. handed (length before + 1) k r (after before).state loan.Nothing) (loanless_entered (after before) call is)
    ∙ none_handed (length before + 1) call r (after before).state is in
    sym (joined_again out) ∙ ap (λ a. joined a (frame_of out)) array ∙ ap (joined loan.Nothing) (frame_none call hand.Nothing r out before is refl replied)

-- a refusal that is told with what a look read stays a refusal
still_denied : (b : Bool) (given : ℕ) (refused : Refused) → (x : Refused) × ((if b then with_given given (reply.Denied refused) else reply.Denied refused) ≡ reply.Denied x)
still_denied true given (InFlight read of) = (InFlight given of, refl)
still_denied true given refused = (refused, refl)
still_denied false given refused = (refused, refl)

-- a reply that does not refuse is the one that is granted
pub granted_entered : (call : Call) (with : Handed) (r : Reply) (out : Handed) (before : History) → IsReplied call with r out before
    → ((refused : Refused) → r ≡ reply.Denied refused → ⊥)
    → (given : ℕ) × (option_map (told_with given call) (granted (after before) (entered (after before) call)) ≡ Some r)
unfolding answer
granted_entered call with r out before replied granting = (replied.given, by (refusal (after before) (entered (after before) call)) replied.answered)
  where
    by : (x : Option Refused) → option_map (told_with replied.given call) (option_or (option_map reply.Denied x) (granted (after before) (entered (after before) call))) ≡ Some r
        → option_map (told_with replied.given call) (granted (after before) (entered (after before) call)) ≡ Some r
    by None told = told
    by (Some refused) told =
        let denied = still_denied (tells_of_flights call) replied.given refused in
        let same : Some (reply.Denied denied.0) ≡ Some r = ap (λ (a : Reply). Some a) (sym denied.1) ∙ told in
        absurd (granting denied.0 (some_is same))
      where
        some_is : {a : Reply} → Some a ≡ Some r → r ≡ a
        some_is same = cc

pub granted_reply : (call : Call) (with : Handed) (r : Reply) (out : Handed) (before : History) → entered (after before) call ≡ call → IsReplied call with r out before
    → ((refused : Refused) → r ≡ reply.Denied refused → ⊥) → (given : ℕ) × (option_map (told_with given call) (granted (after before) call) ≡ Some r)
granted_reply call with r out before same replied granting =
    let told = granted_entered call with r out before replied granting in
    (told.0, ap (λ k. option_map (told_with told.0 call) (granted (after before) k)) (sym same) ∙ told.1)

pub is_granted : (call : Call) (r : Reply) (out : Handed) (before : History) → IsLoanless call → IsReplied call hand.Nothing r out before
    → ((refused : Refused) → r ≡ reply.Denied refused → ⊥) → (given : ℕ) × (option_map (told_with given call) (granted (after before) call) ≡ Some r)
is_granted call r out before is = granted_reply call hand.Nothing r out before (loanless_entered (after before) call is)

-- a call that is done where it is not refused
done_told : (b : Bool) (given : ℕ) → (if b then with_given given reply.Done else reply.Done) ≡ reply.Done
done_told true given = refl
done_told false given = refl

granted_done : (past : Past) (call : Call) → IsDone call → granted past call ≡ Some reply.Done
granted_done past (NewObject t subtype) is = absurd is
granted_done past (NewArray elem count stride origin bytes) is = absurd is
granted_done past (MapArray h) is = absurd is
granted_done past (UnmapArray h number bytes) is = absurd is
granted_done past (MapParameterArray h name elem count) is = absurd is
granted_done past (UnmapParameterArray h name number bytes) is = absurd is
granted_done past (FrameReady h wait) is = absurd is
granted_done past (MapFrame h channel) is = absurd is
granted_done past (UnmapFrame h number) is = absurd is
granted_done past (GetProperty h name) is = absurd is
granted_done past (Subtypes t) is = absurd is
granted_done past (ObjectInfo t subtype) is = absurd is
granted_done past (ParameterInfo t subtype name) is = absurd is
granted_done past call is = refl

pub done_is : (call : Call) (r : Reply) (out : Handed) (before : History) → IsDone call → IsReplied call hand.Nothing r out before
    → ((refused : Refused) → r ≡ reply.Denied refused → ⊥) → r ≡ reply.Done
done_is call r out before is replied granting =
    let told = is_granted call r out before (done_loanless call is) replied granting in
    some_is (sym told.1 ∙ ap (option_map (told_with told.0 call)) (granted_done (after before) call is) ∙ ap (λ (a : Reply). Some a) (done_told (tells_of_flights call) told.0))
  where
    some_is : Some r ≡ Some reply.Done → r ≡ reply.Done
    some_is same = cc

-- as passes tell it
pub made_of_none : (call : Call) (r : Reply) (out : Handed) (old new : DevicePass) → IsLoanless call → HasCalled call hand.Nothing r out old new → HasMade call r old new
made_of_none call r out old new is made =
    subst (λ out. HasCalled call hand.Nothing r out old new) (comes_of_none call r out made.before is made.reply) made

pub made_done : (call : Call) (r : Reply) (old new : DevicePass) → IsDone call → HasMade call r old new → ((refused : Refused) → r ≡ reply.Denied refused → ⊥)
    → HasMade call reply.Done old new
made_done call r old new is made granting = subst (λ r. HasMade call r old new) (done_is call r hand.Nothing made.before is made.reply granting) made

pub object_made : (t : DataType) (subtype : List ℕ) (r : Reply) (old new : DevicePass) → HasMade (NewObject t subtype) r old new
    → ((refused : Refused) → r ≡ reply.Denied refused → ⊥) → (h : ℕ) × (r ≡ reply.Made h)
object_made t subtype r old new made granting =
    let told = is_granted (NewObject t subtype) r hand.Nothing made.before tt made.reply granting in ((after made.before).state.next, some_is told.1)
  where
    some_is : {a : Reply} → Some a ≡ Some r → r ≡ a
    some_is same = cc

pub array_made : (elem : DataType) (count stride : ℕ) (origin : Origin) (bytes : List ℕ) (r : Reply) (old new : DevicePass) → HasMade (NewArray elem count stride origin bytes) r old new
    → ((refused : Refused) → r ≡ reply.Denied refused → ⊥) → (h : ℕ) × (r ≡ reply.Made h)
array_made elem count stride origin bytes r old new made granting =
    let told = is_granted (NewArray elem count stride origin bytes) r hand.Nothing made.before tt made.reply granting in ((after made.before).state.next, some_is told.1)
  where
    some_is : {a : Reply} → Some a ≡ Some r → r ≡ a
    some_is same = cc

-- queries answer in their form
some_of : {X : Type 0} (f : X → Reply) (g : ℕ) (call : Call) (x : Option X) (r : Reply) → ((v : X) → told_with g call (f v) ≡ f v)
    → option_map (told_with g call) (option_map f x) ≡ Some r → (v : X) × (r ≡ f v)
some_of f g call None r plain told = let none : None ≡ Some r = told in absurd cc
some_of f g call (Some v) r plain told = (v, some_is told)
  where
    some_is : Some (told_with g call (f v)) ≡ Some r → r ≡ f v
    some_is same = let is : told_with g call (f v) ≡ r = cc in sym is ∙ plain v

pub property_told : (h : ℕ) (name : List ℕ) (r : Reply) (old new : DevicePass) → HasMade (GetProperty h name) r old new → ((refused : Refused) → r ≡ reply.Denied refused → ⊥)
    → (v : Value) × (r ≡ reply.Val v)
property_told h name r old new made granting =
    let told = is_granted (GetProperty h name) r hand.Nothing made.before tt made.reply granting in
    some_of reply.Val told.0 (GetProperty h name) (property_of (after made.before) h) r (λ v. refl) told.1

pub subtypes_told : (t : DataType) (r : Reply) (old new : DevicePass) → HasMade (Subtypes t) r old new → ((refused : Refused) → r ≡ reply.Denied refused → ⊥)
    → (names : List (List ℕ)) × (r ≡ reply.Listed names)
subtypes_told t r old new made granting =
    let told = is_granted (Subtypes t) r hand.Nothing made.before tt made.reply granting in
    some_of reply.Listed told.0 (Subtypes t) (Some (subtypes_of t)) r (λ v. refl) told.1

pub object_told : (t : DataType) (subtype : List ℕ) (r : Reply) (old new : DevicePass) → HasMade (ObjectInfo t subtype) r old new
    → ((refused : Refused) → r ≡ reply.Denied refused → ⊥) → (names : List (List ℕ)) × (r ≡ reply.Listed names)
object_told t subtype r old new made granting =
    let told = is_granted (ObjectInfo t subtype) r hand.Nothing made.before tt made.reply granting in
    let found = some_of (λ (kind : Kind). reply.Listed (parameters_of kind)) told.0 (ObjectInfo t subtype) (kind_of t subtype) r (λ kind. refl) told.1 in
    (parameters_of found.0, found.1)

pub parameter_told : (t : DataType) (subtype name : List ℕ) (r : Reply) (old new : DevicePass) → HasMade (ParameterInfo t subtype name) r old new
    → ((refused : Refused) → r ≡ reply.Denied refused → ⊥) → (info : ParamInfo) × (r ≡ reply.Info info)
parameter_told t subtype name r old new made granting =
    let told = is_granted (ParameterInfo t subtype name) r hand.Nothing made.before tt made.reply granting in
    let found = some_of (λ (row : Row). reply.Info (info_of row)) told.0 (ParameterInfo t subtype name) (option_and_then (λ kind. row_of kind name) (kind_of t subtype)) r (λ row. refl) told.1 in
    (info_of found.0, found.1)

-- a question whether a frame is ready is answered in its form
readiness_form : (past : Past) (g h : ℕ) (wait : Bool) (phase : Phase) (r : Reply) → option_map (told_with g (FrameReady h wait)) (readiness past wait phase) ≡ Some r → IsReadiness r
readiness_form past g h wait Empty r told = let none : None ≡ Some r = told in absurd cc
readiness_form past g h true (Flight t) r told = let none : None ≡ Some r = told in absurd cc
readiness_form past g h false (Flight t) r told = let same : reply.NotReady g (tiles_at past.seen t) ≡ r = cc in subst IsReadiness same tt
readiness_form past g h wait (Done t) r told = let same : reply.Ready ≡ r = cc in subst IsReadiness same tt

is_readiness : (h : ℕ) (wait : Bool) (r : Reply) (out : Handed) (old new : DevicePass) → HasCalled (FrameReady h wait) hand.Nothing r out old new → IsReadiness r
is_readiness h wait (reply.Denied refused) out old new made = tt
is_readiness h wait r out old new made =
    let told = granted_reply (FrameReady h wait) hand.Nothing r out made.before (loanless_entered (after made.before) (FrameReady h wait) tt) made.reply (λ refused same. absurd cc) in
    readiness_form (after made.before) told.0 h wait (phase_at (after made.before) h) r told.1

pub are_readiness : (made : Result (Reply × Handed) (Refused × Call × Handed)) (h : ℕ) (wait : Bool) (old new : DevicePass)
    → IfOk made (λ r. HasCalled (FrameReady h wait) hand.Nothing r.0 r.1 old new) → IfOk made (λ r. IsReadiness r.0)
are_readiness (Ok r) h wait old new made = is_readiness h wait r.0 r.1 old new made
are_readiness (Err e) h wait old new made = tt

-- as it is handed out
ready_reply : (h : ℕ) (wait : Bool) (r : Reply) (old new : DevicePass) (told : Result Ready Refused) → told ≡ told_ready r → IsReadiness r → HasMade (FrameReady h wait) r old new
    → IfOk told (λ ready. HasMade (FrameReady h wait) (reply_of_ready ready) old new) × IfErr told (λ e. IsRefused (FrameReady h wait) e old new)
ready_reply h wait reply.Ready old new told is ready made =
    subst (λ (x : Result Ready Refused). IfOk x (λ ready. HasMade (FrameReady h wait) (reply_of_ready ready) old new) × IfErr x (λ e. IsRefused (FrameReady h wait) e old new)) (sym is) (made, tt)
ready_reply h wait (reply.NotReady given of) old new told is ready made =
    subst (λ (x : Result Ready Refused). IfOk x (λ ready. HasMade (FrameReady h wait) (reply_of_ready ready) old new) × IfErr x (λ e. IsRefused (FrameReady h wait) e old new)) (sym is) (made, tt)
ready_reply h wait (reply.Denied refused) old new told is ready made =
    subst (λ (x : Result Ready Refused). IfOk x (λ ready. HasMade (FrameReady h wait) (reply_of_ready ready) old new) × IfErr x (λ e. IsRefused (FrameReady h wait) e old new)) (sym is) (tt, inr made)
ready_reply h wait r old new told is ready made = absurd ready

pub ready_made : (made : Result (Reply × Handed) (Refused × Call × Handed)) (h : ℕ) (wait : Bool) (old new : DevicePass) (told : Result Ready Refused) → told ≡ ready_in made
    → IfOk made (λ r. HasCalled (FrameReady h wait) hand.Nothing r.0 r.1 old new) → IfErr made (λ e. HasDeclined (FrameReady h wait) e.0 old new)
    → IfOk told (λ ready. HasMade (FrameReady h wait) (reply_of_ready ready) old new) × IfErr told (λ e. IsRefused (FrameReady h wait) e old new)
ready_made (Ok r) h wait old new told is made declined =
    ready_reply h wait r.0 old new told is (is_readiness h wait r.0 r.1 old new made) (made_of_none (FrameReady h wait) r.0 r.1 old new tt made)
ready_made (Err e) h wait old new told is made declined =
    subst (λ (x : Result Ready Refused). IfOk x (λ ready. HasMade (FrameReady h wait) (reply_of_ready ready) old new) × IfErr x (λ e. IsRefused (FrameReady h wait) e old new)) (sym is) (tt, inl declined)
