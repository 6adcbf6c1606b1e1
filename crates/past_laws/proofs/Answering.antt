-- A call that waits for no flight is answered.
use Rattle.std.proofs.Common.{ℕ, zero, suc, ◌≡◌, Bool, true, false, List, Option, Some, None, refl, ◌∙◌, sym}
use Rattle.std.specs.Prelude.{IsSome}
use Rattle.std.specs.Bool.{then_some}
use Rattle.std.specs.Option.{is_none, option_and_then, option_map, option_or}
use Rattle.dev_types.specs.declared.handles.Channel.{Channel}
use Rattle.dev_types.specs.declared.refusals.Refused.{Refused}
use Rattle.kind_tables.specs.Kinds.{kind_of}
use Rattle.kind_tables.specs.Rows.{parameters_of, row_of}
use Rattle.kind_tables.specs.declared.kinds.Kind.{Kind}
use Rattle.kind_tables.specs.declared.rows.Row.{Row}
use Rattle.seq_model.specs.Endings.{waited_flight}
use Rattle.seq_model.proofs.Granted.{AllNone, all_none}
use Rattle.seq_model.specs.Answers.{answer, granted, info_of, is_done, mapped_picture, readiness}
use Rattle.seq_model.specs.Properties.{property_by}
use Rattle.seq_model.specs.Refusals.{phase_at, refusal, refusals_of, refusal_of_info, in_flight, no_picture}
use Rattle.seq_model.specs.State.{Object, Phase, Empty, Flight, Done, object_at, scene_objects, ticket_in}
use Rattle.seq_model.specs.Steps.{Past}
use Rattle.seq_model.specs.declared.calls.Call.{Call}
use Rattle.seq_model.specs.declared.calls.Call.TheVariants.{FrameReady, MapFrame, GetProperty, ObjectInfo, ParameterInfo}
use Rattle.seq_model.specs.declared.calls.Reply.TheVariants as reply

-- what no refusal applies to
none_apply : (past : Past) (call : Call) → refusal past call ≡ None → AllNone (refusals_of past call)
unfolding refusal
none_apply past call none = all_none (refusals_of past call) none

-- whether a frame is ready, where nothing is waited for
ready_answered : (past : Past) (h : ℕ) (wait : Bool) → waited_flight past (FrameReady h wait) ≡ None → no_picture (phase_at past h) ≡ None → IsSome (readiness past wait (phase_at past h))
ready_answered past h true still some = by (phase_at past h) still some
  where
    by : (phase : Phase) → ticket_in phase ≡ None → no_picture phase ≡ None → IsSome (readiness past true phase)
    by Empty still some = absurd cc
    by (Flight t) still some = absurd cc
    by (Done t) still some = refl
ready_answered past h false still some = by (phase_at past h) some
  where
    by : (phase : Phase) → no_picture phase ≡ None → IsSome (readiness past false phase)
    by Empty some = absurd cc
    by (Flight t) some = refl
    by (Done t) some = refl

map_answered : (past : Past) (c : Channel) (phase : Phase) → in_flight past phase ≡ None → no_picture phase ≡ None → IsSome (mapped_picture past c phase)
map_answered past c Empty still some = absurd cc
map_answered past c (Flight t) still some = absurd cc
map_answered past c (Done t) still some = refl

-- a query
property_answered : (past : Past) (h : ℕ) (x : Option Object) (refused : Refused) → then_some (is_none x) refused ≡ None →
    IsSome (option_map reply.Val (option_map (λ o. property_by (scene_objects past.state) h (is_done (phase_at past h)) o.kind) x))
property_answered past h None refused none = absurd cc
property_answered past h (Some o) refused none = refl

kind_answered : (x : Option Kind) (refused : Refused) → then_some (is_none x) refused ≡ None → IsSome (option_map (λ kind. reply.Listed (parameters_of kind)) x)
kind_answered None refused none = absurd cc
kind_answered (Some kind) refused none = refl

row_answered : (x : Option Row) (refused : Refused) → then_some (is_none x) refused ≡ None → IsSome (option_map (λ row. reply.Info (info_of row)) x)
row_answered None refused none = absurd cc
row_answered (Some row) refused none = refl

info_answered : (x : Option Kind) (name : List ℕ) → refusal_of_info x name ≡ None → IsSome (option_map (λ row. reply.Info (info_of row)) (option_and_then (λ kind. row_of kind name) x))
info_answered None name none = absurd cc
info_answered (Some kind) name none = row_answered (row_of kind name) _ none

-- each call that no refusal applies to, and that waits for no flight
granted_answered : (past : Past) (call : Call) → waited_flight past call ≡ None → AllNone (refusals_of past call) → IsSome (granted past call)
unfolding refusals_of
granted_answered past (FrameReady h wait) still none = ready_answered past h wait still none.1.1.1.0
granted_answered past (MapFrame h c) still none = map_answered past c (phase_at past h) none.1.1.1.0 none.1.1.1.1.0
granted_answered past (GetProperty zero name) still none = refl
granted_answered past (GetProperty (suc h) name) still none = property_answered past (suc h) (object_at past.state (suc h)) _ none.0
granted_answered past (ObjectInfo t subtype) still none = kind_answered (kind_of t subtype) _ none.0
granted_answered past (ParameterInfo t subtype name) still none = info_answered (kind_of t subtype) name none.0
granted_answered past _ still none = refl

-- a call that waits for no flight is answered
pub answered_now : (past : Past) (call : Call) → waited_flight past call ≡ None → IsSome (answer past call)
unfolding answer
answered_now past call still = by (refusal past call) refl
  where
    by : (x : Option Refused) → refusal past call ≡ x → IsSome (option_or (option_map reply.Denied x) (granted past call))
    by None is = granted_answered past call still (none_apply past call is)
    by (Some refused) is = refl

pub answered_unless : (past : Past) (call : Call) (found : Option ℕ) → found ≡ waited_flight past call → found ≡ None → IsSome (answer past call)
answered_unless past call found is none = answered_now past call (sym is ∙ none)
