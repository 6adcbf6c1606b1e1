-- What each entry of a history does to the state (ANARI 1.0 Specification, the calls of the API).
use Rattle.std.specs.Prelude.{ℕ, ◌+◌, ◌==◌, not, Bool, List, [], ◌∷◌, ◌++◌, Option, Some, None, fold, length, map, replicate, if◌then◌else◌}
use Rattle.std.specs.BTreeMap.{is_at}
use Rattle.std.specs.List.{filter, list_any}
use Rattle.std.specs.Map.{lookup}
use Rattle.std.specs.Option.{option_and_then, option_map, option_map_or, unwrap_or}
use Rattle.std.specs.Ordering.{nat_cmp}
use Rattle.dev_types.specs.Blocks.{needed_length}
use Rattle.dev_types.specs.declared.data_types.DataType.{DataType}
use Rattle.dev_types.specs.declared.data_types.DataType.TheVariants as ty
use Rattle.dev_types.specs.declared.handles.Channel.{Channel}
use Rattle.dev_types.specs.declared.handles.Origin.{Origin}
use Rattle.dev_types.specs.declared.handles.Origin.TheVariants.{Managed}
use Rattle.dev_types.specs.declared.values.Value.{Value}
use Rattle.dev_types.specs.declared.values.Value.TheVariants as value
use Rattle.kind_tables.specs.Kinds.{kind_of}
use Rattle.kind_tables.specs.Walks.{visited, walk}
use Rattle.kind_tables.specs.declared.kinds.Kind.{Kind}
use Rattle.kind_tables.specs.declared.kinds.Kind.TheVariants.{Array}
use Rattle.seq_model.specs.Histories.{History, public, rendered}
use Rattle.seq_model.specs.Life.{has, is_root, live}
use Rattle.seq_model.specs.State.{ArrayState, Object, ParameterLoan, Phase, Empty, Flight, Done, State, changed_at, content_of_loan, empty, flights, is_in_flight, object_at, parameter_loan, scene_objects, with_bytes, with_object}
use Rattle.seq_model.specs.declared.calls.Call.{Call}
use Rattle.seq_model.specs.declared.calls.Call.TheVariants.{NewObject, NewArray, SetParameter, UnsetParameter, UnsetAll, Commit, MapArray, UnmapArray, MapParameterArray, UnmapParameterArray, RenderFrame, DiscardFrame, MapFrame, UnmapFrame}
use Rattle.seq_model.specs.declared.calls.Entry.{Entry}
use Rattle.seq_model.specs.declared.calls.Entry.TheVariants.{Called, Finished, Left, Closed}
use Rattle.seq_model.specs.declared.calls.Reply.{Reply}
use Rattle.seq_model.specs.declared.calls.Reply.TheVariants as reply
use Rattle.kind_tables.specs.SceneObjects.{with_value, without_value}

-- an object as it is made
abbrev pub fresh : Kind → Option ArrayState → Object
fresh kind array = record { kind = kind; staged = []; committed = []; parameter_loans = []; array = array; phase = Empty; channels = [] }

-- so many bytes 0
abbrev pub zeros : ℕ → List ℕ
zeros n = replicate n 0

-- the first content of an array: a managed one is all zero
abbrev pub first_bytes : Origin → ℕ → List ℕ → List ℕ
first_bytes Managed length bytes = zeros length
first_bytes _ length bytes = bytes

-- an array as it is made
abbrev pub fresh_array : DataType → ℕ → ℕ → Origin → List ℕ → Object
fresh_array elem count stride origin bytes = fresh (Array elem) (Some (record {
  block = record { elem = elem; count = count; stride = stride; bytes = first_bytes origin (needed_length elem stride count) bytes };
  origin = origin;
  loan = None;
}))

-- an array that is lent by the entry at a place, and one that has this content and is not lent
abbrev pub lent : ℕ → ArrayState → ArrayState
lent place a = record { block = a.block; origin = a.origin; loan = Some place }

abbrev pub holding : List ℕ → ArrayState → ArrayState
holding bytes a = record { block = with_bytes bytes a.block; origin = a.origin; loan = None }

-- what a call that had its way does to its object
abbrev pub set_staged : (List (List ℕ × Value) → List (List ℕ × Value)) → Object → Object
set_staged change o = record o { staged = change o.staged }

abbrev pub commit : Object → Object
commit o = record o { committed = o.staged }

abbrev pub change_array : (ArrayState → ArrayState) → Object → Object
change_array change o = record o { array = option_map change o.array }

abbrev pub lend_parameter : ParameterLoan → Object → Object
lend_parameter loan o = record o { parameter_loans = o.parameter_loans ++ loan ∷ [] }

abbrev pub end_parameter_loan : ℕ → Object → Object
end_parameter_loan number o = record o { parameter_loans = filter (λ loan. not (loan.number == number)) o.parameter_loans }

abbrev pub set_phase : Phase → Object → Object
set_phase phase o = record o { phase = phase }

abbrev pub map_channel : Channel → ℕ → Object → Object
map_channel channel place o = record o { channels = o.channels ++ (channel, place) ∷ [] }

abbrev pub unmap_channel : ℕ → Object → Object
unmap_channel number o = record o { channels = filter (λ m. not (m.1 == number)) o.channels }

-- the ticket of a frame that is in flight joins those that were stopped
abbrev pub stop : Phase → State → State
stop (Flight t) s = record s { stopped = s.stopped ++ t ∷ [] }
stop _ s = s

-- a frame that is discarded, with its flight, if it is in flight
unfoldable pub discard : ℕ → State → State
discard h s = stop (option_map_or (λ o. o.phase) (object_at s h) Empty) (changed_at h (set_phase Empty) s)

-- a parameter array that comes back: it becomes a managed array, and the staged value of its parameter
unfoldable pub take_in : ℕ → List ℕ → List ℕ → ParameterLoan → State → State
take_in h name bytes loan s =
    with_object (fresh (Array loan.elem) (Some (record { block = content_of_loan loan bytes; origin = Managed; loan = None })))
    (changed_at h (set_staged (with_value name (value.Object ty.Array1D s.next))) (changed_at h (end_parameter_loan loan.number) s))

unfoldable pub unmap_parameter : ℕ → List ℕ → ℕ → List ℕ → State → State
unmap_parameter h name number bytes s =
    option_map_or (λ loan. take_in h name bytes loan s) (option_and_then (λ o. parameter_loan number o.parameter_loans) (object_at s h)) s

-- what the call at a place does to the state by its reply. Retain and release act through the count of public references alone; a call
-- that was refused, a ready and a query do nothing
unfoldable pub effect : ℕ → Call → Reply → State → State
effect place (NewObject t subtype) (reply.Made _) s = unwrap_or (option_map (λ kind. with_object (fresh kind None) s) (kind_of t subtype)) s
effect place (NewArray elem count stride origin bytes) (reply.Made _) s = with_object (fresh_array elem count stride origin bytes) s
effect place (SetParameter h name v) reply.Done s = changed_at h (set_staged (with_value name v)) s
effect place (UnsetParameter h name) reply.Done s = changed_at h (set_staged (without_value name)) s
effect place (UnsetAll h) reply.Done s = changed_at h (set_staged (λ _. [])) s
effect place (Commit h) reply.Done s = changed_at h commit s
effect place (MapArray h) (reply.Lent _) s = changed_at h (change_array (lent place)) s
effect place (UnmapArray h number bytes) reply.Done s = changed_at h (change_array (holding bytes)) s
effect place (MapParameterArray h name elem count) (reply.Lent _) s =
    changed_at h (lend_parameter (record { number = place; name = name; elem = elem; count = count })) s
effect place (UnmapParameterArray h name number bytes) (reply.Made _) s = unmap_parameter h name number bytes s
effect place (RenderFrame h) reply.Done s = changed_at h (set_phase (Flight place)) s
effect place (DiscardFrame h) reply.Done s = discard h s
effect place (MapFrame h channel) (reply.Mapped _ _ _ _) s = changed_at h (map_channel channel place) s
effect place (UnmapFrame h number) reply.Done s = changed_at h (unmap_channel number) s
effect place _ _ s = s

-- a frame whose flight ended
unfoldable pub end_flight : ℕ → Phase → Object → Object
end_flight t phase o = if is_in_flight t o then set_phase phase o else o

unfoldable pub end_flights : ℕ → Phase → State → State
end_flights t phase s = record s { objects = map (λ entry. (entry.0, end_flight t phase entry.1)) s.objects }

-- what the entry at a place does to the state
unfoldable pub change : ℕ → Entry → State → State
change place (Called _ call reply) s = effect place call reply s
change place (Finished t) s = end_flights t (Done t) s
change place (Left t) s = let ended = end_flights t Empty s in record ended { stopped = filter (λ u. not (u == t)) s.stopped }
change place Closed s = record s { objects = [] }

-- a device's past: its history, the state that this led to, and what each flight reached, by its ticket
pub record Past : Type 0 where
  pub seen : History
  pub state : State
  pub reached : List (ℕ × List ℕ)

-- nothing happened yet
abbrev pub start : Past
start = record { seen = []; state = empty; reached = [] }

-- the flight with ticket t reached h
unfoldable pub is_reached_by : List (ℕ × List ℕ) → ℕ → ℕ → Bool
is_reached_by reached t h = has h (unwrap_or (lookup (is_at (nat_cmp t)) reached) [])

-- some flight reached h
unfoldable pub is_reached : List (ℕ × List ℕ) → State → ℕ → Bool
is_reached reached s h = list_any (λ t. is_reached_by reached t h) (flights s)

-- the state with the objects that live
unfoldable pub swept : History → List (ℕ × List ℕ) → State → State
swept seen reached s = record s { objects = live (is_root (public seen) (is_reached reached s)) s.objects }

-- what a render at a place reaches: all that its walk visits
unfoldable pub with_reach : ℕ → Option ℕ → State → List (ℕ × List ℕ) → List (ℕ × List ℕ)
with_reach place None s reached = reached
with_reach place (Some f) s reached = reached ++ (place, visited (walk (scene_objects s) f)) ∷ []

-- the place of the next entry
abbrev pub next_place : Past → ℕ
next_place past = length past.seen + 1

-- one more entry: it changes the state, and what does not live any more is gone
unfoldable pub step : Past → Entry → Past
step past e =
    let seen = past.seen ++ e ∷ [] in
    let reached = with_reach (next_place past) (rendered e) past.state past.reached in
    record { seen = seen; state = swept seen reached (change (next_place past) e past.state); reached = reached }

-- what a history led to
unfoldable pub after : History → Past
after history = fold step start history
