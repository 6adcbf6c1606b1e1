-- Which histories are legal: each reply is one that its call may have, each note stands where it is true, and nothing follows a close.
use Rattle.std.specs.Prelude.{◌≡◌, ◌⊎◌, ℕ, ◌≤◌, ◌||◌, Bool, true, false, not, List, [], ◌∷◌, All, Option, Some, None, IsTrue, length}
use Rattle.std.specs.List.{list_all, list_any}
use Rattle.std.specs.Option.{MatchOption, option_and_then, option_map, option_map_or}
use Rattle.dev_types.specs.declared.refusals.Refused.TheVariants.{InFlight}
use Rattle.kind_tables.specs.SceneObjects.{Block, objects_in}
use Rattle.seq_model.specs.Answers.{IsAnswer}
use Rattle.seq_model.specs.Histories.{History}
use Rattle.seq_model.specs.Life.{has}
use Rattle.seq_model.specs.Refusals.{has_type, is_array_loan_out, is_parameter_loan_out, phase_at}
use Rattle.seq_model.specs.State.{State, content_of_loan, flights, is_in_flight, object_at, parameter_loan, ticket_in, with_bytes}
use Rattle.seq_model.specs.Steps.{Past, start, step}
use Rattle.seq_model.specs.declared.calls.Call.{Call}
use Rattle.seq_model.specs.declared.calls.Call.TheVariants.{UnmapArray, UnmapParameterArray, FrameReady, RenderFrame, MapFrame}
use Rattle.seq_model.specs.declared.calls.Entry.{Entry}
use Rattle.seq_model.specs.declared.calls.Entry.TheVariants.{Called, Finished, Left, Closed}
use Rattle.seq_model.specs.declared.calls.Reply.TheVariants as reply

-- some frame is in flight with this ticket
abbrev pub is_flying : State → ℕ → Bool
is_flying s t = list_any (λ entry. is_in_flight t entry.1) s.objects

-- the entry is a call
abbrev pub is_called : Entry → Bool
is_called (Called _ _ _) = true
is_called _ = false

-- each object that the elements name is there, and has their type
abbrev pub are_elements_sound : Past → Block → Bool
are_elements_sound past b = list_all (λ named. has_type past named.1 b.elem) (objects_in b)

-- the content that an unmap brings: that of the array, and that of a new one
abbrev pub content_of_array : Past → ℕ → List ℕ → Option Block
content_of_array past h bytes = option_map (λ a. with_bytes bytes a.block) (option_and_then (λ o. o.array) (object_at past.state h))

abbrev pub content_of_parameter : Past → ℕ → ℕ → List ℕ → Option Block
content_of_parameter past h number bytes =
    option_map (λ loan. content_of_loan loan bytes) (option_and_then (λ o. parameter_loan number o.parameter_loans) (object_at past.state h))

-- what comes back by an unmap of a loan that is out names only what is there: every other element was replaced by 0
abbrev pub is_content_sound : Past → Call → Bool
is_content_sound past (UnmapArray h number bytes) =
    not (is_array_loan_out past.state h number (length bytes)) || option_map_or (are_elements_sound past) (content_of_array past h bytes) true
is_content_sound past (UnmapParameterArray h name number bytes) =
    not (is_parameter_loan_out past.state h name number (length bytes)) || option_map_or (are_elements_sound past) (content_of_parameter past h number bytes) true
is_content_sound past _ = true

-- how many finished tiles of which flight a reply saw
abbrev pub seen_of : Past → ℕ → ℕ → Option (ℕ × ℕ)
seen_of past h given = option_map (λ t. (t, given)) (ticket_in (phase_at past h))

abbrev pub reading : Past → Entry → Option (ℕ × ℕ)
reading past (Called _ (FrameReady h _) (reply.NotReady given _)) = seen_of past h given
reading past (Called _ (RenderFrame h) (reply.Denied (InFlight given _))) = seen_of past h given
reading past (Called _ (MapFrame h _) (reply.Denied (InFlight given _))) = seen_of past h given
reading past _ = None

-- no earlier reading of the same flight saw more
abbrev pub IsNoLess : List (ℕ × ℕ) → ℕ × ℕ → Type 0
IsNoLess readings now = All (λ earlier. earlier.0 ≡ now.0 → earlier.1 ≤ now.1) readings

-- the entry may stand after a past, before the rest of its history
abbrev pub IsInPlace : Past → History → Entry → Type 0
IsInPlace past rest (Called actor call r) = IsAnswer past call r × IsTrue (is_content_sound past call)
IsInPlace past rest (Finished t) = IsTrue (is_flying past.state t)
IsInPlace past rest (Left t) =
    IsTrue (has t past.state.stopped) ⊎ (IsTrue (is_flying past.state t) × IsTrue (not (list_any is_called rest)))
IsInPlace past rest Closed = (rest ≡ []) × (flights past.state ≡ [])

-- each entry stands in its place, and what replies tell of a flight never falls
pub record IsNext (past : Past) (readings : List (ℕ × ℕ)) (e : Entry) (rest : History) : Type 0 where
  pub placed : IsInPlace past rest e
  pub rising : MatchOption (reading past e) (Unit {0}) (IsNoLess readings)

-- the readings with that of one more entry, if it is one
abbrev pub with_reading : Option (ℕ × ℕ) → List (ℕ × ℕ) → List (ℕ × ℕ)
with_reading None readings = readings
with_reading (Some now) readings = now ∷ readings

-- a history goes on after a past
unfoldable pub GoesOn : Past → List (ℕ × ℕ) → History → Type 0
GoesOn past readings [] = Unit {0}
GoesOn past readings (e ∷ rest) = IsNext past readings e rest × GoesOn (step past e) (with_reading (reading past e) readings) rest

-- a history is legal
unfoldable pub Legal : History → Type 0
Legal history = GoesOn start [] history
