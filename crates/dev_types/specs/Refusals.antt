-- The numbers of the refusals, and the status that each gives.
use Rattle.std.specs.Prelude.{ℕ, ◌==◌, List, [], ◌∷◌, Option, Some, None, option_and_then, option_map, if◌then◌else◌}
use Rattle.std.specs.List.{list_any}
use Rattle.std.specs.Int.{is_in_range}
use Rattle.dev_types.specs.declared.refusals.Refused.{Refused}
use Rattle.dev_types.specs.declared.refusals.Refused.TheVariants.{JournalFull, BadHandle, NotHeld, WrongKind, BadSubtype, BadType, UnknownObjectParameter, BadShape, ArrayMapped, NotMapped, InFlight, NoPicture, ChannelMapped, NoChannel, Incomplete, TooMany, OutOfRange, NoSuchName, NoMemory}
use Rattle.dev_types.specs.declared.refusals.Severity.{Severity}
use Rattle.dev_types.specs.declared.refusals.Severity.TheVariants.{Error}
use Rattle.dev_types.specs.declared.refusals.Code.{Code}
use Rattle.dev_types.specs.declared.refusals.Code.TheVariants.{InvalidArgument, InvalidOperation}
use Rattle.dev_types.specs.declared.refusals.Status.{Status}

-- the number of a refusal, by which the first of several is chosen
abbrev pub refusal_number : Refused → ℕ
refusal_number (JournalFull _) = 1
refusal_number (BadHandle _) = 2
refusal_number (NotHeld _) = 3
refusal_number (WrongKind _) = 4
refusal_number BadSubtype = 5
refusal_number BadType = 6
refusal_number UnknownObjectParameter = 7
refusal_number BadShape = 8
refusal_number (ArrayMapped _) = 9
refusal_number NotMapped = 10
refusal_number (InFlight _ _) = 11
refusal_number NoPicture = 12
refusal_number ChannelMapped = 13
refusal_number NoChannel = 14
refusal_number (Incomplete _ _) = 15
refusal_number (TooMany _) = 16
refusal_number (OutOfRange _ _) = 17
refusal_number NoSuchName = 18
refusal_number NoMemory = 19

-- each refusal that is told is an error; the first and the last are not told
abbrev pub severity_by_number : ℕ → Option Severity
severity_by_number n = if is_in_range 2 18 n then Some Error else None

-- the refusals that blame an argument: a handle, a kind, a type, a shape, a range or a name
abbrev pub numbers_of_bad_arguments : List ℕ
numbers_of_bad_arguments = 2 ∷ 4 ∷ 5 ∷ 6 ∷ 7 ∷ 8 ∷ 17 ∷ 18 ∷ []

-- the refusals that come too early or too late, from an object in this state
abbrev pub numbers_of_bad_moments : List ℕ
numbers_of_bad_moments = 3 ∷ 9 ∷ 10 ∷ 11 ∷ 12 ∷ 13 ∷ 14 ∷ 15 ∷ 16 ∷ []

-- the code of a refusal's status
abbrev pub code_by_number : ℕ → Option Code
code_by_number n =
    if list_any (λ k. k == n) numbers_of_bad_arguments then Some InvalidArgument
    else if list_any (λ k. k == n) numbers_of_bad_moments then Some InvalidOperation
    else None

-- the status of a refused call on the object `source`
abbrev pub status_of : Refused → ℕ → Option Status
status_of refused source =
    option_and_then (λ severity. option_map (λ code. record { severity = severity; code = code; source = source; refusal = refusal_number refused }) (code_by_number (refusal_number refused)))
    (severity_by_number (refusal_number refused))
