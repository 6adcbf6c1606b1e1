-- The lines of a printed journal: its entries as words, with a space between each two.
use Rattle.std.specs.Prelude.{ℕ, zero, suc, ◌/◌, ◌%◌, List, [], ◌∷◌, ◌++◌, Bool, true, false, Option, Some, None, codes, decimal, map, slice_index, if◌then◌else◌}
use Rattle.std.specs.List.{flat_map, join_with_byte}
use Rattle.dev_types.specs.Refusals.{refusal_number}
use Rattle.dev_types.specs.ValueBytes.{type_of, bytes_of, is_well_typed}
use Rattle.dev_types.specs.Words.{name_of_type, word_of_type, name_of_channel, word_of_origin}
use Rattle.dev_types.specs.declared.data_types.DataType.{DataType}
use Rattle.dev_types.specs.declared.handles.Origin.{Origin}
use Rattle.dev_types.specs.declared.handles.Origin.TheVariants.{Captured, Shared, Managed}
use Rattle.dev_types.specs.declared.refusals.Refused.{Refused}
use Rattle.dev_types.specs.declared.refusals.Refused.TheVariants.{JournalFull, BadHandle, NotHeld, WrongKind, ArrayMapped, InFlight, Incomplete, TooMany, OutOfRange}
use Rattle.dev_types.specs.declared.values.Value.{Value}
use Rattle.ppm_out.specs.declared.entries.CallText.{CallText}
use Rattle.ppm_out.specs.declared.entries.CallText.TheVariants.{NewObject, NewArray, Retain, Release, SetParameter, UnsetParameter, UnsetAll, Commit, MapArray, UnmapArray, MapParameterArray, UnmapParameterArray, RenderFrame, FrameReady, DiscardFrame, MapFrame, UnmapFrame, GetProperty, Subtypes, ObjectInfo, ParameterInfo, Finished, Left, Close}
use Rattle.ppm_out.specs.declared.entries.EntryText.{EntryText}
use Rattle.ppm_out.specs.declared.entries.ReplyText.{ReplyText}
use Rattle.ppm_out.specs.declared.entries.ReplyText.TheVariants.{Done, Made, Lent, Mapped, Ready, NotReady, Val, Listed, Info, Denied, Noted}

-- the words in a row, with a space between each two
abbrev pub spaced : List (List ℕ) → List ℕ
spaced words = join_with_byte 32 words

-- words that go on behind others, with a space before each
abbrev pub continued : List (List ℕ) → List ℕ
continued [] = []
continued (word ∷ words) = codes " " ++ spaced (word ∷ words)

-- the first of some words, and the others
abbrev pub first_word : List (List ℕ) → List ℕ
first_word [] = []
first_word (word ∷ words) = word

-- a digit from 0 to 15
abbrev pub hex_digit : ℕ → ℕ
hex_digit n = slice_index (codes "0123456789abcdef") n

-- two digits for each byte, the higher one first
abbrev pub hex_digits : List ℕ → List ℕ
hex_digits bytes = flat_map (λ b. hex_digit (b / 16) ∷ hex_digit (b % 16) ∷ []) bytes

-- the digits of bytes, and a dash for none
abbrev pub hex : List ℕ → List ℕ
hex [] = codes "-"
hex (byte ∷ bytes) = hex_digits (byte ∷ bytes)

-- a mark before the type of an object that was handed in with no object type
abbrev pub type_mark : Value → List ℕ
type_mark v = if is_well_typed v then [] else codes "!"

-- the name of the type with which a value was handed in
abbrev pub type_word : Value → List ℕ
type_word v = type_mark v ++ name_of_type (type_of v)

-- who made the call; notes and the close are made by nobody
abbrev pub actor_word : Option ℕ → List ℕ
actor_word None = codes "-"
actor_word (Some actor) = decimal actor

-- the application's number for the memory of an array
abbrev pub user_of : Origin → ℕ
user_of (Captured user) = user
user_of (Shared user) = user
user_of Managed = 0

-- whether the caller waits
abbrev pub wait_word : Bool → List ℕ
wait_word true = codes "wait"
wait_word false = codes "nowait"

-- a call, a note of a frame in flight, or the close
abbrev pub call_words : CallText → List (List ℕ)
call_words (NewObject ty subtype) = codes "new" ∷ word_of_type ty ∷ subtype ∷ []
call_words (NewArray elem count stride origin bytes) = codes "new_array" ∷ name_of_type elem ∷ decimal count ∷ decimal stride ∷ word_of_origin origin ∷ decimal (user_of origin) ∷ hex bytes ∷ []
call_words (Retain h) = codes "retain" ∷ decimal h ∷ []
call_words (Release h) = codes "release" ∷ decimal h ∷ []
call_words (SetParameter h name value) = codes "set" ∷ decimal h ∷ name ∷ type_word value ∷ hex (bytes_of value) ∷ []
call_words (UnsetParameter h name) = codes "unset" ∷ decimal h ∷ name ∷ []
call_words (UnsetAll h) = codes "unset_all" ∷ decimal h ∷ []
call_words (Commit h) = codes "commit" ∷ decimal h ∷ []
call_words (MapArray h) = codes "map_array" ∷ decimal h ∷ []
call_words (UnmapArray h loan bytes) = codes "unmap_array" ∷ decimal h ∷ decimal loan ∷ hex bytes ∷ []
call_words (MapParameterArray h name elem count) = codes "map_parameter_array" ∷ decimal h ∷ name ∷ name_of_type elem ∷ decimal count ∷ []
call_words (UnmapParameterArray h name loan bytes) = codes "unmap_parameter_array" ∷ decimal h ∷ name ∷ decimal loan ∷ hex bytes ∷ []
call_words (RenderFrame h) = codes "render" ∷ decimal h ∷ []
call_words (FrameReady h wait) = codes "ready" ∷ decimal h ∷ wait_word wait ∷ []
call_words (DiscardFrame h) = codes "discard" ∷ decimal h ∷ []
call_words (MapFrame h channel) = codes "map_frame" ∷ decimal h ∷ name_of_channel channel ∷ []
call_words (UnmapFrame h loan) = codes "unmap_frame" ∷ decimal h ∷ decimal loan ∷ []
call_words (GetProperty h name) = codes "property" ∷ decimal h ∷ name ∷ []
call_words (Subtypes ty) = codes "subtypes" ∷ word_of_type ty ∷ []
call_words (ObjectInfo ty subtype) = codes "object_info" ∷ word_of_type ty ∷ subtype ∷ []
call_words (ParameterInfo ty subtype name) = codes "parameter_info" ∷ word_of_type ty ∷ subtype ∷ name ∷ []
call_words (Finished ticket) = codes "finished" ∷ decimal ticket ∷ []
call_words (Left ticket) = codes "left" ∷ decimal ticket ∷ []
call_words Close = codes "close" ∷ []

-- what a refusal tells beside its number
abbrev pub refusal_words : Refused → List (List ℕ)
refusal_words (JournalFull limit) = decimal limit ∷ []
refusal_words (BadHandle h) = decimal h ∷ []
refusal_words (NotHeld h) = decimal h ∷ []
refusal_words (WrongKind h) = decimal h ∷ []
refusal_words (ArrayMapped h) = decimal h ∷ []
refusal_words (InFlight given tiles) = decimal given ∷ decimal tiles ∷ []
refusal_words (Incomplete h name) = decimal h ∷ name ∷ []
refusal_words (TooMany limit) = decimal limit ∷ []
refusal_words (OutOfRange h name) = decimal h ∷ name ∷ []
refusal_words _ = []

-- the names of types, with a comma between each two
abbrev pub types_word : List DataType → List ℕ
types_word types = join_with_byte 44 (map name_of_type types)

-- what stands before the name at this place of them, counted from 0
abbrev pub comma_before : ℕ → List ℕ
comma_before zero = []
comma_before (suc i) = codes ","

-- whether a parameter has to be set, and else its default
abbrev pub need_words : Bool → Option Value → List (List ℕ)
need_words true _ = codes "required" ∷ []
need_words false None = codes "optional" ∷ []
need_words false (Some value) = codes "default" ∷ hex (bytes_of value) ∷ []

-- what a call answered; notes and the close are noted
abbrev pub reply_words : ReplyText → List (List ℕ)
reply_words Done = codes "done" ∷ []
reply_words (Made h) = codes "made" ∷ decimal h ∷ []
reply_words (Lent loan) = codes "lent" ∷ decimal loan ∷ []
reply_words (Mapped width height ty rows) = codes "mapped" ∷ decimal width ∷ decimal height ∷ name_of_type ty ∷ hex rows ∷ []
reply_words Ready = codes "ready" ∷ []
reply_words (NotReady given tiles) = codes "notready" ∷ decimal given ∷ decimal tiles ∷ []
reply_words (Val value) = codes "value" ∷ name_of_type (type_of value) ∷ hex (bytes_of value) ∷ []
reply_words (Listed names) = codes "names" ∷ names
reply_words (Info info) = codes "info" ∷ types_word info.types ∷ need_words info.required info.default
reply_words (Denied refused) = codes "refused" ∷ decimal (refusal_number refused) ∷ refusal_words refused
reply_words Noted = codes "noted" ∷ []

-- the line of the entry at a place of the journal, counted from 1
abbrev pub line : ℕ → EntryText → List ℕ
line place entry = decimal place ++ (codes " " ++ (actor_word entry.actor ++ (codes " " ++ (spaced (call_words entry.call) ++ (codes " -> " ++ (spaced (reply_words entry.reply) ++ codes "\n"))))))
