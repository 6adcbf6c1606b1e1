-- Histories: lists of entries, whose places count from 1.
use Rattle.std.specs.Prelude.{ℕ, zero, suc, ◌+◌, ◌-◌, ◌==◌, Bool, false, List, [], Option, Some, None, count_by, slice_get, take}
use Rattle.std.specs.List.{filter, filter_map}
use Rattle.std.specs.Option.{option_and_then, option_map_or}
use Rattle.seq_model.specs.declared.calls.Call.TheVariants.{NewObject, NewArray, Retain, Release, RenderFrame}
use Rattle.seq_model.specs.declared.calls.Entry.{Entry}
use Rattle.seq_model.specs.declared.calls.Entry.TheVariants.{Called}
use Rattle.seq_model.specs.declared.calls.Reply.TheVariants as reply

abbrev pub History : Type 0
History = List Entry

-- what stands before a place
abbrev pub before : History → ℕ → History
before history zero = []
before history (suc i) = take i history

-- the entry at a place
abbrev pub entry_at : History → ℕ → Option Entry
entry_at history zero = None
entry_at history (suc i) = slice_get history i

-- the caller of an entry, where it is a call
abbrev pub caller_of : Entry → Option ℕ
caller_of (Called caller _ _) = Some caller
caller_of _ = None

-- the entry is a call of this caller
abbrev pub is_call_of : ℕ → Entry → Bool
is_call_of caller e = option_map_or (λ c. c == caller) (caller_of e) false

-- the calls of a caller in a history, in their order
abbrev pub entries_of : ℕ → History → History
entries_of caller history = filter (is_call_of caller) history

-- the entry is a creation that was done, and made h for its caller
abbrev pub is_making : ℕ → Entry → Bool
is_making h (Called _ (NewObject _ _) (reply.Made made)) = made == h
is_making h (Called _ (NewArray _ _ _ _ _) (reply.Made made)) = made == h
is_making h _ = false

-- the entry is a retain of h that was done
abbrev pub is_retaining : ℕ → Entry → Bool
is_retaining h (Called _ (Retain held) reply.Done) = held == h
is_retaining h _ = false

-- the entry is a release of h that was done
abbrev pub is_releasing : ℕ → Entry → Bool
is_releasing h (Called _ (Release held) reply.Done) = held == h
is_releasing h _ = false

-- how many public references there are to h: the one of its creation and those that were retained, less those that were released (ANARI
-- 1.0 Specification, object lifetime)
unfoldable pub public : History → ℕ → ℕ
public history h = count_by (is_making h) history + count_by (is_retaining h) history - count_by (is_releasing h) history

-- the frame of a render that was done
abbrev pub rendered : Entry → Option ℕ
rendered (Called _ (RenderFrame h) reply.Done) = Some h
rendered _ = None

-- the frame that was rendered at a place
unfoldable pub frame_at : History → ℕ → Option ℕ
frame_at history place = option_and_then rendered (entry_at history place)

-- the entries at these places, in their order
unfoldable pub mine : History → List ℕ → History
mine history places = filter_map (entry_at history) places
