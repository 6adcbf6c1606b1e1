-- The JSON of the calls in a trace, with the keys of each object by rising text.
use Rattle.std.specs.Prelude.{ℕ, ℤ, List, [], ◌∷◌, true, codes, map}
use Rattle.serde_json.specs.Data.{Data, boolean, number, string, array, object, Members, no_members, member, unsigned}
use Rattle.serde_json.specs.Find.{of_integer}
use Rattle.serde_json.specs.View.{items_of, view}
use Rattle.trace_make.specs.declared.calls.Calls.{Calls}

-- an object with these members, and a list
abbrev pub members : List (List ℕ × Data) → Members
members [] = no_members
members (m ∷ ms) = member m.0 m.1 (members ms)

abbrev pub fields : List (List ℕ × Data) → Data
fields ms = object (members ms)

abbrev pub list : List Data → Data
list ds = array (items_of ds)

-- whole numbers, and labels or other words
abbrev pub whole : ℤ → Data
whole z = number (of_integer z)

abbrev pub wholes : List ℤ → Data
wholes zs = list (map whole zs)

abbrev pub words : List (List ℕ) → Data
words ss = list (map string ss)

-- ---- the calls

-- an object of the subtype that is taken where none is named, and of a subtype
abbrev pub new_call : List ℕ → List ℕ → Data
new_call label ty = fields ((codes "label", string label) ∷ (codes "op", string (codes "new")) ∷ (codes "type", string ty) ∷ [])

abbrev pub new_of_call : List ℕ → List ℕ → List ℕ → Data
new_of_call label ty subtype =
    fields ((codes "label", string label) ∷ (codes "op", string (codes "new")) ∷ (codes "subtype", string subtype) ∷ (codes "type", string ty) ∷ [])

-- an array without gaps of so many elements, with the application's word
abbrev pub array_call : List ℕ → List ℕ → ℕ → List ℕ → ℕ → Data → Data
array_call label elem count origin user elements =
    fields
    ((codes "count", number (unsigned count)) ∷ (codes "data", elements) ∷ (codes "elem", string elem) ∷ (codes "label", string label) ∷
    (codes "op", string (codes "new_array")) ∷ (codes "origin", string origin) ∷ (codes "user", number (unsigned user)) ∷ [])

abbrev pub set_call : List ℕ → List ℕ → List ℕ → Data → Data
set_call label name ty value =
    fields ((codes "name", string name) ∷ (codes "object", string label) ∷ (codes "op", string (codes "set")) ∷ (codes "type", string ty) ∷ (codes "value", value) ∷ [])

abbrev pub commit_call : List ℕ → Data
commit_call label = fields ((codes "object", string label) ∷ (codes "op", string (codes "commit")) ∷ [])

abbrev pub release_call : List ℕ → Data
release_call label = fields ((codes "object", string label) ∷ (codes "op", string (codes "release")) ∷ [])

abbrev pub render_call : List ℕ → Data
render_call frame = fields ((codes "frame", string frame) ∷ (codes "op", string (codes "render")) ∷ [])

-- waits until the frame is done
abbrev pub wait_call : List ℕ → Data
wait_call frame = fields ((codes "frame", string frame) ∷ (codes "op", string (codes "ready")) ∷ (codes "wait", boolean true) ∷ [])

-- maps a channel of a frame, and unmaps it with no call between
abbrev pub look_call : List ℕ → List ℕ → Data
look_call frame channel =
    fields ((codes "calls", list []) ∷ (codes "channel", string channel) ∷ (codes "frame", string frame) ∷ (codes "op", string (codes "with_frame")) ∷ [])

-- ---- what was written

-- the calls of a list, first to last
abbrev pub written : Calls → List Data
written calls = map view calls.calls.items
