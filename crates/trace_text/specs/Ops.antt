-- The words for what a call is.
use Rattle.std.specs.Prelude.{ℕ, List, [], ◌∷◌, Bool, true, false, Option, codes}
use Rattle.std.specs.Map.{lookup}
use Rattle.std.specs.Str.{bytes_eq}
use Rattle.trace_text.specs.declared.ops.Version.{Version}
use Rattle.trace_text.specs.declared.ops.Version.TheVariants.{One, Two}
use Rattle.trace_text.specs.declared.ops.Op.{Op}
use Rattle.trace_text.specs.declared.ops.Op.TheVariants.{New, NewArray, Retain, Release, Set, Unset, UnsetAll, Commit, WithArray, WithParam, WithFrame, Render, Discard, Ready, Query}
use Rattle.trace_text.specs.declared.ops.Asked.{Asked}
use Rattle.trace_text.specs.declared.ops.Asked.TheVariants.{Property, Subtypes, ObjectInfo, ParameterInfo}

-- the most calls of a trace
abbrev pub most_calls : Version → ℕ
most_calls One = 65536
most_calls Two = 262144

-- the words of `op`
abbrev pub ops_by_name : List (List ℕ × Op)
ops_by_name =
    (codes "new", New) ∷ (codes "new_array", NewArray) ∷ (codes "retain", Retain) ∷ (codes "release", Release) ∷ (codes "set", Set) ∷
    (codes "unset", Unset) ∷ (codes "unset_all", UnsetAll) ∷ (codes "commit", Commit) ∷ (codes "with_array", WithArray) ∷
    (codes "with_frame", WithFrame) ∷ (codes "render", Render) ∷ (codes "discard", Discard) ∷ (codes "ready", Ready) ∷ (codes "query", Query) ∷ []

-- arrays of parameters came with the second version
abbrev pub ops_of : Version → List (List ℕ × Op)
ops_of One = ops_by_name
ops_of Two = (codes "with_param", WithParam) ∷ ops_by_name

abbrev pub op_named : Version → List ℕ → Option Op
op_named v word = lookup (bytes_eq word) (ops_of v)

-- the calls inside which calls stand
abbrev pub is_loan : Op → Bool
is_loan WithArray = true
is_loan WithParam = true
is_loan WithFrame = true
is_loan _ = false

-- the words of `what`
abbrev pub queries_by_name : List (List ℕ × Asked)
queries_by_name =
    (codes "property", Property) ∷ (codes "subtypes", Subtypes) ∷ (codes "object_info", ObjectInfo) ∷
    (codes "parameter_info", ParameterInfo) ∷ []

abbrev pub query_named : List ℕ → Option Asked
query_named word = lookup (bytes_eq word) queries_by_name
