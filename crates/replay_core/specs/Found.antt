-- Bindings that are found by their labels.
use Rattle.std.specs.Prelude.{◌≡◌, ◌&&◌, ℕ, List, [], ◌++◌, Option, if◌then◌else◌}
use Rattle.std.specs.BTreeMap.{is_at}
use Rattle.std.specs.Cmp.Lexicographic.{slice_cmp}
use Rattle.std.specs.List.{filter, find}
use Rattle.std.specs.Map.{lookup}
use Rattle.std.specs.Option.{option_map, unwrap_or}
use Rattle.std.specs.Ordering.{nat_cmp}
use Rattle.std.specs.Str.{bytes_eq}
use Rattle.replay_core.specs.Labels.{is_known}
use Rattle.replay_core.specs.declared.bindings.Binding.{Binding}

-- for each label its bindings
abbrev pub ByLabel : Type 0
ByLabel = List (List ℕ × List Binding)

-- the bindings of a label among some, in their order
abbrev pub bound_to : List ℕ → List Binding → List Binding
bound_to label bound = filter (λ b. bytes_eq b.label label) bound

-- those that stand under a label
abbrev pub found : ByLabel → List ℕ → List Binding
found entries label = unwrap_or (lookup (is_at (slice_cmp nat_cmp label)) entries) []

-- under each label stand its bindings among these
abbrev pub AreFound : ByLabel → List Binding → Type 0
AreFound entries bound = (label : List ℕ) → found entries label ≡ bound_to label bound

-- under this label stand bindings more, or nothing changed
abbrev pub Adds : ByLabel → List ℕ → List Binding → ByLabel → Type 0
Adds old at list new = (label : List ℕ) → found new label ≡ found old label ++ (if bytes_eq at label then list else [])

abbrev pub Keeps : ByLabel → ByLabel → Type 0
Keeps old new = (label : List ℕ) → found new label ≡ found old label

-- under each label stand the bindings of two maps, those of the first before those of the other
abbrev pub Joins : ByLabel → ByLabel → ByLabel → Type 0
Joins first other all = (label : List ℕ) → found all label ≡ found first label ++ found other label

-- the object of the first binding that a caller knows in a phase, if it knows one
abbrev pub first_known : List Binding → ℕ → ℕ → Option ℕ
first_known bound phase caller = option_map (λ b. b.handle) (find (λ b. is_known phase caller b) bound)

-- the object that a label stands for to a caller in a phase, if it knows the label
abbrev pub object_of : List Binding → ℕ → ℕ → List ℕ → Option ℕ
object_of bound phase caller label = option_map (λ b. b.handle) (find (λ b. bytes_eq b.label label && is_known phase caller b) bound)
