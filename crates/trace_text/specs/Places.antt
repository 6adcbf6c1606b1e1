-- The text of a trace, laid out in its order: each phase, each caller of a phase, and each call of a caller, an outer call before
-- its inner ones.
use Rattle.std.specs.Prelude.{ℕ, zero, suc, List, [], ◌∷◌, ◌++◌, Option, Some, None, option_and_then, unwrap_or, nat_lt, length, take, map, codes, if◌then◌else◌}
use Rattle.std.specs.List.{flat_map}
use Rattle.serde_json.specs.Data.{Data}
use Rattle.serde_json.specs.Find.{as_str}
use Rattle.trace_text.specs.Json.{list_of, items_of, field}
use Rattle.trace_text.specs.Ops.{op_named, is_loan}
use Rattle.trace_text.specs.declared.ops.Version.{Version}
use Rattle.trace_text.specs.declared.ops.Op.{Op}

-- what stands at a place: a call with the number of loans that may still be opened there, and the ends of what was opened
pub data Mark : Type 0 where
  a_phase : Data → Mark
  a_caller : Mark
  a_call : ℕ → Data → Mark
  end_of_loan : Mark
  more_phases : Mark

pub record Place : Type 0 where
  pub phase : ℕ
  pub caller : ℕ
  pub mark : Mark

-- the op of a call
abbrev pub op_of : Version → Data → Option Op
op_of v d = field (λ word. option_and_then (op_named v) (as_str word)) (codes "op") d

-- the list under a key, and no items where there is none
abbrev pub items_at : List ℕ → Data → List Data
items_at key d = unwrap_or (field list_of key d) []

-- the calls that stand inside a call, if it opens a loan
abbrev pub inner_calls : Version → Data → Option (List Data)
inner_calls v d = option_and_then (λ op. if is_loan op then Some (items_at (codes "calls") d) else None) (op_of v d)

-- the marks of what stands inside a call, where inner gives those of a list of calls
abbrev pub inside : (List Data → List Mark) → Option (List Data) → List Mark
inside inner None = []
inside inner (Some ds) = inner ds ++ end_of_loan ∷ []

-- the marks of a list of calls in which n more loans may be opened inside one another
unfoldable pub marks : Version → ℕ → List Data → List Mark
marks v zero ds = map (a_call zero) ds
marks v (suc n) ds = flat_map (λ d. a_call (suc n) d ∷ inside (marks v n) (inner_calls v d)) ds

-- items with their numbers, from a first one on
abbrev pub numbered : {A : Type 0} → ℕ → List A → List (ℕ × A)
numbered n [] = []
numbered n (x ∷ xs) = (n, x) ∷ numbered (suc n) xs

-- the most loans inside one another, and the most phases
abbrev pub most_loans : ℕ
most_loans = 8

abbrev pub most_phases : ℕ
most_phases = 64

abbrev pub placed : ℕ → ℕ → List Mark → List Place
placed p c ms = map (λ m. record { phase = p; caller = c; mark = m }) ms

abbrev pub caller_places : Version → ℕ → ℕ × Data → List Place
caller_places v p caller = placed p caller.0 (a_caller ∷ marks v most_loans (items_of caller.1))

abbrev pub phase_places : Version → ℕ × Data → List Place
phase_places v phase =
    record { phase = phase.0; caller = 0; mark = a_phase phase.1 } ∷
    flat_map (caller_places v phase.0) (numbered 0 (items_at (codes "callers") phase.1))

-- the places of the phases that a trace may have, and one for all that is too much
abbrev pub places : Version → List Data → List Place
places v phases =
    flat_map (phase_places v) (numbered 0 (take most_phases phases))
    ++ (if nat_lt most_phases (length phases) then record { phase = most_phases; caller = 0; mark = more_phases } ∷ [] else [])
