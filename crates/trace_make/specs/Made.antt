-- The whole text that is made.
use Rattle.std.specs.Prelude.{ℕ, List, [], ◌∷◌, ◌++◌, codes, map}
use Rattle.std.specs.List.{range_with_len}
use Rattle.serde_json.specs.Data.{Data, number, unsigned}
use Rattle.serde_json.specs.Written.{compact_text}
use Rattle.trace_make.specs.Draws.{state_after}
use Rattle.trace_make.specs.Calls.{fields, list}
use Rattle.trace_make.specs.Scene.{scene_calls}
use Rattle.trace_make.specs.Pictures.{caller_calls, release_calls}

-- a phase of callers, each with its calls
abbrev pub phase : List (List Data) → Data
phase callers = fields ((codes "callers", list (map list callers)) ∷ [])

-- one caller makes the scene, all callers render it, and one caller releases it
abbrev pub phases : ℕ → ℕ → ℕ → List Data
phases seed callers frames =
    phase (scene_calls seed ∷ []) ∷
    phase (map (caller_calls (state_after seed 349) frames) (range_with_len 0 callers)) ∷
    phase (release_calls ∷ []) ∷ []

abbrev pub trace : List Data → Data
trace ds = fields ((codes "phases", list ds) ∷ (codes "trace", number (unsigned 1)) ∷ [])

-- the trace of a seed, for so many callers with so many frames each, as compact JSON and a newline
unfoldable pub made : ℕ → ℕ → ℕ → List ℕ
made seed callers frames = compact_text (trace (phases seed callers frames)) ++ 10 ∷ []
