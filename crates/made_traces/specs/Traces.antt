-- Texts that are traces.
use Rattle.std.specs.Prelude.{◌≡◌, ℕ, List, Ok}
use Rattle.trace_text.specs.Reading.{trace_of}
use Rattle.trace_text.specs.declared.calls.Trace.{Trace}

-- the text breaks no rule of a trace
abbrev pub IsTrace : List ℕ → Type 0
IsTrace text = (trace : Trace) × (trace_of text ≡ Ok trace)
