use Rattle.std.proofs.Common.{◌≡◌, drop}
use Rattle.trace_text.specs.Components.{component_bytes, bytes_of_numbers}
use Rattle.trace_text.proofs.ComponentFacts.{joined}
use Rattle.trace_text.proofs.components.bytes_of_numbers.Given as goal

-- the bytes so far, before those of the rest, are all bytes
abbrev pub invariant-loop-number : goal.invariant-loop-number
invariant-loop-number l = joined (component_bytes l.ty) l.bytes.items (drop l.number-index l.numbers) ≡ bytes_of_numbers l.ty l.numbers
