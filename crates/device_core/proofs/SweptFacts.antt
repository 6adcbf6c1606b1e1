-- What a sweep leaves of a device.
use Rattle.std.proofs.Common.{◌≡◌, ◌∙◌, ◌≤◌, length, length-append, ap, arith, subst}
use Rattle.flight_books.specs.Sweeps.{notes_of}
use Rattle.frame_future.specs.Reads.{ended_by}
use Rattle.seq_model.specs.Legal.{Legal}
use Rattle.seq_model.specs.Room.{loans_out}
use Rattle.seq_model.specs.Steps.{after}
use Rattle.device_parts.specs.AllParts.{AreParts, Inside}
use Rattle.device_parts.specs.Sweeps.{HasSwept}
use Rattle.device_core.proofs.LoanFacts.{notes_keep_loans}

-- as many loans are out
pub swept_loans : (old new : Inside) → AreParts new → HasSwept old new → loans_out (after new.history).state ≡ loans_out (after old.history).state
swept_loans old new parts swept =
    ap (λ h. loans_out (after h).state) swept.flights.notes
    ∙ notes_keep_loans old.history (ended_by old.flights.future.flights swept.flights.reads) (subst Legal swept.flights.notes parts.rest.legal)

-- the history is no shorter
pub swept_longer : (old new : Inside) → HasSwept old new → length old.history ≤ length new.history
swept_longer old new swept =
    let grown = ap length swept.flights.notes ∙ length-append old.history (notes_of old.flights.future.flights swept.flights.reads) in omega (arith, grown)
