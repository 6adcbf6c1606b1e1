-- Notes leave the loans that are out.
use Rattle.std.proofs.Common.{◌≡◌, ◌∙◌, ◌++◌, ◌∷◌, [], ℕ, Bool, true, false, List, map, sym, ap, subst, arith}
use Rattle.std.proofs.lemmas.List.{append-nil, append_assoc}
use Rattle.flight_books.specs.Sweeps.{note, note_of}
use Rattle.frame_future.specs.Flights.{Flying, is_stopped}
use Rattle.room_laws.proofs.LoanFacts.{moves}
use Rattle.seq_model.proofs.Prefixes.{prefix_is_legal}
use Rattle.seq_model.specs.Histories.{History}
use Rattle.seq_model.specs.Legal.{Legal}
use Rattle.seq_model.specs.Room.{loans_out}
use Rattle.seq_model.specs.Steps.{after}
use Rattle.seq_model.specs.declared.calls.Entry.TheVariants.{Finished, Left}

-- one note
note_keeps : (history : History) (b : Bool) (t : ℕ) → Legal (history ++ note b t ∷ []) → loans_out (after (history ++ note b t ∷ [])).state ≡ loans_out (after history).state
note_keeps history true t legal = let moved = moves history (Left t) legal (λ is. absurd cc) in omega (arith, moved)
note_keeps history false t legal = let moved = moves history (Finished t) legal (λ is. absurd cc) in omega (arith, moved)

-- the notes of flights
pub notes_keep_loans : (history : History) (fs : List Flying) → Legal (history ++ map note_of fs) → loans_out (after (history ++ map note_of fs)).state ≡ loans_out (after history).state
notes_keep_loans history [] legal = ap (λ h. loans_out (after h).state) (append-nil history)
notes_keep_loans history (f ∷ fs) legal =
    let joined : (history ++ note_of f ∷ []) ++ map note_of fs ≡ history ++ note_of f ∷ map note_of fs = append_assoc history (note_of f ∷ []) (map note_of fs) in
    let split = subst Legal (sym joined) legal in
    ap (λ h. loans_out (after h).state) (sym joined) ∙ notes_keep_loans (history ++ note_of f ∷ []) fs split
    ∙ note_keeps history (is_stopped f) f.ticket (prefix_is_legal (history ++ note_of f ∷ []) (map note_of fs) split)
