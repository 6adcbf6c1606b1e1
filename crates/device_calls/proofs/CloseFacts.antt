-- What the end of a device adds to its history, and what it tells.
use Rattle.std.proofs.Common.{◌≡◌, ◌∙◌, ◌++◌, ◌∷◌, [], refl, sym, ap, subst}
use Rattle.std.proofs.lemmas.List.{append-nil}
use Rattle.device_core.specs.Finishing.{Halts}
use Rattle.device_core.specs.States.{Device}
use Rattle.device_core.specs.Sweeping.{TellsOn}
use Rattle.seq_model.specs.Histories.{History, caller_of}
use Rattle.seq_model.specs.Told.{told}
use Rattle.seq_model.specs.declared.calls.Entry.TheVariants.{Closed}
use Rattle.turn_lock.specs.Histories.{new_places, places}
use Rattle.turn_lock.proofs.PlaceLaws.{new_places-notes, places-extended}
use Rattle.device_calls.specs.Holds.{AddsNotes}
use Rattle.device_calls.proofs.HoldFacts.{notes_through, sweep_adds}

halted_history : (old new : Device) (h : Halts old new) → h.stopped.parts.history ≡ h.swept.parts.history
halted_history old new h = ap (λ (d : Device). d.parts.history) h.rest

pub halts_add : (old new : Device) → Halts old new → AddsNotes old.parts.history new.parts.history
halts_add old new h =
    notes_through old.parts.history h.swept.parts.history new.parts.history (sweep_adds old h.swept h.first)
    (subst (λ l. AddsNotes l new.parts.history) (halted_history old new h) (sweep_adds h.stopped new h.second))

pub halts_tell : (old new : Device) → Halts old new → TellsOn old new
halts_tell old new h before is =
    h.second.told before (ap (λ (d : Device). d.told) h.rest ∙ h.first.told before is ∙ ap (λ l. before ++ told l) (sym (halted_history old new h)))

-- the close is no call either
pub close_adds : (old last : History) → AddsNotes old last → AddsNotes old (last ++ Closed ∷ [])
close_adds old last notes = notes_through old last (last ++ Closed ∷ []) notes (Closed ∷ [], refl, refl)

pub none_added : (one : History) → AddsNotes one one
none_added one = ([], sym (append-nil one), refl)

-- notes have no places
pub same_places : (old new : History) → AddsNotes old new → places caller_of old ≡ places caller_of new
same_places old new notes =
    sym (places-extended caller_of old new (notes.0, notes.1) ∙ ap (λ h. places caller_of old ++ new_places caller_of old h) notes.1
    ∙ ap (λ l. places caller_of old ++ l) (new_places-notes caller_of old notes.0 notes.2) ∙ append-nil (places caller_of old))
