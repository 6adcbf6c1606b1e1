use Rattle.device_laws.proofs.NoteFacts.{note_kept}
use Rattle.device_laws.proofs.standing_laws.frames_stand_on_by_a_note.Goals as goal

pub returns : goal.returns
returns c = note_kept
