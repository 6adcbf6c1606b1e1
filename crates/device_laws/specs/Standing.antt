-- What a device keeps of its frames stands as its history says.
use Rattle.std.specs.Prelude.{◌≡◌, ◌++◌, ◌∷◌, [], ℕ, not, Bool, true, false, List}
use Rattle.std.specs.List.{AllByRecursion, filter, find}
use Rattle.std.specs.Option.{is_some}
use Rattle.frame_future.specs.Future.{Finished, is_picture_of}
use Rattle.frame_future.specs.declared.phase.Phase.{Phase as Kept}
use Rattle.frame_future.specs.declared.phase.Phase.TheVariants as kept
use Rattle.seq_model.specs.Histories.{History}
use Rattle.seq_model.specs.Life.{has}
use Rattle.seq_model.specs.Refusals.{phase_at}
use Rattle.seq_model.specs.State.{Phase, Empty, Flight, Done, object_at}
use Rattle.seq_model.specs.Steps.{after}
use Rattle.seq_model.specs.declared.calls.Entry.{Entry}
use Rattle.device_laws.specs.Flown.{Run}

-- a phase as it is kept, in the words of a history
abbrev pub phase_as : Kept → Phase
phase_as kept.Empty = Empty
phase_as (kept.Flight t) = Flight t
phase_as (kept.Done t) = Done t

-- As long as a device's end has not begun: a run was stopped just where its flight was stopped in the history, a picture that is kept is what its
-- frame shows, and each frame that is done has one
pub record Standing (history : History) (runs : List Run) (pictures : List Finished) : Type 0 where
  pub stopped : AllByRecursion (λ r. has r.ticket (after history).state.stopped ≡ r.stopped) runs
  pub shown : AllByRecursion (λ p. phase_at (after history) p.frame ≡ Done p.ticket) pictures
  pub done : (h t : ℕ) → phase_at (after history) h ≡ Done t → is_some (find (is_picture_of h) pictures) ≡ true

-- of the objects that were there, these are left by an entry
abbrev pub AreLeft : History → Entry → (ℕ → Bool) → Type 0
AreLeft history e left =
    (h : ℕ) → is_some (object_at (after history).state h) ≡ true → left h ≡ is_some (object_at (after (history ++ e ∷ [])).state h)

-- the pictures of frames that are left
abbrev pub pictures_left : (ℕ → Bool) → List Finished → List Finished
pictures_left left pictures = filter (λ p. left p.frame) pictures

-- the pictures without that of a frame
abbrev pub other_pictures : ℕ → List Finished → List Finished
other_pictures frame pictures = filter (λ p. not (is_picture_of frame p)) pictures

-- what a run leaves that ends: nothing where it was stopped, else the picture of its frame
abbrev pub LeavesPicturesBy : Bool → Run → List Finished → Type 0
LeavesPicturesBy true r [] = Unit {0}
LeavesPicturesBy false r (p ∷ []) = (p.frame ≡ r.frame) × (p.ticket ≡ r.ticket)
LeavesPicturesBy _ r _ = ⊥

abbrev pub LeavesPictures : Run → List Finished → Type 0
LeavesPictures r pictures = LeavesPicturesBy r.stopped r pictures
