-- When one more entry may stand behind a legal history.
use Rattle.std.specs.Prelude.{ℕ, ◌&&◌, ◌||◌, not, Bool, true, false, List, [], ◌∷◌}
use Rattle.seq_model.specs.Histories.{History}
use Rattle.seq_model.specs.Legal.{is_called, reading, with_reading}
use Rattle.seq_model.specs.Life.{has}
use Rattle.seq_model.specs.Steps.{Past, start, step}
use Rattle.seq_model.specs.declared.calls.Entry.{Entry}
use Rattle.seq_model.specs.declared.calls.Entry.TheVariants.{Left, Closed}

-- an entry lets another one follow, at once or later: nothing follows a close, and no call follows a flight that left without being stopped
abbrev pub lets_follow : Past → Entry → Entry → Bool
lets_follow past Closed next = false
lets_follow past (Left t) next = has t past.state.stopped || not (is_called next)
lets_follow past _ next = true

-- each entry after a past lets another one follow
unfoldable pub let_follow_from : Past → History → Entry → Bool
let_follow_from past [] next = true
let_follow_from past (e ∷ rest) next = lets_follow past e next && let_follow_from (step past e) rest next

-- each entry of a history does
unfoldable pub let_follow : History → Entry → Bool
let_follow history next = let_follow_from start history next

-- what the replies of a history told of flights, the latest first
unfoldable pub readings_from : Past → List (ℕ × ℕ) → History → List (ℕ × ℕ)
readings_from past readings [] = readings
readings_from past readings (e ∷ rest) = readings_from (step past e) (with_reading (reading past e) readings) rest

unfoldable pub readings_of : History → List (ℕ × ℕ)
readings_of history = readings_from start [] history
