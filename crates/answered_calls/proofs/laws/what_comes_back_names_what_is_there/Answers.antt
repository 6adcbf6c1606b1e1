use Rattle.answered_calls.proofs.Cleaned.{entered_is_sound}
use Rattle.answered_calls.proofs.laws.what_comes_back_names_what_is_there.Goals as goal

pub returns : goal.returns
returns c = λ history call legal. entered_is_sound history legal call
