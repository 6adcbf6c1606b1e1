use Rattle.object_steps.proofs.Rested.{rests}
use Rattle.object_steps.proofs.carry_laws.entries_lead_on.Goals as goal

pub returns : goal.returns
returns c = λ moved left history e is counts_moved counts_left is_left is_buried. rests history e moved is left counts_moved counts_left is_left is_buried
