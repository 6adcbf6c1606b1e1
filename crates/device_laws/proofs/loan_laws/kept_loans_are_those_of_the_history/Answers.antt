use Rattle.device_laws.proofs.LentFacts.{ended_lent, fewer_lent, others_lent}
use Rattle.device_laws.proofs.LoanSteps.{map_lent}
use Rattle.device_laws.proofs.UnmapSteps.{unmap_lent}
use Rattle.device_laws.proofs.loan_laws.kept_loans_are_those_of_the_history.Goals as goal

pub returns : goal.returns
returns c = record {
  others = λ history e left runs pictures none leaves standing lent. others_lent history e left pictures none leaves standing.shown lent;
  fewer = fewer_lent;
  ended = ended_lent;
  mapped = λ history actor f c width height t rows left runs p pictures legal leaves standing single found lent.
      map_lent history actor f c width height t rows left p pictures legal leaves standing.shown single found lent;
  back = λ history actor f number c left runs p pictures legal leaves standing single found out lent.
      unmap_lent history actor f number c left p pictures legal leaves standing.shown single found out lent;
}
