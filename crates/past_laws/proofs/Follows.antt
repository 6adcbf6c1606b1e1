-- One more call may follow a legal history where its reply is one that it may have, and no number of tiles falls.
use Rattle.std.proofs.Common.{ℕ, ◌≡◌, true, [], ◌∷◌, ◌++◌, subst}
use Rattle.std.specs.Option.{MatchOption}
use Rattle.seq_model.proofs.Prefixes.{extension_is_legal}
use Rattle.seq_model.specs.Answers.{IsAnswer}
use Rattle.seq_model.specs.Histories.{History}
use Rattle.seq_model.specs.Extensions.{let_follow, readings_of}
use Rattle.seq_model.specs.Legal.{IsNext, IsNoLess, Legal, is_content_sound, reading}
use Rattle.seq_model.specs.Steps.{Past, after}
use Rattle.seq_model.specs.declared.calls.Call.{Call}
use Rattle.seq_model.specs.declared.calls.Entry.TheVariants.{Called}
use Rattle.seq_model.specs.declared.calls.Reply.{Reply}

pub one_call_more : (history : History) (actor : ℕ) (call : Call) (r : Reply) → Legal history →
    let_follow history (Called actor call r) ≡ true → IsAnswer (after history) call r →
    is_content_sound (after history) call ≡ true →
    MatchOption (reading (after history) (Called actor call r)) (Unit {0}) (IsNoLess (readings_of history)) →
    Legal (history ++ Called actor call r ∷ [])
one_call_more history actor call r legal lets answer sound rising =
    extension_is_legal history (Called actor call r) legal (record { placed = (answer, sound); rising = rising }) lets

-- the same, of a past that its history led to
pub called_follows : (past : Past) → past ≡ after past.seen → Legal past.seen → (actor : ℕ) (call : Call) (r : Reply) →
    let_follow past.seen (Called actor call r) ≡ true → IsAnswer past call r → is_content_sound past call ≡ true →
    MatchOption (reading past (Called actor call r)) (Unit {0}) (IsNoLess (readings_of past.seen)) →
    Legal (past.seen ++ Called actor call r ∷ [])
called_follows past led legal actor call r lets answer sound rising =
    extension_is_legal past.seen (Called actor call r) legal
    (subst (λ (p : Past). IsNext p (readings_of past.seen) (Called actor call r) []) led
    (record { placed = (answer, sound); rising = rising })) lets
