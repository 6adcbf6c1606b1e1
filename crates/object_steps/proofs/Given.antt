-- The loan that a call brings is that of the array which it gives back as it is entered.
use Rattle.std.proofs.Common.{ℕ, ◌≡◌, ◌==◌, ◌∙◌, Bool, true, false, Option, Some, None, length, refl, sym, ap}
use Rattle.std.specs.Prelude.{cond}
use Rattle.std.specs.Option.{option_and_then, option_map_or}
use Rattle.std.proofs.lemmas.Bool.{and_parts, eqb-true}
use Rattle.past_laws.proofs.Answered.{suits}
use Rattle.seq_model.specs.Answers.{answer}
use Rattle.seq_model.specs.Contents.{bytes_for_array, entered}
use Rattle.seq_model.specs.Histories.{History}
use Rattle.seq_model.specs.Refusals.{is_array_loan_out, is_array_out}
use Rattle.seq_model.specs.State.{ArrayState, State, object_at}
use Rattle.seq_model.specs.Steps.{after}
use Rattle.seq_model.specs.declared.calls.Call.{Call}
use Rattle.seq_model.specs.declared.calls.Call.TheVariants as call
use Rattle.seq_model.specs.declared.calls.Reply.{Reply}
use Rattle.seq_model.specs.declared.calls.Reply.TheVariants as reply
use Rattle.seq_model.proofs.Afters.{seen_is_history}
use Rattle.object_steps.specs.Carrying.{Brings, GivesBack}
use Rattle.object_steps.specs.declared.array_loans.ArrayLoan.{ArrayLoan}
use Rattle.object_steps.specs.declared.array_loans.ArrayLoan.TheVariants as loans

-- loans of an array that are out have its length
one_length : (s : State) (h number m n : ℕ) → is_array_loan_out s h number m ≡ true → is_array_loan_out s h number n ≡ true → m ≡ n
one_length s h number m n = by (option_and_then (λ o. o.array) (object_at s h))
  where
    has : (a : ArrayState) (k : ℕ) → is_array_out number k a ≡ true → length a.block.bytes ≡ k
    has a k out = eqb-true (length a.block.bytes) k (and_parts (option_map_or (λ n. n == number) a.loan false) (length a.block.bytes == k) out).1

    by : (x : Option ArrayState) → option_map_or (is_array_out number m) x false ≡ true → option_map_or (is_array_out number n) x false ≡ true → m ≡ n
    by None first second = absurd cc
    by (Some a) first second = sym (has a m first) ∙ has a n second

pub gives_back : (history : History) (c : Call) (r : Reply) (with : ArrayLoan) → Brings c with → answer (after history) (entered (after history) c) ≡ Some r → GivesBack (entered (after history) c) r with
unfolding entered
gives_back history (call.UnmapArray h number bytes) reply.Done (loans.Lent l) brings is =
    (brings.0, brings.2 ∙ same (is_array_loan_out (after history).state h number (length bytes)) refl out)
  where
    out : is_array_loan_out (after history).state h number (length (cond (is_array_loan_out (after history).state h number (length bytes)) (bytes_for_array (after history) h bytes) bytes)) ≡ true
    out = suits (after history) (entered (after history) (call.UnmapArray h number bytes)) reply.Done (ap after (sym (seen_is_history history))) is

    same : (t : Bool) → is_array_loan_out (after history).state h number (length bytes) ≡ t → is_array_loan_out (after history).state h number (length (cond t (bytes_for_array (after history) h bytes) bytes)) ≡ true →
        length bytes ≡ length (cond t (bytes_for_array (after history) h bytes) bytes)
    same true first second = one_length (after history).state h number (length bytes) (length (bytes_for_array (after history) h bytes)) first second
    same false first second = refl
gives_back history (call.UnmapArray h number bytes) reply.Done loans.Nothing brings is = absurd brings
gives_back history (call.UnmapArray h number bytes) reply.Done (loans.Param l) brings is = absurd brings
gives_back history _ _ with brings is = tt
