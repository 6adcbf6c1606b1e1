-- Each entry makes or retains at most one object, so there are no more public references than entries.
use Rattle.std.proofs.Common.{ℕ, ◌+◌, ◌==◌, ◌≤◌, Bool, true, false, [], ◌∷◌, length, arith}
use Rattle.std.specs.Prelude.{cond, count_by}
use Rattle.std.proofs.lemmas.List.Sums.{sum_by-cons}
use Rattle.seq_model.specs.Histories.{History, is_making, is_retaining, public}
use Rattle.seq_model.specs.declared.calls.Call.TheVariants.{NewObject, NewArray, Retain}
use Rattle.seq_model.specs.declared.calls.Entry.{Entry}
use Rattle.seq_model.specs.declared.calls.Entry.TheVariants.{Called}
use Rattle.seq_model.specs.declared.calls.Reply.TheVariants as reply

at_most_one : (t : Bool) → cond {A = ℕ} t 1 0 ≤ 1
at_most_one true = omega arith
at_most_one false = omega arith

-- an entry does not make and retain
makes_or_retains : (h : ℕ) (e : Entry) → cond {A = ℕ} (is_making h e) 1 0 + cond (is_retaining h e) 1 0 ≤ 1
makes_or_retains h (Called actor (NewObject t subtype) (reply.Made made)) = let one : cond {A = ℕ} (made == h) 1 0 ≤ 1 = at_most_one (made == h) in omega (arith, one)
makes_or_retains h (Called actor (NewArray elem count stride origin bytes) (reply.Made made)) = let one : cond {A = ℕ} (made == h) 1 0 ≤ 1 = at_most_one (made == h) in omega (arith, one)
makes_or_retains h (Called actor (Retain held) reply.Done) = let one : cond {A = ℕ} (held == h) 1 0 ≤ 1 = at_most_one (held == h) in omega (arith, one)
makes_or_retains h (Called actor _ _) = omega arith
makes_or_retains h _ = omega arith

counts_fit : (h : ℕ) (history : History) → count_by (is_making h) history + count_by (is_retaining h) history ≤ length history
counts_fit h [] = omega arith
counts_fit h (e ∷ history) =
    let rest : count_by (is_making h) history + count_by (is_retaining h) history ≤ length history = counts_fit h history in
    omega (arith, rest, makes_or_retains h e, sum_by-cons (λ x. cond (is_making h x) 1 0) e history, sum_by-cons (λ x. cond (is_retaining h x) 1 0) e history)

pub public_fits : (history : History) (h : ℕ) → public history h ≤ length history
unfolding public
public_fits history h = omega (arith, counts_fit h history)
