-- What holds while the flights of a device leave at its end, by rising ticket.
use Rattle.std.specs.Prelude.{◌≡◌, ℕ, ◌-◌, ◌<◌, ◌≤◌, false, List, fold, true}
use Rattle.std.specs.List.{filter, range_with_len}
use Rattle.seq_model.specs.Extensions.{let_follow}
use Rattle.seq_model.specs.Legal.{is_called}
use Rattle.seq_model.specs.Life.{has}
use Rattle.seq_model.specs.State.{flights}
use Rattle.seq_model.specs.Steps.{Past, after, step}
use Rattle.seq_model.specs.declared.calls.Entry.{Entry}
use Rattle.seq_model.specs.declared.calls.Entry.TheVariants.{Left}
use Rattle.plain_journal.specs.Unseen.{IsUnseen}

-- the flights of a past with one of the first n tickets
abbrev pub first_flights : Past → ℕ → List ℕ
first_flights past n = filter (λ t. has t (flights past.state)) (range_with_len 1 n)

-- each flight of a past with a ticket below t has left, and no other; more notes may follow
pub record IsEnding (past now : Past) (t : ℕ) : Type 0 where
  pub from : 1 ≤ t
  pub led : now ≡ after now.seen
  pub unseen : IsUnseen now.seen
  pub lets : (note : Entry) → is_called note ≡ false → let_follow now.seen note ≡ true
  pub folded : now ≡ fold (λ p k. step p (Left k)) past (first_flights past (t - 1))
  pub left : (k : ℕ) → k < t → has k (flights now.state) ≡ false
  pub later : (k : ℕ) → t ≤ k → has k (flights now.state) ≡ has k (flights past.state)
