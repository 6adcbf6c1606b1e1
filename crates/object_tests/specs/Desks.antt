-- What always holds at a desk at which calls on objects are made.
use Rattle.std.specs.Prelude.{◌≡◌, ℕ, ◌≤◌, All, [], None}
use Rattle.past_laws.specs.Open.{IsOpen}
use Rattle.seq_model.specs.Histories.{History, rendered}
use Rattle.object_steps.specs.Objects.{Objects, tellable}
use Rattle.object_steps.specs.Resting.{IsAtRest}

-- the entries that were made, and for how many there is room
pub record Entered : Type 0 where
  pub entries : History
  pub room : ℕ

-- no entry is a render
abbrev pub RendersNothing : History → Type 0
RendersNothing history = All (λ e. rendered e ≡ None) history

-- the objects are where the history led, a call may follow, all ends were told, and there is room to tell of the end of each array
pub record IsDesk (o : Objects) (history : History) (spare : ℕ) : Type 0 where
  pub rests : IsAtRest o.stored history
  pub may_follow : IsOpen history
  pub none : o.dead ≡ []
  pub room : tellable o.stored.state ≤ spare
