-- Which entry lent what an application holds of an object.
use Rattle.std.specs.Prelude.{ℕ, ◌==◌, ◌&&◌, Bool, false, All, IsTrue}
use Rattle.std.specs.Option.{IsSomeAnd, MatchOption}
use Rattle.std.specs.Str.{bytes_eq}
use Rattle.dev_types.specs.declared.handles.Channel.{Channel}
use Rattle.kind_tables.specs.Kinds.{is_same_type}
use Rattle.seq_model.specs.Histories.{History, entry_at}
use Rattle.seq_model.specs.Refusals.{is_same_channel}
use Rattle.seq_model.specs.State.{Object, ParameterLoan, array_loan}
use Rattle.seq_model.specs.declared.calls.Call.TheVariants.{MapArray, MapFrame, MapParameterArray}
use Rattle.seq_model.specs.declared.calls.Entry.{Entry}
use Rattle.seq_model.specs.declared.calls.Entry.TheVariants.{Called}
use Rattle.seq_model.specs.declared.calls.Reply.TheVariants as reply

-- the entry lent array h, this array for a parameter of h, this channel of frame h
abbrev pub lends_array : ℕ → Entry → Bool
lends_array h (Called _ (MapArray k) (reply.Lent _)) = k == h
lends_array h _ = false

abbrev pub lends_parameter : ℕ → ParameterLoan → Entry → Bool
lends_parameter h loan (Called _ (MapParameterArray k name elem count) (reply.Lent _)) =
    k == h && bytes_eq name loan.name && is_same_type elem loan.elem && count == loan.count
lends_parameter h loan _ = false

abbrev pub lends_channel : ℕ → Channel → Entry → Bool
lends_channel h c (Called _ (MapFrame k channel) (reply.Mapped _ _ _ _)) = k == h && is_same_channel channel c
lends_channel h c _ = false

-- the entry at a place does so
abbrev pub IsAt : History → ℕ → (Entry → Bool) → Type 0
IsAt history place does = IsSomeAnd (entry_at history place) (λ e. IsTrue (does e))

-- what is lent of object h was lent by the entries at the places of its loans
pub record WasLent (history : History) (h : ℕ) (o : Object) : Type 0 where
  pub array : MatchOption (array_loan o) (Unit {0}) (λ place. IsAt history place (lends_array h))
  pub parameters : All (λ loan. IsAt history loan.number (lends_parameter h loan)) o.parameter_loans
  pub channels : All (λ m. IsAt history m.1 (lends_channel h m.0)) o.channels
