-- The channels of kept pictures that are mapped are those of the history.
use Rattle.std.specs.Prelude.{◌≡◌, ℕ, Bool, false, true, List, Option, length}
use Rattle.std.specs.List.{AllByRecursion, find}
use Rattle.std.specs.Option.{option_map}
use Rattle.dev_types.specs.declared.handles.Channel.{Channel}
use Rattle.frame_future.specs.Channels.{loan_of}
use Rattle.frame_future.specs.Future.{Finished}
use Rattle.seq_model.specs.Histories.{History}
use Rattle.seq_model.specs.Refusals.{is_same_channel, mapped_at}
use Rattle.seq_model.specs.Steps.{after}
use Rattle.seq_model.specs.declared.calls.Call.TheVariants.{MapFrame, UnmapFrame}
use Rattle.seq_model.specs.declared.calls.Entry.{Entry}
use Rattle.seq_model.specs.declared.calls.Entry.TheVariants.{Called}
use Rattle.seq_model.specs.declared.calls.Reply.TheVariants as reply

-- the number of the loan of a channel, among the mapped ones
abbrev pub loan_in : List (Channel × ℕ) → Channel → Option ℕ
loan_in mapped c = option_map (λ m. m.1) (find (λ m. is_same_channel m.0 c) mapped)

-- the loans of a picture are those of its frame's mapped channels
pub record IsLent (history : History) (p : Finished) : Type 0 where
  pub count : length p.loans ≡ 4
  pub loans : (c : Channel) → loan_of p.loans c ≡ loan_in (mapped_at (after history) p.frame) c

abbrev pub AreLent : History → List Finished → Type 0
AreLent history pictures = AllByRecursion (IsLent history) pictures

-- whether an entry maps a channel, or takes one back
abbrev pub moves_channels : Entry → Bool
moves_channels (Called _ (MapFrame f c) (reply.Mapped _ _ _ _)) = true
moves_channels (Called _ (UnmapFrame f number) reply.Done) = true
moves_channels e = false
