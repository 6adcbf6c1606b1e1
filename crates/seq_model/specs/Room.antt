-- How many entries a journal of limited length owes: each flight its note, each loan its unmap, and one for the close.
use Rattle.std.specs.Prelude.{ℕ, ◌+◌, ◌-◌, nat_lt, Bool, length, if◌then◌else◌}
use Rattle.std.specs.List.{sum_by}
use Rattle.seq_model.specs.Life.{loan_count}
use Rattle.seq_model.specs.Refusals.{is_array_loan_out, is_channel_out, is_parameter_loan_out}
use Rattle.seq_model.specs.State.{State, flights}
use Rattle.seq_model.specs.Steps.{Past}
use Rattle.seq_model.specs.declared.calls.Call.{Call}
use Rattle.seq_model.specs.declared.calls.Call.TheVariants.{MapArray, UnmapArray, MapParameterArray, UnmapParameterArray, RenderFrame, MapFrame, UnmapFrame}

-- how many loans are out
abbrev pub loans_out : State → ℕ
loans_out s = sum_by (λ entry. loan_count entry.1) s.objects

-- how many entries a call takes: its own, and that of the note or the unmap which it will owe; what ends a loan has its place already
abbrev pub need : State → Call → ℕ
need s (MapArray _) = 2
need s (MapParameterArray _ _ _ _) = 2
need s (RenderFrame _) = 2
need s (MapFrame _ _) = 2
need s (UnmapArray h number bytes) = if is_array_loan_out s h number (length bytes) then 0 else 1
need s (UnmapParameterArray h name number bytes) = if is_parameter_loan_out s h name number (length bytes) then 0 else 1
need s (UnmapFrame h number) = if is_channel_out s h number then 0 else 1
need s _ = 1

-- a journal of this length has no room for a call
unfoldable pub is_full : ℕ → Past → Call → Bool
is_full limit past call = nat_lt (limit - 1) (length past.seen + length (flights past.state) + loans_out past.state + need past.state call)
