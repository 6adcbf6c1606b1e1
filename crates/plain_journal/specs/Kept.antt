-- What a record knows beside its past.
use Rattle.std.specs.Prelude.{◌≡◌, ℕ, ◌+◌, ◌==◌, ◌≤◌, false, List, All, Option, Some, length, slice_index_or}
use Rattle.std.specs.List.{find}
use Rattle.std.specs.Option.{IsSomeAnd}
use Rattle.dev_types.specs.declared.handles.Channel.{Channel}
use Rattle.picture_model.specs.Limits.{IsSceneWithin}
use Rattle.seq_model.specs.Extensions.{readings_of}
use Rattle.seq_model.specs.Histories.{History, frame_at, public}
use Rattle.seq_model.specs.Legal.{Legal}
use Rattle.seq_model.specs.Pictures.{has_channel, scene_at}
use Rattle.seq_model.specs.Steps.{Past, after}
use Rattle.plain_objects.specs.Counts.{count_at}
use Rattle.dev_types.specs.Channels.{number_of_channel}
use Rattle.plain_journal.specs.declared.renders.Render.{Render}

-- the render with this ticket
abbrev pub render_with : ℕ → List Render → Option Render
render_with t renders = find (λ r. r.ticket == t) renders

-- the render of a history at a place, as it is kept
pub record Shows (history : History) (t : ℕ) (r : Render) : Type 0 where
  pub scene : r.scene ≡ scene_at history t
  pub channels : (c : Channel) → slice_index_or r.channels (number_of_channel c) false ≡ has_channel history t c
  pub within : IsSceneWithin r.scene

-- each render is kept, and none that did not happen yet
pub record KnowsRenders (history : History) (renders : List Render) : Type 0 where
  pub kept : (t f : ℕ) → frame_at history t ≡ Some f → IsSomeAnd (render_with t renders) (Shows history t)
  pub happened : All (λ r. r.ticket ≤ length history) renders

-- a past that its history led to, which is legal and had no seen tile in any flight, with the counts of public references and the renders
pub record IsKept (past : Past) (held : List ℕ) (renders : List Render) : Type 0 where
  pub led : past ≡ after past.seen
  pub legal : Legal past.seen
  pub unseen : All (λ r. r.1 ≡ 0) (readings_of past.seen)
  pub counted : (h : ℕ) → count_at held h ≡ public past.seen h
  pub handles : length held + 1 ≡ past.state.next
  pub shown : KnowsRenders past.seen renders
