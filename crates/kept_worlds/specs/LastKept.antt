-- Which worlds a device keeps: those that are there, and that nobody touched since their last render.
use Rattle.std.specs.Prelude.{◌≡◌, ℕ, ◌+◌, ◌==◌, ◌&&◌, not, Bool, true, false, List, Option, Some, None, length, if◌then◌else◌}
use Rattle.std.specs.Option.{MatchOption, is_some}
use Rattle.seq_model.specs.Builds.{last_render, reach_of_world}
use Rattle.seq_model.specs.Histories.{History}
use Rattle.seq_model.specs.Pictures.{state_before}
use Rattle.seq_model.specs.State.{object_at, scene_objects}
use Rattle.seq_model.specs.Steps.{after}
use Rattle.past_laws.specs.Worlds.{Use, last_use}
use Rattle.world_laws.specs.Alike.{Shown, ShowsAsBefore, shown_of}

-- what is kept of a world by its last use: what this reached, where the world is there and was not touched since
abbrev pub kept_by : Bool → Option Use → Option (List ℕ)
kept_by there None = None
kept_by false (Some u) = None
kept_by true (Some u) = if u.touched then None else Some u.reach

-- of the worlds that are there exactly those are kept that nobody touched since their last render, each with what that reached
abbrev pub AreKept : (ℕ → Bool) → History → (ℕ → Option (List ℕ)) → Type 0
AreKept there history reaches = (w : ℕ) → reaches w ≡ kept_by (there w) (last_use history w)

-- all but one
abbrev pub all_but : ℕ → (ℕ → Bool) → ℕ → Bool
all_but w there v = not (w == v) && there v

-- whether an object is there after a history
abbrev pub is_there : History → ℕ → Bool
is_there history w = is_some (object_at (after history).state w)

-- what is kept of each world shows what the world shows after a history
abbrev pub AreShown : History → (ℕ → Option Shown) → Type 0
AreShown history shown = (w : ℕ) → MatchOption (shown w) (Unit {0}) (λ kept. kept ≡ shown_of (scene_objects (after history).state) w)

-- the last render of a world stands at a place of a history, where the world reached this, and it shows now what it showed there
pub record ShowsLastRender (history : History) (w : ℕ) (reach : List ℕ) : Type 0 where
  pub place : ℕ
  pub last : last_render history w (length history + 1) ≡ Some place
  pub reached : reach ≡ reach_of_world history place w
  pub stays : ShowsAsBefore (scene_objects (state_before history place)) (scene_objects (after history).state) w
