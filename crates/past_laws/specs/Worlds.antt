-- What is known of the worlds that were rendered, as a history grows: enough to tell whether the next render prepares its world.
use Rattle.std.specs.Prelude.{ℕ, ◌+◌, ◌≡◌, ◌≤◌, ◌||◌, IsTrue, Bool, List, [], ◌∷◌, Option, codes, length, true}
use Rattle.std.specs.BTreeMap.{is_at}
use Rattle.std.specs.Map.{lookup}
use Rattle.std.specs.Option.{option_and_then, option_map, option_map_or}
use Rattle.std.specs.Ordering.{nat_cmp}
use Rattle.kind_tables.specs.SceneObjects.{object_in, value_named}
use Rattle.seq_model.specs.Builds.{builds, is_touched, is_touching, last_render, reach_of_world}
use Rattle.seq_model.specs.Histories.{History}
use Rattle.seq_model.specs.Life.{has}
use Rattle.seq_model.specs.State.{State, object_at}
use Rattle.seq_model.specs.declared.calls.Call.TheVariants.{RenderFrame}
use Rattle.seq_model.specs.declared.calls.Entry.{Entry}
use Rattle.seq_model.specs.declared.calls.Entry.TheVariants.{Called}
use Rattle.seq_model.specs.declared.calls.Reply.TheVariants as reply

-- of the last render of a world: what it reached, and whether some of that was touched since
pub record Use : Type 0 where
  pub reach : List ℕ
  pub touched : Bool

-- the last use of each world that was rendered, how many renders prepared their world, and for how many more worlds there is room
pub record Worlds : Type 0 where
  pub uses : List (ℕ × Use)
  pub builds : ℕ
  pub spare : ℕ

-- there is room for one more world
abbrev pub HasRoom : Worlds → Type 0
HasRoom worlds = 1 ≤ worlds.spare

-- the last use of world w, if it was rendered
abbrev pub use_of : Worlds → ℕ → Option Use
use_of worlds w = lookup (is_at (nat_cmp w)) worlds.uses

-- the use of world w that its render at place p made, as it stands after a history
abbrev pub use_at : History → ℕ → ℕ → Use
use_at history w p = record { reach = reach_of_world history p w; touched = is_touched history w p (length history + 1) }

-- the last use of world w in a history
abbrev pub last_use : History → ℕ → Option Use
last_use history w = option_map (use_at history w) (last_render history w (length history + 1))

-- whether a render of this world prepares it, by its last use
abbrev pub wants_build : Option Use → Bool
wants_build last = option_map_or (λ u. u.touched) last true

-- the builds of a history are counted, and the last use of each world is known
pub record KnowsWorlds (history : History) (worlds : Worlds) : Type 0 where
  pub counted : worlds.builds ≡ builds history
  pub known : (w : ℕ) → use_of worlds w ≡ last_use history w

-- an entry touches h: it is a commit of h or an unmap of array h, and was done
abbrev pub Touches : ℕ → Entry → Type 0
Touches h e = IsTrue (is_touching (h ∷ []) e)

-- the world of a frame
abbrev pub world_of : State → ℕ → Option ℕ
world_of s f = option_and_then object_in (option_and_then (λ o. value_named (codes "world") o.committed) (object_at s f))

-- a render of a frame that was done
abbrev pub render_of : ℕ → ℕ → Entry
render_of actor f = Called actor (RenderFrame f) reply.Done

-- a use after h was touched
abbrev pub touched_by : ℕ → Use → Use
touched_by h u = record { reach = u.reach; touched = u.touched || has h u.reach }
