-- How many worlds are prepared for rendering: a world that nobody touched since its last render is not prepared again.
use Rattle.std.specs.Prelude.{ℕ, ◌-◌, ◌==◌, nat_lt, ◌&&◌, Bool, true, false, List, Option, None, count_by, length, codes}
use Rattle.std.specs.List.{filter, last_or, list_any, range_with_len}
use Rattle.std.specs.Option.{option_and_then, option_map_or}
use Rattle.kind_tables.specs.SceneObjects.{object_in, value_named}
use Rattle.kind_tables.specs.Walks.{visited, walk}
use Rattle.seq_model.specs.Histories.{History, entry_at, frame_at}
use Rattle.seq_model.specs.Life.{has}
use Rattle.seq_model.specs.Pictures.{state_before}
use Rattle.seq_model.specs.State.{object_at, scene_objects}
use Rattle.seq_model.specs.declared.calls.Call.TheVariants.{Commit, UnmapArray}
use Rattle.seq_model.specs.declared.calls.Entry.{Entry}
use Rattle.seq_model.specs.declared.calls.Entry.TheVariants.{Called}
use Rattle.seq_model.specs.declared.calls.Reply.TheVariants as reply

-- the world of the render at a place
abbrev pub world_at : History → ℕ → Option ℕ
world_at history t =
    option_and_then object_in
    (option_and_then (λ o. value_named (codes "world") o.committed) (option_and_then (object_at (state_before history t)) (frame_at history t)))

-- the entry is a commit or an unmap that was done, of one of these objects
abbrev pub is_touching : List ℕ → Entry → Bool
is_touching objects (Called _ (Commit h) reply.Done) = has h objects
is_touching objects (Called _ (UnmapArray h _ _) reply.Done) = has h objects
is_touching objects _ = false

-- what a walk from world w visited at place p, w among them
abbrev pub reach_of_world : History → ℕ → ℕ → List ℕ
reach_of_world history p w = visited (walk (scene_objects (state_before history p)) w)

-- whether an entry between places p and t touched what a walk from world w visited at p
abbrev pub is_touched : History → ℕ → ℕ → ℕ → Bool
is_touched history w p t =
    list_any (λ q. nat_lt p q && option_map_or (is_touching (reach_of_world history p w)) (entry_at history q) false) (range_with_len 1 (t - 1))

-- the render at a place is one of world w
abbrev pub is_render_of : History → ℕ → ℕ → Bool
is_render_of history w t = option_map_or (λ v. v == w) (world_at history t) false

-- the latest render of world w before place t
abbrev pub last_render : History → ℕ → ℕ → Option ℕ
last_render history w t = last_or None (filter (is_render_of history w) (range_with_len 1 (t - 1)))

-- a render of world w at place t is a build where the world was not rendered before, or was touched since it was last
abbrev pub is_build_of : History → ℕ → ℕ → Bool
is_build_of history t w = option_map_or (λ p. is_touched history w p t) (last_render history w t) true

-- the number of builds
unfoldable pub builds : History → ℕ
builds history = count_by (λ t. option_map_or (is_build_of history t) (world_at history t) false) (range_with_len 1 (length history))
