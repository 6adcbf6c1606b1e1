-- What a frame adds to the world that it shows.
use Rattle.fx_math.specs.declared.scene.Scene.{Scene}
use Rattle.world_snapshot.specs.Worlds.{World}
use Rattle.world_snapshot.specs.declared.views.View.{View}

-- a prepared world as a frame shows it
abbrev pub scene_shown : World → View → Scene
scene_shown world view = record {
  primitives = world.primitives;
  camera = view.camera;
  lighting = view.lighting;
  width = view.size.0;
  height = view.size.1;
}
