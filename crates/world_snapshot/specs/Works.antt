-- What contracts see of the work of a flight.
use Rattle.fx_math.specs.declared.scene.Scene.{Scene}
use Rattle.world_snapshot.specs.declared.works.Work.{Work}

-- the scene that a flight's work is about
abbrev pub scene_of_work : Work → Scene
scene_of_work work = record {
  primitives = work.prepared.primitives;
  camera = work.camera;
  lighting = work.lighting;
  width = work.size.0;
  height = work.size.1;
}
