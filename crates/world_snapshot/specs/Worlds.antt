-- What contracts see of a world that is prepared.
use Rattle.std.specs.Prelude.{◌≡◌, ◌≤◌, Bool, true, List, All, length}
use Rattle.fx_math.specs.declared.scene.LightRow.{LightRow}
use Rattle.fx_math.specs.declared.scene.Primitive.{Primitive}
use Rattle.bvh_build.specs.declared.trees.Node.{Node}
use Rattle.kind_tables.specs.SceneObjects.{SceneObjects}
use Rattle.kind_tables.specs.Scenes.{lights_of, primitives_of}
use Rattle.kind_tables.specs.Walks.{Visit}
use Rattle.picture_model.specs.Limits.{IsLightWithin, IsPrimitiveWithin, IsShapeWithin}
use Rattle.picture_model.specs.Shading.{placed}
use Rattle.ray_kernel.specs.Searches.{IsTreeFor}
use Rattle.world_snapshot.specs.Rising.{AreRising}

-- what a world shows, and its lights in the order of its walk
pub record World : Type 0 where
  pub primitives : List Primitive
  pub lights : List LightRow

-- all shapes keep to the limits
abbrev pub AreShapesWithin : List Primitive → Type 0
AreShapesWithin ps = All (λ p. IsShapeWithin p.shape) ps

-- the nodes of a tree over boxes that hold the shapes, where these keep to the limits
abbrev pub IsTreeOver : List Node → List Primitive → Type 0
IsTreeOver nodes ps = AreShapesWithin ps → IsTreeFor nodes (placed ps)

-- what is kept beside the primitives: their tree, and whether they lie in the order of their places
pub record IsIndexed (ps : List Primitive) (nodes : List Node) (in_order : Bool) : Type 0 where
  pub tree : IsTreeOver nodes ps
  pub rising : in_order ≡ true → AreRising ps (length ps)

-- what a world shows keeps to the limits of pictures
pub record IsWorldWithin (world : World) : Type 0 where
  pub primitives : All IsPrimitiveWithin world.primitives
  pub few : length world.lights ≤ 256
  pub lights : All IsLightWithin world.lights

-- the primitives and the lights of a walk
pub record IsShownBy (objects : SceneObjects) (visits : List Visit) (world : World) : Type 0 where
  pub primitives : world.primitives ≡ primitives_of objects visits
  pub lights : world.lights ≡ lights_of visits
