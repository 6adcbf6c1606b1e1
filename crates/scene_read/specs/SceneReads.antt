-- What the numbers of a scene keep to because they were read as values: each component of a vector has 32 bits, and a size has two sides.
use Rattle.std.specs.Prelude.{ℕ, ◌≡◌, ◌≤◌, ◌^◌, All, Option, Some, codes, length}
use Rattle.dev_types.specs.declared.values.Value.{Value}
use Rattle.dev_types.specs.declared.values.Value.TheVariants.{Uint32Vec2}
use Rattle.fx_math.specs.Vec3.{reach}
use Rattle.fx_math.specs.declared.scene.CameraRow.{CameraRow}
use Rattle.fx_math.specs.declared.scene.CameraRow.TheVariants.{Orthographic, Perspective}
use Rattle.fx_math.specs.declared.scene.LightRow.{LightRow}
use Rattle.fx_math.specs.declared.scene.LightRow.TheVariants.{Directional, Point}
use Rattle.fx_math.specs.declared.scene.Scene.{Scene}
use Rattle.fx_math.specs.declared.vectors.Vec3.{Vec3}
use Rattle.kind_tables.specs.SceneObjects.{SceneObjects, value_at}
use Rattle.scene_read.specs.Starts.{visited_object}

-- the directions of a camera, which no range test bounds
pub record AreReadDirections (direction up : Vec3) : Type 0 where
  pub ahead : reach direction ≤ 2 ^ 31
  pub upward : reach up ≤ 2 ^ 31

abbrev pub IsReadCamera : CameraRow → Type 0
IsReadCamera (Orthographic position direction up aspect height) = AreReadDirections direction up
IsReadCamera (Perspective position direction up aspect tangent) = AreReadDirections direction up

-- the direction of a light under a transform, which no range test bounds
abbrev pub IsReadLight : LightRow → Type 0
IsReadLight (Directional direction color irradiance) = reach direction ≤ 2 ^ 48
IsReadLight (Point position color intensity) = Unit {0}

-- a size has two sides
abbrev pub HasSides : Option Value → Type 0
HasSides (Some (Uint32Vec2 sides)) = length sides ≡ 2
HasSides _ = Unit {0}

-- the size of the frame with a handle, if it has one
abbrev pub size_of_frame : SceneObjects → ℕ → Option Value
size_of_frame objects f = value_at (visited_object objects f) (codes "size")

-- a scene as it is read of a frame with this size
pub record IsReadScene (size : Option Value) (scene : Scene) : Type 0 where
  pub sides : HasSides size
  pub camera : IsReadCamera scene.camera
  pub lights : All IsReadLight scene.lighting.lights
