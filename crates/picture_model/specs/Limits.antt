-- What a scene keeps to, so that each number of the picture has a bound. Coordinates, directions and radii count 1/65536.
use Rattle.std.specs.Prelude.{ℕ, ◌+◌, ◌*◌, ◌^◌, ◌≤◌, List, length, All, ℤ, pos, ◌≤ℤ◌, unsigned_abs}
use Rattle.fx_math.specs.Vec3.{reach}
use Rattle.fx_math.specs.declared.vectors.Vec3.{Vec3}
use Rattle.fx_math.specs.declared.vectors.Ray.{Ray}
use Rattle.fx_math.specs.declared.scene.Shape.{Shape}
use Rattle.fx_math.specs.declared.scene.Shape.TheVariants.{Triangle, Sphere}
use Rattle.fx_math.specs.declared.scene.CameraRow.{CameraRow}
use Rattle.fx_math.specs.declared.scene.CameraRow.TheVariants.{Orthographic, Perspective}
use Rattle.fx_math.specs.declared.scene.LightRow.{LightRow}
use Rattle.fx_math.specs.declared.scene.LightRow.TheVariants.{Directional, Point}
use Rattle.fx_math.specs.declared.scene.Lighting.{Lighting}
use Rattle.picture_model.specs.declared.depths.Crossing.{Crossing}
use Rattle.picture_model.specs.declared.rays.Axes.{Axes}
use Rattle.picture_model.specs.declared.records.Blend.{Blend}
use Rattle.picture_model.specs.declared.records.HitRow.{HitRow}
use Rattle.fx_math.specs.declared.scene.Primitive.{Primitive}
use Rattle.picture_model.specs.Shading.{component}
use Rattle.fx_math.specs.declared.scene.Scene.{Scene}

-- low ≤ z ≤ high
pub record IsBetween (low high : ℕ) (z : ℤ) : Type 0 where
  pub from : pos low ≤ℤ z
  pub to : z ≤ℤ pos high

-- no component of a colour is negative
abbrev pub IsColor : List ℤ → Type 0
IsColor color = All (λ c. pos 0 ≤ℤ c) color

-- a place in the world: no component leaves -2^28 to 2^28
abbrev pub IsPoint : Vec3 → Type 0
IsPoint point = reach point ≤ 2 ^ 28

pub record IsTriangleWithin (a b c : Vec3) : Type 0 where
  pub first : IsPoint a
  pub second : IsPoint b
  pub third : IsPoint c

pub record IsSphereWithin (centre : Vec3) (radius : ℤ) : Type 0 where
  pub middle : IsPoint centre
  pub size : IsBetween 0 (2 ^ 28) radius

abbrev pub IsShapeWithin : Shape → Type 0
IsShapeWithin (Triangle a b c) = IsTriangleWithin a b c
IsShapeWithin (Sphere centre radius) = IsSphereWithin centre radius

-- a ray as cameras make it
pub record IsRayWithin (ray : Ray) : Type 0 where
  pub origin : reach ray.o ≤ 2 ^ 30
  pub direction : reach ray.d ≤ 2 ^ 25

-- the axes of a camera
pub record AreAxesWithin (axes : Axes) : Type 0 where
  pub forward : reach axes.forward ≤ 65536
  pub right : reach axes.right ≤ 65536
  pub up : reach axes.up ≤ 65536

-- position, direction and up of a camera, its aspect, and its height or tangent with the greatest that this may be
pub record IsViewWithin (position direction up : Vec3) (aspect extent : ℤ) (most : ℕ) : Type 0 where
  pub place : IsPoint position
  pub ahead : reach direction ≤ 2 ^ 31
  pub upward : reach up ≤ 2 ^ 31
  pub ratio : IsBetween 1 (2 ^ 20) aspect
  pub opening : IsBetween 1 most extent

abbrev pub IsCameraWithin : CameraRow → Type 0
IsCameraWithin (Orthographic position direction up aspect height) = IsViewWithin position direction up aspect height (2 ^ 26)
IsCameraWithin (Perspective position direction up aspect tangent) = IsViewWithin position direction up aspect tangent (2 ^ 20)

-- a light from `origin` (or along it), which reaches no farther than `most`
pub record IsLampWithin (origin : Vec3) (most : ℕ) (color : List ℤ) (strength : ℤ) : Type 0 where
  pub near : reach origin ≤ most
  pub colored : IsColor color
  pub shining : pos 0 ≤ℤ strength

abbrev pub IsLightWithin : LightRow → Type 0
IsLightWithin (Directional direction color irradiance) = IsLampWithin direction (2 ^ 48) color irradiance
IsLightWithin (Point position color intensity) = IsLampWithin position (2 ^ 28) color intensity

pub record IsLightingWithin (lighting : Lighting) : Type 0 where
  pub few : length lighting.lights ≤ 256
  pub lights : All IsLightWithin lighting.lights
  pub background : IsColor lighting.background
  pub ambient_color : IsColor lighting.ambient_color
  pub ambient_radiance : pos 0 ≤ℤ lighting.ambient_radiance

pub record IsPrimitiveWithin (primitive : Primitive) : Type 0 where
  pub shape : IsShapeWithin primitive.shape
  pub color : IsColor primitive.color
  pub opacity : IsBetween 0 65536 primitive.opacity

-- a hit within the limits, as shading sees it
pub record IsHitRowWithin (row : HitRow) : Type 0 where
  pub depth : row.depth ≤ 2 ^ 32
  pub shape : IsShapeWithin row.shape
  pub color : IsColor row.color
  pub opacity : IsBetween 0 65536 row.opacity

-- light gathered by hits that let `rest` of 65536 through: each took its share of at most 2^72
pub record IsSumWithin (sum : ℤ) (rest : ℕ) : Type 0 where
  pub sign : pos 0 ≤ℤ sum
  pub size : 65536 * unsigned_abs sum + 2 ^ 72 * rest ≤ 2 ^ 88

-- a blend of hits within the limits
pub record IsBlendWithin (b : Blend) : Type 0 where
  pub red : IsSumWithin (component b.sum 0) b.rest
  pub green : IsSumWithin (component b.sum 1) b.rest
  pub blue : IsSumWithin (component b.sum 2) b.rest
  pub rest : b.rest ≤ 65536

-- the width or the height of a frame
pub record IsSide (n : ℕ) : Type 0 where
  pub least : 1 ≤ n
  pub most : n ≤ 4096

-- a scene within the limits
pub record IsSceneWithin (scene : Scene) : Type 0 where
  pub primitives : All IsPrimitiveWithin scene.primitives
  pub camera : IsCameraWithin scene.camera
  pub lighting : IsLightingWithin scene.lighting
  pub width : IsSide scene.width
  pub height : IsSide scene.height

-- the fractions of a triangle within the limits
pub record IsCrossingWithin (c : Crossing) : Type 0 where
  pub det : unsigned_abs c.det ≤ 2 ^ 96
  pub t : unsigned_abs c.t ≤ 2 ^ 96
  pub p : unsigned_abs c.p ≤ 2 ^ 96
  pub q : unsigned_abs c.q ≤ 2 ^ 96
