-- What objects tell of themselves, and why they do not (ANARI 1.0 Specification, object properties).
use Rattle.std.specs.Prelude.{ℕ, ℤ, pos, negsuc, ◌-ℤ◌, ◌+ℤ◌, Bool, not, List, [], ◌∷◌, Option, Some, codes, fold, map, if◌then◌else◌}
use Rattle.std.specs.Bool.{then_some}
use Rattle.std.specs.Int.{int_max, int_min}
use Rattle.std.specs.List.{flat_map}
use Rattle.std.specs.Str.{bytes_eq}
use Rattle.dev_types.specs.declared.refusals.Refused.{Refused}
use Rattle.dev_types.specs.declared.refusals.Refused.TheVariants.{NoSuchName}
use Rattle.dev_types.specs.declared.values.Value.{Value}
use Rattle.dev_types.specs.declared.values.Value.TheVariants as value
use Rattle.fx_math.specs.declared.scene.Primitive.{Primitive}
use Rattle.fx_math.specs.declared.scene.Shape.{Shape}
use Rattle.fx_math.specs.declared.scene.Shape.TheVariants.{Triangle, Sphere}
use Rattle.fx_math.specs.declared.vectors.Vec3.{Vec3}
use Rattle.kind_tables.specs.SceneObjects.{SceneObjects}
use Rattle.kind_tables.specs.Scenes.{primitives_of}
use Rattle.kind_tables.specs.WalkRefusals.{walk_refusal}
use Rattle.kind_tables.specs.Walks.{walk}
use Rattle.kind_tables.specs.declared.kinds.Kind.{Kind}
use Rattle.kind_tables.specs.declared.kinds.Kind.TheVariants.{FrameDefault, WorldDefault}

-- the corners of the box of a shape
abbrev pub ends_of : Shape → List Vec3
ends_of (Triangle a b c) = a ∷ b ∷ c ∷ []
ends_of (Sphere centre radius) =
    record { x = centre.x -ℤ radius; y = centre.y -ℤ radius; z = centre.z -ℤ radius } ∷
    record { x = centre.x +ℤ radius; y = centre.y +ℤ radius; z = centre.z +ℤ radius } ∷ []

-- the least and the greatest of some numbers, beside those that stand for none
abbrev pub least_of : List ℤ → ℤ
least_of zs = fold int_min (pos 2147483647) zs

abbrev pub greatest_of : List ℤ → ℤ
greatest_of zs = fold int_max (negsuc 2147483647) zs

-- the box of some points: three lower, then three upper numbers
abbrev pub box_of : List Vec3 → List ℤ
box_of points =
    least_of (map (λ p. p.x) points) ∷ least_of (map (λ p. p.y) points) ∷ least_of (map (λ p. p.z) points) ∷
    greatest_of (map (λ p. p.x) points) ∷ greatest_of (map (λ p. p.y) points) ∷ greatest_of (map (λ p. p.z) points) ∷ []

-- the box of all primitives
unfoldable pub bounds_of : List Primitive → List ℤ
bounds_of primitives = box_of (flat_map (λ p. ends_of p.shape) primitives)

-- why an object of a kind does not tell a property: the bounds of a world want a walk that is not refused, a frame
-- tells its progress, and there is no other property
abbrev pub refusal_of_property : SceneObjects → ℕ → Kind → List ℕ → Option Refused
refusal_of_property objects h WorldDefault name =
    if bytes_eq name (codes "bounds") then walk_refusal objects (walk objects h) else Some NoSuchName
refusal_of_property objects h FrameDefault name = then_some (not (bytes_eq name (codes "renderProgress"))) NoSuchName
refusal_of_property objects h _ name = Some NoSuchName

-- the device tells its version alone
abbrev pub refusal_of_version : List ℕ → Option Refused
refusal_of_version name = then_some (not (bytes_eq name (codes "version"))) NoSuchName

-- the property of an object of a kind: the bounds of a world, or the progress of a frame, which is 65536 where it is done
abbrev pub property_by : SceneObjects → ℕ → Bool → Kind → Value
property_by objects h done WorldDefault = value.ScalarBox3 (bounds_of (primitives_of objects (walk objects h)))
property_by objects h done _ = value.Scalar (if done then pos 65536 else pos 0)

-- the version of the device
abbrev pub version : Value
version = value.Int32 (pos 1)
