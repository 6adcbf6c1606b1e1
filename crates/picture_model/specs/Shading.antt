-- The colour of a pixel: light from the lamps of the scene comes back from each surface that the ray meets (ANARI 1.0 Specification,
-- Light and Material), and the surfaces lie over each other from front to back by their opacity. Colours have 65536 for one.
use Rattle.std.specs.Prelude.{Option, Some, None, ℕ, List, [], ◌∷◌, fold, map, min, ◌+◌, ◌-◌, ◌*◌, ◌/◌, ◌^◌, ℤ, pos, ◌+ℤ◌, int_lt, int_le, unsigned_abs, Bool, ◌&&◌, ◌==◌, if◌then◌else◌, slice_index_or}
use Rattle.std.specs.List.{filter_map, find}
use Rattle.std.specs.Option.{option_map}
use Rattle.fx_math.specs.UnitVector.{unit}
use Rattle.fx_math.specs.Vec3.{add, cross, dot, neg, scaled_down, sub, times}
use Rattle.fx_math.specs.declared.vectors.Vec3.{Vec3}
use Rattle.fx_math.specs.declared.vectors.Ray.{Ray}
use Rattle.fx_math.specs.declared.scene.Place.{Place}
use Rattle.fx_math.specs.declared.scene.Shape.{Shape}
use Rattle.fx_math.specs.declared.scene.Shape.TheVariants.{Triangle, Sphere}
use Rattle.fx_math.specs.declared.scene.LightRow.{LightRow}
use Rattle.fx_math.specs.declared.scene.LightRow.TheVariants.{Directional, Point}
use Rattle.fx_math.specs.declared.scene.Lighting.{Lighting}
use Rattle.picture_model.specs.declared.records.Blend.{Blend}
use Rattle.picture_model.specs.declared.records.Hit.{Hit}
use Rattle.picture_model.specs.declared.records.HitRow.{HitRow}
use Rattle.fx_math.specs.declared.scene.Primitive.{Primitive}
use Rattle.picture_model.specs.Fixed.{◌/ℤ◌, product}
use Rattle.picture_model.specs.Hits.{hits}

-- component i of a colour: red, green, blue
abbrev pub component : List ℤ → ℕ → ℤ
component color i = slice_index_or color i (pos 0)

-- the point of the ray at a depth number
unfoldable pub point_at : Ray → ℕ → Vec3
point_at ray s = add ray.o (scaled_down (times ray.d (pos s)))

-- the unit normal of a shape at one of its points, on either of its sides
unfoldable pub normal_of : Shape → Vec3 → Vec3
normal_of (Triangle a b c) point = unit (cross (sub b a) (sub c a))
normal_of (Sphere centre radius) point = unit (sub point centre)

-- the same normal on the side that the ray comes from
unfoldable pub facing : Ray → Vec3 → Vec3
facing ray normal = if int_lt (pos 0) (dot normal ray.d) then neg normal else normal

-- the unit direction from a point to a light
unfoldable pub towards : LightRow → Vec3 → Vec3
towards (Directional direction color irradiance) point = unit (neg direction)
towards (Point position color intensity) point = unit (sub position point)

-- what a point light of this intensity shines with from this far: it falls with the square of the distance
unfoldable pub faded : ℤ → Vec3 → ℤ
faded intensity way =
    let squared = unsigned_abs (dot way way) in
    if squared == 0 then pos 0 else pos (min (unsigned_abs intensity * 2 ^ 32 / squared) (2 ^ 31 - 1))

-- how strongly a light shines at a point
unfoldable pub irradiance_at : LightRow → Vec3 → ℤ
irradiance_at (Directional direction color irradiance) point = irradiance
irradiance_at (Point position color intensity) point = faded intensity (sub position point)

-- the colour of a light
unfoldable pub color_of : LightRow → List ℤ
color_of (Directional direction color irradiance) = color
color_of (Point position color intensity) = color

-- the cosine of the angle between two unit directions, and 0 where they point apart
unfoldable pub cosine : Vec3 → Vec3 → ℤ
cosine normal direction = if int_le (dot normal direction) (pos 0) then pos 0 else dot normal direction /ℤ 65536

-- component i of the light of one lamp that a surface with this normal takes in at a point
unfoldable pub share_of : ℕ → Vec3 → Vec3 → LightRow → ℤ
share_of i normal point light =
    product (product (component (color_of light) i) (irradiance_at light point)) (cosine normal (towards light point))

-- component i of the light of some lamps
abbrev pub shares : ℕ → Vec3 → Vec3 → List LightRow → ℤ
shares i normal point [] = pos 0
shares i normal point (light ∷ lights) = share_of i normal point light +ℤ shares i normal point lights

-- component i of all light that such a surface takes in: what is everywhere, and that of all lamps
unfoldable pub incoming : ℕ → Lighting → Vec3 → Vec3 → ℤ
incoming i lighting normal point =
    product (component lighting.ambient_color i) lighting.ambient_radiance +ℤ shares i normal point lighting.lights

-- component i of the light that comes back from a hit
unfoldable pub radiance : ℕ → Lighting → Ray → HitRow → ℤ
radiance i lighting ray row =
    let point = point_at ray row.depth in
    product (component row.color i) (incoming i lighting (facing ray (normal_of row.shape point)) point)

-- before the first hit no light is gathered, and all that lies behind still shows
unfoldable pub unblended : Blend
unblended = record { sum = pos 0 ∷ pos 0 ∷ pos 0 ∷ []; rest = 65536 }

-- the share of what still shows that a surface of this opacity takes for itself
unfoldable pub weight : ℕ → ℤ → ℕ
weight rest opacity = rest * unsigned_abs opacity / 65536

-- component i of the light gathered with one more hit
unfoldable pub blended : ℕ → Lighting → Ray → Blend → HitRow → ℤ
blended i lighting ray b row = component b.sum i +ℤ product (radiance i lighting ray row) (pos (weight b.rest row.opacity))

-- the blend with one more hit behind those that it has
unfoldable pub blend_hit : Lighting → Ray → Blend → HitRow → Blend
blend_hit lighting ray b row = record {
  sum = blended 0 lighting ray b row ∷ blended 1 lighting ray b row ∷ blended 2 lighting ray b row ∷ [];
  rest = b.rest - weight b.rest row.opacity;
}

-- the same where a hit may have nothing to show
abbrev pub blend_any : Lighting → Ray → Blend → Option HitRow → Blend
blend_any lighting ray b None = b
blend_any lighting ray b (Some row) = blend_hit lighting ray b row

-- the byte of a colour component that is not negative: 255 from one on
unfoldable pub to_byte : ℤ → ℕ
to_byte radiance = min 255 ((unsigned_abs radiance * 255 + 32768) / 65536)

-- component i of what a pixel shows: the light gathered, and the background behind the last hit
unfoldable pub shown : ℕ → Lighting → Blend → ℤ
shown i lighting b = component b.sum i +ℤ product (component lighting.background i) (pos b.rest)

-- red, green, blue and alpha
unfoldable pub finish_blend : Lighting → Blend → List ℕ
finish_blend lighting b =
    to_byte (shown 0 lighting b) ∷ to_byte (shown 1 lighting b) ∷ to_byte (shown 2 lighting b) ∷ to_byte (pos (65536 - b.rest)) ∷ []

-- the same place
unfoldable pub is_same_place : Place → Place → Bool
is_same_place a b = a.inst == b.inst && a.surf == b.surf && a.prim == b.prim

-- the primitive at a place
abbrev pub primitive_at : List Primitive → Place → Option Primitive
primitive_at primitives place = find (λ p. is_same_place p.place place) primitives

-- what shading needs of a hit: its depth, and the primitive at its place
abbrev pub hit_row : List Primitive → Hit → Option HitRow
hit_row primitives h =
    option_map (λ p. record { depth = h.depth; shape = p.shape; color = p.color; opacity = p.opacity }) (primitive_at primitives h.place)

-- the places and shapes of primitives
abbrev pub placed : List Primitive → List (Place × Shape)
placed primitives = map (λ p. (p.place, p.shape)) primitives

-- what shading needs of all hits of a ray, from front to back
abbrev pub hit_rows : List Primitive → Ray → List HitRow
hit_rows primitives ray = filter_map (hit_row primitives) (hits ray (placed primitives))

-- the four colour bytes of what a ray shows
unfoldable pub shade : List Primitive → Lighting → Ray → List ℕ
shade primitives lighting ray = finish_blend lighting (fold (blend_hit lighting ray) unblended (hit_rows primitives ray))
