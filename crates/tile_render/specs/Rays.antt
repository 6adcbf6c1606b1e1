-- What a ray shows in the four channels.
use Rattle.std.specs.Prelude.{◌≡◌, List}
use Rattle.std.specs.Option.{option_map}
use Rattle.fx_math.specs.declared.scene.Lighting.{Lighting}
use Rattle.fx_math.specs.declared.scene.Primitive.{Primitive}
use Rattle.fx_math.specs.declared.vectors.Ray.{Ray}
use Rattle.picture_model.specs.Pictures.{front, id_bytes}
use Rattle.picture_model.specs.Shading.{shade}
use Rattle.tile_render.specs.declared.pixels.Pixel.{Pixel}

-- the pixel is what the ray shows: its colour, and the ids of the front primitive
pub record Shows (ps : List Primitive) (lighting : Lighting) (ray : Ray) (p : Pixel) : Type 0 where
  pub color : p.color ≡ shade ps lighting ray
  pub primitive_id : p.primitive_id ≡ id_bytes (option_map (λ p. p.place.prim) (front ps ray))
  pub object_id : p.object_id ≡ id_bytes (option_map (λ p. p.object_id) (front ps ray))
  pub instance_id : p.instance_id ≡ id_bytes (option_map (λ p. p.instance_id) (front ps ray))
