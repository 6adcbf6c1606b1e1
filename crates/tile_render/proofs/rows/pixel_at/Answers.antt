use Rattle.std.proofs.Common.{ap, ◌∙◌}
use Rattle.std.specs.Option.{option_map}
use Rattle.fx_math.specs.declared.vectors.Ray.{Ray}
use Rattle.picture_model.specs.Pictures.{front, id_bytes, pixel}
use Rattle.picture_model.specs.Rays.{camera_ray}
use Rattle.picture_model.specs.Shading.{shade}
use Rattle.tile_render.proofs.rows.pixel_at.Goals as goal

pub returns : goal.returns
unfolding pixel
returns c =
    let ps = c.args.work.now.prepared.primitives in
    let ray = c.ray.ensures.value ∙ (λ i. camera_ray (c.requires.camera i) (c.requires.width i) (c.requires.height i) c.args.x c.args.y) in
    let shows = c.pixel_of.ensures in
    record {
      color = shows.color ∙ ap (shade ps c.args.work.now.lighting) ray;
      primitive_id = shows.primitive_id ∙ ap (λ (r : Ray). id_bytes (option_map (λ p. p.place.prim) (front ps r))) ray;
      object_id = shows.object_id ∙ ap (λ (r : Ray). id_bytes (option_map (λ p. p.object_id) (front ps r))) ray;
      instance_id = shows.instance_id ∙ ap (λ (r : Ray). id_bytes (option_map (λ p. p.instance_id) (front ps r))) ray;
    }
