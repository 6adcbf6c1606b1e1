use Rattle.std.proofs.Common.{◌∙◌, arith}
use Rattle.picture_model.specs.declared.records.Plane.TheVariants.{Color, PrimitiveId, ObjectId, InstanceId}
use Rattle.world_snapshot.specs.Works.{scene_of_work}
use Rattle.tile_render.proofs.FilledLaws.{length-pixels, one_more}
use Rattle.tile_render.proofs.rows.row_of.Goals as goal

pub push_pixel-requires-clause-color : goal.push_pixel-requires-clause-color
push_pixel-requires-clause-color c =
    omega (arith, length-pixels (scene_of_work c.args.work.now) Color c.args.rect.now.x0 c.loop-i.i c.args.y c.loop-i.row.color.items c.loop-i.invariant.color, c.loop-i-test.true, c.requires.few)

pub push_pixel-requires-clause-primitive_id : goal.push_pixel-requires-clause-primitive_id
push_pixel-requires-clause-primitive_id c =
    omega (arith, length-pixels (scene_of_work c.args.work.now) PrimitiveId c.args.rect.now.x0 c.loop-i.i c.args.y c.loop-i.row.primitive_id.items c.loop-i.invariant.primitive_id, c.loop-i-test.true, c.requires.few)

pub push_pixel-requires-clause-object_id : goal.push_pixel-requires-clause-object_id
push_pixel-requires-clause-object_id c =
    omega (arith, length-pixels (scene_of_work c.args.work.now) ObjectId c.args.rect.now.x0 c.loop-i.i c.args.y c.loop-i.row.object_id.items c.loop-i.invariant.object_id, c.loop-i-test.true, c.requires.few)

pub push_pixel-requires-clause-instance_id : goal.push_pixel-requires-clause-instance_id
push_pixel-requires-clause-instance_id c =
    omega (arith, length-pixels (scene_of_work c.args.work.now) InstanceId c.args.rect.now.x0 c.loop-i.i c.args.y c.loop-i.row.instance_id.items c.loop-i.invariant.instance_id, c.loop-i-test.true, c.requires.few)

pub loop-i-preserved : goal.loop-i-preserved
loop-i-preserved c =
    let scene = scene_of_work c.args.work.now in
    let x0 = c.args.rect.now.x0 in
    let before = c.loop-i.invariant in
    let pushed = c.push_pixel.ensures in
    let shows = c.pixel_at.ensures in
    record {
      color = pushed.color ∙ one_more scene Color x0 c.loop-i.i c.args.y c.loop-i.row.color.items c.pixel_at.result.color before.color shows.color;
      primitive_id = pushed.primitive_id ∙ one_more scene PrimitiveId x0 c.loop-i.i c.args.y c.loop-i.row.primitive_id.items c.pixel_at.result.primitive_id before.primitive_id shows.primitive_id;
      object_id = pushed.object_id ∙ one_more scene ObjectId x0 c.loop-i.i c.args.y c.loop-i.row.object_id.items c.pixel_at.result.object_id before.object_id shows.object_id;
      instance_id = pushed.instance_id ∙ one_more scene InstanceId x0 c.loop-i.i c.args.y c.loop-i.row.instance_id.items c.pixel_at.result.instance_id before.instance_id shows.instance_id;
    }
