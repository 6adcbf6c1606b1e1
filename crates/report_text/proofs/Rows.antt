-- What is printed of the triangle, computed.
use Rattle.std.proofs.Common.{◌≡◌, [], ◌∷◌, refl}
use Rattle.std.specs.Fmt.{digits}
use Rattle.std.specs.Prelude.{codes}
use Rattle.fx_math.specs.Mat34.{axis_length, column, linear, placed, row, scaled_radius}
use Rattle.fx_math.specs.Root.{isqrt, root_at, root_or_next}
use Rattle.fx_math.specs.UnitVector.{halvings, halvings_within, long_length, normalized, shortened, unit}
use Rattle.fx_math.specs.Vec3.{add, cross, dot, neg, reach, scaled_down, sub, times, truncated}
use Rattle.picture_model.specs.Depths.{crossing, crossing_depth, distance_at, first_from, from_centre, is_crossed, is_in_ball, is_settled, sphere_depth, turned}
use Rattle.picture_model.specs.Hits.{hit_after, hits, is_lower, is_nearer, nearest}
use Rattle.picture_model.specs.Pictures.{part, picture, pixel, pixels_in}
use Rattle.picture_model.specs.Rays.{across, axes_of, camera_ray, in_window, offset}
use Rattle.picture_model.specs.Shading.{blend_hit, blended, color_of, cosine, facing, faded, finish_blend, incoming, irradiance_at, is_same_place, normal_of, point_at, radiance, shade, share_of, shown, to_byte, towards, unblended, weight}
use Rattle.picture_model.specs.Tiles.{tile_rect}
use Rattle.kind_tables.specs.Ranges.{broken_parameter}
use Rattle.kind_tables.specs.Scenes.{lights_of, primitives_of, scene, scene_by}
use Rattle.kind_tables.specs.Shapes.{shapes_of}
use Rattle.kind_tables.specs.WalkRefusals.{fault_of, first_incomplete, first_limit, first_mapped, first_out_of_range, walk_refusal}
use Rattle.kind_tables.specs.Walks.{below, walk, walk_from}
use Rattle.seq_model.specs.Answers.{IsAnswer, answer}
use Rattle.seq_model.specs.Builds.{builds}
use Rattle.seq_model.specs.Contents.{cleaned, entered}
use Rattle.seq_model.specs.Histories.{frame_at, mine, public}
use Rattle.seq_model.specs.Legal.{GoesOn, Legal}
use Rattle.seq_model.specs.Life.{grown, is_root, live, named}
use Rattle.seq_model.specs.Pictures.{has_channel, picture_at, reached_at, scene_at, state_before, tiles_at}
use Rattle.seq_model.specs.Refusals.{refusal, refusals_of}
use Rattle.seq_model.specs.Room.{is_full}
use Rattle.seq_model.specs.Steps.{after, change, discard, effect, end_flight, end_flights, is_reached, is_reached_by, step, swept, take_in, unmap_parameter, with_reach}
use Rattle.seq_model.specs.Properties.{bounds_of}
use Rattle.seq_model.specs.Told.{told, told_by, told_from}
use Rattle.report_text.specs.Examples.{triangle_image}
use Rattle.report_text.specs.Reports.{lines_from, report}
use Rattle.report_text.specs.declared.prints.Print.TheVariants.{Images, Summary}
use Rattle.seq_model.specs.declared.calls.Call.TheVariants.{RenderFrame}
use Rattle.seq_model.specs.declared.calls.Entry.TheVariants.{Finished}
use Rattle.seq_model.specs.Examples.{done, triangle_history, triangle_made}

-- what is printed of it
pub triangle_reports :
    (report Images triangle_history 1 ≡ triangle_image) ×
    (report Summary triangle_history 1 ≡ codes "entries=33 images=1 deleted=2 builds=1\n") ×
    (lines_from 28 (done (RenderFrame 9) ∷ Finished 28 ∷ []) ≡ codes "28 0 render 9 -> done\n29 - finished 28 -> noted\n")
unfolding digits report GoesOn IsAnswer Legal across add after answer axes_of axis_length below blend_hit blended bounds_of broken_parameter builds camera_ray change cleaned color_of column cosine cross crossing crossing_depth discard distance_at dot effect end_flight end_flights entered facing faded fault_of finish_blend first_from first_incomplete first_limit first_mapped first_out_of_range frame_at from_centre grown halvings halvings_within has_channel hit_after hits in_window incoming irradiance_at is_crossed is_full is_in_ball is_lower is_nearer is_reached is_reached_by is_root is_same_place is_settled isqrt lights_of linear live long_length mine named nearest neg normal_of normalized offset part picture picture_at pixel pixels_in placed point_at primitives_of public radiance reach reached_at refusal refusals_of root_at root_or_next row scaled_down scaled_radius scene scene_at scene_by shade shapes_of share_of shortened shown sphere_depth state_before step sub swept take_in tile_rect tiles_at times to_byte told told_by told_from towards triangle_history triangle_made truncated turned unblended unit unmap_parameter walk walk_from walk_refusal weight with_reach
triangle_reports = (refl, refl, refl)
