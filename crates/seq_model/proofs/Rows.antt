-- What the worked histories tell, build, and refuse, computed.
use Rattle.dev_types.specs.declared.refusals.Refused.{Refused}
use Rattle.seq_model.specs.declared.calls.Call.{Call}
use Rattle.seq_model.specs.declared.calls.Call.TheVariants.{MapArray, Retain, UnmapArray}
use Rattle.std.proofs.Common.{true, false, Option, map, [], ◌∷◌, ◌++◌, ◌≡◌, refl}
use Rattle.dev_types.specs.declared.notices.Notice.TheVariants.{Deleted, Told}
use Rattle.dev_types.specs.declared.refusals.Severity.TheVariants.{Error}
use Rattle.dev_types.specs.declared.refusals.Code.TheVariants.{InvalidArgument}
use Rattle.fx_math.specs.Mat34.{axis_length, column, linear, placed, row, scaled_radius}
use Rattle.fx_math.specs.Root.{isqrt, root_at, root_or_next}
use Rattle.fx_math.specs.UnitVector.{halvings, halvings_within, long_length, normalized, shortened, unit}
use Rattle.fx_math.specs.Vec3.{add, cross, dot, neg, reach, scaled_down, sub, times, truncated}
use Rattle.picture_model.specs.Depths.{crossing, crossing_depth, distance_at, first_from, from_centre, is_crossed, is_in_ball, is_settled, sphere_depth, turned}
use Rattle.picture_model.specs.Hits.{hit_after, hits, is_lower, is_nearer, nearest}
use Rattle.picture_model.specs.Pictures.{part, picture, pixel, pixels_in}
use Rattle.picture_model.specs.Rays.{across, axes_of, camera_ray, in_window, offset}
use Rattle.picture_model.specs.Shading.{blend_hit, blended, color_of, cosine, facing, faded, finish_blend, incoming, irradiance_at, is_same_place, normal_of, point_at, radiance, shade, share_of, shown, to_byte, towards, unblended, weight}
use Rattle.picture_model.specs.Tiles.{tile_rect}
use Rattle.kind_tables.specs.Ranges.{broken_parameter}
use Rattle.kind_tables.specs.Scenes.{lights_of, primitives_of, scene, scene_by}
use Rattle.kind_tables.specs.Shapes.{shapes_of}
use Rattle.kind_tables.specs.WalkRefusals.{fault_of, first_incomplete, first_limit, first_mapped, first_out_of_range, walk_refusal}
use Rattle.kind_tables.specs.Walks.{below, walk, walk_from}
use Rattle.seq_model.specs.Answers.{IsAnswer, answer}
use Rattle.seq_model.specs.Properties.{bounds_of}
use Rattle.seq_model.specs.Builds.{builds}
use Rattle.seq_model.specs.Histories.{frame_at, mine, public}
use Rattle.seq_model.specs.Legal.{GoesOn, Legal}
use Rattle.seq_model.specs.Life.{grown, is_root, live, named}
use Rattle.seq_model.specs.Pictures.{has_channel, picture_at, scene_at, state_before, tiles_at}
use Rattle.seq_model.specs.Refusals.{refusal, refusals_of}
use Rattle.seq_model.specs.Room.{is_full}
use Rattle.seq_model.specs.Steps.{after, change, discard, effect, end_flight, end_flights, is_reached, is_reached_by, step, swept, take_in, unmap_parameter, with_reach, zeros}
use Rattle.seq_model.specs.Told.{told, told_by, told_from}
use Rattle.seq_model.specs.Contents.{cleaned, entered}
use Rattle.seq_model.specs.Examples.{asked_then, one_and_a_half, surface_bytes, surfaces_lent, triangle_bytes, all_but_the_world, commit_during_a_flight, discarded, ended_after_release, last_holder, parameter_array_dies, released_in_flight, released_twice, render_while_mapped, set_is_not_commit, three_made, triangle_history, triangle_made}

-- what each of them tells
pub rows_tell :
    (told triangle_history ≡ Deleted 1 7 triangle_bytes ∷ Deleted 5 8 surface_bytes ∷ []) ×
    (told all_but_the_world ≡ []) ×
    (told last_holder ≡ Deleted 1 7 triangle_bytes ∷ Deleted 5 8 surface_bytes ∷ []) ×
    (told released_in_flight ≡ []) ×
    (told ended_after_release ≡ Deleted 1 7 triangle_bytes ∷ Deleted 5 8 surface_bytes ∷ []) ×
    (told parameter_array_dies ≡ Told (record { severity = Error; code = InvalidArgument; source = 1; refusal = 2 }) ∷ [])
unfolding GoesOn IsAnswer answer Legal across add after all_but_the_world axes_of axis_length below blend_hit blended bounds_of broken_parameter builds camera_ray change color_of column commit_during_a_flight cosine cross crossing crossing_depth discard discarded distance_at dot effect end_flight end_flights ended_after_release facing faded fault_of finish_blend first_from first_incomplete first_limit first_mapped first_out_of_range frame_at from_centre grown halvings halvings_within has_channel hit_after hits in_window incoming irradiance_at is_crossed is_in_ball is_lower is_nearer is_reached is_reached_by is_root is_same_place is_settled isqrt last_holder lights_of linear live long_length mine named nearest neg normal_of normalized offset parameter_array_dies part picture picture_at pixel pixels_in placed point_at primitives_of public radiance reach refusal refusals_of released_in_flight released_twice render_while_mapped root_at root_or_next row scaled_down scaled_radius scene scene_at scene_by set_is_not_commit shade shapes_of share_of shortened shown sphere_depth state_before step sub swept take_in tile_rect tiles_at times to_byte told told_by told_from towards triangle_history triangle_made truncated turned unblended unit unmap_parameter walk walk_from walk_refusal weight with_reach
rows_tell = (refl, refl, refl, refl, refl, refl)

-- how many worlds each of them prepares
pub rows_build : (builds triangle_history ≡ 1) × (builds set_is_not_commit ≡ 2) × (builds commit_during_a_flight ≡ 1)
unfolding GoesOn IsAnswer answer Legal across add after all_but_the_world axes_of axis_length below blend_hit blended bounds_of broken_parameter builds camera_ray change color_of column commit_during_a_flight cosine cross crossing crossing_depth discard discarded distance_at dot effect end_flight end_flights ended_after_release facing faded fault_of finish_blend first_from first_incomplete first_limit first_mapped first_out_of_range frame_at from_centre grown halvings halvings_within has_channel hit_after hits in_window incoming irradiance_at is_crossed is_in_ball is_lower is_nearer is_reached is_reached_by is_root is_same_place is_settled isqrt last_holder lights_of linear live long_length mine named nearest neg normal_of normalized offset parameter_array_dies part picture picture_at pixel pixels_in placed point_at primitives_of public radiance reach refusal refusals_of released_in_flight released_twice render_while_mapped root_at root_or_next row scaled_down scaled_radius scene scene_at scene_by set_is_not_commit shade shapes_of share_of shortened shown sphere_depth state_before step sub swept take_in tile_rect tiles_at times to_byte told told_by told_from towards triangle_history triangle_made truncated turned unblended unit unmap_parameter walk walk_from walk_refusal weight with_reach
rows_build = (refl, refl, refl)

-- a journal of four entries has room for three creations and the close
pub rows_fill : (is_full 4 (after three_made) (Retain 1) ≡ true) × (is_full 5 (after three_made) (Retain 1) ≡ false) × (is_full 5 (after three_made) (MapArray 1) ≡ true)
unfolding is_full three_made GoesOn IsAnswer answer Legal across add after all_but_the_world axes_of axis_length below blend_hit blended bounds_of broken_parameter builds camera_ray change color_of column commit_during_a_flight cosine cross crossing crossing_depth discard discarded distance_at dot effect end_flight end_flights ended_after_release facing faded fault_of finish_blend first_from first_incomplete first_limit first_mapped first_out_of_range frame_at from_centre grown halvings halvings_within has_channel hit_after hits in_window incoming irradiance_at is_crossed is_in_ball is_lower is_nearer is_reached is_reached_by is_root is_same_place is_settled isqrt last_holder lights_of linear live long_length mine named nearest neg normal_of normalized offset parameter_array_dies part picture picture_at pixel pixels_in placed point_at primitives_of public radiance reach refusal refusals_of released_in_flight released_twice render_while_mapped root_at root_or_next row scaled_down scaled_radius scene scene_at scene_by set_is_not_commit shade shapes_of share_of shortened shown sphere_depth state_before step sub swept take_in tile_rect tiles_at times to_byte told told_by told_from towards triangle_history triangle_made truncated turned unblended unit unmap_parameter walk walk_from walk_refusal weight with_reach
rows_fill = (refl, refl, refl)

-- what is refused after the triangle was made, and what is not
pub rows_refuse : map (λ (row : Call × Option Refused). refusal (after triangle_made) row.0) asked_then ≡ map (λ (row : Call × Option Refused). row.1) asked_then
unfolding asked_then GoesOn IsAnswer answer Legal across add after all_but_the_world axes_of axis_length below blend_hit blended bounds_of broken_parameter builds camera_ray change color_of column commit_during_a_flight cosine cross crossing crossing_depth discard discarded distance_at dot effect end_flight end_flights ended_after_release facing faded fault_of finish_blend first_from first_incomplete first_limit first_mapped first_out_of_range frame_at from_centre grown halvings halvings_within has_channel hit_after hits in_window incoming irradiance_at is_crossed is_in_ball is_lower is_nearer is_reached is_reached_by is_root is_same_place is_settled isqrt last_holder lights_of linear live long_length mine named nearest neg normal_of normalized offset parameter_array_dies part picture picture_at pixel pixels_in placed point_at primitives_of public radiance reach refusal refusals_of released_in_flight released_twice render_while_mapped root_at root_or_next row scaled_down scaled_radius scene scene_at scene_by set_is_not_commit shade shapes_of share_of shortened shown sphere_depth state_before step sub swept take_in tile_rect tiles_at times to_byte told told_by told_from towards triangle_history triangle_made truncated turned unblended unit unmap_parameter walk walk_from walk_refusal weight with_reach
rows_refuse = refl

-- what comes back from a loan: as it was handed in, where its length is another, and else cleaned
pub rows_come_back :
    (entered (after surfaces_lent) (UnmapArray 1 2 one_and_a_half) ≡ UnmapArray 1 2 one_and_a_half) ×
    (entered (after surfaces_lent) (UnmapArray 1 2 (one_and_a_half ++ zeros 4)) ≡ UnmapArray 1 2 (zeros 16))
unfolding surfaces_lent cleaned entered IsAnswer answer across add after all_but_the_world axes_of axis_length below blend_hit blended bounds_of broken_parameter builds camera_ray change color_of column commit_during_a_flight cosine cross crossing crossing_depth discard discarded distance_at dot effect end_flight end_flights ended_after_release facing faded fault_of finish_blend first_from first_incomplete first_limit first_mapped first_out_of_range frame_at from_centre grown halvings halvings_within has_channel hit_after hits in_window incoming irradiance_at is_crossed is_in_ball is_lower is_nearer is_reached is_reached_by is_root is_same_place is_settled isqrt last_holder lights_of linear live long_length mine named nearest neg normal_of normalized offset parameter_array_dies part picture picture_at pixel pixels_in placed point_at primitives_of public radiance reach refusal refusals_of released_in_flight released_twice render_while_mapped root_at root_or_next row scaled_down scaled_radius scene scene_at scene_by set_is_not_commit shade shapes_of share_of shortened shown sphere_depth state_before step sub swept take_in tile_rect tiles_at times to_byte told told_by told_from towards triangle_history triangle_made truncated turned unblended unit unmap_parameter walk walk_from walk_refusal weight with_reach
rows_come_back = (refl, refl)
