-- The worked histories are legal, entry by entry.
use Rattle.std.proofs.Common.{ℕ, ◌≤◌, [], ◌≡◌, inl, refl, arith}
use Rattle.std.proofs.lemmas.List.Elements.{All-nil, All-cons}
use Rattle.fx_math.specs.Mat34.{axis_length, column, linear, placed, row, scaled_radius}
use Rattle.fx_math.specs.Root.{isqrt, root_at, root_or_next}
use Rattle.fx_math.specs.UnitVector.{halvings, halvings_within, long_length, normalized, shortened, unit}
use Rattle.fx_math.specs.Vec3.{add, cross, dot, neg, reach, scaled_down, sub, times, truncated}
use Rattle.picture_model.specs.Depths.{crossing, crossing_depth, distance_at, first_from, from_centre, is_crossed, is_in_ball, is_settled, sphere_depth, turned}
use Rattle.picture_model.specs.Hits.{hit_after, hits, is_lower, is_nearer, nearest}
use Rattle.picture_model.specs.Pictures.{part, picture, pixel, pixels_in}
use Rattle.picture_model.specs.Rays.{across, axes_of, camera_ray, in_window, offset}
use Rattle.picture_model.specs.Shading.{blend_hit, blended, color_of, cosine, facing, faded, finish_blend, incoming, irradiance_at, is_same_place, normal_of, point_at, radiance, shade, share_of, shown, to_byte, towards, unblended, weight}
use Rattle.picture_model.specs.Tiles.{tile_rect}
use Rattle.kind_tables.specs.Ranges.{broken_parameter}
use Rattle.kind_tables.specs.Scenes.{lights_of, primitives_of, scene, scene_by}
use Rattle.kind_tables.specs.Shapes.{shapes_of}
use Rattle.kind_tables.specs.WalkRefusals.{fault_of, first_incomplete, first_limit, first_mapped, first_out_of_range, walk_refusal}
use Rattle.kind_tables.specs.Walks.{below, walk, walk_from}
use Rattle.seq_model.specs.Answers.{IsAnswer, answer}
use Rattle.seq_model.specs.Properties.{bounds_of}
use Rattle.seq_model.specs.Builds.{builds}
use Rattle.seq_model.specs.Histories.{frame_at, mine, public}
use Rattle.seq_model.specs.Legal.{GoesOn, Legal}
use Rattle.seq_model.specs.Life.{grown, is_root, live, named}
use Rattle.seq_model.specs.Pictures.{has_channel, picture_at, scene_at, state_before, tiles_at}
use Rattle.seq_model.specs.Refusals.{refusal, refusals_of}
use Rattle.seq_model.specs.Steps.{after, change, discard, effect, end_flight, end_flights, is_reached, is_reached_by, step, swept, take_in, unmap_parameter, with_reach}
use Rattle.seq_model.specs.Told.{told, told_by, told_from}
use Rattle.seq_model.specs.Examples.{all_but_the_world, commit_during_a_flight, discarded, ended_after_release, half_back_then_all, last_holder, parameter_array_dies, released_in_flight, released_twice, render_while_mapped, set_is_not_commit, surfaces_lent, triangle_history, triangle_made}

-- all of them are legal
pub rows_are_legal : Legal triangle_history × Legal last_holder × Legal ended_after_release × Legal set_is_not_commit × Legal commit_during_a_flight × Legal render_while_mapped × Legal released_twice × Legal discarded × Legal parameter_array_dies
unfolding GoesOn IsAnswer answer Legal across add after all_but_the_world axes_of axis_length below blend_hit blended bounds_of broken_parameter builds camera_ray change color_of column commit_during_a_flight cosine cross crossing crossing_depth discard discarded distance_at dot effect end_flight end_flights ended_after_release facing faded fault_of finish_blend first_from first_incomplete first_limit first_mapped first_out_of_range frame_at from_centre grown halvings halvings_within has_channel hit_after hits in_window incoming irradiance_at is_crossed is_in_ball is_lower is_nearer is_reached is_reached_by is_root is_same_place is_settled isqrt last_holder lights_of linear live long_length mine named nearest neg normal_of normalized offset parameter_array_dies part picture picture_at pixel pixels_in placed point_at primitives_of public radiance reach refusal refusals_of released_in_flight released_twice render_while_mapped root_at root_or_next row scaled_down scaled_radius scene scene_at scene_by set_is_not_commit shade shapes_of share_of shortened shown sphere_depth state_before step sub swept take_in tile_rect tiles_at times to_byte told told_by told_from towards triangle_history triangle_made truncated turned unblended unit unmap_parameter walk walk_from walk_refusal weight with_reach
rows_are_legal = (
  (
    record { placed = (refl, refl); rising = tt },
    (
      record { placed = (refl, refl); rising = tt },
      (
        record { placed = (refl, refl); rising = tt },
        (
          record { placed = (refl, refl); rising = tt },
          (
            record { placed = (refl, refl); rising = tt },
            (
              record { placed = (refl, refl); rising = tt },
              (
                record { placed = (refl, refl); rising = tt },
                (
                  record { placed = (refl, refl); rising = tt },
                  (
                    record { placed = (refl, refl); rising = tt },
                    (
                      record { placed = (refl, refl); rising = tt },
                      (
                        record { placed = (refl, refl); rising = tt },
                        (
                          record { placed = (refl, refl); rising = tt },
                          (
                            record { placed = (refl, refl); rising = tt },
                            (
                              record { placed = (refl, refl); rising = tt },
                              (
                                record { placed = (refl, refl); rising = tt },
                                (
                                  record { placed = (refl, refl); rising = tt },
                                  (
                                    record { placed = (refl, refl); rising = tt },
                                    (
                                      record { placed = (refl, refl); rising = tt },
                                      (
                                        record { placed = (refl, refl); rising = tt },
                                        (
                                          record { placed = (refl, refl); rising = tt },
                                          (
                                            record { placed = (refl, refl); rising = tt },
                                            (
                                              record { placed = (refl, refl); rising = tt },
                                              (
                                                record { placed = (refl, refl); rising = tt },
                                                (
                                                  record { placed = (refl, refl); rising = tt },
                                                  (
                                                    record { placed = (refl, refl); rising = tt },
                                                    (
                                                      record { placed = (refl, refl); rising = tt },
                                                      (
                                                        record { placed = (refl, refl); rising = tt },
                                                        (
                                                          record { placed = (refl, refl); rising = tt },
                                                          (
                                                            record { placed = refl; rising = tt },
                                                            (
                                                              record { placed = (refl, refl); rising = tt },
                                                              (
                                                                record { placed = (refl, refl); rising = tt },
                                                                (record { placed = (refl, refl); rising = tt }, (record { placed = (refl, refl); rising = tt }, tt)),
                                                              ),
                                                            ),
                                                          ),
                                                        ),
                                                      ),
                                                    ),
                                                  ),
                                                ),
                                              ),
                                            ),
                                          ),
                                        ),
                                      ),
                                    ),
                                  ),
                                ),
                              ),
                            ),
                          ),
                        ),
                      ),
                    ),
                  ),
                ),
              ),
            ),
          ),
        ),
      ),
    ),
  ),
  (
    record { placed = (refl, refl); rising = tt },
    (
      record { placed = (refl, refl); rising = tt },
      (
        record { placed = (refl, refl); rising = tt },
        (
          record { placed = (refl, refl); rising = tt },
          (
            record { placed = (refl, refl); rising = tt },
            (
              record { placed = (refl, refl); rising = tt },
              (
                record { placed = (refl, refl); rising = tt },
                (
                  record { placed = (refl, refl); rising = tt },
                  (
                    record { placed = (refl, refl); rising = tt },
                    (
                      record { placed = (refl, refl); rising = tt },
                      (
                        record { placed = (refl, refl); rising = tt },
                        (
                          record { placed = (refl, refl); rising = tt },
                          (
                            record { placed = (refl, refl); rising = tt },
                            (
                              record { placed = (refl, refl); rising = tt },
                              (
                                record { placed = (refl, refl); rising = tt },
                                (
                                  record { placed = (refl, refl); rising = tt },
                                  (
                                    record { placed = (refl, refl); rising = tt },
                                    (
                                      record { placed = (refl, refl); rising = tt },
                                      (
                                        record { placed = (refl, refl); rising = tt },
                                        (
                                          record { placed = (refl, refl); rising = tt },
                                          (
                                            record { placed = (refl, refl); rising = tt },
                                            (
                                              record { placed = (refl, refl); rising = tt },
                                              (
                                                record { placed = (refl, refl); rising = tt },
                                                (
                                                  record { placed = (refl, refl); rising = tt },
                                                  (
                                                    record { placed = (refl, refl); rising = tt },
                                                    (
                                                      record { placed = (refl, refl); rising = tt },
                                                      (
                                                        record { placed = (refl, refl); rising = tt },
                                                        (
                                                          record { placed = (refl, refl); rising = tt },
                                                          (
                                                            record { placed = (refl, refl); rising = tt },
                                                            (
                                                              record { placed = (refl, refl); rising = tt },
                                                              (
                                                                record { placed = (refl, refl); rising = tt },
                                                                (
                                                                  record { placed = (refl, refl); rising = tt },
                                                                  (
                                                                    record { placed = (refl, refl); rising = tt },
                                                                    (
                                                                      record { placed = (refl, refl); rising = tt },
                                                                      (
                                                                        record { placed = (refl, refl); rising = tt },
                                                                        (record { placed = (refl, refl); rising = tt }, tt),
                                                                      ),
                                                                    ),
                                                                  ),
                                                                ),
                                                              ),
                                                            ),
                                                          ),
                                                        ),
                                                      ),
                                                    ),
                                                  ),
                                                ),
                                              ),
                                            ),
                                          ),
                                        ),
                                      ),
                                    ),
                                  ),
                                ),
                              ),
                            ),
                          ),
                        ),
                      ),
                    ),
                  ),
                ),
              ),
            ),
          ),
        ),
      ),
    ),
  ),
  (
    record { placed = (refl, refl); rising = tt },
    (
      record { placed = (refl, refl); rising = tt },
      (
        record { placed = (refl, refl); rising = tt },
        (
          record { placed = (refl, refl); rising = tt },
          (
            record { placed = (refl, refl); rising = tt },
            (
              record { placed = (refl, refl); rising = tt },
              (
                record { placed = (refl, refl); rising = tt },
                (
                  record { placed = (refl, refl); rising = tt },
                  (
                    record { placed = (refl, refl); rising = tt },
                    (
                      record { placed = (refl, refl); rising = tt },
                      (
                        record { placed = (refl, refl); rising = tt },
                        (
                          record { placed = (refl, refl); rising = tt },
                          (
                            record { placed = (refl, refl); rising = tt },
                            (
                              record { placed = (refl, refl); rising = tt },
                              (
                                record { placed = (refl, refl); rising = tt },
                                (
                                  record { placed = (refl, refl); rising = tt },
                                  (
                                    record { placed = (refl, refl); rising = tt },
                                    (
                                      record { placed = (refl, refl); rising = tt },
                                      (
                                        record { placed = (refl, refl); rising = tt },
                                        (
                                          record { placed = (refl, refl); rising = tt },
                                          (
                                            record { placed = (refl, refl); rising = tt },
                                            (
                                              record { placed = (refl, refl); rising = tt },
                                              (
                                                record { placed = (refl, refl); rising = tt },
                                                (
                                                  record { placed = (refl, refl); rising = tt },
                                                  (
                                                    record { placed = (refl, refl); rising = tt },
                                                    (
                                                      record { placed = (refl, refl); rising = tt },
                                                      (
                                                        record { placed = (refl, refl); rising = tt },
                                                        (
                                                          record { placed = (refl, refl); rising = tt },
                                                          (
                                                            record { placed = (refl, refl); rising = tt },
                                                            (
                                                              record { placed = (refl, refl); rising = tt },
                                                              (
                                                                record { placed = (refl, refl); rising = tt },
                                                                (
                                                                  record { placed = (refl, refl); rising = tt },
                                                                  (
                                                                    record { placed = (refl, refl); rising = tt },
                                                                    (
                                                                      record { placed = (refl, refl); rising = tt },
                                                                      (
                                                                        record { placed = (refl, refl); rising = tt },
                                                                        (
                                                                          record { placed = (refl, refl); rising = tt },
                                                                          (
                                                                            record { placed = (refl, refl); rising = tt },
                                                                            (
                                                                              record { placed = (refl, refl); rising = tt },
                                                                              (
                                                                                record { placed = refl; rising = tt },
                                                                                (record { placed = (refl, refl); rising = tt }, tt),
                                                                              ),
                                                                            ),
                                                                          ),
                                                                        ),
                                                                      ),
                                                                    ),
                                                                  ),
                                                                ),
                                                              ),
                                                            ),
                                                          ),
                                                        ),
                                                      ),
                                                    ),
                                                  ),
                                                ),
                                              ),
                                            ),
                                          ),
                                        ),
                                      ),
                                    ),
                                  ),
                                ),
                              ),
                            ),
                          ),
                        ),
                      ),
                    ),
                  ),
                ),
              ),
            ),
          ),
        ),
      ),
    ),
  ),
  (
    record { placed = (refl, refl); rising = tt },
    (
      record { placed = (refl, refl); rising = tt },
      (
        record { placed = (refl, refl); rising = tt },
        (
          record { placed = (refl, refl); rising = tt },
          (
            record { placed = (refl, refl); rising = tt },
            (
              record { placed = (refl, refl); rising = tt },
              (
                record { placed = (refl, refl); rising = tt },
                (
                  record { placed = (refl, refl); rising = tt },
                  (
                    record { placed = (refl, refl); rising = tt },
                    (
                      record { placed = (refl, refl); rising = tt },
                      (
                        record { placed = (refl, refl); rising = tt },
                        (
                          record { placed = (refl, refl); rising = tt },
                          (
                            record { placed = (refl, refl); rising = tt },
                            (
                              record { placed = (refl, refl); rising = tt },
                              (
                                record { placed = (refl, refl); rising = tt },
                                (
                                  record { placed = (refl, refl); rising = tt },
                                  (
                                    record { placed = (refl, refl); rising = tt },
                                    (
                                      record { placed = (refl, refl); rising = tt },
                                      (
                                        record { placed = (refl, refl); rising = tt },
                                        (
                                          record { placed = (refl, refl); rising = tt },
                                          (
                                            record { placed = (refl, refl); rising = tt },
                                            (
                                              record { placed = (refl, refl); rising = tt },
                                              (
                                                record { placed = (refl, refl); rising = tt },
                                                (
                                                  record { placed = (refl, refl); rising = tt },
                                                  (
                                                    record { placed = (refl, refl); rising = tt },
                                                    (
                                                      record { placed = (refl, refl); rising = tt },
                                                      (
                                                        record { placed = (refl, refl); rising = tt },
                                                        (
                                                          record { placed = (refl, refl); rising = tt },
                                                          (
                                                            record { placed = refl; rising = tt },
                                                            (
                                                              record { placed = (refl, refl); rising = tt },
                                                              (
                                                                record { placed = (refl, refl); rising = tt },
                                                                (
                                                                  record { placed = (refl, refl); rising = tt },
                                                                  (
                                                                    record { placed = (refl, refl); rising = tt },
                                                                    (
                                                                      record { placed = (refl, refl); rising = tt },
                                                                      (
                                                                        record { placed = refl; rising = tt },
                                                                        (
                                                                          record { placed = (refl, refl); rising = tt },
                                                                          (
                                                                            record { placed = (refl, refl); rising = tt },
                                                                            (
                                                                              record { placed = (refl, refl); rising = tt },
                                                                              (
                                                                                record { placed = (refl, refl); rising = tt },
                                                                                (
                                                                                  record { placed = refl; rising = tt },
                                                                                  (record { placed = (refl, refl); rising = tt }, tt),
                                                                                ),
                                                                              ),
                                                                            ),
                                                                          ),
                                                                        ),
                                                                      ),
                                                                    ),
                                                                  ),
                                                                ),
                                                              ),
                                                            ),
                                                          ),
                                                        ),
                                                      ),
                                                    ),
                                                  ),
                                                ),
                                              ),
                                            ),
                                          ),
                                        ),
                                      ),
                                    ),
                                  ),
                                ),
                              ),
                            ),
                          ),
                        ),
                      ),
                    ),
                  ),
                ),
              ),
            ),
          ),
        ),
      ),
    ),
  ),
  (
    record { placed = (refl, refl); rising = tt },
    (
      record { placed = (refl, refl); rising = tt },
      (
        record { placed = (refl, refl); rising = tt },
        (
          record { placed = (refl, refl); rising = tt },
          (
            record { placed = (refl, refl); rising = tt },
            (
              record { placed = (refl, refl); rising = tt },
              (
                record { placed = (refl, refl); rising = tt },
                (
                  record { placed = (refl, refl); rising = tt },
                  (
                    record { placed = (refl, refl); rising = tt },
                    (
                      record { placed = (refl, refl); rising = tt },
                      (
                        record { placed = (refl, refl); rising = tt },
                        (
                          record { placed = (refl, refl); rising = tt },
                          (
                            record { placed = (refl, refl); rising = tt },
                            (
                              record { placed = (refl, refl); rising = tt },
                              (
                                record { placed = (refl, refl); rising = tt },
                                (
                                  record { placed = (refl, refl); rising = tt },
                                  (
                                    record { placed = (refl, refl); rising = tt },
                                    (
                                      record { placed = (refl, refl); rising = tt },
                                      (
                                        record { placed = (refl, refl); rising = tt },
                                        (
                                          record { placed = (refl, refl); rising = tt },
                                          (
                                            record { placed = (refl, refl); rising = tt },
                                            (
                                              record { placed = (refl, refl); rising = tt },
                                              (
                                                record { placed = (refl, refl); rising = tt },
                                                (
                                                  record { placed = (refl, refl); rising = tt },
                                                  (
                                                    record { placed = (refl, refl); rising = tt },
                                                    (
                                                      record { placed = (refl, refl); rising = tt },
                                                      (
                                                        record { placed = (refl, refl); rising = tt },
                                                        (
                                                          record { placed = (refl, refl); rising = tt },
                                                          (
                                                            record { placed = (refl, refl); rising = tt },
                                                            (
                                                              record { placed = (refl, refl); rising = tt },
                                                              (
                                                                record { placed = refl; rising = tt },
                                                                (record { placed = (refl, refl); rising = tt }, tt),
                                                              ),
                                                            ),
                                                          ),
                                                        ),
                                                      ),
                                                    ),
                                                  ),
                                                ),
                                              ),
                                            ),
                                          ),
                                        ),
                                      ),
                                    ),
                                  ),
                                ),
                              ),
                            ),
                          ),
                        ),
                      ),
                    ),
                  ),
                ),
              ),
            ),
          ),
        ),
      ),
    ),
  ),
  (
    record { placed = (refl, refl); rising = tt },
    (
      record { placed = (refl, refl); rising = tt },
      (
        record { placed = (refl, refl); rising = tt },
        (
          record { placed = (refl, refl); rising = tt },
          (
            record { placed = (refl, refl); rising = tt },
            (
              record { placed = (refl, refl); rising = tt },
              (
                record { placed = (refl, refl); rising = tt },
                (
                  record { placed = (refl, refl); rising = tt },
                  (
                    record { placed = (refl, refl); rising = tt },
                    (
                      record { placed = (refl, refl); rising = tt },
                      (
                        record { placed = (refl, refl); rising = tt },
                        (
                          record { placed = (refl, refl); rising = tt },
                          (
                            record { placed = (refl, refl); rising = tt },
                            (
                              record { placed = (refl, refl); rising = tt },
                              (
                                record { placed = (refl, refl); rising = tt },
                                (
                                  record { placed = (refl, refl); rising = tt },
                                  (
                                    record { placed = (refl, refl); rising = tt },
                                    (
                                      record { placed = (refl, refl); rising = tt },
                                      (
                                        record { placed = (refl, refl); rising = tt },
                                        (
                                          record { placed = (refl, refl); rising = tt },
                                          (
                                            record { placed = (refl, refl); rising = tt },
                                            (
                                              record { placed = (refl, refl); rising = tt },
                                              (
                                                record { placed = (refl, refl); rising = tt },
                                                (
                                                  record { placed = (refl, refl); rising = tt },
                                                  (
                                                    record { placed = (refl, refl); rising = tt },
                                                    (
                                                      record { placed = (refl, refl); rising = tt },
                                                      (
                                                        record { placed = (refl, refl); rising = tt },
                                                        (
                                                          record { placed = (refl, refl); rising = tt },
                                                          (
                                                            record { placed = (refl, refl); rising = tt },
                                                            (
                                                              record { placed = (refl, refl); rising = tt },
                                                              (
                                                                record { placed = (refl, refl); rising = tt },
                                                                (record { placed = (refl, refl); rising = tt }, tt),
                                                              ),
                                                            ),
                                                          ),
                                                        ),
                                                      ),
                                                    ),
                                                  ),
                                                ),
                                              ),
                                            ),
                                          ),
                                        ),
                                      ),
                                    ),
                                  ),
                                ),
                              ),
                            ),
                          ),
                        ),
                      ),
                    ),
                  ),
                ),
              ),
            ),
          ),
        ),
      ),
    ),
  ),
  (
    record { placed = (refl, refl); rising = tt },
    (
      record { placed = (refl, refl); rising = tt },
      (
        record { placed = (refl, refl); rising = tt },
        (
          record { placed = (refl, refl); rising = tt },
          (
            record { placed = (refl, refl); rising = tt },
            (
              record { placed = (refl, refl); rising = tt },
              (
                record { placed = (refl, refl); rising = tt },
                (
                  record { placed = (refl, refl); rising = tt },
                  (
                    record { placed = (refl, refl); rising = tt },
                    (
                      record { placed = (refl, refl); rising = tt },
                      (
                        record { placed = (refl, refl); rising = tt },
                        (
                          record { placed = (refl, refl); rising = tt },
                          (
                            record { placed = (refl, refl); rising = tt },
                            (
                              record { placed = (refl, refl); rising = tt },
                              (
                                record { placed = (refl, refl); rising = tt },
                                (
                                  record { placed = (refl, refl); rising = tt },
                                  (
                                    record { placed = (refl, refl); rising = tt },
                                    (
                                      record { placed = (refl, refl); rising = tt },
                                      (
                                        record { placed = (refl, refl); rising = tt },
                                        (
                                          record { placed = (refl, refl); rising = tt },
                                          (
                                            record { placed = (refl, refl); rising = tt },
                                            (
                                              record { placed = (refl, refl); rising = tt },
                                              (
                                                record { placed = (refl, refl); rising = tt },
                                                (
                                                  record { placed = (refl, refl); rising = tt },
                                                  (
                                                    record { placed = (refl, refl); rising = tt },
                                                    (
                                                      record { placed = (refl, refl); rising = tt },
                                                      (
                                                        record { placed = (refl, refl); rising = tt },
                                                        (
                                                          record { placed = (refl, refl); rising = tt },
                                                          (
                                                            record { placed = (refl, refl); rising = tt },
                                                            (
                                                              record { placed = (refl, refl); rising = tt },
                                                              (
                                                                record { placed = (refl, refl); rising = tt },
                                                                (record { placed = (refl, refl); rising = tt }, (record { placed = (refl, refl); rising = tt }, tt)),
                                                              ),
                                                            ),
                                                          ),
                                                        ),
                                                      ),
                                                    ),
                                                  ),
                                                ),
                                              ),
                                            ),
                                          ),
                                        ),
                                      ),
                                    ),
                                  ),
                                ),
                              ),
                            ),
                          ),
                        ),
                      ),
                    ),
                  ),
                ),
              ),
            ),
          ),
        ),
      ),
    ),
  ),
  (
    record { placed = (refl, refl); rising = tt },
    (
      record { placed = (refl, refl); rising = tt },
      (
        record { placed = (refl, refl); rising = tt },
        (
          record { placed = (refl, refl); rising = tt },
          (
            record { placed = (refl, refl); rising = tt },
            (
              record { placed = (refl, refl); rising = tt },
              (
                record { placed = (refl, refl); rising = tt },
                (
                  record { placed = (refl, refl); rising = tt },
                  (
                    record { placed = (refl, refl); rising = tt },
                    (
                      record { placed = (refl, refl); rising = tt },
                      (
                        record { placed = (refl, refl); rising = tt },
                        (
                          record { placed = (refl, refl); rising = tt },
                          (
                            record { placed = (refl, refl); rising = tt },
                            (
                              record { placed = (refl, refl); rising = tt },
                              (
                                record { placed = (refl, refl); rising = tt },
                                (
                                  record { placed = (refl, refl); rising = tt },
                                  (
                                    record { placed = (refl, refl); rising = tt },
                                    (
                                      record { placed = (refl, refl); rising = tt },
                                      (
                                        record { placed = (refl, refl); rising = tt },
                                        (
                                          record { placed = (refl, refl); rising = tt },
                                          (
                                            record { placed = (refl, refl); rising = tt },
                                            (
                                              record { placed = (refl, refl); rising = tt },
                                              (
                                                record { placed = (refl, refl); rising = tt },
                                                (
                                                  record { placed = (refl, refl); rising = tt },
                                                  (
                                                    record { placed = (refl, refl); rising = tt },
                                                    (
                                                      record { placed = (refl, refl); rising = tt },
                                                      (
                                                        record { placed = (refl, refl); rising = tt },
                                                        (
                                                          record { placed = (refl, refl); rising = tt },
                                                          (
                                                            record { placed = (refl, refl); rising = tt },
                                                            (
                                                              record { placed = (refl, refl); rising = tt },
                                                              (
                                                                record { placed = ((1, omega arith, refl), refl); rising = All-nil (λ (earlier : ℕ × ℕ). earlier.0 ≡ 30 → earlier.1 ≤ 1) },
                                                                (
                                                                  record { placed = ((1, omega arith, refl), refl); rising = All-cons (λ (earlier : ℕ × ℕ). earlier.0 ≡ 30 → earlier.1 ≤ 1) (30, 1) [] (λ _. omega arith) (All-nil (λ (earlier : ℕ × ℕ). earlier.0 ≡ 30 → earlier.1 ≤ 1)) },
                                                                  (
                                                                    record { placed = (refl, refl); rising = tt },
                                                                    (
                                                                      record { placed = inl refl; rising = tt },
                                                                      (record { placed = (refl, refl); rising = tt }, tt),
                                                                    ),
                                                                  ),
                                                                ),
                                                              ),
                                                            ),
                                                          ),
                                                        ),
                                                      ),
                                                    ),
                                                  ),
                                                ),
                                              ),
                                            ),
                                          ),
                                        ),
                                      ),
                                    ),
                                  ),
                                ),
                              ),
                            ),
                          ),
                        ),
                      ),
                    ),
                  ),
                ),
              ),
            ),
          ),
        ),
      ),
    ),
  ),
  (
    record { placed = (refl, refl); rising = tt },
    (
      record { placed = (refl, refl); rising = tt },
      (
        record { placed = (refl, refl); rising = tt },
        (record { placed = (refl, refl); rising = tt }, (record { placed = (refl, refl); rising = tt }, tt)),
      ),
    ),
  ),
)

-- and so is what comes back in halves, and then whole
pub half_back_is_legal : Legal half_back_then_all
unfolding half_back_then_all surfaces_lent GoesOn IsAnswer answer Legal across add after all_but_the_world axes_of axis_length below blend_hit blended bounds_of broken_parameter builds camera_ray change color_of column commit_during_a_flight cosine cross crossing crossing_depth discard discarded distance_at dot effect end_flight end_flights ended_after_release facing faded fault_of finish_blend first_from first_incomplete first_limit first_mapped first_out_of_range frame_at from_centre grown halvings halvings_within has_channel hit_after hits in_window incoming irradiance_at is_crossed is_in_ball is_lower is_nearer is_reached is_reached_by is_root is_same_place is_settled isqrt last_holder lights_of linear live long_length mine named nearest neg normal_of normalized offset parameter_array_dies part picture picture_at pixel pixels_in placed point_at primitives_of public radiance reach refusal refusals_of released_in_flight released_twice render_while_mapped root_at root_or_next row scaled_down scaled_radius scene scene_at scene_by set_is_not_commit shade shapes_of share_of shortened shown sphere_depth state_before step sub swept take_in tile_rect tiles_at times to_byte told told_by told_from towards triangle_history triangle_made truncated turned unblended unit unmap_parameter walk walk_from walk_refusal weight with_reach
half_back_is_legal = (
  record { placed = (refl, refl); rising = tt },
  (
    record { placed = (refl, refl); rising = tt },
    (record { placed = (refl, refl); rising = tt }, (record { placed = (refl, refl); rising = tt }, tt)),
  ),
)
