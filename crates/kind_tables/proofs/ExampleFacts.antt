-- The computed walks and rows.
use Rattle.std.proofs.Common.{◌≡◌, [], ◌∷◌, None, pos, refl}
use Rattle.fx_math.specs.Mat34.{axis_length, column, linear, placed, row, scaled_radius}
use Rattle.fx_math.specs.Root.{isqrt, root_at, root_or_next}
use Rattle.fx_math.specs.UnitVector.{halvings, halvings_within, long_length, normalized, shortened, unit}
use Rattle.fx_math.specs.Vec3.{add, cross, dot, reach, scaled_down, times, truncated}
use Rattle.fx_math.specs.declared.scene.Shape.TheVariants.{Sphere}
use Rattle.kind_tables.specs.Examples.{sphere_objects, triangle_objects}
use Rattle.kind_tables.specs.Ranges.{broken_parameter}
use Rattle.kind_tables.specs.Scenes.{lights_of, primitives_of}
use Rattle.kind_tables.specs.WalkRefusals.{fault_of, first_incomplete, first_limit, first_mapped, first_out_of_range, walk_refusal}
use Rattle.kind_tables.specs.Shapes.{shapes_of}
use Rattle.kind_tables.specs.Walks.{below, visited, walk, walk_from}

pub frame_walk : visited (walk triangle_objects 9) ≡ 9 ∷ 6 ∷ 5 ∷ 4 ∷ 2 ∷ 1 ∷ 3 ∷ 7 ∷ 8 ∷ []
unfolding below triangle_objects walk walk_from
frame_walk = refl

pub world_walk : visited (walk triangle_objects 6) ≡ 6 ∷ 5 ∷ 4 ∷ 2 ∷ 1 ∷ 3 ∷ []
unfolding below triangle_objects walk walk_from
world_walk = refl

pub frame_is_sound : walk_refusal triangle_objects (walk triangle_objects 9) ≡ None
unfolding add axis_length below broken_parameter column cross dot fault_of first_incomplete first_limit first_mapped first_out_of_range halvings halvings_within isqrt lights_of linear long_length normalized placed primitives_of reach root_at root_or_next row scaled_down scaled_radius shapes_of shortened times triangle_objects truncated unit walk walk_from walk_refusal
frame_is_sound = refl

pub sphere_row : primitives_of sphere_objects (walk sphere_objects 9) ≡ record {
  place = record { inst = 2; surf = 0; prim = 0 };
  shape = Sphere (record { x = pos 21; y = pos 42; z = pos 63 }) (pos 200);
  color = pos 52429 ∷ pos 52429 ∷ pos 52429 ∷ [];
  opacity = pos 32768;
  object_id = 11;
  instance_id = 22;
} ∷ []
unfolding add axis_length below column dot isqrt linear placed primitives_of root_at root_or_next row scaled_down scaled_radius shapes_of sphere_objects walk walk_from
sphere_row = refl
