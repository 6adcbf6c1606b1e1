use Rattle.std.proofs.Common.{[], ◌∷◌, ◌++◌, pos, negsuc, codes, ap, ◌∙◌}
use Rattle.trace_make.specs.Calls.{written, array_call}
use Rattle.trace_make.specs.Scene.{material_calls, surface_calls, group_calls, instance_calls, instances_calls, light_calls}
use Rattle.trace_make.proofs.Ranges.{some_then}
use Rattle.trace_make.proofs.scene.place.Goals as goal

pub returns : goal.returns
returns c =
    (some_then (written c.args.calls.now) (written c.make_materials.new.calls) _ material_calls _ c.in_ok-make_materials.ensures
    (some_then (written c.make_materials.new.calls) (written c.make_surface.new.calls) _ (surface_calls (codes "s") (codes "g") (codes "m") 1) _ c.in_ok-make_surface.ensures
    (some_then (written c.make_surface.new.calls) (written c.make_surface-2.new.calls) _ (surface_calls (codes "u") (codes "k") (codes "n") 2) _ c.in_ok-make_surface-2.ensures
    (some_then (written c.make_surface-2.new.calls) (written c.make_group.new.calls) _ group_calls _ c.in_ok-make_group.ensures
    (some_then (written c.make_group.new.calls) (written c.make_instance.new.calls) _ (instance_calls (codes "i") (negsuc 163839) 10) _ c.in_ok-make_instance.ensures
    (some_then (written c.make_instance.new.calls) (written c.make_instance-2.new.calls) _ (instance_calls (codes "j") (pos 163840) 11) _ c.in_ok-make_instance-2.ensures
    (some_then (written c.make_instance-2.new.calls) (written c.make_array.new.self) _ instances_calls _ (c.in_ok-make_array.ensures ∙ ap (λ v. written c.make_instance-2.new.calls ++ array_call (codes "v") (codes "INSTANCE") 2 (codes "captured") 5 v ∷ []) c.in_ok-instances.ensures)
    (some_then (written c.make_array.new.self) (written c.make_lights.new.calls) _ light_calls _ c.in_ok-make_lights.ensures
    c.in_ok-make_world.ensures))))))))
