use Rattle.std.proofs.Common.{◌≡◌, ◌-◌, ◌^◌, ◌≤◌, length, fold}
use Rattle.std.specs.List.{filter_map}
use Rattle.std.specs.Option.{ForSome}
use Rattle.picture_model.specs.Hits.{hits_from}
use Rattle.picture_model.specs.Limits.{IsBlendWithin}
use Rattle.picture_model.specs.Shading.{blend_hit, hit_row, hit_rows, placed, unblended}
use Rattle.tile_render.proofs.pixels.shade.Given as goal

-- the blend so far and the hits that follow give the whole blend
abbrev pub invariant-loop : goal.invariant-loop
invariant-loop l = record {
  value : fold (blend_hit l.lighting l.ray) l.blend (filter_map (hit_row l.prepared.primitives) (hits_from l.ray (placed l.prepared.primitives) (length (placed l.prepared.primitives) - l.counter) l.next))
      ≡ fold (blend_hit l.lighting l.ray) unblended (hit_rows l.prepared.primitives l.ray);
  size : IsBlendWithin l.blend;
  near : ForSome l.next (λ h. h.depth ≤ 2 ^ 32);
}
