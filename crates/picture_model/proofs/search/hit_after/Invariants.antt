use Rattle.std.proofs.Common.{◌≡◌, drop}
use Rattle.std.specs.List.{filter_map}
use Rattle.picture_model.specs.Hits.{behind, hit_after, hit_with, nearer, nearest_of}
use Rattle.picture_model.specs.Shading.{placed}
use Rattle.picture_model.proofs.search.hit_after.Given as goal

-- the best so far and the rest have the nearest hit behind the last one
abbrev pub invariant-loop-primitive : goal.invariant-loop-primitive
invariant-loop-primitive l =
    nearer l.best (nearest_of (filter_map (λ p. behind l.last (hit_with l.ray (p.place, p.shape))) (drop l.primitive-index l.primitives)))
    ≡ hit_after l.ray (placed l.primitives) l.last
