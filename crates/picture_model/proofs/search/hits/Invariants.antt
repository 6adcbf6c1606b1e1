use Rattle.std.proofs.Common.{◌≡◌, ◌++◌, ◌-◌, length}
use Rattle.picture_model.specs.Hits.{hits, hits_from}
use Rattle.picture_model.specs.Shading.{placed}
use Rattle.picture_model.proofs.search.hits.Given as goal

-- what was found and what follows are all hits
abbrev pub invariant-loop : goal.invariant-loop
invariant-loop l = l.found.items ++ hits_from l.ray (placed l.primitives) (length l.primitives - l.index) l.next ≡ hits l.ray (placed l.primitives)
