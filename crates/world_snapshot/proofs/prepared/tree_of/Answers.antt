use Rattle.std.proofs.Common.{◌≡◌, true, false, sym, subst, ◌∙◌}
use Rattle.world_snapshot.proofs.WorldFacts.{any_ok, placed_within}
use Rattle.world_snapshot.specs.Worlds.{AreShapesWithin, IsTreeOver}
use Rattle.world_snapshot.proofs.prepared.tree_of.Goals as goal

pub tree_over-requires-clause-shapes : goal.tree_over-requires-clause-shapes
tree_over-requires-clause-shapes c = placed_within c.args.rows.now (subst AreShapesWithin c.as_slice.ensures (c.are_within.ensures.0 c.if-are_within.true))

pub returns-else-are_within : goal.returns-else-are_within
returns-else-are_within c = any_ok (λ tree. IsTreeOver tree c.args.rows.now) c.build.result (λ tree within.
    let yes = c.are_within.ensures.1 (subst AreShapesWithin (sym c.as_slice.ensures) within) in
    let no : true ≡ false = sym yes ∙ c.if-are_within.false in
    absurd cc)
