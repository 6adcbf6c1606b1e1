use Rattle.std.proofs.Common.{◌≡◌, length, arith}
use Rattle.std.proofs.lemmas.Bool.Decides.{nat_tests}
use Rattle.ray_kernel.proofs.Leaves.{leaves_start}
use Rattle.ray_kernel.proofs.SearchLaws.{starts}
use Rattle.ray_kernel.proofs.Steps.{starts_none}
use Rattle.ray_kernel.proofs.walks.start.Goals as goal

pub returns-then-is_empty-clause-search : goal.returns-then-is_empty-clause-search
returns-then-is_empty-clause-search g c =
    let test = c.is_empty.ensures in
    let none : length c.nodes-nodes.result.now ≡ 0 = grind (arith, nat_tests, test, c.if-is_empty.true) in
    rw c.new-waiting.ensures (starts_none c.args.search.now c.nodes-nodes.result.now none (rw (← c.nodes-nodes.ensures) at c.requires.tree))

pub returns-clause-search : goal.returns-clause-search
returns-clause-search g c =
    rw (c.push.ensures, c.new-waiting.ensures)
    (starts c.args.search.now c.nodes-nodes.result.now c.reach.result (rw (← c.nodes-nodes.ensures) at c.requires.tree) c.requires.shapes c.reach.ensures
    (grind (arith, nat_tests, c.is_empty.ensures, c.if-is_empty.false)))

pub returns-clause-leaves : goal.returns-clause-leaves
returns-clause-leaves g c =
    rw (c.push.ensures, c.new-waiting.ensures)
    (leaves_start c.args.search.now c.nodes-nodes.result.now c.reach.result (rw (← c.nodes-nodes.ensures) at c.requires.tree) c.reach.ensures)
