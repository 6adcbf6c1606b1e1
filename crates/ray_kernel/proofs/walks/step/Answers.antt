use Rattle.std.proofs.Common.{arith, inl, refl}
use Rattle.ray_kernel.proofs.Leaves.{leaves_leaf, leaves_passed}
use Rattle.ray_kernel.proofs.SearchLaws.{fewer, fork_is, leaf_is, leaf_searched}
use Rattle.ray_kernel.proofs.Steps.{few_wait, fewer_pushed, first_is, fork_pushed, leaves_pushed, passed_over, rest_is, some_nodes}
use Rattle.ray_kernel.proofs.walks.step.Goals as goal

pub returns-then-is_beyond : goal.returns-then-is_beyond
returns-then-is_beyond g c = record {
  search = passed_over c.args.search.now c.args.waiting.now.items c.args.branch.now c.args.best c.requires.search (cc (c.is_beyond.ensures, c.if-is_beyond.true));
  less = fewer c.args.search.now c.args.waiting.now.items c.args.branch.now c.args.best c.requires.search;
  tests = omega arith;
  once = let passed = leaves_passed c.args.waiting.now.items c.args.branch.now in omega arith;
  counted = inl refl;
}

pub bounds-branch-0 : goal.bounds-branch-0
bounds-branch-0 g c = some_nodes c.args.search.now c.args.waiting.now.items c.args.branch.now c.args.best c.requires.search

pub candidate-requires-clause-item : goal.candidate-requires-clause-item
candidate-requires-clause-item g c =
    let some = some_nodes c.args.search.now c.args.waiting.now.items c.args.branch.now c.args.best c.requires.search in
    leaf_is c.args.search.now c.args.waiting.now.items c.args.branch.now c.args.best c.in-Leaf.item _ c.requires.search (first_is c.args.branch.now.nodes.now _ _ some c.in-Leaf.is)

pub split_at-requires : goal.split_at-requires
split_at-requires g c =
    let some = some_nodes c.args.search.now c.args.waiting.now.items c.args.branch.now c.args.best c.requires.search in
    let split = fork_is c.args.search.now c.args.waiting.now.items c.args.branch.now c.args.best _ c.in-Fork.count _ c.requires.search (first_is c.args.branch.now.nodes.now _ _ some c.in-Fork.is) in
    rw (rest_is c.args.branch.now.nodes.now some) split.fits

pub reach-requires : goal.reach-requires
reach-requires g c =
    let ws = c.args.waiting.now.items in
    let x = c.args.branch.now in
    let some = some_nodes c.args.search.now ws x c.args.best c.requires.search in
    let is = first_is x.nodes.now _ _ some c.in-Fork.is in
    let rest = rest_is x.nodes.now some in
    let split = fork_is c.args.search.now ws x c.args.best _ c.in-Fork.count _ c.requires.search is in
    rw (c.split_at.ensures.front, rest) split.first

pub reach-requires-in-Fork : goal.reach-requires-in-Fork
reach-requires-in-Fork g c =
    let ws = c.args.waiting.now.items in
    let x = c.args.branch.now in
    let some = some_nodes c.args.search.now ws x c.args.best c.requires.search in
    let is = first_is x.nodes.now _ _ some c.in-Fork.is in
    let rest = rest_is x.nodes.now some in
    let split = fork_is c.args.search.now ws x c.args.best _ c.in-Fork.count _ c.requires.search is in
    rw (c.split_at.ensures.back, rest) split.second

pub push_both-requires : goal.push_both-requires
push_both-requires g c = few_wait c.args.search.now c.args.waiting.now.items c.args.branch.now c.args.best c.requires.search

pub returns-in-Leaf-clause-search : goal.returns-in-Leaf-clause-search
returns-in-Leaf-clause-search g c =
    let some = some_nodes c.args.search.now c.args.waiting.now.items c.args.branch.now c.args.best c.requires.search in
    rw (c.nearer.ensures, c.candidate.ensures.hit)
    (leaf_searched c.args.search.now c.args.waiting.now.items c.args.branch.now c.args.best c.in-Leaf.item _ c.requires.search (first_is c.args.branch.now.nodes.now _ _ some c.in-Leaf.is))

pub returns-in-Leaf-clause-less : goal.returns-in-Leaf-clause-less
returns-in-Leaf-clause-less g c = fewer c.args.search.now c.args.waiting.now.items c.args.branch.now c.args.best c.requires.search

pub returns-in-Fork-clause-search : goal.returns-in-Fork-clause-search
returns-in-Fork-clause-search g c =
    let ws = c.args.waiting.now.items in
    let x = c.args.branch.now in
    let some = some_nodes c.args.search.now ws x c.args.best c.requires.search in
    let is = first_is x.nodes.now _ _ some c.in-Fork.is in
    let rest = rest_is x.nodes.now some in
    let one = rw (c.split_at.ensures.front, rest) at c.reach.ensures in
    let two = rw (c.split_at.ensures.back, rest) at c.reach-in-Fork.ensures in
    rw c.push_both.ensures (fork_pushed c.args.search.now ws x c.args.best _ c.in-Fork.count _ _ _ c.requires.search is one two)

pub returns-in-Fork-clause-less : goal.returns-in-Fork-clause-less
returns-in-Fork-clause-less g c =
    let ws = c.args.waiting.now.items in
    let x = c.args.branch.now in
    let some = some_nodes c.args.search.now ws x c.args.best c.requires.search in
    let is = first_is x.nodes.now _ _ some c.in-Fork.is in
    let rest = rest_is x.nodes.now some in
    let one = rw (c.split_at.ensures.front, rest) at c.reach.ensures in
    let two = rw (c.split_at.ensures.back, rest) at c.reach-in-Fork.ensures in
    rw c.push_both.ensures (fewer_pushed c.args.search.now ws x c.args.best _ c.in-Fork.count _ _ _ is one two)

pub returns-in-Leaf-clause-once : goal.returns-in-Leaf-clause-once
returns-in-Leaf-clause-once g c =
    let some = some_nodes c.args.search.now c.args.waiting.now.items c.args.branch.now c.args.best c.requires.search in
    let leaf = leaves_leaf c.args.waiting.now.items c.args.branch.now c.in-Leaf.item _ (first_is c.args.branch.now.nodes.now _ _ some c.in-Leaf.is) in
    let one = c.candidate.ensures.counted in
    omega arith

pub returns-in-Fork-clause-once : goal.returns-in-Fork-clause-once
returns-in-Fork-clause-once g c =
    let ws = c.args.waiting.now.items in
    let x = c.args.branch.now in
    let some = some_nodes c.args.search.now ws x c.args.best c.requires.search in
    let is = first_is x.nodes.now _ _ some c.in-Fork.is in
    let rest = rest_is x.nodes.now some in
    let one = rw (c.split_at.ensures.front, rest) at c.reach.ensures in
    let two = rw (c.split_at.ensures.back, rest) at c.reach-in-Fork.ensures in
    let most = leaves_pushed c.args.search.now ws x c.args.best _ c.in-Fork.count _ _ _ c.requires.search is one two in
    rw c.push_both.ensures (omega arith)
