use Rattle.std.proofs.Common.{arith}
use Rattle.std.proofs.lemmas.Slice.Zip.{AllZip-long}
use Rattle.ray_kernel.proofs.trees.tree_over.Goals as goal

pub build-requires : goal.build-requires
build-requires g c =
    let long = AllZip-long _ c.in_ok-boxes.boxes.items (g.P.PrimSource.primitives c.args.prims.now) c.in_ok-boxes.ensures in
    let few = c.requires.few in
    record { few = rw c.as_slice.ensures.value (omega arith) }
