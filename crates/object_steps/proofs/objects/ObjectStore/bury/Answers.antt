use Rattle.std.proofs.Common.{length, ap, arith}
use Rattle.object_steps.proofs.Tellables.{fewer_told}
use Rattle.object_steps.proofs.objects.ObjectStore.bury.Goals as goal

pub tell-requires : goal.tell-requires
tell-requires g c =
    omega (arith, c.requires.spare, ap length c.gather.ensures.notices, fewer_told c.args.self.now.stored c.gather.new.self.stored c.gather.ensures.left)
