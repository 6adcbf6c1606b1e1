use Rattle.std.proofs.Common.{◌≡◌, ◌*◌, length, subst}
use Rattle.seq_model.specs.Pictures.{plane_of}
use Rattle.picture_model.proofs.PictureSizes.{length-picture}
use Rattle.tile_claims.specs.Parts.{scene_of}
use Rattle.frame_future.specs.Mapped.{Mapped}
use Rattle.frame_future.proofs.mapped.MappedFrame.height.Goals as goal

pub returns-clause-whole : goal.returns-clause-whole
returns-clause-whole c =
    let m = c.self.inside in
    subst (λ (v : Mapped). length v.bytes ≡ 4 * v.width * v.height) c.self.view_is (length-picture (scene_of m.tiles.value) (plane_of m.channel))
