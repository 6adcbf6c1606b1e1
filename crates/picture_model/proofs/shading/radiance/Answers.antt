use Rattle.std.proofs.Common.{◌^◌, unsigned_abs, arith}
use Rattle.picture_model.proofs.Numbers.{abs-between, between, product_within, read_wide}
use Rattle.picture_model.specs.Shading.{radiance}
use Rattle.picture_model.proofs.shading.radiance.Goals as goal

pub returns-clause-value : goal.returns-clause-value
unfolding radiance
returns-clause-value c =
    let color = read_wide c.component.result c.component.type_inv in
    let light = read_wide c.incoming.result c.incoming.type_inv in
    let result = read_wide c.product.result c.product.type_inv in
    cc

pub returns-clause-size : goal.returns-clause-size
returns-clause-size c =
    let color = abs-between 0 (2 ^ 31) c.component.result c.component.ensures.size in
    let light = abs-between 0 (2 ^ 57) c.incoming.result c.incoming.ensures.size in
    let room = product_within (unsigned_abs c.component.result) (unsigned_abs c.incoming.result) (2 ^ 31) (2 ^ 57) (2 ^ 88) color light (omega arith) in
    let size = rw (read_wide c.component.result c.component.type_inv, read_wide c.incoming.result c.incoming.type_inv) at c.product.ensures.size in
    rw (read_wide c.product.result c.product.type_inv) (between c.product.result (2 ^ 72) c.product.ensures.sign (omega arith))
