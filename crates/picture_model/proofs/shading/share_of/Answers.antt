use Rattle.std.proofs.Common.{◌^◌, unsigned_abs, arith}
use Rattle.picture_model.proofs.Numbers.{abs-between, between, product_within, read_wide}
use Rattle.picture_model.specs.Shading.{share_of}
use Rattle.picture_model.proofs.shading.share_of.Goals as goal

pub product-requires-clause-room : goal.product-requires-clause-room
product-requires-clause-room c =
    let color = abs-between 0 (2 ^ 31) c.component.result c.component.ensures.size in
    let light = abs-between 0 (2 ^ 31) c.irradiance_at.result c.irradiance_at.ensures.size in
    let along = abs-between 0 (2 ^ 18) c.cosine.result c.cosine.ensures.size in
    let product = product_within (unsigned_abs c.component.result) (unsigned_abs c.irradiance_at.result) (2 ^ 31) (2 ^ 31) (2 ^ 62) color light (omega arith) in
    let shining = rw (read_wide c.component.result c.component.type_inv, read_wide c.irradiance_at.result c.irradiance_at.type_inv) at c.product-shining.ensures.size in
    let room = product_within (unsigned_abs c.product-shining.result) (unsigned_abs c.cosine.result) (2 ^ 46) (2 ^ 18) (2 ^ 64) (omega arith) along (omega arith) in
    rw (read_wide c.product-shining.result c.product-shining.type_inv, read_wide c.cosine.result c.cosine.type_inv) (omega arith)

pub returns-clause-value : goal.returns-clause-value
unfolding share_of
returns-clause-value c =
    let color = read_wide c.component.result c.component.type_inv in
    let light = read_wide c.irradiance_at.result c.irradiance_at.type_inv in
    let shining = read_wide c.product-shining.result c.product-shining.type_inv in
    let along = read_wide c.cosine.result c.cosine.type_inv in
    let result = read_wide c.product.result c.product.type_inv in
    cc

pub returns-clause-size : goal.returns-clause-size
returns-clause-size c =
    let color = abs-between 0 (2 ^ 31) c.component.result c.component.ensures.size in
    let light = abs-between 0 (2 ^ 31) c.irradiance_at.result c.irradiance_at.ensures.size in
    let along = abs-between 0 (2 ^ 18) c.cosine.result c.cosine.ensures.size in
    let product = product_within (unsigned_abs c.component.result) (unsigned_abs c.irradiance_at.result) (2 ^ 31) (2 ^ 31) (2 ^ 62) color light (omega arith) in
    let shining = rw (read_wide c.component.result c.component.type_inv, read_wide c.irradiance_at.result c.irradiance_at.type_inv) at c.product-shining.ensures.size in
    let room = product_within (unsigned_abs c.product-shining.result) (unsigned_abs c.cosine.result) (2 ^ 46) (2 ^ 18) (2 ^ 64) (omega arith) along (omega arith) in
    let size = rw (read_wide c.product-shining.result c.product-shining.type_inv, read_wide c.cosine.result c.cosine.type_inv) at c.product.ensures.size in
    rw (read_wide c.product.result c.product.type_inv) (between c.product.result (2 ^ 48) c.product.ensures.sign (omega arith))
