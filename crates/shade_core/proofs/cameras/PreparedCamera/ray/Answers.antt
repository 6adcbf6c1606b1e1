use Rattle.std.proofs.Common.{◌≡◌, arith, ap}
use Rattle.picture_model.proofs.Numbers.{read_long}
use Rattle.picture_model.specs.Rays.{across}
use Rattle.shade_core.proofs.Preparations.{orthographic-is, orthographic-reach, perspective-is, perspective-reach, right_pixels, up_pixels, window-reach}
use Rattle.shade_core.specs.Frames.{offset_in}
use Rattle.shade_core.proofs.cameras.PreparedCamera.ray.Goals as goal

pub offset_in-requires-clause-pixel : goal.offset_in-requires-clause-pixel
offset_in-requires-clause-pixel c =
    let pixels = right_pixels c.self.inside.camera c.self.inside.width c.self.inside.height c.self.inside.axes c.self.inside.right c.self.inside.up c.self.invariant in
    let width : c.self.inside.width ≡ c.args.self.now.width = ap (λ v. v.width) c.self.view_is in
    rw (pixels, width) c.requires.column

pub offset_in-requires-2-clause-pixel : goal.offset_in-requires-2-clause-pixel
offset_in-requires-2-clause-pixel c =
    let pixels = up_pixels c.self.inside.camera c.self.inside.width c.self.inside.height c.self.inside.axes c.self.inside.right c.self.inside.up c.self.invariant in
    let height : c.self.inside.height ≡ c.args.self.now.height = ap (λ v. v.height) c.self.view_is in
    rw (pixels, height) c.requires.row

pub across-window-requires-clause-right : goal.across-window-requires-clause-right
across-window-requires-clause-right c =
    let within = window-reach c.self.inside.camera c.self.inside.width c.self.inside.height c.self.inside.axes c.self.inside.right c.self.inside.up c.self.invariant in
    rw (read_long c.offset_in.result c.offset_in.type_inv) (omega (arith, within.sideways))

pub across-window-requires-clause-up : goal.across-window-requires-clause-up
across-window-requires-clause-up c =
    let within = window-reach c.self.inside.camera c.self.inside.width c.self.inside.height c.self.inside.axes c.self.inside.right c.self.inside.up c.self.invariant in
    rw (read_long c.offset_in-2.result c.offset_in-2.type_inv) (omega (arith, within.upward))

pub add-requires : goal.add-requires
add-requires c =
    let p = rw c.in-Orthographic.is at c.self.invariant in
    let within = orthographic-reach c.in-Orthographic.position c.in-Orthographic.direction c.in-Orthographic.up c.in-Orthographic.aspect c.in-Orthographic.height c.self.inside.width c.self.inside.height c.self.inside.axes c.self.inside.right c.self.inside.up p in
    let window = rw (read_long c.offset_in.result c.offset_in.type_inv, read_long c.offset_in-2.result c.offset_in-2.type_inv) at c.across-window.ensures.size in
    let place = p.within.place in
    let ahead = p.axes_within.forward in
    omega (arith, within.sideways, within.upward)

pub returns-in-Orthographic-clause-value : goal.returns-in-Orthographic-clause-value
returns-in-Orthographic-clause-value c =
    let p = rw c.in-Orthographic.is at c.self.invariant in
    let window : c.across-window.result ≡ across c.self.inside.axes (offset_in c.self.inside.right c.args.x) (offset_in c.self.inside.up c.args.y) =
    rw (read_long c.offset_in.result c.offset_in.type_inv, read_long c.offset_in-2.result c.offset_in-2.type_inv, c.offset_in.ensures.value, c.offset_in-2.ensures.value) at c.across-window.ensures.value in
    rw (← c.self.view_is, c.in-Orthographic.is, c.add.ensures.value, window) (orthographic-is c.in-Orthographic.position c.in-Orthographic.direction c.in-Orthographic.up c.in-Orthographic.aspect c.in-Orthographic.height c.self.inside.width c.self.inside.height c.self.inside.axes c.self.inside.right c.self.inside.up p c.args.x c.args.y)

pub returns-in-Orthographic-clause-size : goal.returns-in-Orthographic-clause-size
returns-in-Orthographic-clause-size c =
    let p = rw c.in-Orthographic.is at c.self.invariant in
    let within = orthographic-reach c.in-Orthographic.position c.in-Orthographic.direction c.in-Orthographic.up c.in-Orthographic.aspect c.in-Orthographic.height c.self.inside.width c.self.inside.height c.self.inside.axes c.self.inside.right c.self.inside.up p in
    let window = rw (read_long c.offset_in.result c.offset_in.type_inv, read_long c.offset_in-2.result c.offset_in-2.type_inv) at c.across-window.ensures.size in
    let place = p.within.place in
    let ahead = p.axes_within.forward in
    let sum = c.add.ensures.size in
    record { origin = omega (arith, within.sideways, within.upward); direction = omega (arith, within.sideways, within.upward) }

pub add-requires-in-Perspective : goal.add-requires-in-Perspective
add-requires-in-Perspective c =
    let p = rw c.in-Perspective.is at c.self.invariant in
    let within = perspective-reach c.in-Perspective.position c.in-Perspective.direction c.in-Perspective.up c.in-Perspective.aspect c.in-Perspective.tan_half_fovy c.self.inside.width c.self.inside.height c.self.inside.axes c.self.inside.right c.self.inside.up p in
    let window = rw (read_long c.offset_in.result c.offset_in.type_inv, read_long c.offset_in-2.result c.offset_in-2.type_inv) at c.across-window.ensures.size in
    let place = p.within.place in
    let ahead = p.axes_within.forward in
    omega (arith, within.sideways, within.upward)

pub returns-in-Perspective-clause-value : goal.returns-in-Perspective-clause-value
returns-in-Perspective-clause-value c =
    let p = rw c.in-Perspective.is at c.self.invariant in
    let window : c.across-window.result ≡ across c.self.inside.axes (offset_in c.self.inside.right c.args.x) (offset_in c.self.inside.up c.args.y) =
    rw (read_long c.offset_in.result c.offset_in.type_inv, read_long c.offset_in-2.result c.offset_in-2.type_inv, c.offset_in.ensures.value, c.offset_in-2.ensures.value) at c.across-window.ensures.value in
    rw (← c.self.view_is, c.in-Perspective.is, c.add-in-Perspective.ensures.value, window) (perspective-is c.in-Perspective.position c.in-Perspective.direction c.in-Perspective.up c.in-Perspective.aspect c.in-Perspective.tan_half_fovy c.self.inside.width c.self.inside.height c.self.inside.axes c.self.inside.right c.self.inside.up p c.args.x c.args.y)

pub returns-in-Perspective-clause-size : goal.returns-in-Perspective-clause-size
returns-in-Perspective-clause-size c =
    let p = rw c.in-Perspective.is at c.self.invariant in
    let within = perspective-reach c.in-Perspective.position c.in-Perspective.direction c.in-Perspective.up c.in-Perspective.aspect c.in-Perspective.tan_half_fovy c.self.inside.width c.self.inside.height c.self.inside.axes c.self.inside.right c.self.inside.up p in
    let window = rw (read_long c.offset_in.result c.offset_in.type_inv, read_long c.offset_in-2.result c.offset_in-2.type_inv) at c.across-window.ensures.size in
    let place = p.within.place in
    let ahead = p.axes_within.forward in
    let sum = c.add-in-Perspective.ensures.size in
    record { origin = omega (arith, within.sideways, within.upward); direction = omega (arith, within.sideways, within.upward) }
