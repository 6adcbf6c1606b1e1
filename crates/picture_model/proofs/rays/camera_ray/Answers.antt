use Rattle.std.proofs.Common.{◌^◌, unsigned_abs, ap, arith}
use Rattle.picture_model.proofs.Numbers.{abs-between, read_short}
use Rattle.picture_model.specs.Rays.{camera_ray}
use Rattle.picture_model.proofs.rays.camera_ray.Goals as goal

pub returns-in-Orthographic-clause-value : goal.returns-in-Orthographic-clause-value
unfolding camera_ray
returns-in-Orthographic-clause-value c =
    let view = rw c.in-Orthographic.is at c.requires.camera in
    let length_size = abs-between 1 (2 ^ 26) c.in-Orthographic.height view.opening in
    let aspect_size = abs-between 1 (2 ^ 20) c.in-Orthographic.aspect view.ratio in
    let length = read_short c.in-Orthographic.height (omega arith) in
    let aspect = read_short c.in-Orthographic.aspect (omega arith) in
    rw c.in-Orthographic.is (cc)

pub returns-in-Orthographic-clause-size : goal.returns-in-Orthographic-clause-size
returns-in-Orthographic-clause-size c =
    let view = rw c.in-Orthographic.is at c.requires.camera in
    let length_size = abs-between 1 (2 ^ 26) c.in-Orthographic.height view.opening in
    let aspect_size = abs-between 1 (2 ^ 20) c.in-Orthographic.aspect view.ratio in
    let length = read_short c.in-Orthographic.height (omega arith) in
    let aspect = read_short c.in-Orthographic.aspect (omega arith) in
    let window = rw (ap unsigned_abs length) at c.in_window.ensures.size in
    record { origin = omega arith; direction = omega arith }

pub returns-in-Perspective-clause-value : goal.returns-in-Perspective-clause-value
unfolding camera_ray
returns-in-Perspective-clause-value c =
    let view = rw c.in-Perspective.is at c.requires.camera in
    let length_size = abs-between 1 (2 ^ 20) c.in-Perspective.tan_half_fovy view.opening in
    let aspect_size = abs-between 1 (2 ^ 20) c.in-Perspective.aspect view.ratio in
    let length = read_short c.in-Perspective.tan_half_fovy (omega arith) in
    let aspect = read_short c.in-Perspective.aspect (omega arith) in
    rw c.in-Perspective.is (cc)

pub returns-in-Perspective-clause-size : goal.returns-in-Perspective-clause-size
returns-in-Perspective-clause-size c =
    let view = rw c.in-Perspective.is at c.requires.camera in
    let length_size = abs-between 1 (2 ^ 20) c.in-Perspective.tan_half_fovy view.opening in
    let aspect_size = abs-between 1 (2 ^ 20) c.in-Perspective.aspect view.ratio in
    let length = read_short c.in-Perspective.tan_half_fovy (omega arith) in
    let aspect = read_short c.in-Perspective.aspect (omega arith) in
    let window = rw (ap unsigned_abs length) at c.in_window-in-Perspective.ensures.size in
    record { origin = omega arith; direction = omega arith }
