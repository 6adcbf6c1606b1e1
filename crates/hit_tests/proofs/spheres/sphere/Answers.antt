use Rattle.std.proofs.Common.{◌≡◌, ◌+◌, ◌^◌, pos, ◌≤ℤ◌, unsigned_abs, arith, ◌∙◌, ◌≤◌}
use Rattle.fx_math.specs.Vec3.{dot, reach, sub}
use Rattle.hit_tests.proofs.Balls.{IsApproach, enters, excess-high, excess-is, excess-low, goes_away, moving, natural, nearing, nearing-size, slow, square-sign, starts_inside}
use Rattle.picture_model.proofs.Numbers.{abs-between, product_within, read_long}
use Rattle.picture_model.proofs.Spheres.{from_le}
use Rattle.hit_tests.proofs.spheres.sphere.Goals as goal

pub overflow_sub-excess : goal.overflow_sub-excess
overflow_sub-excess c =
    let radius = abs-between 0 (2 ^ 28) c.args.radius c.requires.sphere.size in
    let size = product_within (reach c.sub-from_centre.result) (reach c.sub-from_centre.result) (2 ^ 30 + 2 ^ 28) (2 ^ 30 + 2 ^ 28) (2 ^ 60 + 2 ^ 59 + 2 ^ 57) (omega arith) (omega arith) (omega arith) in
    let excess = excess-is c.short_dot.result c.args.radius (omega arith) radius in
    excess.fits

pub returns-then-excess-le0 : goal.returns-then-excess-le0
returns-then-excess-le0 c =
    let radius = abs-between 0 (2 ^ 28) c.args.radius c.requires.sphere.size in
    let size = product_within (reach c.sub-from_centre.result) (reach c.sub-from_centre.result) (2 ^ 30 + 2 ^ 28) (2 ^ 30 + 2 ^ 28) (2 ^ 60 + 2 ^ 59 + 2 ^ 57) (omega arith) (omega arith) (omega arith) in
    let excess = excess-is c.short_dot.result c.args.radius (omega arith) radius in
    let from = c.requires.sphere.size.from in
    let m : c.short_dot.result ≡ dot (sub c.args.ray.now.o c.args.centre) (sub c.args.ray.now.o c.args.centre) = cc in
    let sign : pos 0 ≤ℤ c.short_dot.result = rw m (square-sign (sub c.args.ray.now.o c.args.centre)) in
    let low = excess-low c.short_dot.result c.args.radius sign from (rw excess.is at c.if-excess-le0.true) in
    rw (natural c.args.radius from) (starts_inside c.args.ray.now c.args.centre (unsigned_abs c.args.radius) (rw m at low))

pub returns-then-away-ge0 : goal.returns-then-away-ge0
returns-then-away-ge0 c =
    let radius = abs-between 0 (2 ^ 28) c.args.radius c.requires.sphere.size in
    let size = product_within (reach c.sub-from_centre.result) (reach c.sub-from_centre.result) (2 ^ 30 + 2 ^ 28) (2 ^ 30 + 2 ^ 28) (2 ^ 60 + 2 ^ 59 + 2 ^ 57) (omega arith) (omega arith) (omega arith) in
    let excess = excess-is c.short_dot.result c.args.radius (omega arith) radius in
    let from = c.requires.sphere.size.from in
    let m : c.short_dot.result ≡ dot (sub c.args.ray.now.o c.args.centre) (sub c.args.ray.now.o c.args.centre) = cc in
    let sign : pos 0 ≤ℤ c.short_dot.result = rw m (square-sign (sub c.args.ray.now.o c.args.centre)) in
    let outside = excess-high c.short_dot.result c.args.radius sign from (rw excess.is at c.if-excess-le0.false) in
    let away : c.short_dot-away.result ≡ dot (sub c.args.ray.now.o c.args.centre) c.args.ray.now.d = cc in
    let test = from_le (pos 0) c.short_dot-away.result (rw (read_long c.short_dot-away.result c.short_dot-away.type_inv) at c.if-away-ge0.true) in
    rw (natural c.args.radius from) (goes_away c.args.ray.now c.args.centre (unsigned_abs c.args.radius) (rw m at outside.farther) (rw away at test))

pub entry-requires : goal.entry-requires
entry-requires c =
    let radius = abs-between 0 (2 ^ 28) c.args.radius c.requires.sphere.size in
    let size = product_within (reach c.sub-from_centre.result) (reach c.sub-from_centre.result) (2 ^ 30 + 2 ^ 28) (2 ^ 30 + 2 ^ 28) (2 ^ 60 + 2 ^ 59 + 2 ^ 57) (omega arith) (omega arith) (omega arith) in
    let excess = excess-is c.short_dot.result c.args.radius (omega arith) radius in
    let from = c.requires.sphere.size.from in
    let m : c.short_dot.result ≡ dot (sub c.args.ray.now.o c.args.centre) (sub c.args.ray.now.o c.args.centre) = cc in
    let sign : pos 0 ≤ℤ c.short_dot.result = rw m (square-sign (sub c.args.ray.now.o c.args.centre)) in
    let outside = excess-high c.short_dot.result c.args.radius sign from (rw excess.is at c.if-excess-le0.false) in
    let away : c.short_dot-away.result ≡ dot (sub c.args.ray.now.o c.args.centre) c.args.ray.now.d = cc in
    let square : c.unsigned_abs.result ≡ unsigned_abs (dot c.args.ray.now.d c.args.ray.now.d) = rw (read_long c.short_dot-2.result c.short_dot-2.type_inv, c.short_dot-2.ensures.value) at c.unsigned_abs.ensures.value in
    let toward : c.unsigned_abs-2.result ≡ unsigned_abs (dot (sub c.args.ray.now.o c.args.centre) c.args.ray.now.d) = rw (read_long c.short_dot-away.result c.short_dot-away.type_inv, away) at c.unsigned_abs-2.ensures.value in
    let beyond = rw excess.is at c.unsigned_abs-3.ensures.value in
    let test = rw (read_long c.short_dot-away.result c.short_dot-away.type_inv, away) at c.if-away-ge0.false in
    let some = nearing-size (dot (sub c.args.ray.now.o c.args.centre) c.args.ray.now.d) test in
    let from_centre : reach (sub c.args.ray.now.o c.args.centre) ≤ 2 ^ 30 + 2 ^ 28 = rw (← c.sub-from_centre.ensures.value) (omega arith) in
    let fast = product_within (reach c.args.ray.now.d) (reach c.args.ray.now.d) (2 ^ 25) (2 ^ 25) (2 ^ 50) c.requires.ray.direction c.requires.ray.direction (omega arith) in
    let near = product_within (reach c.sub-from_centre.result) (reach c.args.ray.now.d) (2 ^ 30 + 2 ^ 28) (2 ^ 25) (2 ^ 55 + 2 ^ 53) (omega arith) c.requires.ray.direction (omega arith) in
    let squared = rw c.short_dot-2.ensures.value at c.short_dot-2.ensures.size in
    let approaching = rw away at c.short_dot-away.ensures.size in
    record {
      moving = rw square (moving (sub c.args.ray.now.o c.args.centre) c.args.ray.now.d some);
      square = rw square (omega arith);
      toward = rw toward (omega arith);
      slow = λ h. rw toward (slow (sub c.args.ray.now.o c.args.centre) c.args.ray.now.d from_centre (rw square at h));
      outside = rw beyond (omega (arith, outside.farther, outside.excess));
      excess = rw beyond (omega (arith, outside.excess));
    }

pub returns : goal.returns
returns c =
    let radius = abs-between 0 (2 ^ 28) c.args.radius c.requires.sphere.size in
    let size = product_within (reach c.sub-from_centre.result) (reach c.sub-from_centre.result) (2 ^ 30 + 2 ^ 28) (2 ^ 30 + 2 ^ 28) (2 ^ 60 + 2 ^ 59 + 2 ^ 57) (omega arith) (omega arith) (omega arith) in
    let excess = excess-is c.short_dot.result c.args.radius (omega arith) radius in
    let from = c.requires.sphere.size.from in
    let m : c.short_dot.result ≡ dot (sub c.args.ray.now.o c.args.centre) (sub c.args.ray.now.o c.args.centre) = cc in
    let sign : pos 0 ≤ℤ c.short_dot.result = rw m (square-sign (sub c.args.ray.now.o c.args.centre)) in
    let outside = excess-high c.short_dot.result c.args.radius sign from (rw excess.is at c.if-excess-le0.false) in
    let away : c.short_dot-away.result ≡ dot (sub c.args.ray.now.o c.args.centre) c.args.ray.now.d = cc in
    let square : c.unsigned_abs.result ≡ unsigned_abs (dot c.args.ray.now.d c.args.ray.now.d) = rw (read_long c.short_dot-2.result c.short_dot-2.type_inv, c.short_dot-2.ensures.value) at c.unsigned_abs.ensures.value in
    let toward : c.unsigned_abs-2.result ≡ unsigned_abs (dot (sub c.args.ray.now.o c.args.centre) c.args.ray.now.d) = rw (read_long c.short_dot-away.result c.short_dot-away.type_inv, away) at c.unsigned_abs-2.ensures.value in
    let beyond = rw excess.is at c.unsigned_abs-3.ensures.value in
    let test = rw (read_long c.short_dot-away.result c.short_dot-away.type_inv, away) at c.if-away-ge0.false in
    let is : IsApproach c.args.ray.now c.args.centre (unsigned_abs c.args.radius) (record { square = c.unsigned_abs.result; toward = c.unsigned_abs-2.result; excess = c.unsigned_abs-3.result }) =
    record { square = square; toward = rw toward (nearing (dot (sub c.args.ray.now.o c.args.centre) c.args.ray.now.d) test); excess = rw (beyond, ← m) outside.excess } in
    rw (natural c.args.radius from) (c.entry.ensures ∙ enters c.args.ray.now c.args.centre (unsigned_abs c.args.radius) _ is)
