use Rattle.std.proofs.Common.{◌≡◌, ◌+◌, ◌^◌, pos, ◌+ℤ◌, int_lt, arith, ap, ◌∙◌, sym, refl, of_z, to_z}
use Rattle.std.proofs.lemmas.Int.{ints}
use Rattle.fx_math.specs.Vec3.{cross, dot, reach, sub}
use mir.Syntax.{w128}
use Rattle.picture_model.proofs.Crossings.{dot_within}
use Rattle.picture_model.proofs.Numbers.{product_within, read_wide, read_wide_sum}
use Rattle.picture_model.specs.Depths.{crossing_depth}
use Rattle.hit_tests.proofs.TripleProducts.{cross_within, fractions, fractions-are, met, missed, negative, not_below, not_negative, positive_turned, sum_too_far, too_far, zero_of, zero_turned}
use Rattle.hit_tests.specs.Fractions.{turned_by}
use Rattle.hit_tests.proofs.triangles.triangle.Goals as goal
use Rattle.hit_tests.proofs.triangles.triangle.Goals.{then-p-lt0-via-then-p-lt0, then-p-lt0-via-else-p-lt0+then-det-p, then-q-lt0-via-then-q-lt0, then-q-lt0-via-else-q-lt0+then-det-p-2}

pub returns-then-det-eq0 : goal.returns-then-det-eq0
returns-then-det-eq0 c =
    let det : c.dot-det.result ≡ dot (sub c.args.b c.args.a) (cross c.args.ray.now.d (sub c.args.c c.args.a)) = cc in
    let read = read_wide c.dot-det.result c.dot-det.type_inv in
    let turn = int_lt (to_z w128 (of_z w128 c.dot-det.result)) (pos 0) in
    let sign = ap (λ z. int_lt z (pos 0)) (sym (read ∙ det)) in
    let none = zero_of c.dot-det.result c.dot-det.type_inv c.if-det-eq0.true in
    missed turn c.args.ray.now c.args.a c.args.b c.args.c sign (λ s at. zero_turned turn _ (sym det ∙ none) at.not_parallel)

pub turned-det-requires : goal.turned-det-requires
turned-det-requires c =
    let across = cross_within (reach c.cross-across.result) (reach c.args.ray.now.d) (reach c.sub-e2.result) (2 ^ 25) (2 ^ 29) c.cross-across.ensures.size c.requires.ray.direction (omega arith) (omega arith) in
    rw (read_wide c.dot-det.result c.dot-det.type_inv)
    (dot_within c.dot-det.result (reach c.sub-e1.result) (reach c.cross-across.result) (2 ^ 31) (2 ^ 61) c.dot-det.ensures.size (omega arith) across (omega arith))

pub signed_dot-p-requires-clause-second : goal.signed_dot-p-requires-clause-second
signed_dot-p-requires-clause-second c =
    cross_within (reach c.cross-across.result) (reach c.args.ray.now.d) (reach c.sub-e2.result) (2 ^ 25) (2 ^ 29) c.cross-across.ensures.size c.requires.ray.direction (omega arith) (omega arith)

pub returns-then-p-lt0 : goal.returns-then-p-lt0
returns-then-p-lt0 c =
    let det : c.dot-det.result ≡ dot (sub c.args.b c.args.a) (cross c.args.ray.now.d (sub c.args.c c.args.a)) = cc in
    let read = read_wide c.dot-det.result c.dot-det.type_inv in
    let turn = int_lt (to_z w128 (of_z w128 c.dot-det.result)) (pos 0) in
    let sign = ap (λ z. int_lt z (pos 0)) (sym (read ∙ det)) in
    let det_is : c.turned-det.result ≡ (fractions turn c.args.ray.now c.args.a c.args.b c.args.c).det = c.turned-det.ensures.value ∙ ap (turned_by turn) (read ∙ det) in
    let p_is : c.signed_dot-p.result ≡ (fractions turn c.args.ray.now c.args.a c.args.b c.args.c).p = cc in
    missed turn c.args.ray.now c.args.a c.args.b c.args.c sign
    (λ s at. elim c.then-p-lt0.branch [
      | then-p-lt0-via-then-p-lt0 w ↦ negative c.signed_dot-p.result (rw (read_wide c.signed_dot-p.result c.signed_dot-p.type_inv) at w.if-p-lt0.true) (rw p_is at.first)
      | then-p-lt0-via-else-p-lt0+then-det-p w ↦ too_far c.turned-det.result c.signed_dot-p.result _ (rw (read_wide c.turned-det.result c.turned-det.type_inv, read_wide c.signed_dot-p.result c.signed_dot-p.type_inv) at w.if-det-p.true) at.second (rw (det_is, p_is) at.third)
    ])

pub cross-along-requires : goal.cross-along-requires
cross-along-requires c =
    product_within (reach c.sub-from_a.result) (reach c.sub-e1.result) (2 ^ 30 + 2 ^ 28) (2 ^ 29) (2 ^ 61) (omega arith) (omega arith) (omega arith)

pub signed_dot-q-requires-clause-second : goal.signed_dot-q-requires-clause-second
signed_dot-q-requires-clause-second c =
    cross_within (reach c.cross-along.result) (reach c.sub-from_a.result) (reach c.sub-e1.result) (2 ^ 30 + 2 ^ 28) (2 ^ 29) c.cross-along.ensures.size (omega arith) (omega arith) (omega arith)

pub overflow_add-p : goal.overflow_add-p
overflow_add-p c =
    let p_size = c.signed_dot-p.ensures.size in
    let q_size = c.signed_dot-q.ensures.size in
    rw (read_wide c.signed_dot-p.result c.signed_dot-p.type_inv, read_wide c.signed_dot-q.result c.signed_dot-q.type_inv) (omega (arith, ints))

pub returns-then-q-lt0 : goal.returns-then-q-lt0
returns-then-q-lt0 c =
    let det : c.dot-det.result ≡ dot (sub c.args.b c.args.a) (cross c.args.ray.now.d (sub c.args.c c.args.a)) = cc in
    let read = read_wide c.dot-det.result c.dot-det.type_inv in
    let turn = int_lt (to_z w128 (of_z w128 c.dot-det.result)) (pos 0) in
    let sign = ap (λ z. int_lt z (pos 0)) (sym (read ∙ det)) in
    let det_is : c.turned-det.result ≡ (fractions turn c.args.ray.now c.args.a c.args.b c.args.c).det = c.turned-det.ensures.value ∙ ap (turned_by turn) (read ∙ det) in
    let p_is : c.signed_dot-p.result ≡ (fractions turn c.args.ray.now c.args.a c.args.b c.args.c).p = cc in
    let q_is : c.signed_dot-q.result ≡ (fractions turn c.args.ray.now c.args.a c.args.b c.args.c).q = cc in
    let p_size = c.signed_dot-p.ensures.size in
    let q_size = c.signed_dot-q.ensures.size in
    missed turn c.args.ray.now c.args.a c.args.b c.args.c sign
    (λ s at. elim c.then-q-lt0.branch [
      | then-q-lt0-via-then-q-lt0 w ↦ negative c.signed_dot-q.result (rw (read_wide c.signed_dot-q.result c.signed_dot-q.type_inv) at w.if-q-lt0.true) (rw q_is at.second)
      | then-q-lt0-via-else-q-lt0+then-det-p-2 w ↦ sum_too_far c.turned-det.result c.signed_dot-p.result c.signed_dot-q.result (rw (read_wide c.turned-det.result c.turned-det.type_inv, read_wide_sum c.signed_dot-p.result c.signed_dot-q.result (omega arith) (omega arith)) at w.if-det-p-2.true) (rw (det_is, p_is, q_is) at.third)
    ])

pub signed_dot-requires-clause-second : goal.signed_dot-requires-clause-second
signed_dot-requires-clause-second c =
    cross_within (reach c.cross-along.result) (reach c.sub-from_a.result) (reach c.sub-e1.result) (2 ^ 30 + 2 ^ 28) (2 ^ 29) c.cross-along.ensures.size (omega arith) (omega arith) (omega arith)

pub depth_number-requires-clause-positive : goal.depth_number-requires-clause-positive
depth_number-requires-clause-positive c =
    let read = read_wide c.dot-det.result c.dot-det.type_inv in
    let size = rw read at c.turned-det.ensures.value in
    let some = positive_turned _ c.dot-det.result refl (λ none. c.if-det-eq0.false (ap (of_z w128) none)) in
    rw (read_wide c.turned-det.result c.turned-det.type_inv, size) some

pub returns : goal.returns
returns c =
    let det : c.dot-det.result ≡ dot (sub c.args.b c.args.a) (cross c.args.ray.now.d (sub c.args.c c.args.a)) = cc in
    let read = read_wide c.dot-det.result c.dot-det.type_inv in
    let turn = int_lt (to_z w128 (of_z w128 c.dot-det.result)) (pos 0) in
    let sign = ap (λ z. int_lt z (pos 0)) (sym (read ∙ det)) in
    let det_is : c.turned-det.result ≡ (fractions turn c.args.ray.now c.args.a c.args.b c.args.c).det = c.turned-det.ensures.value ∙ ap (turned_by turn) (read ∙ det) in
    let p_is : c.signed_dot-p.result ≡ (fractions turn c.args.ray.now c.args.a c.args.b c.args.c).p = cc in
    let q_is : c.signed_dot-q.result ≡ (fractions turn c.args.ray.now c.args.a c.args.b c.args.c).q = cc in
    let t_is : c.signed_dot.result ≡ (fractions turn c.args.ray.now c.args.a c.args.b c.args.c).t = cc in
    let p_size = c.signed_dot-p.ensures.size in
    let q_size = c.signed_dot-q.ensures.size in
    let size = rw read at c.turned-det.ensures.value in
    let some = positive_turned _ c.dot-det.result refl (λ none. c.if-det-eq0.false (ap (of_z w128) none)) in
    let p_sign = not_negative c.signed_dot-p.result (rw (read_wide c.signed_dot-p.result c.signed_dot-p.type_inv) at c.if-p-lt0.false) in
    let q_sign = not_negative c.signed_dot-q.result (rw (read_wide c.signed_dot-q.result c.signed_dot-q.type_inv) at c.if-q-lt0.false) in
    let sum = not_below c.turned-det.result (c.signed_dot-p.result +ℤ c.signed_dot-q.result) (rw (read_wide c.turned-det.result c.turned-det.type_inv, read_wide_sum c.signed_dot-p.result c.signed_dot-q.result (omega arith) (omega arith)) at c.if-det-p-2.false) in
    let inside = met (fractions turn c.args.ray.now c.args.a c.args.b c.args.c) (rw (← size, det_is) at some) (rw p_is at p_sign) (rw q_is at q_sign) (rw (det_is, p_is, q_is) at sum) in
    (rw (read_wide c.signed_dot.result c.signed_dot.type_inv, read_wide c.turned-det.result c.turned-det.type_inv, t_is, det_is) at c.depth_number.ensures) ∙ inside
    ∙ ap crossing_depth (sym (fractions-are turn c.args.ray.now c.args.a c.args.b c.args.c sign))
