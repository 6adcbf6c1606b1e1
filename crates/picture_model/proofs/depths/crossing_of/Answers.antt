use Rattle.std.proofs.Common.{◌≡◌, ◌∙◌, ap, neg_ℤ}
use Rattle.fx_math.specs.Vec3.{cross, dot, sub}
use Rattle.picture_model.proofs.Crossings.{abs-neg, kept, negated, negated_fits, same_crossing}
use Rattle.picture_model.specs.Depths.{crossing}
use Rattle.picture_model.proofs.depths.crossing_of.Goals as goal

pub overflow_sub-result : goal.overflow_sub-result
overflow_sub-result c = negated_fits c.triple.result c.triple.ensures.size

pub overflow_sub-result-2 : goal.overflow_sub-result-2
overflow_sub-result-2 c = negated_fits c.triple-3.result c.triple-3.ensures.size

pub overflow_sub-result-3 : goal.overflow_sub-result-3
overflow_sub-result-3 c = negated_fits c.triple-4.result c.triple-4.ensures.size

pub returns-clause-value : goal.returns-clause-value
unfolding crossing
returns-clause-value c =
    let det : c.triple.result ≡ dot c.args.ray.now.d (cross (sub c.args.b c.args.a) (sub c.args.c c.args.a)) = cc in
    let t : c.triple-2.result ≡ dot (sub c.args.ray.now.o c.args.a) (cross (sub c.args.b c.args.a) (sub c.args.c c.args.a)) = cc in
    let p : c.triple-3.result ≡ dot c.args.ray.now.d (cross (sub c.args.ray.now.o c.args.a) (sub c.args.c c.args.a)) = cc in
    let q : c.triple-4.result ≡ dot c.args.ray.now.d (cross (sub c.args.b c.args.a) (sub c.args.ray.now.o c.args.a)) = cc in
    same_crossing _ _
    (negated c.triple.result c.triple.ensures.size ∙ ap neg_ℤ det)
    (kept c.triple-2.result c.triple-2.ensures.size ∙ t)
    (negated c.triple-3.result c.triple-3.ensures.size ∙ ap neg_ℤ p)
    (negated c.triple-4.result c.triple-4.ensures.size ∙ ap neg_ℤ q)

pub returns-clause-size : goal.returns-clause-size
returns-clause-size c = record {
  det = rw (negated c.triple.result c.triple.ensures.size, abs-neg c.triple.result) c.triple.ensures.size;
  t = rw (kept c.triple-2.result c.triple-2.ensures.size) c.triple-2.ensures.size;
  p = rw (negated c.triple-3.result c.triple-3.ensures.size, abs-neg c.triple-3.result) c.triple-3.ensures.size;
  q = rw (negated c.triple-4.result c.triple-4.ensures.size, abs-neg c.triple-4.result) c.triple-4.ensures.size;
}
