use Rattle.std.proofs.Common.{sym, ◌∙◌, ap, arith}
use Rattle.std.proofs.lemmas.List.Elements.{All-get_or}
use Rattle.picture_model.proofs.HitOrder.{filter_map-map, nearest_of-step, nearest_of-end}
use Rattle.picture_model.specs.Hits.{hit_with, nearest, nearest_of}
use Rattle.picture_model.specs.Limits.{IsPrimitiveWithin}
use Rattle.picture_model.proofs.search.nearest.Goals as goal

pub loop-primitive-init : goal.loop-primitive-init
unfolding nearest
loop-primitive-init c = ap nearest_of (sym (filter_map-map (hit_with c.args.ray.now) (λ p. (p.place, p.shape)) c.args.primitives.now))

pub loop-primitive-preserved : goal.loop-primitive-preserved
loop-primitive-preserved c =
    rw (c.nearer-best.ensures, c.hit_with.ensures)
    (nearest_of-step (λ p. hit_with c.args.ray.now (p.place, p.shape)) c.args.primitives.now c.loop-primitive.primitive-index _ c.loop-primitive.best c.loop-primitive-test.true
    ∙ c.loop-primitive.invariant)

pub hit_with-requires : goal.hit_with-requires
hit_with-requires c = record {
  ray = c.requires.ray;
  primitive = All-get_or IsPrimitiveWithin c.args.primitives.now c.loop-primitive.primitive-index _ c.loop-primitive-test.true c.requires.primitives;
}

pub returns : goal.returns
returns c =
    nearest_of-end (λ p. hit_with c.args.ray.now (p.place, p.shape)) c.args.primitives.now c.loop-primitive.primitive-index c.loop-primitive.best (omega arith)
    ∙ c.loop-primitive.invariant
