use Rattle.std.proofs.Common.{not, arith, ap, sym, subst, ◌∙◌}
use Rattle.frame_future.specs.Future.{Future, is_picture_of, without_picture, IsKept}
use Rattle.frame_future.proofs.Kept.{kept-fewer}
use Rattle.frame_future.proofs.frames.Frames.forget_picture.Goals as goal

pub invariant_of-self : goal.invariant_of-self
invariant_of-self c =
    let s = c.self.inside in (
      subst (λ ps. IsKept (record { flights = s.flights.items; pictures = ps })) (sym c.drop_pictures.ensures.kept)
          (kept-fewer s.flights.items s.pictures.items (λ p. not (is_picture_of c.args.frame p)) c.self.invariant.0),
      omega (arith, c.self.invariant.1, c.drop_pictures.ensures.count, c.drop_pictures.ensures.capacity),
    )

pub returns : goal.returns
returns c = (λ i. record { flights = c.self.inside.flights.items; pictures = c.drop_pictures.ensures.kept i }) ∙ ap (λ (v : Future). without_picture v c.args.frame) c.self.view_is
