use Rattle.std.proofs.Common.{◌∙◌, ◌<◌, arith, sym, subst}
use Rattle.device_core.proofs.SweptFacts.{swept_longer, swept_loans}
use Rattle.device_core.proofs.states.DeviceState.sweep.Goals as goal

pub invariant_of-self : goal.invariant_of-self
invariant_of-self g c =
    let old = c.self.inside.parts in
    let new = c.sweep.new.self in (
      record {
        all_told = c.sweep.ensures.all_told;
        spare = c.sweep.ensures.spare;
        counted = (let was = c.self.invariant.0.counted in let fewer = c.sweep.ensures.fewer in let longer = swept_longer old new c.sweep.ensures.swept in omega (arith, was, fewer, longer));
        within = subst (λ n. n < c.self.inside.limit) (sym c.sweep.ensures.places) c.self.invariant.0.within;
        limit = c.self.invariant.0.limit;
        stands = λ going. c.sweep.ensures.stands (c.self.invariant.0.stands going);
      },
      c.self.invariant.1 ∙ sym (swept_loans old new c.are_parts.ensures c.sweep.ensures.swept),
    )
