use Rattle.std.proofs.Common.{arith, sym, subst}
use Rattle.frame_future.specs.Future.{AreHome}
use Rattle.device_calls.proofs.HoldFacts.{first_is, nothing_told}
use Rattle.device_calls.proofs.state.SharedState.new.Goals as goal

pub invariant_of-result : goal.invariant_of-result
invariant_of-result g c = record {
  home = subst AreHome (sym c.in-Ok.ensures.flights) (λ k f less. absurd (omega (arith, less)));
  going = c.in-Ok.ensures.going;
  first = g.C.Client.notices c.args.client;
  told = nothing_told c.in-Ok.device (g.C.Client.notices c.args.client) c.in-Ok.ensures.history c.in-Ok.ensures.told;
}

pub returns-in-Ok-clause-given : goal.returns-in-Ok-clause-given
returns-in-Ok-clause-given g c =
    let notices = first_is c.in-Ok.device (g.C.Client.notices c.args.client) (nothing_told c.in-Ok.device (g.C.Client.notices c.args.client) c.in-Ok.ensures.history c.in-Ok.ensures.told) in
    (λ i. record { limit = c.in-Ok.ensures.limit i; notices = notices i })
