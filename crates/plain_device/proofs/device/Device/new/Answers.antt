use Rattle.std.proofs.Common.{◌≡◌, ◌≤◌, length, refl, rules, subst, sym, arith}
use Rattle.seq_model.specs.Extensions.{let_follow, let_follow_from}
use Rattle.seq_model.specs.Steps.{Past, start}
use Rattle.past_laws.specs.Open.{IsOpen}
use Rattle.plain_device.proofs.device.Device.new.Goals as goal

pub invariant_of-result : goal.invariant_of-result
unfolding let_follow let_follow_from
invariant_of-result g c =
    let is : c.in-Ok.record ≡ start = search rules in
    subst (λ (p : Past). IsOpen p.seen × (length p.state.objects ≤ g.C.Client.spare c.args.client)) (sym is) ((λ actor call r. refl), omega arith)
