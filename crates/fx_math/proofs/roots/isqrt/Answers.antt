use Rattle.std.proofs.Common.{◌≡◌, ℕ, rules, subst}
use Rattle.fx_math.specs.Root.{IsRoot}
use Rattle.fx_math.proofs.SquareRoots.{isqrt_by}
use Rattle.fx_math.proofs.roots.isqrt.Goals as goal

pub returns-in-Ok-clause-value : goal.returns-in-Ok-clause-value
returns-in-Ok-clause-value c =
    let small : c.in-Ok.small ≡ c.args.n = search rules in
    isqrt_by c.args.n c.small_root.result (subst (λ (n : ℕ). IsRoot n c.small_root.result) small c.small_root.ensures.root)

pub returns-in-Err-clause-value : goal.returns-in-Err-clause-value
returns-in-Err-clause-value c = isqrt_by c.args.n c.large_root.result c.large_root.ensures.root
