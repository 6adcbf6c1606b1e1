-- What is written behind a text leaves the text as it was.
use Rattle.std.proofs.Common.{ℕ, List, arith}
use Rattle.std.proofs.lemmas.Grind.{common_steps}
use Rattle.ppm_out.specs.Ppm.{KeepsFront}

pub front_twice : (old mid new : List ℕ) → KeepsFront old mid → KeepsFront mid new → KeepsFront old new
front_twice old mid new h k = grind (arith, common_steps)
