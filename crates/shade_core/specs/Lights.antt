-- Light as three naturals.
use Rattle.std.specs.Prelude.{ℕ, ◌≤◌, ◌≡◌, ℤ, pos}
use Rattle.shade_core.specs.declared.lights.Light.{Light}

-- component i of the light is f i
pub record IsLight (f : ℕ → ℤ) (light : Light) : Type 0 where
  pub red : pos light.red ≡ f 0
  pub green : pos light.green ≡ f 1
  pub blue : pos light.blue ≡ f 2

-- no component is above `most`
pub record IsLightUpTo (most : ℕ) (light : Light) : Type 0 where
  pub red : light.red ≤ most
  pub green : light.green ≤ most
  pub blue : light.blue ≤ most
