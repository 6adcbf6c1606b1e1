-- What is known of an array that is kept.
use Rattle.std.specs.Prelude.{◌≤◌, ◌^◌}
use Rattle.byte_view.specs.Elements.{Elements, Fit}

-- elements that lie in their bytes, at most 2^28
pub record IsHeld (e : Elements) : Type 0 where
  pub fit : Fit e
  pub counted : e.count ≤ 2 ^ 28
