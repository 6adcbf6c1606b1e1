-- Where the tiles of a picture are. No public clause cites this module.
use Rattle.std.specs.Prelude.{◌≡◌, Option, Some, None}
use Rattle.tile_claims.specs.declared.key.Key.{Key}

-- the tiles of the key's picture are there: not shared yet, or shared
abbrev pub AreThere : Option Key → Option Key → Key → Type 0
AreThere (Some own) shared key = own ≡ key
AreThere None (Some shared) key = shared ≡ key
AreThere None None key = ⊥
