-- The ids that a picture shows.
use Rattle.std.specs.Prelude.{ℕ}

-- an id where there is none
abbrev pub no_id : ℕ
no_id = 0xFFFF_FFFF
