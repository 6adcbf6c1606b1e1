-- What the parts of an object stand for.
use Rattle.std.specs.Prelude.{◌≡◌, ℕ, Option, length}
use Rattle.std.specs.Option.{MatchOption, option_map, unwrap_or}
use Rattle.handle_table.specs.HandleMaps.{HandleMap, value_at, with_value}
use Rattle.seq_model.specs.State.{ArrayState, Object, Phase, Empty, Flight, Done}
use Rattle.plain_objects.specs.declared.objects.Shows.{Shows}
use Rattle.plain_objects.specs.declared.objects.Shows.TheVariants as shows

-- what a frame has to show
abbrev pub phase_of : Shows → Phase
phase_of shows.Nothing = Empty
phase_of (shows.Flight t) = Flight t
phase_of (shows.Picture t) = Done t

-- the array, where there is one, has so many bytes
abbrev pub HasLength : Option ArrayState → ℕ → Type 0
HasLength array len = MatchOption array (Unit {0}) (λ a. length a.block.bytes ≡ len)

-- a table of objects with a change of the one at a handle, if it is there
abbrev pub changed_in : ℕ → (Object → Object) → HandleMap Object → HandleMap Object
changed_in h change table = unwrap_or (option_map (λ o. with_value table h (change o)) (value_at table h)) table
