-- How options are read: the command of `clap` that takes options of some names, and what it finds.
use Rattle.std.specs.Prelude.{List, [], ◌∷◌, Bool, true, Option, Some, None, not, nat_lt, ◌==◌, length, map, drop, codes}
use Rattle.std.specs.List.{list_all}
use Rattle.std.specs.Option.{option_map_or}
use Rattle.clap.specs.Simple.{App, filled, new_rule, new_shape}
use Rattle.clap.specs.Values.{reading_of}
use Rattle.clap.specs.Walk.{Row, Rule, Text}
use Rattle.clap.specs.declared.builder.action.ArgAction.TheVariants.{Set}
use Rattle.clap.specs.declared.builder.value_parser.ValueParser.TheVariants as parser
use Rattle.clap.specs.declared.parser.matches.ValueSource.TheVariants.{CommandLine}

-- an option's name with its hyphens
abbrev pub dashed : Text → Text
dashed name = 45 ∷ 45 ∷ name

-- an option with one value, as it is given, and as building fills it in
abbrev pub option_rule : Text → Rule
option_rule name = record (new_rule name) { long = Some name; action = Some Set }

abbrev pub built_rule : Text → Rule
built_rule name = filled (option_rule name)

-- the command that takes options of these names, and nothing else
abbrev pub app_with : List Text → App
app_with names = record {
  top = record (new_shape (codes "words")) { rules = map option_rule names; disable_help_flag = true; no_binary_name = true };
  subs = [];
}

-- what the use of an option leaves, and what options leave, in order
abbrev pub row : Text → Text → Row
row name value = record { id = name; values = value ∷ []; count = None; source = Some CommandLine; reading = reading_of parser.String }

abbrev pub rows_in : List (Text × Option Text) → List Row
rows_in [] = []
rows_in ((name, None) ∷ rest) = rows_in rest
rows_in ((name, Some value) ∷ rest) = row (drop 2 name) value ∷ rows_in rest

-- each name has a letter
abbrev pub is_named : List Text → Bool
is_named names = list_all (λ (name : Text). nat_lt 0 (length name)) names

-- the value begins with no hyphen, and no value does
abbrev pub is_plain : Text → Bool
is_plain [] = true
is_plain (x ∷ xs) = not (x == 45)

abbrev pub are_plain : List (Text × Option Text) → Bool
are_plain options = list_all (λ (o : Text × Option Text). option_map_or is_plain o.1 true) options
