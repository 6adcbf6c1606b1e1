-- The words after the program's name: which commands there are, and what each takes.
use Rattle.std.specs.Prelude.{⊤, ◌≤◌, ℕ, List, [], ◌∷◌, Option, Some, None, String, codes, map, string_bytes, unwrap_or, option_and_then, if◌then◌else◌}
use Rattle.std.specs.Global.{Global}
use Rattle.std.specs.Bool.{then_some}
use Rattle.std.specs.Map.{lookup}
use Rattle.std.specs.Option.{option_map, option_map_or}
use Rattle.std.specs.Str.{bytes_eq}
use Rattle.report_text.specs.declared.prints.Print.{Print}
use Rattle.report_text.specs.declared.prints.Print.TheVariants.{Images, Journal, Summary}
use Rattle.command_words.specs.Numbers.{number_in}
use Rattle.command_words.specs.Options.{are_taken, options_of, value_of}
use Rattle.command_words.specs.declared.commands.Recipe.{Recipe}
use Rattle.command_words.specs.declared.commands.Command.{Command}
use Rattle.command_words.specs.declared.commands.Command.TheVariants.{Solo, Run, Make, Demo, Describe, Wire, Check, Ring}

abbrev Options : Type 0
Options = List (List ℕ × Option (List ℕ))

-- what is printed, by its word
abbrev pub print_of : List ℕ → Option Print
print_of value = lookup (bytes_eq value) ((codes "images", Images) ∷ (codes "journal", Journal) ∷ (codes "summary", Summary) ∷ [])

-- what is printed: images where nothing else is asked for
abbrev pub print_or_images : Option (List ℕ) → Option Print
print_or_images value = option_map_or print_of value (Some Images)

-- how many workers render, 0 to 16: four where no number is given
abbrev pub workers_or_four : Option (List ℕ) → Option ℕ
workers_or_four value = option_map_or (number_in 0 16) value (Some 4)

-- the number that an option has to give
abbrev pub needed : ℕ → ℕ → Option (List ℕ) → Option ℕ
needed least most value = option_and_then (number_in least most) value

-- a replay on one thread
abbrev pub solo_of : Options → Option Command
solo_of options = if are_taken (codes "--print" ∷ []) options then option_map Solo (print_or_images (value_of (codes "--print") options)) else None

-- a replay with workers
abbrev pub run_with : Option Print → Option ℕ → Option Command
run_with (Some print) (Some workers) = Some (Run print workers)
run_with print workers = None

abbrev pub run_of : Options → Option Command
run_of options = if are_taken (codes "--print" ∷ codes "--workers" ∷ []) options
    then run_with (print_or_images (value_of (codes "--print") options)) (workers_or_four (value_of (codes "--workers") options)) else None

-- what takes three numbers, and needs each
abbrev pub of_three : {T : Type 0} → (ℕ → ℕ → ℕ → T) → Option ℕ → Option ℕ → Option ℕ → Option T
of_three make (Some a) (Some b) (Some c) = Some (make a b c)
of_three make a b c = None

-- how a trace is made
abbrev pub recipe : ℕ → ℕ → ℕ → Recipe
recipe seed callers frames = record { seed = seed; callers = callers; frames = frames }

abbrev pub recipe_of : Options → Option Recipe
recipe_of options = if are_taken (codes "--seed" ∷ codes "--callers" ∷ codes "--frames" ∷ []) options
    then of_three recipe (needed 0 4294967295 (value_of (codes "--seed") options)) (needed 1 8 (value_of (codes "--callers") options))
    (needed 1 64 (value_of (codes "--frames") options)) else None

-- a ring of frames
abbrev pub ring_of : Options → Option Command
ring_of options = if are_taken (codes "--slots" ∷ codes "--pictures" ∷ codes "--readers" ∷ []) options
    then of_three Ring (needed 2 16 (value_of (codes "--slots") options)) (needed 1 64 (value_of (codes "--pictures") options))
    (needed 1 8 (value_of (codes "--readers") options)) else None

-- a command without options
abbrev pub alone : Command → Options → Option Command
alone command options = then_some (are_taken [] options) command

-- the commands by their words
abbrev pub commands_with : Options → List (List ℕ × Option Command)
commands_with options =
    (codes "solo", solo_of options) ∷ (codes "run", run_of options) ∷ (codes "make", option_map Make (recipe_of options)) ∷ (codes "demo", option_map Demo (recipe_of options))
    ∷ (codes "describe", alone Describe options) ∷ (codes "wire", alone Wire options) ∷ (codes "check", alone Check options) ∷ (codes "ring", ring_of options) ∷ []

-- the command that texts give, if they give one: the first is its word, the others are its options
abbrev pub command_in : List (List ℕ) → Option Command
command_in [] = None
command_in (word ∷ rest) = unwrap_or (lookup (bytes_eq word) (commands_with (options_of rest))) None

-- the command that words give, if they give one
abbrev pub commanded : List (String Global) → Option Command
commanded words = command_in (map string_bytes words)

-- the numbers of a recipe are in their ranges
abbrev pub CanBeMade : Recipe → Type 0
CanBeMade r = (1 ≤ r.callers) × (r.callers ≤ 8) × (1 ≤ r.frames) × (r.frames ≤ 64)

-- the numbers of a command are in their ranges
abbrev pub IsInRange : Command → Type 0
IsInRange (Solo print) = ⊤
IsInRange (Run print workers) = workers ≤ 16
IsInRange (Make recipe) = CanBeMade recipe
IsInRange (Demo recipe) = CanBeMade recipe
IsInRange Describe = ⊤
IsInRange Wire = ⊤
IsInRange Check = ⊤
IsInRange (Ring slots pictures readers) = (2 ≤ slots) × (slots ≤ 16) × (1 ≤ pictures) × (pictures ≤ 64) × (1 ≤ readers) × (readers ≤ 8)
