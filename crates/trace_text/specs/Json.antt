-- What a JSON value gives: texts, numbers and lists, under the keys of an object.
use Rattle.std.specs.Prelude.{ℕ, ℤ, List, [], ◌∷◌, Bool, false, Option, Some, None, is_some, option_map, option_and_then, unwrap_or, if◌then◌else◌}
use Rattle.std.specs.List.{list_any, list_all}
use Rattle.std.specs.Str.{bytes_eq}
use Rattle.dev_types.specs.Bounded.{is_name}
use Rattle.serde_json.specs.Data.{Data, Items, no_items, item, Members, no_members, member}
use Rattle.serde_json.specs.Find.{get, as_array, as_integer, as_number, as_object, as_str, as_u64}

-- the values of a list, first to last
abbrev pub elements : Items → List Data
elements no_items = []
elements (item d ds) = d ∷ elements ds

abbrev pub list_of : Data → Option (List Data)
list_of d = option_map elements (as_array d)

abbrev pub is_list : Data → Bool
is_list d = is_some (as_array d)

-- the values of a list, and none of what is no list
abbrev pub items_of : Data → List Data
items_of d = unwrap_or (list_of d) []

-- a label, a subtype or a name: 1 to 64 bytes from 0x21 to 0x7E
abbrev pub name_of : Data → Option (List ℕ)
name_of d = option_and_then (λ s. if is_name s then Some s else None) (as_str d)

-- a whole number from 0 to 2^64 - 1
abbrev pub count_of : Data → Option ℕ
count_of d = option_and_then as_u64 (as_number d)

-- a whole number from -2^63 to 2^64 - 1
abbrev pub whole_of : Data → Option ℤ
whole_of d = option_and_then as_integer (as_number d)

-- what each value gives, where each gives something
abbrev pub each : {D A : Type 0} → (D → Option A) → List D → Option (List A)
each f [] = Some []
each f (d ∷ ds) = option_and_then (λ x. option_map (λ xs. x ∷ xs) (each f ds)) (f d)

-- what f makes of so many parts, where each of them is there
abbrev pub from2 : {A B R : Type 0} → (A → B → R) → Option A → Option B → Option R
from2 f a b = option_and_then (λ x. option_map (f x) b) a

abbrev pub from3 : {A B C R : Type 0} → (A → B → C → R) → Option A → Option B → Option C → Option R
from3 f a b c = option_and_then (λ x. from2 (f x) b c) a

abbrev pub from4 : {A B C D R : Type 0} → (A → B → C → D → R) → Option A → Option B → Option C → Option D → Option R
from4 f a b c d = option_and_then (λ x. from3 (f x) b c d) a

-- what f gives of the value of a key; nothing where the key is missing
abbrev pub field : {A : Type 0} → (Data → Option A) → List ℕ → Data → Option A
field f key d = option_and_then f (get key d)

-- the same, but with an answer where the key is missing
abbrev pub given : {A : Type 0} → A → (Data → Option A) → Option Data → Option A
given missing f None = Some missing
given missing f (Some d) = f d

abbrev pub field_or : {A : Type 0} → A → (Data → Option A) → List ℕ → Data → Option A
field_or missing f key d = given missing f (get key d)

-- the keys of an object
abbrev pub keys_of : Members → List (List ℕ)
keys_of no_members = []
keys_of (member k d ms) = k ∷ keys_of ms

-- an object that has no other keys
abbrev pub has_only : List (List ℕ) → Data → Bool
has_only keys d = unwrap_or (option_map (λ ms. list_all (λ k. list_any (bytes_eq k) keys) (keys_of ms)) (as_object d)) false
