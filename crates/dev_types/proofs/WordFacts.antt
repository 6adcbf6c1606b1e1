-- Types and channels are found again by their names.
use Rattle.std.proofs.Common.{ℕ, List, [], ◌∷◌, ◌≡◌, Some, Bool, true, refl}
use Rattle.std.specs.Prelude.{IfSome, All, IsTrue}
use Rattle.std.specs.List.{list_all}
use Rattle.std.specs.Str.{bytes_eq}
use Rattle.std.proofs.lemmas.Map.Entries.{All-lookup}
use Rattle.std.proofs.lemmas.List.Elements.{All-nil, All-cons}
use Rattle.dev_types.proofs.TextFacts.{both}
use Rattle.dev_types.specs.Bounded.{is_name}
use Rattle.dev_types.specs.DataTypes.{is_object_type}
use Rattle.dev_types.specs.Words.{name_of_type, type_named, types_by_word, type_worded, name_of_channel, channel_named}
use Rattle.dev_types.specs.declared.data_types.DataType.{DataType}
use Rattle.dev_types.specs.declared.data_types.DataType.TheVariants as ty
use Rattle.dev_types.specs.declared.handles.Channel.{Channel}
use Rattle.dev_types.specs.declared.handles.Channel.TheVariants as ch

-- the type with a type's name is that type
pub type_of_name : (t : DataType) → type_named (name_of_type t) ≡ Some t
type_of_name ty.Int32 = refl
type_of_name _ = refl

-- the channel with a channel's name is that channel
pub channel_of_name : (c : Channel) → channel_named (name_of_channel c) ≡ Some c
channel_of_name ch.Color = refl
channel_of_name _ = refl

-- what names a channel is a name
pub channels_have_names : (c : Channel) → is_name (name_of_channel c) ≡ true
channels_have_names ch.Color = refl
channels_have_names _ = refl

-- the entry has an object type
abbrev is_of_object : List ℕ × DataType → Bool
is_of_object row = is_object_type row.1

-- a test that every item of a list passes holds of each
each_passes : {X : Type 0} (p : X → Bool) (xs : List X) → list_all p xs ≡ true → All (λ x. IsTrue (p x)) xs
each_passes p [] h = All-nil (λ x. IsTrue (p x))
each_passes p (x ∷ xs) h =
    let parts : (p x ≡ true) × (list_all p xs ≡ true) = both (p x) (list_all p xs) h in
    All-cons (λ y. IsTrue (p y)) x xs parts.0 (each_passes p xs parts.1)

-- only object types have words
pub worded_types_are_objects : (word : List ℕ) → IfSome (type_worded word) (λ (t : DataType). IsTrue (is_object_type t))
worded_types_are_objects word =
    All-lookup (λ (t : DataType). IsTrue (is_object_type t)) (bytes_eq word) types_by_word (each_passes is_of_object types_by_word refl)
