-- The marks of a sweep: one for each handle that was given so far.
use Rattle.std.specs.Prelude.{◌≡◌, ◌+◌, ◌<◌, ◌||◌, not, ℕ, zero, suc, Bool, false, List, length, slice_index_or}
use Rattle.std.specs.BTreeMap.{is_at}
use Rattle.std.specs.List.{filter, filter_map}
use Rattle.std.specs.Map.{lookup}
use Rattle.std.specs.Option.{option_map, option_to_list}
use Rattle.std.specs.Ordering.{nat_cmp}
use Rattle.dev_types.specs.declared.notices.Notice.{Notice}
use Rattle.seq_model.specs.State.{Object}
use Rattle.seq_model.specs.Told.{end_of_object}

-- the mark of a handle, where handle 1 has the first one
abbrev pub is_marked : List Bool → ℕ → Bool
is_marked marks zero = false
is_marked marks (suc i) = slice_index_or marks i false

-- the object with this handle, alone, if it is there
abbrev pub entry_at : ℕ → List (ℕ × Object) → List (ℕ × Object)
entry_at h objects = option_to_list (option_map (λ o. (h, o)) (lookup (is_at (nat_cmp h)) objects))

-- the objects with a mark
abbrev pub marked : List Bool → List (ℕ × Object) → List (ℕ × Object)
marked marks objects = filter (λ entry. is_marked marks entry.0) objects

-- each handle is marked that was marked, or that passes a test, and no other
abbrev pub Adds : (ℕ → Bool) → List Bool → List Bool → Type 0
Adds passes old new = (i : ℕ) → i < length old → slice_index_or new i false ≡ (slice_index_or old i false || passes (i + 1))

-- the ends of the objects without a mark
abbrev pub ends_of_unmarked : List Bool → List (ℕ × Object) → List Notice
ends_of_unmarked marks objects = filter_map end_of_object (filter (λ entry. not (is_marked marks entry.0)) objects)
