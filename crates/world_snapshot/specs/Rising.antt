-- Primitives in the order of their places.
use Rattle.std.specs.Prelude.{ℕ, ◌≡◌, ◌<◌, ◌≤◌, true, false, List, length, get_or}
use Rattle.fx_math.specs.declared.scene.Place.{Place}
use Rattle.fx_math.specs.declared.scene.Primitive.{Primitive}
use Rattle.picture_model.specs.Hits.{is_lower}

-- of the first n primitives each has a lower place than those behind it
abbrev pub AreRising : List Primitive → ℕ → Type 0
AreRising ps n = (i j : ℕ) (d : Primitive) → i < j → j < n → is_lower (get_or ps i d).place (get_or ps j d).place ≡ true

-- the first n primitives have lower places than this one
abbrev pub AreLower : List Primitive → ℕ → Place → Type 0
AreLower ps n place = (i : ℕ) (d : Primitive) → i < n → is_lower (get_or ps i d).place place ≡ true

-- those from number n on have not
abbrev pub AreNotLower : List Primitive → ℕ → Place → Type 0
AreNotLower ps n place = (i : ℕ) (d : Primitive) → n ≤ i → i < length ps → is_lower (get_or ps i d).place place ≡ false
