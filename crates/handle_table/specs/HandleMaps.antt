-- A table of values by handle, as contracts see it.
use Rattle.std.specs.Prelude.{◌≡◌, ◌≢◌, ℕ, ◌+◌, ◌≤◌, List, [], ◌∷◌, Option, refl}
use Rattle.std.specs.BTreeMap.{is_at}
use Rattle.std.specs.Map.{lookup, set_value}
use Rattle.std.specs.Ordering.{nat_cmp}
use Rattle.std.specs.Coded.{Coded, code_by, coded×, coded_ℕ, coded_list}

-- the handles that hold a value, each with its value, by rising handle; the handle of the next
-- insertion; and how many insertions need no memory
pub record HandleMap (T : Type 0) : Type 0 where
  pub entries : List (ℕ × T)
  pub next : ℕ
  pub spare : ℕ

-- such a map is stored as the tuple of its fields
abbrev pub coded_map : {T : Type 0} → Coded T → Coded (HandleMap T)
coded_map {T} code =
    code_by
    (List (ℕ × T) × (ℕ × ℕ))
    (coded× (coded_list (coded× coded_ℕ code)) (coded× coded_ℕ coded_ℕ))
    (λ m. (m.entries, (m.next, m.spare)))
    (λ p. record { entries = p.0; next = p.1.0; spare = p.1.1 })
    (λ _. refl)

module _ {T : Type 0} where
  -- the value at a handle, if one stands there
  abbrev pub value_at : HandleMap T → ℕ → Option T
  value_at m h = lookup (is_at (nat_cmp h)) m.entries

  -- the map with another value in the place of the one at a handle
  abbrev pub with_value : HandleMap T → ℕ → T → HandleMap T
  with_value m h value = record m { entries = set_value (is_at (nat_cmp h)) m.entries value }

  -- the new map has this at the handle, and each other handle keeps what it had
  pub record ChangesAt (old new : HandleMap T) (h : ℕ) (value : Option T) : Type 0 where
    pub changed : value_at new h ≡ value
    pub others : (other : ℕ) → other ≢ h → value_at new other ≡ value_at old other

  -- the handles rise from one on, and end before another
  abbrev pub RiseWithin : ℕ → ℕ → List (ℕ × T) → Type 0
  RiseWithin from end [] = from ≤ end
  RiseWithin from end (entry ∷ rest) = (from ≤ entry.0) × RiseWithin (entry.0 + 1) end rest
