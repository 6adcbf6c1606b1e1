-- What a device asks of the objects that it keeps, so that they are those that live.
use Rattle.std.specs.Prelude.{◌≡◌, ℕ, Bool, List, Some, true, ◌⊎◌}
use Rattle.std.specs.BTreeMap.{is_at}
use Rattle.std.specs.Map.{lookup}
use Rattle.std.specs.Ordering.{nat_cmp}
use Rattle.seq_model.specs.Life.{has, names_of}
use Rattle.seq_model.specs.State.{Object}

-- the roots are kept; what a kept object names is kept; and each kept object is a root, or a kept
-- object names it
pub record IsHeldUp (root keep : ℕ × Object → Bool) (objects : List (ℕ × Object)) : Type 0 where
  pub roots : (h : ℕ) (o : Object) → lookup (is_at (nat_cmp h)) objects ≡ Some o →
      root (h, o) ≡ true → keep (h, o) ≡ true
  pub named : (h k : ℕ) (o p : Object) → lookup (is_at (nat_cmp h)) objects ≡ Some o →
      keep (h, o) ≡ true → has k (names_of o) ≡ true →
      lookup (is_at (nat_cmp k)) objects ≡ Some p → keep (k, p) ≡ true
  pub held : (h : ℕ) (o : Object) → lookup (is_at (nat_cmp h)) objects ≡ Some o →
      keep (h, o) ≡ true → (root (h, o) ≡ true) ⊎ ((k : ℕ) × (p : Object) ×
      (lookup (is_at (nat_cmp k)) objects ≡ Some p) × (keep (k, p) ≡ true) ×
      (has h (names_of p) ≡ true))
