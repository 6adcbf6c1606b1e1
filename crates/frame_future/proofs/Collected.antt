-- Tiles that are collected one by one.
use Rattle.std.proofs.Common.{◌≡◌, ℕ, zero, suc, List, [], ◌∷◌, ◌++◌, length, Some, subst}
use Rattle.std.proofs.lemmas.Option.{none-some}
use Rattle.std.specs.List.{slice_get}
use Rattle.tile_claims.specs.declared.key.Key.{Key}
use Rattle.tile_claims.specs.Parts.{IsFilled}
use Rattle.tile_claims.specs.Pixels.{Pixels}
use Rattle.frame_future.specs.Pixels.{AreTiles}

-- what holds of each element by its place holds with one more at the end
more : (xs : List Pixels) (p : Pixels) (P : ℕ → Pixels → Type 0) → ((i : ℕ) (q : Pixels) → slice_get xs i ≡ Some q → P i q) → P (length xs) p
    → (i : ℕ) (q : Pixels) → slice_get (xs ++ p ∷ []) i ≡ Some q → P i q
more [] p P all last zero q at = let same : p ≡ q = cc in subst (P 0) same last
more [] p P all last (suc i) q at = absurd (none-some q at)
more (x ∷ xs) p P all last zero q at = all zero q at
more (x ∷ xs) p P all last (suc i) q at = more xs p (λ j r. P (suc j) r) (λ j r h. all (suc j) r h) last i q at

pub are_more : (key : Key) (xs : List Pixels) (p : Pixels) (tile : ℕ) → tile ≡ length xs → AreTiles key xs → IsFilled key tile p → AreTiles key (xs ++ p ∷ [])
are_more key xs p tile is are filled = more xs p (IsFilled key) are (subst (λ n. IsFilled key n p) is filled)
