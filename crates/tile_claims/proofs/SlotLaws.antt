-- Slots of blank tiles, one after the other.
use Rattle.std.proofs.Common.{◌≡◌, ℕ, ◌+◌, ◌≤◌, List, [], ◌∷◌, ◌++◌, Option, Some, length, arith, subst, sym, ◌∙◌}
use mathlib.Core.Logic.{dite}
use native.Mathlib.Decide.{ℕ_discrete}
use Rattle.atomic_table.proofs.Lists.{at_last, at_longer}
use Rattle.picture_model.specs.Tiles.{tile_rect}
use Rattle.tile_claims.specs.declared.key.Key.{Key}
use Rattle.tile_claims.specs.Parts.{AreSlots, IsSized, rect_of}
use Rattle.tile_claims.specs.Pixels.{Pixels}

pub slots_more : (key : Key) (count : ℕ) (slots : List (Option Pixels)) (p : Pixels) → length slots ≡ count → AreSlots key count slots → IsSized key count p
    → AreSlots key (count + 1) (slots ++ Some p ∷ [])
slots_more key count slots p long before sized tile below = dite (ℕ_discrete tile count)
    (λ e. (p, at_last slots (Some p) tile (long ∙ sym e), subst (λ t. IsSized key t p) (sym e) sized))
    (λ apart. let old = before tile (omega arith) in (old.0, at_longer slots (Some p ∷ []) tile (Some old.0) old.1, old.2))

-- no side of a tile is above 16
pub rect_of-w : (key : Key) (tile : ℕ) → (rect_of key tile).w ≤ 16
unfolding tile_rect
rect_of-w key tile = omega arith

pub rect_of-h : (key : Key) (tile : ℕ) → (rect_of key tile).h ≤ 16
unfolding tile_rect
rect_of-h key tile = omega arith
