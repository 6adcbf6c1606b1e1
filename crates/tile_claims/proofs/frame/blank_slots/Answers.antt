use Rattle.std.proofs.Common.{◌≤◌, ◌+◌, arith, sym, ap, ◌∙◌, subst, length, length-append}
use Rattle.picture_model.specs.declared.records.Rect.{Rect}
use Rattle.tile_claims.specs.Parts.{AreSlots}
use Rattle.tile_claims.proofs.SlotLaws.{slots_more, rect_of-w, rect_of-h}
use Rattle.tile_claims.proofs.frame.blank_slots.Goals as goal

pub blank-requires-clause-width : goal.blank-requires-clause-width
blank-requires-clause-width c = subst (λ (r : Rect). r.w ≤ 16) (sym c.tile_rect-rect.ensures.value) (rect_of-w c.args.key.now c.loop-tile.tile)

pub blank-requires-clause-height : goal.blank-requires-clause-height
blank-requires-clause-height c = subst (λ (r : Rect). r.h ≤ 16) (sym c.tile_rect-rect.ensures.value) (rect_of-h c.args.key.now c.loop-tile.tile)

pub loop-tile-preserved : goal.loop-tile-preserved
loop-tile-preserved c =
    let key = c.args.key.now in
    let tile = c.loop-tile.tile in
    let value = c.tile_rect-rect.ensures.value in
    let sides = c.in_ok-blank.ensures in
    let items = c.in_ok-push.ensures.items in (
      ap length items ∙ length-append c.loop-tile.slots.items _ ∙ omega (arith, c.loop-tile.invariant.0),
      subst (AreSlots key (tile + 1)) (sym items)
          (slots_more key tile c.loop-tile.slots.items c.in_ok-blank.field-0 c.loop-tile.invariant.0 c.loop-tile.invariant.1
          record { width = sides.0 ∙ ap (λ (r : Rect). r.w) value; height = sides.1 ∙ ap (λ (r : Rect). r.h) value }),
    )
