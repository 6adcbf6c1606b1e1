use Rattle.std.proofs.Common.{◌%◌, length, ap, ◌∙◌}
use Rattle.tile_claims.specs.Pixels.{row}
use Rattle.tile_claims.specs.Seats.{key_of}
use Rattle.frame_future.proofs.PixelParts.{length-part, part_found}
use Rattle.frame_future.proofs.tiles.Tiles.part.Goals as goal

pub row-requires-clause-row : goal.row-requires-clause-row
row-requires-clause-row c =
    let s = c.self.inside in
    (part_found (key_of s.of.value) c.args.self.now s.pixels.items s.w c.div_ceil.result c.args.channel c.args.y c.args.column c.index.result.now c.self.view_is
    c.self.invariant.0 c.self.invariant.2 c.div_ceil.ensures c.requires.row c.requires.column c.index.ensures).0

pub returns-clause-value : goal.returns-clause-value
returns-clause-value c =
    let s = c.self.inside in
    c.row.ensures ∙ ap (λ n. row c.index.result.now n (c.args.y % 16)) c.number.ensures.value
    ∙ (part_found (key_of s.of.value) c.args.self.now s.pixels.items s.w c.div_ceil.result c.args.channel c.args.y c.args.column c.index.result.now c.self.view_is
    c.self.invariant.0 c.self.invariant.2 c.div_ceil.ensures c.requires.row c.requires.column c.index.ensures).1

pub returns-clause-count : goal.returns-clause-count
returns-clause-count c = ap length (returns-clause-value c) ∙ length-part c.args.self.now c.args.channel c.args.y c.args.column c.requires.row c.requires.column
