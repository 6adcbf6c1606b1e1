use Rattle.std.proofs.Common.{[], ◌≡◌, ◌∙◌, ◌<◌, get_or, length, sym, ap, arith}
use Rattle.std.specs.Int.{to_le_bytes, w64}
use Rattle.std.proofs.lemmas.List.{get_or-map, length-map}
use Rattle.replay_core.proofs.Spreads.{spread_all, spread_more}
use Rattle.replay_core.proofs.given.spread_objects.Invariants.{parts}
use Rattle.replay_core.specs.Views.{meaning_of}
use Rattle.replay_core.proofs.given.spread_objects.Goals as goal

pub loop-i-preserved : goal.loop-i-preserved
loop-i-preserved c =
    let below : c.loop-i.i < length c.args.names.now = omega arith in
    let at : get_or (parts (meaning_of c.args.labels.now) c.args.names.now) c.loop-i.i [] ≡ c.object_part-part.result =
    get_or-map (λ label. to_le_bytes w64 (meaning_of c.args.labels.now label)) c.args.names.now c.loop-i.i c.index-names-i.result [] below
    ∙ ap (λ label. to_le_bytes w64 (meaning_of c.args.labels.now label)) (sym c.index-names-i.is) ∙ sym c.object_part-part.ensures in
    spread_more c.args.stride (parts (meaning_of c.args.labels.now) c.args.names.now) c.loop-i.i (length c.args.names.now) c.object_part-part.result c.loop-i.bytes.items c.push_part.new.bytes.items _
    below (length-map c.args.names.now (λ label. to_le_bytes w64 (meaning_of c.args.labels.now label)))
    at c.in_ok-push_part.ensures c.loop-i.invariant

pub returns : goal.returns
returns c =
    spread_all c.args.stride (parts (meaning_of c.args.labels.now) c.args.names.now) c.loop-i.i c.loop-i.bytes.items _
    (length-map c.args.names.now (λ label. to_le_bytes w64 (meaning_of c.args.labels.now label)) ∙ (omega arith)) c.loop-i.invariant
