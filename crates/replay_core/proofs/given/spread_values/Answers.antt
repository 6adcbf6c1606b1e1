use Rattle.std.proofs.Common.{rules, [], ◌*◌, ◌≡◌, ◌∙◌, ◌<◌, get_or, take, drop, sym, arith}
use Rattle.std.proofs.lemmas.List.FromFn.{get_or-map-range_with_len, length-map-range_with_len}
use Rattle.dev_types.specs.DataTypes.{byte_size}
use Rattle.replay_core.proofs.Spreads.{spread_all, spread_more}
use Rattle.replay_core.proofs.given.spread_values.Invariants.{parts}
use Rattle.replay_core.proofs.given.spread_values.Goals as goal

pub loop-i-preserved : goal.loop-i-preserved
loop-i-preserved c =
    let below : c.loop-i.i < c.args.count = omega arith in
    let own : c.part.result.now ≡ take (byte_size c.args.elem) (drop (c.loop-i.i * byte_size c.args.elem) c.args.values.now) = search rules in
    let at : get_or (parts c.args.elem c.args.count c.args.values.now) c.loop-i.i [] ≡ c.part.result.now =
    get_or-map-range_with_len (λ i. take (byte_size c.args.elem) (drop (i * byte_size c.args.elem) c.args.values.now)) 0 c.args.count c.loop-i.i c.loop-i.i [] below (omega arith) ∙ sym own in
    spread_more c.args.stride (parts c.args.elem c.args.count c.args.values.now) c.loop-i.i c.args.count c.part.result.now c.loop-i.bytes.items c.push_part.new.bytes.items _
    below (length-map-range_with_len (λ i. take (byte_size c.args.elem) (drop (i * byte_size c.args.elem) c.args.values.now)) 0 c.args.count)
    at c.in_ok-push_part.ensures c.loop-i.invariant

pub returns : goal.returns
returns c =
    spread_all c.args.stride (parts c.args.elem c.args.count c.args.values.now) c.loop-i.i c.loop-i.bytes.items _
    (length-map-range_with_len (λ i. take (byte_size c.args.elem) (drop (i * byte_size c.args.elem) c.args.values.now)) 0 c.args.count ∙ (omega arith)) c.loop-i.invariant
