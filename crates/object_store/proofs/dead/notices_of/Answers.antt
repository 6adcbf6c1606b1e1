use Rattle.std.proofs.Common.{◌∙◌, [], ◌∷◌, Some, length, take, sym, ap, arith}
use Rattle.std.specs.List.{filter_map}
use Rattle.std.proofs.lemmas.List.{length-take}
use Rattle.std.proofs.lemmas.Option.{slice_get-get_or}
use Rattle.object_store.specs.Ends.{notice_of}
use Rattle.object_store.proofs.MoveFacts.{one_more}
use Rattle.object_store.proofs.Reversed.{collected_more, front_collected, one_of}
use Rattle.object_store.proofs.dead.notices_of.Goals as goal

pub overflow_add-count : goal.overflow_add-count
overflow_add-count c =
    let most = one_of notice_of (take c.loop-e.e-index c.args.ended.now) in
    let few = length-take c.loop-e.e-index c.args.ended.now in
    let so_far = c.loop-e.invariant in
    let here = c.loop-e-test.true in
    let one = one_of notice_of (c.e-item.result ∷ []) in
    let told = c.notice_count-count.ensures in
    let same = front_collected notice_of [] c.e-item.result in
    omega (arith, most, few, so_far, here, one, told, same, c.loop-e.auto.e-index-end)

pub loop-e-preserved : goal.loop-e-preserved
loop-e-preserved c =
    let found = slice_get-get_or c.args.ended.now c.loop-e.e-index c.e-item.result c.loop-e-test.true ∙ ap Some (sym c.e-item.is) in
    let so_far = c.loop-e.invariant in
    let told = c.notice_count-count.ensures in
    let more = ap (λ es. length (filter_map notice_of es)) (one_more c.args.ended.now c.loop-e.e-index c.e-item.result found)
    ∙ collected_more notice_of (take c.loop-e.e-index c.args.ended.now) c.e-item.result in
    omega (arith, so_far, told, more)
