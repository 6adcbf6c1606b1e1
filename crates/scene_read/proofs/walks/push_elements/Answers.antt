use Rattle.std.proofs.Common.{◌++◌, ◌∙◌, ap, sym, append_assoc}
use Rattle.scene_read.proofs.ListFacts.{filter_map-range_more}
use Rattle.scene_read.specs.Starts.{element_start}
use Rattle.scene_read.proofs.walks.push_elements.Goals as goal

pub loop-i-preserved : goal.loop-i-preserved
loop-i-preserved c =
    rw (c.in_ok-push_some.ensures, c.loop-i.invariant, c.element_start.ensures)
    (append_assoc c.args.starts.now.items _ _
    ∙ ap (λ xs. c.args.starts.now.items ++ xs) (sym (filter_map-range_more (element_start c.args.kind c.args.spot c.args.elements.now) c.loop-i.i)))
