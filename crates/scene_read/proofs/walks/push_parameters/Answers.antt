use Rattle.std.proofs.Common.{◌++◌, ◌∙◌, ap, sym, append_assoc}
use Rattle.dev_types.specs.Bounded.{is_name}
use Rattle.scene_read.proofs.ListFacts.{filter_map-map_more, list_all-map_at}
use Rattle.scene_read.specs.Starts.{parameter_start}
use Rattle.scene_read.proofs.walks.push_parameters.Goals as goal

pub parameter_start-requires : goal.parameter_start-requires
parameter_start-requires g c =
    list_all-map_at (λ text. text.now) is_name c.parameters_of-text-items.result.now c.loop-text.text-index _ c.loop-text-test.true
    (rw c.parameters_of-text-items.ensures.value c.parameters_of-text-items.ensures.names)

pub loop-text-preserved : goal.loop-text-preserved
loop-text-preserved g c =
    rw (c.in_ok-push_some.ensures, c.loop-text.invariant, c.parameter_start.ensures)
    (append_assoc c.args.starts.now.items _ _
    ∙ ap (λ xs. c.args.starts.now.items ++ xs)
    (sym (filter_map-map_more (λ text. text.now) (parameter_start (g.O.Objects.objects c.args.state.now) c.args.handle c.args.spot) c.parameters_of-text-items.result.now c.loop-text.text-index _ c.loop-text-test.true)))
