use Rattle.std.proofs.Common.{◌∙◌, ap, sym}
use Rattle.dev_types.specs.declared.values.Value.TheVariants as value
use Rattle.kind_tables.specs.declared.kinds.Kind.{Kind}
use Rattle.scene_read.specs.Starts.{all_seen}
use Rattle.seq_model.specs.Properties.{property_by}
use Rattle.device_queries.proofs.Widened.{bounds_told}
use Rattle.device_queries.proofs.properties.property_by.Goals as goal

pub returns-in_ok-visits-in-WorldDefault-clause-value : goal.returns-in_ok-visits-in-WorldDefault-clause-value
returns-in_ok-visits-in-WorldDefault-clause-value g c = λ fit.
    ap value.ScalarBox3
    (bounds_told (g.O.Objects.objects c.args.state.now) c.args.h (all_seen (g.O.Objects.objects c.args.state.now) c.in_ok-visits-in-WorldDefault.visits) c.bounds.result fit
    c.in_ok-visits-in-WorldDefault.ensures.seen c.in_ok-visits-in-WorldDefault.ensures.sound c.bounds.ensures)
    ∙ sym (ap (property_by (g.O.Objects.objects c.args.state.now) c.args.h c.args.done) c.in-WorldDefault.is)
