use Rattle.std.proofs.Common.{map, Some, ap, sym, ◌∙◌}
use Rattle.serde_json.specs.View.{view}
use Rattle.trace_text.proofs.JsonFacts.{list_of-array}
use Rattle.trace_text.proofs.json.list.Goals as goal

pub returns : goal.returns
returns c =
    ap (λ values. Some (map view values)) c.as_slice.ensures.value
    ∙ sym (list_of-array (view c.args.value.now) (map view c.in_ok-as_array.field-0.now.items) (sym c.in_ok-as_array.ensures))
