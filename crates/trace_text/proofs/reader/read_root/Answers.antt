use Rattle.std.proofs.Common.{◌≡◌, Some, Option, List, map, sym, ap, ◌∙◌, subst}
use Rattle.std.specs.Prelude.{option_map}
use Rattle.serde_json.specs.Data.{Data}
use Rattle.serde_json.specs.View.{view}
use Rattle.trace_text.specs.Reading.{root_of, trace_of_root, IsAnswerTo}
use Rattle.trace_text.specs.declared.ops.Version.{Version}
use Rattle.trace_text.proofs.WholeFacts.{root_of-parts}
use Rattle.trace_text.proofs.reader.read_root.Goals as goal

pub returns : goal.returns
returns c =
    let parts : root_of (view c.args.root.now) ≡ Some (c.in-Some-Some.version, map view c.in-Some-Some.phases.now) =
    root_of-parts (view c.args.root.now) c.in-Some-Some.version (map view c.in-Some-Some.phases.now) (sym c.version.ensures ∙ c.in-Some-Some.is-0)
    (sym c.phases.ensures ∙ ap (option_map (λ values. map view values.now)) c.in-Some-Some.is-1) in
    let Answers : Option (Version × List Data) → Type 0 = λ root. IsAnswerTo (trace_of_root root) c.read_phases.result in
    subst Answers (sym parts) c.read_phases.ensures
