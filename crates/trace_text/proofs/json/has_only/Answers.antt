use Rattle.std.proofs.Common.{ap, sym, ◌∙◌}
use Rattle.std.specs.Prelude.{option_map}
use Rattle.serde_json.specs.View.{members_view, view}
use Rattle.trace_text.proofs.JsonFacts.{has_only-object}
use Rattle.trace_text.proofs.json.has_only.Goals as goal

pub returns-in-Some : goal.returns-in-Some
returns-in-Some c =
    c.are_among.ensures
    ∙ has_only-object c.args.keys.now c.in-Some.members.now.entries (view c.args.value.now)
    (sym c.as_object.ensures ∙ ap (option_map (λ m. members_view m.now.entries)) c.in-Some.is)
