use Rattle.std.proofs.Common.{◌≡◌, ℕ, List, IfOk, subst}
use Rattle.replay_core.specs.Labels.{parts_of, spread}
use Rattle.replay_core.specs.Views.{meaning_of}
use Rattle.trace_text.specs.declared.calls.ArrayData.TheVariants.{Values}
use Rattle.replay_core.proofs.given.spread.Goals as goal

pub returns-in-Values : goal.returns-in-Values
returns-in-Values c =
    rw c.in-Values.is
    (subst (λ (values : List ℕ). IfOk c.spread_values.result (λ bytes. bytes.items ≡ spread c.args.stride (parts_of (meaning_of c.args.labels.now) c.args.elem c.args.count (Values values))))
    c.as_slice.ensures c.spread_values.ensures)
