use Rattle.device_parts.specs.declared.handed.Handed.TheVariants.{Nothing}
use Rattle.seq_model.specs.declared.calls.Call.TheVariants.{FrameReady}
use Rattle.device_calls.proofs.HoldFacts.{made_behind, noted_behind}
use Rattle.device_calls.proofs.state.SharedState.ready.Goals as goal

pub returns-then-settled-clause-made : goal.returns-then-settled-clause-made
returns-then-settled-clause-made g c =
    made_behind c.step-then-settled.result c.args.actor (FrameReady c.args.h c.args.wait) Nothing c.args.self.now.parts.history c.settled.new.self.parts.history
    c.step-then-settled.new.self.parts.history c.settled.ensures.noted c.step-then-settled.ensures.made

pub returns-then-settled-clause-noted : goal.returns-then-settled-clause-noted
returns-then-settled-clause-noted g c =
    noted_behind c.step-then-settled.result c.args.self.now.parts.history c.settled.new.self.parts.history c.step-then-settled.new.self.parts.history
    c.settled.ensures.noted c.step-then-settled.ensures.noted
