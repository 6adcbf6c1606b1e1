use Rattle.std.proofs.Common.{subst}
use Rattle.std.specs.Prelude.{IfOk}
use Rattle.seq_model.specs.declared.calls.Call.TheVariants.{MapFrame}
use Rattle.device_parts.specs.AllParts.{Inside}
use Rattle.device_parts.specs.Calls.{HasEntered}
use Rattle.device_parts.specs.Maps.{HasMapped}
use Rattle.device_parts.proofs.MapFacts.{entered_before, mapped_before}
use Rattle.device_parts.proofs.parts.Parts.map.Goals as goal

pub returns-clause-entered : goal.returns-clause-entered
returns-clause-entered c =
    entered_before c.enter_map.result c.args.actor c.make_places.new.self.room (MapFrame c.args.h c.args.channel) c.args.self.now c.enter_map.new.self c.make_places.ensures.grows
    (subst (λ (i : Inside). IfOk c.enter_map.result (λ m. HasEntered c.args.actor (MapFrame c.args.h c.args.channel) m.0 i c.enter_map.new.self)) c.make_places.ensures.same c.enter_map.ensures.entered)

pub returns-clause-mapped : goal.returns-clause-mapped
returns-clause-mapped c =
    mapped_before c.enter_map.result c.args.h c.make_places.new.self.room c.args.channel c.args.self.now c.enter_map.new.self
    (subst (λ (i : Inside). IfOk c.enter_map.result (λ m. HasMapped c.args.h c.args.channel m.1 i c.enter_map.new.self)) c.make_places.ensures.same c.enter_map.ensures.mapped)
