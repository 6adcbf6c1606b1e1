use Rattle.std.proofs.Common.{Option, refl, ap, ◌∙◌, inl}
use Rattle.std.specs.Option.{option_or}
use Rattle.kind_tables.specs.WalkRefusals.{fault_of}
use Rattle.kind_tables.specs.Walks.{walk}
use Rattle.dev_types.specs.declared.refusals.Refused.{Refused}
use Rattle.scene_read.proofs.RefusalFacts.{refusal_is}
use Rattle.scene_read.specs.Starts.{all_seen}
use Rattle.scene_read.proofs.refusals.walk.Goals as goal

pub returns-in-Some-clause-refused : goal.returns-in-Some-clause-refused
returns-in-Some-clause-refused g c =
    let objects = g.O.Objects.objects c.args.state.now in
    inl (refusal_is objects (all_seen objects c.in-Ok.visits) (walk objects c.args.root) c.first_mapped.result (fault_of objects (all_seen objects c.in-Ok.visits)) c.in-Ok.ensures.seen c.first_mapped.ensures refl
    ∙ ap (λ (m : Option Refused). option_or m (fault_of objects (all_seen objects c.in-Ok.visits))) c.in-Some.is)

pub returns-in-Some-fault-clause-refused : goal.returns-in-Some-fault-clause-refused
returns-in-Some-fault-clause-refused g c =
    let objects = g.O.Objects.objects c.args.state.now in
    inl (refusal_is objects (all_seen objects c.in-Ok.visits) (walk objects c.args.root) c.first_mapped.result c.fault.result c.in-Ok.ensures.seen c.first_mapped.ensures c.fault.ensures
    ∙ ap (λ (m : Option Refused). option_or m c.fault.result) c.in_default-first_mapped.is ∙ c.in-Some-fault.is)

pub returns-clause-sound : goal.returns-clause-sound
returns-clause-sound g c =
    let objects = g.O.Objects.objects c.args.state.now in
    refusal_is objects (all_seen objects c.in-Ok.visits) (walk objects c.args.root) c.first_mapped.result c.fault.result c.in-Ok.ensures.seen c.first_mapped.ensures c.fault.ensures
    ∙ ap (λ (m : Option Refused). option_or m c.fault.result) c.in_default-first_mapped.is ∙ c.in_default-fault.is
