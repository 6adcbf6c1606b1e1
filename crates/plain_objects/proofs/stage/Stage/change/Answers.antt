use Rattle.std.proofs.Common.{◌∙◌}
use Rattle.plain_objects.proofs.SuitFacts.{idle_by, idle_keeps, lent_alike, made_alike, mapped_alike, then_ok}
use Rattle.plain_objects.proofs.stage.Stage.change.Goals as goal

pub returns-in-Made-clause-ok : goal.returns-in-Made-clause-ok
returns-in-Made-clause-ok c =
    rw (c.in-Made.is) (then_ok c.create.result (λ same. same ∙ made_alike c.args.place c.in-Made.field-0 c.args.call.now c.args.self.now) c.create.ensures.ok)

pub returns-in-Lent-clause-ok : goal.returns-in-Lent-clause-ok
returns-in-Lent-clause-ok c =
    rw (c.in-Lent.is) (then_ok c.lend_by.result (λ same. same ∙ lent_alike c.args.place c.in-Lent.field-0 c.args.call.now c.args.self.now) c.lend_by.ensures.ok)

pub returns-in-Mapped-clause-ok : goal.returns-in-Mapped-clause-ok
returns-in-Mapped-clause-ok c =
    rw (c.in-Mapped.is) (then_ok c.map_by.result (λ same. same ∙ mapped_alike c.args.place c.in-Mapped.width c.in-Mapped.height c.in-Mapped.ty c.in-Mapped.rows c.args.call.now c.args.self.now) c.map_by.ensures.ok)

pub returns-in-Ready-clause-ok : goal.returns-in-Ready-clause-ok
returns-in-Ready-clause-ok c = idle_keeps c.args.place c.args.call.now c.args.reply.now c.args.self.now (idle_by c.args.reply.now c.in-Ready.is)

pub returns-in-Ready-2-clause-ok : goal.returns-in-Ready-2-clause-ok
returns-in-Ready-2-clause-ok c = idle_keeps c.args.place c.args.call.now c.args.reply.now c.args.self.now (idle_by c.args.reply.now c.in-Ready.is)

pub returns-in-Ready-3-clause-ok : goal.returns-in-Ready-3-clause-ok
returns-in-Ready-3-clause-ok c = idle_keeps c.args.place c.args.call.now c.args.reply.now c.args.self.now (idle_by c.args.reply.now c.in-Ready.is)

pub returns-in-Ready-4-clause-ok : goal.returns-in-Ready-4-clause-ok
returns-in-Ready-4-clause-ok c = idle_keeps c.args.place c.args.call.now c.args.reply.now c.args.self.now (idle_by c.args.reply.now c.in-Ready.is)

pub returns-in-Ready-5-clause-ok : goal.returns-in-Ready-5-clause-ok
returns-in-Ready-5-clause-ok c = idle_keeps c.args.place c.args.call.now c.args.reply.now c.args.self.now (idle_by c.args.reply.now c.in-Ready.is)

pub returns-in-Ready-6-clause-ok : goal.returns-in-Ready-6-clause-ok
returns-in-Ready-6-clause-ok c = idle_keeps c.args.place c.args.call.now c.args.reply.now c.args.self.now (idle_by c.args.reply.now c.in-Ready.is)
