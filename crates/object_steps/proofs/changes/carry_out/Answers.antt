use Rattle.std.proofs.Common.{◌≡◌, ◌∙◌, OnOk, inl, inr, subst, sym, ap}
use Rattle.seq_model.specs.declared.calls.Reply.{Reply}
use Rattle.object_steps.specs.Carrying.{carried}
use Rattle.object_steps.proofs.CarryFacts.{IsStill, lent_alike, made_alike, spent_ok, still_alike}
use Rattle.object_steps.proofs.changes.carry_out.Goals as goal

pub returns-in-Denied-clause-ok : goal.returns-in-Denied-clause-ok
returns-in-Denied-clause-ok c = still_alike c.args.place c.args.call.now c.args.reply.now c.args.store.now (subst IsStill (sym c.in-Denied.is) tt) c.requires.can

pub returns-in-Made-clause-ok : goal.returns-in-Made-clause-ok
returns-in-Made-clause-ok c =
    spent_ok c.create.result c.spent.result c.args.loan c.spent.ensures
    (λ is. is ∙ made_alike c.args.place c.in-Made.field-0 c.args.call.now c.args.store.now ∙ ap (λ (r : Reply). carried c.args.place c.args.call.now r c.args.store.now) (sym c.in-Made.is))
    c.create.ensures.ok

pub returns-in-Lent-clause-ok : goal.returns-in-Lent-clause-ok
returns-in-Lent-clause-ok c =
    spent_ok c.lend.result c.spent-in-Lent.result c.args.loan c.spent-in-Lent.ensures
    (λ is. is ∙ lent_alike c.args.place c.in-Lent.field-0 c.args.call.now c.args.store.now ∙ ap (λ (r : Reply). carried c.args.place c.args.call.now r c.args.store.now) (sym c.in-Lent.is))
    c.lend.ensures.ok

pub returns-in-Mapped-clause-ok : goal.returns-in-Mapped-clause-ok
returns-in-Mapped-clause-ok c =
    subst (λ r. OnOk r (c.args.store.now ≡ carried c.args.place c.args.call.now c.args.reply.now c.args.store.now)) (sym c.spent-in-Mapped.ensures)
    (still_alike c.args.place c.args.call.now c.args.reply.now c.args.store.now (elim c.in-Mapped.is [
      | inl w ↦ subst IsStill (sym w.4) tt
      | inr (inl w) ↦ subst IsStill (sym w) tt
      | inr (inr (inl w)) ↦ subst IsStill (sym w.2) tt
      | inr (inr (inr (inl w))) ↦ subst IsStill (sym w.1) tt
      | inr (inr (inr (inr (inl w)))) ↦ subst IsStill (sym w.1) tt
      | inr (inr (inr (inr (inr w)))) ↦ subst IsStill (sym w.1) tt
    ]) c.requires.can)
