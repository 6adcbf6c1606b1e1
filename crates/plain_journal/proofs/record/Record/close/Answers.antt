use Rattle.std.proofs.Common.{◌≡◌, ◌∙◌, ◌++◌, ◌∷◌, [], ap, rules, subst, sym}
use Rattle.seq_model.specs.Steps.{Past, step}
use Rattle.seq_model.specs.Told.{told_by}
use Rattle.seq_model.specs.declared.calls.Entry.TheVariants.{Closed}
use Rattle.plain_journal.proofs.EndFacts.{knows_closed}
use Rattle.plain_journal.specs.Whole.{past_in}
use Rattle.past_laws.specs.Worlds.{KnowsWorlds}
use Rattle.plain_journal.proofs.record.Record.close.Goals as goal

pub returns : goal.returns
unfolding step told_by
returns g c =
    let view : c.args.self ≡ past_in c.self.inside.stage c.self.inside.books = search rules in
    let history = c.of.ensures ∙ c.enter_note.ensures.journal in
    record {
      history = history ∙ ap (λ (p : Past). (step p Closed).seen) (sym view);
      told = c.take_all.ensures ∙ ap (λ (p : Past). g.C.Client.notices c.args.client.now ++ told_by p Closed) (sym view);
      builds =
          c.builds-builds.ensures c.of.result
          (subst (λ h. KnowsWorlds h c.enter_note.new.self.worlds) (sym history)
          (subst (KnowsWorlds (c.self.inside.books.journal.items ++ Closed ∷ [])) (sym c.enter_note.ensures.worlds) (knows_closed c.self.inside.books.journal.items c.self.inside.books.worlds c.self.invariant.worlds)));
    }
