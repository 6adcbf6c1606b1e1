use Rattle.std.proofs.Common.{◌==◌, ◌∙◌, ◌++◌, ◌∷◌, [], ℕ, sym, ap, set}
use Rattle.std.specs.List.{position}
use Rattle.past_laws.proofs.LastUses.{pushed_there, set_there}
use Rattle.seq_model.proofs.Keys.{at}
use Rattle.past_laws.specs.Worlds.{Use, Worlds}
use Rattle.plain_journal.proofs.worlds.Worlds.put.Goals as goal

pub returns-in-Some-clause-uses : goal.returns-in-Some-clause-uses
returns-in-Some-clause-uses c = λ q.
    ap (λ (worlds : Worlds). at q (set worlds.uses c.in-Some.place c.args.last)) c.self.view_is ∙
    set_there c.args.last.0 c.args.last.1 c.args.self.now.uses c.in-Some.place q
    (sym (c.place_of.ensures ∙ ap (λ (last : ℕ × Use). position (λ used. used.0 == last.0) c.args.self.now.uses) c.last.view_is) ∙ c.in-Some.is)

pub returns-in-None-clause-uses : goal.returns-in-None-clause-uses
returns-in-None-clause-uses c = λ q.
    ap (at q) c.push_reserved.ensures.items ∙
    ap (λ (worlds : Worlds). at q (worlds.uses ++ c.args.last ∷ [])) c.self.view_is ∙
    pushed_there c.args.last.0 c.args.last.1 c.args.self.now.uses q
    (sym (c.place_of.ensures ∙ ap (λ (last : ℕ × Use). position (λ used. used.0 == last.0) c.args.self.now.uses) c.last.view_is) ∙ c.in-None.is)
