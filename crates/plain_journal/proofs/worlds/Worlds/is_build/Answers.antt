use Rattle.std.proofs.Common.{ℕ, ◌∙◌, sym, ap, get_or}
use Rattle.past_laws.proofs.LastUses.{found_at, not_found}
use Rattle.past_laws.specs.Worlds.{Use, Worlds, wants_build}
use Rattle.plain_journal.proofs.worlds.Worlds.is_build.Goals as goal

pub returns-in-Some : goal.returns-in-Some
returns-in-Some c =
    ap (λ (used : ℕ × Use). used.1.touched) (c.behind-self.view_is ∙ c.index.ensures) ∙
    ap (λ (worlds : Worlds). (get_or worlds.uses c.in-Some.place c.index.result.now).1.touched) c.self.view_is ∙
    sym (ap wants_build (found_at c.args.world c.args.self.now.uses c.in-Some.place c.index.result.now (sym c.place_of.ensures ∙ c.in-Some.is)))

pub returns-in-None : goal.returns-in-None
returns-in-None c = sym (ap wants_build (not_found c.args.world c.args.self.now.uses (sym c.place_of.ensures ∙ c.in-None.is)))
