use Rattle.std.proofs.Common.{◌+◌, ◌++◌, ◌∷◌, [], ap, subst, sym}
use Rattle.past_laws.specs.Worlds.{render_of}
use Rattle.seq_model.specs.Legal.{Legal}
use Rattle.device_parts.specs.AllParts.{Inside}
use Rattle.device_parts.specs.Begins.{HasBegun}
use Rattle.device_parts.proofs.RenderSteps.{render_legal}
use Rattle.device_parts.proofs.RenderedFacts.{begun_before}
use Rattle.device_parts.proofs.parts.Parts.render.Goals as goal

pub enter_render-requires-clause-legal : goal.enter_render-requires-clause-legal
enter_render-requires-clause-legal c =
    subst (λ h. Legal (h ++ render_of c.args.actor c.args.frame ∷ [])) (sym (ap (λ (i : Inside). i.history) c.in_ok-keep_render_places.ensures.kept))
    (render_legal c.args.self.now.history c.args.actor c.args.frame c.are_parts.ensures.rest.legal c.requires.stands.frames.open_ c.requires.granted)

pub returns-in-Ok-clause-begun : goal.returns-in-Ok-clause-begun
returns-in-Ok-clause-begun c =
    begun_before c.args.frame (c.args.self.now.room + 2) c.keep_render_places.new.self.objects.stored.places c.args.self.now c.enter_render.new.self
    (subst (λ (i : Inside). HasBegun c.args.frame i c.enter_render.new.self) c.in_ok-keep_render_places.ensures.kept c.in-Ok.ensures.begun)
