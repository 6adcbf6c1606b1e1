use Rattle.std.proofs.Common.{true, ◌≡◌, ◌∙◌, ◌++◌, ◌∷◌, [], ap, subst, sym}
use Rattle.answered_calls.specs.Tells.{with_given}
use Rattle.frame_future.specs.Future.{IsKept}
use Rattle.seq_model.specs.Legal.{Legal}
use Rattle.seq_model.specs.declared.calls.Entry.TheVariants.{Called}
use Rattle.device_laws.specs.Replies.{AreTold}
use Rattle.device_parts.specs.AllParts.{Inside}
use Rattle.device_parts.specs.Looks.{given_of}
use Rattle.seq_model.specs.Steps.{after}
use Rattle.device_parts.specs.Calls.{is_short}
use Rattle.device_parts.proofs.PlainFacts.{short_answer, short_given}
use Rattle.device_parts.proofs.LookedFacts.{told_legal, told_on, told_reply}
use Rattle.device_parts.proofs.parts.Parts.enter_told.Goals as goal

pub enter_call-requires-clause-legal : goal.enter_call-requires-clause-legal
enter_call-requires-clause-legal c =
    let i = c.args.self.now in
    let kept : IsKept i.flights.future = subst IsKept (c.frames.ensures.value ∙ ap (λ (i : Inside). i.flights.future) c.self.view_is) c.are_kept.ensures in
    let told : c.with_given-reply.result ≡ told_reply i c.are_parts.ensures c.requires.stands c.requires.short kept c.args.actor c.args.call c.args.answered c.requires.answered =
    c.with_given-reply.ensures ∙ ap (λ n. with_given n c.args.answered) (c.given.ensures ∙ ap (given_of i.flights.future) c.source_of.ensures) in
    subst (λ h. Legal (h ++ Called c.args.actor c.args.call c.with_given-reply.result ∷ [])) (sym (ap (λ (i : Inside). i.history) c.make_places.ensures.same))
    (subst (λ r. Legal (i.history ++ Called c.args.actor c.args.call r ∷ [])) (sym told)
    (told_legal i c.are_parts.ensures c.requires.stands c.requires.short kept c.args.actor c.args.call c.args.answered c.requires.answered c.requires.tells))

pub enter_call-requires-clause-tells : goal.enter_call-requires-clause-tells
enter_call-requires-clause-tells c =
    let i = c.args.self.now in
    let kept : IsKept i.flights.future = subst IsKept (c.frames.ensures.value ∙ ap (λ (i : Inside). i.flights.future) c.self.view_is) c.are_kept.ensures in
    let told : c.with_given-reply.result ≡ told_reply i c.are_parts.ensures c.requires.stands c.requires.short kept c.args.actor c.args.call c.args.answered c.requires.answered =
    c.with_given-reply.ensures ∙ ap (λ n. with_given n c.args.answered) (c.given.ensures ∙ ap (given_of i.flights.future) c.source_of.ensures) in
    subst (λ (j : Inside). AreTold (j.history ++ Called c.args.actor c.args.call c.with_given-reply.result ∷ []) j.flights.future.flights) (sym c.make_places.ensures.same)
    (subst (λ r. AreTold (i.history ++ Called c.args.actor c.args.call r ∷ []) i.flights.future.flights) (sym told)
    (told_on i c.are_parts.ensures c.requires.stands c.requires.short kept c.args.actor c.args.call c.args.answered c.requires.answered).1)

pub returns-in_default-clause-no_memory : goal.returns-in_default-clause-no_memory
returns-in_default-clause-no_memory c = λ needs place.
    let short = short_answer (after c.args.self.now.history) c.args.call c.args.answered needs c.requires.answered in
    c.in_default.ensures.no_memory (subst (λ r. is_short r ≡ true) (sym c.with_given-reply.ensures) (short_given c.given.result c.args.answered short))
