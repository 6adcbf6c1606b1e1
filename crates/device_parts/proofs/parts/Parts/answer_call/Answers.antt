use Rattle.std.proofs.Common.{◌≡◌, ◌∙◌, ◌+◌, ◌++◌, ◌∷◌, [], Some, length, ap, subst, sym}
use Rattle.std.specs.Option.{IsSome, unwrap_or}
use Rattle.call_answers.specs.Plain.{needs_no_memory}
use Rattle.seq_model.specs.Legal.{Legal}
use Rattle.seq_model.specs.State.{State, object_at}
use Rattle.seq_model.specs.declared.calls.Call.TheVariants.{DiscardFrame, UnmapFrame}
use Rattle.seq_model.specs.declared.calls.Entry.TheVariants.{Called}
use Rattle.seq_model.specs.declared.calls.Reply.TheVariants as reply
use Rattle.device_parts.specs.Calls.{move_of}
use Rattle.device_parts.specs.declared.calls.Move.TheVariants as move
use Rattle.device_laws.proofs.GrantFacts.{discard_starts}
use Rattle.seq_model.specs.Answers.{answer}
use Rattle.seq_model.specs.Contents.{entered}
use Rattle.seq_model.specs.Steps.{after}
use Rattle.object_steps.proofs.Applied.{can_be_carried, entry_is_quiet, legal, loan_comes_back}
use Rattle.device_parts.proofs.MoveFacts.{discard_is, discarded_is_there, done_is_granted, moved_hands, nothing_moves, reads_nothing, unmap_is}
use Rattle.device_parts.proofs.PlainFacts.{plain_entered, short_answer}
use Rattle.device_laws.proofs.ReplyFacts.{quiet_told}
use Rattle.device_parts.proofs.parts.Parts.answer_call.Goals as goal

pub enter_call-requires-clause-can : goal.enter_call-requires-clause-can
enter_call-requires-clause-can c =
    let i = c.args.self.now in
    let is : c.parted-entry.result.0 ≡ entered (after i.history) c.args.call = c.parted-entry.ensures.entry ∙ c.in-Ok.ensures.entered in
    let answered : answer (after i.history) c.parted-entry.result.0 ≡ Some c.in-Ok.decided.reply = ap (answer (after i.history)) c.parted-entry.ensures.entry ∙ c.in-Ok.ensures.answered in
    can_be_carried i.objects.stored i.history c.are_parts.ensures.rest c.requires.stands.frames.open_ c.args.call c.parted-entry.result.0 c.in-Ok.decided.reply c.requires.quiet is answered
    (nothing_moves c.parted-entry.result.0 c.in-Ok.decided.reply (entry_is_quiet (after i.history) c.args.call c.parted-entry.result.0 is c.requires.quiet) (sym c.move_of.ensures ∙ c.in-Nothing.is)) c.requires.short c.requires.ready

pub enter_call-requires-clause-of_objects : goal.enter_call-requires-clause-of_objects
enter_call-requires-clause-of_objects c =
    let i = c.args.self.now in
    let is : c.parted-entry.result.0 ≡ entered (after i.history) c.args.call = c.parted-entry.ensures.entry ∙ c.in-Ok.ensures.entered in
    nothing_moves c.parted-entry.result.0 c.in-Ok.decided.reply (entry_is_quiet (after i.history) c.args.call c.parted-entry.result.0 is c.requires.quiet) (sym c.move_of.ensures ∙ c.in-Nothing.is)

pub enter_call-requires-clause-legal : goal.enter_call-requires-clause-legal
enter_call-requires-clause-legal c =
    let i = c.args.self.now in
    let is : c.parted-entry.result.0 ≡ entered (after i.history) c.args.call = c.parted-entry.ensures.entry ∙ c.in-Ok.ensures.entered in
    let answered : answer (after i.history) c.parted-entry.result.0 ≡ Some c.in-Ok.decided.reply = ap (answer (after i.history)) c.parted-entry.ensures.entry ∙ c.in-Ok.ensures.answered in
    legal i.objects.stored i.history c.are_parts.ensures.rest c.requires.stands.frames.open_ c.args.call c.parted-entry.result.0 c.in-Ok.decided.reply c.requires.quiet is answered c.args.actor

pub enter_call-requires-clause-gives : goal.enter_call-requires-clause-gives
enter_call-requires-clause-gives c =
    let i = c.args.self.now in
    let is : c.parted-entry.result.0 ≡ entered (after i.history) c.args.call = c.parted-entry.ensures.entry ∙ c.in-Ok.ensures.entered in
    let answered : answer (after i.history) c.parted-entry.result.0 ≡ Some c.in-Ok.decided.reply = ap (answer (after i.history)) c.parted-entry.ensures.entry ∙ c.in-Ok.ensures.answered in
    loan_comes_back i.objects.stored i.history c.are_parts.ensures.rest c.requires.stands.frames.open_ c.args.call c.parted-entry.result.0 c.in-Ok.decided.reply c.requires.quiet is answered c.args.with c.requires.brings

pub enter_call-requires-clause-tells : goal.enter_call-requires-clause-tells
enter_call-requires-clause-tells c =
    let i = c.args.self.now in
    let is : c.parted-entry.result.0 ≡ entered (after i.history) c.args.call = c.parted-entry.ensures.entry ∙ c.in-Ok.ensures.entered in
    quiet_told i.history (Called c.args.actor c.parted-entry.result.0 c.in-Ok.decided.reply) i.flights.future.flights
    (reads_nothing (after i.history) c.args.actor c.parted-entry.result.0 c.in-Ok.decided.reply (entry_is_quiet (after i.history) c.args.call c.parted-entry.result.0 is c.requires.quiet)) c.requires.stands.told

pub enter_discard-requires-clause-there : goal.enter_discard-requires-clause-there
enter_discard-requires-clause-there c =
    let i = c.args.self.now in
    let is : c.parted-entry.result.0 ≡ entered (after i.history) c.args.call = c.parted-entry.ensures.entry ∙ c.in-Ok.ensures.entered in
    let answered : answer (after i.history) c.parted-entry.result.0 ≡ Some c.in-Ok.decided.reply = ap (answer (after i.history)) c.parted-entry.ensures.entry ∙ c.in-Ok.ensures.answered in
    let call = discard_is c.parted-entry.result.0 c.in-Ok.decided.reply c.in-Discard.h (sym c.move_of.ensures ∙ c.in-Discard.is) in
    let none = done_is_granted (after i.history) (DiscardFrame c.in-Discard.h) (ap (answer (after i.history)) (sym call.0) ∙ answered ∙ ap Some call.1) in
    subst (λ (s : State). IsSome (object_at s c.in-Discard.h)) (sym c.are_parts.ensures.rest.state) (discarded_is_there (after i.history) c.in-Discard.h none)

pub enter_discard-requires-clause-unmapped : goal.enter_discard-requires-clause-unmapped
enter_discard-requires-clause-unmapped c =
    let i = c.args.self.now in
    let is : c.parted-entry.result.0 ≡ entered (after i.history) c.args.call = c.parted-entry.ensures.entry ∙ c.in-Ok.ensures.entered in
    let answered : answer (after i.history) c.parted-entry.result.0 ≡ Some c.in-Ok.decided.reply = ap (answer (after i.history)) c.parted-entry.ensures.entry ∙ c.in-Ok.ensures.answered in
    let call = discard_is c.parted-entry.result.0 c.in-Ok.decided.reply c.in-Discard.h (sym c.move_of.ensures ∙ c.in-Discard.is) in
    let none = done_is_granted (after i.history) (DiscardFrame c.in-Discard.h) (ap (answer (after i.history)) (sym call.0) ∙ answered ∙ ap Some call.1) in
    discard_starts i.history i.flights.future c.requires.stands.frames c.in-Discard.h none

pub enter_discard-requires-clause-legal : goal.enter_discard-requires-clause-legal
enter_discard-requires-clause-legal c =
    let i = c.args.self.now in
    let is : c.parted-entry.result.0 ≡ entered (after i.history) c.args.call = c.parted-entry.ensures.entry ∙ c.in-Ok.ensures.entered in
    let answered : answer (after i.history) c.parted-entry.result.0 ≡ Some c.in-Ok.decided.reply = ap (answer (after i.history)) c.parted-entry.ensures.entry ∙ c.in-Ok.ensures.answered in
    let call = discard_is c.parted-entry.result.0 c.in-Ok.decided.reply c.in-Discard.h (sym c.move_of.ensures ∙ c.in-Discard.is) in
    let none = done_is_granted (after i.history) (DiscardFrame c.in-Discard.h) (ap (answer (after i.history)) (sym call.0) ∙ answered ∙ ap Some call.1) in
    subst (λ call. Legal (i.history ++ Called c.args.actor call reply.Done ∷ [])) call.0 (subst (λ r. Legal (i.history ++ Called c.args.actor c.parted-entry.result.0 r ∷ [])) call.1 (legal i.objects.stored i.history c.are_parts.ensures.rest c.requires.stands.frames.open_ c.args.call c.parted-entry.result.0 c.in-Ok.decided.reply c.requires.quiet is answered c.args.actor))

pub enter_unmap-requires-clause-out : goal.enter_unmap-requires-clause-out
enter_unmap-requires-clause-out c =
    let i = c.args.self.now in
    let is : c.parted-entry.result.0 ≡ entered (after i.history) c.args.call = c.parted-entry.ensures.entry ∙ c.in-Ok.ensures.entered in
    let answered : answer (after i.history) c.parted-entry.result.0 ≡ Some c.in-Ok.decided.reply = ap (answer (after i.history)) c.parted-entry.ensures.entry ∙ c.in-Ok.ensures.answered in
    let call = unmap_is c.parted-entry.result.0 c.in-Ok.decided.reply c.in-Unmap.h c.in-Unmap.number (sym c.move_of.ensures ∙ c.in-Unmap.is) in
    let none = done_is_granted (after i.history) (UnmapFrame c.in-Unmap.h c.in-Unmap.number) (ap (answer (after i.history)) (sym call.0) ∙ answered ∙ ap Some call.1) in
    none

pub enter_unmap-requires-clause-legal : goal.enter_unmap-requires-clause-legal
enter_unmap-requires-clause-legal c =
    let i = c.args.self.now in
    let is : c.parted-entry.result.0 ≡ entered (after i.history) c.args.call = c.parted-entry.ensures.entry ∙ c.in-Ok.ensures.entered in
    let answered : answer (after i.history) c.parted-entry.result.0 ≡ Some c.in-Ok.decided.reply = ap (answer (after i.history)) c.parted-entry.ensures.entry ∙ c.in-Ok.ensures.answered in
    let call = unmap_is c.parted-entry.result.0 c.in-Ok.decided.reply c.in-Unmap.h c.in-Unmap.number (sym c.move_of.ensures ∙ c.in-Unmap.is) in
    let none = done_is_granted (after i.history) (UnmapFrame c.in-Unmap.h c.in-Unmap.number) (ap (answer (after i.history)) (sym call.0) ∙ answered ∙ ap Some call.1) in
    subst (λ call. Legal (i.history ++ Called c.args.actor call reply.Done ∷ [])) call.0 (subst (λ r. Legal (i.history ++ Called c.args.actor c.parted-entry.result.0 r ∷ [])) call.1 (legal i.objects.stored i.history c.are_parts.ensures.rest c.requires.stands.frames.open_ c.args.call c.parted-entry.result.0 c.in-Ok.decided.reply c.requires.quiet is answered c.args.actor))

pub returns-in-Discard-clause-handed : goal.returns-in-Discard-clause-handed
returns-in-Discard-clause-handed c =
    let i = c.args.self.now in
    let is : c.parted-entry.result.0 ≡ entered (after i.history) c.args.call = c.parted-entry.ensures.entry ∙ c.in-Ok.ensures.entered in
    let moves : move_of (entered (after i.history) c.args.call) c.in-Ok-share.answer ≡ move.Discard c.in-Discard.h =
    ap (λ r. move_of (entered (after i.history) c.args.call) r) c.in-Ok-share.ensures.same ∙ ap (λ call. move_of call c.in-Ok.decided.reply) (sym is) ∙ sym c.move_of.ensures ∙ c.in-Discard.is in
    moved_hands (after i.history) (length i.history + 1) i.objects.stored.state c.args.call c.in-Ok-share.answer c.args.with (λ still. let wrong : move.Nothing ≡ move.Discard c.in-Discard.h = sym still ∙ moves in absurd cc) c.requires.brings

pub returns-in-Unmap-clause-handed : goal.returns-in-Unmap-clause-handed
returns-in-Unmap-clause-handed c =
    let i = c.args.self.now in
    let is : c.parted-entry.result.0 ≡ entered (after i.history) c.args.call = c.parted-entry.ensures.entry ∙ c.in-Ok.ensures.entered in
    let moves : move_of (entered (after i.history) c.args.call) c.in-Ok-share.answer ≡ move.Unmap c.in-Unmap.h c.in-Unmap.number =
    ap (λ r. move_of (entered (after i.history) c.args.call) r) c.in-Ok-share.ensures.same ∙ ap (λ call. move_of call c.in-Ok.decided.reply) (sym is) ∙ sym c.move_of.ensures ∙ c.in-Unmap.is in
    moved_hands (after i.history) (length i.history + 1) i.objects.stored.state c.args.call c.in-Ok-share.answer c.args.with (λ still. let wrong : move.Nothing ≡ move.Unmap c.in-Unmap.h c.in-Unmap.number = sym still ∙ moves in absurd cc) c.requires.brings

pub returns-in_default-share-clause-no_memory : goal.returns-in_default-share-clause-no_memory
returns-in_default-share-clause-no_memory c = λ needs.
    let past = after c.args.self.now.history in
    let same : unwrap_or c.in-Ok.decided.cleaned c.args.call ≡ c.args.call = c.in-Ok.ensures.entered ∙ plain_entered past c.args.call needs in
    c.in_default-share.ensures.no_memory (short_answer past c.args.call c.in-Ok.decided.reply needs (ap (answer past) (sym same) ∙ c.in-Ok.ensures.answered))

pub returns-in-Err-clause-no_memory : goal.returns-in-Err-clause-no_memory
returns-in-Err-clause-no_memory c = λ needs.
    let same : c.parted-entry.result.0 ≡ c.args.call =
    c.parted-entry.ensures.entry ∙ c.in-Ok.ensures.entered ∙ plain_entered (after c.args.self.now.history) c.args.call needs in
    c.in-Err.ensures.no_memory (ap needs_no_memory same ∙ needs)
