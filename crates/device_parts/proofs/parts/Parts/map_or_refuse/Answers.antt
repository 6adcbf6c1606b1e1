use Rattle.std.proofs.Common.{◌≡◌, ◌∙◌, ℕ, true, Option, None, Some, ap, refl, subst, sym}
use Rattle.std.specs.Option.{option_map, option_or}
use Rattle.answered_calls.specs.Tells.{with_given}
use Rattle.seq_model.specs.Answers.{answer, granted, mapped_picture}
use Rattle.seq_model.specs.Refusals.{phase_at, refusal}
use Rattle.seq_model.specs.State.{Done, Empty, Flight, Phase}
use Rattle.seq_model.specs.Pictures.{picture_at, scene_at}
use Rattle.seq_model.specs.Steps.{Past, after}
use Rattle.seq_model.specs.declared.calls.Call.TheVariants.{MapFrame}
use Rattle.seq_model.specs.declared.calls.Reply.{Reply}
use Rattle.seq_model.specs.declared.calls.Reply.TheVariants as reply
use Rattle.dev_types.specs.declared.handles.Channel.{Channel}
use Rattle.kind_tables.specs.Ranges.{type_of_channel}
use Rattle.dev_types.specs.declared.refusals.Refused.{Refused}
use Rattle.device_parts.specs.Looks.{given_of}
use Rattle.device_parts.specs.Maps.{is_refused}
use Rattle.device_parts.proofs.MakeFacts.{still_refused}
use Rattle.device_parts.proofs.parts.Parts.map_or_refuse.Goals as goal

-- a map that is refused is denied
map_answer : (past : Past) (h : ℕ) (channel : Channel) (x : Option Refused) → x ≡ refusal past (MapFrame h channel)
    → answer past (MapFrame h channel) ≡ option_or (option_map reply.Denied x) (granted past (MapFrame h channel))
unfolding answer
map_answer past h channel x is = ap (λ x. option_or (option_map reply.Denied x) (granted past (MapFrame h channel))) (sym is)

-- and one that is made tells of no flight
tells_of_none : (past : Past) (n : ℕ) (channel : Channel) (phase : Phase) (r : Reply) → mapped_picture past channel phase ≡ Some r → with_given n r ≡ r
tells_of_none past n channel Empty r is = absurd cc
tells_of_none past n channel (Flight t) r is = absurd cc
tells_of_none past n channel (Done t) r is =
    let same : reply.Mapped (scene_at past.seen t).width (scene_at past.seen t).height (type_of_channel channel) (picture_at past.seen t channel) ≡ r = cc in
    subst (λ r. with_given n r ≡ r) same refl

pub returns-in-None-clause-answered : goal.returns-in-None-clause-answered
returns-in-None-clause-answered c =
    let past = after c.args.self.now.history in
    ap (option_map (with_given (given_of c.args.self.now.flights.future c.args.h))) c.in_ok-reply-in-None.ensures.answered
    ∙ ap Some (tells_of_none past (given_of c.args.self.now.flights.future c.args.h) c.args.channel (phase_at past c.args.h) c.in_ok-reply-in-None.reply
    (sym (map_answer past c.args.h c.args.channel None (sym c.in-None.is ∙ c.refusal_of_map.ensures)) ∙ c.in_ok-reply-in-None.ensures.answered))

pub enter_told-requires-clause-answered : goal.enter_told-requires-clause-answered
enter_told-requires-clause-answered c =
    map_answer (after c.args.self.now.history) c.args.h c.args.channel (Some c.in-Some.refused) (sym c.in-Some.is ∙ c.refusal_of_map.ensures)

pub returns-in-Ok-clause-answered : goal.returns-in-Ok-clause-answered
returns-in-Ok-clause-answered c =
    ap (option_map (with_given (given_of c.args.self.now.flights.future c.args.h)))
    (map_answer (after c.args.self.now.history) c.args.h c.args.channel (Some c.in-Some.refused) (sym c.in-Some.is ∙ c.refusal_of_map.ensures))
    ∙ ap Some (sym c.in-Ok.ensures.told)

pub returns-in-Ok-clause-loan : goal.returns-in-Ok-clause-loan
returns-in-Ok-clause-loan c =
    subst (λ r. is_refused r ≡ true) (sym c.in-Ok.ensures.told) (still_refused (given_of c.args.self.now.flights.future c.args.h) c.in-Some.refused)
