use Rattle.std.proofs.Common.{◌∙◌, sym, ap}
use Rattle.std.specs.Option.{option_and_then}
use Rattle.kept_worlds.proofs.LastFacts.{stay_known}
use Rattle.past_laws.specs.Worlds.{world_of}
use Rattle.seq_model.specs.Steps.{after}
use Rattle.seq_model.specs.declared.calls.Entry.TheVariants.{Called}
use Rattle.device_parts.proofs.CalledFacts.{touches, untouched}
use Rattle.device_parts.proofs.calls.touch.Goals as goal

pub returns-in-Some : goal.returns-in-Some
returns-in-Some g c = record {
  known = λ history actor there kept. c.touch.ensures.known history (Called actor c.args.call.now c.args.reply.now) there
      (touches actor c.in-Some.h c.args.call.now c.args.reply.now (sym c.touched_by.ensures ∙ c.in-Some.is)) kept;
  shown = c.touch.ensures.shown;
}

pub returns-in_default : goal.returns-in_default
returns-in_default g c = record {
  known = λ history actor there kept. stay_known history (Called actor c.args.call.now c.args.reply.now) there _
      (ap (option_and_then (world_of (after history).state)) (c.requires actor)) (untouched actor c.args.call.now c.args.reply.now (sym c.touched_by.ensures ∙ c.in_default.is)) kept;
  shown = λ shows history kept. kept;
}
