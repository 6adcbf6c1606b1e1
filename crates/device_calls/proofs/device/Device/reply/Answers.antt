use Rattle.device_calls.proofs.ReplyFacts.{made_of_none}
use Rattle.device_calls.proofs.device.Device.reply.Goals as goal

pub returns-in_default : goal.returns-in_default
returns-in_default g c = record {
  pass = c.make.ensures.pass;
  sees = c.make.ensures.sees;
  made = made_of_none c.args.call c.in-Ok.reply c.in-Ok.out c.args.pass.now c.make.new.pass c.requires.loanless c.in-Ok.ensures.made;
  grants = c.in_default.not-Denied;
  refused = tt;
}
