use Rattle.seq_model.proofs.laws.loans_stand_once.Goals as goal
use Rattle.seq_model.proofs.Channels.{channel_numbers_rise, channels_stand_once, parameter_numbers_rise}

pub returns-clause-parameters : goal.returns-clause-parameters
returns-clause-parameters c = parameter_numbers_rise

pub returns-clause-channels : goal.returns-clause-channels
returns-clause-channels c = channel_numbers_rise

pub returns-clause-one_a_channel : goal.returns-clause-one_a_channel
returns-clause-one_a_channel c = channels_stand_once
