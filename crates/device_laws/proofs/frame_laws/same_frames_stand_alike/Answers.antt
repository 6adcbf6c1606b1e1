use Rattle.device_laws.proofs.FrameFacts.{same_flown, same_renders, same_runs, same_stands}
use Rattle.device_laws.proofs.frame_laws.same_frames_stand_alike.Goals as goal

pub returns : goal.returns
returns c = record { runs = same_runs; flown = same_flown; stands = same_stands; renders = same_renders }
