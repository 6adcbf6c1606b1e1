use Rattle.device_laws.proofs.FrameFacts.{asking_leaves, back_same, begun_runs, flight_replaced, picture_replaced}
use Rattle.device_laws.proofs.frame_laws.calls_on_kept_frames_leave_them.Goals as goal

pub returns : goal.returns
returns c = record { flight = flight_replaced; put_back = back_same; asked = asking_leaves; picture = picture_replaced; begun = begun_runs }
