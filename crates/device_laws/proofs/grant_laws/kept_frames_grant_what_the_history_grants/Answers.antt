use Rattle.device_laws.proofs.GrantFacts.{discard_starts, map_starts, mapped_is_done, render_starts, unmap_starts}
use Rattle.device_laws.proofs.grant_laws.kept_frames_grant_what_the_history_grants.Goals as goal

pub returns : goal.returns
returns c = record { done = mapped_is_done; rendered = render_starts; discarded = discard_starts; mapped = map_starts; unmapped = unmap_starts }
