use Rattle.std.proofs.Common.{List, ℕ, subst, ◌∙◌}
use Rattle.std.specs.Io.KnownBytes.{Appends}
use Rattle.replay_io.specs.Streams.{AppendsPrefix}
use Rattle.anari_replay.proofs.WriteFacts.{on_err}
use Rattle.anari_replay.proofs.replay.write_made.Goals as goal

pub returns-in_err-write_all-clause-in_part : goal.returns-in_err-write_all-clause-in_part
returns-in_err-write_all-clause-in_part g c =
    let Written : List ℕ → Type 0 = AppendsPrefix (g.K.Sink.written c.args.sink.now) (g.K.Sink.written c.write_all.new.sink) in
    on_err _ _ (subst Written (c.as_bytes.ensures.value ∙ c.in_ok-text.ensures) c.in_err-write_all.ensures.some)

pub returns-clause-written : goal.returns-clause-written
returns-clause-written g c =
    let Written : List ℕ → Type 0 = Appends (g.K.Sink.written c.args.sink.now) (g.K.Sink.written c.write_all.new.sink) in
    subst Written (c.as_bytes.ensures.value ∙ c.in_ok-text.ensures) c.in_ok-write_all.ensures.all
