use Rattle.std.proofs.Common.{◌≡◌, ◌≤◌, length}
use Rattle.seq_model.specs.Told.{told}
use Rattle.plain_journal.specs.Leaving.{IsEnding}
use Rattle.plain_journal.proofs.record.Record.leave_all.Given as goal

-- the flights with a ticket below this one have left
abbrev pub invariant-loop-ticket : goal.invariant-loop-ticket
invariant-loop-ticket g l = record {
  ending : IsEnding l.initial.self l.self l.ticket;
  told : g.C.Client.notices l.initial.client ≡ told l.initial.self.seen → g.C.Client.notices l.client ≡ told l.self.seen;
  room : length l.self.state.objects ≤ g.C.Client.spare l.client;
}
