use Rattle.std.proofs.Common.{None, arith, rules, subst, sym}
use Rattle.seq_model.specs.Steps.{after}
use Rattle.plain_journal.specs.Uses.{FitsWorld}
use Rattle.plain_journal.proofs.books.Books.enter_call.Goals as goal

pub returns : goal.returns
returns c = record {
  journal = c.push_reserved.ensures.items;
  reached = search rules;
  moved = c.count.ensures.moved c.args.actor;
  handles = c.count.ensures.len;
  renders = search rules;
  worlds = λ history short fits knows.
      c.note_world.ensures history c.args.actor short
      (subst (λ reach. FitsWorld (after history).state c.args.call c.args.reply None reach) (sym c.new.ensures.items) fits) knows;
  marks = omega (arith, c.mark_made.ensures, c.len.ensures, c.len-handles.ensures, c.count.ensures.len);
  space = c.push_reserved.ensures.capacity;
}
