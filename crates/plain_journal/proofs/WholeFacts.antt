-- One more entry leaves all that is kept right.
use Rattle.std.proofs.Common.{◌≡◌, ◌∙◌, ℕ, ◌++◌, ◌∷◌, [], All, sym, ap, subst, arith}
use Rattle.seq_model.proofs.Afters.{after_more}
use Rattle.seq_model.proofs.Publics.{public_moves}
use Rattle.seq_model.specs.Extensions.{readings_of}
use Rattle.seq_model.specs.Histories.{public}
use Rattle.seq_model.specs.Life.{is_root, live}
use Rattle.seq_model.specs.Legal.{Legal}
use Rattle.seq_model.specs.State.{State}
use Rattle.seq_model.specs.Steps.{Past, after, is_reached, step, swept}
use Rattle.seq_model.specs.declared.calls.Entry.{Entry}
use Rattle.plain_objects.specs.Counts.{count_at}
use Rattle.past_laws.proofs.Sizes.{fewer_flights}
use Rattle.plain_journal.specs.Unseen.{IsUnseen}
use Rattle.plain_journal.specs.Whole.{IsEntered, IsWhole, changed_in_past, past_in, swept_by}
use Rattle.plain_journal.specs.declared.books.Books.{Books}

same_functions : {A B : Type 0} {f g : A → B} → ((x : A) → f x ≡ g x) → f ≡ g
same_functions same = λ i x. same x i

-- the counts are those of public references after the entry, too
still_counted : (stage : State) (old : Books) (e : Entry) (new : Books) → IsWhole stage old → IsEntered stage old e new → Legal (old.journal.items ++ e ∷ []) →
    (h : ℕ) → count_at new.held.items h ≡ public (old.journal.items ++ e ∷ []) h
still_counted stage old e new whole entered legal h =
    omega (arith, entered.counted h, whole.kept.counted h, public_moves old.journal.items e h legal)

-- the past with one more entry
pub past_steps : (stage : State) (old : Books) (e : Entry) (new : Books) → IsWhole stage old → IsEntered stage old e new → Legal (old.journal.items ++ e ∷ []) →
    past_in (swept_by new (changed_in_past stage old e)) new ≡ step (past_in stage old) e
unfolding step swept
past_steps stage old e new whole entered legal =
    let counts : count_at new.held.items ≡ public (old.journal.items ++ e ∷ []) = same_functions (still_counted stage old e new whole entered legal) in
    let mid : State = changed_in_past stage old e in
    ap (λ seen. record { seen = seen; state = swept_by new mid; reached = new.reached.items }) entered.journal
    ∙ ap (λ count. record { seen = old.journal.items ++ e ∷ []; state = record mid { objects = live (is_root count (is_reached new.reached.items mid)) mid.objects }; reached = new.reached.items }) counts
    ∙ ap (λ reached. record { seen = old.journal.items ++ e ∷ []; state = record mid { objects = live (is_root (public (old.journal.items ++ e ∷ [])) (is_reached reached mid)) mid.objects }; reached = reached }) entered.reached

-- nothing that is kept goes wrong
pub whole_next : (stage : State) (old : Books) (e : Entry) (new : Books) → IsWhole stage old → IsEntered stage old e new → IsUnseen (old.journal.items ++ e ∷ []) →
    IsWhole (swept_by new (changed_in_past stage old e)) new
whole_next stage old e new whole entered unseen =
    let past : Past = past_in (swept_by new (changed_in_past stage old e)) new in
    let led : past ≡ after (old.journal.items ++ e ∷ []) =
    past_steps stage old e new whole entered unseen.legal ∙ ap (λ p. step p e) whole.kept.led ∙ sym (after_more old.journal.items e) in
    record {
      kept = record {
        led = led ∙ ap after (sym entered.journal);
        legal = subst Legal (sym entered.journal) unseen.legal;
        unseen = subst (λ seen. All (λ r. r.1 ≡ 0) (readings_of seen)) (sym entered.journal) unseen.unseen;
        counted = λ h. still_counted stage old e new whole entered unseen.legal h ∙ ap (λ seen. public seen h) (sym entered.journal);
        handles = entered.handles;
        shown = entered.renders;
      };
      worlds = entered.worlds;
      marks = entered.marks;
      room = omega (arith, entered.room, fewer_flights (is_root (count_at new.held.items) (is_reached new.reached.items (changed_in_past stage old e))) (changed_in_past stage old e));
    }
