-- A device to which nothing happened.
use Rattle.std.proofs.Common.{◌≡◌, ◌∙◌, ◌≤◌, ◌<◌, ◌+◌, ℕ, zero, suc, All, [], length, vec_capacity, refl, sym, ap, subst, arith}
use Rattle.std.proofs.lemmas.List.Elements.{All-nil}
use Rattle.seq_model.proofs.Afters.{frame_within}
use Rattle.seq_model.specs.Extensions.{readings_from, readings_of}
use Rattle.seq_model.specs.Histories.{public}
use Rattle.seq_model.specs.Legal.{GoesOn, Legal}
use Rattle.seq_model.specs.State.{empty}
use Rattle.seq_model.specs.Steps.{after, start}
use Rattle.plain_objects.specs.Counts.{count_at}
use Rattle.plain_journal.specs.Kept.{KnowsRenders}
use Rattle.plain_journal.specs.Whole.{IsWhole, past_in}
use Rattle.past_laws.specs.Worlds.{KnowsWorlds}
use Rattle.plain_journal.specs.declared.books.Books.{Books}

start_is_after : start ≡ after []
unfolding after
start_is_after = refl

nothing_is_legal : Legal []
unfolding Legal GoesOn
nothing_is_legal = tt

nothing_is_read : All (λ r. r.1 ≡ 0) (readings_of [])
unfolding readings_of readings_from
nothing_is_read = All-nil _

nothing_is_counted : (h : ℕ) → count_at [] h ≡ public [] h
unfolding public
nothing_is_counted zero = refl
nothing_is_counted (suc i) = refl

nothing_is_rendered : KnowsRenders [] []
nothing_is_rendered = record {
  kept = λ t f found. let within : (0 < t) × (t ≤ 0) = frame_within [] t f found in absurd (omega (arith, within.0, within.1));
  happened = All-nil _;
}

-- what is known of it
pub begins : (books : Books) → books.journal.items ≡ [] → books.reached.items ≡ [] → books.held.items ≡ [] → books.renders.items ≡ [] → KnowsWorlds [] books.worlds → books.marks.items ≡ [] →
    1 ≤ vec_capacity books.journal → IsWhole empty books
begins books journal reached held renders worlds marks room = record {
  kept = record {
    led = past ∙ start_is_after ∙ ap after (sym journal);
    legal = subst Legal (sym journal) nothing_is_legal;
    unseen = subst (λ seen. All (λ r. r.1 ≡ 0) (readings_of seen)) (sym journal) nothing_is_read;
    counted = λ h. ap (λ hs. count_at hs h) held ∙ nothing_is_counted h ∙ ap (λ seen. public seen h) (sym journal);
    handles = ap (λ hs. length hs + 1) held;
    shown = subst (λ j. KnowsRenders j books.renders.items) (sym journal) (subst (KnowsRenders []) (sym renders) nothing_is_rendered);
  };
  worlds = subst (λ j. KnowsWorlds j books.worlds) (sym journal) worlds;
  marks = omega (arith, ap length marks, ap length held);
  room = omega (arith, ap length journal, room);
}
  where
    past : past_in empty books ≡ start
    past = ap (λ j. record { seen = j; state = empty; reached = books.reached.items }) journal ∙ ap (λ r. record { seen = []; state = empty; reached = r }) reached
