-- A part of a history: a caller whose calls stand at known places of the history makes them in the part.
use Rattle.std.proofs.Common.{◌≡◌, ◌≢◌, ◌∙◌, ◌+◌, ◌≤◌, ℕ, suc, false, List, [], ◌∷◌, ◌++◌, Option, Some, None, append_assoc, ap, arith, length, length-append, ne_eqb, refl, subst, sym}
use mathlib.Core.Logic.{dite}
use native.Mathlib.Decide.{ℕ_discrete}
use Rattle.replay_core.specs.Follows.{Makes, PhaseCaller, gone_on, meaning_to}
use Rattle.replay_core.specs.Labels.{binding_of, call_of}
use Rattle.replay_core.specs.Loans.{loans_after}
use Rattle.replay_core.specs.Runs.{Has, MakesAt}
use Rattle.replay_core.specs.declared.bindings.Binding.{Binding}
use Rattle.seq_model.specs.Contents.{entered}
use Rattle.seq_model.specs.Histories.{History, entries_of, is_call_of}
use Rattle.seq_model.specs.Steps.{Past, after, start, step}
use Rattle.seq_model.specs.declared.calls.Call.{Call}
use Rattle.seq_model.specs.declared.calls.Entry.{Entry}
use Rattle.seq_model.specs.declared.calls.Entry.TheVariants.{Called}
use Rattle.seq_model.specs.declared.calls.Reply.{Reply}
use Rattle.std.proofs.lemmas.List.Sums.{fold-append}
use Rattle.trace_text.specs.declared.calls.TraceCall.{TraceCall}
use Rattle.trace_text.specs.declared.calls.TraceCall.TheVariants.{EndLoan}
use Rattle.turn_lock.proofs.PlaceLaws.{begins_longer, rising-wider, times-low, times-other}
use Rattle.turn_lock.specs.Histories.{AreRising, Extends}

-- lists of which the beginnings are as long
pub seams : {X : Type 0} (xs ys us vs : List X) → length xs ≡ length us → xs ++ ys ≡ us ++ vs → (xs ≡ us) × (ys ≡ vs)
seams [] ys [] vs long e = (refl, e)
seams [] ys (u ∷ us) vs long e = absurd (omega (arith, long))
seams (x ∷ xs) ys [] vs long e = absurd (omega (arith, long))
seams (x ∷ xs) ys (u ∷ us) vs long e =
    let head : x ≡ u = cc in
    let tails : xs ++ ys ≡ us ++ vs = cc in
    let rest = seams xs ys us vs (omega (arith, long)) tails in
    let front : xs ≡ us = rest.0 in
    (cc, rest.1)

-- a part stands behind `low` entries of a history, and each call in it whose caller is meant stands at such a place of the history
abbrev pub Covers : (ℕ → Type 0) → ℕ → History → (ℕ → Type 0) → Type 0
Covers IsMeant low part IsPlace =
    (others later : History) (caller : ℕ) (call : Call) (reply : Reply) → part ≡ others ++ Called caller call reply ∷ later → IsMeant caller → IsPlace (low + length others + 1)

not_called : (number : ℕ) (e : Entry) → ((call : Call) (reply : Reply) → e ≡ Called number call reply → ⊥) → is_call_of number e ≡ false
not_called number (Called c call reply) none = dite (ℕ_discrete c number) (λ is. absurd (none call reply (ap (λ k. Called k call reply) is))) (λ ne. ne_eqb c number ne)
not_called number _ none = refl

-- a part in which no call of a caller stands
none_called : (number : ℕ) (part : History) → ((others later : History) (call : Call) (reply : Reply) → part ≡ others ++ Called number call reply ∷ later → ⊥) → entries_of number part ≡ []
none_called number [] none = refl
none_called number (e ∷ part) none =
    rw (not_called number e (λ call reply is. none [] part call reply (ap (λ x. x ∷ part) is)))
    (none_called number part (λ others later call reply is. none (e ∷ others) later call reply (ap (λ h. e ∷ h) is)))

pub after_append : (first others : History) → after (first ++ others) ≡ gone_on (after first) others
unfolding after
after_append first others = fold-append step start first others

-- a call of the part is in the history where it is in the part, and what is behind it in the part is behind it in the history
call_in_part : (history first part rest before later others : History) (e : Entry) → history ≡ first ++ (part ++ rest) → history ≡ before ++ e ∷ later → before ≡ first ++ others
    → part ++ rest ≡ others ++ e ∷ later
call_in_part history first part rest before later others e is stands begins =
    let same : first ++ (part ++ rest) ≡ first ++ (others ++ e ∷ later) = sym is ∙ stands ∙ ap (λ h. h ++ e ∷ later) begins ∙ append_assoc first others (e ∷ later) in
    (seams first (part ++ rest) first (others ++ e ∷ later) refl same).1

split_at_call : (part rest others later : History) (e : Entry) → part ++ rest ≡ others ++ e ∷ later → length others + 1 ≤ length part → (behind : History) × (part ≡ others ++ e ∷ behind)
split_at_call part rest others later e is long =
    let one : length (others ++ e ∷ []) ≡ length others + 1 = length-append others (e ∷ []) in
    let (behind, within) : Extends (others ++ e ∷ []) part = begins_longer (others ++ e ∷ []) part later rest (append_assoc others (e ∷ []) later ∙ sym is) (omega (arith, one, long)) in
    (behind, within ∙ append_assoc others (e ∷ []) behind)

behind_call : (history first part rest before others behind : History) (e : Entry) → history ≡ first ++ (part ++ rest) → before ≡ first ++ others → part ≡ others ++ e ∷ behind
    → history ≡ (before ++ e ∷ []) ++ (behind ++ rest)
behind_call history first part rest before others behind e is begins part_is =
    is ∙ ap (λ h. first ++ (h ++ rest)) part_is ∙ ap (λ h. first ++ h) (append_assoc others (e ∷ behind) rest) ∙ sym (append_assoc first others (e ∷ (behind ++ rest)))
    ∙ ap (λ h. h ++ (e ∷ (behind ++ rest))) (sym begins) ∙ sym (append_assoc before (e ∷ []) (behind ++ rest))

-- A part is cut behind the next call of a caller, which stands in the history after `before`: what is left is a part too, of which the further
-- places are
record Cut (number : ℕ) (history first part rest before : History) (call : Call) (reply : Reply) (at : List ℕ) : Type 0 where
  others : History
  behind : History
  part_is : part ≡ others ++ Called number call reply ∷ behind
  alone : entries_of number others ≡ []
  past_is : after before ≡ gone_on (after first) others
  next_is : after (before ++ Called number call reply ∷ []) ≡ step (gone_on (after first) others) (Called number call reply)
  whole : history ≡ (before ++ Called number call reply ∷ []) ++ (behind ++ rest)
  rising : AreRising (length (before ++ Called number call reply ∷ [])) (length (before ++ Called number call reply ∷ []) + length behind) at
  covers : Covers (λ c. c ≡ number) (length (before ++ Called number call reply ∷ [])) behind (λ p. Has p at)

cut_at : (number : ℕ) (history first part rest before others behind : History) (call : Call) (reply : Reply) (at at' : List ℕ)
    → history ≡ first ++ (part ++ rest) → before ≡ first ++ others → part ≡ others ++ Called number call reply ∷ behind → at' ≡ (length before + 1) ∷ at
    → AreRising (length first) (length first + length part) at' → Covers (λ c. c ≡ number) (length first) part (λ p. Has p at')
    → Cut number history first part rest before call reply at
cut_at number history first part rest before others behind call reply at at' is begins part_is place rising covers =
    let e : Entry = Called number call reply in
    let x : ℕ = length before + 1 in
    let rises : AreRising (length first) (length first + length part) (x ∷ at) = subst (AreRising (length first) (length first + length part)) place rising in
    let long : length before ≡ length first + length others = ap length begins ∙ length-append first others in
    let next : length (before ++ e ∷ []) ≡ length before + 1 = length-append before (e ∷ []) in
    let part_long : length part ≡ length others + suc (length behind) = ap length part_is ∙ length-append others (e ∷ behind) in
    record {
      others = others;
      behind = behind;
      part_is = part_is;
      alone = none_called number others (λ o l call' reply' o_is.
          let p : ℕ = length first + length o + 1 in
          let has : Has p (x ∷ at) = subst (Has p) place
          (covers o (l ++ e ∷ behind) number call' reply' (part_is ∙ ap (λ h. h ++ e ∷ behind) o_is ∙ append_assoc o (Called number call' reply' ∷ l) (e ∷ behind)) refl) in
          let o_long : length others ≡ length o + suc (length l) = ap length o_is ∙ length-append o (Called number call' reply' ∷ l) in
          omega (arith, has, times-low p (length before) (length first + length part) (x ∷ at) (omega arith, rises.1, rises.2) (omega (arith, o_long, long))));
      past_is = ap after begins ∙ after_append first others;
      next_is = after_append before (e ∷ []) ∙ ap (λ (past : Past). step past e) (ap after begins ∙ after_append first others);
      whole = behind_call history first part rest before others behind e is begins part_is;
      rising = rising-wider x (length (before ++ e ∷ [])) (length first + length part) (length (before ++ e ∷ []) + length behind) at (omega (arith, next)) (omega (arith, next, part_long, long)) rises.2;
      covers = λ o l c call' reply' o_is c_is.
          let p : ℕ = length (before ++ e ∷ []) + length o + 1 in
          let o_long : length (others ++ e ∷ o) ≡ length others + suc (length o) = length-append others (e ∷ o) in
          let same : length first + length (others ++ e ∷ o) + 1 ≡ p = omega (arith, o_long, long, next) in
          let has : Has p at' = subst (λ q. Has q at') same
          (covers (others ++ e ∷ o) l c call' reply' (part_is ∙ ap (λ h. others ++ e ∷ h) o_is ∙ sym (append_assoc others (e ∷ o) (Called c call' reply' ∷ l))) c_is) in
          let other : x ≢ p = (λ clash. omega (arith, clash, next)) in
          omega (arith, subst (Has p) place has, times-other p x at other);
    }

cut : (number : ℕ) (history first part rest before later : History) (call : Call) (reply : Reply) (at at' : List ℕ)
    → history ≡ first ++ (part ++ rest) → history ≡ before ++ Called number call reply ∷ later → at' ≡ (length before + 1) ∷ at
    → AreRising (length first) (length first + length part) at' → Covers (λ c. c ≡ number) (length first) part (λ p. Has p at')
    → Cut number history first part rest before call reply at
cut number history first part rest before later call reply at at' is stands place rising covers =
    let e : Entry = Called number call reply in
    let rises : AreRising (length first) (length first + length part) ((length before + 1) ∷ at) = subst (AreRising (length first) (length first + length part)) place rising in
    let (others, begins) : Extends first before = begins_longer first before (part ++ rest) (e ∷ later) (sym is ∙ stands) (omega (arith, rises.0)) in
    let long : length before ≡ length first + length others = ap length begins ∙ length-append first others in
    let (behind, part_is) : (behind : History) × (part ≡ others ++ e ∷ behind) =
    split_at_call part rest others later e (call_in_part history first part rest before later others e is stands begins) (omega (arith, long, rises.1)) in
    cut_at number history first part rest before others behind call reply at at' is begins part_is place rising covers

-- a caller that makes its calls at places of a part, where all of its calls in the part stand, makes them in the part
pub makes_in_part : (caller : PhaseCaller) (history rest first part : History) (calls : List TraceCall) (loans : List (Option Call)) (own : List Binding) (at : List ℕ) (bound : List Binding)
    → history ≡ first ++ (part ++ rest) → AreRising (length first) (length first + length part) at → Covers (λ c. c ≡ caller.number) (length first) part (λ p. Has p at)
    → MakesAt caller history calls loans own at bound → Makes caller (after first) calls loans own part bound
unfolding MakesAt Makes
makes_in_part caller history rest first part [] loans own at bound is rising covers makes = (
  none_called caller.number part (λ others later call reply part_is.
      let p : ℕ = length first + length others + 1 in
      let has : Has p [] = subst (Has p) makes.0 (covers others later caller.number call reply part_is refl) in
      omega (arith, has)),
  makes.1,
)
makes_in_part caller history rest first part (EndLoan ∷ calls) [] own at bound is rising covers makes = makes_in_part caller history rest first part calls [] own at bound is rising covers makes
makes_in_part caller history rest first part (EndLoan ∷ calls) (None ∷ loans) own at bound is rising covers makes = makes_in_part caller history rest first part calls loans own at bound is rising covers makes
makes_in_part caller history rest first part (EndLoan ∷ calls) (Some unmap ∷ loans) own at bound is rising covers (next, makes) =
    let s = cut caller.number history first part rest next.before next.later next.call next.reply next.rest at is next.stands next.place rising covers in
    let e : Entry = Called caller.number next.call next.reply in (
      record { others = s.others; call = next.call; reply = next.reply; rest = s.behind; stands = s.part_is; alone = s.alone; fits = ap (λ (now : Past). Some (entered now unmap)) (sym s.past_is) ∙ next.fits },
      subst (λ (past : Past). Makes caller past calls loans own s.behind bound) s.next_is
          (makes_in_part caller history rest (next.before ++ e ∷ []) s.behind calls loans own next.rest bound s.whole s.rising s.covers makes),
    )
makes_in_part caller history rest first part (c ∷ calls) loans own at bound is rising covers (next, makes) =
    let s = cut caller.number history first part rest next.before next.later next.call next.reply next.rest at is next.stands next.place rising covers in
    let e : Entry = Called caller.number next.call next.reply in
    let loans' : Past → List (Option Call) = λ now. loans_after now (meaning_to caller own) c next.reply loans in
    let own' : List Binding = own ++ binding_of caller.phase caller.number c next.reply in (
      record { others = s.others; call = next.call; reply = next.reply; rest = s.behind; stands = s.part_is; alone = s.alone; fits = ap (λ (now : Past). call_of (meaning_to caller own) c) (sym s.past_is) ∙ next.fits },
      subst (λ (past : Past). Makes caller past calls (loans' (gone_on (after first) s.others)) own' s.behind bound) s.next_is
          (subst (λ (now : Past). Makes caller (after (next.before ++ e ∷ [])) calls (loans' now) own' s.behind bound) s.past_is
          (makes_in_part caller history rest (next.before ++ e ∷ []) s.behind calls (loans' (after next.before)) own' next.rest bound s.whole s.rising s.covers makes)),
    )
