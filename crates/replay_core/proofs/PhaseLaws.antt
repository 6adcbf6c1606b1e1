-- Phases, one after the other: where the callers of each ran, the whole history follows the trace.
use Rattle.std.proofs.Common.{◌≡◌, ◌≢◌, ◌∙◌, ◌+◌, ◌<◌, ◌≤◌, ℕ, List, [], ◌∷◌, ◌++◌, Any, IfSome, None, append_assoc, append-nil, ap, arith, length, length-append, refl, subst, sym, ⊎_elim}
use Rattle.std.proofs.lemmas.List.Elements.{All-nil, All-cons, All-append}
use Rattle.std.specs.List.{last_or}
use Rattle.dev_types.specs.Counting.{times}
use Rattle.replay_core.proofs.EachLaws.{any_split, are_of_first, each_makes, part_is_theirs}
use Rattle.replay_core.proofs.SoloFollows.{follows_by, last_is, nothing_left, one_phase}
use Rattle.replay_core.proofs.Parts.{Covers, after_append}
use Rattle.replay_core.specs.Follows.{AreOfFirst, BeginsWith, Follows, GoesThrough, gone_on}
use Rattle.replay_core.specs.Runs.{EachMakesAt, Has, RanCallers, Replays}
use Rattle.replay_core.specs.declared.bindings.Binding.{Binding}
use Rattle.seq_model.specs.Histories.{History, caller_of}
use Rattle.seq_model.specs.Steps.{Past, after, start}
use Rattle.seq_model.specs.declared.calls.Call.{Call}
use Rattle.seq_model.specs.declared.calls.Entry.{Entry}
use Rattle.seq_model.specs.declared.calls.Entry.TheVariants.{Called, Closed}
use Rattle.seq_model.specs.declared.calls.Reply.{Reply}
use Rattle.trace_text.specs.declared.calls.Caller.{Caller}
use Rattle.trace_text.specs.declared.calls.Phase.{Phase}
use Rattle.trace_text.specs.declared.calls.Trace.{Trace}
use Rattle.turn_lock.proofs.PlaceLaws.{extends-same, places-extended, places_from-append, rising-places, times-append, times-cons, times-same}
use Rattle.turn_lock.specs.Histories.{AreRising, Extends, new_places, places, places_from}

-- a place of a list that rises
has_within : (p low high : ℕ) (xs : List ℕ) → AreRising low high xs → Has p xs → (low < p) × (p ≤ high)
has_within p low high [] rising has = absurd (omega (arith, has))
has_within p low high (x ∷ xs) rising has = ⊎_elim
    (λ (e : (x ≡ p) × (times p (x ∷ xs) ≡ 1 + times p xs)). (omega (arith, e.0, rising.0), omega (arith, e.0, rising.1)))
    (λ (e : (x ≢ p) × (times p (x ∷ xs) ≡ times p xs)). let rest = has_within p x high xs rising.2 (omega (arith, has, e.1)) in (omega (arith, rest.0, rising.0), rest.1))
    (times-cons p x xs)

-- a place of one of the callers' lists
one_within : (phase : ℕ) (known : List Binding) (history : History) (low high number : ℕ) (callers : List Caller) (each : List (List ℕ)) (bound : List Binding) (p : ℕ)
    → EachMakesAt phase known history low high number callers each bound → Any (Has p) each → low < p
unfolding EachMakesAt
one_within phase known history low high number [] each bound p makes some =
    let none : Any (Has p) [] = subst (Any (Has p)) makes.0 some in absurd (omega (arith, none.2))
one_within phase known history low high number (caller ∷ callers) each bound p (at, rest, own, others, each_is, bound_is, rising, makes, more) some = ⊎_elim
    (λ (has : Has p at). (has_within p low high at rising has).0)
    (λ (later : Any (Has p) rest). one_within phase known history low high (number + 1) callers rest others p more later)
    (any_split p at rest (subst (Any (Has p)) each_is some))

-- a call's place is among the places of a history
called_place : (before later : History) (caller : ℕ) (call : Call) (reply : Reply) → Has (length before + 1) (places caller_of (before ++ Called caller call reply ∷ later))
called_place before later caller call reply =
    let n : ℕ = length before + 1 in
    let e : 1 + length before ≡ n = omega arith in
    let split : places caller_of (before ++ Called caller call reply ∷ later) ≡ places_from caller_of 1 before ++ n ∷ places_from caller_of (n + 1) later =
    places_from-append caller_of 1 before (Called caller call reply ∷ later) ∙ ap (λ k. places_from caller_of 1 before ++ k ∷ places_from caller_of (k + 1) later) e in
    subst (λ l. Has n l) (sym split) (omega (arith, times-append n (places_from caller_of 1 before) (n ∷ places_from caller_of (n + 1) later), times-same n (places_from caller_of (n + 1) later)))

-- so is the place of a call in a part
place_in_part : (history seen part others later : History) (caller : ℕ) (call : Call) (reply : Reply) → history ≡ seen ++ part → part ≡ others ++ Called caller call reply ∷ later
    → Has (length seen + length others + 1) (places caller_of history)
place_in_part history seen part others later caller call reply is part_is =
    let whole : history ≡ (seen ++ others) ++ Called caller call reply ∷ later = is ∙ ap (λ h. seen ++ h) part_is ∙ sym (append_assoc seen others (Called caller call reply ∷ later)) in
    let same : length (seen ++ others) + 1 ≡ length seen + length others + 1 = omega (arith, length-append seen others) in
    subst (λ p. Has p (places caller_of history)) same
    (subst (λ (h : History). Has (length (seen ++ others) + 1) (places caller_of h)) (sym whole) (called_place (seen ++ others) later caller call reply))

-- the places of what was seen are places of what is seen later
place_later : (seen seen' : History) (p : ℕ) → Extends seen seen' → Has p (places caller_of seen) → Has p (places caller_of seen')
place_later seen seen' p more has =
    omega (arith, has, ap (times p) (places-extended caller_of seen seen' more), times-append p (places caller_of seen) (new_places caller_of seen seen'))

-- a trace at its beginning
pub replays_none : (phases : List Phase) → Replays phases phases 0 [] [] []
unfolding after
replays_none phases = record { leads = λ covers rest goes. goes }

-- a phase more, in which its callers ran
pub replays_more : (phases : List Phase) (phase : Phase) (left : List Phase) (number : ℕ) (seen seen' : History) (mine mine' : List ℕ) (known bound : List Binding)
    → AreRising 0 (length seen) mine → Extends seen seen'
    → RanCallers number known 0 phase.callers seen mine seen' mine' bound
    → Replays phases (phase ∷ left) number seen mine known → Replays phases left (number + 1) seen' mine' (known ++ bound)
replays_more phases phase left number seen seen' mine mine' known bound rising more ran before = record {
  leads = λ covers rest goes.
      let part : History = more.0 in
      let callers : List Caller = phase.callers in
      let is : seen' ≡ seen ++ (part ++ []) = more.1 ∙ ap (λ h. seen ++ h) (sym (append-nil part)) in
      let long : length seen' ≡ length seen + length part = ap length more.1 ∙ length-append seen part in
      let makes : EachMakesAt number known seen' (length seen) (length seen') 0 callers ran.each bound = ran.makes seen' (extends-same seen') in
      let within : EachMakesAt number known seen' (length seen) (length seen + length part) 0 callers ran.each bound =
      subst (λ n. EachMakesAt number known seen' (length seen) n 0 callers ran.each bound) long makes in
      let new : Covers (λ c. 0 ≤ c) (length seen) part (λ p. Any (Has p) ran.each) = λ others later c call reply part_is above.
      let p : ℕ = length seen + length others + 1 in
      ⊎_elim
      (λ (has : Has p mine). absurd (omega (arith, (has_within p 0 (length seen) mine rising has).1)))
      (λ (has : Any (Has p) ran.each). has)
      (ran.covers p (covers p (place_in_part seen' seen part others later c call reply more.1 part_is))) in
      let old : (p : ℕ) → Has p (places caller_of seen) → Has p mine = λ p has. ⊎_elim
      (λ (x : Has p mine). x)
      (λ (x : Any (Has p) ran.each).
      absurd (omega (arith, one_within number known seen' (length seen) (length seen') 0 callers ran.each bound p makes x, (has_within p 0 (length seen) (places caller_of seen) (rising-places caller_of seen) has).1)))
      (ran.covers p (covers p (place_later seen seen' p more has))) in
      let begins : BeginsWith number known (after seen) callers (part ++ rest) = record {
        part = part;
        rest = rest;
        bound = bound;
        is = refl;
        makes = each_makes number known seen' seen part [] 0 callers ran.each bound is new within;
        alone = part_is_theirs number known seen' seen part [] callers ran.each bound is new within;
      } in
      let further : after seen' ≡ gone_on (after seen) part = ap after more.1 ∙ after_append seen part in
      let all : seen' ++ rest ≡ seen ++ (part ++ rest) = ap (λ h. h ++ rest) more.1 ∙ append_assoc seen part rest in
      subst (GoesThrough 0 [] start phases) (sym all)
      (before.leads old (part ++ rest)
      (one_phase number known (after seen) phase left (part ++ rest) begins
      (subst (λ (past : Past). GoesThrough (number + 1) (known ++ bound) past left rest) further goes)));
}

-- all phases, and the close
pub replays_follow : (trace : Trace) (phases : List Phase) (number : ℕ) (seen last history : History) (mine : List ℕ) (known : List Binding)
    → phases ≡ trace.phases → AreRising 0 (length seen) mine → Extends seen last → mine ≡ places caller_of last → history ≡ last ++ Closed ∷ []
    → Replays phases [] number seen mine known → Follows trace history
replays_follow trace phases number seen last history mine known phases_is rising more all is ran =
    let tail : History = more.0 in
    let covers : (p : ℕ) → Has p (places caller_of seen) → Has p mine = λ p has. subst (Has p) (sym all) (place_later seen last p more has) in
    let none : AreOfFirst 0 tail = are_of_first 0 tail (λ others later c call reply tail_is.
    let p : ℕ = length seen + length others + 1 in
    let has : Has p mine = subst (Has p) (sym all) (place_in_part last seen tail others later c call reply more.1 tail_is) in
    absurd (omega (arith, (has_within p 0 (length seen) mine rising has).1))) in
    let IsNobodys : Entry → Type 0 = λ e. IfSome (caller_of e) (λ c. c < 0) in
    let quiet : AreOfFirst 0 (tail ++ Closed ∷ []) = All-append IsNobodys tail (Closed ∷ []) none (All-cons IsNobodys Closed [] tt (All-nil IsNobodys)) in
    let whole : seen ++ (tail ++ Closed ∷ []) ≡ history = sym (append_assoc seen tail (Closed ∷ [])) ∙ ap (λ (h : History). h ++ Closed ∷ []) (sym more.1) ∙ sym is in
    follows_by trace history
    (subst (λ (ps : List Phase). GoesThrough 0 [] start ps history) phases_is
    (subst (GoesThrough 0 [] start phases) whole
    (ran.leads covers (tail ++ Closed ∷ []) (nothing_left number known (after seen) (tail ++ Closed ∷ []) quiet))))
    (ap (last_or None) is ∙ last_is last Closed None)
