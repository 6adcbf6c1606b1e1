-- The callers of a phase, each of which makes its calls at places of its own, make them in the part of the phase, and nobody else makes any.
use Rattle.std.proofs.Common.{◌≡◌, ◌∙◌, ◌⊎◌, ◌+◌, ◌<◌, ◌≤◌, ◌≢◌, ℕ, zero, suc, List, [], ◌∷◌, ◌++◌, Any, IfSome, Option, Some, None, append_assoc, ap, arith, inl, inr, length, length-append, refl, subst, sym, ⊎_elim}
use Rattle.std.proofs.lemmas.List.Elements.{All-nil, All-cons}
use Rattle.dev_types.specs.Counting.{times}
use Rattle.replay_core.proofs.Parts.{Covers, makes_in_part, seams}
use Rattle.replay_core.specs.Follows.{AreOfFirst, EachMakes, PhaseCaller, meaning_to}
use Rattle.replay_core.specs.Labels.{binding_of}
use Rattle.replay_core.specs.Loans.{loans_after}
use Rattle.replay_core.specs.Runs.{CallsAt, EachMakesAt, Has, MakesAt}
use Rattle.replay_core.specs.declared.bindings.Binding.{Binding}
use Rattle.seq_model.specs.Histories.{History, caller_of}
use Rattle.seq_model.specs.Steps.{Past, after}
use Rattle.seq_model.specs.declared.calls.Call.{Call}
use Rattle.seq_model.specs.declared.calls.Entry.{Entry}
use Rattle.seq_model.specs.declared.calls.Entry.TheVariants.{Called}
use Rattle.seq_model.specs.declared.calls.Reply.{Reply}
use Rattle.trace_text.specs.declared.calls.Caller.{Caller}
use Rattle.trace_text.specs.declared.calls.TraceCall.{TraceCall}
use Rattle.trace_text.specs.declared.calls.TraceCall.TheVariants.{EndLoan}
use Rattle.turn_lock.proofs.PlaceLaws.{times-cons}

-- at a place of a history stands a call of a caller
record StandsAt (history : History) (p caller : ℕ) : Type 0 where
  before : History
  later : History
  call : Call
  reply : Reply
  stands : history ≡ before ++ Called caller call reply ∷ later
  place : p ≡ length before + 1

-- so it does at each place of a caller's calls
first_or_later : {asked : Past → Option Call} (number : ℕ) (history : History) (at : List ℕ) (p : ℕ) (next : CallsAt number history asked at)
    → Has p at → (Has p next.rest → StandsAt history p number) → StandsAt history p number
first_or_later number history at p next has later =
    let x : ℕ = length next.before + 1 in
    let among : Has p (x ∷ next.rest) = subst (Has p) next.place has in
    ⊎_elim
    (λ (e : (x ≡ p) × (times p (x ∷ next.rest) ≡ 1 + times p next.rest)).
    let it : StandsAt history p number = record { before = next.before; later = next.later; call = next.call; reply = next.reply; stands = next.stands; place = sym e.0 } in it)
    (λ (e : (x ≢ p) × (times p (x ∷ next.rest) ≡ times p next.rest)). later (omega (arith, among, e.1)))
    (times-cons p x next.rest)

stands_of : (caller : PhaseCaller) (history : History) (calls : List TraceCall) (loans : List (Option Call)) (own : List Binding) (at : List ℕ) (bound : List Binding) (p : ℕ)
    → MakesAt caller history calls loans own at bound → Has p at → StandsAt history p caller.number
unfolding MakesAt
stands_of caller history [] loans own at bound p makes has = let none : Has p [] = subst (Has p) makes.0 has in absurd (omega (arith, none))
stands_of caller history (EndLoan ∷ calls) [] own at bound p makes has = stands_of caller history calls [] own at bound p makes has
stands_of caller history (EndLoan ∷ calls) (None ∷ loans) own at bound p makes has = stands_of caller history calls loans own at bound p makes has
stands_of caller history (EndLoan ∷ calls) (Some unmap ∷ loans) own at bound p makes has =
    first_or_later caller.number history at p makes.0 has (stands_of caller history calls loans own makes.0.rest bound p makes.1)
stands_of caller history (c ∷ calls) loans own at bound p makes has =
    first_or_later caller.number history at p makes.0 has
    (stands_of caller history calls (loans_after (after makes.0.before) (meaning_to caller own) c makes.0.reply loans) (own ++ binding_of caller.phase caller.number c makes.0.reply) makes.0.rest bound p makes.1)

-- a place that is in one of the lists is in the first or in one of the others
pub any_split : (p : ℕ) (at : List ℕ) (each : List (List ℕ)) → Any (Has p) (at ∷ each) → Has p at ⊎ Any (Has p) each
any_split p at each (zero, xs, below, is, has) = inl (subst (Has p) (sym is) has)
any_split p at each (suc k, xs, below, is, has) = inr (k, xs, omega (arith, below), is, has)

-- at a place of one of the callers' lists stands a call of one of them
record StandsOfOne (history : History) (p first count : ℕ) : Type 0 where
  caller : ℕ
  low : first ≤ caller
  high : caller < first + count
  it : StandsAt history p caller

stands_of_one : (phase : ℕ) (known : List Binding) (history : History) (low high number : ℕ) (callers : List Caller) (each : List (List ℕ)) (bound : List Binding) (p : ℕ)
    → EachMakesAt phase known history low high number callers each bound → Any (Has p) each → StandsOfOne history p number (length callers)
unfolding EachMakesAt
stands_of_one phase known history low high number [] each bound p makes some =
    let none : Any (Has p) [] = subst (Any (Has p)) makes.0 some in absurd (omega (arith, none.2))
stands_of_one phase known history low high number (caller ∷ callers) each bound p (at, rest, own, others, each_is, bound_is, rising, makes, more) some =
    let who : PhaseCaller = record { phase = phase; number = number; known = known } in
    ⊎_elim
    (λ (has : Has p at).
    let it : StandsOfOne history p number (suc (length callers)) = record { caller = number; low = omega arith; high = omega arith; it = stands_of who history caller.calls [] [] at own p makes has } in it)
    (λ (later : Any (Has p) rest).
    let one = stands_of_one phase known history low high (number + 1) callers rest others p more later in
    let it : StandsOfOne history p number (suc (length callers)) = record { caller = one.caller; low = omega (arith, one.low); high = omega (arith, one.high); it = one.it } in it)
    (any_split p at rest (subst (Any (Has p)) each_is some))

-- the caller of what stands in a part, and the one that stands at its place, are one
one_caller : (history first part rest others later : History) (caller other : ℕ) (call : Call) (reply : Reply)
    → history ≡ first ++ (part ++ rest) → part ≡ others ++ Called caller call reply ∷ later → StandsAt history (length first + length others + 1) other → other ≡ caller
one_caller history first part rest others later caller other call reply is part_is it =
    let e : Entry = Called caller call reply in
    let whole : history ≡ (first ++ others) ++ (e ∷ (later ++ rest)) =
    is ∙ ap (λ h. first ++ (h ++ rest)) part_is ∙ ap (λ h. first ++ h) (append_assoc others (e ∷ later) rest) ∙ sym (append_assoc first others (e ∷ (later ++ rest))) in
    let both = seams it.before (Called other it.call it.reply ∷ it.later) (first ++ others) (e ∷ (later ++ rest)) (omega (arith, it.place, length-append first others)) (sym it.stands ∙ whole) in
    let heads : Called other it.call it.reply ∷ it.later ≡ e ∷ (later ++ rest) = both.1 in
    cc heads

-- each caller makes its calls in the part, where all calls there of the callers from this number on stand at places of theirs
pub each_makes : (phase : ℕ) (known : List Binding) (history first part rest : History) (number : ℕ) (callers : List Caller) (each : List (List ℕ)) (bound : List Binding)
    → history ≡ first ++ (part ++ rest) → Covers (λ c. number ≤ c) (length first) part (λ p. Any (Has p) each)
    → EachMakesAt phase known history (length first) (length first + length part) number callers each bound
    → EachMakes phase known (after first) part number callers bound
unfolding EachMakesAt EachMakes
each_makes phase known history first part rest number [] each bound is covers makes = makes.1
each_makes phase known history first part rest number (caller ∷ callers) each bound is covers (at, lists, own, others, each_is, bound_is, rising, makes, more) =
    let who : PhaseCaller = record { phase = phase; number = number; known = known } in
    let its : Covers (λ c. c ≡ number) (length first) part (λ p. Has p at) = λ o l c call reply part_is c_is.
    let p : ℕ = length first + length o + 1 in
    ⊎_elim
    (λ (has : Has p at). has)
    (λ (later : Any (Has p) lists).
    let one = stands_of_one phase known history (length first) (length first + length part) (number + 1) callers lists others p more later in
    let same : one.caller ≡ c = one_caller history first part rest o l c one.caller call reply is part_is one.it in
    absurd (omega (arith, one.low, same, c_is)))
    (any_split p at lists (subst (Any (Has p)) each_is (covers o l c call reply part_is (omega (arith, c_is))))) in
    let theirs : Covers (λ c. number + 1 ≤ c) (length first) part (λ p. Any (Has p) lists) = λ o l c call reply part_is above.
    let p : ℕ = length first + length o + 1 in
    ⊎_elim
    (λ (has : Has p at).
    let same : number ≡ c = one_caller history first part rest o l c number call reply is part_is (stands_of who history caller.calls [] [] at own p makes has) in
    absurd (omega (arith, same, above)))
    (λ (later : Any (Has p) lists). later)
    (any_split p at lists (subst (Any (Has p)) each_is (covers o l c call reply part_is (omega (arith, above))))) in (
      own,
      others,
      bound_is,
      makes_in_part who history rest first part caller.calls [] [] at own is rising its makes,
      each_makes phase known history first part rest (number + 1) callers lists others is theirs more,
    )

-- entries of which each that is a call is one of the first callers
pub are_of_first : (count : ℕ) (part : History) → ((others later : History) (caller : ℕ) (call : Call) (reply : Reply) → part ≡ others ++ Called caller call reply ∷ later → caller < count) → AreOfFirst count part
are_of_first count [] each = All-nil (λ e. IfSome (caller_of e) (λ caller. caller < count))
are_of_first count (e ∷ part) each =
    All-cons (λ e. IfSome (caller_of e) (λ caller. caller < count)) e part (here e (each [] part))
    (are_of_first count part (λ others later caller call reply is. each (e ∷ others) later caller call reply (ap (λ h. e ∷ h) is)))
  where
    here : (x : Entry) → ((caller : ℕ) (call : Call) (reply : Reply) → x ∷ part ≡ Called caller call reply ∷ part → caller < count) → IfSome (caller_of x) (λ caller. caller < count)
    here (Called caller call reply) is = is caller call reply refl
    here _ is = tt

-- nobody but the callers of a phase makes a call in its part
pub part_is_theirs : (phase : ℕ) (known : List Binding) (history first part rest : History) (callers : List Caller) (each : List (List ℕ)) (bound : List Binding)
    → history ≡ first ++ (part ++ rest) → Covers (λ c. 0 ≤ c) (length first) part (λ p. Any (Has p) each)
    → EachMakesAt phase known history (length first) (length first + length part) 0 callers each bound
    → AreOfFirst (length callers) part
part_is_theirs phase known history first part rest callers each bound is covers makes =
    are_of_first (length callers) part (λ others later caller call reply part_is.
    let one = stands_of_one phase known history (length first) (length first + length part) 0 callers each bound (length first + length others + 1) makes
    (covers others later caller call reply part_is (omega arith)) in
    let same : one.caller ≡ caller = one_caller history first part rest others later caller one.caller call reply is part_is one.it in
    omega (arith, one.high, same))
