-- How many loans are out after an entry.
use Rattle.std.proofs.Common.{◌≡◌, ◌∙◌, ◌+◌, ◌<◌, ◌≤◌, ◌*◌, ◌==◌, ◌||◌, ◌&&◌, ◌++◌, ◌∷◌, ℕ, suc, Bool, true, false, not, cond, List, [], Option, Some, None, length, length-append, map, refl, sym, ap, subst, arith}
use Rattle.std.specs.Prelude.{nat_lt}
use Rattle.std.specs.List.{filter, list_any, sum_by}
use Rattle.std.specs.Str.{bytes_eq}
use Rattle.std.specs.Option.{MatchOption, is_none, is_some, option_and_then, option_map, option_map_or, unwrap_or}
use Rattle.std.proofs.lemmas.Bool.{eqb-true, ltb-false}
use Rattle.std.proofs.lemmas.List.Sums.{sum_by-cons}
use Rattle.dev_types.specs.declared.data_types.DataType.{DataType}
use Rattle.dev_types.specs.declared.data_types.DataType.TheVariants as ty
use Rattle.dev_types.specs.declared.handles.Channel.{Channel}
use Rattle.dev_types.specs.DataTypes.{byte_size}
use Rattle.dev_types.specs.declared.handles.Origin.TheVariants.{Managed}
use Rattle.dev_types.specs.declared.refusals.Refused.{Refused}
use Rattle.dev_types.specs.declared.refusals.Refused.TheVariants.{ArrayMapped, BadHandle, NotMapped, WrongKind}
use Rattle.dev_types.specs.declared.values.Value.TheVariants as value
use Rattle.kind_tables.specs.Kinds.{is_same_type, kind_of, type_of_kind}
use Rattle.kind_tables.specs.SceneObjects.{with_value, without_value}
use Rattle.kind_tables.specs.declared.kinds.Kind.{Kind}
use Rattle.kind_tables.specs.declared.kinds.Kind.TheVariants.{Array}
use Rattle.seq_model.specs.Deaths.{changed_by}
use Rattle.seq_model.specs.Histories.{History}
use Rattle.seq_model.specs.Legal.{Legal}
use Rattle.seq_model.specs.Life.{grown, is_named_by, is_root, live, loan_count}
use Rattle.seq_model.specs.Refusals.{has_type, is_array_loan_out, is_array_out, is_channel_out, is_parameter_loan_out, is_parameter_out, refusal, refusals_of}
use Rattle.seq_model.specs.Room.{loans_out}
use Rattle.seq_model.specs.Soundness.{ArrayFits, IsSound}
use Rattle.seq_model.specs.State.{ArrayState, content_of_loan, Done, Empty, Flight, Object, ParameterLoan, Phase, State, array_loan, changed_at, object_at, parameter_loan, with_object}
use Rattle.seq_model.specs.Steps.{Past, after, change, change_array, commit, discard, end_parameter_loan, fresh, fresh_array, holding, lend_parameter, lent, map_channel, set_staged, unmap_channel, effect, end_flight, end_flights, set_phase, step, stop, swept, take_in, unmap_parameter}
use Rattle.seq_model.specs.declared.calls.Call.{Call}
use Rattle.seq_model.specs.declared.calls.Call.TheVariants.{Commit, DiscardFrame, MapArray, MapFrame, MapParameterArray, NewArray, NewObject, RenderFrame, Retain, SetParameter, UnmapArray, UnmapFrame, UnmapParameterArray, UnsetAll, UnsetParameter}
use Rattle.seq_model.specs.declared.calls.Entry.{Entry}
use Rattle.seq_model.specs.declared.calls.Entry.TheVariants.{Called, Closed, Finished, Left}
use Rattle.seq_model.specs.declared.calls.Reply.{Reply}
use Rattle.seq_model.specs.declared.calls.Reply.TheVariants as reply
use Rattle.seq_model.proofs.Afters.{after_more}
use Rattle.seq_model.proofs.Granted.{AllNone, all_none, does_not_apply, given}
use Rattle.seq_model.proofs.Keys.{RisesWithin}
use Rattle.seq_model.proofs.Loans.{channel_numbers, loans_are_earlier, parameter_numbers}
use Rattle.seq_model.proofs.Prefixes.{in_place, prefix_is_legal}
use Rattle.seq_model.proofs.SoundHistories.{legal_is_sound}
use Rattle.room_laws.specs.Loans.{lends, takes_back}
use Rattle.room_laws.proofs.ObjectSums.{changed_total, new_total, same_total}

abbrev weight : ℕ × Object → ℕ
weight e = loan_count e.1

-- ---- what dies is not lent

kept_more : (keep : ℕ × Object → Bool) (e : ℕ × Object) (es : List (ℕ × Object)) (b : Bool) → (b ≡ false → weight e ≡ 0) → sum_by weight (filter keep es) ≡ sum_by weight es →
    sum_by weight (cond b (e ∷ filter keep es) (filter keep es)) ≡ sum_by weight (e ∷ es)
kept_more keep e es true none rest = sum_by-cons weight e (filter keep es) ∙ ap (λ n. weight e + n) rest ∙ sym (sum_by-cons weight e es)
kept_more keep e es false none rest = let all = sum_by-cons weight e es in let nothing = none refl in omega (arith, rest, all, nothing)

kept_sum : (keep : ℕ × Object → Bool) (es : List (ℕ × Object)) → ((e : ℕ × Object) → keep e ≡ false → weight e ≡ 0) → sum_by weight (filter keep es) ≡ sum_by weight es
kept_sum keep [] none = refl
kept_sum keep (e ∷ es) none = kept_more keep e es (keep e) (none e) (kept_sum keep es none)

neither : (a b : Bool) → (a || b) ≡ false → (a ≡ false) × (b ≡ false)
neither true b none = absurd cc
neither false b none = (refl, none)

not_positive : (n : ℕ) → nat_lt 0 n ≡ false → n ≡ 0
not_positive n none = let least = ltb-false 0 n none in omega (arith, least)

not_lent : (n : ℕ) (named held reached : Bool) → (((held || nat_lt 0 n) || reached) || named) ≡ false → n ≡ 0
not_lent n named held reached none =
    not_positive n (neither held (nat_lt 0 n) (neither (held || nat_lt 0 n) reached (neither ((held || nat_lt 0 n) || reached) named none).0).0).1

live_sum : (public : ℕ → ℕ) (is_reached : ℕ → Bool) (objects : List (ℕ × Object)) → sum_by weight (live (is_root public is_reached) objects) ≡ sum_by weight objects
unfolding live grown is_root
live_sum public is_reached objects =
    kept_sum (λ e. is_root public is_reached e || is_named_by (grown (is_root public is_reached) objects 9) e.0) objects
    (λ e none. not_lent (loan_count e.1) (is_named_by (grown (is_root public is_reached) objects 9) e.0) (nat_lt 0 (public e.0)) (is_reached e.0) none)

-- ---- one object changes

same_ended : (t : ℕ) (phase : Phase) (o : Object) → loan_count (end_flight t phase o) ≡ loan_count o
unfolding end_flight
same_ended t phase o = by _
  where
    by : (b : Bool) → loan_count (cond b (set_phase phase o) o) ≡ loan_count o
    by true = refl
    by false = refl

ended_sum : (t : ℕ) (phase : Phase) (es : List (ℕ × Object)) → sum_by weight (map (λ e. (e.0, end_flight t phase e.1)) es) ≡ sum_by weight es
ended_sum t phase [] = refl
ended_sum t phase (e ∷ es) =
    sum_by-cons weight (e.0, end_flight t phase e.1) (map (λ e. (e.0, end_flight t phase e.1)) es)
    ∙ (λ k. same_ended t phase e.1 k + ended_sum t phase es k)
    ∙ sym (sum_by-cons weight e es)

flights_sum : (t : ℕ) (phase : Phase) (s : State) → loans_out (end_flights t phase s) ≡ loans_out s
unfolding end_flights
flights_sum t phase s = ended_sum t phase s.objects

discarded_sum : (h : ℕ) (s : State) → loans_out (discard h s) ≡ loans_out s
unfolding discard
discarded_sum h s = by (option_map_or (λ (o : Object). o.phase) (object_at s h) Empty) ∙ same_total loan_count h (set_phase Empty) s (λ o. refl)
  where
    by : (phase : Phase) → loans_out (stop phase (changed_at h (set_phase Empty) s)) ≡ loans_out (changed_at h (set_phase Empty) s)
    by Empty = refl
    by (Flight t) = refl
    by (Done t) = refl

-- ---- loans whose numbers rise: one of them ends

module _ {X : Type 0} (number_of : X → ℕ) (number : ℕ) where
  abbrev stays : X → Bool
  stays x = not (number_of x == number)

  none_ends : (low high : ℕ) (xs : List X) → number < low → RisesWithin low high (map number_of xs) → length (filter stays xs) ≡ length xs
  none_ends low high [] below rises = refl
  none_ends low high (x ∷ xs) below rises =
      by (number_of x == number) refl (none_ends (number_of x + 1) high xs (let from : low ≤ number_of x = rises.0 in omega (arith, from, below)) rises.1)
    where
      by : (b : Bool) → (number_of x == number) ≡ b → length (filter stays xs) ≡ length xs → length (cond (not b) (x ∷ filter stays xs) (filter stays xs)) ≡ length (x ∷ xs)
      by true is rest = absurd (let same = eqb-true (number_of x) number is in let from : low ≤ number_of x = rises.0 in omega (arith, same, from, below))
      by false is rest = ap suc rest

  one_ends : (low high : ℕ) (xs : List X) → RisesWithin low high (map number_of xs) → list_any (λ x. number_of x == number) xs ≡ true → length (filter stays xs) + 1 ≡ length xs
  one_ends low high [] rises any = absurd cc
  one_ends low high (x ∷ xs) rises any = by (number_of x == number) refl any (one_ends (number_of x + 1) high xs rises.1)
    where
      by : (b : Bool) → (number_of x == number) ≡ b → (b || list_any (λ x. number_of x == number) xs) ≡ true →
          (list_any (λ x. number_of x == number) xs ≡ true → length (filter stays xs) + 1 ≡ length xs) → length (cond (not b) (x ∷ filter stays xs) (filter stays xs)) + 1 ≡ length (x ∷ xs)
      by true is any more =
          let same = eqb-true (number_of x) number is in
          let rest = none_ends (number_of x + 1) high xs (omega (arith, same)) rises.1 in omega (arith, rest)
      by false is any more = let rest = more any in omega (arith, rest)

-- ---- what a call needs that lends or takes back

-- no refusal applies to a call that is answered so
granted_call : (history : History) (actor : ℕ) (call : Call) (r : Reply) → Legal (history ++ Called actor call r ∷ []) → ((refused : Refused) → r ≡ reply.Denied refused → ⊥) → AllNone (refusals_of (after history) call)
unfolding refusal
granted_call history actor call r legal granted =
    all_none (refusals_of (after history) call) (given (after history) call r (in_place history (Called actor call r) [] legal).0 granted).0

not_not : (b : Bool) → not b ≡ false → b ≡ true
not_not true is = refl
not_not false is = absurd cc

-- an object is there to which a test applies
there_by : {X : Type 0} (test : X → Bool) (x : Option X) → option_map_or test x false ≡ true → (v : X) × (x ≡ Some v) × (test v ≡ true)
there_by test None is = absurd cc
there_by test (Some v) is = (v, refl, is)

is_there : (x : Option Object) → is_none x ≡ false → (o : Object) × (x ≡ Some o)
is_there None is = absurd cc
is_there (Some o) is = (o, refl)

-- how many loans of an array are out
abbrev of_loan : Option ℕ → ℕ
of_loan x = option_map_or (λ _. 1) x 0

-- an array is lent, or comes back
lent_more : (place : ℕ) (o : Object) (a : ArrayState) → o.array ≡ Some a → a.loan ≡ None → loan_count (change_array (lent place) o) ≡ loan_count o + 1
lent_more place o a array free =
    let none : array_loan o ≡ None = ap (option_and_then (λ (a : ArrayState). a.loan)) array ∙ free in
    let some : array_loan (change_array (lent place) o) ≡ Some place = ap (λ x. option_and_then (λ (a : ArrayState). a.loan) (option_map (lent place) x)) array in
    let before = ap of_loan none in
    let after = ap of_loan some in
    omega (arith, before, after)

-- an array that may be lent is there, and is not lent
lendable : (history : History) (actor h n : ℕ) → Legal (history ++ Called actor (MapArray h) (reply.Lent n) ∷ []) →
    (o : Object) × (a : ArrayState) × (object_at (after history).state h ≡ Some o) × (o.array ≡ Some a) × (a.loan ≡ None)
unfolding refusals_of
lendable history actor h n legal =
    let none = granted_call history actor (MapArray h) (reply.Lent n) legal (λ refused is. cc) in
    let there = is_there (object_at (after history).state h) (does_not_apply (is_none (object_at (after history).state h)) (BadHandle h) none.0) in
    let sound = subst (λ x. MatchOption x (Unit {0}) (IsSound (after history).state)) there.1 (legal_is_sound history (prefix_is_legal history (Called actor (MapArray h) (reply.Lent n) ∷ []) legal) h) in
    let typed = typed_so (object_at (after history).state h) there.0 there.1 (does_not_apply (not (has_type (after history) h ty.Array1D)) (WrongKind h) none.1.1.0) in
    let array = holds_array there.0.array there.0.kind (after history).state typed sound.array in
    let free = does_not_apply (is_some (option_and_then array_loan (object_at (after history).state h))) (ArrayMapped h) none.1.1.1.0 in
    (there.0, array.0, there.1, array.1, no_loan array.0.loan (sym (ap (λ x. is_some (option_and_then array_loan x)) there.1 ∙ ap (λ x. is_some (option_and_then (λ (a : ArrayState). a.loan) x)) array.1) ∙ free))
  where
    typed_so : (x : Option Object) (o : Object) → x ≡ Some o → not (option_map_or (λ (o : Object). is_same_type (type_of_kind o.kind) ty.Array1D) x false) ≡ false → is_same_type (type_of_kind o.kind) ty.Array1D ≡ true
    typed_so None o is other = absurd cc
    typed_so (Some p) o is other = let same : p ≡ o = cc in subst (λ (p : Object). is_same_type (type_of_kind p.kind) ty.Array1D ≡ true) same (not_not (is_same_type (type_of_kind p.kind) ty.Array1D) other)

    no_loan : (x : Option ℕ) → is_some x ≡ false → x ≡ None
    no_loan None is = refl
    no_loan (Some n) is = absurd cc

    elem_of : (kind : Kind) → is_same_type (type_of_kind kind) ty.Array1D ≡ true → (elem : DataType) × (kind ≡ Array elem)
    elem_of (Array elem) is = (elem, refl)
    elem_of _ is = absurd cc

    holds_array : (x : Option ArrayState) (kind : Kind) (s : State) → is_same_type (type_of_kind kind) ty.Array1D ≡ true → ArrayFits s kind x → (a : ArrayState) × (x ≡ Some a)
    holds_array (Some a) kind s typed fits = (a, refl)
    holds_array None kind s typed fits = let elem = elem_of kind typed in absurd (fits elem.0 elem.1)

-- an array comes back that is lent
returned_less : (bytes : List ℕ) (number len : ℕ) (o : Object) (a : ArrayState) → o.array ≡ Some a → is_array_out number len a ≡ true → loan_count (change_array (holding bytes) o) + 1 ≡ loan_count o
returned_less bytes number len o a array out =
    let some : is_some (array_loan o) ≡ true = ap (λ x. is_some (option_and_then (λ (a : ArrayState). a.loan) x)) array ∙ lent_so a.loan out in
    let none : array_loan (change_array (holding bytes) o) ≡ None = ap (λ x. option_and_then (λ (a : ArrayState). a.loan) (option_map (holding bytes) x)) array in
    let before = one_lent (array_loan o) some in
    let after = ap of_loan none in
    omega (arith, before, after)
  where
    lent_so : (x : Option ℕ) → (option_map_or (λ n. n == number) x false && length a.block.bytes == len) ≡ true → is_some x ≡ true
    lent_so None is = absurd cc
    lent_so (Some n) is = refl

    one_lent : (x : Option ℕ) → is_some x ≡ true → of_loan x ≡ 1
    one_lent None is = absurd cc
    one_lent (Some n) is = refl

-- a loan for a parameter ends, and a mapped channel comes back
loan_less : (place number : ℕ) (o : Object) → RisesWithin 1 place (parameter_numbers o) → list_any (λ (l : ParameterLoan). l.number == number) o.parameter_loans ≡ true → loan_count (end_parameter_loan number o) + 1 ≡ loan_count o
loan_less place number o rises out = let one = one_ends (λ (l : ParameterLoan). l.number) number 1 place o.parameter_loans rises out in omega (arith, one)

channel_less : (place number : ℕ) (o : Object) → RisesWithin 1 place (channel_numbers o) → list_any (λ (m : Channel × ℕ). m.1 == number) o.channels ≡ true → loan_count (unmap_channel number o) + 1 ≡ loan_count o
channel_less place number o rises out = let one = one_ends (λ (m : Channel × ℕ). m.1) number 1 place o.channels rises out in omega (arith, one)

-- the loan with a number is there where one has it
first_holds : (a b c : Bool) → (a && b && c) ≡ true → a ≡ true
first_holds true b c is = refl
first_holds false b c is = absurd cc

any_weaker : {X : Type 0} (p q : X → Bool) (xs : List X) → ((x : X) → p x ≡ true → q x ≡ true) → list_any p xs ≡ true → list_any q xs ≡ true
any_weaker p q [] weaker any = absurd cc
any_weaker p q (x ∷ xs) weaker any = by (p x) refl (q x) refl any (any_weaker p q xs weaker)
  where
    by : (b : Bool) → p x ≡ b → (c : Bool) → q x ≡ c → (b || list_any p xs) ≡ true → (list_any p xs ≡ true → list_any q xs ≡ true) → (c || list_any q xs) ≡ true
    by b is true now any rest = refl
    by true is false now any rest = absurd (let wrong : true ≡ false = sym (weaker x is) ∙ now in cc)
    by false is false now any rest = rest any

found_by_number : (number : ℕ) (loans : List ParameterLoan) → list_any (λ (l : ParameterLoan). l.number == number) loans ≡ true → (loan : ParameterLoan) × (parameter_loan number loans ≡ Some loan) × (loan.number ≡ number)
found_by_number number [] any = absurd cc
found_by_number number (l ∷ loans) any = by (l.number == number) refl any (found_by_number number loans)
  where
    by : (b : Bool) → (l.number == number) ≡ b → (b || list_any (λ (l : ParameterLoan). l.number == number) loans) ≡ true →
        (list_any (λ (l : ParameterLoan). l.number == number) loans ≡ true → (loan : ParameterLoan) × (parameter_loan number loans ≡ Some loan) × (loan.number ≡ number)) →
        (loan : ParameterLoan) × (cond b (Some l) (parameter_loan number loans) ≡ Some loan) × (loan.number ≡ number)
    by true is any rest = (l, refl, eqb-true l.number number is)
    by false is any rest = rest any

-- ---- what each entry does to the loans that are out

abbrev Moves : History → Entry → Type 0
Moves history e = loans_out (changed_by history e) + takes_back e ≡ loans_out (after history).state + lends e

moved_here : (h : ℕ) (f : Object → Object) (s : State) (o : Object) (more less : ℕ) → object_at s h ≡ Some o → loan_count (f o) + less ≡ loan_count o + more → loans_out (changed_at h f s) + less ≡ loans_out s + more
moved_here h f s o more less there moves = let all = changed_total loan_count h f s o there in omega (arith, all, moves)

module _ (history : History) (actor : ℕ) where
  map_array_moves : (h n : ℕ) → Legal (history ++ Called actor (MapArray h) (reply.Lent n) ∷ []) → Moves history (Called actor (MapArray h) (reply.Lent n))
  unfolding change effect
  map_array_moves h n legal =
      let l = lendable history actor h n legal in
      moved_here h (change_array (lent (length (after history).seen + 1))) (after history).state l.0 1 0 l.2 (let more = lent_more (length (after history).seen + 1) l.0 l.1 l.3 l.4 in omega (arith, more))

  unmap_array_moves : (h number : ℕ) (bytes : List ℕ) → Legal (history ++ Called actor (UnmapArray h number bytes) reply.Done ∷ []) → Moves history (Called actor (UnmapArray h number bytes) reply.Done)
  unfolding change effect refusals_of
  unmap_array_moves h number bytes legal =
      let none = granted_call history actor (UnmapArray h number bytes) reply.Done legal (λ refused is. cc) in
      let out = not_not (is_array_loan_out (after history).state h number (length bytes)) (does_not_apply (not (is_array_loan_out (after history).state h number (length bytes))) NotMapped none.0) in
      let array = there_by (is_array_out number (length bytes)) (option_and_then (λ (o : Object). o.array) (object_at (after history).state h)) out in
      let o = holder (object_at (after history).state h) array.0 array.1 in
      moved_here h (change_array (holding bytes)) (after history).state o.0 0 1 o.1 (let less = returned_less bytes number (length bytes) o.0 array.0 o.2 array.2 in omega (arith, less))
    where
      holder : (x : Option Object) (a : ArrayState) → option_and_then (λ (o : Object). o.array) x ≡ Some a → (o : Object) × (x ≡ Some o) × (o.array ≡ Some a)
      holder None a is = absurd cc
      holder (Some o) a is = (o, refl, is)

  lend_parameter_moves : (h : ℕ) (name : List ℕ) (elem : DataType) (count n : ℕ) → Legal (history ++ Called actor (MapParameterArray h name elem count) (reply.Lent n) ∷ []) → Moves history (Called actor (MapParameterArray h name elem count) (reply.Lent n))
  unfolding change effect refusals_of
  lend_parameter_moves h name elem count n legal =
      let none = granted_call history actor (MapParameterArray h name elem count) (reply.Lent n) legal (λ refused is. cc) in
      let there = is_there (object_at (after history).state h) (does_not_apply (is_none (object_at (after history).state h)) (BadHandle h) none.0) in
      let loan : ParameterLoan = record { number = length (after history).seen + 1; name = name; elem = elem; count = count } in
      moved_here h (lend_parameter loan) (after history).state there.0 1 0 there.1 (let more = length-append there.0.parameter_loans (loan ∷ []) in omega (arith, more))

  map_channel_moves : (h : ℕ) (c : Channel) (width height : ℕ) (t : DataType) (rows : List ℕ) → Legal (history ++ Called actor (MapFrame h c) (reply.Mapped width height t rows) ∷ []) → Moves history (Called actor (MapFrame h c) (reply.Mapped width height t rows))
  unfolding change effect refusals_of
  map_channel_moves h c width height t rows legal =
      let none = granted_call history actor (MapFrame h c) (reply.Mapped width height t rows) legal (λ refused is. cc) in
      let there = is_there (object_at (after history).state h) (does_not_apply (is_none (object_at (after history).state h)) (BadHandle h) none.0) in
      moved_here h (map_channel c (length (after history).seen + 1)) (after history).state there.0 1 0 there.1 (let more = length-append there.0.channels ((c, length (after history).seen + 1) ∷ []) in omega (arith, more))

  unmap_channel_moves : (h number : ℕ) → Legal (history ++ Called actor (UnmapFrame h number) reply.Done ∷ []) → Moves history (Called actor (UnmapFrame h number) reply.Done)
  unfolding change effect refusals_of
  unmap_channel_moves h number legal =
      let none = granted_call history actor (UnmapFrame h number) reply.Done legal (λ refused is. cc) in
      let out = not_not (is_channel_out (after history).state h number) (does_not_apply (not (is_channel_out (after history).state h number)) NotMapped none.0) in
      let o = there_by (λ (o : Object). list_any (λ m. m.1 == number) o.channels) (object_at (after history).state h) out in
      moved_here h (unmap_channel number) (after history).state o.0 0 1 o.1
      (let less = channel_less (length history + 1) number o.0 (loans_are_earlier history h o.0 o.1).channels o.2 in omega (arith, less))

  take_in_moves : (h number handle : ℕ) (name bytes : List ℕ) → Legal (history ++ Called actor (UnmapParameterArray h name number bytes) (reply.Made handle) ∷ []) → Moves history (Called actor (UnmapParameterArray h name number bytes) (reply.Made handle))
  unfolding change effect refusals_of unmap_parameter take_in
  take_in_moves h number handle name bytes legal =
      let none = granted_call history actor (UnmapParameterArray h name number bytes) (reply.Made handle) legal (λ refused is. cc) in
      let out = not_not (is_parameter_loan_out (after history).state h name number (length bytes)) (does_not_apply (not (is_parameter_loan_out (after history).state h name number (length bytes))) NotMapped none.0) in
      let o = there_by (λ (o : Object). list_any (is_parameter_out name number (length bytes)) o.parameter_loans) (object_at (after history).state h) out in
      let any = any_numbered o.0.parameter_loans o.2 in
      let loan = loan_there o.0.parameter_loans any in
      let found : option_and_then (λ (o : Object). parameter_loan number o.parameter_loans) (object_at (after history).state h) ≡ Some loan.0 = ap (option_and_then (λ (o : Object). parameter_loan number o.parameter_loans)) o.1 ∙ loan.1 in
      let ended : State = changed_at h (end_parameter_loan loan.0.number) (after history).state in
      let staged : State = changed_at h (set_staged (with_value name (value.Object ty.Array1D (after history).state.next))) ended in
      let fresh_one : Object = fresh (Array loan.0.elem) (Some (record { block = content_of_loan loan.0 bytes; origin = Managed; loan = None })) in
      let first : loans_out ended + 1 ≡ loans_out (after history).state + 0 =
      moved_here h (end_parameter_loan loan.0.number) (after history).state o.0 0 1 o.1
      (let less = loan_less (length history + 1) loan.0.number o.0 (loans_are_earlier history h o.0 o.1).parameters (subst (λ n. list_any (λ (l : ParameterLoan). l.number == n) o.0.parameter_loans ≡ true) (sym loan.2) any) in omega (arith, less)) in
      let second : loans_out staged ≡ loans_out ended = same_total loan_count h (set_staged (with_value name (value.Object ty.Array1D (after history).state.next))) ended (λ o. refl) in
      let third : loans_out (with_object fresh_one staged) ≡ loans_out staged = new_total loan_count fresh_one staged refl in
      let all : loans_out (changed_by history (Called actor (UnmapParameterArray h name number bytes) (reply.Made handle))) ≡ loans_out (with_object fresh_one staged) =
      ap (λ x. loans_out (option_map_or (λ loan. take_in h name bytes loan (after history).state) x (after history).state)) found in
      omega (arith, all, first, second, third)
    where
      any_numbered : (loans : List ParameterLoan) → list_any (is_parameter_out name number (length bytes)) loans ≡ true → list_any (λ (l : ParameterLoan). l.number == number) loans ≡ true
      any_numbered loans any = any_weaker (is_parameter_out name number (length bytes)) (λ (l : ParameterLoan). l.number == number) loans (λ l is. first_holds (l.number == number) (bytes_eq l.name name) (l.count * byte_size l.elem == length bytes) is) any

      loan_there : (loans : List ParameterLoan) → list_any (λ (l : ParameterLoan). l.number == number) loans ≡ true → (loan : ParameterLoan) × (parameter_loan number loans ≡ Some loan) × (loan.number ≡ number)
      loan_there loans any = found_by_number number loans any

-- ---- all entries

pub starts : loans_out (after []).state ≡ 0
unfolding after
starts = refl

made_sum : (kind : Option Kind) (s : State) → loans_out (unwrap_or (option_map (λ kind. with_object (fresh kind None) s) kind) s) ≡ loans_out s
made_sum None s = refl
made_sum (Some kind) s = new_total loan_count (fresh kind None) s refl

changes_move : (history : History) (e : Entry) → Legal (history ++ e ∷ []) → (e ≡ Closed → ⊥) → Moves history e
unfolding change effect
changes_move history (Called actor (NewObject t subtype) (reply.Made n)) legal open_ = ap (λ k. k + 0) (made_sum (kind_of t subtype) (after history).state)
changes_move history (Called actor (NewArray elem count stride origin bytes) (reply.Made n)) legal open_ =
    ap (λ k. k + 0) (new_total loan_count (fresh_array elem count stride origin bytes) (after history).state refl)
changes_move history (Called actor (SetParameter h name v) reply.Done) legal open_ = ap (λ k. k + 0) (same_total loan_count h (set_staged (with_value name v)) (after history).state (λ o. refl))
changes_move history (Called actor (UnsetParameter h name) reply.Done) legal open_ = ap (λ k. k + 0) (same_total loan_count h (set_staged (without_value name)) (after history).state (λ o. refl))
changes_move history (Called actor (UnsetAll h) reply.Done) legal open_ = ap (λ k. k + 0) (same_total loan_count h (set_staged (λ _. [])) (after history).state (λ o. refl))
changes_move history (Called actor (Commit h) reply.Done) legal open_ = ap (λ k. k + 0) (same_total loan_count h commit (after history).state (λ o. refl))
changes_move history (Called actor (MapArray h) (reply.Lent n)) legal open_ = map_array_moves history actor h n legal
changes_move history (Called actor (UnmapArray h number bytes) reply.Done) legal open_ = unmap_array_moves history actor h number bytes legal
changes_move history (Called actor (MapParameterArray h name elem count) (reply.Lent n)) legal open_ = lend_parameter_moves history actor h name elem count n legal
changes_move history (Called actor (UnmapParameterArray h name number bytes) (reply.Made n)) legal open_ = take_in_moves history actor h number n name bytes legal
changes_move history (Called actor (RenderFrame h) reply.Done) legal open_ = ap (λ k. k + 0) (same_total loan_count h (set_phase (Flight (length (after history).seen + 1))) (after history).state (λ o. refl))
changes_move history (Called actor (DiscardFrame h) reply.Done) legal open_ = ap (λ k. k + 0) (discarded_sum h (after history).state)
changes_move history (Called actor (MapFrame h c) (reply.Mapped width height t rows)) legal open_ = map_channel_moves history actor h c width height t rows legal
changes_move history (Called actor (UnmapFrame h number) reply.Done) legal open_ = unmap_channel_moves history actor h number legal
changes_move history (Called actor (Retain h) r) legal open_ = refl
changes_move history (Finished t) legal open_ = ap (λ k. k + 0) (flights_sum t (Done t) (after history).state)
changes_move history (Left t) legal open_ = ap (λ k. k + 0) (flights_sum t Empty (after history).state)
changes_move history Closed legal open_ = absurd (open_ refl)
changes_move history e legal open_ = refl

-- and what dies by it is not lent
pub left_lent : (history : History) (e : Entry) → loans_out (after (history ++ e ∷ [])).state ≡ loans_out (changed_by history e)
unfolding step swept
left_lent history e = ap (λ (past : Past). loans_out past.state) (after_more history e) ∙ live_sum _ _ (changed_by history e).objects

pub moves : (history : History) (e : Entry) → Legal (history ++ e ∷ []) → (e ≡ Closed → ⊥) → loans_out (after (history ++ e ∷ [])).state + takes_back e ≡ loans_out (after history).state + lends e
moves history e legal open_ = ap (λ n. n + takes_back e) (left_lent history e) ∙ changes_move history e legal open_
