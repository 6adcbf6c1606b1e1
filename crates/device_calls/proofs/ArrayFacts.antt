-- How maps of arrays and the ends of their loans are answered.
use Rattle.std.proofs.Common.{◌≡◌, ◌∙◌, ◌+◌, ℕ, true, List, Option, Some, None, length, refl, sym, ap, subst}
use Rattle.std.specs.Option.{IsSome, IsSomeAnd, option_and_then, option_map, option_map_or, option_or}
use Rattle.array_objects.specs.Loans.{Loan}
use Rattle.dev_types.specs.declared.data_types.DataType.{DataType}
use Rattle.dev_types.specs.declared.data_types.DataType.TheVariants as ty
use Rattle.dev_types.specs.declared.refusals.Refused.{Refused}
use Rattle.device_parts.specs.Makes.{array_of, frame_of}
use Rattle.device_parts.specs.Maps.{is_refused}
use Rattle.device_parts.specs.declared.handed.Handed.{Handed}
use Rattle.device_parts.specs.declared.handed.Handed.TheVariants as hand
use Rattle.kind_tables.specs.Kinds.{type_of_kind}
use Rattle.kind_tables.specs.declared.kinds.Kind.{Kind}
use Rattle.kind_tables.specs.declared.kinds.Kind.TheVariants.{Array, CameraOrthographic}
use Rattle.object_steps.specs.Carrying.{handed}
use Rattle.object_steps.specs.ParameterLoans.{ParameterLoan}
use Rattle.object_steps.specs.declared.array_loans.ArrayLoan.TheVariants as loan
use Rattle.scene_read.specs.Reading.{lent}
use Rattle.seq_model.specs.Answers.{answer, granted}
use Rattle.seq_model.specs.Contents.{entered}
use Rattle.seq_model.specs.Histories.{History}
use Rattle.seq_model.specs.Legal.{Legal}
use Rattle.seq_model.specs.Refusals.{refusal, refusals_of}
use Rattle.seq_model.specs.Soundness.{ArrayFits}
use Rattle.seq_model.specs.State.{ArrayState, Object, State, object_at}
use Rattle.seq_model.specs.Steps.{Past, after, next_place}
use Rattle.seq_model.specs.declared.calls.Call.{Call}
use Rattle.seq_model.specs.declared.calls.Call.TheVariants.{MapArray, MapParameterArray, UnmapArray, UnmapParameterArray}
use Rattle.seq_model.specs.declared.calls.Reply.{Reply}
use Rattle.seq_model.specs.declared.calls.Reply.TheVariants as reply
use Rattle.seq_model.proofs.Afters.{seen_is_history}
use Rattle.seq_model.proofs.Granted.{AllNone, all_none}
use Rattle.seq_model.proofs.Prefixes.{prefix_is_legal}
use Rattle.seq_model.proofs.Sound.{sound_at}
use Rattle.seq_model.proofs.SoundHistories.{legal_is_sound}
use Rattle.seq_model.proofs.SoundSteps.{has_that_type, is_alive, not_wrong}
use Rattle.turn_lock.specs.Passes.{seen}
use Rattle.device_calls.specs.Holds.{IsReplied, told_with}
use Rattle.device_calls.specs.Lending.{IsMade, lent_of, param_of}
use Rattle.device_calls.specs.Passes.{DevicePass, HasCalled}
use Rattle.device_calls.proofs.FrameFacts.{without}
use Rattle.device_calls.proofs.ReplyFacts.{granted_entered, granted_reply, none_left}

map_entered : (past : Past) (h : ℕ) → entered past (MapArray h) ≡ MapArray h
unfolding entered
map_entered past h = refl

param_entered : (past : Past) (h : ℕ) (name : List ℕ) (elem : DataType) (count : ℕ) → entered past (MapParameterArray h name elem count) ≡ MapParameterArray h name elem count
unfolding entered
param_entered past h name elem count = refl

unmap_entered : (past : Past) (h number : ℕ) (bytes : List ℕ) → (content : List ℕ) × (entered past (UnmapArray h number bytes) ≡ UnmapArray h number content)
unfolding entered
unmap_entered past h number bytes = (_, refl)

unmap_param_entered : (past : Past) (h : ℕ) (name : List ℕ) (number : ℕ) (bytes : List ℕ) →
    (content : List ℕ) × (entered past (UnmapParameterArray h name number bytes) ≡ UnmapParameterArray h name number content)
unfolding entered
unmap_param_entered past h name number bytes = (_, refl)

-- what comes out is the loan of an array, of a parameter, or neither
pub lent_is : (out : Handed) (l : Loan) → Some l ≡ lent_of out → out ≡ hand.Lent l
lent_is (hand.Lent m) l is = ap hand.Lent (some_is is)
  where
    some_is : Some l ≡ Some m → m ≡ l
    some_is same = cc
lent_is out l is = absurd cc

pub param_is : (out : Handed) (l : ParameterLoan) → Some l ≡ param_of out → out ≡ hand.Param l
param_is (hand.Param m) l is = ap hand.Param (some_is is)
  where
    some_is : Some l ≡ Some m → m ≡ l
    some_is same = cc
param_is out l is = absurd cc

lent_array : (out : Handed) (l : Loan) → array_of out ≡ loan.Lent l → lent_of out ≡ Some l
lent_array (hand.Lent m) l is = ap (λ (x : Loan). Some x) (lent_same is)
  where
    lent_same : loan.Lent m ≡ loan.Lent l → m ≡ l
    lent_same same = cc
lent_array out l is = absurd cc

param_array : (out : Handed) (l : ParameterLoan) → array_of out ≡ loan.Param l → param_of out ≡ Some l
param_array (hand.Param m) l is = ap (λ (x : ParameterLoan). Some x) (param_same is)
  where
    param_same : loan.Param m ≡ loan.Param l → m ≡ l
    param_same same = cc
param_array out l is = absurd cc

-- an array that a legal history lets map is there
array_kind : (kind : Kind) → type_of_kind kind ≡ ty.Array1D → (elem : DataType) × (kind ≡ Array elem)
array_kind (Array elem) is = (elem, refl)
array_kind CameraOrthographic is = absurd cc
array_kind _ is = absurd cc

array_fits : (s : State) (x : Option ArrayState) (kind : Kind) → (elem : DataType) × (kind ≡ Array elem) → ArrayFits s kind x → IsSome x
array_fits s None kind is fits = absurd (fits is.0 is.1)
array_fits s (Some a) kind is fits = refl

none_apply : (past : Past) (call : Call) → refusal past call ≡ None → AllNone (refusals_of past call)
unfolding refusal
none_apply past call none = all_none (refusals_of past call) none

array_there : (before : History) (h : ℕ) → Legal before → refusal (after before) (MapArray h) ≡ None
    → IsSome (option_and_then (λ o. o.array) (object_at (after before).state h))
unfolding refusals_of
array_there before h legal none =
    let past = after before in
    let apply : AllNone (refusals_of past (MapArray h)) = none_apply past (MapArray h) none in
    let one : (o : Object) × (object_at past.state h ≡ Some o) = is_alive past h apply.0 in
    let typed : IsSomeAnd (object_at past.state h) (λ o. type_of_kind o.kind ≡ ty.Array1D) = has_that_type past h ty.Array1D (not_wrong past h ty.Array1D apply.1.1.0) in
    let kind : type_of_kind one.0.kind ≡ ty.Array1D = subst (λ x. IsSomeAnd x (λ o. type_of_kind o.kind ≡ ty.Array1D)) one.1 typed in
    subst (λ x. IsSome (option_and_then (λ (o : Object). o.array) x)) (sym one.1)
    (array_fits past.state one.0.array one.0.kind (array_kind one.0.kind kind) (sound_at past.state h one.0 (legal_is_sound before legal) one.1).array)

not_refused : (past : Past) (call : Call) (n : ℕ) → answer past call ≡ Some (reply.Lent n) → refusal past call ≡ None
unfolding answer
not_refused past call n is = by (refusal past call) refl is
  where
    by : (x : Option Refused) → refusal past call ≡ x → option_or (option_map reply.Denied x) (granted past call) ≡ Some (reply.Lent n) → refusal past call ≡ None
    by None none is = none
    by (Some refused) some is = absurd cc

plain_answer : (past : Past) (h given n : ℕ) → option_map (told_with given (MapArray h)) (answer past (MapArray h)) ≡ Some (reply.Lent n) → answer past (MapArray h) ≡ Some (reply.Lent n)
plain_answer past h given n is = by (answer past (MapArray h)) is
  where
    by : (x : Option Reply) → option_map (told_with given (MapArray h)) x ≡ Some (reply.Lent n) → x ≡ Some (reply.Lent n)
    by None is = absurd cc
    by (Some r) is = is

legal_before : (call : Call) (with : Handed) (r : Reply) (out : Handed) (old new : DevicePass) (made : HasCalled call with r out old new) → Legal (seen new) → Legal made.before
legal_before call with r out old new made legal = prefix_is_legal made.before _ (subst Legal made.is legal)

-- a map of an array lends its content, or is refused
map_array_left : (h : ℕ) (r : Reply) (out : Handed) (before : History) → IsReplied (MapArray h) hand.Nothing r out before
    → array_of out ≡ handed (length before + 1) (MapArray h) r (after before).state loan.Nothing
map_array_left h r out before replied =
    replied.array ∙ ap (λ k. handed (length before + 1) k r (after before).state loan.Nothing) (map_entered (after before) h)

lent_number : (place h : ℕ) (s : State) (l : Loan) (n : ℕ) → loan.Lent l ≡ handed place (MapArray h) (reply.Lent n) s loan.Nothing → l.number ≡ place
lent_number place h s l n is = by (option_and_then (λ (o : Object). o.array) (object_at s h)) is
  where
    by : (x : Option ArrayState)
        → loan.Lent l ≡ option_map_or (λ a. loan.Lent (record { array = h; number = place; elements = lent a.block })) x loan.Nothing → l.number ≡ place
    by None same = absurd cc
    by (Some a) same = ap (λ (m : Loan). m.number) (lent_same same)
      where
        lent_same : {m : Loan} → loan.Lent l ≡ loan.Lent m → l ≡ m
        lent_same same = cc

map_array_told : (h : ℕ) (r : Reply) (l : Loan) (before : History) → IsReplied (MapArray h) hand.Nothing r (hand.Lent l) before → r ≡ reply.Lent l.number
map_array_told h (reply.Denied refused) l before replied =
    let none : loan.Lent l ≡ loan.Nothing = map_array_left h (reply.Denied refused) (hand.Lent l) before replied in absurd cc
map_array_told h (reply.Lent n) l before replied =
    let told = granted_reply (MapArray h) hand.Nothing (reply.Lent n) (hand.Lent l) before (map_entered (after before) h) replied (λ refused same. absurd cc) in
    let place : n ≡ next_place (after before) = lent_same told.1 in
    let seen : next_place (after before) ≡ length before + 1 = ap (λ (s : History). length s + 1) (seen_is_history before) in
    ap reply.Lent (place ∙ seen ∙ sym (lent_number (length before + 1) h (after before).state l n (map_array_left h (reply.Lent n) (hand.Lent l) before replied)))
  where
    lent_same : {a : ℕ} → Some (reply.Lent a) ≡ Some (reply.Lent n) → n ≡ a
    lent_same same = cc
map_array_told h r l before replied =
    let none : loan.Lent l ≡ loan.Nothing = map_array_left h r (hand.Lent l) before replied in absurd cc

pub array_mapped : (h : ℕ) (r : Reply) (out : Handed) (l : Loan) (old new : DevicePass) → HasCalled (MapArray h) hand.Nothing r out old new
    → Some l ≡ lent_of out → HasCalled (MapArray h) hand.Nothing (reply.Lent l.number) (hand.Lent l) old new
array_mapped h r out l old new called is =
    let made = subst (λ out. HasCalled (MapArray h) hand.Nothing r out old new) (lent_is out l is) called in
    subst (λ r. HasCalled (MapArray h) hand.Nothing r (hand.Lent l) old new) (map_array_told h r l made.before made.reply) made

lent_some : (place h : ℕ) (s : State) (n : ℕ) → IsSome (option_and_then (λ o. o.array) (object_at s h))
    → (l : Loan) × (handed place (MapArray h) (reply.Lent n) s loan.Nothing ≡ loan.Lent l)
lent_some place h s n some = by (option_and_then (λ (o : Object). o.array) (object_at s h)) some
  where
    by : (x : Option ArrayState) → IsSome x
        → (l : Loan) × (option_map_or (λ a. loan.Lent (record { array = h; number = place; elements = lent a.block })) x loan.Nothing ≡ loan.Lent l)
    by None some = absurd cc
    by (Some a) some = (_, refl)

pub map_array_refused : (h : ℕ) (r : Reply) (out : Handed) (old new : DevicePass) → HasCalled (MapArray h) hand.Nothing r out old new → Legal (seen new)
    → None ≡ lent_of out → is_refused r ≡ true
map_array_refused h (reply.Denied refused) out old new made legal none = refl
map_array_refused h (reply.Lent n) out old new made legal none =
    let before = made.before in
    let answered : answer (after before) (MapArray h) ≡ Some (reply.Lent n) =
    plain_answer (after before) h made.reply.given n
    (ap (λ k. option_map (told_with made.reply.given (MapArray h)) (answer (after before) k)) (sym (map_entered (after before) h)) ∙ made.reply.answered) in
    let there = array_there before h (legal_before (MapArray h) hand.Nothing (reply.Lent n) out old new made legal) (not_refused (after before) (MapArray h) n answered) in
    let some = lent_some (length before + 1) h (after before).state n there in
    let lent : lent_of out ≡ Some some.0 = lent_array out some.0 (map_array_left h (reply.Lent n) out before made.reply ∙ some.1) in
    let wrong : None ≡ Some some.0 = none ∙ lent in absurd cc
map_array_refused h r out old new made legal none =
    let told = granted_reply (MapArray h) hand.Nothing r out made.before (map_entered (after made.before) h) made.reply (λ refused same. absurd cc) in
    let wrong : Some (reply.Lent (next_place (after made.before))) ≡ Some r = told.1 in absurd cc

-- what is lent for a parameter
map_param_left : (h : ℕ) (name : List ℕ) (elem : DataType) (count : ℕ) (r : Reply) (out : Handed) (before : History)
    → IsReplied (MapParameterArray h name elem count) hand.Nothing r out before
    → array_of out ≡ handed (length before + 1) (MapParameterArray h name elem count) r (after before).state loan.Nothing
map_param_left h name elem count r out before replied =
    replied.array ∙ ap (λ k. handed (length before + 1) k r (after before).state loan.Nothing) (param_entered (after before) h name elem count)

param_number : (l m : ParameterLoan) → loan.Param l ≡ loan.Param m → l.number ≡ m.number
param_number l m is = ap (λ (x : ParameterLoan). x.number) (param_same is)
  where
    param_same : loan.Param l ≡ loan.Param m → l ≡ m
    param_same same = cc

map_param_told : (h : ℕ) (name : List ℕ) (elem : DataType) (count : ℕ) (r : Reply) (l : ParameterLoan) (before : History)
    → IsReplied (MapParameterArray h name elem count) hand.Nothing r (hand.Param l) before → r ≡ reply.Lent l.number
map_param_told h name elem count (reply.Denied refused) l before replied =
    let none : loan.Param l ≡ loan.Nothing = map_param_left h name elem count (reply.Denied refused) (hand.Param l) before replied in absurd cc
map_param_told h name elem count (reply.Lent n) l before replied =
    let told = granted_reply (MapParameterArray h name elem count) hand.Nothing (reply.Lent n) (hand.Param l) before
    (param_entered (after before) h name elem count) replied (λ refused same. absurd cc) in
    let place : n ≡ next_place (after before) = lent_same told.1 in
    let seen : next_place (after before) ≡ length before + 1 = ap (λ (s : History). length s + 1) (seen_is_history before) in
    ap reply.Lent (place ∙ seen ∙ sym (param_number l _ (map_param_left h name elem count (reply.Lent n) (hand.Param l) before replied)))
  where
    lent_same : {a : ℕ} → Some (reply.Lent a) ≡ Some (reply.Lent n) → n ≡ a
    lent_same same = cc
map_param_told h name elem count r l before replied =
    let none : loan.Param l ≡ loan.Nothing = map_param_left h name elem count r (hand.Param l) before replied in absurd cc

pub param_mapped : (h : ℕ) (name : List ℕ) (elem : DataType) (count : ℕ) (r : Reply) (out : Handed) (l : ParameterLoan) (old new : DevicePass)
    → HasCalled (MapParameterArray h name elem count) hand.Nothing r out old new
    → Some l ≡ param_of out → HasCalled (MapParameterArray h name elem count) hand.Nothing (reply.Lent l.number) (hand.Param l) old new
param_mapped h name elem count r out l old new called is =
    let made = subst (λ out. HasCalled (MapParameterArray h name elem count) hand.Nothing r out old new) (param_is out l is) called in
    subst (λ r. HasCalled (MapParameterArray h name elem count) hand.Nothing r (hand.Param l) old new)
    (map_param_told h name elem count r l made.before made.reply) made

pub map_param_refused : (h : ℕ) (name : List ℕ) (elem : DataType) (count : ℕ) (r : Reply) (out : Handed) (old new : DevicePass)
    → HasCalled (MapParameterArray h name elem count) hand.Nothing r out old new → None ≡ param_of out → is_refused r ≡ true
map_param_refused h name elem count (reply.Denied refused) out old new made none = refl
map_param_refused h name elem count (reply.Lent n) out old new made none =
    let lent = param_array out _ (map_param_left h name elem count (reply.Lent n) out made.before made.reply) in
    let wrong = none ∙ lent in absurd (not_none wrong)
  where
    not_none : {l : ParameterLoan} → None ≡ Some l → ⊥
    not_none is = cc
map_param_refused h name elem count r out old new made none =
    let told = granted_reply (MapParameterArray h name elem count) hand.Nothing r out made.before
    (param_entered (after made.before) h name elem count) made.reply (λ refused same. absurd cc) in
    let wrong : Some (reply.Lent (next_place (after made.before))) ≡ Some r = told.1 in absurd cc

-- a refused map lends nothing
pub map_array_none : (h : ℕ) (refused : Refused) (out : Handed) (old new : DevicePass) → HasCalled (MapArray h) hand.Nothing (reply.Denied refused) out old new
    → HasCalled (MapArray h) hand.Nothing (reply.Denied refused) hand.Nothing old new
map_array_none h refused out old new made =
    subst (λ out. HasCalled (MapArray h) hand.Nothing (reply.Denied refused) out old new)
    (without out (map_array_left h (reply.Denied refused) out made.before made.reply) (sym made.reply.frame)) made

pub map_param_none : (h : ℕ) (name : List ℕ) (elem : DataType) (count : ℕ) (refused : Refused) (out : Handed) (old new : DevicePass)
    → HasCalled (MapParameterArray h name elem count) hand.Nothing (reply.Denied refused) out old new
    → HasCalled (MapParameterArray h name elem count) hand.Nothing (reply.Denied refused) hand.Nothing old new
map_param_none h name elem count refused out old new made =
    subst (λ out. HasCalled (MapParameterArray h name elem count) hand.Nothing (reply.Denied refused) out old new)
    (without out (map_param_left h name elem count (reply.Denied refused) out made.before made.reply) (sym made.reply.frame)) made

-- an unmap that is refused gives its loan back, and one that is done gives nothing back
unmap_left : (place h number : ℕ) (content : List ℕ) (r : Reply) (s : State) (l : Loan) → ((refused : Refused) → r ≡ reply.Denied refused → ⊥)
    → handed place (UnmapArray h number content) r s (loan.Lent l) ≡ loan.Nothing
unmap_left place h number content (reply.Denied refused) s l granting = absurd (granting refused refl)
unmap_left place h number content r s l granting = refl

unmap_param_left : (place h : ℕ) (name : List ℕ) (number : ℕ) (content : List ℕ) (r : Reply) (s : State) (l : ParameterLoan)
    → ((refused : Refused) → r ≡ reply.Denied refused → ⊥)
    → handed place (UnmapParameterArray h name number content) r s (loan.Param l) ≡ loan.Nothing
unmap_param_left place h name number content (reply.Denied refused) s l granting = absurd (granting refused refl)
unmap_param_left place h name number content r s l granting = refl

unmap_out : (h number : ℕ) (bytes : List ℕ) (l : Loan) (r : Reply) (out : Handed) (before : History) → IsReplied (UnmapArray h number bytes) (hand.Lent l) r out before
    → array_of out ≡ handed (length before + 1) (UnmapArray h number (unmap_entered (after before) h number bytes).0) r (after before).state (loan.Lent l)
unmap_out h number bytes l r out before replied =
    replied.array ∙ ap (λ k. handed (length before + 1) k r (after before).state (loan.Lent l)) (unmap_entered (after before) h number bytes).1

unmap_param_out : (h : ℕ) (name : List ℕ) (number : ℕ) (bytes : List ℕ) (l : ParameterLoan) (r : Reply) (out : Handed) (before : History)
    → IsReplied (UnmapParameterArray h name number bytes) (hand.Param l) r out before
    → array_of out ≡ handed (length before + 1) (UnmapParameterArray h name number (unmap_param_entered (after before) h name number bytes).0) r (after before).state (loan.Param l)
unmap_param_out h name number bytes l r out before replied =
    replied.array ∙ ap (λ k. handed (length before + 1) k r (after before).state (loan.Param l)) (unmap_param_entered (after before) h name number bytes).1

refused_where : (r : Reply) → (((refused : Refused) → r ≡ reply.Denied refused → ⊥) → ⊥) → is_refused r ≡ true
refused_where (reply.Denied refused) may = refl
refused_where r may = absurd (may (λ refused same. absurd cc))

pub unmap_back : (h number : ℕ) (bytes : List ℕ) (l m : Loan) (r : Reply) (out : Handed) (old new : DevicePass) → HasCalled (UnmapArray h number bytes) (hand.Lent l) r out old new
    → Some m ≡ lent_of out → is_refused r ≡ true
unmap_back h number bytes l m r out old new made is = refused_where r (λ granting.
    let none : array_of out ≡ loan.Nothing =
    unmap_out h number bytes l r out made.before made.reply
    ∙ unmap_left (length made.before + 1) h number (unmap_entered (after made.before) h number bytes).0 r (after made.before).state l granting in
    let some : array_of out ≡ loan.Lent m = ap array_of (lent_is out m is) in
    let wrong : loan.Nothing ≡ loan.Lent m = sym none ∙ some in absurd cc)

pub unmap_same : (h number : ℕ) (bytes : List ℕ) (l m : Loan) (refused : Refused) (out : Handed) (old new : DevicePass)
    → HasCalled (UnmapArray h number bytes) (hand.Lent l) (reply.Denied refused) out old new → Some m ≡ lent_of out → m ≡ l
unmap_same h number bytes l m refused out old new made is = lent_same (sym (ap array_of (lent_is out m is)) ∙ unmap_out h number bytes l (reply.Denied refused) out made.before made.reply)
  where
    lent_same : loan.Lent m ≡ loan.Lent l → m ≡ l
    lent_same same = cc

pub unmap_done : (h number : ℕ) (bytes : List ℕ) (l : Loan) (r : Reply) (out : Handed) (old new : DevicePass) → HasCalled (UnmapArray h number bytes) (hand.Lent l) r out old new
    → None ≡ lent_of out → HasCalled (UnmapArray h number bytes) (hand.Lent l) reply.Done hand.Nothing old new
unmap_done h number bytes l r out old new made none = by r refl
  where
    content : List ℕ
    content = (unmap_entered (after made.before) h number bytes).0

    by : (x : Reply) → r ≡ x → HasCalled (UnmapArray h number bytes) (hand.Lent l) reply.Done hand.Nothing old new
    by (reply.Denied refused) is =
        let left : array_of out ≡ loan.Lent l =
        unmap_out h number bytes l r out made.before made.reply
        ∙ ap (λ x. handed (length made.before + 1) (UnmapArray h number content) x (after made.before).state (loan.Lent l)) is in
        let wrong : None ≡ Some l = none ∙ lent_array out l left in absurd cc
    by x is =
        let granting : (refused : Refused) → r ≡ reply.Denied refused → ⊥ = (λ refused same. let no : x ≡ reply.Denied refused = sym is ∙ same in absurd cc) in
        let told = granted_entered (UnmapArray h number bytes) (hand.Lent l) r out made.before made.reply granting in
        let done : Some reply.Done ≡ Some r =
        ap (λ k. option_map (told_with told.0 (UnmapArray h number bytes)) (granted (after made.before) k)) (sym (unmap_entered (after made.before) h number bytes).1) ∙ told.1 in
        let array : array_of out ≡ loan.Nothing =
        unmap_out h number bytes l r out made.before made.reply ∙ unmap_left (length made.before + 1) h number content r (after made.before).state l granting in
        let frame : frame_of out ≡ None = made.reply.frame ∙ none_left r in
        subst (λ r. HasCalled (UnmapArray h number bytes) (hand.Lent l) r hand.Nothing old new) (some_is done)
        (subst (λ out. HasCalled (UnmapArray h number bytes) (hand.Lent l) r out old new) (without out array (sym frame)) made)
      where
        some_is : Some reply.Done ≡ Some r → r ≡ reply.Done
        some_is same = cc

pub unmap_param_back : (h : ℕ) (name : List ℕ) (number : ℕ) (bytes : List ℕ) (l m : ParameterLoan) (r : Reply) (out : Handed) (old new : DevicePass)
    → HasCalled (UnmapParameterArray h name number bytes) (hand.Param l) r out old new → Some m ≡ param_of out → is_refused r ≡ true
unmap_param_back h name number bytes l m r out old new made is = refused_where r (λ granting.
    let none : array_of out ≡ loan.Nothing =
    unmap_param_out h name number bytes l r out made.before made.reply
    ∙ unmap_param_left (length made.before + 1) h name number (unmap_param_entered (after made.before) h name number bytes).0 r (after made.before).state l granting in
    let some : array_of out ≡ loan.Param m = ap array_of (param_is out m is) in
    let wrong : loan.Nothing ≡ loan.Param m = sym none ∙ some in absurd cc)

pub unmap_param_same : (h : ℕ) (name : List ℕ) (number : ℕ) (bytes : List ℕ) (l m : ParameterLoan) (refused : Refused) (out : Handed) (old new : DevicePass)
    → HasCalled (UnmapParameterArray h name number bytes) (hand.Param l) (reply.Denied refused) out old new → Some m ≡ param_of out → m ≡ l
unmap_param_same h name number bytes l m refused out old new made is =
    param_same (sym (ap array_of (param_is out m is)) ∙ unmap_param_out h name number bytes l (reply.Denied refused) out made.before made.reply)
  where
    param_same : loan.Param m ≡ loan.Param l → m ≡ l
    param_same same = cc

pub unmap_param_done : (h : ℕ) (name : List ℕ) (number : ℕ) (bytes : List ℕ) (l : ParameterLoan) (r : Reply) (out : Handed) (old new : DevicePass)
    → HasCalled (UnmapParameterArray h name number bytes) (hand.Param l) r out old new → None ≡ param_of out
    → IsMade r × HasCalled (UnmapParameterArray h name number bytes) (hand.Param l) r hand.Nothing old new
unmap_param_done h name number bytes l r out old new made none = by r refl
  where
    content : List ℕ
    content = (unmap_param_entered (after made.before) h name number bytes).0

    by : (x : Reply) → r ≡ x → IsMade r × HasCalled (UnmapParameterArray h name number bytes) (hand.Param l) r hand.Nothing old new
    by (reply.Denied refused) is =
        let left : array_of out ≡ loan.Param l =
        unmap_param_out h name number bytes l r out made.before made.reply
        ∙ ap (λ x. handed (length made.before + 1) (UnmapParameterArray h name number content) x (after made.before).state (loan.Param l)) is in
        let wrong : None ≡ Some l = none ∙ param_array out l left in absurd cc
    by x is =
        let granting : (refused : Refused) → r ≡ reply.Denied refused → ⊥ = (λ refused same. let no : x ≡ reply.Denied refused = sym is ∙ same in absurd cc) in
        let told = granted_entered (UnmapParameterArray h name number bytes) (hand.Param l) r out made.before made.reply granting in
        let born : Some (reply.Made (after made.before).state.next) ≡ Some r =
        ap (λ k. option_map (told_with told.0 (UnmapParameterArray h name number bytes)) (granted (after made.before) k))
        (sym (unmap_param_entered (after made.before) h name number bytes).1) ∙ told.1 in
        let array : array_of out ≡ loan.Nothing =
        unmap_param_out h name number bytes l r out made.before made.reply
        ∙ unmap_param_left (length made.before + 1) h name number content r (after made.before).state l granting in
        let frame : frame_of out ≡ None = made.reply.frame ∙ none_left r in (
          subst IsMade (sym (some_is born)) tt,
          subst (λ out. HasCalled (UnmapParameterArray h name number bytes) (hand.Param l) r out old new) (without out array (sym frame)) made,
        )
      where
        some_is : Some (reply.Made (after made.before).state.next) ≡ Some r → r ≡ reply.Made (after made.before).state.next
        some_is same = cc
