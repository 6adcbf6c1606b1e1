-- What a call leaves of a device.
use Rattle.std.proofs.Common.{◌≡◌, ◌∙◌, ◌+◌, ◌-◌, ◌<◌, ◌≤◌, ◌++◌, ◌∷◌, ◌==◌, ◌&&◌, [], ℕ, zero, suc, Bool, true, false, cond, List, Option, Some, None, length, length-append, min, append_assoc, refl, sym, ap, subst, arith}
use Rattle.std.specs.Prelude.{if◌then◌else◌}
use Rattle.std.specs.BTreeMap.{is_at}
use Rattle.std.specs.List.{list_any, sum_by}
use Rattle.std.specs.Map.{lookup}
use Rattle.std.specs.Option.{option_and_then, option_map_or}
use Rattle.std.specs.Ordering.{nat_cmp}
use Rattle.std.proofs.lemmas.List.Sums.{sum_by-cons}
use Rattle.dev_types.specs.declared.handles.Channel.{Channel}
use Rattle.dev_types.specs.declared.handles.Origin.TheVariants.{Captured, Managed, Shared}
use Rattle.dev_types.specs.declared.notices.Notice.{Notice}
use Rattle.object_steps.specs.Objects.{one_if, takes_memory}
use Rattle.object_steps.proofs.Applied.{one_status}
use Rattle.seq_model.specs.Histories.{History}
use Rattle.seq_model.specs.Life.{loan_count}
use Rattle.seq_model.specs.Refusals.{is_array_loan_out, is_array_out, is_channel_out, is_parameter_loan_out, is_parameter_out}
use Rattle.seq_model.specs.Room.{loans_out, need}
use Rattle.seq_model.specs.State.{ArrayState, Object, State, object_at}
use Rattle.seq_model.specs.Steps.{after}
use Rattle.seq_model.specs.Told.{status_at, told, told_by}
use Rattle.seq_model.specs.declared.calls.Call.{Call}
use Rattle.seq_model.specs.declared.calls.Call.TheVariants.{NewArray, RenderFrame, UnmapArray, UnmapFrame, UnmapParameterArray}
use Rattle.seq_model.specs.declared.calls.Entry.{Entry}
use Rattle.seq_model.specs.declared.calls.Entry.TheVariants.{Called}
use Rattle.seq_model.specs.declared.calls.Reply.{Reply}
use Rattle.seq_model.specs.declared.calls.Reply.TheVariants as reply
use Rattle.seq_model.proofs.Tellings.{told_more}
use Rattle.device_parts.specs.Makes.{begun_by}

-- a call tells a status, or takes memory whose end is to be told, or neither
pub one_notice : (actor : ℕ) (call : Call) (r : Reply) → length (status_at (Called actor call r)) + one_if (takes_memory call r) ≤ 1
one_notice actor (NewArray elem count stride (Captured user) bytes) (reply.Made made) = omega arith
one_notice actor (NewArray elem count stride (Shared user) bytes) (reply.Made made) = omega arith
one_notice actor (NewArray elem count stride Managed bytes) (reply.Made made) = omega arith
one_notice actor (NewArray elem count stride origin bytes) (reply.Denied refused) =
    omega (arith, one_status actor (NewArray elem count stride origin bytes) (reply.Denied refused))
one_notice actor call r = omega (arith, one_status actor call r)

-- so one place for a notice, beside the ends that are to be told, is enough for a call
pub spare_after : (before after untold status memory reserved said left : ℕ) → status + memory ≤ 1 → before + 1 ≤ reserved
    → said + status ≡ reserved → said ≤ left + untold → after + untold ≡ before + memory → after ≤ left
spare_after before after untold status memory reserved said left once room used told fewer = omega (arith, once, room, used, told, fewer)

-- the client is told what the history tells more
pub tells_on : (history : History) (e : Entry) (was said now : List Notice) (ends : List Notice)
    → said ≡ was ++ status_at e → now ≡ said ++ ends → status_at e ++ ends ≡ told_by (after history) e
    → (before : List Notice) → was ≡ before ++ told history → now ≡ before ++ told (history ++ e ∷ [])
tells_on history e was said now ends status dead by before is =
    dead ∙ ap (λ l. l ++ ends) status ∙ append_assoc was (status_at e) ends ∙ ap (λ l. was ++ l) by
    ∙ ap (λ l. l ++ told_by (after history) e) is ∙ append_assoc before (told history) (told_by (after history) e)
    ∙ ap (λ l. before ++ l) (sym (told_more history e))

-- a loan that is out is counted
abbrev weight : ℕ × Object → ℕ
weight e = loan_count e.1

at_head : (b : Bool) (e : ℕ × Object) (es : List (ℕ × Object)) (rest : Option Object) (o : Object) → cond b (Some e.1) rest ≡ Some o
    → (rest ≡ Some o → loan_count o ≤ sum_by weight es) → loan_count o ≤ weight e + sum_by weight es
at_head true e es rest o is later = let same : e.1 ≡ o = cc in let heavy = ap loan_count same in omega (arith, heavy)
at_head false e es rest o is later = let less = later is in omega (arith, less)

counted : (s : List (ℕ × Object)) (h : ℕ) (o : Object) → lookup (is_at (nat_cmp h)) s ≡ Some o → loan_count o ≤ sum_by weight s
counted [] h o there = absurd cc
counted (e ∷ es) h o there =
    subst (λ n. loan_count o ≤ n) (sym (sum_by-cons weight e es))
    (at_head (is_at (nat_cmp h) e.0) e es (lookup (is_at (nat_cmp h)) es) o there (counted es h o))

abbrev ones : Option ℕ → ℕ
ones l = option_map_or (λ _. 1) l 0

array_counted : (o : Object) (number len : ℕ) → option_map_or (is_array_out number len) o.array false ≡ true → 1 ≤ loan_count o
array_counted o number len out = by o.array refl out
  where
    loaned : (a : ArrayState) → o.array ≡ Some a → (l : Option ℕ) → a.loan ≡ l → (option_map_or (λ n. n == number) l false && length a.block.bytes == len) ≡ true → 1 ≤ loan_count o
    loaned a array None none out = absurd cc
    loaned a array (Some n) some out =
        let one : ones (option_and_then (λ (a : ArrayState). a.loan) o.array) ≡ suc zero =
        ap (λ (x : Option ArrayState). ones (option_and_then (λ (a : ArrayState). a.loan) x)) array ∙ ap ones some in
        omega (arith, one)

    by : (x : Option ArrayState) → o.array ≡ x → option_map_or (is_array_out number len) x false ≡ true → 1 ≤ loan_count o
    by None none out = absurd cc
    by (Some a) some out = loaned a some a.loan refl out

some_in : {X : Type 0} (p : X → Bool) (xs : List X) → list_any p xs ≡ true → 1 ≤ length xs
some_in p [] found = absurd cc
some_in p (x ∷ xs) found = omega arith

pub array_out : (s : State) (h number len : ℕ) → is_array_loan_out s h number len ≡ true → 1 ≤ loans_out s
array_out s h number len out = by (object_at s h) refl out
  where
    by : (x : Option Object) → object_at s h ≡ x → option_map_or (is_array_out number len) (option_and_then (λ o. o.array) x) false ≡ true → 1 ≤ loans_out s
    by None none out = absurd cc
    by (Some o) there out = let more = counted s.objects h o there in let one = array_counted o number len out in omega (arith, more, one)

pub parameter_out : (s : State) (h : ℕ) (name : List ℕ) (number len : ℕ) → is_parameter_loan_out s h name number len ≡ true → 1 ≤ loans_out s
parameter_out s h name number len out = by (object_at s h) refl out
  where
    by : (x : Option Object) → object_at s h ≡ x → option_map_or (λ o. list_any (is_parameter_out name number len) o.parameter_loans) x false ≡ true → 1 ≤ loans_out s
    by None none out = absurd cc
    by (Some o) there out =
        let more = counted s.objects h o there in let one = some_in (is_parameter_out name number len) o.parameter_loans out in omega (arith, more, one)

pub channel_out : (s : State) (h number : ℕ) → is_channel_out s h number ≡ true → 1 ≤ loans_out s
channel_out s h number out = by (object_at s h) refl out
  where
    by : (x : Option Object) → object_at s h ≡ x → option_map_or (λ o. list_any (λ m. m.1 == number) o.channels) x false ≡ true → 1 ≤ loans_out s
    by None none out = absurd cc
    by (Some o) there out = let more = counted s.objects h o there in let one = some_in (λ (m : Channel × ℕ). m.1 == number) o.channels out in omega (arith, more, one)

-- what a call takes, or the place of a loan that is out, is enough for its entry and its note
begun_one : (f : ℕ) (r : Reply) → begun_by (RenderFrame f) r ≤ 1
begun_one f reply.Done = omega arith
begun_one f r = omega arith

either : (b : Bool) (loans : ℕ) → (b ≡ true → 1 ≤ loans) → 1 ≤ (if b then 0 else 1) + loans
either true loans some = let one = some refl in omega (arith, one)
either false loans some = omega arith

pub covers : (s : State) (call : Call) (r : Reply) → 1 + begun_by call r ≤ need s call + loans_out s
covers s (RenderFrame f) r = let one = begun_one f r in omega (arith, one)
covers s (UnmapArray h number bytes) r = either (is_array_loan_out s h number (length bytes)) (loans_out s) (array_out s h number (length bytes))
covers s (UnmapParameterArray h name number bytes) r =
    either (is_parameter_loan_out s h name number (length bytes)) (loans_out s) (parameter_out s h name number (length bytes))
covers s (UnmapFrame h number) r = either (is_channel_out s h number) (loans_out s) (channel_out s h number)
covers s call r = omega arith

-- so behind the notes there is still a place for the close
pub within_after : (limit entries flights loans needed begun entries_now flights_now : ℕ) → 0 < limit → entries + flights + loans + needed ≤ limit - 1 → 1 + begun ≤ needed + loans
    → entries_now ≡ entries + 1 → flights_now ≡ flights + begun → entries_now + flights_now < limit
within_after limit entries flights loans needed begun entries_now flights_now some owed covered one more = omega (arith, some, owed, covered, one, more)

pub one_longer : (history : History) (e : Entry) (now : History) → now ≡ history ++ e ∷ [] → length now ≡ length history + 1
one_longer history e now is = ap length is ∙ length-append history (e ∷ [])

-- and memory for one call less is left
pub one_less : (places notices places_now notices_now : ℕ) → places ≤ places_now + 1 → notices ≤ notices_now + 1
    → min places notices ≤ min places_now notices_now + 1
one_less places notices places_now notices_now some more = omega (arith, some, more)

-- memory for one entry less, and for one notice less, is left at most
pub places_less : (room entries flights begun entries_now flights_now room_now : ℕ) → entries_now ≡ entries + 1 → flights_now ≡ flights + begun → room + begun ≤ room_now
    → room - (entries + flights + 1) ≤ room_now - (entries_now + flights_now + 1) + 1
places_less room entries flights begun entries_now flights_now room_now one more grows = omega (arith, one, more, grows)

pub notices_less : (spare before after untold status memory reserved said left : ℕ) → spare ≤ reserved → status + memory ≤ 1
    → said + status ≡ reserved → said ≤ left + untold → after + untold ≡ before + memory → spare - before ≤ left - after + 1
notices_less spare before after untold status memory reserved said left grows once used told fewer = omega (arith, grows, once, used, told, fewer)

-- no more ends are to be told than there are entries
pub counted_after : (before after untold status memory entries entries_now : ℕ) → before ≤ entries → status + memory ≤ 1 → after + untold ≡ before + memory → entries_now ≡ entries + 1
    → after ≤ entries_now
counted_after before after untold status memory entries entries_now was once fewer one = omega (arith, was, once, fewer, one)

-- the loans that were counted
pub loans_are : (loans out out_now lent back result : ℕ) → result ≡ loans + lent - back → loans ≡ out → out_now + back ≡ out + lent → result ≡ out_now
loans_are loans out out_now lent back result is counted moved = omega (arith, is, counted, moved)
