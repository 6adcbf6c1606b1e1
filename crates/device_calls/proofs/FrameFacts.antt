-- How maps of channels and the ends of their loans are answered.
use Rattle.std.proofs.Common.{◌≡◌, ◌∙◌, ◌+◌, ℕ, true, Some, None, length, refl, sym, ap, subst}
use Rattle.dev_types.specs.declared.handles.Channel.{Channel}
use Rattle.dev_types.specs.declared.refusals.Refused.{Refused}
use Rattle.device_parts.specs.Makes.{LendsChannel, array_of, frame_left, frame_of}
use Rattle.device_parts.specs.Maps.{is_refused, told_of}
use Rattle.device_parts.specs.declared.handed.Handed.{Handed}
use Rattle.device_parts.specs.declared.handed.Handed.TheVariants as hand
use Rattle.frame_future.specs.Mapped.{Mapped}
use Rattle.object_steps.specs.Carrying.{handed}
use Rattle.object_steps.specs.declared.array_loans.ArrayLoan.TheVariants as loan
use Rattle.seq_model.specs.Contents.{entered}
use Rattle.seq_model.specs.State.{State}
use Rattle.seq_model.specs.Steps.{Past, after}
use Rattle.seq_model.specs.declared.calls.Call.TheVariants.{MapFrame, UnmapFrame}
use Rattle.seq_model.specs.declared.calls.Reply.{Reply}
use Rattle.seq_model.specs.declared.calls.Reply.TheVariants as reply
use Rattle.device_calls.specs.Passes.{DevicePass, HasCalled}
use Rattle.device_calls.proofs.ReplyFacts.{granted_reply}

map_entered : (past : Past) (h : ℕ) (channel : Channel) → entered past (MapFrame h channel) ≡ MapFrame h channel
unfolding entered
map_entered past h channel = refl

unmap_entered : (past : Past) (h number : ℕ) → entered past (UnmapFrame h number) ≡ UnmapFrame h number
unfolding entered
unmap_entered past h number = refl

map_hands : (place h : ℕ) (channel : Channel) (r : Reply) (s : State) → handed place (MapFrame h channel) r s loan.Nothing ≡ loan.Nothing
map_hands place h channel (reply.Denied refused) s = refl
map_hands place h channel r s = refl

unmap_hands : (place h number : ℕ) (r : Reply) (s : State) → handed place (UnmapFrame h number) r s loan.Nothing ≡ loan.Nothing
unmap_hands place h number (reply.Denied refused) s = refl
unmap_hands place h number r s = refl

-- what comes out is the loan of a channel, or nothing
pub without : (out : Handed) → array_of out ≡ loan.Nothing → None ≡ frame_of out → out ≡ hand.Nothing
without hand.Nothing array no_frame = refl
without (hand.Frame m) array no_frame = let none : None ≡ Some m = no_frame in absurd cc
without (hand.Lent l) array no_frame = absurd cc
without (hand.Param l) array no_frame = absurd cc

pub frame_is : (out : Handed) (m : Mapped) → Some m ≡ frame_of out → out ≡ hand.Frame m
frame_is (hand.Frame n) m is = ap hand.Frame (some_is is)
  where
    some_is : Some m ≡ Some n → n ≡ m
    some_is same = cc
frame_is out m is = absurd cc

-- the reply to a map tells of what is lent
pub map_told : (h : ℕ) (channel : Channel) (r : Reply) (out : Handed) (m : Mapped) (old new : DevicePass) → HasCalled (MapFrame h channel) hand.Nothing r out old new
    → Some m ≡ frame_of out → HasCalled (MapFrame h channel) hand.Nothing (told_of m) (hand.Frame m) old new
map_told h channel r out m old new called is =
    let made = subst (λ out. HasCalled (MapFrame h channel) hand.Nothing r out old new) (frame_is out m is) called in
    let lends = subst (λ k. LendsChannel (length made.before + 1) k r (Some m)) (map_entered (after made.before) h channel) made.reply.lends in
    subst (λ r. HasCalled (MapFrame h channel) hand.Nothing r (hand.Frame m) old new) lends.0 made

pub refused_as : (r : Reply) → is_refused r ≡ true → (refused : Refused) × (r ≡ reply.Denied refused)
refused_as (reply.Denied refused) is = (refused, refl)
refused_as r is = absurd cc

-- where nothing is lent it is refused
pub map_refused : (h : ℕ) (channel : Channel) (r : Reply) (out : Handed) (old new : DevicePass) → HasCalled (MapFrame h channel) hand.Nothing r out old new
    → None ≡ frame_of out → (refused : Refused) × (r ≡ reply.Denied refused) × HasCalled (MapFrame h channel) hand.Nothing r hand.Nothing old new
map_refused h channel r out old new made no_frame =
    let place = length made.before + 1 in
    let same = map_entered (after made.before) h channel in
    let lends : LendsChannel place (MapFrame h channel) r None =
    subst (λ k. LendsChannel place k r None) same (subst (LendsChannel place (entered (after made.before) (MapFrame h channel)) r) (sym no_frame) made.reply.lends) in
    let array : array_of out ≡ loan.Nothing =
    made.reply.array ∙ ap (λ k. handed place k r (after made.before).state loan.Nothing) same ∙ map_hands place h channel r (after made.before).state in
    let refused = refused_as r lends in
    (refused.0, refused.1, subst (λ out. HasCalled (MapFrame h channel) hand.Nothing r out old new) (without out array no_frame) made)

-- an unmap that is refused gives its loan back
left_some : (r : Reply) (m n : Mapped) → Some n ≡ frame_left r (Some m) → ((refused : Refused) × (r ≡ reply.Denied refused)) × (n ≡ m)
left_some (reply.Denied refused) m n is = ((refused, refl), some_is is)
  where
    some_is : Some n ≡ Some m → n ≡ m
    some_is same = cc
left_some r m n is = absurd cc

pub unmap_back : (h number : ℕ) (m n : Mapped) (r : Reply) (out : Handed) (old new : DevicePass) → HasCalled (UnmapFrame h number) (hand.Frame m) r out old new
    → Some n ≡ frame_of out → ((refused : Refused) × (r ≡ reply.Denied refused)) × (n ≡ m) × HasCalled (UnmapFrame h number) (hand.Frame m) r (hand.Frame m) old new
unmap_back h number m n r out old new made is =
    let left = left_some r m n (is ∙ made.reply.frame) in
    (left.0, left.1, subst (λ out. HasCalled (UnmapFrame h number) (hand.Frame m) r out old new) (frame_is out n is ∙ ap hand.Frame left.1) made)

left_none : (r : Reply) (m : Mapped) → None ≡ frame_left r (Some m) → (refused : Refused) → r ≡ reply.Denied refused → ⊥
left_none (reply.Denied x) m is refused same = let none : None ≡ Some m = is in absurd cc
left_none r m is refused same = absurd cc

-- one that is done gives nothing back
pub unmap_done : (h number : ℕ) (m : Mapped) (r : Reply) (out : Handed) (old new : DevicePass) → HasCalled (UnmapFrame h number) (hand.Frame m) r out old new
    → None ≡ frame_of out → HasCalled (UnmapFrame h number) (hand.Frame m) reply.Done hand.Nothing old new
unmap_done h number m r out old new made no_frame =
    let place = length made.before + 1 in
    let same = unmap_entered (after made.before) h number in
    let array : array_of out ≡ loan.Nothing =
    made.reply.array ∙ ap (λ k. handed place k r (after made.before).state loan.Nothing) same ∙ unmap_hands place h number r (after made.before).state in
    let granted = granted_reply (UnmapFrame h number) (hand.Frame m) r out made.before same made.reply (left_none r m (no_frame ∙ made.reply.frame)) in
    let done : r ≡ reply.Done = some_is granted.1 in
    subst (λ r. HasCalled (UnmapFrame h number) (hand.Frame m) r hand.Nothing old new) done
    (subst (λ out. HasCalled (UnmapFrame h number) (hand.Frame m) r out old new) (without out array no_frame) made)
  where
    some_is : Some reply.Done ≡ Some r → r ≡ reply.Done
    some_is same = cc
