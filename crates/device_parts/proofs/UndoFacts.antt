-- A channel of a picture that is lent, and a loan that ends at once: it leaves all as it was.
use Rattle.std.proofs.Common.{◌≡◌, ◌∙◌, ℕ, zero, suc, ◌==◌, ◌<◌, Bool, true, false, cond, List, [], ◌∷◌, Option, None, Some, refl, sym, ap, subst, arith}
use Rattle.std.specs.Prelude.{IfSome, IsSomeAnd, slice_get, slice_set}
use Rattle.std.specs.List.{find}
use Rattle.std.specs.Option.{is_some, option_map_or, unwrap_or}
use Rattle.std.proofs.lemmas.Bool.{eqb-true}
use Rattle.dev_types.specs.Channels.{number_of_channel}
use Rattle.dev_types.specs.declared.handles.Channel.{Channel}
use Rattle.dev_types.specs.declared.refusals.Refused.{Refused}
use Rattle.dev_types.specs.declared.refusals.Refused.TheVariants.{ChannelMapped, NoChannel}
use Rattle.flight_books.specs.Kept.{Books, with_future}
use Rattle.frame_future.specs.Channels.{is_asked, loan_of}
use Rattle.frame_future.specs.Flights.{Flying, awaited}
use Rattle.frame_future.specs.Future.{Finished, Future, flight_of, given_back, is_picture_of, lent_as, loan_ended, loan_from, refusal_by, refusal_of_map, replaced, shown_by, with_picture}
use Rattle.frame_future.specs.Mapped.{Mapped}
use Rattle.device_parts.specs.Maps.{HasLent}
use Rattle.device_parts.specs.declared.loads.Load.{Load}

-- the first that passes, and another that passes in its place
first_passes : {X : Type 0} (q : X → Bool) (x : X) (xs : List X) → find q xs ≡ Some x → q x ≡ true
first_passes q x [] is = absurd cc
first_passes {X} q x (y ∷ xs) is = by (q y) refl is (first_passes q x xs)
  where
    by : (b : Bool) → q y ≡ b → cond b (Some y) (find q xs) ≡ Some x → (find q xs ≡ Some x → q x ≡ true) → q x ≡ true
    by true passes is rest = let same : y ≡ x = cc in ap q (sym same) ∙ passes
    by false fails is rest = rest is

found_again : {X : Type 0} (q : X → Bool) (new x : X) (xs : List X) → q new ≡ true → find q xs ≡ Some x → find q (replaced q new xs) ≡ Some new
found_again q new x [] passes is = absurd cc
found_again {X} q new x (y ∷ xs) passes is = by (q y) refl is (found_again q new x xs passes)
  where
    by : (b : Bool) → q y ≡ b → cond b (Some y) (find q xs) ≡ Some x → (find q xs ≡ Some x → find q (replaced q new xs) ≡ Some new)
        → find q (cond b (new ∷ xs) (y ∷ replaced q new xs)) ≡ Some new
    by true here is rest = ap (λ t. cond t (Some new) (find q xs)) passes
    by false here is rest = ap (λ t. cond t (Some y) (find q (replaced q new xs))) here ∙ rest is

replaced_twice : {X : Type 0} (q : X → Bool) (a b : X) (xs : List X) → q a ≡ true → replaced q b (replaced q a xs) ≡ replaced q b xs
replaced_twice q a b [] passes = refl
replaced_twice {X} q a b (y ∷ xs) passes = by (q y) refl (replaced_twice q a b xs passes)
  where
    by : (t : Bool) → q y ≡ t → replaced q b (replaced q a xs) ≡ replaced q b xs → replaced q b (cond t (a ∷ xs) (y ∷ replaced q a xs)) ≡ cond t (b ∷ xs) (y ∷ replaced q b xs)
    by true here rest = ap (λ t. cond t (b ∷ xs) (a ∷ replaced q b xs)) passes
    by false here rest = ap (λ t. cond t (b ∷ replaced q a xs) (y ∷ replaced q b (replaced q a xs))) here ∙ ap (λ ys. y ∷ ys) rest

replaced_itself : {X : Type 0} (q : X → Bool) (x : X) (xs : List X) → find q xs ≡ Some x → replaced q x xs ≡ xs
replaced_itself q x [] is = refl
replaced_itself {X} q x (y ∷ xs) is = by (q y) is (replaced_itself q x xs)
  where
    by : (t : Bool) → cond t (Some y) (find q xs) ≡ Some x → (find q xs ≡ Some x → replaced q x xs ≡ xs) → cond t (x ∷ xs) (y ∷ replaced q x xs) ≡ y ∷ xs
    by true is rest = let same : y ≡ x = cc in ap (λ z. z ∷ xs) (sym same)
    by false is rest = ap (λ ys. y ∷ ys) (rest is)

-- a loan that is set and taken back
set_back : (loans : List (Option ℕ)) (i n : ℕ) → unwrap_or (slice_get loans i) None ≡ None → slice_set (slice_set loans i (Some n)) i None ≡ loans
set_back [] i n free = refl
set_back (o ∷ os) zero n free = ap (λ x. x ∷ os) (sym free)
set_back (o ∷ os) (suc i) n free = ap (λ xs. o ∷ xs) (set_back os i n free)

back_again : (p : Finished) (c : Channel) (n : ℕ) → loan_of p.loans c ≡ None → given_back (lent_as p c n) c ≡ p
back_again p c n free = ap (λ (loans : List (Option ℕ)). record p { loans = loans }) (set_back p.loans (number_of_channel c) n free)

itself : (k : ℕ) → (k == k) ≡ true
itself k = grind arith

module _ (s : Future) (h : ℕ) (c : Channel) (n : ℕ) (p : Finished) (shown : shown_by s h ≡ Some p) (free : loan_of p.loans c ≡ None) where
  frame : p.frame ≡ h
  frame = eqb-true p.frame h (first_passes (is_picture_of h) p s.pictures shown)

  shown_here : shown_by s p.frame ≡ Some p
  shown_here = ap (shown_by s) frame ∙ shown

  lent_is_shown : shown_by (with_picture s (lent_as p c n)) h ≡ Some (lent_as p c n)
  lent_is_shown =
      subst (λ k. find (is_picture_of k) (replaced (is_picture_of p.frame) (lent_as p c n) s.pictures) ≡ Some (lent_as p c n)) frame
      (found_again (is_picture_of p.frame) (lent_as p c n) p s.pictures (itself p.frame) shown_here)

  same_pictures : replaced (is_picture_of p.frame) (given_back (lent_as p c n) c) (replaced (is_picture_of p.frame) (lent_as p c n) s.pictures) ≡ s.pictures
  same_pictures =
      replaced_twice (is_picture_of p.frame) (lent_as p c n) (given_back (lent_as p c n) c) s.pictures (itself p.frame)
      ∙ ap (λ q. replaced (is_picture_of p.frame) q s.pictures) (back_again p c n free)
      ∙ replaced_itself (is_picture_of p.frame) p s.pictures shown_here

  loan_undone : loan_ended (with_picture s (lent_as p c n)) h c ≡ s
  loan_undone =
      ap (λ o. option_map_or (λ q. with_picture (with_picture s (lent_as p c n)) (given_back q c)) o (with_picture s (lent_as p c n))) lent_is_shown
      ∙ ap (λ (ps : List Finished). record s { pictures = ps }) same_pictures

-- a channel that may be mapped is not, and its frame is not in flight
pub grounded : (s : Future) (h : ℕ) (c : Channel) → refusal_of_map s h c ≡ None → flight_of s h ≡ None
grounded s h c none = by (flight_of s h) none
  where
    by : (o : Option Flying) → refusal_by o (shown_by s h) c ≡ None → o ≡ None
    by None none = refl
    by (Some f) none = absurd cc

is_free : (s : Future) (h : ℕ) (c : Channel) (p : Finished) → refusal_of_map s h c ≡ None → shown_by s h ≡ Some p → loan_of p.loans c ≡ None
is_free s h c p none shown = by (flight_of s h) (subst (λ o. refusal_by (flight_of s h) o c ≡ None) shown none)
  where
    of : (o : Option ℕ) → cond {A = Option Refused} (is_some o) (Some ChannelMapped) (cond (is_asked p.channels c) None (Some NoChannel)) ≡ None → o ≡ None
    of None none = refl
    of (Some n) none = absurd cc

    by : (o : Option Flying) → refusal_by o (Some p) c ≡ None → loan_of p.loans c ≡ None
    by None none = of (loan_of p.loans c) none
    by (Some f) none = absurd cc

-- so no look at its flight is asked for
pub none_awaited : (s : Future) (h : ℕ) (c : Channel) → refusal_of_map s h c ≡ None → IfSome (flight_of s h) (λ f. f.looked < awaited f)
none_awaited s h c none = subst (λ o. IfSome o (λ (f : Flying). f.looked < awaited f)) (sym (grounded s h c none)) tt

-- what was lent, by what is told of the frame's picture
pub lent_by : (h number : ℕ) (c : Channel) (loan : Mapped) (old new : Books Load) → IsSomeAnd (shown_by old.future h) (λ p. loan ≡ loan_from p c number)
    → IsSomeAnd (shown_by old.future h) (λ p. new ≡ with_future old (with_picture old.future (lent_as p c number))) → HasLent h c number loan old new
lent_by h number c loan old new is lent = by (shown_by old.future h) refl is lent
  where
    by : (o : Option Finished) → shown_by old.future h ≡ o → IsSomeAnd o (λ p. loan ≡ loan_from p c number)
        → IsSomeAnd o (λ p. new ≡ with_future old (with_picture old.future (lent_as p c number))) → HasLent h c number loan old new
    by None none is lent = absurd is
    by (Some p) shown is lent = record { picture = p; shown = shown; loan_is = is; flights = lent }

-- the end of the loan leaves the flights and pictures as they were
pub undone : (h number : ℕ) (c : Channel) (loan : Mapped) (old lent new : Books Load) → refusal_of_map old.future h c ≡ None → HasLent h c number loan old lent
    → new ≡ with_future lent (loan_ended lent.future h c) → new ≡ old
undone h number c loan old lent new none l ends =
    ends ∙ ap (λ (b : Books Load). with_future b (loan_ended b.future h c)) l.flights
    ∙ ap (λ (s : Future). with_future old s) (loan_undone old.future h c number l.picture l.shown (is_free old.future h c l.picture none l.shown))
