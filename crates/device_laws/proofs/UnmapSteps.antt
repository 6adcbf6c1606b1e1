-- A channel of a kept picture that comes back.
use Rattle.std.proofs.Common.{ℕ, ◌+◌, ◌==◌, ◌≡◌, ◌≤◌, ◌∙◌, inl, not, Bool, true, false, List, [], ◌∷◌, ◌++◌, All, Option, Some, None, refl, sym, ap, subst, arith}
use Rattle.std.specs.Prelude.{cond, count_by}
use Rattle.std.specs.List.{AllByRecursion, filter, find}
use Rattle.std.specs.Option.{IsSomeAnd, option_map, option_map_or}
use Rattle.std.proofs.lemmas.Bool.{eq-eqb, eqb-true}
use Rattle.std.proofs.lemmas.List.Elements.{All-head, All-tail}
use Rattle.dev_types.specs.declared.handles.Channel.{Channel}
use Rattle.dev_types.specs.declared.handles.Channel.TheVariants.{Color, PrimitiveId, ObjectId, InstanceId}
use Rattle.frame_future.specs.Channels.{loan_of}
use Rattle.frame_future.specs.Future.{Finished, given_back, is_picture_of, replaced}
use Rattle.seq_model.proofs.Channels.{channels_stand_once}
use Rattle.seq_model.proofs.Lent.{loans_were_lent}
use Rattle.seq_model.specs.Histories.{History, entry_at}
use Rattle.seq_model.specs.Legal.{Legal}
use Rattle.seq_model.specs.Lending.{IsAt, lends_channel}
use Rattle.seq_model.specs.Refusals.{is_same_channel, mapped_at, phase_at}
use Rattle.seq_model.specs.State.{Done, Object, object_at}
use Rattle.seq_model.specs.Steps.{after}
use Rattle.seq_model.specs.declared.calls.Call.TheVariants.{MapFrame, Retain, UnmapFrame}
use Rattle.seq_model.specs.declared.calls.Entry.{Entry}
use Rattle.seq_model.specs.declared.calls.Entry.TheVariants.{Called}
use Rattle.seq_model.specs.declared.calls.Reply.TheVariants as reply
use Rattle.device_laws.proofs.FutureFacts.{count_next}
use Rattle.device_laws.proofs.LentFacts.{mapped_over, mapped_shown}
use Rattle.device_laws.proofs.LoanSteps.{all_replaced, other_lent, same_is, set_loan}
use Rattle.device_laws.proofs.StandingFacts.{and_parts, both, found}
use Rattle.device_laws.proofs.FlownFacts.{weaker}
use Rattle.device_laws.proofs.StandingSteps.{all_filtered, there_if}
use Rattle.device_laws.specs.Lent.{AreLent, IsLent, loan_in}
use Rattle.device_laws.specs.Showings.{showing_at, with_channels}
use Rattle.device_laws.specs.Standing.{AreLeft, pictures_left}

pub itself : (c : Channel) → is_same_channel c c ≡ true
itself Color = refl
itself PrimitiveId = refl
itself ObjectId = refl
itself InstanceId = refl

-- an entry lends one channel
one_channel : (h : ℕ) (c d : Channel) (e : Entry) → lends_channel h c e ≡ true → lends_channel h d e ≡ true → c ≡ d
one_channel h c d (Called actor (MapFrame k channel) (reply.Mapped width height t rows)) first second =
    sym (same_is channel c (and_parts (k == h) (is_same_channel channel c) first).1) ∙ same_is channel d (and_parts (k == h) (is_same_channel channel d) second).1
one_channel h c d (Called actor (Retain k) r) first second = absurd cc
one_channel h c d e first second = absurd cc

at_one : (history : History) (place h : ℕ) (c d : Channel) → IsAt history place (lends_channel h c) → IsAt history place (lends_channel h d) → c ≡ d
at_one history place h c d = by (entry_at history place)
  where
    by : (x : Option Entry) → IsSomeAnd x (λ e. lends_channel h c e ≡ true) → IsSomeAnd x (λ e. lends_channel h d e ≡ true) → c ≡ d
    by None first second = absurd first
    by (Some e) first second = one_channel h c d e first second

by_recursion : {X : Type 0} (P : X → Type 0) (xs : List X) → All P xs → AllByRecursion P xs
by_recursion P [] all = tt
by_recursion P (x ∷ xs) all = (All-head P x xs all, by_recursion P xs (All-tail P x xs all))

-- a mapped channel stands once, with its number
none_same : (c : Channel) (n : ℕ) (ms : List (Channel × ℕ)) → count_by (λ m. is_same_channel m.0 c) ms ≤ 0 → AllByRecursion (λ m. is_same_channel m.0 c ≡ true → m.1 ≡ n) ms
none_same c n [] none = tt
none_same c n (m ∷ ms) none = by (is_same_channel m.0 c) refl (count_next (λ (m : Channel × ℕ). is_same_channel m.0 c) m ms) (none_same c n ms)
  where
    by : (b : Bool) → is_same_channel m.0 c ≡ b → count_by (λ m. is_same_channel m.0 c) (m ∷ ms) ≡ cond (is_same_channel m.0 c) 1 0 + count_by (λ m. is_same_channel m.0 c) ms →
        (count_by (λ m. is_same_channel m.0 c) ms ≤ 0 → AllByRecursion (λ m. is_same_channel m.0 c ≡ true → m.1 ≡ n) ms) →
        (is_same_channel m.0 c ≡ true → m.1 ≡ n) × AllByRecursion (λ m. is_same_channel m.0 c ≡ true → m.1 ≡ n) ms
    by true is next rest = absurd (let one : cond {A = ℕ} (is_same_channel m.0 c) 1 0 ≡ 1 = ap (λ b. cond {A = ℕ} b 1 0) is in omega (arith, none, next, one))
    by false is next rest = (λ same. absurd cc, rest (omega (arith, none, next)))

once_numbered : (c : Channel) (n : ℕ) (ms : List (Channel × ℕ)) → loan_in ms c ≡ Some n → count_by (λ m. is_same_channel m.0 c) ms ≤ 1 → AllByRecursion (λ m. is_same_channel m.0 c ≡ true → m.1 ≡ n) ms
once_numbered c n [] found single = tt
once_numbered c n (m ∷ ms) found single = by (is_same_channel m.0 c) refl found (count_next (λ (m : Channel × ℕ). is_same_channel m.0 c) m ms) (once_numbered c n ms)
  where
    by : (b : Bool) → is_same_channel m.0 c ≡ b → option_map (λ (m : Channel × ℕ). m.1) (cond b (Some m) (find (λ m. is_same_channel m.0 c) ms)) ≡ Some n →
        count_by (λ m. is_same_channel m.0 c) (m ∷ ms) ≡ cond (is_same_channel m.0 c) 1 0 + count_by (λ m. is_same_channel m.0 c) ms →
        (loan_in ms c ≡ Some n → count_by (λ m. is_same_channel m.0 c) ms ≤ 1 → AllByRecursion (λ m. is_same_channel m.0 c ≡ true → m.1 ≡ n) ms) →
        (is_same_channel m.0 c ≡ true → m.1 ≡ n) × AllByRecursion (λ m. is_same_channel m.0 c ≡ true → m.1 ≡ n) ms
    by true is found next rest =
        let one : cond {A = ℕ} (is_same_channel m.0 c) 1 0 ≡ 1 = ap (λ b. cond {A = ℕ} b 1 0) is in
        let number : m.1 ≡ n = cc in (λ same. number, none_same c n ms (omega (arith, single, next, one)))
    by false is found next rest = (λ same. absurd cc, rest found (omega (arith, single, next)))

-- the entry that lent it
number_found : (c : Channel) (n : ℕ) (P : Channel × ℕ → Type 0) (ms : List (Channel × ℕ)) → AllByRecursion P ms → loan_in ms c ≡ Some n → (m : Channel × ℕ) × (P m × ((m.0 ≡ c) × (m.1 ≡ n)))
number_found c n P ms all is = by (find (λ m. is_same_channel m.0 c) ms) refl is
  where
    by : (x : Option (Channel × ℕ)) → find (λ m. is_same_channel m.0 c) ms ≡ x → option_map (λ (m : Channel × ℕ). m.1) x ≡ Some n → (m : Channel × ℕ) × (P m × ((m.0 ≡ c) × (m.1 ≡ n)))
    by None none is = absurd cc
    by (Some m) some is =
        let one : P m × (is_same_channel m.0 c ≡ true) = found P (λ m. is_same_channel m.0 c) ms m all some in
        (m, (one.0, (same_is m.0 c one.1, (let same : m.1 ≡ n = cc in same))))

tests_agree : (history : History) (h : ℕ) (c : Channel) (n : ℕ) (m : Channel × ℕ) → IsAt history n (lends_channel h c) → IsAt history m.1 (lends_channel h m.0) → (is_same_channel m.0 c ≡ true → m.1 ≡ n) →
    (m.1 == n) ≡ is_same_channel m.0 c
tests_agree history h c n m here lent numbered = by (m.1 == n) refl (is_same_channel m.0 c) refl
  where
    by : (a : Bool) → (m.1 == n) ≡ a → (b : Bool) → is_same_channel m.0 c ≡ b → a ≡ b
    by true is true same = refl
    by false is false same = refl
    by false is true same = let wrong : (m.1 == n) ≡ true = eq-eqb m.1 n (numbered same) in absurd cc
    by true is false same =
        let channel : m.0 ≡ c = at_one history n h m.0 c (subst (λ place. IsAt history place (lends_channel h m.0)) (eqb-true m.1 n is) lent) here in
        let wrong : is_same_channel m.0 c ≡ true = ap (λ d. is_same_channel d c) channel ∙ itself c in absurd cc

-- the mapped channels without one
filters_agree : (p q : Channel × ℕ → Bool) (ms : List (Channel × ℕ)) → AllByRecursion (λ m. p m ≡ q m) ms → filter (λ m. not (p m)) ms ≡ filter (λ m. not (q m)) ms
filters_agree p q [] all = refl
filters_agree p q (m ∷ ms) all =
    ap (λ b. cond (not b) (m ∷ filter (λ m. not (p m)) ms) (filter (λ m. not (p m)) ms)) all.0 ∙ ap (λ rest. cond (not (q m)) (m ∷ rest) rest) (filters_agree p q ms all.1)

none_left : (c : Channel) (ms : List (Channel × ℕ)) → find (λ m. is_same_channel m.0 c) (filter (λ m. not (is_same_channel m.0 c)) ms) ≡ None
none_left c [] = refl
none_left c (m ∷ ms) = by (is_same_channel m.0 c) refl (none_left c ms)
  where
    by : (b : Bool) → is_same_channel m.0 c ≡ b → find (λ m. is_same_channel m.0 c) (filter (λ m. not (is_same_channel m.0 c)) ms) ≡ None →
        find (λ m. is_same_channel m.0 c) (cond (not b) (m ∷ filter (λ m. not (is_same_channel m.0 c)) ms) (filter (λ m. not (is_same_channel m.0 c)) ms)) ≡ None
    by true is rest = rest
    by false is rest = ap (λ b. cond b (Some m) (find (λ m. is_same_channel m.0 c) (filter (λ m. not (is_same_channel m.0 c)) ms))) is ∙ rest

others_left : (c d : Channel) (ms : List (Channel × ℕ)) → is_same_channel c d ≡ false → find (λ m. is_same_channel m.0 d) (filter (λ m. not (is_same_channel m.0 c)) ms) ≡ find (λ m. is_same_channel m.0 d) ms
others_left c d [] apart = refl
others_left c d (m ∷ ms) apart = by (is_same_channel m.0 c) refl (is_same_channel m.0 d) refl (others_left c d ms apart)
  where
    by : (a : Bool) → is_same_channel m.0 c ≡ a → (b : Bool) → is_same_channel m.0 d ≡ b →
        find (λ m. is_same_channel m.0 d) (filter (λ m. not (is_same_channel m.0 c)) ms) ≡ find (λ m. is_same_channel m.0 d) ms →
        find (λ m. is_same_channel m.0 d) (cond (not a) (m ∷ filter (λ m. not (is_same_channel m.0 c)) ms) (filter (λ m. not (is_same_channel m.0 c)) ms)) ≡ cond b (Some m) (find (λ m. is_same_channel m.0 d) ms)
    by true is true other rest =
        let wrong : is_same_channel c d ≡ true = ap (λ e. is_same_channel e d) (sym (same_is m.0 c is)) ∙ other in absurd cc
    by true is false other rest = rest
    by false is true other rest = ap (λ b. cond b (Some m) (find (λ m. is_same_channel m.0 d) (filter (λ m. not (is_same_channel m.0 c)) ms))) other
    by false is false other rest = ap (λ b. cond b (Some m) (find (λ m. is_same_channel m.0 d) (filter (λ m. not (is_same_channel m.0 c)) ms))) other ∙ rest

loan_less : (c d : Channel) (ms : List (Channel × ℕ)) → loan_in (filter (λ m. not (is_same_channel m.0 c)) ms) d ≡ cond (is_same_channel c d) None (loan_in ms d)
loan_less c d ms = by (is_same_channel c d) refl
  where
    by : (b : Bool) → is_same_channel c d ≡ b → loan_in (filter (λ m. not (is_same_channel m.0 c)) ms) d ≡ cond b None (loan_in ms d)
    by true is = ap (λ d. loan_in (filter (λ m. not (is_same_channel m.0 c)) ms) d) (sym (same_is c d is)) ∙ ap (option_map (λ (m : Channel × ℕ). m.1)) (none_left c ms)
    by false is = ap (option_map (λ (m : Channel × ℕ). m.1)) (others_left c d ms is)

-- the channels of a frame without one that comes back
channel_back : (history : History) (h : ℕ) (c d : Channel) (n : ℕ) → Legal history → loan_in (mapped_at (after history) h) c ≡ Some n →
    loan_in (filter (λ m. not (m.1 == n)) (mapped_at (after history) h)) d ≡ cond (is_same_channel c d) None (loan_in (mapped_at (after history) h) d)
channel_back history h c d n legal = by (object_at (after history).state h) refl
  where
    of : (o : Object) → object_at (after history).state h ≡ Some o → loan_in o.channels c ≡ Some n → loan_in (filter (λ m. not (m.1 == n)) o.channels) d ≡ cond (is_same_channel c d) None (loan_in o.channels d)
    of o there is =
        let lent : AllByRecursion (λ m. IsAt history m.1 (lends_channel h m.0)) o.channels =
        by_recursion (λ (m : Channel × ℕ). IsAt history m.1 (lends_channel h m.0)) o.channels (loans_were_lent history h o there).channels in
        let m : (m : Channel × ℕ) × (IsAt history m.1 (lends_channel h m.0) × ((m.0 ≡ c) × (m.1 ≡ n))) = number_found c n (λ m. IsAt history m.1 (lends_channel h m.0)) o.channels lent is in
        let here : IsAt history n (lends_channel h c) =
        subst (λ place. IsAt history place (lends_channel h c)) m.1.1.1 (subst (λ d. IsAt history m.0.1 (lends_channel h d)) m.1.1.0 m.1.0) in
        ap (λ ms. loan_in ms d)
        (filters_agree (λ m. m.1 == n) (λ m. is_same_channel m.0 c) o.channels
        (weaker (λ m. IsAt history m.1 (lends_channel h m.0) × (is_same_channel m.0 c ≡ true → m.1 ≡ n)) (λ m. (m.1 == n) ≡ is_same_channel m.0 c) o.channels
        (λ m both_are. tests_agree history h c n m here both_are.0 both_are.1)
        (both (λ m. IsAt history m.1 (lends_channel h m.0)) (λ m. is_same_channel m.0 c ≡ true → m.1 ≡ n) o.channels lent
        (once_numbered c n o.channels is (channels_stand_once history h o c legal there)))))
        ∙ loan_less c d o.channels

    by : (x : Option Object) → object_at (after history).state h ≡ x → loan_in (option_map_or (λ (o : Object). o.channels) x []) c ≡ Some n →
        loan_in (filter (λ m. not (m.1 == n)) (option_map_or (λ (o : Object). o.channels) x [])) d ≡ cond (is_same_channel c d) None (loan_in (option_map_or (λ (o : Object). o.channels) x []) d)
    by None none is = absurd cc
    by (Some o) some is = of o some is

pub unmap_lent : (history : History) (actor f number : ℕ) (c : Channel) (left : ℕ → Bool) (p : Finished) (pictures : List Finished) → Legal history → AreLeft history (Called actor (UnmapFrame f number) reply.Done) left →
    AllByRecursion (λ p. phase_at (after history) p.frame ≡ Done p.ticket) pictures → count_by (is_picture_of f) pictures ≤ 1 → find (is_picture_of f) pictures ≡ Some p → loan_of p.loans c ≡ Some number →
    AreLent history pictures → AreLent (history ++ Called actor (UnmapFrame f number) reply.Done ∷ []) (pictures_left left (replaced (is_picture_of f) (given_back p c) pictures))
unmap_lent history actor f number c left p pictures legal leaves shown single is_found out lent =
    all_filtered (λ q. left q.frame ≡ true → IsLent (history ++ Called actor (UnmapFrame f number) reply.Done ∷ []) q) (IsLent (history ++ Called actor (UnmapFrame f number) reply.Done ∷ [])) (λ q. left q.frame)
    (replaced (is_picture_of f) (given_back p c) pictures) (λ q is stays. is stays)
    (all_replaced (is_picture_of f) (λ q. (phase_at (after history) q.frame ≡ Done q.ticket) × IsLent history q)
    (λ q. left q.frame ≡ true → IsLent (history ++ Called actor (UnmapFrame f number) reply.Done ∷ []) q) (given_back p c) pictures single
    (λ stays. record {
      count = (set_loan p.loans None c one.0.1.count).0;
      loans = λ d.
          (set_loan p.loans None c one.0.1.count).1 d ∙ ap (λ x. cond (is_same_channel c d) None x) (one.0.1.loans d)
          ∙ sym (channel_back history p.frame c d number legal (sym (one.0.1.loans c) ∙ out))
          ∙ sym (ap (λ ms. loan_in ms d) (mapped_now stays));
    })
    (λ q other is. other_lent history (Called actor (UnmapFrame f number) reply.Done) f (λ ms. filter (λ m. not (m.1 == number)) ms) left leaves (λ h x. refl) q other is)
    (both (λ p. phase_at (after history) p.frame ≡ Done p.ticket) (IsLent history) pictures shown lent))
  where
    one : ((phase_at (after history) p.frame ≡ Done p.ticket) × IsLent history p) × (is_picture_of f p ≡ true)
    one =
        found (λ p. (phase_at (after history) p.frame ≡ Done p.ticket) × IsLent history p) (is_picture_of f) pictures p
        (both (λ p. phase_at (after history) p.frame ≡ Done p.ticket) (IsLent history) pictures shown lent) is_found

    here : (f == p.frame) ≡ true
    here = eq-eqb f p.frame (sym (eqb-true p.frame f one.1))

    mapped_now : left p.frame ≡ true → mapped_at (after (history ++ Called actor (UnmapFrame f number) reply.Done ∷ [])) p.frame ≡ filter (λ m. not (m.1 == number)) (mapped_at (after history) p.frame)
    mapped_now stays =
        mapped_over history (Called actor (UnmapFrame f number) reply.Done) p.frame (sym (leaves p.frame (there_if (after history) p.frame p.ticket (inl one.0.0))) ∙ stays)
        ∙ ap (λ b. (cond b (with_channels (λ ms. filter (λ m. not (m.1 == number)) ms) (showing_at (after history).state p.frame)) (showing_at (after history).state p.frame)).channels) here
        ∙ sym (ap (λ ms. filter (λ m. not (m.1 == number)) ms) (mapped_shown (after history) p.frame))
