-- The tickets of frames in flight, and what lives by two tests that agree.
use Rattle.std.proofs.Common.{ℕ, zero, suc, ◌+◌, ◌≡◌, ◌∙◌, nat_lt, Bool, true, false, List, [], ◌∷◌, All, Option, Some, None, refl, sym, ap, arith}
use Rattle.std.specs.Prelude.{cond, count_by, ◌||◌}
use Rattle.std.specs.BTreeMap.{is_at}
use Rattle.std.specs.List.{cons_option, filter, filter_map, list_any}
use Rattle.std.specs.Map.{set_value}
use Rattle.std.specs.Ordering.{nat_cmp}
use Rattle.std.proofs.lemmas.Bool.{lt-ltb}
use Rattle.std.proofs.lemmas.List.Elements.{All-head, All-tail, All-weaker}
use Rattle.std.proofs.lemmas.List.Sums.{sum_by-cons}
use Rattle.seq_model.proofs.Keys.{at}
use Rattle.seq_model.specs.Life.{grown, is_named_by, live}
use Rattle.seq_model.specs.State.{Object, ticket_in}

abbrev pub tickets : List (ℕ × Object) → List ℕ
tickets es = filter_map (λ entry. ticket_in entry.1.phase) es

-- an object is changed, and keeps its phase
pub set_tickets : (h : ℕ) (es : List (ℕ × Object)) (o v : Object) → at h es ≡ Some o → v.phase ≡ o.phase → tickets (set_value (is_at (nat_cmp h)) es v) ≡ tickets es
set_tickets h [] o v found same = absurd cc
set_tickets h (e ∷ es) o v found same = by (is_at (nat_cmp h) e.0) refl (λ later. set_tickets h es o v later same)
  where
    by : (t : Bool) → is_at (nat_cmp h) e.0 ≡ t → (at h es ≡ Some o → tickets (set_value (is_at (nat_cmp h)) es v) ≡ tickets es) →
        tickets (cond t ((e.0, v) ∷ es) (e ∷ set_value (is_at (nat_cmp h)) es v)) ≡ tickets (e ∷ es)
    by true is rest =
        let value : Some e.1 ≡ Some o = sym (ap (λ t. cond t (Some e.1) (at h es)) is) ∙ found in
        let one : e.1 ≡ o = cc in
        ap (λ phase. cons_option (ticket_in phase) (tickets es)) (same ∙ sym (ap (λ (x : Object). x.phase) one))
    by false is rest = ap (cons_option (ticket_in e.1.phase)) (rest (sym (ap (λ t. cond t (Some e.1) (at h es)) is) ∙ found))

-- objects are taken away, and no frame in flight among them
pub kept_tickets : (p : ℕ × Object → Bool) (es : List (ℕ × Object)) → All (λ e. (u : ℕ) → ticket_in e.1.phase ≡ Some u → p e ≡ true) es → tickets (filter p es) ≡ tickets es
kept_tickets p [] kept = refl
kept_tickets p (e ∷ es) kept =
    by (p e) refl (ticket_in e.1.phase) refl (kept_tickets p es (All-tail (λ (e : ℕ × Object). (u : ℕ) → ticket_in e.1.phase ≡ Some u → p e ≡ true) e es kept))
  where
    by : (t : Bool) → p e ≡ t → (x : Option ℕ) → ticket_in e.1.phase ≡ x → tickets (filter p es) ≡ tickets es → tickets (cond t (e ∷ filter p es) (filter p es)) ≡ tickets (e ∷ es)
    by true is x ticket rest = ap (cons_option (ticket_in e.1.phase)) rest
    by false is None ticket rest = rest ∙ sym (ap (λ x. cons_option x (tickets es)) ticket)
    by false is (Some u) ticket rest =
        let passes : p e ≡ true = All-head (λ (e : ℕ × Object). (u : ℕ) → ticket_in e.1.phase ≡ Some u → p e ≡ true) e es kept u ticket in absurd cc

-- some pass a test exactly where their number is not 0
pub some_counted : (q : ℕ → Bool) (xs : List ℕ) → nat_lt 0 (count_by q xs) ≡ list_any q xs
some_counted q [] = refl
some_counted q (x ∷ xs) = ap (nat_lt 0) (sum_by-cons (λ y. cond (q y) 1 0) x xs) ∙ by (q x) (some_counted q xs)
  where
    by : (t : Bool) → nat_lt 0 (count_by q xs) ≡ list_any q xs → nat_lt 0 (cond t 1 0 + count_by q xs) ≡ (t || list_any q xs)
    by true rest = lt-ltb 0 (1 + count_by q xs) (omega arith)
    by false rest = let same : 0 + count_by q xs ≡ count_by q xs = omega arith in ap (nat_lt 0) same ∙ rest

pub none_counted : (q : ℕ → Bool) (xs : List ℕ) → list_any q xs ≡ false → count_by q xs ≡ 0
none_counted q xs none = by (count_by q xs) refl
  where
    by : (n : ℕ) → count_by q xs ≡ n → n ≡ 0
    by zero is = refl
    by (suc n) is =
        let some : nat_lt 0 (suc n) ≡ true = lt-ltb 0 (suc n) (omega arith) in
        let wrong : true ≡ false = sym some ∙ sym (ap (nat_lt 0) is) ∙ some_counted q xs ∙ none in absurd cc

-- two tests that agree keep the same
filter_alike : (p q : ℕ × Object → Bool) (xs : List (ℕ × Object)) → All (λ x. p x ≡ q x) xs → filter p xs ≡ filter q xs
filter_alike p q [] same = refl
filter_alike p q (x ∷ xs) same =
    ap (λ t. cond t (x ∷ filter p xs) (filter p xs)) (All-head (λ (y : ℕ × Object). p y ≡ q y) x xs same)
    ∙ ap (λ rest. cond (q x) (x ∷ rest) rest) (filter_alike p q xs (All-tail (λ (y : ℕ × Object). p y ≡ q y) x xs same))

-- so the same live
also_named : (p q named : ℕ × Object → Bool) (xs : List (ℕ × Object)) → All (λ x. p x ≡ q x) xs → All (λ x. (p x || named x) ≡ (q x || named x)) xs
also_named p q named xs same = All-weaker (λ (x : ℕ × Object). p x ≡ q x) (λ (x : ℕ × Object). (p x || named x) ≡ (q x || named x)) (λ x is. ap (λ t. t || named x) is) xs same

grown_alike : (p q : ℕ × Object → Bool) (objects : List (ℕ × Object)) (n : ℕ) → All (λ x. p x ≡ q x) objects → grown p objects n ≡ grown q objects n
unfolding grown
grown_alike p q objects zero same = filter_alike p q objects same
grown_alike p q objects (suc n) same =
    filter_alike (λ e. p e || is_named_by (grown p objects n) e.0) (λ e. q e || is_named_by (grown p objects n) e.0) objects (also_named p q (λ e. is_named_by (grown p objects n) e.0) objects same)
    ∙ ap (λ holders. filter (λ (e : ℕ × Object). q e || is_named_by holders e.0) objects) (grown_alike p q objects n same)

pub live_alike : (p q : ℕ × Object → Bool) (objects : List (ℕ × Object)) → All (λ x. p x ≡ q x) objects → live p objects ≡ live q objects
unfolding live
live_alike p q objects same = grown_alike p q objects 10 same
