-- How many flights reach an object, as entries are made.
use Rattle.std.proofs.Common.{ℕ, ◌+◌, ◌==◌, ◌≡◌, ◌∙◌, not, Bool, true, false, List, [], ◌∷◌, ◌++◌, Option, Some, None, map, refl, sym, ap, arith}
use Rattle.std.specs.Prelude.{cond, count_by}
use Rattle.std.specs.BTreeMap.{is_at}
use Rattle.std.specs.List.{cons_option, filter}
use Rattle.std.specs.Map.{set_value}
use Rattle.std.specs.Option.{option_map_or, option_to_list}
use Rattle.std.specs.Ordering.{nat_cmp}
use Rattle.std.proofs.lemmas.Bool.{eqb-true}
use Rattle.std.proofs.lemmas.List.Sums.{sum_by-append, sum_by-cons}
use Rattle.dev_types.specs.Counting.{times}
use Rattle.seq_model.specs.Life.{has}
use Rattle.seq_model.specs.State.{Object, Phase, is_in_flight, ticket_in}
use Rattle.seq_model.specs.Steps.{end_flight, set_phase}
use Rattle.seq_model.proofs.Keys.{at}
use Rattle.seq_model.proofs.Sound.{has_head, has_tail}
use Rattle.object_steps.proofs.Tickets.{tickets}

abbrev one_if : Bool → ℕ
one_if t = cond t 1 0

-- tests that agree on what a list has pass as many of it
pub count_alike : (q p : ℕ → Bool) (xs : List ℕ) → ((t : ℕ) → has t xs ≡ true → q t ≡ p t) → count_by q xs ≡ count_by p xs
count_alike q p [] same = refl
count_alike q p (x ∷ xs) same =
    let first : one_if (q x) ≡ one_if (p x) = ap one_if (same x (has_head x xs)) in
    let rest : count_by q xs ≡ count_by p xs = count_alike q p xs (λ t is. same t (has_tail t x xs is)) in
    omega (arith, sum_by-cons (λ y. cond (q y) 1 0) x xs, sum_by-cons (λ y. cond (p y) 1 0) x xs, first, rest)

count_cons : (q : ℕ → Bool) (x : Option ℕ) (xs : List ℕ) → count_by q (cons_option x xs) ≡ count_by q (option_to_list x) + count_by q xs
count_cons q None xs = let none : count_by q [] ≡ 0 = refl in omega (arith, none)
count_cons q (Some x) xs = let none : count_by q [] ≡ 0 = refl in omega (arith, none, sum_by-cons (λ y. cond (q y) 1 0) x xs, sum_by-cons (λ y. cond (q y) 1 0) x [])

pub count_both : (q : ℕ → Bool) (xs ys : List ℕ) → count_by q (xs ++ ys) ≡ count_by q xs + count_by q ys
count_both q xs ys = sum_by-append (λ y. cond (q y) 1 0) xs ys

-- an object that is changed brings its ticket, and takes the one that it had
pub set_count : (q : ℕ → Bool) (h : ℕ) (es : List (ℕ × Object)) (o v : Object) → at h es ≡ Some o →
    count_by q (tickets (set_value (is_at (nat_cmp h)) es v)) + count_by q (option_to_list (ticket_in o.phase)) ≡ count_by q (tickets es) + count_by q (option_to_list (ticket_in v.phase))
set_count q h [] o v found = absurd cc
set_count q h (e ∷ es) o v found = by (is_at (nat_cmp h) e.0) refl (λ later. set_count q h es o v later)
  where
    by : (t : Bool) → is_at (nat_cmp h) e.0 ≡ t →
        (at h es ≡ Some o → count_by q (tickets (set_value (is_at (nat_cmp h)) es v)) + count_by q (option_to_list (ticket_in o.phase)) ≡ count_by q (tickets es) + count_by q (option_to_list (ticket_in v.phase))) →
        count_by q (tickets (cond t ((e.0, v) ∷ es) (e ∷ set_value (is_at (nat_cmp h)) es v))) + count_by q (option_to_list (ticket_in o.phase)) ≡ count_by q (tickets (e ∷ es)) + count_by q (option_to_list (ticket_in v.phase))
    by true is rest =
        let value : Some e.1 ≡ Some o = sym (ap (λ t. cond t (Some e.1) (at h es)) is) ∙ found in
        let one : e.1 ≡ o = cc in
        let same : count_by q (option_to_list (ticket_in e.1.phase)) ≡ count_by q (option_to_list (ticket_in o.phase)) = ap (λ (x : Object). count_by q (option_to_list (ticket_in x.phase))) one in
        omega (arith, count_cons q (ticket_in v.phase) (tickets es), count_cons q (ticket_in e.1.phase) (tickets es), same)
    by false is rest =
        omega (arith, count_cons q (ticket_in e.1.phase) (tickets (set_value (is_at (nat_cmp h)) es v)), count_cons q (ticket_in e.1.phase) (tickets es), rest (sym (ap (λ t. cond t (Some e.1) (at h es)) is) ∙ found))

-- a list without one of its numbers
pub without_count : (q : ℕ → Bool) (t : ℕ) (xs : List ℕ) → count_by q (filter (λ u. not (u == t)) xs) + cond (q t) (times t xs) 0 ≡ count_by q xs
without_count q t [] = by (q t)
  where
    by : (b : Bool) → count_by q [] + cond b (times t []) 0 ≡ count_by q []
    by true = refl
    by false = refl
without_count q t (x ∷ xs) = by (x == t) refl (q t) refl (without_count q t xs)
  where
    all : count_by q (x ∷ xs) ≡ one_if (q x) + count_by q xs
    all = sum_by-cons (λ y. cond (q y) 1 0) x xs

    often : times t (x ∷ xs) ≡ one_if (x == t) + times t xs
    often = sum_by-cons (λ y. cond (y == t) 1 0) x xs

    by : (b : Bool) → (x == t) ≡ b → (c : Bool) → q t ≡ c → count_by q (filter (λ u. not (u == t)) xs) + cond (q t) (times t xs) 0 ≡ count_by q xs →
        count_by q (cond (not b) (x ∷ filter (λ u. not (u == t)) xs) (filter (λ u. not (u == t)) xs)) + cond c (times t (x ∷ xs)) 0 ≡ count_by q (x ∷ xs)
    by true is true passes rest =
        let old : cond (q t) (times t xs) 0 ≡ times t xs = ap (λ c. cond c (times t xs) 0) passes in
        let first : one_if (x == t) ≡ 1 = ap one_if is in
        let here : one_if (q x) ≡ 1 = ap (λ y. one_if (q y)) (eqb-true x t is) ∙ ap one_if passes in
        omega (arith, all, often, rest, old, first, here)
    by true is false fails rest =
        let old : cond (q t) (times t xs) 0 ≡ 0 = ap (λ c. cond c (times t xs) 0) fails in
        let here : one_if (q x) ≡ 0 = ap (λ y. one_if (q y)) (eqb-true x t is) ∙ ap one_if fails in
        omega (arith, all, rest, old, here)
    by false is true passes rest =
        let old : cond (q t) (times t xs) 0 ≡ times t xs = ap (λ c. cond c (times t xs) 0) passes in
        let first : one_if (x == t) ≡ 0 = ap one_if is in
        omega (arith, all, often, rest, old, first, sum_by-cons (λ y. cond (q y) 1 0) x (filter (λ u. not (u == t)) xs))
    by false is false fails rest =
        let old : cond (q t) (times t xs) 0 ≡ 0 = ap (λ c. cond c (times t xs) 0) fails in
        omega (arith, all, rest, old, sum_by-cons (λ y. cond (q y) 1 0) x (filter (λ u. not (u == t)) xs))

-- frames whose flight ends
pub end_tickets : (t : ℕ) (phase : Phase) → ticket_in phase ≡ None → (es : List (ℕ × Object)) → tickets (map (λ (entry : ℕ × Object). (entry.0, end_flight t phase entry.1)) es) ≡ filter (λ u. not (u == t)) (tickets es)
unfolding end_flight
end_tickets t phase ends [] = refl
end_tickets t phase ends (e ∷ es) = by (ticket_in e.1.phase) refl (end_tickets t phase ends es)
  where
    by : (x : Option ℕ) → ticket_in e.1.phase ≡ x → tickets (map (λ (entry : ℕ × Object). (entry.0, end_flight t phase entry.1)) es) ≡ filter (λ u. not (u == t)) (tickets es) →
        cons_option (ticket_in (cond (is_in_flight t e.1) (set_phase phase e.1) e.1).phase) (tickets (map (λ (entry : ℕ × Object). (entry.0, end_flight t phase entry.1)) es))
        ≡ filter (λ u. not (u == t)) (cons_option (ticket_in e.1.phase) (tickets es))
    by None is rest =
        ap (λ y. cons_option (ticket_in (cond (option_map_or (λ u. u == t) y false) (set_phase phase e.1) e.1).phase) (tickets (map (λ (entry : ℕ × Object). (entry.0, end_flight t phase entry.1)) es))) is
        ∙ ap (λ y. cons_option y (tickets (map (λ (entry : ℕ × Object). (entry.0, end_flight t phase entry.1)) es))) is ∙ rest ∙ ap (λ y. filter (λ u. not (u == t)) (cons_option y (tickets es))) (sym is)
    by (Some u) is rest =
        ap (λ y. cons_option (ticket_in (cond (option_map_or (λ u. u == t) y false) (set_phase phase e.1) e.1).phase) (tickets (map (λ (entry : ℕ × Object). (entry.0, end_flight t phase entry.1)) es))) is
        ∙ of (u == t) ∙ ap (λ y. filter (λ u. not (u == t)) (cons_option y (tickets es))) (sym is)
      where
        of : (b : Bool) → cons_option (ticket_in (cond b (set_phase phase e.1) e.1).phase) (tickets (map (λ (entry : ℕ × Object). (entry.0, end_flight t phase entry.1)) es))
            ≡ cond (not b) (u ∷ filter (λ u. not (u == t)) (tickets es)) (filter (λ u. not (u == t)) (tickets es))
        of true = ap (λ y. cons_option y (tickets (map (λ (entry : ℕ × Object). (entry.0, end_flight t phase entry.1)) es))) ends ∙ rest
        of false = ap (λ y. cons_option y (tickets (map (λ (entry : ℕ × Object). (entry.0, end_flight t phase entry.1)) es))) is ∙ ap (λ us. u ∷ us) rest
