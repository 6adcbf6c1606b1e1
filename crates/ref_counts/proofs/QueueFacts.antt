-- What keeps the dead in the queue, and room for those that are not in it.
use Rattle.std.proofs.Common.{◌≡◌, ◌≢◌, ℕ, ◌+◌, ◌<◌, ◌≤◌, Bool, true, false, true≢false, List, [], ◌∷◌, length, Some, None, IsSome, cond, refl, sym, ap, subst, ◌∙◌, inl, inr, arith, nat_eq, ◌&&◌, option_map}
use Rattle.std.proofs.lemmas.Bool.{cases_eq}
use Rattle.std.proofs.lemmas.Bool.Decides.{eqb_tells}
use Rattle.std.proofs.lemmas.List.{length-map}
use Rattle.std.proofs.lemmas.List.Sorted.{sum_by-IsPermutation}
use Rattle.std.proofs.lemmas.List.Sums.{sum_by-cons, count_by-le-length}
use Rattle.std.proofs.lemmas.Map.Entries.{sum_by-set_value}
use Rattle.std.proofs.lemmas.Map.Keys.{ge_from_not_lt}
use Rattle.std.proofs.lemmas.Map.Steps.{set_value_same}
use Rattle.std.proofs.lemmas.Option.{none-some}
use Rattle.std.specs.BinaryHeap.{IsHeap, IsUpperBound}
use Rattle.std.specs.BTreeMap.{is_at}
use Rattle.std.specs.List.{count_by}
use Rattle.std.specs.List.Sorted.{IsPermutation}
use Rattle.std.specs.Map.{lookup, set_value, values_of}
use Rattle.std.specs.Option.{unwrap_or}
use Rattle.std.specs.Ordering.{nat_cmp}
use Rattle.std.specs.declared.cmp.Reverse.{Reverse}
use Rattle.std.specs.declared.option.Option.{Option}
use Rattle.ref_counts.specs.declared.held.Held.{Held}
use Rattle.ref_counts.specs.CountMaps.{counts_at, entry_at, ChangesAt, IsLeastDead}
use Rattle.ref_counts.specs.Queues.{Entries, counts_of, counted, held_at, is_dead, found_dead, unless_dead, needs_place, least_first, places, is_outside, Queues}
use Rattle.ref_counts.proofs.EntryFacts.{ChangesAt-write, lookup-set_same, lookup-set_other, set_value-absent, counts_at-counted, entry_at-counted, counted-set_value}

-- what stands at a handle was found there
pub lookup-held : (es : Entries) (h : ℕ) (s : Held) → held_at es h ≡ Some s → lookup (is_at (nat_cmp h)) es ≡ Some (Some s)
lookup-held es h s e = found (lookup (is_at (nat_cmp h)) es) e
  where
    found : (o : Option (Option Held)) → unwrap_or o None ≡ Some s → o ≡ Some (Some s)
    found None at = absurd (none-some s at)
    found (Some x) at = ap Some at

pub held-written : (es : Entries) (h : ℕ) (s : Held) (v : Option Held) → held_at es h ≡ Some s → held_at (set_value (is_at (nat_cmp h)) es v) h ≡ v
held-written es h s v at =
    ap (λ o. unwrap_or o None) (lookup-set_same es h v (subst IsSome (sym (lookup-held es h s at)) refl))

pub held-other : (es : Entries) (h o : ℕ) (v : Option Held) → o ≢ h → held_at (set_value (is_at (nat_cmp h)) es v) o ≡ held_at es o
held-other es h o v apart = ap (λ x. unwrap_or x None) (lookup-set_other es h o v apart)

-- what was not there is not written
pub set_value-none : (es : Entries) (h : ℕ) → held_at es h ≡ None → set_value (is_at (nat_cmp h)) es None ≡ es
set_value-none es h at = written (lookup (is_at (nat_cmp h)) es) refl at
  where
    written : (o : Option (Option Held)) → lookup (is_at (nat_cmp h)) es ≡ o → unwrap_or o None ≡ None → set_value (is_at (nat_cmp h)) es None ≡ es
    written None found e = set_value-absent es h None found
    written (Some x) found e = set_value_same (is_at (nat_cmp h)) es None (found ∙ ap Some e)

-- 1 for what may yet come into the queue
abbrev weight : Option Held → ℕ
weight o = cond (is_outside o) 1 0

abbrev outside : Entries → ℕ
outside es = count_by is_outside (values_of es)

-- how a write changes the number of those
outside-written : (es : Entries) (h : ℕ) (s : Held) (v : Option Held) → held_at es h ≡ Some s → outside (set_value (is_at (nat_cmp h)) es v) + weight (Some s) ≡ outside es + weight v
outside-written es h s v at =
    sum_by-set_value (λ (x : Option Held). cond (is_outside x) 1 0) (is_at (nat_cmp h)) es (Some s) v (lookup-held es h s at)

weight-le : (v : Option Held) → weight v ≤ 1
weight-le None = omega arith
weight-le (Some s) = by_flag s.queued
  where
    by_flag : (b : Bool) → cond (cond b false true) 1 0 ≤ 1
    by_flag true = omega arith
    by_flag false = omega arith

-- a handle that is not in the queue has room there
pub room-for : (es : Entries) (queue : List (Reverse ℕ)) (room h : ℕ) (s : Held) → Queues es queue room → held_at es h ≡ Some s → s.queued ≡ false → length queue < room
room-for es queue room h s q at waits =
    let change : outside (set_value (is_at (nat_cmp h)) es None) + weight (Some s) ≡ outside es + weight None = outside-written es h s None at in
    let one : weight (Some s) ≡ 1 = ap (λ (b : Bool). cond (cond b false true) 1 0) waits in
    let fits : length queue + outside es ≤ room = q.fits in
    let none : weight None ≡ 0 = refl in
    omega arith

-- the places of a handle in a queue
places-permuted : (h : ℕ) (xs ys : List (Reverse ℕ)) → IsPermutation xs ys → places h ys ≡ places h xs
places-permuted h xs ys moved = sum_by-IsPermutation (λ (r : Reverse ℕ). cond (nat_eq h r.0) 1 0) xs ys moved

places-cons : (h : ℕ) (x : Reverse ℕ) (xs : List (Reverse ℕ)) → places h (x ∷ xs) ≡ cond (nat_eq h x.0) 1 0 + places h xs
places-cons h x xs = sum_by-cons (λ (r : Reverse ℕ). cond (nat_eq h r.0) 1 0) x xs

places-here : (h : ℕ) (x : Reverse ℕ) (xs : List (Reverse ℕ)) → h ≡ x.0 → 0 < places h (x ∷ xs)
places-here h x xs same = elim (eqb_tells h x.0) [
  | inl hit ↦
      let counted : places h (x ∷ xs) ≡ 1 + places h xs = places-cons h x xs ∙ ap (λ (b : Bool). cond b 1 0 + places h xs) hit.0 in
      omega arith
  | inr miss ↦ absurd (miss.1 same)
]

places-later : (h : ℕ) (x : Reverse ℕ) (xs : List (Reverse ℕ)) → h ≢ x.0 → places h (x ∷ xs) ≡ places h xs
places-later h x xs apart = elim (eqb_tells h x.0) [
  | inl hit ↦ absurd (apart hit.1)
  | inr miss ↦
      let counted : places h (x ∷ xs) ≡ 0 + places h xs = places-cons h x xs ∙ ap (λ (b : Bool). cond b 1 0 + places h xs) miss.0 in
      omega arith
]

-- a change at one handle keeps the queue, where what stands there then is in the queue if it must be,
-- and the others keep their places
pub Queues-change : (es new : Entries) (queue later : List (Reverse ℕ)) (room larger h : ℕ) (v : Option Held) → Queues es queue room →
    held_at new h ≡ v → ((o : ℕ) → o ≢ h → held_at new o ≡ held_at es o) →
    ((u : Held) → v ≡ Some u → is_dead u ≡ true → u.queued ≡ true) →
    ((u : Held) → v ≡ Some u → u.queued ≡ true → 0 < places h later) →
    ((o : ℕ) → o ≢ h → 0 < places o queue → 0 < places o later) →
    IsHeap least_first later → length later + count_by is_outside (values_of new) ≤ larger → Queues new later larger
Queues-change es new queue later room larger h v q here others dead stands keeps order fits = record {
  order = order;
  dead_queued = λ o u at is. elim (cases_eq o h) [
    | inl same ↦ dead u (sym here ∙ subst (λ x. held_at new x ≡ Some u) same at) is
    | inr apart ↦ q.dead_queued o u (sym (others o apart) ∙ at) is
  ];
  queued = λ o u at is. elim (cases_eq o h) [
    | inl same ↦ subst (λ x. 0 < places x later) (sym same) (stands u (sym here ∙ subst (λ x. held_at new x ≡ Some u) same at) is)
    | inr apart ↦ keeps o apart (q.queued o u (sym (others o apart) ∙ at) is)
  ];
  fits = fits;
}

-- other counts of a handle, where they need no place or it has one
pub Queues-write : (es : Entries) (queue : List (Reverse ℕ)) (room h : ℕ) (s t : Held) → Queues es queue room → held_at es h ≡ Some s → t.queued ≡ s.queued → (is_dead t ≡ true → t.queued ≡ true) → Queues (set_value (is_at (nat_cmp h)) es (Some t)) queue room
Queues-write es queue room h s t q at same dead =
    let change : outside (set_value (is_at (nat_cmp h)) es (Some t)) + weight (Some s) ≡ outside es + weight (Some t) = outside-written es h s (Some t) at in
    let equal : weight (Some t) ≡ weight (Some s) = ap (λ (b : Bool). cond (cond b false true) 1 0) same in
    let fits : length queue + outside es ≤ room = q.fits in
    Queues-change es (set_value (is_at (nat_cmp h)) es (Some t)) queue queue room room h (Some t) q
    (held-written es h s (Some t) at) (λ o apart. held-other es h o (Some t) apart)
    (λ u is d. let e : t ≡ u = cc in subst (λ (x : Held). x.queued ≡ true) e (dead (subst (λ (x : Held). is_dead x ≡ true) (sym e) d)))
    (λ u is d. let e : t ≡ u = cc in q.queued h s at (sym same ∙ subst (λ (x : Held). x.queued ≡ true) (sym e) d))
    (λ o apart p. p) q.order (omega arith)

-- other counts of a handle that comes into the queue
pub Queues-enqueue : (es : Entries) (queue later : List (Reverse ℕ)) (room larger h : ℕ) (x : Reverse ℕ) (s t : Held) → Queues es queue room → held_at es h ≡ Some s → s.queued ≡ false → t.queued ≡ true → x.0 ≡ h →
    IsPermutation (x ∷ queue) later → (IsHeap least_first queue → IsHeap least_first later) → length later ≡ length queue + 1 → room ≤ larger → Queues (set_value (is_at (nat_cmp h)) es (Some t)) later larger
Queues-enqueue es queue later room larger h x s t q at waits stands is moved order longer more =
    let change : outside (set_value (is_at (nat_cmp h)) es (Some t)) + weight (Some s) ≡ outside es + weight (Some t) = outside-written es h s (Some t) at in
    let one : weight (Some s) ≡ 1 = ap (λ (b : Bool). cond (cond b false true) 1 0) waits in
    let none : weight (Some t) ≡ 0 = ap (λ (b : Bool). cond (cond b false true) 1 0) stands in
    let fits : length queue + outside es ≤ room = q.fits in
    Queues-change es (set_value (is_at (nat_cmp h)) es (Some t)) queue later room larger h (Some t) q
    (held-written es h s (Some t) at) (λ o apart. held-other es h o (Some t) apart)
    (λ u found d. let e : t ≡ u = cc in subst (λ (y : Held). y.queued ≡ true) e stands)
    (λ u found d. subst (λ n. 0 < n) (sym (places-permuted h (x ∷ queue) later moved)) (places-here h x queue (sym is)))
    (λ o apart p. subst (λ n. 0 < n) (sym (places-permuted o (x ∷ queue) later moved ∙ places-later o x queue (λ (e : o ≡ x.0). apart (e ∙ is)))) p)
    (order q.order) (omega arith)

-- a new handle, which is not in the queue
pub Queues-born : (es new : Entries) (queue : List (Reverse ℕ)) (room larger h : ℕ) (s : Held) → Queues es queue room → s.queued ≡ false → is_dead s ≡ false →
    held_at new h ≡ Some s → ((o : ℕ) → o ≢ h → held_at new o ≡ held_at es o) → length new ≤ length es + 1 → length queue + (length es + 1) ≤ larger → Queues new queue larger
Queues-born es new queue room larger h s q waits alive here others one fits =
    let few : length queue + count_by is_outside (values_of new) ≤ larger = omega (arith, count_by-le-length is_outside (values_of new), length-map new (λ (e : ℕ × Option Held). e.1)) in
    Queues-change es new queue queue room larger h (Some s) q here others
    (λ u is d. let e : s ≡ u = cc in absurd (true≢false (sym d ∙ subst (λ (x : Held). is_dead x ≡ false) e alive)))
    (λ u is d. let e : s ≡ u = cc in absurd (true≢false (sym d ∙ subst (λ (x : Held). x.queued ≡ false) e waits)))
    (λ o apart p. p) q.order few

-- what left the queue: where it has no counts it is given to its end, else it is outside from then on
pub Queues-bury : (es : Entries) (queue rest : List (Reverse ℕ)) (room : ℕ) (x : Reverse ℕ) → Queues es queue room → IsPermutation queue (x ∷ rest) → IsHeap least_first rest → length rest + 1 ≡ length queue →
    Queues (set_value (is_at (nat_cmp x.0)) es (unless_dead (held_at es x.0))) rest room
Queues-bury es queue rest room x q moved order shorter = settled (held_at es x.0) refl
  where
    stays : (o : ℕ) → o ≢ x.0 → 0 < places o queue → 0 < places o rest
    stays o apart p = subst (λ n. 0 < n) (sym (places-permuted o queue (x ∷ rest) moved) ∙ places-later o x rest apart) p

    settled : (v : Option Held) → held_at es x.0 ≡ v → Queues (set_value (is_at (nat_cmp x.0)) es (unless_dead v)) rest room
    settled None at =
        subst (λ (n : Entries). Queues n rest room) (sym (set_value-none es x.0 at))
        (Queues-change es es queue rest room room x.0 None q at (λ o apart. refl)
        (λ u is d. absurd (none-some u is)) (λ u is d. absurd (none-some u is)) stays order
        (let fits : length queue + outside es ≤ room = q.fits in omega arith))
    settled (Some s) at =
        let v : Option Held = unless_dead (Some s) in
        let change : outside (set_value (is_at (nat_cmp x.0)) es (unless_dead (Some s))) + weight (Some s) ≡ outside es + weight (unless_dead (Some s)) = outside-written es x.0 s (unless_dead (Some s)) at in
        let most : weight (unless_dead (Some s)) ≤ 1 = weight-le (unless_dead (Some s)) in
        let fits : length queue + outside es ≤ room = q.fits in
        Queues-change es (set_value (is_at (nat_cmp x.0)) es (unless_dead (Some s))) queue rest room room x.0 (unless_dead (Some s)) q
        (held-written es x.0 s (unless_dead (Some s)) at) (λ o apart. held-other es x.0 o (unless_dead (Some s)) apart)
        (alive (is_dead s) refl) (λ u is d. absurd (true≢false (sym d ∙ unqueued (is_dead s) u is))) stays order (omega arith)
      where
        alive : (b : Bool) → is_dead s ≡ b → (u : Held) → cond b None (Some (record s { queued = false })) ≡ Some u → is_dead u ≡ true → u.queued ≡ true
        alive true e u is d = absurd (none-some u is)
        alive false e u is d = let same : record s { queued = false } ≡ u = cc in absurd (true≢false (sym d ∙ subst (λ (y : Held). is_dead y ≡ false) same e))

        unqueued : (b : Bool) (u : Held) → cond b None (Some (record s { queued = false })) ≡ Some u → u.queued ≡ false
        unqueued true u is = absurd (none-some u is)
        unqueued false u is = let same : record s { queued = false } ≡ u = cc in ap (λ (y : Held). y.queued) (sym same)

-- the first of the queue is the least of all that stand in it
above-first : (x : Reverse ℕ) (rest : List (Reverse ℕ)) (o : ℕ) → IsUpperBound least_first x rest → 0 < places o rest → x.0 ≤ o
above-first x [] o bound there = absurd (omega (arith, there))
above-first x (r ∷ rest) o bound there = elim (eqb_tells o r.0) [
  | inl hit ↦ subst (λ n. x.0 ≤ n) (sym hit.1) (ge_from_not_lt r.0 x.0 bound.0)
  | inr miss ↦ above-first x rest o bound.1 (subst (λ n. 0 < n) (places-later o r rest miss.1) there)
]

pub first-least : (es : Entries) (queue rest : List (Reverse ℕ)) (room : ℕ) (x : Reverse ℕ) (o : ℕ) (s : Held) → Queues es queue room → IsPermutation queue (x ∷ rest) → IsUpperBound least_first x rest → held_at es o ≡ Some s → is_dead s ≡ true → x.0 ≤ o
first-least es queue rest room x o s q moved bound at dead = elim (cases_eq o x.0) [
  | inl same ↦ omega (arith, same)
  | inr apart ↦
      above-first x rest o bound (subst (λ n. 0 < n) (sym (places-permuted o queue (x ∷ rest) moved) ∙ places-later o x rest apart) (q.queued o s at (q.dead_queued o s at dead)))
]

-- where the queue is empty, none is dead
pub none-dead : (es : Entries) (queue : List (Reverse ℕ)) (room o : ℕ) (s : Held) → Queues es queue room → length queue ≡ 0 → held_at es o ≡ Some s → is_dead s ≡ true → ⊥
none-dead es [] room o s q empty at dead = let there : 0 < places o [] = q.queued o s at (q.dead_queued o s at dead) in omega (arith, there)
none-dead es (x ∷ queue) room o s q empty at dead = omega (arith, empty)

-- without counts are those whose two counts are 0
pub dead-counts : (v : Option Held) → found_dead v ≡ true → counts_of v ≡ Some (0, 0)
dead-counts None dead = absurd (true≢false (sym dead))
dead-counts (Some s) dead = let zeros : (s.public ≡ 0) × (s.named ≡ 0) = both_zero s.public s.named dead in ap (λ n. Some (n, s.named)) zeros.0 ∙ ap (λ n. Some (0, n)) zeros.1
  where
    both_zero : (m n : ℕ) → (nat_eq m 0 && nat_eq n 0) ≡ true → (m ≡ 0) × (n ≡ 0)
    both_zero m n e = (grind arith, grind arith)

pub counts-dead : (v : Option Held) {P : Type 0} → counts_of v ≡ Some (0, 0) → ((s : Held) → v ≡ Some s → is_dead s ≡ true → P) → P
counts-dead None zeros known = absurd (none-some (0, 0) zeros)
counts-dead (Some s) zeros known =
    let pair : (s.public, s.named) ≡ (0, 0) = cc in
    let public : s.public ≡ 0 = ap (λ (c : ℕ × ℕ). c.0) pair in
    let named : s.named ≡ 0 = ap (λ (c : ℕ × ℕ). c.1) pair in
    known s refl (ap (λ n. nat_eq n 0 && nat_eq s.named 0) public ∙ ap (λ n. nat_eq n 0) named)

-- the first of the queue is the least of the dead, where it is dead
pub first-is-least : (es : Entries) (queue rest : List (Reverse ℕ)) (room : ℕ) (x : Reverse ℕ) → Queues es queue room → IsPermutation queue (x ∷ rest) → IsUpperBound least_first x rest → found_dead (held_at es x.0) ≡ true → IsLeastDead (counted es) x.0
first-is-least es queue rest room x q moved bound dead = record {
  dead = counts_at-counted es x.0 ∙ dead-counts (held_at es x.0) dead;
  least = λ o below zeros. counts-dead (held_at es o) (sym (counts_at-counted es o) ∙ zeros) (λ s at is.
      let most : x.0 ≤ o = first-least es queue rest room x o s q moved bound at is in omega arith);
}

-- where the queue is empty, no handle has two counts of 0
pub no-zeros : (es : Entries) (queue : List (Reverse ℕ)) (room o : ℕ) → Queues es queue room → length queue ≡ 0 → counts_at (counted es) o ≢ Some (0, 0)
no-zeros es queue room o q empty zeros =
    counts-dead (held_at es o) (sym (counts_at-counted es o) ∙ zeros) (λ s at is. none-dead es queue room o s q empty at is)

-- nothing stands where a dead handle was buried
gone : (v : Option Held) → found_dead v ≡ true → counts_of (unless_dead v) ≡ None
gone None dead = absurd (true≢false (sym dead))
gone (Some s) dead = ap (λ (b : Bool). counts_of (cond b None (Some (record s { queued = false })))) dead

-- the map has nothing at its handle then
pub counted-dead : (es : Entries) (h : ℕ) → found_dead (held_at es h) ≡ true → counted (set_value (is_at (nat_cmp h)) es (unless_dead (held_at es h))) ≡ set_value (is_at (nat_cmp h)) (counted es) None
counted-dead es h dead = counted-set_value es h (unless_dead (held_at es h)) ∙ ap (set_value (is_at (nat_cmp h)) (counted es)) (gone (held_at es h) dead)

-- what only left the queue has the counts that it had
pub counted-alive : (es : Entries) (h : ℕ) → found_dead (held_at es h) ≡ false → counted (set_value (is_at (nat_cmp h)) es (unless_dead (held_at es h))) ≡ counted es
counted-alive es h alive = kept (held_at es h) refl alive
  where
    kept : (v : Option Held) → held_at es h ≡ v → found_dead v ≡ false → counted (set_value (is_at (nat_cmp h)) es (unless_dead v)) ≡ counted es
    kept None at a = ap counted (set_value-none es h at)
    kept (Some s) at a =
        counted-set_value es h (unless_dead (Some s))
        ∙ ap (λ (b : Bool). set_value (is_at (nat_cmp h)) (counted es) (counts_of (cond b None (Some (record s { queued = false }))))) a
        ∙ set_value_same (is_at (nat_cmp h)) (counted es) (Some (s.public, s.named)) (entry_at-counted es h ∙ ap (option_map counts_of) (lookup-held es h s at))

-- counts that need a place are those of a dead handle outside of the queue
pub needs-place : (t : Held) → needs_place t ≡ true → t.queued ≡ false
needs-place t needs = by_flag t.queued (is_dead t) needs
  where
    by_flag : (b d : Bool) → cond b false d ≡ true → b ≡ false
    by_flag true d e = absurd (true≢false (sym e))
    by_flag false d e = refl

pub needs-none : (t : Held) → needs_place t ≡ false → is_dead t ≡ true → t.queued ≡ true
needs-none t needs dead = by_flag t.queued (is_dead t) needs dead
  where
    by_flag : (b d : Bool) → cond b false d ≡ false → d ≡ true → b ≡ true
    by_flag true d e is = refl
    by_flag false d e is = absurd (true≢false (sym is ∙ e))

-- what has counts stands there
pub held-counted : (es : Entries) (h : ℕ) {P : Type 0} → IsSome (counts_at (counted es) h) → ((s : Held) → held_at es h ≡ Some s → P) → P
held-counted es h {P} some known = found (held_at es h) refl
  where
    found : (v : Option Held) → held_at es h ≡ v → P
    found None at = absurd (true≢false (sym (subst IsSome (counts_at-counted es h ∙ ap counts_of at) some)))
    found (Some s) at = known s at

-- and was born
pub lookup-some : (es : Entries) (h : ℕ) (s : Held) → held_at es h ≡ Some s → IsSome (lookup (is_at (nat_cmp h)) es)
lookup-some es h s at = subst IsSome (sym (lookup-held es h s at)) refl

-- what the map does not have was not born
pub lookup-unborn : (es : Entries) (h : ℕ) → entry_at (counted es) h ≡ None → lookup (is_at (nat_cmp h)) es ≡ None
lookup-unborn es h absent = unborn (lookup (is_at (nat_cmp h)) es) (sym (entry_at-counted es h) ∙ absent)
  where
    unborn : (o : Option (Option Held)) → option_map counts_of o ≡ None → o ≡ None
    unborn None e = refl
    unborn (Some v) e = absurd (none-some (counts_of v) (sym e))

-- and nothing else was changed by that
pub ChangesAt-bury : (es : Entries) (h : ℕ) → found_dead (held_at es h) ≡ true → ChangesAt (counted es) (counted (set_value (is_at (nat_cmp h)) es (unless_dead (held_at es h)))) h None
ChangesAt-bury es h dead =
    subst (λ v. ChangesAt (counted es) (counted (set_value (is_at (nat_cmp h)) es (unless_dead (held_at es h)))) h v) (gone (held_at es h) dead)
    (ChangesAt-write es h (unless_dead (held_at es h)) (counts-dead (held_at es h) (dead-counts (held_at es h) dead) (λ s at is. lookup-some es h s at)))
