-- One object more.
use Rattle.std.proofs.Common.{ℕ, ◌+◌, ◌≡◌, ◌<◌, ◌≤◌, ◌^◌, ◌∙◌, ◌⊎◌, inl, inr, nat_lt, Bool, true, false, List, [], ◌∷◌, ◌++◌, Option, Some, None, refl, sym, ap, subst, arith}
use Rattle.std.specs.Prelude.{◌&&◌}
use Rattle.std.specs.Map.{keys_of}
use Rattle.std.specs.Option.{IfSome, IsSome, is_some, option_map, option_map_or, unwrap_or}
use Rattle.std.proofs.lemmas.Bool.{and_from, and_parts, and_right, cases_eq, lt-ltb, ltb-true}
use Rattle.kind_tables.specs.declared.kinds.Kind.{Kind}
use Rattle.handle_table.specs.HandleMaps.{HandleMap, RiseWithin}
use Rattle.ref_counts.specs.CountMaps.{ChangesAt, CountMap, counts_at, named_at, public_at}
use Rattle.array_objects.specs.Stores.{Arrays, array_at}
use Rattle.array_objects.specs.declared.arrays.Array.{Array}
use Rattle.seq_model.proofs.Keys.{RisesWithin, nothing_outside, rises_with_next}
use Rattle.seq_model.specs.Life.{loan_count, names_of}
use Rattle.dev_types.specs.Counting.{times}
use Rattle.seq_model.specs.State.{with_object}
use Rattle.seq_model.specs.Steps.{fresh}
use Rattle.object_store.specs.Kept.{AreCounted, AreParts, IsShort, Stops, stored}
use Rattle.object_store.specs.Moves.{Moves}
use Rattle.object_store.specs.Parts.{Part, at, fresh_part, holds_at, joined, keyed, object_of}
use Rattle.object_store.proofs.Counted.{counted_born, counted_more, none_behind}
use Rattle.object_store.proofs.Keyed.{at_keyed, keyed_append, keyed_same_below, rise, rises}
use Rattle.object_store.proofs.MoveFacts.{moves_none}
use Rattle.object_store.proofs.Totals.{at_last, at_more}

-- nothing stands from the next handle on
pub parts_beyond : (slots : HandleMap Part) (h : ℕ) → RiseWithin 1 slots.next slots.entries → slots.next ≤ h → at h slots.entries ≡ None
parts_beyond slots h rising beyond = nothing_outside h 1 slots.next slots.entries (rises 1 slots.next slots.entries rising) (λ low less. omega (arith, less, beyond))

pub objects_beyond : (slots : HandleMap Part) (arrays : Arrays) (h : ℕ) → RiseWithin 1 slots.next slots.entries → slots.next ≤ h → at h (joined arrays slots.entries) ≡ None
objects_beyond slots arrays h rising beyond =
    at_keyed (λ h part. object_of part (array_at arrays h)) h slots.entries ∙ ap (option_map (λ part. object_of part (array_at arrays h))) (parts_beyond slots h rising beyond)

keys_more : {X : Type 0} (es : List (ℕ × X)) (h : ℕ) (v : X) → keys_of (es ++ (h, v) ∷ []) ≡ keys_of es ++ h ∷ []
keys_more [] h v = refl
keys_more (e ∷ es) h v = ap (λ ks. e.0 ∷ ks) (keys_more es h v)

-- a table that is the same but for its room
pub parts_with_room : (slots new : HandleMap Part) (arrays : Arrays) (counts moved : CountMap) (bound : ℕ) → AreParts slots arrays counts bound → new.entries ≡ slots.entries → new.next ≡ slots.next →
    AreCounted (joined arrays slots.entries) (holds_at slots.entries) slots.next moved → ((k : ℕ) → named_at moved k ≤ bound + holds_at slots.entries k) → AreParts new arrays moved bound
parts_with_room slots new arrays counts moved bound parts entries next counted bounded = record {
  rising = subst (λ es. RiseWithin 1 new.next es) (sym entries) (subst (λ n. RiseWithin 1 n slots.entries) (sym next) parts.rising);
  none_beyond = λ h beyond. parts.none_beyond h (subst (λ n. n ≤ h) next beyond);
  counted = subst (λ es. AreCounted (joined arrays es) (holds_at es) new.next moved) (sym entries) (subst (λ n. AreCounted (joined arrays slots.entries) (holds_at slots.entries) n moved) (sym next) counted);
  short = parts.short;
  small = parts.small;
  few = subst (λ es. (k : ℕ) → holds_at es k ≤ 2 ^ 40) (sym entries) parts.few;
  bounded = subst (λ es. (k : ℕ) → named_at moved k ≤ bound + holds_at es k) (sym entries) bounded;
}

-- what contracts see of it
pub stored_with_room : (slots new : HandleMap Part) (arrays : Arrays) (counts moved : CountMap) (stopped : Stops) (ready : Bool) → RiseWithin 1 slots.next slots.entries →
    new.entries ≡ slots.entries → new.next ≡ slots.next → ((k : ℕ) → k < slots.next → public_at moved k ≡ public_at counts k) → (nat_lt 0 new.spare && is_some (counts_at moved new.next)) ≡ ready →
    stored new arrays moved stopped ≡ record (stored slots arrays counts stopped) { ready = ready }
stored_with_room slots new arrays counts moved stopped ready rising entries next public is =
    λ i. record {
      state = record { objects = joined arrays (entries i); stopped = stopped.tickets; next = next i };
      public = references i;
      holds = keyed (λ k (p : Part). p.holds) (entries i);
      ready = is i;
      places = stopped.room;
    }
  where
    references : keyed (λ k (p : Part). public_at moved k) new.entries ≡ keyed (λ k (p : Part). public_at counts k) slots.entries
    references = ap (keyed (λ k (p : Part). public_at moved k)) entries
        ∙ keyed_same_below (λ k (p : Part). public_at moved k) (λ k (p : Part). public_at counts k) 1 slots.next slots.entries (rises 1 slots.next slots.entries rising) (λ k p below. public k below)

-- a refused room: the next handle is born, or it is not
pub still_not_ready : (spare more : ℕ) (x : Option (ℕ × ℕ)) → x ≡ None → (nat_lt 0 more && is_some x) ≡ (nat_lt 0 spare && is_some x)
still_not_ready spare more x none = and_right (nat_lt 0 more) (is_some x) (ap is_some none) ∙ sym (and_right (nat_lt 0 spare) (is_some x) (ap is_some none))

pub ready_by : (spare : ℕ) (x : Option (ℕ × ℕ)) → 1 ≤ spare → IsSome x → (nat_lt 0 spare && is_some x) ≡ true
ready_by spare x room some = and_from (nat_lt 0 spare) (is_some x) (lt-ltb 0 spare (omega (arith, room))) some

pub ready_parts : (spare : ℕ) (x : Option (ℕ × ℕ)) → (nat_lt 0 spare && is_some x) ≡ true → (1 ≤ spare) × IsSome x
ready_parts spare x is =
    let both : (nat_lt 0 spare ≡ true) × (is_some x ≡ true) = and_parts (nat_lt 0 spare) (is_some x) is in
    let room : 0 < spare = ltb-true 0 spare both.0 in (omega (arith, room), both.1)

-- the next handle is born: the invariant, and what is seen of it
pub born_counted : (slots : HandleMap Part) (arrays : Arrays) (old new : CountMap) (bound : ℕ) → AreParts slots arrays old bound → ChangesAt old new slots.next (Some (1, 0)) →
    AreCounted (joined arrays slots.entries) (holds_at slots.entries) slots.next new × ((k : ℕ) → named_at new k ≤ bound + holds_at slots.entries k)
born_counted slots arrays old new bound parts changes =
    let counted : AreCounted (joined arrays slots.entries) (holds_at slots.entries) slots.next new = counted_born (joined arrays slots.entries) (holds_at slots.entries) slots.next old new parts.counted changes in
    (counted, λ k. let was : named_at old k ≤ bound + holds_at slots.entries k = parts.bounded k in let is : named_at new k ≡ named_at old k = counted.named k ∙ sym (parts.counted.named k) in omega (arith, was, is))

pub born_public : (old new : CountMap) (next : ℕ) → ChangesAt old new next (Some (1, 0)) → (k : ℕ) → k < next → public_at new k ≡ public_at old k
born_public old new next changes k below =
    ap (λ x. unwrap_or (option_map (λ (c : ℕ × ℕ). c.0) (unwrap_or x None)) 0) (changes.others k (λ e. omega (arith, e, below)))

-- one object more: the invariant, with what it names counted
pub parts_more : (slots new : HandleMap Part) (arrays held : Arrays) (counts moved : CountMap) (bound most : ℕ) (part : Part) →
    AreParts slots arrays counts bound → new.entries ≡ slots.entries ++ (slots.next, part) ∷ [] → new.next ≡ slots.next + 1 →
    ((k : ℕ) → (k ≡ slots.next → ⊥) → array_at held k ≡ array_at arrays k) → part.holds ≡ 0 → loan_count (object_of part (array_at held slots.next)) ≡ 0 →
    IsSome (counts_at counts slots.next) → Moves counts moved (names_of (object_of part (array_at held slots.next))) [] →
    times (slots.next + 1) (names_of (object_of part (array_at held slots.next))) ≡ 0 → ((k : ℕ) → named_at moved k ≤ most + holds_at slots.entries k) → most ≤ 2 ^ 62 → IfSome (array_at held slots.next) IsShort → AreParts new held moved most
parts_more slots new arrays held counts moved bound most part parts entries next others unheld unlent born moves unnamed bounded small short_here = record {
  rising = subst (λ n. RiseWithin 1 n new.entries) (sym next) (subst (λ es. RiseWithin 1 (slots.next + 1) es) (sym entries)
      (rise 1 (slots.next + 1) (slots.entries ++ (slots.next, part) ∷ [])
      (subst (λ ks. RisesWithin 1 (slots.next + 1) ks) (sym (keys_more slots.entries slots.next part)) (rises_with_next 1 slots.next (keys_of slots.entries) (rises 1 slots.next slots.entries parts.rising)))));
  none_beyond = λ h beyond. let more : slots.next + 1 ≤ h = omega (arith, beyond, next) in others h (λ e. omega (arith, e, more)) ∙ parts.none_beyond h (omega (arith, more));
  counted = subst (λ n. AreCounted (joined held new.entries) (holds_at new.entries) n moved) (sym next)
      (subst (λ es. AreCounted (joined held es) (holds_at es) (slots.next + 1) moved) (sym entries)
      (subst (λ objects. AreCounted objects (holds_at (slots.entries ++ (slots.next, part) ∷ [])) (slots.next + 1) moved) (sym objects)
      (counted_more (joined arrays slots.entries) (holds_at slots.entries) (holds_at (slots.entries ++ (slots.next, part) ∷ [])) slots.next counts moved (object_of part (array_at held slots.next))
      parts.counted (λ k beyond. objects_beyond slots arrays k parts.rising beyond) born moves unlent (λ k. same_holds k (cases_eq k slots.next)) unnamed)));
  short = λ k. short_more k (cases_eq k slots.next);
  small = small;
  few = λ k. omega (arith, parts.few k, holds_more k);
  bounded = λ k. omega (arith, bounded k, holds_more k);
}
  where
    short_more : (k : ℕ) → (k ≡ slots.next) ⊎ (k ≡ slots.next → ⊥) → IfSome (array_at held k) IsShort
    short_more k (inl same) = subst (λ k. IfSome (array_at held k) IsShort) (sym same) short_here
    short_more k (inr apart) = subst (λ x. IfSome x IsShort) (sym (others k apart)) (parts.short k)

    objects : joined held (slots.entries ++ (slots.next, part) ∷ []) ≡ joined arrays slots.entries ++ (slots.next, object_of part (array_at held slots.next)) ∷ []
    objects =
        keyed_append (λ h part. object_of part (array_at held h)) slots.entries ((slots.next, part) ∷ [])
        ∙ ap (λ es. es ++ (slots.next, object_of part (array_at held slots.next)) ∷ [])
        (keyed_same_below (λ h part. object_of part (array_at held h)) (λ h part. object_of part (array_at arrays h)) 1 slots.next slots.entries (rises 1 slots.next slots.entries parts.rising)
        (λ h p below. ap (object_of p) (others h (λ e. omega (arith, e, below)))))

    same_holds : (k : ℕ) → (k ≡ slots.next) ⊎ (k ≡ slots.next → ⊥) → holds_at (slots.entries ++ (slots.next, part) ∷ []) k ≡ holds_at slots.entries k
    same_holds k (inl same) =
        let none : at slots.next slots.entries ≡ None = parts_beyond slots slots.next parts.rising (omega arith) in
        let new_ : holds_at (slots.entries ++ (slots.next, part) ∷ []) slots.next ≡ part.holds = ap (λ x. option_map_or (λ (p : Part). p.holds) x 0) (at_last slots.next slots.entries part none) in
        let old_ : holds_at slots.entries slots.next ≡ 0 = ap (λ x. option_map_or (λ (p : Part). p.holds) x 0) none in
        ap (holds_at (slots.entries ++ (slots.next, part) ∷ [])) same ∙ new_ ∙ unheld ∙ sym old_ ∙ sym (ap (holds_at slots.entries) same)
    same_holds k (inr apart) = ap (λ x. option_map_or (λ (p : Part). p.holds) x 0) (at_more k slots.next slots.entries part apart)

    holds_more : (k : ℕ) → holds_at new.entries k ≡ holds_at slots.entries k
    holds_more k = ap (λ es. holds_at es k) entries ∙ same_holds k (cases_eq k slots.next)

-- what contracts see of it
pub stored_more : (slots new : HandleMap Part) (arrays held : Arrays) (counts moved : CountMap) (bound : ℕ) (stopped : Stops) (part : Part) →
    AreParts slots arrays counts bound → new.entries ≡ slots.entries ++ (slots.next, part) ∷ [] → new.next ≡ slots.next + 1 →
    ((k : ℕ) → (k ≡ slots.next → ⊥) → array_at held k ≡ array_at arrays k) → part.holds ≡ 0 → IsSome (counts_at counts slots.next) →
    ((k : ℕ) → public_at moved k ≡ public_at counts k) → ((k : ℕ) → is_some (counts_at moved k) ≡ is_some (counts_at counts k)) →
    stored new held moved stopped ≡ record {
      state = with_object (object_of part (array_at held slots.next)) (stored slots arrays counts stopped).state;
      public = (stored slots arrays counts stopped).public ++ (slots.next, 1) ∷ [];
      holds = (stored slots arrays counts stopped).holds ++ (slots.next, 0) ∷ [];
      ready = false;
      places = stopped.room;
    }
stored_more slots new arrays held counts moved bound stopped part parts entries next others unheld born public there =
    λ i. record { state = record { objects = objects i; stopped = stopped.tickets; next = next i }; public = references i; holds = holds i; ready = ready i; places = stopped.room }
  where
    up : RisesWithin 1 slots.next (keys_of slots.entries)
    up = rises 1 slots.next slots.entries parts.rising

    objects : joined held new.entries ≡ joined arrays slots.entries ++ (slots.next, object_of part (array_at held slots.next)) ∷ []
    objects =
        ap (joined held) entries
        ∙ keyed_append (λ h part. object_of part (array_at held h)) slots.entries ((slots.next, part) ∷ [])
        ∙ ap (λ es. es ++ (slots.next, object_of part (array_at held slots.next)) ∷ [])
        (keyed_same_below (λ h part. object_of part (array_at held h)) (λ h part. object_of part (array_at arrays h)) 1 slots.next slots.entries up (λ h p below. ap (object_of p) (others h (λ e. omega (arith, e, below)))))

    one : public_at moved slots.next ≡ 1
    one = public slots.next ∙ (parts.counted.only slots.next (objects_beyond slots arrays slots.next parts.rising (omega arith)) born).1

    references : keyed (λ k (p : Part). public_at moved k) new.entries ≡ keyed (λ k (p : Part). public_at counts k) slots.entries ++ (slots.next, 1) ∷ []
    references =
        ap (keyed (λ k (p : Part). public_at moved k)) entries
        ∙ keyed_append (λ k (p : Part). public_at moved k) slots.entries ((slots.next, part) ∷ [])
        ∙ ap (λ n. keyed (λ k (p : Part). public_at moved k) slots.entries ++ (slots.next, n) ∷ []) one
        ∙ ap (λ es. es ++ (slots.next, 1) ∷ []) (keyed_same_below (λ k (p : Part). public_at moved k) (λ k (p : Part). public_at counts k) 1 slots.next slots.entries up (λ k p below. public k))

    holds : keyed (λ k (p : Part). p.holds) new.entries ≡ keyed (λ k (p : Part). p.holds) slots.entries ++ (slots.next, 0) ∷ []
    holds =
        ap (keyed (λ k (p : Part). p.holds)) entries
        ∙ keyed_append (λ k (p : Part). p.holds) slots.entries ((slots.next, part) ∷ [])
        ∙ ap (λ n. keyed (λ k (p : Part). p.holds) slots.entries ++ (slots.next, n) ∷ []) unheld

    none : counts_at counts (slots.next + 1) ≡ None
    none = none_behind (joined arrays slots.entries) (holds_at slots.entries) slots.next counts (slots.next + 1) parts.counted (objects_beyond slots arrays (slots.next + 1) parts.rising (omega arith)) (λ e. omega (arith, e))

    ready : (nat_lt 0 new.spare && is_some (counts_at moved new.next)) ≡ false
    ready = and_right (nat_lt 0 new.spare) (is_some (counts_at moved new.next)) (ap (λ n. is_some (counts_at moved n)) next ∙ there (slots.next + 1) ∙ ap is_some none)

-- an object as it is made, without an array
pub fresh_names_nothing : (kind : Kind) (array : Option Array) → array ≡ None → names_of (object_of (fresh_part kind) array) ≡ []
fresh_names_nothing kind array none = ap (λ x. names_of (object_of (fresh_part kind) x)) none

pub fresh_is_not_lent : (kind : Kind) (array : Option Array) → array ≡ None → loan_count (object_of (fresh_part kind) array) ≡ 0
fresh_is_not_lent kind array none = ap (λ x. loan_count (object_of (fresh_part kind) x)) none

pub one_fresh : (slots new : HandleMap Part) (h : ℕ) (kind : Kind) (part : Part) → new.entries ≡ slots.entries ++ (h, part) ∷ [] → h ≡ slots.next → part ≡ fresh_part kind →
    new.entries ≡ slots.entries ++ (slots.next, fresh_part kind) ∷ []
one_fresh slots new h kind part entries handle is = entries ∙ ap (λ k. slots.entries ++ (k, part) ∷ []) handle ∙ ap (λ p. slots.entries ++ (slots.next, p) ∷ []) is

pub parts_fresh : (slots new : HandleMap Part) (arrays : Arrays) (counts : CountMap) (bound : ℕ) (kind : Kind) → AreParts slots arrays counts bound →
    new.entries ≡ slots.entries ++ (slots.next, fresh_part kind) ∷ [] → new.next ≡ slots.next + 1 → IsSome (counts_at counts slots.next) → AreParts new arrays counts bound
parts_fresh slots new arrays counts bound kind parts entries next born =
    let none : array_at arrays slots.next ≡ None = parts.none_beyond slots.next (omega arith) in
    let names : names_of (object_of (fresh_part kind) (array_at arrays slots.next)) ≡ [] = fresh_names_nothing kind (array_at arrays slots.next) none in
    parts_more slots new arrays arrays counts counts bound bound (fresh_part kind) parts entries next (λ k apart. refl) refl (fresh_is_not_lent kind (array_at arrays slots.next) none) born
    (subst (λ added. Moves counts counts added []) (sym names) (moves_none counts)) (ap (times (slots.next + 1)) names) parts.bounded parts.small (parts.short slots.next)

pub stored_fresh : (slots new : HandleMap Part) (arrays : Arrays) (counts : CountMap) (bound : ℕ) (stopped : Stops) (kind : Kind) → AreParts slots arrays counts bound →
    new.entries ≡ slots.entries ++ (slots.next, fresh_part kind) ∷ [] → new.next ≡ slots.next + 1 → IsSome (counts_at counts slots.next) →
    stored new arrays counts stopped ≡ record {
      state = with_object (fresh kind None) (stored slots arrays counts stopped).state;
      public = (stored slots arrays counts stopped).public ++ (slots.next, 1) ∷ [];
      holds = (stored slots arrays counts stopped).holds ++ (slots.next, 0) ∷ [];
      ready = false;
      places = stopped.room;
    }
stored_fresh slots new arrays counts bound stopped kind parts entries next born =
    let none : array_at arrays slots.next ≡ None = parts.none_beyond slots.next (omega arith) in
    stored_more slots new arrays arrays counts counts bound stopped (fresh_part kind) parts entries next (λ k apart. refl) refl born (λ k. refl) (λ k. refl)
    ∙ ap (λ x. record {
      state = with_object (object_of (fresh_part kind) x) (stored slots arrays counts stopped).state;
      public = (stored slots arrays counts stopped).public ++ (slots.next, 1) ∷ [];
      holds = (stored slots arrays counts stopped).holds ++ (slots.next, 0) ∷ [];
      ready = false;
      places = stopped.room;
    }) none
