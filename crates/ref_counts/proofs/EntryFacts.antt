-- How a read and a write of one entry show in the map.
use Rattle.std.proofs.Common.{◌≡◌, ◌≢◌, ℕ, true≢false, List, [], ◌∷◌, Some, None, IsSome, cond, refl, sym, ap, subst, ◌∙◌, inl, inr, option_map, is_some}
use Rattle.std.proofs.lemmas.Bool.{cases_eq}
use Rattle.std.proofs.lemmas.Map.Made.{lookup-map_values}
use Rattle.std.proofs.lemmas.Option.{none-some}
use Rattle.std.specs.BTreeMap.{is_at, insert_entry}
use Rattle.std.specs.Map.{lookup, set_value}
use Rattle.std.specs.Option.{unwrap_or}
use Rattle.std.specs.Ordering.{nat_cmp, match_ordering}
use Rattle.std.specs.declared.cmp.Ordering.{Ordering}
use Rattle.std.specs.declared.cmp.Ordering.TheVariants.{Less, Equal, Greater}
use Rattle.std.specs.declared.option.Option.{Option}
use Rattle.handle_table.proofs.SlotLemmas.{is_at-same, is_at-other}
use Rattle.ref_counts.specs.declared.held.Held.{Held}
use Rattle.ref_counts.specs.CountMaps.{entry_at, counts_at, ChangesAt}
use Rattle.ref_counts.specs.Queues.{Entries, counts_of, counted, held_at}

module _ {X : Type 0} where
  -- a look-up where one entry has the key, or has not
  lookup-head : (e : ℕ × X) (es : List (ℕ × X)) (h : ℕ) → e.0 ≡ h → lookup (is_at (nat_cmp h)) (e ∷ es) ≡ Some e.1
  lookup-head e es h same = rw (is_at-same h e.0 (sym same)) refl

  lookup-tail : (e : ℕ × X) (es : List (ℕ × X)) (h : ℕ) → h ≢ e.0 → lookup (is_at (nat_cmp h)) (e ∷ es) ≡ lookup (is_at (nat_cmp h)) es
  lookup-tail e es h differs = rw (is_at-other h e.0 differs) refl

  set-head : (e : ℕ × X) (es : List (ℕ × X)) (h : ℕ) (v : X) → e.0 ≡ h → set_value (is_at (nat_cmp h)) (e ∷ es) v ≡ (e.0, v) ∷ es
  set-head e es h v same = rw (is_at-same h e.0 (sym same)) refl

  set-tail : (e : ℕ × X) (es : List (ℕ × X)) (h : ℕ) (v : X) → h ≢ e.0 → set_value (is_at (nat_cmp h)) (e ∷ es) v ≡ e ∷ set_value (is_at (nat_cmp h)) es v
  set-tail e es h v differs = rw (is_at-other h e.0 differs) refl

  -- what was written is found
  pub lookup-set_same : (es : List (ℕ × X)) (h : ℕ) (v : X) → IsSome (lookup (is_at (nat_cmp h)) es) → lookup (is_at (nat_cmp h)) (set_value (is_at (nat_cmp h)) es v) ≡ Some v
  lookup-set_same [] h v present = absurd (true≢false (sym present))
  lookup-set_same (e ∷ es) h v present = elim (cases_eq h e.0) [
    | inl same ↦ ap (lookup (is_at (nat_cmp h))) (set-head e es h v (sym same)) ∙ lookup-head (e.0, v) es h (sym same)
    | inr differs ↦
        ap (lookup (is_at (nat_cmp h))) (set-tail e es h v differs)
        ∙ lookup-tail e (set_value (is_at (nat_cmp h)) es v) h differs
        ∙ lookup-set_same es h v (subst IsSome (lookup-tail e es h differs) present)
  ]

  -- and at no other handle
  pub lookup-set_other : (es : List (ℕ × X)) (h q : ℕ) (v : X) → q ≢ h → lookup (is_at (nat_cmp q)) (set_value (is_at (nat_cmp h)) es v) ≡ lookup (is_at (nat_cmp q)) es
  lookup-set_other [] h q v apart = refl
  lookup-set_other (e ∷ es) h q v apart = elim (cases_eq h e.0) [
    | inl same ↦
        ap (lookup (is_at (nat_cmp q))) (set-head e es h v (sym same))
        ∙ lookup-tail (e.0, v) es q (λ (f : q ≡ e.0). apart (f ∙ sym same))
        ∙ sym (lookup-tail e es q (λ (f : q ≡ e.0). apart (f ∙ sym same)))
    | inr differs ↦
        ap (lookup (is_at (nat_cmp q))) (set-tail e es h v differs)
        ∙ ap (λ o. cond (is_at (nat_cmp q) e.0) (Some e.1) o) (lookup-set_other es h q v apart)
  ]

  -- where nothing is found, nothing is written
  pub set_value-absent : (es : List (ℕ × X)) (h : ℕ) (v : X) → lookup (is_at (nat_cmp h)) es ≡ None → set_value (is_at (nat_cmp h)) es v ≡ es
  set_value-absent [] h v absent = refl
  set_value-absent (e ∷ es) h v absent = elim (cases_eq h e.0) [
    | inl same ↦ absurd (none-some e.1 (sym absent ∙ lookup-head e es h (sym same)))
    | inr differs ↦
        set-tail e es h v differs ∙ ap (λ r. e ∷ r) (set_value-absent es h v (sym (lookup-tail e es h differs) ∙ absent))
  ]

-- what stands at a handle counts as the map says
pub counts_at-counted : (es : Entries) (h : ℕ) → counts_at (counted es) h ≡ counts_of (held_at es h)
counts_at-counted es h =
    ap (λ o. unwrap_or o None) (lookup-map_values counts_of (is_at (nat_cmp h)) es) ∙ joined (lookup (is_at (nat_cmp h)) es)
  where
    joined : (o : Option (Option Held)) → unwrap_or (option_map counts_of o) None ≡ counts_of (unwrap_or o None)
    joined None = refl
    joined (Some x) = refl

pub entry_at-counted : (es : Entries) (h : ℕ) → entry_at (counted es) h ≡ option_map counts_of (lookup (is_at (nat_cmp h)) es)
entry_at-counted es h = lookup-map_values counts_of (is_at (nat_cmp h)) es

pub is_some-counted : (es : Entries) (h : ℕ) → is_some (entry_at (counted es) h) ≡ is_some (lookup (is_at (nat_cmp h)) es)
is_some-counted es h = ap is_some (entry_at-counted es h) ∙ mapped (lookup (is_at (nat_cmp h)) es)
  where
    mapped : (o : Option (Option Held)) → is_some (option_map counts_of o) ≡ is_some o
    mapped None = refl
    mapped (Some v) = refl

-- a write of an entry is one of its counts
pub counted-set_value : (es : Entries) (h : ℕ) (v : Option Held) → counted (set_value (is_at (nat_cmp h)) es v) ≡ set_value (is_at (nat_cmp h)) (counted es) (counts_of v)
counted-set_value [] h v = refl
counted-set_value (e ∷ es) h v = elim (cases_eq h e.0) [
  | inl same ↦ ap counted (set-head e es h v (sym same)) ∙ sym (set-head (e.0, counts_of e.1) (counted es) h (counts_of v) (sym same))
  | inr differs ↦
      ap counted (set-tail e es h v differs)
      ∙ ap (λ r. (e.0, counts_of e.1) ∷ r) (counted-set_value es h v)
      ∙ sym (set-tail (e.0, counts_of e.1) (counted es) h (counts_of v) differs)
]

-- a new entry is one of its counts
pub counted-insert_entry : (es : Entries) (h : ℕ) (v : Option Held) → counted (insert_entry nat_cmp es h v) ≡ insert_entry nat_cmp (counted es) h (counts_of v)
counted-insert_entry [] h v = refl
counted-insert_entry (e ∷ es) h v = place (nat_cmp h e.0) (counted-insert_entry es h v)
  where
    place : (o : Ordering) → counted (insert_entry nat_cmp es h v) ≡ insert_entry nat_cmp (counted es) h (counts_of v) →
        counted (match_ordering o ((h, v) ∷ e ∷ es) ((e.0, v) ∷ es) (e ∷ insert_entry nat_cmp es h v))
        ≡ match_ordering o ((h, counts_of v) ∷ (e.0, counts_of e.1) ∷ counted es) ((e.0, counts_of v) ∷ counted es) ((e.0, counts_of e.1) ∷ insert_entry nat_cmp (counted es) h (counts_of v))
    place Less later = refl
    place Equal later = refl
    place Greater later = ap (λ r. (e.0, counts_of e.1) ∷ r) later

-- one write changes the counts of its handle and of no other
pub ChangesAt-write : (es : Entries) (h : ℕ) (v : Option Held) → IsSome (lookup (is_at (nat_cmp h)) es) → ChangesAt (counted es) (counted (set_value (is_at (nat_cmp h)) es v)) h (counts_of v)
ChangesAt-write es h v present = record {
  changed =
      counts_at-counted (set_value (is_at (nat_cmp h)) es v) h
      ∙ ap (λ o. counts_of (unwrap_or o None)) (lookup-set_same es h v present);
  others = λ other apart.
      entry_at-counted (set_value (is_at (nat_cmp h)) es v) other
      ∙ ap (option_map counts_of) (lookup-set_other es h other v apart)
      ∙ sym (entry_at-counted es other);
}

-- so does one new entry
pub ChangesAt-insert : (es new : Entries) (h : ℕ) (v : Option Held) → ((q : ℕ) → lookup (is_at (nat_cmp q)) new ≡ cond (is_at (nat_cmp h) q) (Some v) (lookup (is_at (nat_cmp q)) es)) → ChangesAt (counted es) (counted new) h (counts_of v)
ChangesAt-insert es new h v updates = record {
  changed =
      counts_at-counted new h
      ∙ ap (λ o. counts_of (unwrap_or o None)) (updates h ∙ ap (λ b. cond b (Some v) (lookup (is_at (nat_cmp h)) es)) (is_at-same h h refl));
  others = λ other apart.
      entry_at-counted new other
      ∙ ap (option_map counts_of) (updates other ∙ ap (λ b. cond b (Some v) (lookup (is_at (nat_cmp other)) es)) (is_at-other h other (λ (e : h ≡ other). apart (sym e))))
      ∙ sym (entry_at-counted es other);
}
